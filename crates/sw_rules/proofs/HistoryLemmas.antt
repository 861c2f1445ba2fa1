-- Laws of histories: one more entry, and stamps that stand still.
use Rattle.std.proofs.Common.{◌≡◌, ◌∙◌, ℕ, zero, suc, slice_get, Some, List, [], ◌∷◌, ◌++◌, sym, ap, subst, arith, append_assoc}
use Rattle.std.proofs.lemmas.List.{append-nil}
use Rattle.std.proofs.lemmas.List.Sums.{fold-append}
use Rattle.sw_data.specs.declared.histories.Entry.{Entry}
use Rattle.sw_data.specs.declared.storage.Kept.{Kept}
use Rattle.sw_rules.specs.History.{StampedFrom, EachFrom, EachLater, IsStep, Legal, Opens, after, after_entries, moved}
use Rattle.sw_rules.specs.State.{State}
use Rattle.sw_rules.specs.Restart.{restart}

pub after_entries-snoc : (state : State) (entries : List Entry) (entry : Entry) → after_entries state (entries ++ entry ∷ []) ≡ moved (after_entries state entries) entry
after_entries-snoc state entries entry = fold-append moved state entries (entry ∷ [])

-- one more entry with P, after those that have it
pub EachFrom-snoc : (P : List Entry → State → Entry → Type 0) (before : List Entry) (state : State) (entries : List Entry) (entry : Entry) → EachFrom P before state entries → P (before ++ entries) (after_entries state entries) entry → EachFrom P before state (entries ++ entry ∷ [])
EachFrom-snoc P before state [] entry each here =
    (subst (λ (b : List Entry). P b state entry) (append-nil before) here, tt)
EachFrom-snoc P before state (first ∷ entries) entry each here =
    (each.0, EachFrom-snoc P (before ++ first ∷ []) (moved state first) entries entry each.1 (subst (λ (b : List Entry). P b (after_entries (moved state first) entries) entry) (sym (append_assoc before (first ∷ []) entries)) here))

-- the state after one more entry
pub after-snoc : (base : Kept) (history : List Entry) (entry : Entry) → Opens base history → after base (history ++ entry ∷ []) ≡ moved (after base history) entry
after-snoc base [] entry opens = absurd opens
after-snoc base (opening ∷ entries) entry opens = after_entries-snoc (restart base) entries entry

pub EachLater-snoc : (P : List Entry → State → Entry → Type 0) (base : Kept) (history : List Entry) (entry : Entry) → EachLater P base history → P history (after base history) entry → EachLater P base (history ++ entry ∷ [])
EachLater-snoc P base [] entry each here = absurd each
EachLater-snoc P base (opening ∷ entries) entry each here =
    EachFrom-snoc P (opening ∷ []) (restart base) entries entry each here

pub Opens-snoc : (base : Kept) (history : List Entry) (entry : Entry) → Opens base history → Opens base (history ++ entry ∷ [])
Opens-snoc base [] entry opens = absurd opens
Opens-snoc base (opening ∷ entries) entry opens = opens

-- a legal history goes on by a step
pub Legal-snoc : (base : Kept) (history : List Entry) (entry : Entry) → Legal base history → IsStep history (after base history) entry → Legal base (history ++ entry ∷ [])
Legal-snoc base history entry legal step = record {
  made = legal.made;
  opens = Opens-snoc base history entry legal.opens;
  steps = EachLater-snoc IsStep base history entry legal.steps step;
}

-- each entry has this stamp
abbrev pub AllStampedAt : ℕ → List Entry → Type 0
AllStampedAt clock [] = Unit {0}
AllStampedAt clock (entry ∷ entries) = (entry.stamp ≡ clock) × AllStampedAt clock entries

pub AllStampedAt-snoc : (clock : ℕ) (entries : List Entry) (entry : Entry) → AllStampedAt clock entries → entry.stamp ≡ clock → AllStampedAt clock (entries ++ entry ∷ [])
AllStampedAt-snoc clock [] entry all is = (is, tt)
AllStampedAt-snoc clock (first ∷ entries) entry all is = (all.0, AllStampedAt-snoc clock entries entry all.1 is)

stamped_from : (clock low : ℕ) (entries : List Entry) → low ≡ clock → AllStampedAt clock entries → StampedFrom low clock entries
stamped_from clock low [] is all = omega (arith, is)
stamped_from clock low (entry ∷ entries) is all = (omega (arith, is, all.0), stamped_from clock entry.stamp entries all.0 all.1)

stamp_at : (clock : ℕ) (entries : List Entry) (k : ℕ) (entry : Entry) → AllStampedAt clock entries → slice_get entries k ≡ Some entry → entry.stamp ≡ clock
stamp_at clock [] k entry all got = absurd cc
stamp_at clock (first ∷ entries) zero entry all got = let e : first ≡ entry = cc in ap (λ (x : Entry). x.stamp) (sym e) ∙ all.0
stamp_at clock (first ∷ entries) (suc k) entry all got = stamp_at clock entries k entry all.1 got
