-- When the entries of a history were acknowledged, once a group is written behind it.
use Rattle.std.proofs.Common.{◌≡◌, ◌≢◌, ◌∙◌, ◌⊎◌, inl, inr, ⊎_elim, ℕ, zero, suc, ◌+◌, ◌*◌, ◌≤◌, min, List, [], ◌∷◌, ◌++◌, length, take, Some, slice_get, refl, sym, ap, arith, length-append}
use Rattle.std.proofs.lemmas.List.{length-map, nil_from_length, take_all}
use Rattle.sw_codec.specs.Spelling.{spelled_all}
use Rattle.sw_data.specs.declared.histories.Entry.{Entry}
use Rattle.sw_data.specs.declared.storage.Change.{Change}
use Rattle.sw_data.specs.declared.storage.Kept.{Kept}
use Rattle.sw_laws.specs.Laws.{changes_along}
use Rattle.sw_turns.specs.Surviving.{latest}
use Rattle.sw_rules.specs.History.{IsPaced, Opens, Stamped, StampedFrom, after, after_entries, changing, moved}
use Rattle.sw_rules.specs.Restart.{restart}
use Rattle.sw_rules.specs.State.{State}
use Rattle.sw_rules.specs.Step.{changes_of}
use Rattle.sw_store.specs.Stores.{all_stamped, stamped}

-- ---- places of entries

-- an element of two lists is one of the first, or one of the second
pub got_either : (front more : List Entry) (k : ℕ) (entry : Entry) → slice_get (front ++ more) k ≡ Some entry
    → (slice_get front k ≡ Some entry) ⊎ ((j : ℕ) × (k ≡ length front + j) × (slice_get more j ≡ Some entry))
got_either [] more k entry got = inr (k, omega arith, got)
got_either (first ∷ front) more zero entry got = inl got
got_either (first ∷ front) more (suc k) entry got =
    ⊎_elim inl (λ behind. inr (behind.0, omega (arith, behind.1), behind.2)) (got_either front more k entry got)

-- the stamp of each entry that was acknowledged at a clock
pub stamp_at : (clock : ℕ) (staged : List Entry) (k : ℕ) (entry : Entry) → slice_get (all_stamped clock staged) k ≡ Some entry → entry.stamp ≡ clock
stamp_at clock [] k entry got = absurd cc
stamp_at clock (first ∷ staged) zero entry got = let is : stamped clock first ≡ entry = cc in ap (λ (e : Entry). e.stamp) (sym is)
stamp_at clock (first ∷ staged) (suc k) entry got = stamp_at clock staged k entry got

-- ---- stamps that never fall

stamped_low : (low high : ℕ) (entries : List Entry) → StampedFrom low high entries → low ≤ high
stamped_low low high [] stamps = stamps
stamped_low low high (entry ∷ entries) stamps = omega (arith, stamps.0, stamped_low entry.stamp high entries stamps.1)

pub stamp_within : (low high : ℕ) (entries : List Entry) (k : ℕ) (entry : Entry) → StampedFrom low high entries → slice_get entries k ≡ Some entry → entry.stamp ≤ high
stamp_within low high [] k entry stamps got = absurd cc
stamp_within low high (first ∷ entries) zero entry stamps got =
    let is : first ≡ entry = cc in
    let stamp : entry.stamp ≡ first.stamp = ap (λ (e : Entry). e.stamp) (sym is) in
    omega (arith, stamp, stamped_low first.stamp high entries stamps.1)
stamp_within low high (first ∷ entries) (suc k) entry stamps got = stamp_within first.stamp high entries k entry stamps.1 got

all_from : (low clock : ℕ) (staged : List Entry) → low ≤ clock → StampedFrom low clock (all_stamped clock staged)
all_from low clock [] before = before
all_from low clock (entry ∷ staged) before = (before, all_from clock clock staged (omega arith))

pub stamped_more : (low high clock : ℕ) (front staged : List Entry) → high ≤ clock → StampedFrom low high front → StampedFrom low clock (front ++ all_stamped clock staged)
stamped_more low high clock [] staged later stamps = all_from low clock staged (omega (arith, stamps, later))
stamped_more low high clock (entry ∷ front) staged later stamps = (stamps.0, stamped_more entry.stamp high clock front staged later stamps.1)

pub stamped_later : (low high clock : ℕ) (entries : List Entry) → high ≤ clock → StampedFrom low high entries → StampedFrom low clock entries
stamped_later low high clock [] later stamps = omega (arith, stamps, later)
stamped_later low high clock (entry ∷ entries) later stamps = (stamps.0, stamped_later entry.stamp high clock entries later stamps.1)

-- ---- changing entries

changing_more : (state : State) (front more : List Entry) → changing state (front ++ more) ≡ changing state front + changing (after_entries state front) more
changing_more state [] more = omega arith
changing_more state (entry ∷ front) more = omega (arith, changing_more (moved state entry) front more)

changing_stamped : (clock : ℕ) (state : State) (entries : List Entry) → changing state (all_stamped clock entries) ≡ changing state entries
changing_stamped clock state [] = refl
changing_stamped clock state (entry ∷ entries) =
    ap (λ (n : ℕ). min 1 (length (changes_of state entry.event)) + n) (changing_stamped clock (moved state entry) entries)

changing_take : (state : State) (n : ℕ) (front more : List Entry) → changing state (take n front) ≤ changing state (take n (front ++ more))
changing_take state zero front more = omega arith
changing_take state (suc n) [] more = omega arith
changing_take state (suc n) (entry ∷ front) more = omega (arith, changing_take (moved state entry) n front more)

-- entries of which none has changes
none_changing : (state : State) (entries : List Entry) → changing state entries ≡ 0 → changes_along state entries ≡ []
none_changing state [] none = refl
none_changing state (entry ∷ entries) none =
    let here : changes_of state entry.event ≡ [] = nil_from_length (changes_of state entry.event) (omega (arith, none)) in
    ap (λ (changes : List Change). changes ++ changes_along (moved state entry) entries) here
    ∙ none_changing (moved state entry) entries (omega (arith, none))

-- where the changes have a spelling that isn't empty, some entry has changes
some_changing : (state : State) (entries : List Entry) (payload : List ℕ) → spelled_all (changes_along state entries) ≡ Some payload → payload ≢ [] → 1 ≤ changing state entries
some_changing state entries payload spelled some = at (changing state entries) refl
  where
    at : (n : ℕ) → changing state entries ≡ n → 1 ≤ n
    at zero is = absurd (some (let spells : spelled_all [] ≡ Some payload = sym (ap spelled_all (none_changing state entries is)) ∙ spelled in cc))
    at (suc n) is = omega arith

-- ---- the clock

latest_more : (base : Kept) (history more : List Entry) → Opens base history → latest base (history ++ more) ≡ latest base history + 16 * changing (after base history) more
latest_more base [] more opens = absurd opens
latest_more base (opening ∷ entries) more opens = omega (arith, changing_more (restart base) entries more)

module _ (base : Kept) (history staged : List Entry) (opens : Opens base history) (clock : ℕ) where
  latest_staged : latest base (history ++ all_stamped clock staged) ≡ latest base history + 16 * changing (after base history) staged
  latest_staged =
      latest_more base history (all_stamped clock staged) opens
      ∙ ap (λ (n : ℕ). latest base history + 16 * n) (changing_stamped clock (after base history) staged)

  -- more entries allow no less
  pub latest_grows : latest base history ≤ latest base (history ++ all_stamped clock staged)
  latest_grows = omega (arith, latest_staged)

  -- and with changes sixteen calls more
  pub latest_leaps : (payload : List ℕ) → spelled_all (changes_along (after base history) staged) ≡ Some payload → payload ≢ []
      → latest base history + 16 ≤ latest base (history ++ all_stamped clock staged)
  latest_leaps payload spelled some =
      omega (arith, latest_staged, some_changing (after base history) staged payload spelled some)

paced_more : (base : Kept) (history staged : List Entry) (clock : ℕ) → Opens base history → length staged ≤ 16 → IsPaced base history → clock ≤ latest base (history ++ all_stamped clock staged)
    → IsPaced base (history ++ all_stamped clock staged)
paced_more base [] staged clock opens few paced within = absurd opens
paced_more base (opening ∷ entries) staged clock opens few paced within = λ k entry got.
    ⊎_elim
    (λ old. let was : entry.stamp ≤ opening.stamp + 16 * changing (restart base) (take (k + 16) entries) = paced k entry old in
    omega (arith, was, changing_take (restart base) (k + 16) entries (all_stamped clock staged)))
    (λ new. let at : entry.stamp ≡ clock = stamp_at clock staged new.0 entry new.2 in
    let long : length (entries ++ all_stamped clock staged) ≤ k + 16 = omega (arith, length-append entries (all_stamped clock staged), length-map staged (stamped clock), new.1, few) in
    let all : changing (restart base) (take (k + 16) (entries ++ all_stamped clock staged)) ≡ changing (restart base) (entries ++ all_stamped clock staged) =
    ap (changing (restart base)) (take_all (k + 16) (entries ++ all_stamped clock staged) long) in
    omega (arith, at, all, within))
    (got_either entries (all_stamped clock staged) k entry got)

-- a group is acknowledged at a clock
pub stamped_group : (base : Kept) (history staged : List Entry) (low high clock : ℕ) → Opens base history → length staged ≤ 16 → high ≤ clock → Stamped base low high history
    → clock ≤ latest base (history ++ all_stamped clock staged) → Stamped base low clock (history ++ all_stamped clock staged)
stamped_group base history staged low high clock opens few later stamps within =
    (stamped_more low high clock history staged later stamps.0, paced_more base history staged clock opens few stamps.1 within)
