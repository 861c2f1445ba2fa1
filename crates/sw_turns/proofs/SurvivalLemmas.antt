-- What a crash leaves of a history, once a group is written behind it, or was refused.
use Rattle.std.proofs.Common.{◌≡◌, ◌⊎◌, inl, inr, ⊎_elim, ℕ, ◌+◌, ◌<◌, ◌≤◌, List, [], ◌∷◌, ◌++◌, length, Some, slice_get, sym, subst, arith, append-nil, length-append}
use Rattle.std.proofs.lemmas.List.{take-append-le, take_all}
use Rattle.std.proofs.lemmas.Option.{slice_get_within}
use Rattle.sw_data.specs.declared.histories.Entry.{Entry}
use Rattle.sw_data.specs.declared.storage.Kept.{Kept}
use Rattle.sw_disk.specs.declared.disk.Disk.{Ghosts}
use Rattle.sw_disk.specs.DiskRule.{capped}
use Rattle.sw_disk.specs.Image.{Image}
use Rattle.sw_disk.specs.Meanings.{LeavesOnly}
use Rattle.sw_journal.specs.Journal.{Since}
use Rattle.sw_kept.specs.Stored.{HasKept}
use Rattle.sw_turns.proofs.PaceLemmas.{got_either, stamp_within}
use Rattle.sw_turns.specs.Surviving.{IsLeftBy, KeepsPrefix, Survives, kept_of}
use Rattle.sw_rules.specs.History.{StampedFrom}

-- the whole history is a prefix of it
prefix_all : (base : Kept) (history : List Entry) (least : ℕ) (c : Image) → least ≤ length history → HasKept (kept_of base history) c → KeepsPrefix base history least c
prefix_all base history least c within has = record {
  count = length history;
  at_least = within;
  within = omega arith;
  keeps = subst (λ (entries : List Entry). HasKept (kept_of base entries) c) (sym (take_all (length history) history (omega arith))) has;
}

-- a prefix of a history is one of a longer history
prefix_more : (base : Kept) (history more : List Entry) (least : ℕ) (c : Image) → KeepsPrefix base history least c → KeepsPrefix base (history ++ more) least c
prefix_more base history more least c kept = record {
  count = kept.count;
  at_least = kept.at_least;
  within = omega (arith, kept.within, length-append history more);
  keeps = subst (λ (entries : List Entry). HasKept (kept_of base entries) c) (sym (take-append-le kept.count history more kept.within)) kept.keeps;
}

-- what keeps a prefix, or the whole history and the refused events
left_refused : (base : Kept) (history refused : List Entry) (least : ℕ) (c : Image) → least ≤ length history
    → KeepsPrefix base history least c ⊎ HasKept (kept_of base (history ++ refused)) c → IsLeftBy base history refused least c
left_refused base history [] least c within (inl kept) = kept
left_refused base history [] least c within (inr has) =
    prefix_all base history least c within (subst (λ (entries : List Entry). HasKept (kept_of base entries) c) (append-nil history) has)
left_refused base history (first ∷ refused) least c within left = left

-- once what might have been refused is the history's
left_joined : (base : Kept) (history more : List Entry) (least : ℕ) (c : Image) → least ≤ length history → IsLeftBy base history more least c → KeepsPrefix base (history ++ more) least c
left_joined base history [] least c within kept = prefix_more base history [] least c kept
left_joined base history (first ∷ more) least c within (inl kept) = prefix_more base history (first ∷ more) least c kept
left_joined base history (first ∷ more) least c within (inr has) =
    prefix_all base (history ++ first ∷ more) least c (omega (arith, within, length-append history (first ∷ more))) has

module _ {D : Type 0} (disk : Ghosts D) (start old new : D) (base : Kept) (history more : List Entry)
    (survives : Survives disk start old base history [])
    (run : LeavesOnly disk old new (λ c. HasKept (kept_of base history) c ⊎ HasKept (kept_of base (history ++ more)) c))
    (later : disk.clock start ≤ disk.clock old) (calls : capped (disk.clock start + 4) ≤ disk.clock old)
    (stamps : StampedFrom (disk.clock start) (disk.clock old) history) where
  from_one : (least : ℕ) (c : Image) → least ≤ length history → HasKept (kept_of base history) c ⊎ HasKept (kept_of base (history ++ more)) c → IsLeftBy base history more least c
  from_one least c within has =
      left_refused base history more least c within (⊎_elim (λ one. inl (prefix_all base history least c within one)) inr has)

  -- since a moment before the call
  leaves : (t least : ℕ) (c : Image) → t ≤ disk.clock old → least ≤ length history → (disk.left_since old t c → KeepsPrefix base history least c) → disk.left_since new t c → IsLeftBy base history more least c
  leaves t least c before within was left =
      ⊎_elim (λ already. left_refused base history more least c within (inl (was already))) (from_one least c within) (run.before t c before left)

  -- a write of more entries failed
  pub refused_survives : Survives disk start new base history more
  refused_survives = record {
    any_moment = λ going c left.
        leaves (disk.clock start + 1) 0 c (omega (arith, calls, going)) (omega arith) (survives.any_moment going c) left;
    at_entry = λ t c before left.
        ⊎_elim
        (λ already.
        ⊎_elim inl (λ rest. inr (⊎_elim inl (λ kept. inr (left_refused base history more 0 c (omega arith) (inl kept))) rest))
        (survives.at_entry t c before already))
        (λ has. inr (inr (from_one 0 c (omega arith) has)))
        (run.before t c (omega (arith, before, later)) left);
    acknowledged = λ k entry got going c left.
        let within : k < length history = slice_get_within history k entry got in
        leaves entry.stamp (k + 1) c (stamp_within (disk.clock start) (disk.clock old) history k entry stamps got) (omega (arith, within))
        (survives.acknowledged k entry got going c) left;
  }

  -- more entries were written, and acknowledged at the clock now
  pub written_survives : ((k : ℕ) (entry : Entry) → slice_get more k ≡ Some entry → entry.stamp ≡ disk.clock new)
      → Since disk new new (HasKept (kept_of base (history ++ more))) → Survives disk start new base (history ++ more) []
  written_survives stamped since = record {
    any_moment = λ going c left. left_joined base history more 0 c (omega arith) (refused_survives.any_moment going c left);
    at_entry = λ t c before left.
        ⊎_elim inl (λ rest. inr (⊎_elim inl (λ kept. inr (left_joined base history more 0 c (omega arith) kept)) rest))
        (refused_survives.at_entry t c before left);
    acknowledged = λ k entry got going c left.
        ⊎_elim
        (λ old. let within : k < length history = slice_get_within history k entry old in
        left_joined base history more (k + 1) c (omega (arith, within)) (refused_survives.acknowledged k entry old going c left))
        (λ now. let at : entry.stamp ≡ disk.clock new = stamped now.0 entry now.2 in
        let inside : now.0 < length more = slice_get_within more now.0 entry now.2 in
        prefix_all base (history ++ more) (k + 1) c (omega (arith, inside, now.1, length-append history more))
        (since (omega (arith, at, going)) c (subst (λ (t : ℕ). disk.left_since new t c) at left)))
        (got_either history more k entry got);
  }
