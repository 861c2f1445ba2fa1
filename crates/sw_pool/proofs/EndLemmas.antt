-- The end that a worker is answered is the one that is kept.
use Rattle.std.proofs.Common.{◌≡◌, ◌∙◌, ◌⊎◌, ⊎_elim, ℕ, List, Option, Some, None, refl, sym, ap, subst}
use Rattle.std.specs.Prelude.{unwrap_or}
use Rattle.sw_data.specs.declared.histories.Entry.{Entry}
use Rattle.sw_disk.specs.declared.disk.Disk.{Ghosts}
use Rattle.sw_pool.specs.declared.ends.Brief.{Brief}
use Rattle.sw_pool.specs.declared.ends.Brief.TheVariants as brief
use Rattle.sw_pool.specs.declared.ends.Turned.{Turned}
use Rattle.sw_pool.specs.declared.ends.Turned.TheVariants as turned
use Rattle.sw_pool.specs.Yards.{HasStepped, HasStopped, IsEndSeen, Origin, IsYardOf, YardState, brief_of, shown}
use Rattle.sw_turns.specs.Ends.{IsTurnEnd}
use Rattle.sw_turns.specs.declared.ends.DriveEnd.{DriveEnd}
use Rattle.sw_turns.specs.declared.ends.DriveEnd.TheVariants as drive_end
use Rattle.sw_turns.specs.declared.ends.Turn.{Turn}
use Rattle.sw_turns.specs.declared.ends.Turn.TheVariants as turn

-- a turn behind which the run goes on answers no end
unended : (made : Turn) (said : Brief) → turned.Ended said ≡ shown made → ⊥
unended turn.Entered said is = absurd cc
unended (turn.Fetch flown fetches) said is = absurd cc
unended turn.Idle said is = absurd cc

-- an end that is kept isn't want of turns
unspent : (ended : DriveEnd) → IsTurnEnd ended → brief_of ended ≡ brief.Spent → ⊥
unspent drive_end.Done kept is = absurd cc
unspent (drive_end.Stalled lane) kept is = absurd cc
unspent (drive_end.DiskFault refused) kept is = absurd cc
unspent (drive_end.Full happened from needed) kept is = absurd cc
unspent drive_end.NoMemory kept is = absurd cc
unspent (drive_end.Spent spent) kept is = kept

module _ {D : Type 0} (disk : Ghosts D) (before after : YardState D) (pass : ℕ) (said : Brief) (step : HasStepped disk before pass after (turned.Ended said)) where
  kept_end : (ended : DriveEnd) × (after.end ≡ Some ended) × (said ≡ brief_of ended)
  kept_end = by before.end after.end refl refl
    where
      told : (ended : DriveEnd) → after.end ≡ Some ended → turned.Ended said ≡ turned.Ended (brief_of ended)
          → (ended : DriveEnd) × (after.end ≡ Some ended) × (said ≡ brief_of ended)
      told ended kept says = let same : said ≡ brief_of ended = cc in (ended, kept, same)

      by : (was now : Option DriveEnd) → before.end ≡ was → after.end ≡ now → (ended : DriveEnd) × (after.end ≡ Some ended) × (said ≡ brief_of ended)
      by (Some ended) now was_is now_is =
          let over = step.over ended was_is in
          told ended (ap (λ (yard : YardState D). yard.end) over.0 ∙ was_is) over.1
      by None (Some ended) was_is now_is = told ended now_is (step.ends ended was_is now_is)
      by None None was_is now_is = let on = step.turns was_is now_is in absurd (unended on.0 said on.2)

  pub never_spent : said ≡ brief.Spent → ⊥
  never_spent is = let it = kept_end in unspent it.0 (step.kept it.0 it.1) (sym it.2 ∙ is)

  pub end_seen : (origin : Origin D) (history : List Entry) → before.origin ≡ origin → history ≡ after.progress.history.items → IsEndSeen disk origin history said
  end_seen origin history base saw =
      let it = kept_end in
      record {
        yard = after;
        stands = step.stands;
        ended = it.0;
        origin_is = step.origin ∙ base;
        kept = it.1;
        is = it.2;
        history_is = sym saw;
      }

-- the same where the value was stopped behind its step
module _ {D : Type 0} (disk : Ghosts D) (left after : YardState D) (said : Brief) (stop : HasStopped disk left after (turned.Ended said)) where
  abbrev stop_end : DriveEnd
  stop_end = unwrap_or left.end drive_end.NoMemory

  stop_kept : after.end ≡ Some stop_end
  stop_kept = ap (λ (yard : YardState D). yard.end) stop.after_is

  stop_said : said ≡ brief_of stop_end
  stop_said = let told = stop.answer in cc

  stop_never_spent : said ≡ brief.Spent → ⊥
  stop_never_spent is =
      unspent stop_end (subst (λ (end : Option DriveEnd). IsYardOf disk after.disk after.origin after.progress end) stop_kept stop.stands.stands).1 (sym stop_said ∙ is)

  stop_seen : (origin : Origin D) (history : List Entry) → left.origin ≡ origin → history ≡ left.progress.history.items → IsEndSeen disk origin history said
  stop_seen origin history base saw = record {
    yard = after;
    stands = stop.stands;
    ended = stop_end;
    origin_is = ap (λ (yard : YardState D). yard.origin) stop.after_is ∙ base;
    kept = stop_kept;
    is = stop_said;
    history_is = ap (λ (yard : YardState D). yard.progress.history.items) stop.after_is ∙ sym saw;
  }

-- a step whose answer stays, or behind which the value was stopped
module _ {D : Type 0} (disk : Ghosts D) (before left after : YardState D) (pass : ℕ) (answer : Turned) (said : Brief) (step : HasStepped disk before pass left answer)
    (then : (turned.Ended said ≡ answer) ⊎ HasStopped disk left after (turned.Ended said)) where
  stays : turned.Ended said ≡ answer → HasStepped disk before pass left (turned.Ended said)
  stays is = subst (HasStepped disk before pass left) (sym is) step

  pub never_spent_then : said ≡ brief.Spent → ⊥
  never_spent_then is =
      ⊎_elim (λ same. never_spent disk before left pass said (stays same) is) (λ stop. stop_never_spent disk left after said stop is) then

  pub end_seen_then : (origin : Origin D) (history : List Entry) → before.origin ≡ origin → history ≡ left.progress.history.items → IsEndSeen disk origin history said
  end_seen_then origin history base saw =
      ⊎_elim
      (λ same. end_seen disk before left pass said (stays same) origin history base saw)
      (λ stop. stop_seen disk left after said stop origin history (step.origin ∙ base) saw)
      then
