-- Small generated recordings, computed: how many actions, entries, mapped registrations and caches they come to.
use Rattle.std.specs.Prelude.{◌≡◌, ◌+◌, ℕ, List, [], ◌∷◌, length, fold, refl, Ok, Err}
use Rattle.std.specs.Fmt.{digits}
use Rattle.json.specs.Print.{escape_byte}
use Rattle.sw_data.specs.declared.recordings.Recording.{Recording}
use Rattle.sw_gen.specs.Generated.{generated, fetch_line, action, of_client, open_line, register_line, await_line, close_line, cache_line, put_line, scope_line, last_lines, client_lines, with_client}
use Rattle.sw_record.specs.Grammar.{recording_of}
use Rattle.sw_record.proofs.OnLiterals.{grammar_on_literals}
use Rattle.sw_rules.proofs.OnLiterals.{steps_on_literals}
use Rattle.sw_rules.specs.History.{mapped_registrations}
use Rattle.sw_rows.specs.Replays.{Played, played, opened}

-- the counts of a replay
abbrev line_counts : Recording → Played → List ℕ
line_counts recording whole =
    fold (λ so_far actions. so_far + length actions) 0 recording.lanes ∷ length whole.history
    ∷ mapped_registrations whole.state ∷ length whole.state.caches ∷ []

-- the counts of the replay of a source's bytes
abbrev counts_of : List ℕ → List ℕ
counts_of bytes =
    elim (recording_of bytes) [
      | Ok recording ↦ line_counts recording (played recording 100 (opened []))
      | Err why ↦ []
    ]

gen_0 : counts_of (generated 0 1) ≡ 4 ∷ 11 ∷ 1 ∷ 0 ∷ []
unfolding digits escape_byte grammar_on_literals steps_on_literals fetch_line action of_client open_line register_line await_line close_line cache_line put_line scope_line last_lines client_lines with_client
gen_0 = refl

gen_1 : counts_of (generated 1 1) ≡ 4 ∷ 13 ∷ 1 ∷ 0 ∷ []
unfolding digits escape_byte grammar_on_literals steps_on_literals fetch_line action of_client open_line register_line await_line close_line cache_line put_line scope_line last_lines client_lines with_client
gen_1 = refl

gen_2 : counts_of (generated 2 1) ≡ 5 ∷ 12 ∷ 1 ∷ 1 ∷ []
unfolding digits escape_byte grammar_on_literals steps_on_literals fetch_line action of_client open_line register_line await_line close_line cache_line put_line scope_line last_lines client_lines with_client
gen_2 = refl
