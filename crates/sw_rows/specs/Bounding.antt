-- What a recording comes to within a limit on the usage, by the definitions alone, from nothing.
use Rattle.std.specs.Prelude.{ℕ, zero, suc, List, [], ◌++◌, codes, decimal, None, Some, Ok, Err}
use Rattle.sw_bucket.specs.Eviction.{next_bounded}
use Rattle.sw_data.specs.declared.recordings.Recording.{Recording}
use Rattle.sw_forms.specs.Refusals.{refusal_text}
use Rattle.sw_print.specs.Transcript.{transcript}
use Rattle.sw_record.specs.Grammar.{recording_of}
use Rattle.sw_rows.specs.Replays.{Played, ending, opened, with_event}
use Rattle.sw_rules.specs.Durable.{durable}
use Rattle.sw_rules.specs.Step.{step}
use Rattle.sw_rules.specs.Storage.{nothing}
use Rattle.sw_sizes.specs.Usage.{usage}

-- what is next within a limit happens, in at most so many further events
abbrev played_within : ℕ → Recording → ℕ → Played → Played
played_within limit recording zero so_far = so_far
played_within limit recording (suc more) so_far =
    elim (next_bounded limit recording nothing so_far.history so_far.state) [
      | None ↦ so_far
      | Some happened ↦
          elim (step so_far.state happened) [
            | None ↦ so_far
            | Some outcome ↦ played_within limit recording more (with_event so_far happened outcome)
          ]
    ]

-- the transcript, and the usage at its end
abbrev printed_within : ℕ → Recording → Played → List ℕ
printed_within limit recording whole =
    transcript whole.history (ending recording whole.history)
    ++ codes "usage "
    ++ decimal (usage (durable whole.state))
    ++ codes " of "
    ++ decimal limit
    ++ codes "\n"

-- what a source's bytes come to within a limit
abbrev pub replayed_within : ℕ → List ℕ → List ℕ
replayed_within limit bytes =
    elim (recording_of bytes) [
      | Ok recording ↦ printed_within limit recording (played_within limit recording 100000 (opened []))
      | Err why ↦ refusal_text why
    ]
