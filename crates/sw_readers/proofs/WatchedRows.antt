-- Recordings with look-ups, from their lines to what is read, computed.
use Rattle.std.specs.Prelude.{◌≡◌, ℕ, ⊤, ◌++◌, [], ◌∷◌, length, codes, Some, None, Result, Ok, Err, refl}
use Rattle.std.proofs.Math.ListN.{replicate}
use Rattle.sw_data.specs.declared.recordings.Action.TheVariants as action
use Rattle.sw_forms.specs.declared.error.LineCause.TheVariants as cause
use Rattle.sw_forms.specs.declared.error.Limit.TheVariants as limit
use Rattle.sw_forms.specs.declared.error.RecordingError.TheVariants as error
use Rattle.sw_forms.specs.declared.flaw.Flaw.{Flaw}
use Rattle.sw_forms.specs.declared.flaw.Flaw.TheVariants as flaw
use Rattle.sw_forms.specs.Flaws.{made}
use Rattle.sw_readers.specs.declared.watched.WatchedReading.{WatchedReading}
use Rattle.sw_record.proofs.OnLiterals.{grammar_on_literals}
use Rattle.sw_record.specs.Grammar.{line_read}
use Rattle.sw_readers.specs.Watched.{look_line, nothing_read, watched_of, with_value}

unfoldable watched_on_literals : ⊤
unfolding grammar_on_literals look_line watched_of with_value
watched_on_literals = tt

a_recording_with_looks :
    watched_of
    (codes "{\"look\":\"https://a.test/p?q#f\"}\n"
    ++ codes "{\"lane\":1,\"do\":\"close\",\"client\":2}\n"
    ++ codes "{\"look\":\"http://b.test/\",\"partition\":\"a.b-1\"}")
    ≡ Ok (record {
      recording = record { fetches = []; lanes = [] ∷ (action.Close 2 ∷ []) ∷ [] };
      looks =
          record { address = codes "https://a.test/p?q"; partition = None }
          ∷ record { address = codes "http://b.test/"; partition = Some (codes "a.b-1") }
          ∷ [];
    })
unfolding watched_on_literals
a_recording_with_looks = refl

a_look_at_another_scheme :
    watched_of
    (codes "{\"look\":\"https://a.test/\"}\n"
    ++ codes "{\"look\":\"data:,a\"}\n")
    ≡ Err (error.BadLine 2 cause.Address)
unfolding watched_on_literals
a_look_at_another_scheme = refl

a_look_at_no_address :
    watched_of
    (codes "{\"look\":\"/p\"}\n")
    ≡ Err (error.BadLine 1 cause.Address)
unfolding watched_on_literals
a_look_at_no_address = refl

a_look_has_nothing_else :
    watched_of
    (codes "{\"look\":\"https://a.test/\",\"lane\":0}\n")
    ≡ Err (error.BadLine 1 cause.Form)
unfolding watched_on_literals
a_look_has_nothing_else = refl

a_look_in_no_partition :
    watched_of
    (codes "{\"look\":\"https://a.test/\",\"partition\":\"\"}\n")
    ≡ Err (error.BadLine 1 cause.Form)
unfolding watched_on_literals
a_look_in_no_partition = refl

a_line_of_a_recording :
    watched_of
    (codes "{\"look\":\"https://a.test/\"}\n"
    ++ codes "{\"lane\":0,\"do\":\"await\",\"of\":0}\n")
    ≡ Err (error.BadLine 2 cause.Await)
unfolding watched_on_literals
a_line_of_a_recording = refl

-- the state of a reader that has read so many looks
abbrev reading : ℕ → WatchedReading
reading count = record nothing_read {
  looks = replicate count (record { address = codes "https://a.test/"; partition = None });
}

abbrev looks_after : Result WatchedReading Flaw → Result ℕ Flaw
looks_after next = made (λ so_far. length so_far.looks) next

the_last_look : looks_after (line_read with_value (reading 4095) (codes "{\"look\":\"https://a.test/\"}")) ≡ Ok 4096
unfolding watched_on_literals
the_last_look = refl

more_than_4096_looks :
    looks_after (line_read with_value (reading 4096) (codes "{\"look\":\"https://a.test/\"}"))
    ≡ Err (flaw.Limit limit.Actions)
unfolding watched_on_literals
more_than_4096_looks = refl
