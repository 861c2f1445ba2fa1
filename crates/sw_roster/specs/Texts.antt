-- The text of what has come of the lines of a roster.
use Rattle.std.specs.Prelude.{ℕ, List, [], ◌++◌, flat_map, codes}
use Rattle.sw_readers.specs.declared.inputs.RosterLine.{RosterLine}
use Rattle.sw_readers.specs.declared.inputs.RosterLine.TheVariants as line
use Rattle.sw_print.specs.Transcript.{line_of_entry, listed, numbered}
use Rattle.sw_roster.specs.declared.beats.Beat.{Beat}
use Rattle.sw_roster.specs.declared.beats.Beat.TheVariants as beat
use Rattle.sw_roster.specs.declared.beats.RosterAnswer.{RosterAnswer}
use Rattle.sw_roster.specs.declared.beats.RosterAnswer.TheVariants as told
use Rattle.sw_roster.specs.declared.beats.RosterEnd.{RosterEnd}
use Rattle.sw_roster.specs.declared.beats.RosterEnd.TheVariants as ending

-- what is asked; an action asks nothing
abbrev pub asked_word : RosterLine → List ℕ
asked_word (line.Action action) = []
asked_word (line.Focus client) = codes "focus"
asked_word (line.Get client worker) = codes "get"
asked_word (line.List worker uncontrolled) = codes "list"

abbrev pub told_text : RosterAnswer → List ℕ
told_text told.Ok = codes "ok"
told_text (told.Client client) = numbered (codes "c") client
told_text told.Undefined = codes "undefined"
told_text (told.Clients clients) = listed (numbered (codes "c")) clients
told_text told.NoClient = codes "NoClient"
told_text told.NoWorker = codes "NoWorker"

-- the line of a beat: that of an entry, or what was asked and the answer (own)
abbrev pub beat_text : Beat → List ℕ
beat_text (beat.Happened entry) = line_of_entry entry
beat_text (beat.Asked asked reply) = codes "roster " ++ (asked_word asked ++ (codes " -> " ++ (told_text reply ++ codes "\n")))

abbrev pub end_text : RosterEnd → List ℕ
end_text ending.Done = codes "end done\n"
end_text ending.Stalled = codes "end stalled 0\n"
end_text ending.Spent = codes "end spent\n"

-- the whole text: a line for each beat, and the last line (own)
abbrev pub roster_text : List Beat → RosterEnd → List ℕ
roster_text beats over = flat_map beat_text beats ++ end_text over
