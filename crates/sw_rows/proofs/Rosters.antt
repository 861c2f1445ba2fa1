-- Rosters computed from their lines to the text by the definitions alone.
use Rattle.std.specs.Prelude.{◌≡◌, ℕ, zero, suc, true, false, List, [], ◌∷◌, ◌++◌, reverse, codes, Some, None, refl}
use Rattle.std.specs.Fmt.{digits}
use Rattle.json.specs.Print.{escape_byte}
use Rattle.sw_data.specs.declared.events.Event.{Event}
use Rattle.sw_data.specs.declared.events.Event.TheVariants as event
use Rattle.sw_data.specs.declared.events.Who.TheVariants as who
use Rattle.sw_data.specs.declared.histories.Entry.{Entry}
use Rattle.sw_data.specs.declared.recordings.Action.TheVariants as action
use Rattle.sw_data.specs.declared.recordings.FetchLine.{FetchLine}
use Rattle.sw_data.specs.declared.workers.Kind.TheVariants.{Classic}
use Rattle.sw_data.specs.declared.workers.Mode.TheVariants.{Imports}
use Rattle.sw_data.specs.Events.{who_of}
use Rattle.sw_readers.specs.declared.inputs.RosterLine.{RosterLine}
use Rattle.sw_readers.specs.declared.inputs.RosterLine.TheVariants as line
use Rattle.sw_roster.specs.Beats.{answered, next_event, next_line}
use Rattle.sw_roster.specs.Texts.{roster_text}
use Rattle.sw_roster.specs.declared.beats.Beat.{Beat}
use Rattle.sw_roster.specs.declared.beats.Beat.TheVariants as beat
use Rattle.sw_roster.specs.declared.beats.RosterEnd.{RosterEnd}
use Rattle.sw_roster.specs.declared.beats.RosterEnd.TheVariants as ending
use Rattle.sw_rules.proofs.OnLiterals.{steps_on_literals}
use Rattle.sw_rules.specs.History.{restart_answer}
use Rattle.sw_rules.specs.Restart.{restart}
use Rattle.sw_rules.specs.Step.{step}
use Rattle.sw_rules.specs.Storage.{nothing}
use Rattle.sw_rules.specs.Told.{Outcome}
use Rattle.sw_roster.specs.Beats.{state_at}

-- ---- lines, played in at most so many beats

abbrev entry_of : Event → Outcome → Entry
entry_of happened outcome = record {
  pass = 0;
  who = who_of happened;
  event = happened;
  answer = outcome.answer;
  notices = outcome.told.notices;
  stamp = 0;
}

abbrev opening : Entry
opening = record {
  pass = 0;
  who = who.Host;
  event = event.Restarted who.Host;
  answer = restart_answer (restart nothing);
  notices = [];
  stamp = 0;
}

record Played : Type 0 where
  past : List Beat
  over : RosterEnd

abbrev played : ℕ → List FetchLine → List RosterLine → List Beat → Played
played zero fetches lines past = record { past = past; over = ending.Spent }
played (suc more) fetches lines past =
    elim (next_event fetches lines past) [
      | Some happened ↦
          elim (step (state_at past) happened) [
            | Some outcome ↦ played more fetches lines (beat.Happened (entry_of happened outcome) ∷ past)
            | None ↦ record { past = past; over = ending.Stalled }
          ]
      | None ↦
          elim (next_line lines past) [
            | Some asked ↦
                elim (answered (state_at past) past asked) [
                  | Some reply ↦ played more fetches lines (beat.Asked asked reply ∷ past)
                  | None ↦ record { past = past; over = ending.Stalled }
                ]
            | None ↦ record { past = past; over = ending.Done }
          ]
    ]

abbrev text_of : List FetchLine → List RosterLine → List ℕ
text_of fetches lines =
    let made = played 64 fetches lines [] in
    roster_text (beat.Happened opening ∷ reverse made.past) made.over

-- ---- lines

abbrev script : FetchLine
script = record {
  fetch = codes "https://a.test/sw.js";
  fetched = Some (record {
    response = record {
      status = 200;
      headers = record { name = codes "content-type"; value = codes "text/javascript" } ∷ [];
      body = codes "// v1";
    };
    handlers = record { throws = false; install = []; install_fails = false; activate = [] };
  });
}

abbrev opens : ℕ → List ℕ → RosterLine
opens client url = line.Action (action.Open client url None)

abbrev register : ℕ → RosterLine
register client = line.Action (action.Register (record {
  client = client;
  script = codes "/sw.js";
  scope = None;
  kind = Classic;
  mode = Imports;
}))

abbrev ready : ℕ → RosterLine
ready client = line.Action (action.Ready client)

abbrev close : ℕ → RosterLine
close client = line.Action (action.Close client)

-- ---- rows

-- the clients of a worker by focus, with and without those that it doesn't control, and after one has closed
focused_clients :
    text_of (script ∷ [])
    (opens 1 (codes "https://a.test/") ∷ register 1 ∷ ready 1 ∷ opens 2 (codes "https://a.test/p") ∷ opens 3 (codes "https://a.test/q")
    ∷ line.Focus 3 ∷ line.List 0 false ∷ line.List 0 true ∷ line.Get 1 0 ∷ close 3 ∷ line.Get 3 0 ∷ line.List 0 false ∷ [])
    ≡ codes "- restarted -> 0 registrations 0 caches\n"
    ++ codes "L0.0 open -> none\n"
    ++ codes "L0.1 register -> j0\n"
    ++ codes "- run j0 -> fetch 0 | mapped r0\n"
    ++ codes "- fetched j0 -> changed | w0 parsed\n"
    ++ codes "- evaluated j0 -> installing | w0 installing | settled j0 r0 | updatefound r0\n"
    ++ codes "- installed j0 -> ok | w0 installed\n"
    ++ codes "- tryactivate r0 -> w0 | w0 activating\n"
    ++ codes "- activated w0 -> ok | w0 activated\n"
    ++ codes "L0.2 ready -> r0\n"
    ++ codes "L0.3 open -> w0\n"
    ++ codes "L0.4 open -> w0\n"
    ++ codes "roster focus -> ok\n"
    ++ codes "roster list -> 2 c3 c2\n"
    ++ codes "roster list -> 3 c3 c1 c2\n"
    ++ codes "roster get -> c1\n"
    ++ codes "L0.5 close -> ok\n"
    ++ codes "roster get -> undefined\n"
    ++ codes "roster list -> 1 c2\n"
    ++ codes "end done\n"
unfolding digits escape_byte steps_on_literals
focused_clients = refl

-- nobody is there
nobody_there :
    text_of [] (line.Focus 9 ∷ line.List 5 true ∷ line.Get 9 5 ∷ [])
    ≡ codes "- restarted -> 0 registrations 0 caches\nroster focus -> NoClient\nroster list -> NoWorker\nroster get -> NoWorker\nend done\n"
unfolding digits escape_byte steps_on_literals
nobody_there = refl

-- a client that is opened again under its number has no focus
focus_ends :
    text_of (script ∷ [])
    (opens 1 (codes "https://a.test/") ∷ register 1 ∷ ready 1 ∷ opens 2 (codes "https://a.test/p") ∷ opens 3 (codes "https://a.test/q")
    ∷ line.Focus 3 ∷ close 3 ∷ opens 3 (codes "https://a.test/q") ∷ line.List 0 false ∷ line.Focus 3 ∷ line.List 0 false ∷ [])
    ≡ codes "- restarted -> 0 registrations 0 caches\n"
    ++ codes "L0.0 open -> none\n"
    ++ codes "L0.1 register -> j0\n"
    ++ codes "- run j0 -> fetch 0 | mapped r0\n"
    ++ codes "- fetched j0 -> changed | w0 parsed\n"
    ++ codes "- evaluated j0 -> installing | w0 installing | settled j0 r0 | updatefound r0\n"
    ++ codes "- installed j0 -> ok | w0 installed\n"
    ++ codes "- tryactivate r0 -> w0 | w0 activating\n"
    ++ codes "- activated w0 -> ok | w0 activated\n"
    ++ codes "L0.2 ready -> r0\n"
    ++ codes "L0.3 open -> w0\n"
    ++ codes "L0.4 open -> w0\n"
    ++ codes "roster focus -> ok\n"
    ++ codes "L0.5 close -> ok\n"
    ++ codes "L0.6 open -> w0\n"
    ++ codes "roster list -> 2 c2 c3\n"
    ++ codes "roster focus -> ok\n"
    ++ codes "roster list -> 2 c3 c2\n"
    ++ codes "end done\n"
unfolding digits escape_byte steps_on_literals
focus_ends = refl

-- a `ready` that no registration comes to
waiting_for_ever :
    text_of [] (opens 1 (codes "https://a.test/") ∷ line.Focus 1 ∷ ready 1 ∷ line.Focus 1 ∷ [])
    ≡ codes "- restarted -> 0 registrations 0 caches\nL0.0 open -> none\nroster focus -> ok\nend stalled 0\n"
unfolding digits escape_byte steps_on_literals
waiting_for_ever = refl
