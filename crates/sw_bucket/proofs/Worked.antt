-- Worked histories with evictions, computed from their recordings.
use Rattle.std.specs.Prelude.{◌≡◌, ℕ, zero, suc, List, [], ◌∷◌, ◌++◌, codes, map, Some, None, refl}
use Rattle.sw_data.specs.declared.answers.Answer.{Answer}
use Rattle.sw_data.specs.declared.answers.Answer.TheVariants as answer
use Rattle.sw_data.specs.declared.events.Event.{Event}
use Rattle.sw_data.specs.declared.events.Event.TheVariants as event
use Rattle.sw_data.specs.declared.events.Who.TheVariants as who
use Rattle.sw_data.specs.declared.histories.Entry.{Entry}
use Rattle.sw_data.specs.declared.recordings.Action.{Action}
use Rattle.sw_data.specs.declared.recordings.Action.TheVariants as action
use Rattle.sw_data.specs.declared.recordings.Recording.{Recording}
use Rattle.sw_data.specs.Events.{named_client, named_page, who_of}
use Rattle.sw_codec.proofs.OnLiterals.{codec_on_literals}
use Rattle.sw_rules.proofs.OnLiterals.{steps_on_literals}
use Rattle.sw_rules.specs.Durable.{durable}
use Rattle.sw_rules.specs.History.{after, restart_answer}
use Rattle.sw_rules.specs.Restart.{restart}
use Rattle.sw_rules.specs.State.{State}
use Rattle.sw_rules.specs.Step.{step}
use Rattle.sw_rules.specs.Storage.{nothing}
use Rattle.sw_bucket.specs.Eviction.{forget_event, next_bounded}
use Rattle.sw_sizes.specs.Usage.{usage}
use Rattle.sw_bucket.specs.Uses.{last_use, work_key}

-- ---- histories

abbrev entry_of : Event → Answer → Entry
entry_of happened reply =
    record { pass = 0; who = who_of happened; event = happened; answer = reply; notices = []; stamp = 0 }

abbrev opening : Entry
opening = entry_of (event.Restarted who.Host) (restart_answer (restart nothing))

-- the history that goes on within a limit by at most so many entries
played : ℕ → Recording → ℕ → List Entry → State → List Entry
played limit recording zero entries state = entries
played limit recording (suc more) entries state =
    elim (next_bounded limit recording nothing entries state) [
      | None ↦ entries
      | Some happened ↦
          elim (step state happened) [
            | None ↦ entries
            | Some outcome ↦
                played limit recording more (entries ++ entry_of happened outcome.answer ∷ []) outcome.told.state
          ]
    ]

-- the history of a lane, from nothing
abbrev history_of : ℕ → List Action → List Entry
history_of limit actions =
    played limit (record { fetches = []; lanes = actions ∷ [] }) 12 (opening ∷ []) (restart nothing)

-- what has happened, and what it answered
abbrev told : List Entry → List (Event × Answer)
told entries = map (λ entry. (entry.event, entry.answer)) entries

-- the usage that a history leaves
abbrev usage_left : List Entry → ℕ
usage_left entries = usage (durable (after nothing entries))

abbrev a : List ℕ
a = codes "https://a.test"

abbrev b : List ℕ
b = codes "https://b.test"

abbrev open_cache : List ℕ → Action
open_cache page = action.CacheOpen (record { at = page; partition = None }) (codes "v")

abbrev opens : ℕ → List ℕ → Event
opens at page = event.CacheOpen (who.Lane 0 at) (record { at = page; partition = None }) (codes "v")

-- ---- three caches, of which one fits

abbrev three : List Action
three = open_cache (a ++ codes "/") ∷ open_cache (b ++ codes "/") ∷ open_cache (a ++ codes "/") ∷ []

three_caches :
    told (history_of 24 three)
    ≡ (event.Restarted who.Host, answer.Restarted 0 0)
    ∷ (opens 0 (a ++ codes "/"), answer.Made)
    ∷ (opens 1 (b ++ codes "/"), answer.Made)
    ∷ (forget_event a, answer.Ok)
    ∷ (opens 2 (a ++ codes "/"), answer.Made)
    ∷ (forget_event b, answer.Ok) ∷ []
unfolding steps_on_literals codec_on_literals named_client named_page work_key played
three_caches = refl

one_fits : usage_left (history_of 24 three) ≡ 24
unfolding steps_on_literals codec_on_literals named_client named_page work_key played
one_fits = refl

-- the last uses, the second one of the key that was forgotten between
uses_stay : map (last_use nothing (history_of 24 three)) (a ∷ b ∷ codes "https://c.test" ∷ []) ≡ 4 ∷ 2 ∷ 0 ∷ []
unfolding steps_on_literals codec_on_literals named_client named_page work_key played
uses_stay = refl

-- ---- the older key has a client

abbrev with_client : List Action
with_client =
    action.Open 1 (a ++ codes "/") None ∷ open_cache (a ++ codes "/") ∷ open_cache (b ++ codes "/") ∷ []

client_holds :
    told (history_of 24 with_client)
    ≡ (event.Restarted who.Host, answer.Restarted 0 0)
    ∷ (event.Open (who.Lane 0 0) 1 (a ++ codes "/") None, answer.None)
    ∷ (opens 1 (a ++ codes "/"), answer.Made)
    ∷ (opens 2 (b ++ codes "/"), answer.Made)
    ∷ (forget_event b, answer.Ok) ∷ []
unfolding steps_on_literals codec_on_literals named_client named_page work_key played
client_holds = refl

-- a client that closes uses its key once more
abbrev closing : List Action
closing =
    action.Open 1 (a ++ codes "/") None ∷ open_cache (a ++ codes "/") ∷ open_cache (b ++ codes "/") ∷ action.Close 1 ∷ action.Close 1 ∷ []

closing_is_a_use : map (last_use nothing (history_of 48 closing)) (a ∷ b ∷ []) ≡ 4 ∷ 3 ∷ []
unfolding steps_on_literals codec_on_literals named_client named_page work_key played
closing_is_a_use = refl

-- ---- a partition

abbrev partitioned : Action
partitioned = action.CacheOpen (record { at = a ++ codes "/"; partition = Some (codes "p^q") }) (codes "v")

partition_is_forgotten :
    told (history_of 0 (partitioned ∷ []))
    ≡ (event.Restarted who.Host, answer.Restarted 0 0)
    ∷ (event.CacheOpen (who.Lane 0 0) (record { at = a ++ codes "/"; partition = Some (codes "p^q") }) (codes "v"), answer.Made)
    ∷ (event.Forget who.Host (record { at = a ++ codes "/"; partition = Some (codes "p^q") }), answer.Ok) ∷ []
unfolding steps_on_literals codec_on_literals named_client named_page work_key played
partition_is_forgotten = refl
