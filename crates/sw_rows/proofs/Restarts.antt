-- Restarts from a kept content, computed.
use Rattle.std.specs.Prelude.{◌≡◌, ℕ, List, [], ◌∷◌, ◌++◌, codes, refl}
use Rattle.std.specs.Fmt.{digits}
use Rattle.json.specs.Print.{escape_byte}
use Rattle.sw_data.specs.declared.storage.Change.{Change}
use Rattle.sw_data.specs.declared.storage.Change.TheVariants as change
use Rattle.sw_data.specs.declared.storage.KeptWorker.{KeptWorker}
use Rattle.sw_data.specs.declared.workers.Kind.TheVariants.{Classic}
use Rattle.sw_data.specs.declared.workers.Mode.TheVariants.{Imports}
use Rattle.sw_record.proofs.OnLiterals.{grammar_on_literals}
use Rattle.sw_rules.proofs.OnLiterals.{steps_on_literals}
use Rattle.sw_rows.specs.Replays.{replayed_from}

abbrev worker : KeptWorker
worker = record { script = codes "https://a.test/sw.js"; kind = Classic; body = codes "// v1" }

-- a registration with an active worker that isn't activated, and one with an activated worker and a waiting one
abbrev kept : List Change
kept =
    change.Waiting (codes "https://a.test") (codes "https://a.test/") Imports worker
    ∷ change.Active (codes "https://a.test") (codes "https://a.test/")
    ∷ change.Waiting (codes "https://a.test") (codes "https://a.test/b/") Imports worker
    ∷ change.Active (codes "https://a.test") (codes "https://a.test/b/")
    ∷ change.Activated (codes "https://a.test") (codes "https://a.test/b/")
    ∷ change.Waiting (codes "https://a.test") (codes "https://a.test/b/") Imports worker ∷ []

restarted :
    (replayed_from kept (codes "")).transcript
    ≡ codes "- restarted -> 2 registrations 0 caches\n"
    ++ codes "- activated w0 -> ok | w0 activated\n"
    ++ codes "- activated w1 -> ok | w1 activated\n"
    ++ codes "end done\n"
unfolding digits escape_byte grammar_on_literals steps_on_literals
restarted = refl

abbrev restarted_content : List ℕ
restarted_content =
    codes "registrations 2\n"
    ++ codes "registration \"https://a.test\" \"https://a.test/\" imports\n"
    ++ codes " active activated \"https://a.test/sw.js\" classic 5\n"
    ++ codes "registration \"https://a.test\" \"https://a.test/b/\" imports\n"
    ++ codes " active activated \"https://a.test/sw.js\" classic 5\n"
    ++ codes "caches 0\n"

restarted_shown : (replayed_from kept (codes "")).shown ≡ restarted_content
unfolding digits escape_byte grammar_on_literals steps_on_literals
restarted_shown = refl

restarted_durable : (replayed_from kept (codes "")).durable ≡ restarted_content
unfolding digits escape_byte grammar_on_literals steps_on_literals
restarted_durable = refl
