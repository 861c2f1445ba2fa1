-- Rosters, from their lines to what is read, computed.
use Rattle.std.specs.Prelude.{◌≡◌, ⊤, ◌++◌, [], ◌∷◌, true, false, codes, None, Ok, Err, refl}
use Rattle.sw_data.specs.declared.recordings.Action.TheVariants as action
use Rattle.sw_data.specs.declared.workers.Kind.TheVariants as kind
use Rattle.sw_data.specs.declared.workers.Mode.TheVariants as mode
use Rattle.sw_forms.specs.declared.error.LineCause.TheVariants as cause
use Rattle.sw_forms.specs.declared.error.Limit.TheVariants as limit
use Rattle.sw_forms.specs.declared.error.RecordingError.TheVariants as error
use Rattle.sw_readers.specs.declared.inputs.RosterLine.TheVariants as line
use Rattle.sw_record.proofs.OnLiterals.{grammar_on_literals}
use Rattle.sw_readers.specs.Roster.{asked, focus_line, get_asked, get_line, list_asked, list_line, roster_action, roster_of, with_roster_line, with_value}

unfoldable roster_on_literals : ⊤
unfolding grammar_on_literals asked focus_line get_asked get_line list_asked list_line roster_action roster_of with_roster_line with_value
roster_on_literals = tt

a_roster :
    roster_of
    (codes "{\"fetch\":\"https://a.test/sw.js\",\"error\":true}\n"
    ++ codes "{\"lane\":0,\"do\":\"register\",\"client\":1,\"script\":\"/sw.js\"}\n"
    ++ codes "{\"focus\":4294967295}\n"
    ++ codes "{\"lane\":0,\"do\":\"close\",\"client\":2}\n"
    ++ codes "{\"get\":1,\"worker\":0}\n"
    ++ codes "{\"lane\":0,\"do\":\"await\",\"of\":0}\n"
    ++ codes "{\"list\":0,\"uncontrolled\":false}\n"
    ++ codes "{\"list\":7,\"uncontrolled\":true}")
    ≡ Ok (record {
      fetches = record { fetch = codes "https://a.test/sw.js"; fetched = None } ∷ [];
      lines =
          line.Action (action.Register (record {
            client = 1;
            script = codes "/sw.js";
            scope = None;
            kind = kind.Classic;
            mode = mode.Imports;
          }))
          ∷ line.Focus 4294967295
          ∷ line.Action (action.Close 2)
          ∷ line.Get 1 0
          ∷ line.Action (action.Await 0)
          ∷ line.List 0 false
          ∷ line.List 7 true
          ∷ [];
    })
unfolding roster_on_literals
a_roster = refl

another_lane :
    roster_of
    (codes "{\"focus\":1}\n"
    ++ codes "{\"lane\":1,\"do\":\"close\",\"client\":1}\n")
    ≡ Err (error.BadLine 2 cause.Form)
unfolding roster_on_literals
another_lane = refl

a_lane_past_the_limit :
    roster_of
    (codes "{\"lane\":64,\"do\":\"close\",\"client\":1}\n")
    ≡ Err (error.TooLarge 1 limit.Lanes)
unfolding roster_on_literals
a_lane_past_the_limit = refl

what_is_asked_is_no_action :
    roster_of
    (codes "{\"lane\":0,\"do\":\"close\",\"client\":1}\n"
    ++ codes "{\"focus\":1}\n"
    ++ codes "{\"lane\":0,\"do\":\"await\",\"of\":1}\n")
    ≡ Err (error.BadLine 3 cause.Await)
unfolding roster_on_literals
what_is_asked_is_no_action = refl

a_client_past_32_bits :
    roster_of
    (codes "{\"focus\":4294967296}\n")
    ≡ Err (error.BadLine 1 cause.Form)
unfolding roster_on_literals
a_client_past_32_bits = refl

a_get_without_worker :
    roster_of
    (codes "{\"get\":1}\n")
    ≡ Err (error.BadLine 1 cause.Form)
unfolding roster_on_literals
a_get_without_worker = refl

a_list_of_no_truth_value :
    roster_of
    (codes "{\"list\":1,\"uncontrolled\":0}\n")
    ≡ Err (error.BadLine 1 cause.Form)
unfolding roster_on_literals
a_list_of_no_truth_value = refl

what_is_asked_has_nothing_else :
    roster_of
    (codes "{\"focus\":1,\"lane\":0}\n")
    ≡ Err (error.BadLine 1 cause.Form)
unfolding roster_on_literals
what_is_asked_has_nothing_else = refl
