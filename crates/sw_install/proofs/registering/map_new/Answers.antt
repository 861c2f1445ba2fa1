use Rattle.std.proofs.Common.{◌≡◌, ℕ, find, map, length, true, refl, sym, ap, subst}
use Rattle.std.proofs.lemmas.List.{length-map}
use Rattle.sw_data.specs.declared.rows.JobRow.{JobRow}
use Rattle.sw_data.specs.declared.rows.RegistrationRow.{RegistrationRow}
use Rattle.sw_install.proofs.Enabled.{if_some, some_if}
use Rattle.sw_install.proofs.Made.{made_names}
use Rattle.sw_install.proofs.Ready.{passing}
use Rattle.sw_install.proofs.Standing.{no_rest}
use Rattle.sw_install.specs.Runs.{IsNewRegistration, drawn, is_of_job, is_ready}
use Rattle.sw_reg.specs.Table.{has_registration}
use Rattle.sw_rules.specs.Noticing.{Did}
use Rattle.sw_rules.specs.Registering as rules
use Rattle.sw_rules.specs.Registrations.{map_registration, new_registration}
use Rattle.sw_rules.specs.Rows.{is_job}
use Rattle.sw_rules.specs.State.{State}
use Rattle.sw_tables.proofs.Chain.{did_then}
use Rattle.sw_tables.proofs.Rows.{found_number}
use Rattle.sw_tables.specs.Happened.{with_jobs}
use Rattle.sw_tables.specs.Lent.{lent, shown_registration}
use Rattle.sw_install.proofs.registering.map_new.Goals as goal

pub fetch_script-requires-clause-names : goal.fetch_script-requires-clause-names
unfolding map_registration
fetch_script-requires-clause-names c =
    let jobs = c.args.queues.now.rows in
    let old = c.args.registrations.now.rows in
    let new = c.map_registration-registration.new.registrations.rows in
    let ready = passing (is_ready jobs) (find (is_job c.args.job) jobs) c.requires.ready in
    let row = ready.0 in
    let is = if_some (λ (r : JobRow). IsNewRegistration c.args.row c.args.scope r.job c.args.map.now c.args.registrations.now c.args.clients.now)
    (find (is_job c.args.job) jobs) row ready.1 c.requires.new in
    let did = c.map_registration-registration.ensures.did c.args.workers.now no_rest row.job refl refl
    (sym (ap (λ (r : RegistrationRow). r.key) is.new)) (sym (ap (λ (r : RegistrationRow). r.scope) is.new)) (sym (ap (λ (r : RegistrationRow). r.mode) is.new)) in
    let made = ap (λ (s : State). s.registrations) did.state in
    let names = made_names c.args.map.now c.map_registration-registration.new.map no_rest row.job old new
    (new_registration (length (map (shown_registration c.args.map.now no_rest) old)) row.job) c.requires.linked.slots.registration_places made
    (length-map old (shown_registration c.args.map.now no_rest)) refl refl in
    some_if (λ (r : JobRow). has_registration (is_of_job r.job) c.map_registration-registration.result new ≡ true) (find (is_job c.args.job) jobs) row ready.1
    (subst (λ (n : ℕ). has_registration (is_of_job row.job) n new ≡ true) (sym c.map_registration-registration.ensures.number) names)

pub returns-clause-did : goal.returns-clause-did
returns-clause-did c = λ rest row there ordinal preload value.
    let jobs = c.args.queues.now.rows in
    let after = c.map_registration-registration.new.notices in
    let registrations = c.map_registration-registration.new.registrations in
    let is = if_some (λ (r : JobRow). IsNewRegistration c.args.row c.args.scope r.job c.args.map.now c.args.registrations.now c.args.clients.now)
    (find (is_job c.args.job) jobs) row there c.requires.new in
    let first : State = lent c.args.map.now c.args.workers.now c.args.registrations.now c.args.clients.now (with_jobs jobs rest) in
    let second : State = lent c.map_registration-registration.new.map c.args.workers.now registrations c.args.clients.now (with_jobs jobs rest) in
    let last : State = lent c.map_registration-registration.new.map c.args.workers.now registrations c.args.clients.now (drawn row.job.script (with_jobs c.fetch_script.new.queues.rows rest)) in
    did_then (map_registration first row.job) (λ mapped. rules.fetch_script mapped row.job (length c.args.registrations.now.rows)) c.args.notices.now after after second last
    (c.map_registration-registration.ensures.did c.args.workers.now (with_jobs jobs rest) row.job preload value
    (sym (ap (λ (r : RegistrationRow). r.key) is.new)) (sym (ap (λ (r : RegistrationRow). r.scope) is.new)) (sym (ap (λ (r : RegistrationRow). r.mode) is.new)))
    (subst (λ (n : ℕ). Did (rules.fetch_script second row.job n) after after last) c.map_registration-registration.ensures.number
    (c.fetch_script.ensures.did c.map_registration-registration.new.map c.args.workers.now c.args.clients.now rest row.job after
    (found_number (λ (r : JobRow). r.job.number) c.args.job jobs row there) ordinal))
