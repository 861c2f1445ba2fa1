use Rattle.std.proofs.Common.{◌∙◌, ◌+◌, ◌≤◌, ℕ, Option, Some, None, refl, sym, subst}
use Rattle.sw_client.specs.Table.{users_of}
use Rattle.sw_data.specs.declared.answers.Answer.TheVariants as answer
use Rattle.sw_rules.specs.Clients as rules
use Rattle.sw_rules.specs.Rows as rows_of
use Rattle.sw_rules.specs.State.{FetchEvent, State}
use Rattle.sw_rules.specs.Told.{Outcome, answered}
use Rattle.sw_tables.proofs.Chain.{did_quietly}
use Rattle.sw_tables.specs.Happened.{Happened}
use Rattle.sw_tables.specs.Lent.{lent}
use Rattle.sw_activate.proofs.Pending.{none_pending, room_for, some_pending}
use Rattle.sw_activate.proofs.Names.{owner_there, registration_shown}
use Rattle.sw_activate.proofs.events.end_event.Goals as goal

pub end_of-requires-clause-there : goal.end_of-requires-clause-there
end_of-requires-clause-there c =
    let found = some_pending c.args.workers.now c.args.event c.in-Some.registration (sym c.registration_of.ensures ∙ c.in-Some.is) in
    owner_there c.args.workers.now c.args.registrations.now c.requires.linked.slots found.0.worker c.in-Some.registration found.2

pub end_of-requires-clause-room : goal.end_of-requires-clause-room
end_of-requires-clause-room c =
    room_for c.args.workers.now c.args.event c.in-Some.registration (λ n. 5 + users_of n c.args.clients.now.rows ≤ c.args.notices.now.spare)
    (sym c.registration_of.ensures ∙ c.in-Some.is) c.requires.room

pub returns-in-Some-clause-did : goal.returns-in-Some-clause-did
returns-in-Some-clause-did c = λ rest.
    let found = some_pending c.args.workers.now c.args.event c.in-Some.registration (sym c.registration_of.ensures ∙ c.in-Some.is) in
    let before : State = lent c.args.map.now c.args.workers.now c.args.registrations.now c.args.clients.now rest in
    let after : State = lent c.args.map.now c.end_of.new.workers c.end_of.new.registrations c.end_of.new.clients rest in
    let owned = registration_shown c.args.map.now c.args.workers.now c.args.registrations.now c.args.clients.now rest found.0.worker ∙ found.2 in
    let on_registration : Option ℕ → Outcome = λ o.
    elim o [
      | None ↦ record { answer = answer.Ok; told = rules.remove_event before c.args.event }
      | Some registration ↦ record { answer = answer.Ok; told = rules.end_event before c.args.event registration }
    ] in
    let on_event : Option FetchEvent → Outcome = λ o.
    elim o [
      | None ↦ answered before answer.NoEvent
      | Some row ↦ on_registration (rows_of.registration_of before row.worker)
    ] in
    subst (λ (o : Option FetchEvent). Happened (Some (on_event o)) (Some answer.Ok) c.args.notices.now c.end_of.new.notices before after) (sym found.1)
    (subst (λ (o : Option ℕ). Happened (Some (on_registration o)) (Some answer.Ok) c.args.notices.now c.end_of.new.notices before after) (sym owned)
    (refl, c.end_of.ensures.did rest))

pub returns-in-None-clause-did : goal.returns-in-None-clause-did
returns-in-None-clause-did c = λ rest.
    let none = none_pending c.args.workers.now c.args.registrations.now c.requires.linked.slots c.args.event (sym c.registration_of.ensures ∙ c.in-None.is) in
    let before : State = lent c.args.map.now c.args.workers.now c.args.registrations.now c.args.clients.now rest in
    let on_event : Option FetchEvent → Outcome = λ o.
    elim o [
      | None ↦ answered before answer.NoEvent
      | Some row ↦
          elim (rows_of.registration_of before row.worker) [
            | None ↦ record { answer = answer.Ok; told = rules.remove_event before c.args.event }
            | Some registration ↦ record { answer = answer.Ok; told = rules.end_event before c.args.event registration }
          ]
    ] in
    subst (λ (o : Option FetchEvent). Happened (Some (on_event o)) (Some answer.NoEvent) c.args.notices.now c.args.notices.now before before) (sym none)
    (refl, did_quietly (answered before answer.NoEvent).told c.args.notices.now before refl refl)
