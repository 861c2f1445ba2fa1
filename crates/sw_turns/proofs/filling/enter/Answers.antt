-- The event has joined the group, or is refused.
use Rattle.std.proofs.Common.{◌≡◌, ◌∙◌, Some, None, Err, sym, ap, subst}
use Rattle.sw_data.specs.declared.events.Event.{Event}
use Rattle.sw_turns.specs.Groups.{IsRefused}
use Rattle.sw_store.specs.declared.errors.StageError.{StageError}
use Rattle.sw_turns.proofs.GroupLemmas.{adds_own, entry_waits, holds, is_refused, joined, leaves_state, same_flying, same_own, same_staged, stays_coherent, stays_flying, stays_under_way, still_too_long}
use Rattle.sw_turns.proofs.filling.enter.Goals as goal

pub unreachable-requires : goal.unreachable-requires
unreachable-requires c =
    let broken : c.args.store.now.since ≡ Some c.in-Err-Broken.field-0-0 =
    (c.in-Err-Broken.ensures.broken c.in-Err-Broken.field-0-0).0 (ap (λ (error : StageError). Err error) c.in-Err-Broken.field-0-is) in
    let whole : c.args.store.now.since ≡ None = c.requires.since in
    absurd cc

pub returns-in-Ok-clause-goes_on : goal.returns-in-Ok-clause-goes_on
returns-in-Ok-clause-goes_on c = λ workers recording base history before lanes below way next.
    joined c.args.event c.args.pass c.args.store.now c.stage.new.self c.in-Ok.ensures.staged c.requires.few c.in-Ok.ensures.goes_on
    workers recording base history lanes below (holds workers recording base history before lanes c.args.store.now c.args.event way next)

pub returns-in-Ok-clause-flights : goal.returns-in-Ok-clause-flights
returns-in-Ok-clause-flights c = λ flights spares flying.
    stays_flying c.args.event c.args.pass c.args.store.now c.stage.new.self c.in-Ok.ensures.staged flights c.requires.coherent spares flying

pub returns-in-Ok-clause-coherent : goal.returns-in-Ok-clause-coherent
returns-in-Ok-clause-coherent c =
    stays_coherent c.args.event c.args.pass c.args.store.now c.stage.new.self c.in-Ok.ensures.staged c.requires.coherent

pub returns-in-Ok-clause-state : goal.returns-in-Ok-clause-state
returns-in-Ok-clause-state c = leaves_state c.args.event c.args.pass c.args.store.now c.stage.new.self c.in-Ok.ensures.staged

pub returns-in-Ok-clause-entry : goal.returns-in-Ok-clause-entry
returns-in-Ok-clause-entry c = entry_waits c.args.event c.args.pass c.args.store.now c.stage.new.self c.in-Ok.ensures.staged

pub returns-in-Ok-clause-own : goal.returns-in-Ok-clause-own
returns-in-Ok-clause-own c = adds_own c.args.event c.args.pass c.args.store.now c.stage.new.self c.in-Ok.ensures.staged

pub returns-in-Err-Full-clause-goes_on : goal.returns-in-Err-Full-clause-goes_on
returns-in-Err-Full-clause-goes_on c = λ workers recording base history before lanes below way next.
    let full = c.in-Err-Full.ensures.full c.in-Err-Full.event c.in-Err-Full.length c.in-Err-Full.needed (ap (λ (error : StageError). Err error) c.in-Err-Full.field-0-is) in
    subst (λ (happened : Event). IsRefused workers recording base history lanes c.stage.new.self happened c.in-Err-Full.length c.in-Err-Full.needed) (sym full.0)
    (is_refused c.args.store.now c.stage.new.self c.in-Err-Full.ensures.same workers recording base history lanes c.args.event c.in-Err-Full.length c.in-Err-Full.needed
    (holds workers recording base history before lanes c.args.store.now c.args.event way next) full.1 full.2 full.3)

-- ---- what a refusal leaves

pub returns-in-Err-NoMemory-clause-flights : goal.returns-in-Err-NoMemory-clause-flights
returns-in-Err-NoMemory-clause-flights c = λ flights spares flying. same_flying c.args.store.now c.stage.new.self c.in-Err-NoMemory.ensures.same flights flying

pub returns-in-Err-NoMemory-clause-own : goal.returns-in-Err-NoMemory-clause-own
returns-in-Err-NoMemory-clause-own c = same_own c.args.store.now c.stage.new.self c.in-Err-NoMemory.ensures.same c.args.pass

pub returns-in-Err-Full-clause-flights : goal.returns-in-Err-Full-clause-flights
returns-in-Err-Full-clause-flights c = λ flights spares flying. same_flying c.args.store.now c.stage.new.self c.in-Err-Full.ensures.same flights flying

pub returns-in-Err-Full-clause-own : goal.returns-in-Err-Full-clause-own
returns-in-Err-Full-clause-own c = same_own c.args.store.now c.stage.new.self c.in-Err-Full.ensures.same c.args.pass

pub returns-in-Err-NoRoom-clause-flights : goal.returns-in-Err-NoRoom-clause-flights
returns-in-Err-NoRoom-clause-flights c = λ flights spares flying. same_flying c.args.store.now c.stage.new.self c.in-Err-NoRoom.ensures.same flights flying

pub returns-in-Err-NoRoom-clause-own : goal.returns-in-Err-NoRoom-clause-own
returns-in-Err-NoRoom-clause-own c = same_own c.args.store.now c.stage.new.self c.in-Err-NoRoom.ensures.same c.args.pass

pub returns-in-Err-NoMemory-clause-goes_on : goal.returns-in-Err-NoMemory-clause-goes_on
returns-in-Err-NoMemory-clause-goes_on c = λ workers recording base history before lanes below way next.
    stays_under_way c.args.store.now c.stage.new.self c.in-Err-NoMemory.ensures.same workers recording base history before way

pub returns-in-Err-NoRoom-clause-goes_on : goal.returns-in-Err-NoRoom-clause-goes_on
returns-in-Err-NoRoom-clause-goes_on c = λ workers recording base history before lanes below way next.
    stays_under_way c.args.store.now c.stage.new.self c.in-Err-NoRoom.ensures.same workers recording base history before way

pub returns-in-Err-NoMemory-clause-still : goal.returns-in-Err-NoMemory-clause-still
returns-in-Err-NoMemory-clause-still c = c.in-Err-NoMemory.ensures.same.state

pub returns-in-Err-Full-clause-still : goal.returns-in-Err-Full-clause-still
returns-in-Err-Full-clause-still c = c.in-Err-Full.ensures.same.state

pub returns-in-Err-NoRoom-clause-still : goal.returns-in-Err-NoRoom-clause-still
returns-in-Err-NoRoom-clause-still c = c.in-Err-NoRoom.ensures.same.state

pub returns-in-Err-NoRoom-clause-alone : goal.returns-in-Err-NoRoom-clause-alone
returns-in-Err-NoRoom-clause-alone c = λ empty.
    absurd ((c.in-Err-NoRoom.ensures.no_room c.in-Err-NoRoom.event (ap (λ (error : StageError). Err error) c.in-Err-NoRoom.field-0-is)).1 empty)

pub returns-in-Err-NoRoom-clause-no_room : goal.returns-in-Err-NoRoom-clause-no_room
returns-in-Err-NoRoom-clause-no_room c = λ kept is.
    let none = c.in-Err-NoRoom.ensures.no_room c.in-Err-NoRoom.event (ap (λ (error : StageError). Err error) c.in-Err-NoRoom.field-0-is) in
    let same : c.in-Err-NoRoom.event ≡ kept = cc in (
      sym same ∙ none.0,
      λ empty. none.1 (sym (same_staged c.args.store.now c.stage.new.self c.in-Err-NoRoom.ensures.same) ∙ empty),
      (none.2.0, still_too_long c.args.store.now c.stage.new.self c.in-Err-NoRoom.ensures.same c.args.event none.2.0 none.2.1),
    )
