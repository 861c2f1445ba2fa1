-- The registration where the walk stands counts where it is mapped, and the rest is left.
use Rattle.std.proofs.Common.{◌∙◌, ℕ, Option, ap, arith}
use Rattle.std.specs.Int.{from_bool}
use Rattle.std.specs.Prelude.{is_some}
use Rattle.sw_cachestorage.proofs.ForgetWalk.{all_counted, few_behind, none_counted, one_counted, one_most}
use Rattle.sw_cachestorage.proofs.Walks.{nearer, stands_at}
use Rattle.sw_reg.specs.Table.{first_of, next_of}
use Rattle.sw_state.specs.Hosted.{Hosted}
use Rattle.sw_cachestorage.proofs.forgetting.mapped_many.Goals as goal

pub loop-at-init : goal.loop-at-init
loop-at-init c =
    none_counted c.args.key.now c.args.host.now c.first_of-at.result
    (c.first_of-at.ensures ∙ ap (λ (h : Hosted). first_of c.args.key.now h.registrations.rows) c.host.view_is)

pub overflow_add-many : goal.overflow_add-many
overflow_add-many c =
    let few = few_behind c.args.key.now c.args.host.now c.loop-at.many c.loop-at.at c.in-Some.number c.loop-at.invariant c.in-Some.is in
    let most = one_most c.is_some.result in
    omega (arith, few, c.from-many.ensures, most)

pub loop-at-preserved : goal.loop-at-preserved
loop-at-preserved c =
    one_counted c.args.key.now c.args.host.now c.loop-at.many c.loop-at.at c.in-Some.number c.loop-at.invariant c.in-Some.is c.next_of-at.result
    (c.next_of-at.ensures ∙ ap (λ (h : Hosted). next_of c.in-Some.number h.registrations.rows) c.host.view_is)
    c.from-many.result
    (c.from-many.ensures ∙ ap from_bool (c.is_some.ensures ∙ ap (λ (o : Option ℕ). is_some o) c.mapped_at.ensures.number))

pub loop-at-smaller : goal.loop-at-smaller
loop-at-smaller c =
    let rows = c.args.host.now.registrations.rows in
    nearer c.args.key.now rows c.loop-at.at c.in-Some.number c.next_of-at.result
    (stands_at c.args.key.now rows c.loop-at.at c.in-Some.number c.loop-at.invariant.stands c.in-Some.is) c.in-Some.is
    (c.next_of-at.ensures ∙ ap (λ (h : Hosted). next_of c.in-Some.number h.registrations.rows) c.host.view_is)

pub returns : goal.returns
returns c = all_counted c.args.key.now c.args.host.now c.loop-at.many c.loop-at.at c.loop-at.invariant c.in_default.is
