use Rattle.std.proofs.Common.{◌∙◌, sym, ap}
use Rattle.sw_net.specs.Places.{noted}
use Rattle.sw_net.proofs.Noting.{noted_more}
use Rattle.sw_net.proofs.note.Goals as goal

pub returns-in_ok-push-in-Some : goal.returns-in_ok-push-in-Some
returns-in_ok-push-in-Some c asked =
    let more = c.push.new.self in
    ap (λ entries. noted (λ key. key.items) (λ own. own.items) entries asked) (c.get_mut.follows.holds more).0
    ∙ noted_more (λ key. key.items) (λ own. own.items) c.args.address.now asked c.args.at c.args.places.now.entries
    c.in-Some.own.now more c.in_ok-push-in-Some.ensures.items (sym c.in-Some.ensures.value)
