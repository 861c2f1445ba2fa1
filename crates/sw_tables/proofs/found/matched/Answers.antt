use Rattle.sw_tables.proofs.Lookups.{matched_shown}
use Rattle.sw_tables.proofs.found.matched.Goals as goal

pub returns : goal.returns
returns c = λ of_workers of_clients rest.
    let shown = matched_shown c.args.map.now c.args.registrations.now c.requires.places c.requires.scopes c.match_is_the_longest_front.ensures c.args.key.now c.args.address.now of_workers of_clients rest in
    cc (shown, c.longest.ensures)
