use Rattle.std.proofs.Common.{[], ◌∷◌, ◌++◌, ◌∙◌, slice_index_or, slice_set, ap}
use Rattle.sw_queue.specs.Lines.{Lists}
use Rattle.sw_queue.proofs.Listing.{list_added}
use Rattle.sw_queue.proofs.followers.Followers.add.Goals as goal

pub returns-clause-lists : goal.returns-clause-lists
returns-clause-lists c =
    let place = c.args.place in
    list_added (λ list. list.items) c.self.inside.lists.items place c.index_mut.result.now _ c.args.number c.index_mut.ensures.value
    c.push_reserved.ensures.items
    ∙ ap (λ (l : Lists). slice_set l.lists place (slice_index_or l.lists place [] ++ c.args.number ∷ [])) c.self.view_is
