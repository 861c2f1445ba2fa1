use Rattle.std.proofs.Common.{List, ℕ, Some, sym, ◌∙◌, ap, subst}
use Rattle.sw_kept.specs.Keeping.{KeepsNow}
use Rattle.sw_store.proofs.store.Store.commit.Goals as goal
use Rattle.sw_store.specs.Stores.{StoreState}

pub returns-in-Ok-clause-keeps : goal.returns-in-Ok-clause-keeps
returns-in-Ok-clause-keeps g c kept all is keeps =
    let payload = c.payload.ensures ∙ ap (λ (s : StoreState). s.payload) c.self.view_is in
    c.in-Ok.ensures.keeps kept all (is ∙ ap (λ (l : List ℕ). Some l) (sym payload))
    (subst (λ (s : StoreState). KeepsNow s.twin kept g.D.Disk c.args.disk.now) (sym c.self.view_is) keeps)

pub returns-in-Ok-clause-acknowledged : goal.returns-in-Ok-clause-acknowledged
returns-in-Ok-clause-acknowledged g c kept all is keeps =
    let payload = c.payload.ensures ∙ ap (λ (s : StoreState). s.payload) c.self.view_is in
    c.in-Ok.ensures.acknowledged kept all (is ∙ ap (λ (l : List ℕ). Some l) (sym payload))
    (subst (λ (s : StoreState). KeepsNow s.twin kept g.D.Disk c.args.disk.now) (sym c.self.view_is) keeps)
