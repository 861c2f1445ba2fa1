use Rattle.std.proofs.Common.{◌≡◌, ◌∙◌, ◌++◌, ◌∷◌, ◌<◌, [], ℕ, List, None, Option, ap, arith, length, subst, sym}
use Rattle.std.specs.Option.{IfSome, option_map_or}
use Rattle.std.proofs.lemmas.Grind.{common_steps}
use Rattle.std.proofs.lemmas.List.{length-map}
use Rattle.sw_data.specs.declared.rows.RegistrationRow.{RegistrationRow}
use Rattle.sw_reg.specs.declared.by_key.Ends.{Ends}
use Rattle.sw_reg.specs.ByKey.{ends_of, keys_of, with_link}
use Rattle.sw_reg.proofs.Indexing.{index_more, last_linked, written}
use Rattle.sw_reg.proofs.by_key.ByKey.add.Goals as goal

pub link-first-requires : goal.link-first-requires
link-first-requires c =
    let found : c.copied-ends.result ≡ ends_of c.args.key c.args.self.now = cc (c.get.ensures.value, c.copied-ends.ensures) in
    let same : c.deref_mut.result.now ≡ c.args.self.now.links.items = cc c.deref_mut.ensures.value in
    subst (λ (ends : Option Ends). IfSome ends (λ ends. ends.last < length c.deref_mut.result.now)) (sym found)
    (subst (λ links. IfSome (ends_of c.args.key c.args.self.now) (λ ends. ends.last < length links)) (sym same)
    (last_linked (keys_of c.args.rows.now) c.args.self.now c.args.key c.requires.index))

pub returns-clause-index : goal.returns-clause-index
returns-clause-index c =
    let found : c.copied-ends.result ≡ ends_of c.args.key c.args.self.now = cc (c.get.ensures.value, c.copied-ends.ensures) in
    let same : c.deref_mut.result.now ≡ c.args.self.now.links.items = cc c.deref_mut.ensures.value in
    let n = length c.args.rows.now in
    let long : c.args.self.now.links.len ≡ length c.link-first.new.links = omega (arith, c.link-first.auto.links, c.deref_mut.ensures.len, ap length same) in
    index_more (keys_of c.args.rows.now) c.args.key c.args.self.now (record { ends = c.insert.new.self; links = c.push_reserved.new.self }) c.link-first.result n c.requires.index
    (sym (length-map c.args.rows.now (λ (row : RegistrationRow). row.key)))
    (c.link-first.ensures.first ∙ ap (λ (ends : Option Ends). option_map_or (λ ends. ends.first) ends n) found)
    (λ key. grind (arith, common_steps))
    (c.push_reserved.ensures.items ∙ ap (λ (links : List (Option ℕ)). links ++ None ∷ []) (written _ c.link-first.new.links c.args.self.now.links.items long ∙ (c.link-first.ensures.links ∙ (λ i. with_link (found i) n (same i)))))
