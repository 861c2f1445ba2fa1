use Rattle.sw_journal.specs.Content.{Records, content}
use Rattle.sw_journal.specs.Format.{format_2}
use Rattle.sw_journal.specs.WholePart.{IsWhole, placed}
use Rattle.std.proofs.Common.{◌≡◌, ◌∙◌, ◌<◌, ◌^◌, All, length, List, ℕ, sym, subst}
use Rattle.sw_data.specs.declared.storage.Change.{Change}
use Rattle.sw_kept.proofs.Checkpoints.{all_short, if_both, keeps_whole}
use Rattle.sw_kept.specs.Spelling.{IsContents, SpellEach}
use Rattle.sw_kept.proofs.checkpoint.contents_of.Goals as goal

pub part_of-requires : goal.part_of-requires
part_of-requires c =
    subst (λ (payloads : List (List ℕ)). All (λ payload. length payload < 2 ^ 32) payloads) (sym c.deref-2.ensures.value)
    (all_short c.deref.result.now c.in_ok-payloads.payloads.items c.in_ok-payloads.ensures)

pub returns : goal.returns
returns c =
    let kept = c.args.kept.now in
    let payloads = c.deref-2.result.now in
    if_both c.part_of.result (IsWhole payloads) (λ part. content part ≡ Records (placed format_2 16 payloads)) (IsContents kept)
    (λ part whole has. keeps_whole kept payloads part c.requires (subst (λ (changes : List Change). SpellEach changes payloads) (c.deref.ensures.value ∙ c.in_ok-changes.ensures)
    (subst (SpellEach c.deref.result.now) (sym c.deref-2.ensures.value) c.in_ok-payloads.ensures)) whole has)
    c.part_of.ensures.whole c.part_of.ensures.content
