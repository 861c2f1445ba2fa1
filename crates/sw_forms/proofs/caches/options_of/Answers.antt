-- The options are those of their three parts.
use Rattle.std.proofs.Common.{refl, ◌∙◌}
use Rattle.sw_forms.specs.Caches.{options_of}
use Rattle.sw_forms.proofs.caches.options_of.Goals as goal

pub returns : goal.returns
unfolding options_of
returns c =
    c.options_from.ensures
    ∙ rw (c.option_member-search.ensures, c.option_member-method.ensures, c.option_member-vary.ensures) refl
