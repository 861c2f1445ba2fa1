use Rattle.std.proofs.Common.{◌∙◌, is_some, option_map, ap}
use Rattle.sw_pages.proofs.Preloading.{is_shown}
use Rattle.sw_pages.proofs.preload.is_active.Goals as goal

pub returns : goal.returns
returns c =
    c.is_some.ensures ∙ is_shown c.slot_row.result ∙ ap (λ found. is_some (option_map (λ row. row.number) found)) c.slot_row.ensures.row
