use Rattle.std.proofs.Common.{◌≡◌, ◌∙◌, sym, ap, true, arith}
use Rattle.std.specs.Prelude.{option_map}
use Rattle.url.specs.Origin.{is_http}
use Rattle.url.specs.Parser.{parse_url}
use Rattle.sw_data.specs.Addresses.{no_fragment, when_parsed}
use Rattle.sw_url.proofs.AgainLemmas.{parses_bare, parsed_some}
use Rattle.sw_url.proofs.address.accepted.Goals as goal

pub returns-clause-parses : goal.returns-clause-parses
returns-clause-parses c = λ other.
    let http : is_http c.in_ok-url.url.scheme ≡ true = grind arith in
    ap (λ text. when_parsed (parse_url other text)) (c.in_ok-of.ensures ∙ c.bare_text.ensures)
    ∙ parses_bare c.in_ok-url.url other c.path.ensures.valid http
    ∙ ap (option_map no_fragment) (sym (parsed_some _ _ c.in_ok-url.ensures))
