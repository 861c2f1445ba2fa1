-- What the page has, or its refusal, is what the place has.
use Rattle.std.proofs.Common.{◌≡◌, ◌∙◌, ap, arith}
use Rattle.std.specs.Prelude.{Ok, Err}
use Rattle.sw_cachestorage.proofs.PlaceLemmas.{given, refused}
use Rattle.sw_url.specs.Pages.{page_key}
use Rattle.sw_cachestorage.proofs.place.place_key.Goals as goal

pub returns-in-Ok : goal.returns-in-Ok
returns-in-Ok c =
    let is : page_key c.args.place.now.at c.args.place.now.partition ≡ Ok c.in-Ok.key = grind (arith, c.in_ok-key.ensures, c.unboxed_option.ensures, c.in-Ok.is) in
    given c.args.place.now c.in-Ok.key is

pub returns-in-Err : goal.returns-in-Err
returns-in-Err c =
    let is : page_key c.args.place.now.at c.args.place.now.partition ≡ Err c.in-Err.refusal = grind (arith, c.in_ok-key.ensures, c.unboxed_option.ensures, c.in-Err.is) in
    ap Err c.fault_of.ensures ∙ refused c.args.place.now c.in-Err.refusal is
