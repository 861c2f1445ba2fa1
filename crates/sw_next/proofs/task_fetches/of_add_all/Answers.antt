use Rattle.std.proofs.Common.{◌≤◌, length, min, arith}
use Rattle.std.proofs.lemmas.Grind.{common_steps}
use Rattle.sw_next.proofs.FetchLists.{zip_end}
use Rattle.sw_next.proofs.task_fetches.of_add_all.Goals as goal

pub returns : goal.returns
returns c =
    let past : min (length c.as_slice-requests.result.now) (length c.as_slice-fetches.result.now) ≤ c.loop-place.place =
    omega (arith, c.min-place-end.ensures, c.loop-place-test.false) in
    let none = zip_end c.loop-place.place c.as_slice-requests.result.now c.as_slice-fetches.result.now past in
    grind (arith, common_steps, none, c.loop-place.invariant, c.as_slice-requests.ensures, c.as_slice-fetches.ensures)
