use Rattle.std.proofs.Common.{◌≡◌, ◌∙◌, ◌++◌, ◌∷◌, [], ℕ, List, nat_eq, slice_get, Some, None, sym, ap, subst, arith}
use Rattle.std.specs.Map.{keys_of, lookup, values_of}
use Rattle.std.proofs.lemmas.List.{length-map}
use Rattle.std.proofs.lemmas.Option.{slice_get-get_or}
use Rattle.sw_list.proofs.Copying.{fresh_at, one_more}
use Rattle.sw_worker.proofs.copies.copy_event.Goals as goal

pub add-requires-clause-fresh : goal.add-requires-clause-fresh
add-requires-clause-fresh c =
    let entries = c.args.events.now.entries in
    let key : slice_get (keys_of entries) c.args.place ≡ Some c.in-Some.event = grind (arith, c.number.ensures, c.in-Some.is) in
    subst (λ (before : List (ℕ × ℕ)). lookup (nat_eq c.in-Some.event) before ≡ None) (sym c.requires.before)
    (fresh_at entries c.args.place c.in-Some.event c.requires.apart key)

pub returns-in-Some-at : goal.returns-in-Some-at
returns-in-Some-at c =
    let entries = c.args.events.now.entries in
    let event = c.in-Some.event in
    let worker = c.in-Some-at.worker.now in
    let key : slice_get (keys_of entries) c.args.place ≡ Some event = grind (arith, c.number.ensures, c.in-Some.is) in
    let value : slice_get (values_of entries) c.args.place ≡ Some worker = grind (arith, c.at.ensures, c.in-Some-at.is) in
    c.add.ensures.entries
    ∙ (ap (λ (before : List (ℕ × ℕ)). before ++ (event, worker) ∷ []) c.requires.before
    ∙ one_more entries c.args.place event worker key value)

pub returns-in-None-at : goal.returns-in-None-at
returns-in-None-at c =
    let entries = c.args.events.now.entries in
    let none : slice_get (values_of entries) c.args.place ≡ None = grind (arith, c.at.ensures, c.in-None-at.is) in
    let long = length-map entries (λ (entry : ℕ × ℕ). entry.1) in
    let there = slice_get-get_or (values_of entries) c.args.place 0 (omega (arith, long, c.requires.place)) in
    absurd (cc (none, there))

pub returns-in-None : goal.returns-in-None
returns-in-None c =
    let entries = c.args.events.now.entries in
    let none : slice_get (keys_of entries) c.args.place ≡ None = grind (arith, c.number.ensures, c.in-None.is) in
    let long = length-map entries (λ (entry : ℕ × ℕ). entry.0) in
    let there = slice_get-get_or (keys_of entries) c.args.place 0 (omega (arith, long, c.requires.place)) in
    absurd (cc (none, there))
