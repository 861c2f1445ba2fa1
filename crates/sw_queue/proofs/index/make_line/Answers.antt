use Rattle.std.proofs.Common.{◌∙◌, ◌++◌, List, ℕ, refl, sym, ap}
use Rattle.std.specs.Option.{option_copied_mut}
use Rattle.sw_queue.proofs.Making.{come_count, come_line, come_there, made_count, made_line, made_there}
use Rattle.sw_queue.proofs.index.make_line.Goals as goal

pub returns-in-Some-clause-lines : goal.returns-in-Some-clause-lines
returns-in-Some-clause-lines c k s =
    let found = sym c.get_mut.ensures.value ∙ ap option_copied_mut c.in-Some.is in
    rw (c.get_mut.follows.holds _).0
    (made_line _ c.args.key.now c.args.keys.now.entries c.in-Some.scopes.now c.make_line.new.self found c.make_line.ensures.lines k s)

pub returns-in-Some-clause-count : goal.returns-in-Some-clause-count
returns-in-Some-clause-count c =
    let found = sym c.get_mut.ensures.value ∙ ap option_copied_mut c.in-Some.is in
    rw (c.get_mut.follows.holds _).0
    (made_count _ c.args.key.now c.args.keys.now.entries c.in-Some.scopes.now c.make_line.new.self found c.make_line.ensures.count)

pub returns-in-Some-clause-there : goal.returns-in-Some-clause-there
returns-in-Some-clause-there c =
    let found = sym c.get_mut.ensures.value ∙ ap option_copied_mut c.in-Some.is in
    rw (c.get_mut.follows.holds _).0
    (rw (made_there _ c.args.key.now c.args.keys.now.entries c.in-Some.scopes.now c.make_line.new.self found) c.make_line.ensures.there)

pub returns-in_ok-insert-in-None-clause-lines : goal.returns-in_ok-insert-in-None-clause-lines
returns-in_ok-insert-in-None-clause-lines c k s =
    let nothing = sym c.get_mut.ensures.value ∙ ap option_copied_mut c.in-None.is in
    let name = c.in_ok-extend_from_slice-in-None.ensures.items ∙ ap (λ (xs : List ℕ). xs ++ c.args.key.now) c.new-name.ensures.items in
    let written = c.in_ok-insert-in-None.ensures.entries in
    rw (written, c.get_mut.follows.holds-at-none)
    (come_line _ c.args.key.now c.args.keys.now.entries _ c.extend_from_slice.new.self c.in_ok-scopes-in-None.scopes (λ x y. refl) name nothing
    c.in_ok-scopes-in-None.ensures.lines k s)

pub returns-in_ok-insert-in-None-clause-count : goal.returns-in_ok-insert-in-None-clause-count
returns-in_ok-insert-in-None-clause-count c =
    let nothing = sym c.get_mut.ensures.value ∙ ap option_copied_mut c.in-None.is in
    let name = c.in_ok-extend_from_slice-in-None.ensures.items ∙ ap (λ (xs : List ℕ). xs ++ c.args.key.now) c.new-name.ensures.items in
    let written = c.in_ok-insert-in-None.ensures.entries in
    rw (written, c.get_mut.follows.holds-at-none)
    (come_count _ c.args.key.now c.args.keys.now.entries _ c.extend_from_slice.new.self c.in_ok-scopes-in-None.scopes (λ x y. refl) name nothing
    c.in_ok-scopes-in-None.ensures.count)

pub returns-in_ok-insert-in-None-clause-there : goal.returns-in_ok-insert-in-None-clause-there
returns-in_ok-insert-in-None-clause-there c =
    let nothing = sym c.get_mut.ensures.value ∙ ap option_copied_mut c.in-None.is in
    let name = c.in_ok-extend_from_slice-in-None.ensures.items ∙ ap (λ (xs : List ℕ). xs ++ c.args.key.now) c.new-name.ensures.items in
    let written = c.in_ok-insert-in-None.ensures.entries in
    rw (written, c.get_mut.follows.holds-at-none)
    (rw (come_there _ c.args.key.now c.args.keys.now.entries _ c.extend_from_slice.new.self c.in_ok-scopes-in-None.scopes (λ x y. refl) name nothing)
    c.in_ok-scopes-in-None.ensures.there)
