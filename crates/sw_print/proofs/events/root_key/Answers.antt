use Rattle.std.proofs.Common.{◌≡◌, ◌∙◌, ◌==◌, ◌++◌, List, ℕ, Option, string_bytes, IfOk, append_assoc, codes, sym, ap, subst}
use Rattle.std.specs.List.{before_last}
use Rattle.sw_data.specs.Keys.{partitioned}
use Rattle.sw_print.specs.Transcript.{root_key}
use Rattle.sw_print.proofs.events.root_key.Goals as goal

pub returns-in-Some : goal.returns-in-Some
returns-in-Some c =
    let front = c.before_slash-origin.result.now in
    let partition = c.as_str-partition.result.now in
    let origin = before_last (λ b. b == 47) c.args.place.now.at in
    let front_is : front ≡ origin = c.before_slash-origin.ensures ∙ ap (before_last (λ b. b == 47)) c.as_str.ensures in
    let joined : front ++ (codes "^" ++ partition) ≡ root_key c.args.place.now =
    sym (append_assoc front (codes "^") partition)
    ∙ ap (λ (o : List ℕ). o ++ codes "^" ++ partition) front_is
    ∙ ap (λ (p : List ℕ). origin ++ codes "^" ++ p) (c.as_str-partition.ensures ∙ c.get.ensures)
    ∙ ap (λ (p : Option (List ℕ)). partitioned p origin) (sym c.in-Some.is) in
    subst (λ (text : List ℕ). IfOk c.format.result (λ key. string_bytes key ≡ text)) joined c.format.ensures.ok
