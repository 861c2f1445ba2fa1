-- Operations whose addresses are parsed one after another.
use Rattle.std.proofs.Common.{◌≡◌, ◌∙◌, ◌+◌, ◌<◌, ℕ, List, [], ◌∷◌, ◌++◌, drop, get_or, length, Option, Some, None, ap, sym}
use Rattle.std.specs.Prelude.{Result, Ok, Err}
use Rattle.std.proofs.lemmas.List.{append_assoc, drop_more}
use Rattle.sw_data.specs.declared.exchange.Op.{Op}
use Rattle.sw_rules.specs.Caching.{parsed_op, parsed_ops}

-- what the rest comes to, behind these
abbrev pub behind : List Op → Result (List Op) (List Op) → Result (List Op) (List Op)
behind so_far (Ok others) = Ok (so_far ++ others)
behind so_far (Err before) = Err (so_far ++ before)

-- the operation at this place parses
pub parses : (base : List ℕ) (ops so_far : List Op) (place : ℕ) → parsed_ops base ops ≡ behind so_far (parsed_ops base (drop place ops))
    → (first : Op) → first ≡ get_or ops place first → place < length ops → (parsed : Op) → parsed_op base first ≡ Some parsed
    → parsed_ops base ops ≡ behind (so_far ++ parsed ∷ []) (parsed_ops base (drop (place + 1) ops))
parses base ops so_far place so_far_is first is within parsed found =
    so_far_is
    ∙ ((λ i. behind so_far (parsed_ops base ((drop_more ops place first within ∙ ap (λ op. op ∷ drop (place + 1) ops) (sym is)) i)))
    ∙ (ap (λ o. behind so_far (after o)) found ∙ by (parsed_ops base (drop (place + 1) ops))))
  where
    after : Option Op → Result (List Op) (List Op)
    after one =
        elim one [
          | None ↦ Err []
          | Some op ↦ elim (parsed_ops base (drop (place + 1) ops)) [ Ok others ↦ Ok (op ∷ others) | Err before ↦ Err (op ∷ before) ]
        ]

    by : (rest : Result (List Op) (List Op))
        → behind so_far (elim rest [ Ok others ↦ Ok (parsed ∷ others) | Err before ↦ Err (parsed ∷ before) ]) ≡ behind (so_far ++ parsed ∷ []) rest
    by (Ok others) = ap Ok (sym (append_assoc so_far (parsed ∷ []) others))
    by (Err before) = ap Err (sym (append_assoc so_far (parsed ∷ []) before))
