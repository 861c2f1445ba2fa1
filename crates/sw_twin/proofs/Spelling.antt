-- What a record adds to a part that is being spelled.
use Rattle.std.proofs.Common.{◌≡◌, ℕ, List, ◌++◌, sym, ◌∙◌, ap, append_assoc}

pub record_added : (part gate size number payload : List ℕ) → (((part ++ gate) ++ size) ++ number) ++ payload ≡ part ++ (gate ++ ((size ++ number) ++ payload))
record_added part gate size number payload =
    append_assoc ((part ++ gate) ++ size) number payload
    ∙ append_assoc (part ++ gate) size (number ++ payload)
    ∙ append_assoc part gate (size ++ (number ++ payload))
    ∙ ap (λ (l : List ℕ). part ++ (gate ++ l)) (sym (append_assoc size number payload))
