-- The laws that are proved so far.
use Rattle.std.proofs.Common.{◌≡◌, ◌∙◌, Some, ap, sym}
use Rattle.sw_rules.specs.Told.{Outcome}
use Rattle.sw_rules.specs.Laws.{IsDetermined}

some_same : (one other : Outcome) → Some one ≡ Some other → one ≡ other
some_same one other is = cc

pub is_determined : IsDetermined
is_determined old happened reply other_reply notices other_notices new other_new one other =
    let one_outcome : Outcome = record { answer = reply; told = record { state = new; notices = notices; changes = one.0 } } in
    let other_outcome : Outcome = record { answer = other_reply; told = record { state = other_new; notices = other_notices; changes = other.0 } } in
    let same = some_same one_outcome other_outcome (sym one.1 ∙ other.1) in
    (ap (λ (o : Outcome). o.answer) same, ap (λ (o : Outcome). o.told.notices) same, ap (λ (o : Outcome). o.told.state) same)
