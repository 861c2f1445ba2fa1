-- What it is to tell the durable changes of an outcome (own).
use Rattle.std.specs.Prelude.{◌≡◌, List, Option, IfSome}
use Rattle.sw_data.specs.declared.storage.Change.{Change}
use Rattle.sw_rules.specs.Told.{Outcome}

-- own: these are the durable changes of an outcome, where there is one
abbrev pub HasChanges : Option Outcome → List Change → Type 0
HasChanges found changes = IfSome found (λ outcome. changes ≡ outcome.told.changes)
