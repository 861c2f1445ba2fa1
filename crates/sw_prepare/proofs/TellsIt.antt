-- What is told under a call's result.
use Rattle.std.proofs.Common.{◌≡◌, ◌∙◌, List, Option, Some, None}
use Rattle.std.specs.Prelude.{Vec, Result, Ok, Err, IfOk}
use Rattle.std.specs.declared.alloc.Global.{Global}
use Rattle.sw_data.specs.declared.base.no_memory.NoMemory.{NoMemory}
use Rattle.sw_data.specs.declared.storage.Change.{Change}
use Rattle.sw_prepare.specs.Telling.{HasChanges}
use Rattle.sw_rules.specs.Told.{Outcome}

-- changes that are those that an outcome has
pub tells_so : (found : Option Outcome) (changes told : List Change) → changes ≡ told → HasChanges found told → HasChanges found changes
tells_so None changes told is has = tt
tells_so (Some outcome) changes told is has = is ∙ has

pub told_ok : (result : Result (Vec Change Global) NoMemory) (found : Option Outcome) (told : List Change) → HasChanges found told
    → IfOk result (λ changes. changes.items ≡ told) → IfOk result (λ changes. HasChanges found changes.items)
told_ok (Ok changes) found told has is = tells_so found changes.items told is has
told_ok (Err why) found told has is = tt
