-- The text of what is kept.
use Rattle.std.specs.Prelude.{ℕ, Bool, true, false, not, ◌&&◌, List, [], ◌++◌, length, flat_map, codes, decimal, bytes_eq, Option, Some, None, if◌then◌else◌}
use Rattle.json.specs.Print.{quoted}
use Rattle.sw_data.specs.declared.storage.Kept.{Kept}
use Rattle.sw_data.specs.declared.storage.KeptCache.{KeptCache}
use Rattle.sw_data.specs.declared.storage.KeptRegistration.{KeptRegistration}
use Rattle.sw_data.specs.declared.storage.KeptWorker.{KeptWorker}
use Rattle.sw_data.specs.declared.workers.Kind.{Kind}
use Rattle.sw_data.specs.declared.workers.Kind.TheVariants as kind
use Rattle.sw_data.specs.declared.workers.Mode.{Mode}
use Rattle.sw_data.specs.declared.workers.Mode.TheVariants as mode
use Rattle.sw_print.specs.Transcript.{spaced, switch_word}

abbrev pub mode_word : Mode → List ℕ
mode_word mode.Imports = codes "imports"
mode_word mode.All = codes "all"
mode_word mode.Never = codes "none"

abbrev pub kind_word : Kind → List ℕ
kind_word kind.Classic = codes "classic"
kind_word kind.Module = codes "module"

abbrev pub active_word : Bool → List ℕ
active_word true = codes "activated"
active_word false = codes "activating"

-- a worker behind its slot and its state: its script, its type and its body's length
abbrev pub worker_line : List ℕ → List ℕ → KeptWorker → List ℕ
worker_line place state worker =
    spaced place ++ spaced state ++ spaced (quoted worker.script) ++ spaced (kind_word worker.kind)
    ++ spaced (decimal (length worker.body)) ++ codes "\n"

abbrev pub slot_line : List ℕ → List ℕ → Option KeptWorker → List ℕ
slot_line place state None = []
slot_line place state (Some worker) = worker_line place state worker

-- the preload line, where the flag isn't off or the value isn't `true`
abbrev pub preload_line : KeptRegistration → List ℕ
preload_line row =
    if not row.preload && bytes_eq row.preload_value (codes "true") then []
    else codes " preload" ++ spaced (switch_word row.preload) ++ spaced (quoted row.preload_value) ++ codes "\n"

abbrev pub registration_lines : KeptRegistration → List ℕ
registration_lines row =
    codes "registration" ++ spaced (quoted row.key) ++ spaced (quoted row.scope) ++ spaced (mode_word row.mode)
    ++ codes "\n" ++ slot_line (codes "waiting") (codes "installed") row.waiting
    ++ slot_line (codes "active") (active_word row.activated) row.active ++ preload_line row

abbrev pub cache_line : KeptCache → List ℕ
cache_line row =
    codes "cache" ++ spaced (quoted row.key) ++ spaced (quoted row.name) ++ spaced (decimal (length row.pairs))
    ++ codes "\n"

-- the text of a kept content (own)
abbrev pub shown : Kept → List ℕ
shown kept =
    codes "registrations " ++ decimal (length kept.registrations) ++ codes "\n"
    ++ flat_map registration_lines kept.registrations
    ++ codes "caches " ++ decimal (length kept.caches) ++ codes "\n" ++ flat_map cache_line kept.caches
