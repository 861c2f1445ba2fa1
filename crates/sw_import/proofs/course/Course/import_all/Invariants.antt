-- What the imports from here on come to, after those before, is what all come to.
use Rattle.std.proofs.Common.{◌≡◌, drop}
use Rattle.sw_import.specs.Checking.{import_all}
use Rattle.sw_import.proofs.course.Course.import_all.Given as goal

abbrev pub invariant-loop-text : goal.invariant-loop-text
invariant-loop-text l =
    import_all l.network l.draws.rows l.script l.self (drop l.text-index l.imports)
    ≡ import_all l.network l.draws.rows l.script l.initial.self l.imports
