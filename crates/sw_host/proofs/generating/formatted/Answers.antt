-- A formatted disk keeps nothing.
use Rattle.sw_disk.specs.Plain.{plain}
use Rattle.sw_host.proofs.StoringLemmas.{formatted}
use Rattle.sw_host.proofs.generating.formatted.Goals as goal

pub returns-in-Ok : goal.returns-in-Ok
returns-in-Ok c =
    (formatted plain c.new-disk.result c.init.new.disk c.in-Ok.ensures.was_not c.in-Ok.ensures.bytes c.in-Ok.ensures.formatted c.in-Ok.ensures.durable).keeps
