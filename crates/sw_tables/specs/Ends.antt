-- When a handler has come to its end, by what is kept.
use Rattle.std.specs.Prelude.{Bool, not, ◌&&◌, ◌==◌, length, nat_le}
use Rattle.sw_data.specs.declared.recordings.Handlers.{Handlers}
use Rattle.sw_data.specs.declared.rows.HandlerRow.{HandlerRow}
use Rattle.sw_data.specs.declared.workers.Phase.{Phase}
use Rattle.sw_data.specs.declared.workers.Phase.TheVariants as phase
use Rattle.sw_rules.specs.Rows.{is_install}
use Rattle.sw_worker.specs.Table.{calls_of}

-- own: the test of a phase
abbrev pub is_in : Phase → Phase → Bool
is_in phase.Install = is_install
is_in phase.Activate = λ other. not (is_install other)

-- own: a handler of this phase has made its calls, and its addAlls have settled
abbrev pub has_ended : Phase → Handlers → HandlerRow → Bool
has_ended phase handlers handler =
    is_in phase handler.phase && nat_le (length (calls_of phase handlers)) handler.made && handler.unsettled == 0
