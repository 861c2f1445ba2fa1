-- Laws of usage, each proved by the public call of `sw_bucket::laws` that has its name.
use Rattle.std.specs.Prelude.{◌≡◌, true, nat_lt}
use Rattle.std.specs.List.{list_all}
use Rattle.sw_rules.specs.Durable.{durable}
use Rattle.sw_rules.specs.State.{State}
use Rattle.sw_sizes.specs.Usage.{keys_of_kept, usage_of}

-- each key that has a kept registration or a cache in a state has usage
abbrev pub HaveUsage : Type 0
HaveUsage = (state : State) → list_all (λ key. nat_lt 0 (usage_of key (durable state))) (keys_of_kept (durable state)) ≡ true
