-- How long a vector can be.
use Rattle.std.specs.Prelude.{◌<◌, ◌^◌, ℕ, length, Vec}
use Rattle.std.proofs.Common.{subst, lt_of_le_of_lt}
use Rattle.std.specs.declared.alloc.Global.{Global}

-- a vector of bytes has fewer than 2^63
pub vec_small : (v : Vec ℕ Global) → length v.items < 2 ^ 63
vec_small v = subst (λ n. n < 2 ^ 63) v.ok.0 (lt_of_le_of_lt v.ok.1 v.small)
