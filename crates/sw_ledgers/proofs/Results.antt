-- What a call that succeeds ensures.
use Rattle.std.specs.Prelude.{Result, Ok, Err, IsOk, OnOk}

pub on_ok : {T E : Type 0} {P : Type 0} (r : Result T E) → OnOk r P → IsOk r → P
on_ok (Ok v) says is = says
on_ok (Err v) says is = absurd cc
