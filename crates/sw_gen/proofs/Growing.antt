-- The recording grows by one more script or client.
use Rattle.std.proofs.Common.{◌≡◌, ℕ, ◌+◌, ◌++◌, add-one}
use Rattle.sw_gen.specs.Generated.{fetch_line, fetch_lines, made, with_client}

pub more_scripts : (script : ℕ) → fetch_lines (script + 1) ≡ fetch_lines script ++ fetch_line script
more_scripts script = rw add-one

pub more_clients : (number client : ℕ) → made number (client + 1) ≡ with_client client (made number client)
more_clients number client = rw add-one
