-- The counts that are kept of flags, one of each block of 256 of them.
use Rattle.std.specs.Prelude.{ℕ, ◌≡◌, ◌+◌, ◌*◌, ◌<◌, ◌≤◌, Bool, List, length, take, drop, slice_index_or}
use Rattle.std.specs.List.{count_by}

-- own: how many flags of a block are set
unfoldable pub set_in : List Bool → ℕ → ℕ
set_in flags block = count_by (λ flag. flag) (take 256 (drop (256 * block) flags))

-- own: there are as many counts as blocks, and each count is the number of flags that are set in its block
pub record CountsBlocks (flags : List Bool) (counts : List ℕ) : Type 0 where
  pub enough : length flags ≤ 256 * length counts
  pub no_more : 256 * length counts < length flags + 256
  pub counted : (block : ℕ) → block < length counts → slice_index_or counts block 0 ≡ set_in flags block
