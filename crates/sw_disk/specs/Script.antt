-- Which calls of a disk in memory fail.
use Rattle.std.specs.Prelude.{◌+◌, ◌&&◌, ℕ, List, Option, Some, None, Bool, true, false, nat_le}
use Rattle.std.specs.List.{list_any}
use Rattle.sw_disk.specs.DiskRule.{capped}
use Rattle.sw_disk.specs.declared.memory.script.CallKind.{CallKind}
use Rattle.sw_disk.specs.declared.memory.script.CallKind.TheVariants.{Len, Read, Write, Cut, Sync}
use Rattle.sw_disk.specs.declared.memory.script.Failing.{Failing}
use Rattle.sw_disk.specs.declared.memory.script.Counts.{Counts}

-- own: how many calls of a kind were made
abbrev pub count_of : CallKind → Counts → ℕ
count_of Len counts = counts.len
count_of Read counts = counts.read
count_of Write counts = counts.write
count_of Cut counts = counts.cut
count_of Sync counts = counts.sync

-- own: no call was made
abbrev pub no_counts : Counts
no_counts = record { len = 0; read = 0; write = 0; cut = 0; sync = 0 }

-- own: one more call of a kind was made; at the type's end the count stays
abbrev pub one_more : CallKind → Counts → Counts
one_more Len counts = record { len = capped (counts.len + 1); read = counts.read; write = counts.write; cut = counts.cut; sync = counts.sync }
one_more Read counts = record { len = counts.len; read = capped (counts.read + 1); write = counts.write; cut = counts.cut; sync = counts.sync }
one_more Write counts = record { len = counts.len; read = counts.read; write = capped (counts.write + 1); cut = counts.cut; sync = counts.sync }
one_more Cut counts = record { len = counts.len; read = counts.read; write = counts.write; cut = capped (counts.cut + 1); sync = counts.sync }
one_more Sync counts = record { len = counts.len; read = counts.read; write = counts.write; cut = counts.cut; sync = capped (counts.sync + 1) }

-- own: the kinds are the same
abbrev pub kind_eq : CallKind → CallKind → Bool
kind_eq Len Len = true
kind_eq Read Read = true
kind_eq Write Write = true
kind_eq Cut Cut = true
kind_eq Sync Sync = true
kind_eq a b = false

-- own: the call of a kind with a number is in one of the ranges, both of whose ends are in it
abbrev pub is_listed : CallKind → ℕ → List Failing → Bool
is_listed kind number failing = list_any (λ f. kind_eq f.call kind && (nat_le f.from number && nat_le number f.to)) failing

-- own: the call with a number over all kinds is not before the one from which on each call fails
abbrev pub is_stopped : ℕ → Option ℕ → Bool
is_stopped number None = false
is_stopped number (Some after) = nat_le after number
