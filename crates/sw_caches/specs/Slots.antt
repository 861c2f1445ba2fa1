-- What a pair is found by in the index of a cache.
use Rattle.std.specs.Prelude.{ℕ, Bool, true, false, List}
use Rattle.sw_data.specs.Addresses.{without_fragment, without_query}
use Rattle.sw_list.specs.declared.marks.Mark.{Mark}
use Rattle.sw_list.specs.Marks.{digest, mixed}

-- what an address is found by: where queries are ignored, its digest without fragment and query, marked by a `#`, and else its digest without fragment
unfoldable pub address_digest : Bool → List ℕ → ℕ
address_digest true address = mixed (digest (without_query address)) 35
address_digest false address = digest (without_fragment address)

-- the mark of an address: a number under what the address is found by
abbrev pub address_mark : List ℕ → ℕ → Mark
address_mark address number = record { first = address_digest false address; second = address_digest true address; number = number }
