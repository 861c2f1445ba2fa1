-- Pages: the storage key of one, or why it has none.
use Rattle.std.specs.Prelude.{ℕ, Bool, true, false, List, Option, Some, None, Result, Ok, Err, is_some, option_map}
use Rattle.url.specs.Parts.{Parts}
use Rattle.sw_data.specs.Addresses.{address_of, is_trusted, is_trustworthy, parsed_origin}
use Rattle.sw_data.specs.Keys.{key_of, partitioned}
use Rattle.sw_url.specs.declared.page.PageFault.{PageFault}
use Rattle.sw_url.specs.declared.page.PageFault.TheVariants.{Unparsed, Scheme, Untrusted}

-- a key, or its refusal: whether the address parses, its key, and whether it is trustworthy (own)
abbrev pub key_or_refusal : Bool → Option (List ℕ) → Bool → Result (List ℕ) PageFault
key_or_refusal false key trusted = Err Unparsed
key_or_refusal true None trusted = Err Scheme
key_or_refusal true (Some key) false = Err Untrusted
key_or_refusal true (Some key) true = Ok key

-- the same, of a parsed address (own)
abbrev pub parsed_page_key : Parts → Option (List ℕ) → Result (List ℕ) PageFault
parsed_page_key url partition =
    key_or_refusal true (option_map (partitioned partition) (parsed_origin url)) (is_trusted url)

-- the storage key of the page at an address in a partition, or why it has none (own order)
abbrev pub page_key : List ℕ → Option (List ℕ) → Result (List ℕ) PageFault
page_key address partition =
    key_or_refusal (is_some (address_of address)) (key_of address partition) (is_trustworthy address)
