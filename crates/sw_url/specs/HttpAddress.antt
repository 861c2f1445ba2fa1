-- The http or https address that a text is, without a base.
use Rattle.std.specs.Prelude.{ℕ, List, Option, Some, None, Result, Ok, Err, if◌then◌else◌}
use Rattle.url.specs.Origin.{is_http}
use Rattle.url.specs.Parts.{Parts, serialize}
use Rattle.sw_data.specs.Addresses.{AddressFault, Unparsed, Scheme, address_of, no_fragment}

-- a parsed http or https address, serialized without its fragment
abbrev pub bare : Option Parts → Result (List ℕ) AddressFault
bare None = Err Unparsed
bare (Some url) = if is_http url.scheme then Ok (serialize (no_fragment url)) else Err Scheme

-- the http or https address that a text is, without its fragment (URL, 4.4 and 4.5)
unfoldable pub http_address : List ℕ → Result (List ℕ) AddressFault
http_address text = bare (address_of text)
