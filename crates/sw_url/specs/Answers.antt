-- How a call's answer stands to the rule that it computes.
use Rattle.std.specs.Prelude.{◌≡◌, Result, Ok, Err}
use Rattle.sw_data.specs.Addresses.{AddressFault, Unparsed, Scheme, EscapedSlash}
use Rattle.sw_url.specs.declared.fault.UrlFault.{UrlFault}
use Rattle.sw_url.specs.declared.fault.UrlFault.TheVariants.{NoMemory, Unparsed as NotParsed, Scheme as OtherScheme, EscapedSlash as Escaped}

-- the fact, unless memory ran out (own)
abbrev pub UnlessNoMemory : {T : Type 0} → Result T UrlFault → Type 0 → Type 0
UnlessNoMemory (Ok x) P = P
UnlessNoMemory (Err NoMemory) P = Unit {0}
UnlessNoMemory (Err NotParsed) P = P
UnlessNoMemory (Err OtherScheme) P = P
UnlessNoMemory (Err Escaped) P = P

-- the value or the refusal of the rule, unless memory ran out (own)
abbrev pub Answers : {T : Type 0} → Result T UrlFault → Result T AddressFault → Type 0
Answers (Ok x) rule = rule ≡ Ok x
Answers (Err NoMemory) rule = Unit {0}
Answers (Err NotParsed) rule = rule ≡ Err Unparsed
Answers (Err OtherScheme) rule = rule ≡ Err Scheme
Answers (Err Escaped) rule = rule ≡ Err EscapedSlash
