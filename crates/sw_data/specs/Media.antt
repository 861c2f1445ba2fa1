-- MIME types.
use Rattle.std.specs.Prelude.{ℕ, Bool, false, ◌==◌, List, [], ◌∷◌, codes, bytes_eq}
use Rattle.std.specs.List.{before_first, list_any}
use Rattle.std.specs.Option.{option_map_or}
use Rattle.http_header.specs.Token.{lowercase}
use Rattle.sw_data.specs.declared.exchange.Header.{Header}
use Rattle.sw_data.specs.Headers.{trimmed, last_value}

-- the essence of a Content-Type value: what stands before its first `;`, trimmed and lower-cased (MIME Sniffing, 4.3, "essence"; the reading of the header is own)
abbrev pub essence : List ℕ → List ℕ
essence value = lowercase (trimmed (before_first (λ b. b == 59) value))

-- the sixteen essences of JavaScript (MIME Sniffing, 4.6, "JavaScript MIME type")
abbrev pub javascript_essences : List (List ℕ)
javascript_essences =
    codes "application/ecmascript" ∷ codes "application/javascript"
    ∷ codes "application/x-ecmascript" ∷ codes "application/x-javascript"
    ∷ codes "text/ecmascript" ∷ codes "text/javascript"
    ∷ codes "text/javascript1.0" ∷ codes "text/javascript1.1" ∷ codes "text/javascript1.2"
    ∷ codes "text/javascript1.3" ∷ codes "text/javascript1.4" ∷ codes "text/javascript1.5"
    ∷ codes "text/jscript" ∷ codes "text/livescript"
    ∷ codes "text/x-ecmascript" ∷ codes "text/x-javascript" ∷ []

-- an essence is one of JavaScript
abbrev pub is_javascript_essence : List ℕ → Bool
is_javascript_essence name = list_any (bytes_eq name) javascript_essences

-- the last Content-Type line of a response has an essence of JavaScript (MIME Sniffing, 4.6, "JavaScript MIME type"; the last of several lines is own)
unfoldable pub is_javascript : List Header → Bool
is_javascript headers =
    option_map_or (λ value. is_javascript_essence (essence value)) (last_value (codes "content-type") headers) false
