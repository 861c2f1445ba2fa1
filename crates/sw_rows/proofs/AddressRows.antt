-- The definitions of addresses, keys and media types, computed on examples.
use Rattle.std.specs.Prelude.{◌≡◌, true, false, [], ◌∷◌, codes, Some, None, Ok, Err, refl}
use Rattle.sw_data.specs.Addresses.{resolved, scheme_of, without_fragment, without_query, same_origin, is_trustworthy, script_address, scope_address, scope_bound, is_within_bound, Unparsed, Scheme, EscapedSlash}
use Rattle.sw_data.specs.Keys.{key_of}
use Rattle.sw_data.specs.Headers.{combined, vary_members, normal_method}
use Rattle.sw_data.specs.Media.{is_javascript}
use Rattle.sw_data.proofs.OnLiterals.{addresses_on_literals}

resolved_row : resolved (codes "../x#f") (codes "https://a.test/a/b") ≡ Some (codes "https://a.test/x#f")
unfolding addresses_on_literals
resolved_row = refl

resolved_none : resolved (codes "x") (codes "no base") ≡ None
unfolding addresses_on_literals
resolved_none = refl

scheme_row : scheme_of (codes "https://a.test/") ≡ codes "https"
unfolding scheme_of
scheme_row = refl

scheme_none : scheme_of (codes "abc") ≡ []
unfolding scheme_of
scheme_none = refl

fragment_row : without_fragment (codes "https://a.test/x?q#f?g") ≡ codes "https://a.test/x?q"
unfolding without_fragment
fragment_row = refl

query_row : without_query (codes "https://a.test/x?q#f?g") ≡ codes "https://a.test/x"
unfolding without_fragment without_query
query_row = refl

trusted_network : is_trustworthy (codes "http://127.9.0.1/") ≡ true
unfolding addresses_on_literals
trusted_network = refl

untrusted_network : is_trustworthy (codes "http://128.0.0.1/") ≡ false
unfolding addresses_on_literals
untrusted_network = refl

untrusted_name : is_trustworthy (codes "http://a.test/") ≡ false
unfolding addresses_on_literals
untrusted_name = refl

trusted_six : is_trustworthy (codes "http://[::1]:8080/") ≡ true
unfolding addresses_on_literals
trusted_six = refl

trusted_name : is_trustworthy (codes "http://x.localhost/") ≡ true
unfolding addresses_on_literals
trusted_name = refl

untrusted_dot : is_trustworthy (codes "http://localhost./") ≡ false
unfolding addresses_on_literals
untrusted_dot = refl

key_row : key_of (codes "https://a.test:443/x") None ≡ Some (codes "https://a.test")
unfolding addresses_on_literals
key_row = refl

key_partition : key_of (codes "https://a.test:8443/x") (Some (codes "b.test")) ≡ Some (codes "https://a.test:8443^b.test")
unfolding addresses_on_literals
key_partition = refl

key_none : key_of (codes "ftp://a.test/x") None ≡ None
unfolding addresses_on_literals
key_none = refl

same_row : same_origin (codes "https://a.test/x") (codes "https://a.test:443/") ≡ true
unfolding addresses_on_literals
same_row = refl

other_scheme : same_origin (codes "ftp://a.test/") (codes "ftp://a.test/") ≡ false
unfolding addresses_on_literals
other_scheme = refl

script_scheme : script_address (codes "ftp://a.test/s") (codes "https://a.test/") ≡ Err Scheme
unfolding addresses_on_literals
script_scheme = refl

script_slash : script_address (codes "/a%2Fsw.js") (codes "https://a.test/") ≡ Err EscapedSlash
unfolding addresses_on_literals
script_slash = refl

script_row : script_address (codes "/sw.js#v") (codes "https://a.test/d/") ≡ Ok (codes "https://a.test/sw.js")
unfolding addresses_on_literals
script_row = refl

script_unparsed : script_address (codes "http://[") (codes "https://a.test/") ≡ Err Unparsed
unfolding addresses_on_literals
script_unparsed = refl

scope_default : scope_address None (codes "https://a.test/d/sw.js") (codes "https://a.test/") ≡ Ok (codes "https://a.test/d/")
unfolding addresses_on_literals
scope_default = refl

bound_default : scope_bound (codes "https://a.test/d/sw.js") None ≡ Some (codes "/d/")
unfolding addresses_on_literals
bound_default = refl

bound_allowed : scope_bound (codes "https://a.test/d/sw.js") (Some (codes "../e/..")) ≡ Some (codes "/")
unfolding addresses_on_literals
bound_allowed = refl

bound_other : scope_bound (codes "https://a.test/d/sw.js") (Some (codes "https://b.test/")) ≡ None
unfolding addresses_on_literals
bound_other = refl

bound_within : is_within_bound (codes "https://a.test/d/e?q") (codes "/d/") ≡ true
unfolding addresses_on_literals
bound_within = refl

bound_without : is_within_bound (codes "https://a.test/d") (codes "/d/") ≡ false
unfolding addresses_on_literals
bound_without = refl

combined_row : combined (codes "accept") (record { name = codes "Accept"; value = codes "a" } ∷ record { name = codes "accept"; value = codes "b" } ∷ []) ≡ Some (codes "a, b")
combined_row = refl

combined_none : combined (codes "accept") [] ≡ None
combined_none = refl

vary_row : vary_members (record { name = codes "Vary"; value = codes "Accept ,, X-A" } ∷ record { name = codes "vary"; value = codes " *" } ∷ []) ≡ codes "accept" ∷ codes "x-a" ∷ codes "*" ∷ []
vary_row = refl

method_capital : normal_method (codes "get") ≡ codes "GET"
method_capital = refl

method_other : normal_method (codes "patch") ≡ codes "patch"
method_other = refl

javascript_row : is_javascript (record { name = codes "Content-Type"; value = codes "text/html" } ∷ record { name = codes "content-type"; value = codes "Text/JavaScript ; charset=utf-8" } ∷ []) ≡ true
unfolding is_javascript
javascript_row = refl

javascript_none : is_javascript [] ≡ false
unfolding is_javascript
javascript_none = refl
