-- What computing the definitions of plain data on literals unfolds.
use Rattle.std.specs.Prelude.{⊤}
use Rattle.url.proofs.OnLiterals.{url_on_literals}
use Rattle.sw_data.specs.Addresses.{resolved, scheme_of, without_fragment, without_query, origin_of, is_trustworthy, has_escaped_slash, script_address, scope_address, scope_bound, is_within_bound}
use Rattle.sw_data.specs.Events.{event_of_action, who_of}
use Rattle.sw_data.specs.Keys.{key_of}
use Rattle.sw_data.specs.Media.{is_javascript}
use Rattle.sw_data.specs.Sameness.{same_call}

-- what an answer unfolds to compute addresses and keys on a literal
unfoldable pub addresses_on_literals : ⊤
unfolding url_on_literals resolved scheme_of without_fragment without_query origin_of is_trustworthy has_escaped_slash script_address scope_address scope_bound is_within_bound key_of
addresses_on_literals = tt

-- what an answer unfolds to compute events, media types and calls on a literal
unfoldable pub data_on_literals : ⊤
unfolding addresses_on_literals event_of_action who_of is_javascript same_call
data_on_literals = tt
