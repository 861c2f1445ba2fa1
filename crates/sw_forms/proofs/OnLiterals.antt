-- What computing the parts of a line on literals unfolds.
use Rattle.std.specs.Prelude.{⊤}
use Rattle.std.specs.Fmt.{digits}
use Rattle.base64.proofs.OnLiterals.{base64_on_literals}
use Rattle.serde_json.proofs.OnLiterals.{serde_json_on_literals}
use Rattle.sw_data.proofs.OnLiterals.{addresses_on_literals}
use Rattle.sw_forms.specs.Caches.{add_all_call, add_all_parts, batch_call, batch_parts, call_of, call_of_word, calls_of, delete_call, delete_operation, delete_parts, match_parts, name_call, name_member, name_option, operation_of, operations_member, option_member, options_of, put_call, put_operation, put_parts, query_parts, request_member, request_option, requests_member, response_member}
use Rattle.sw_forms.specs.Exchanges.{body_member, headers_member, method_member, pair_of, request_object, request_of, response_of, response_parts, status_member}
use Rattle.sw_forms.specs.Fetches.{activate_member, activate_of, address_part, answer_line, calls_member, error_line, fails_member, fetch_line, fetched_of, handlers_of, install_member, install_of, throws_member}
use Rattle.sw_forms.specs.Flaws.{both}
use Rattle.sw_forms.specs.Words.{word_member, word_of}
use Rattle.sw_url.specs.HttpAddress.{http_address}

-- what an answer unfolds to compute a part on a literal
unfoldable pub forms_on_literals : ⊤
unfolding digits serde_json_on_literals base64_on_literals addresses_on_literals http_address both word_of word_member add_all_call add_all_parts batch_call batch_parts call_of call_of_word calls_of delete_call delete_operation delete_parts match_parts name_call name_member name_option operation_of operations_member option_member options_of put_call put_operation put_parts query_parts request_member request_option requests_member response_member body_member headers_member method_member pair_of request_object request_of response_of response_parts status_member activate_member activate_of address_part answer_line calls_member error_line fails_member install_member throws_member fetch_line fetched_of handlers_of install_of
forms_on_literals = tt
