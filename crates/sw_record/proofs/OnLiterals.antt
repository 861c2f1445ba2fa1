-- What computing the grammar on literals unfolds.
use Rattle.std.specs.Prelude.{⊤}
use Rattle.std.specs.Str.{is_utf8}
use Rattle.serde_json.proofs.OnLiterals.{serde_json_on_literals}
use Rattle.sw_forms.proofs.OnLiterals.{forms_on_literals}
use Rattle.sw_record.specs.Grammar.{line_read, lines_read, recording_of, with_value}
use Rattle.sw_record.specs.Lanes.{action_member, action_of_word, add_all_line, addresses, await_line, batch_line, begin_line, client_line, client_member, client_scope_parts, delete_line, event_line, event_member, kind_member, lane_line, lane_member, match_line, mode_member, name_line, of_member, open_line, page_line, partition_member, place_parts, preload_line, preload_value_member, put_line, query_line, register_line, register_parts, scope_line, scope_option, settings, slot_line, slot_member, text_member, url_line}

-- what an answer unfolds to compute the grammar on a literal
unfoldable pub grammar_on_literals : ⊤
unfolding is_utf8 serde_json_on_literals forms_on_literals action_member action_of_word add_all_line addresses await_line batch_line begin_line client_line client_member client_scope_parts delete_line event_line event_member kind_member lane_line lane_member match_line mode_member name_line of_member open_line page_line partition_member place_parts preload_line preload_value_member put_line query_line register_line register_parts scope_line scope_option settings slot_line slot_member text_member url_line line_read lines_read recording_of with_value
grammar_on_literals = tt
