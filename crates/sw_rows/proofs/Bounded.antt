-- Recordings within a limit on the usage, computed from their lines to the transcript and the usage at its end.
use Rattle.std.specs.Prelude.{◌≡◌, ◌++◌, codes, refl}
use Rattle.std.specs.Fmt.{digits}
use Rattle.json.specs.Print.{escape_byte}
use Rattle.sw_bucket.specs.Uses.{work_key}
use Rattle.sw_codec.specs.Spelling.{bytes_spelling, change_spelling, op_spelling, request_spelling, response_spelling}
use Rattle.sw_data.specs.Events.{named_client, named_page}
use Rattle.sw_record.proofs.OnLiterals.{grammar_on_literals}
use Rattle.sw_rows.specs.Bounding.{replayed_within}
use Rattle.sw_rules.proofs.OnLiterals.{steps_on_literals}

least_recently_used :
    replayed_within 24
    (codes "{\"lane\":0,\"do\":\"cacheOpen\",\"at\":\"https://a.test/\",\"name\":\"v\"}\n"
    ++ codes "{\"lane\":0,\"do\":\"cacheOpen\",\"at\":\"https://b.test/\",\"name\":\"v\"}\n"
    ++ codes "{\"lane\":0,\"do\":\"cacheOpen\",\"at\":\"https://a.test/\",\"name\":\"v\"}\n")
    ≡ codes "- restarted -> 0 registrations 0 caches\n"
    ++ codes "L0.0 cacheOpen -> made\n"
    ++ codes "L0.1 cacheOpen -> made\n"
    ++ codes "- forget \"https://a.test\" -> ok\n"
    ++ codes "L0.2 cacheOpen -> made\n"
    ++ codes "- forget \"https://b.test\" -> ok\n"
    ++ codes "end done\n"
    ++ codes "usage 24 of 24\n"
unfolding digits escape_byte grammar_on_literals steps_on_literals named_client named_page work_key bytes_spelling change_spelling op_spelling request_spelling response_spelling
least_recently_used = refl

busy_key_stays :
    replayed_within 24
    (codes "{\"lane\":0,\"do\":\"open\",\"client\":1,\"url\":\"https://a.test/\"}\n"
    ++ codes "{\"lane\":0,\"do\":\"cacheOpen\",\"at\":\"https://a.test/\",\"name\":\"v\"}\n"
    ++ codes "{\"lane\":0,\"do\":\"cacheOpen\",\"at\":\"https://b.test/\",\"name\":\"v\"}\n")
    ≡ codes "- restarted -> 0 registrations 0 caches\n"
    ++ codes "L0.0 open -> none\n"
    ++ codes "L0.1 cacheOpen -> made\n"
    ++ codes "L0.2 cacheOpen -> made\n"
    ++ codes "- forget \"https://b.test\" -> ok\n"
    ++ codes "end done\n"
    ++ codes "usage 24 of 24\n"
unfolding digits escape_byte grammar_on_literals steps_on_literals named_client named_page work_key bytes_spelling change_spelling op_spelling request_spelling response_spelling
busy_key_stays = refl
