-- Recordings of conformance/worked, computed from their lines to the transcript and to the text of what is kept.
use Rattle.std.specs.Prelude.{◌≡◌, [], ◌∷◌, ◌++◌, true, codes, refl}
use Rattle.std.specs.Fmt.{digits}
use Rattle.json.specs.Print.{escape_byte}
use Rattle.sw_record.proofs.OnLiterals.{grammar_on_literals}
use Rattle.sw_rules.proofs.OnLiterals.{steps_on_literals}
use Rattle.sw_rows.specs.Replays.{has_lines, replayed}

row_bound :
    has_lines
    (codes "- fetched j0 -> rejected | settled j0 SecurityError scope | unmapped r0\n" ∷ codes "L0.2 await -> SecurityError scope\n" ∷ [])
    (replayed
    (codes "{\"fetch\":\"https://a.test/d/sw.js\",\"status\":200,\"headers\":[[\"Content-Type\",\"text/javascript\"]],\"text\":\"// v1\"}\n"
    ++ codes "{\"lane\":0,\"do\":\"open\",\"client\":1,\"url\":\"https://a.test/\"}\n"
    ++ codes "{\"lane\":0,\"do\":\"register\",\"client\":1,\"script\":\"/d/sw.js\",\"scope\":\"/\"}\n"
    ++ codes "{\"lane\":0,\"do\":\"await\",\"of\":1}\n")).transcript
    ≡ true
unfolding digits escape_byte grammar_on_literals steps_on_literals
row_bound = refl

row_bound_allowed :
    has_lines
    (codes "- fetched j0 -> changed | w0 parsed\n" ∷ [])
    (replayed
    (codes "{\"fetch\":\"https://a.test/d/sw.js\",\"status\":200,\"headers\":[[\"Content-Type\",\"text/javascript\"],[\"Service-Worker-Allowed\",\"/\"]],\"text\":\"// v1\"}\n"
    ++ codes "{\"lane\":0,\"do\":\"open\",\"client\":1,\"url\":\"https://a.test/\"}\n"
    ++ codes "{\"lane\":0,\"do\":\"register\",\"client\":1,\"script\":\"/d/sw.js\",\"scope\":\"/\"}\n"
    ++ codes "{\"lane\":0,\"do\":\"await\",\"of\":1}\n")).transcript
    ≡ true
unfolding digits escape_byte grammar_on_literals steps_on_literals
row_bound_allowed = refl

row_claim_clears :
    has_lines
    (codes "- tryactivate r1 -> w1 | w1 activating\n" ∷ codes "w1.activate.0 claim -> ok | w0 redundant | controllerchange c2\n" ∷ codes "- activated w1 -> ok | w1 activated\n" ∷ codes "end done\n" ∷ [])
    (replayed
    (codes "{\"fetch\":\"https://a.test/sw.js\",\"status\":200,\"headers\":[[\"Content-Type\",\"text/javascript\"]],\"text\":\"// v1\"}\n"
    ++ codes "{\"fetch\":\"https://a.test/app/sw.js\",\"status\":200,\"headers\":[[\"Content-Type\",\"text/javascript\"]],\"text\":\"// v1\",\"activate\":{\"calls\":[{\"do\":\"claim\"}]}}\n"
    ++ codes "{\"lane\":0,\"do\":\"open\",\"client\":1,\"url\":\"https://a.test/\"}\n"
    ++ codes "{\"lane\":0,\"do\":\"register\",\"client\":1,\"script\":\"/sw.js\"}\n"
    ++ codes "{\"lane\":0,\"do\":\"ready\",\"client\":1}\n"
    ++ codes "{\"lane\":0,\"do\":\"open\",\"client\":2,\"url\":\"https://a.test/app/x\"}\n"
    ++ codes "{\"lane\":0,\"do\":\"begin\",\"client\":2,\"event\":7}\n"
    ++ codes "{\"lane\":0,\"do\":\"end\",\"event\":7}\n"
    ++ codes "{\"lane\":0,\"do\":\"unregister\",\"client\":1,\"scope\":\"/\"}\n"
    ++ codes "{\"lane\":0,\"do\":\"await\",\"of\":6}\n"
    ++ codes "{\"lane\":0,\"do\":\"register\",\"client\":1,\"script\":\"/app/sw.js\"}\n"
    ++ codes "{\"lane\":0,\"do\":\"await\",\"of\":8}\n")).transcript
    ≡ true
unfolding digits escape_byte grammar_on_literals steps_on_literals
row_claim_clears = refl

row_escaped_slash :
    has_lines
    (codes "L0.0 open -> none\n" ∷ codes "L0.1 register -> TypeError escaped-slash\n" ∷ codes "L0.2 await -> TypeError escaped-slash\n" ∷ codes "end done\n" ∷ [])
    (replayed
    (codes "{\"lane\":0,\"do\":\"open\",\"client\":1,\"url\":\"https://a.test/\"}\n"
    ++ codes "{\"lane\":0,\"do\":\"register\",\"client\":1,\"script\":\"/a%2Fsw.js\"}\n"
    ++ codes "{\"lane\":0,\"do\":\"await\",\"of\":1}\n")).transcript
    ≡ true
unfolding digits escape_byte grammar_on_literals steps_on_literals
row_escaped_slash = refl

row_first_install_fails :
    has_lines
    (codes "L0.3 register -> j1\n" ∷ codes "- installed j0 -> failed | w0 redundant | unmapped r0\n" ∷ codes "- run j1 -> fetch 1 | mapped r1\n" ∷ codes "- fetched j1 -> changed | w1 parsed\n" ∷ codes "L0.4 await -> r1\n" ∷ [])
    (replayed
    (codes "{\"fetch\":\"https://a.test/sw.js\",\"status\":200,\"headers\":[[\"Content-Type\",\"text/javascript\"]],\"text\":\"// v1\",\"install\":{\"end\":\"fail\"}}\n"
    ++ codes "{\"fetch\":\"https://a.test/sw.js\",\"status\":200,\"headers\":[[\"Content-Type\",\"text/javascript\"]],\"text\":\"// v1\"}\n"
    ++ codes "{\"lane\":0,\"do\":\"open\",\"client\":1,\"url\":\"https://a.test/\"}\n"
    ++ codes "{\"lane\":0,\"do\":\"register\",\"client\":1,\"script\":\"/sw.js\"}\n"
    ++ codes "{\"lane\":0,\"do\":\"await\",\"of\":1}\n"
    ++ codes "{\"lane\":0,\"do\":\"register\",\"client\":1,\"script\":\"/sw.js\"}\n"
    ++ codes "{\"lane\":0,\"do\":\"await\",\"of\":3}\n")).transcript
    ≡ true
unfolding digits escape_byte grammar_on_literals steps_on_literals
row_first_install_fails = refl

row_forget :
    has_lines
    (codes "L0.0 open -> none\n" ∷ codes "L0.1 cacheOpen -> made\n" ∷ codes "L0.2 forget -> Busy\n" ∷ codes "L0.3 close -> ok\n" ∷ codes "L0.4 forget -> ok\n" ∷ codes "L0.5 cacheHas -> false\n" ∷ [])
    (replayed
    (codes "{\"lane\":0,\"do\":\"open\",\"client\":1,\"url\":\"https://a.test/\"}\n"
    ++ codes "{\"lane\":0,\"do\":\"cacheOpen\",\"at\":\"https://a.test/\",\"name\":\"v\"}\n"
    ++ codes "{\"lane\":0,\"do\":\"forget\",\"at\":\"https://a.test/\"}\n"
    ++ codes "{\"lane\":0,\"do\":\"close\",\"client\":1}\n"
    ++ codes "{\"lane\":0,\"do\":\"forget\",\"at\":\"https://a.test/\"}\n"
    ++ codes "{\"lane\":0,\"do\":\"cacheHas\",\"at\":\"https://a.test/\",\"name\":\"v\"}\n")).transcript
    ≡ true
unfolding digits escape_byte grammar_on_literals steps_on_literals
row_forget = refl

row_joined :
    has_lines
    (codes "L0.1 register -> j0\n" ∷ codes "L0.2 register -> j1 joined j0\n" ∷ codes "- evaluated j0 -> installing | w0 installing | settled j0 r0 | settled j1 r0 | updatefound r0\n" ∷ codes "L0.3 await -> r0\n" ∷ codes "L0.4 await -> r0\n" ∷ [])
    (replayed
    (codes "{\"fetch\":\"https://a.test/sw.js\",\"status\":200,\"headers\":[[\"Content-Type\",\"text/javascript\"]],\"text\":\"// v1\"}\n"
    ++ codes "{\"lane\":0,\"do\":\"open\",\"client\":1,\"url\":\"https://a.test/\"}\n"
    ++ codes "{\"lane\":0,\"do\":\"register\",\"client\":1,\"script\":\"/sw.js\"}\n"
    ++ codes "{\"lane\":0,\"do\":\"register\",\"client\":1,\"script\":\"/sw.js\"}\n"
    ++ codes "{\"lane\":0,\"do\":\"await\",\"of\":1}\n"
    ++ codes "{\"lane\":0,\"do\":\"await\",\"of\":2}\n")).transcript
    ≡ true
unfolding digits escape_byte grammar_on_literals steps_on_literals
row_joined = refl

row_longest_scope :
    has_lines
    (codes "L0.7 registration -> r2\n" ∷ codes "L0.8 registration -> r1\n" ∷ codes "L0.9 registration -> r0\n" ∷ [])
    (replayed
    (codes "{\"fetch\":\"https://a.test/sw.js\",\"status\":200,\"headers\":[[\"Content-Type\",\"text/javascript\"]],\"text\":\"// v1\"}\n"
    ++ codes "{\"lane\":0,\"do\":\"open\",\"client\":1,\"url\":\"https://a.test/\"}\n"
    ++ codes "{\"lane\":0,\"do\":\"register\",\"client\":1,\"script\":\"/sw.js\",\"scope\":\"/\"}\n"
    ++ codes "{\"lane\":0,\"do\":\"register\",\"client\":1,\"script\":\"/sw.js\",\"scope\":\"/app\"}\n"
    ++ codes "{\"lane\":0,\"do\":\"register\",\"client\":1,\"script\":\"/sw.js\",\"scope\":\"/app/\"}\n"
    ++ codes "{\"lane\":0,\"do\":\"await\",\"of\":1}\n"
    ++ codes "{\"lane\":0,\"do\":\"await\",\"of\":2}\n"
    ++ codes "{\"lane\":0,\"do\":\"await\",\"of\":3}\n"
    ++ codes "{\"lane\":0,\"do\":\"registration\",\"client\":1,\"url\":\"/app/x\"}\n"
    ++ codes "{\"lane\":0,\"do\":\"registration\",\"client\":1,\"url\":\"/apple\"}\n"
    ++ codes "{\"lane\":0,\"do\":\"registration\",\"client\":1,\"url\":\"/other\"}\n")).transcript
    ≡ true
unfolding digits escape_byte grammar_on_literals steps_on_literals
row_longest_scope = refl

row_no_change :
    has_lines
    (codes "L0.2 ready -> r0\n" ∷ codes "L0.3 register -> j1\n" ∷ codes "- run j1 -> fetch 1\n" ∷ codes "- fetched j1 -> unchanged | settled j1 r0\n" ∷ codes "L0.4 await -> r0\n" ∷ codes "- activated w0 -> ok | w0 activated\n" ∷ [])
    (replayed
    (codes "{\"fetch\":\"https://a.test/sw.js\",\"status\":200,\"headers\":[[\"Content-Type\",\"text/javascript\"]],\"text\":\"// v1\"}\n"
    ++ codes "{\"lane\":0,\"do\":\"open\",\"client\":1,\"url\":\"https://a.test/\"}\n"
    ++ codes "{\"lane\":0,\"do\":\"register\",\"client\":1,\"script\":\"/sw.js\"}\n"
    ++ codes "{\"lane\":0,\"do\":\"ready\",\"client\":1}\n"
    ++ codes "{\"lane\":0,\"do\":\"register\",\"client\":1,\"script\":\"/sw.js\",\"scope\":\"/\",\"type\":\"classic\",\"cache\":\"none\"}\n"
    ++ codes "{\"lane\":0,\"do\":\"await\",\"of\":3}\n")).transcript
    ≡ true
unfolding digits escape_byte grammar_on_literals steps_on_literals
row_no_change = refl

row_no_change_shown :
    (replayed
    (codes "{\"fetch\":\"https://a.test/sw.js\",\"status\":200,\"headers\":[[\"Content-Type\",\"text/javascript\"]],\"text\":\"// v1\"}\n"
    ++ codes "{\"lane\":0,\"do\":\"open\",\"client\":1,\"url\":\"https://a.test/\"}\n"
    ++ codes "{\"lane\":0,\"do\":\"register\",\"client\":1,\"script\":\"/sw.js\"}\n"
    ++ codes "{\"lane\":0,\"do\":\"ready\",\"client\":1}\n"
    ++ codes "{\"lane\":0,\"do\":\"register\",\"client\":1,\"script\":\"/sw.js\",\"scope\":\"/\",\"type\":\"classic\",\"cache\":\"none\"}\n"
    ++ codes "{\"lane\":0,\"do\":\"await\",\"of\":3}\n")).shown
    ≡ codes "registrations 1\n"
    ++ codes "registration \"https://a.test\" \"https://a.test/\" none\n"
    ++ codes " active activated \"https://a.test/sw.js\" classic 5\n"
    ++ codes "caches 0\n"
unfolding digits escape_byte grammar_on_literals steps_on_literals
row_no_change_shown = refl

row_no_worker_yet :
    has_lines
    (codes "- run j1 -> finished | settled j1 SecurityError script-origin\n" ∷ codes "L0.3 await -> SecurityError script-origin\n" ∷ codes "L0.4 update -> InvalidStateError no-worker\n" ∷ codes "L0.5 softUpdate -> none\n" ∷ [])
    (replayed
    (codes "{\"fetch\":\"https://a.test/sw.js\",\"status\":200,\"headers\":[[\"Content-Type\",\"text/javascript\"]],\"text\":\"// v1\"}\n"
    ++ codes "{\"lane\":0,\"do\":\"open\",\"client\":1,\"url\":\"https://a.test/\"}\n"
    ++ codes "{\"lane\":0,\"do\":\"register\",\"client\":1,\"script\":\"/sw.js\",\"scope\":\"/a/\"}\n"
    ++ codes "{\"lane\":0,\"do\":\"register\",\"client\":1,\"script\":\"https://b.test/sw.js\",\"scope\":\"/b/\"}\n"
    ++ codes "{\"lane\":0,\"do\":\"await\",\"of\":2}\n"
    ++ codes "{\"lane\":0,\"do\":\"update\",\"client\":1,\"scope\":\"/a/\"}\n"
    ++ codes "{\"lane\":0,\"do\":\"softUpdate\",\"client\":1,\"scope\":\"/a/\"}\n")).transcript
    ≡ true
unfolding digits escape_byte grammar_on_literals steps_on_literals
row_no_worker_yet = refl

row_partitioned_cache :
    has_lines
    (codes "L0.0 cacheOpen -> made\n" ∷ codes "L0.1 cacheHas -> false\n" ∷ [])
    (replayed
    (codes "{\"lane\":0,\"do\":\"cacheOpen\",\"at\":\"https://a.test/\",\"name\":\"v\",\"partition\":\"p\"}\n"
    ++ codes "{\"lane\":0,\"do\":\"cacheHas\",\"at\":\"https://a.test/\",\"name\":\"v\"}\n")).transcript
    ≡ true
unfolding digits escape_byte grammar_on_literals steps_on_literals
row_partitioned_cache = refl

row_partitioned_cache_shown :
    (replayed
    (codes "{\"lane\":0,\"do\":\"cacheOpen\",\"at\":\"https://a.test/\",\"name\":\"v\",\"partition\":\"p\"}\n"
    ++ codes "{\"lane\":0,\"do\":\"cacheHas\",\"at\":\"https://a.test/\",\"name\":\"v\"}\n")).shown
    ≡ codes "registrations 0\n"
    ++ codes "caches 1\n"
    ++ codes "cache \"https://a.test^p\" \"v\" 0\n"
unfolding digits escape_byte grammar_on_literals steps_on_literals
row_partitioned_cache_shown = refl

row_partitions :
    has_lines
    (codes "L0.2 register -> j0\n" ∷ codes "L0.3 register -> j1\n" ∷ codes "- run j0 -> fetch 0 | mapped r0\n" ∷ codes "- run j1 -> fetch 1 | mapped r1\n" ∷ codes "- fetched j0 -> changed | w0 parsed\n" ∷ codes "- fetched j1 -> changed | w1 parsed\n" ∷ codes "- evaluated j0 -> installing | w0 installing | settled j0 r0 | updatefound r0\n" ∷ codes "L0.4 await -> r0\n" ∷ codes "- evaluated j1 -> installing | w1 installing | settled j1 r1 | updatefound r1\n" ∷ codes "L0.5 await -> r1\n" ∷ codes "- installed j0 -> ok | w0 installed\n" ∷ codes "- installed j1 -> ok | w1 installed\n" ∷ codes "- tryactivate r0 -> w0 | w0 activating\n" ∷ codes "- tryactivate r1 -> w1 | w1 activating\n" ∷ codes "- activated w0 -> ok | w0 activated\n" ∷ codes "- activated w1 -> ok | w1 activated\n" ∷ codes "end done\n" ∷ [])
    (replayed
    (codes "{\"fetch\":\"https://a.test/sw.js\",\"status\":200,\"headers\":[[\"Content-Type\",\"text/javascript\"]],\"text\":\"// v1\"}\n"
    ++ codes "{\"lane\":0,\"do\":\"open\",\"client\":1,\"url\":\"https://a.test/\",\"partition\":\"p\"}\n"
    ++ codes "{\"lane\":0,\"do\":\"open\",\"client\":2,\"url\":\"https://a.test/\"}\n"
    ++ codes "{\"lane\":0,\"do\":\"register\",\"client\":1,\"script\":\"/sw.js\"}\n"
    ++ codes "{\"lane\":0,\"do\":\"register\",\"client\":2,\"script\":\"/sw.js\"}\n"
    ++ codes "{\"lane\":0,\"do\":\"await\",\"of\":2}\n"
    ++ codes "{\"lane\":0,\"do\":\"await\",\"of\":3}\n")).transcript
    ≡ true
unfolding digits escape_byte grammar_on_literals steps_on_literals
row_partitions = refl

row_preload :
    has_lines
    (codes "L0.3 preloadEnable -> InvalidStateError not-active\n" ∷ codes "L0.4 ready -> r0\n" ∷ codes "L0.5 preloadEnable -> ok\n" ∷ codes "L0.6 preloadValue -> ok\n" ∷ codes "L0.7 preloadState -> on \"x\"\n" ∷ [])
    (replayed
    (codes "{\"fetch\":\"https://a.test/sw.js\",\"status\":200,\"headers\":[[\"Content-Type\",\"text/javascript\"]],\"text\":\"// v1\"}\n"
    ++ codes "{\"lane\":0,\"do\":\"open\",\"client\":1,\"url\":\"https://a.test/\"}\n"
    ++ codes "{\"lane\":0,\"do\":\"register\",\"client\":1,\"script\":\"/sw.js\"}\n"
    ++ codes "{\"lane\":0,\"do\":\"await\",\"of\":1}\n"
    ++ codes "{\"lane\":0,\"do\":\"preloadEnable\",\"client\":1,\"scope\":\"/\"}\n"
    ++ codes "{\"lane\":0,\"do\":\"ready\",\"client\":1}\n"
    ++ codes "{\"lane\":0,\"do\":\"preloadEnable\",\"client\":1,\"scope\":\"/\"}\n"
    ++ codes "{\"lane\":0,\"do\":\"preloadValue\",\"client\":1,\"scope\":\"/\",\"value\":\"x\"}\n"
    ++ codes "{\"lane\":0,\"do\":\"preloadState\",\"client\":1,\"scope\":\"/\"}\n")).transcript
    ≡ true
unfolding digits escape_byte grammar_on_literals steps_on_literals
row_preload = refl

row_preload_shown :
    (replayed
    (codes "{\"fetch\":\"https://a.test/sw.js\",\"status\":200,\"headers\":[[\"Content-Type\",\"text/javascript\"]],\"text\":\"// v1\"}\n"
    ++ codes "{\"lane\":0,\"do\":\"open\",\"client\":1,\"url\":\"https://a.test/\"}\n"
    ++ codes "{\"lane\":0,\"do\":\"register\",\"client\":1,\"script\":\"/sw.js\"}\n"
    ++ codes "{\"lane\":0,\"do\":\"await\",\"of\":1}\n"
    ++ codes "{\"lane\":0,\"do\":\"preloadEnable\",\"client\":1,\"scope\":\"/\"}\n"
    ++ codes "{\"lane\":0,\"do\":\"ready\",\"client\":1}\n"
    ++ codes "{\"lane\":0,\"do\":\"preloadEnable\",\"client\":1,\"scope\":\"/\"}\n"
    ++ codes "{\"lane\":0,\"do\":\"preloadValue\",\"client\":1,\"scope\":\"/\",\"value\":\"x\"}\n"
    ++ codes "{\"lane\":0,\"do\":\"preloadState\",\"client\":1,\"scope\":\"/\"}\n")).shown
    ≡ codes "registrations 1\n"
    ++ codes "registration \"https://a.test\" \"https://a.test/\" imports\n"
    ++ codes " active activated \"https://a.test/sw.js\" classic 5\n"
    ++ codes " preload on \"x\"\n"
    ++ codes "caches 0\n"
unfolding digits escape_byte grammar_on_literals steps_on_literals
row_preload_shown = refl

row_preload_without_registration :
    has_lines
    (codes "L0.1 preloadState -> NoRegistration\n" ∷ [])
    (replayed
    (codes "{\"lane\":0,\"do\":\"open\",\"client\":1,\"url\":\"https://a.test/\"}\n"
    ++ codes "{\"lane\":0,\"do\":\"preloadState\",\"client\":1,\"scope\":\"/\"}\n")).transcript
    ≡ true
unfolding digits escape_byte grammar_on_literals steps_on_literals
row_preload_without_registration = refl

row_refused_by_name :
    has_lines
    (codes "L0.0 open -> none\n" ∷ codes "L0.1 open -> InUse\n" ∷ codes "L0.2 close -> NoClient\n" ∷ codes "L0.3 begin -> NoController\n" ∷ codes "L0.4 end -> NoEvent\n" ∷ codes "L0.5 update -> NoRegistration\n" ∷ codes "L0.6 softUpdate -> NoRegistration\n" ∷ codes "L0.7 claim -> NoRegistration\n" ∷ codes "L0.8 registration -> SecurityError origin\n" ∷ codes "L0.9 registrations -> 0\n" ∷ codes "L0.10 registration -> undefined\n" ∷ [])
    (replayed
    (codes "{\"lane\":0,\"do\":\"open\",\"client\":1,\"url\":\"https://a.test/\"}\n"
    ++ codes "{\"lane\":0,\"do\":\"open\",\"client\":1,\"url\":\"https://a.test/\"}\n"
    ++ codes "{\"lane\":0,\"do\":\"close\",\"client\":9}\n"
    ++ codes "{\"lane\":0,\"do\":\"begin\",\"client\":1,\"event\":5}\n"
    ++ codes "{\"lane\":0,\"do\":\"end\",\"event\":5}\n"
    ++ codes "{\"lane\":0,\"do\":\"update\",\"client\":1,\"scope\":\"/\"}\n"
    ++ codes "{\"lane\":0,\"do\":\"softUpdate\",\"client\":1,\"scope\":\"/\"}\n"
    ++ codes "{\"lane\":0,\"do\":\"claim\",\"client\":1,\"scope\":\"/\",\"slot\":\"active\"}\n"
    ++ codes "{\"lane\":0,\"do\":\"registration\",\"client\":1,\"url\":\"https://b.test/\"}\n"
    ++ codes "{\"lane\":0,\"do\":\"registrations\",\"client\":1}\n"
    ++ codes "{\"lane\":0,\"do\":\"registration\",\"client\":1,\"url\":\"/\"}\n")).transcript
    ≡ true
unfolding digits escape_byte grammar_on_literals steps_on_literals
row_refused_by_name = refl

row_rollback :
    has_lines
    (codes "L0.0 cacheOpen -> made\n" ∷ codes "L0.1 put -> ok\n" ∷ codes "L0.2 batch -> InvalidStateError 1\n" ∷ codes "L0.3 matchAll -> 1 0\n" ∷ codes "L0.4 batch -> ok\n" ∷ codes "L0.5 matchAll -> 17 0 1 2 3 4 5 6 7 8 9 10 11 12 13 14 15\n" ∷ codes "L0.6 put -> TypeError partial\n" ∷ codes "L0.7 put -> CacheGone\n" ∷ [])
    (replayed
    (codes "{\"lane\":0,\"do\":\"cacheOpen\",\"at\":\"https://a.test/\",\"name\":\"v\"}\n"
    ++ codes "{\"lane\":0,\"do\":\"put\",\"at\":\"https://a.test/\",\"name\":\"v\",\"request\":\"/y\",\"response\":{\"status\":200}}\n"
    ++ codes "{\"lane\":0,\"do\":\"batch\",\"at\":\"https://a.test/\",\"name\":\"v\",\"operations\":[{\"put\":\"/x\",\"response\":{\"status\":200}},{\"put\":\"/x\",\"response\":{\"status\":200}}]}\n"
    ++ codes "{\"lane\":0,\"do\":\"matchAll\",\"at\":\"https://a.test/\",\"name\":\"v\"}\n"
    ++ codes "{\"lane\":0,\"do\":\"batch\",\"at\":\"https://a.test/\",\"name\":\"v\",\"operations\":[{\"put\":\"/0\",\"response\":{\"status\":200}},{\"put\":\"/1\",\"response\":{\"status\":200}},{\"put\":\"/2\",\"response\":{\"status\":200}},{\"put\":\"/3\",\"response\":{\"status\":200}},{\"put\":\"/4\",\"response\":{\"status\":200}},{\"put\":\"/5\",\"response\":{\"status\":200}},{\"put\":\"/6\",\"response\":{\"status\":200}},{\"put\":\"/7\",\"response\":{\"status\":200}},{\"put\":\"/8\",\"response\":{\"status\":200}},{\"put\":\"/9\",\"response\":{\"status\":200}},{\"put\":\"/10\",\"response\":{\"status\":200}},{\"put\":\"/11\",\"response\":{\"status\":200}},{\"put\":\"/12\",\"response\":{\"status\":200}},{\"put\":\"/13\",\"response\":{\"status\":200}},{\"put\":\"/14\",\"response\":{\"status\":200}},{\"put\":\"/15\",\"response\":{\"status\":200}}]}\n"
    ++ codes "{\"lane\":0,\"do\":\"matchAll\",\"at\":\"https://a.test/\",\"name\":\"v\"}\n"
    ++ codes "{\"lane\":0,\"do\":\"put\",\"at\":\"https://a.test/\",\"name\":\"v\",\"request\":\"/x\",\"response\":{\"status\":206}}\n"
    ++ codes "{\"lane\":0,\"do\":\"put\",\"at\":\"https://a.test/\",\"name\":\"w\",\"request\":\"/x\",\"response\":{\"status\":200}}\n")).transcript
    ≡ true
unfolding digits escape_byte grammar_on_literals steps_on_literals
row_rollback = refl

row_settled_promise :
    has_lines
    (codes "L0.2 await -> r0\n" ∷ codes "L0.3 register -> j1\n" ∷ codes "- installed j0 -> ok | w0 installed\n" ∷ codes "- run j1 -> finished | settled j1 r0\n" ∷ codes "L0.4 await -> r0\n" ∷ codes "- tryactivate r0 -> w0 | w0 activating\n" ∷ codes "- activated w0 -> ok | w0 activated\n" ∷ codes "end done\n" ∷ [])
    (replayed
    (codes "{\"fetch\":\"https://a.test/sw.js\",\"status\":200,\"headers\":[[\"Content-Type\",\"text/javascript\"]],\"text\":\"// v1\"}\n"
    ++ codes "{\"lane\":0,\"do\":\"open\",\"client\":1,\"url\":\"https://a.test/\"}\n"
    ++ codes "{\"lane\":0,\"do\":\"register\",\"client\":1,\"script\":\"/sw.js\"}\n"
    ++ codes "{\"lane\":0,\"do\":\"await\",\"of\":1}\n"
    ++ codes "{\"lane\":0,\"do\":\"register\",\"client\":1,\"script\":\"/sw.js\"}\n"
    ++ codes "{\"lane\":0,\"do\":\"await\",\"of\":3}\n")).transcript
    ≡ true
unfolding digits escape_byte grammar_on_literals steps_on_literals
row_settled_promise = refl

row_stalled :
    has_lines
    (codes "L0.0 open -> none\n" ∷ codes "end stalled 0\n" ∷ [])
    (replayed
    (codes "{\"lane\":0,\"do\":\"open\",\"client\":1,\"url\":\"https://a.test/\"}\n"
    ++ codes "{\"lane\":0,\"do\":\"ready\",\"client\":1}\n")).transcript
    ≡ true
unfolding digits escape_byte grammar_on_literals steps_on_literals
row_stalled = refl

row_two_conditions :
    has_lines
    (codes "L0.2 ready -> r0\n" ∷ codes "L0.3 open -> w0\n" ∷ codes "- activated w0 -> ok | w0 activated\n" ∷ codes "L0.4 begin -> w0\n" ∷ codes "L0.5 update -> j1\n" ∷ codes "L0.6 register -> j2\n" ∷ codes "- run j1 -> fetch 1\n" ∷ codes "- fetched j1 -> changed | w1 parsed\n" ∷ codes "- evaluated j1 -> installing | w1 installing | settled j1 r0 | updatefound r0\n" ∷ codes "- installed j1 -> ok | w1 installed\n" ∷ codes "- run j2 -> finished | settled j2 r0\n" ∷ codes "L0.7 await -> r0\n" ∷ codes "L0.8 skipWaiting -> ok\n" ∷ codes "L0.9 end -> ok | w0 redundant | w1 activating | controllerchange c2\n" ∷ codes "- tryactivate r0 -> none\n" ∷ codes "- activated w1 -> ok | w1 activated\n" ∷ codes "end done\n" ∷ [])
    (replayed
    (codes "{\"fetch\":\"https://a.test/sw.js\",\"status\":200,\"headers\":[[\"Content-Type\",\"text/javascript\"]],\"text\":\"// v1\"}\n"
    ++ codes "{\"fetch\":\"https://a.test/sw.js\",\"status\":200,\"headers\":[[\"Content-Type\",\"text/javascript\"]],\"text\":\"// v2\"}\n"
    ++ codes "{\"lane\":0,\"do\":\"open\",\"client\":1,\"url\":\"https://a.test/\"}\n"
    ++ codes "{\"lane\":0,\"do\":\"register\",\"client\":1,\"script\":\"/sw.js\"}\n"
    ++ codes "{\"lane\":0,\"do\":\"ready\",\"client\":1}\n"
    ++ codes "{\"lane\":0,\"do\":\"open\",\"client\":2,\"url\":\"https://a.test/p\"}\n"
    ++ codes "{\"lane\":0,\"do\":\"begin\",\"client\":2,\"event\":7}\n"
    ++ codes "{\"lane\":0,\"do\":\"update\",\"client\":1,\"scope\":\"/\"}\n"
    ++ codes "{\"lane\":0,\"do\":\"register\",\"client\":1,\"script\":\"/sw.js\"}\n"
    ++ codes "{\"lane\":0,\"do\":\"await\",\"of\":6}\n"
    ++ codes "{\"lane\":0,\"do\":\"skipWaiting\",\"client\":1,\"scope\":\"/\",\"slot\":\"waiting\"}\n"
    ++ codes "{\"lane\":0,\"do\":\"end\",\"event\":7}\n")).transcript
    ≡ true
unfolding digits escape_byte grammar_on_literals steps_on_literals
row_two_conditions = refl

row_two_registrations_of_one_scope :
    has_lines
    (codes "L0.2 ready -> r0\n" ∷ codes "L0.3 open -> w0\n" ∷ codes "L0.4 unregister -> j1\n" ∷ codes "- run j1 -> finished | unmapped r0 | settled j1 true\n" ∷ codes "L0.5 await -> true\n" ∷ codes "L0.6 register -> j2\n" ∷ codes "- run j2 -> fetch 1 | mapped r1\n" ∷ codes "- fetched j2 -> changed | w1 parsed\n" ∷ codes "- evaluated j2 -> installing | w1 installing | settled j2 r1 | updatefound r1\n" ∷ codes "L0.7 await -> r1\n" ∷ codes "L0.8 open -> none\n" ∷ codes "L0.9 close -> ok\n" ∷ codes "L0.10 registrations -> 1 r1\n" ∷ codes "- installed j2 -> ok | w1 installed\n" ∷ codes "- tryactivate r1 -> w1 | w1 activating\n" ∷ codes "- activated w0 -> ok | w0 activated | w0 redundant\n" ∷ codes "- activated w1 -> ok | w1 activated\n" ∷ codes "end done\n" ∷ [])
    (replayed
    (codes "{\"fetch\":\"https://a.test/sw.js\",\"status\":200,\"headers\":[[\"Content-Type\",\"text/javascript\"]],\"text\":\"// v1\"}\n"
    ++ codes "{\"lane\":0,\"do\":\"open\",\"client\":1,\"url\":\"https://a.test/\"}\n"
    ++ codes "{\"lane\":0,\"do\":\"register\",\"client\":1,\"script\":\"/sw.js\"}\n"
    ++ codes "{\"lane\":0,\"do\":\"ready\",\"client\":1}\n"
    ++ codes "{\"lane\":0,\"do\":\"open\",\"client\":2,\"url\":\"https://a.test/p\"}\n"
    ++ codes "{\"lane\":0,\"do\":\"unregister\",\"client\":1,\"scope\":\"/\"}\n"
    ++ codes "{\"lane\":0,\"do\":\"await\",\"of\":4}\n"
    ++ codes "{\"lane\":0,\"do\":\"register\",\"client\":1,\"script\":\"/sw.js\"}\n"
    ++ codes "{\"lane\":0,\"do\":\"await\",\"of\":6}\n"
    ++ codes "{\"lane\":0,\"do\":\"open\",\"client\":3,\"url\":\"https://a.test/q\"}\n"
    ++ codes "{\"lane\":0,\"do\":\"close\",\"client\":2}\n"
    ++ codes "{\"lane\":0,\"do\":\"registrations\",\"client\":1}\n")).transcript
    ≡ true
unfolding digits escape_byte grammar_on_literals steps_on_literals
row_two_registrations_of_one_scope = refl

row_usual_page :
    has_lines
    (codes "- restarted -> 0 registrations 0 caches\n" ∷ codes "L0.0 open -> none\n" ∷ codes "L0.1 register -> j0\n" ∷ codes "- run j0 -> fetch 0 | mapped r0\n" ∷ codes "- fetched j0 -> changed | w0 parsed\n" ∷ codes "- evaluated j0 -> installing | w0 installing | settled j0 r0 | updatefound r0\n" ∷ codes "L0.2 await -> r0\n" ∷ codes "w0.install.0 cacheOpen -> made\n" ∷ codes "w0.install.1 addAll -> a0\n" ∷ codes "- added a0 -> ok\n" ∷ codes "- installed j0 -> ok | w0 installed\n" ∷ codes "- tryactivate r0 -> w0 | w0 activating\n" ∷ codes "L0.3 ready -> r0\n" ∷ codes "L0.4 match -> hit \"v1\" 1 200 3\n" ∷ codes "- activated w0 -> ok | w0 activated\n" ∷ codes "end done\n" ∷ [])
    (replayed
    (codes "{\"fetch\":\"https://a.test/sw.js\",\"status\":200,\"headers\":[[\"Content-Type\",\"text/javascript; charset=utf-8\"]],\"text\":\"// v1\",\"install\":{\"calls\":[{\"do\":\"cacheOpen\",\"name\":\"v1\"},{\"do\":\"addAll\",\"name\":\"v1\",\"requests\":[\"/\",\"/app.css\"]}],\"end\":\"ok\"}}\n"
    ++ codes "{\"fetch\":\"https://a.test/\",\"status\":200,\"headers\":[[\"Content-Type\",\"text/html\"]],\"text\":\"<p>hi\"}\n"
    ++ codes "{\"fetch\":\"https://a.test/app.css\",\"status\":200,\"text\":\"p{}\"}\n"
    ++ codes "{\"lane\":0,\"do\":\"open\",\"client\":1,\"url\":\"https://a.test/\"}\n"
    ++ codes "{\"lane\":0,\"do\":\"register\",\"client\":1,\"script\":\"/sw.js\"}\n"
    ++ codes "{\"lane\":0,\"do\":\"await\",\"of\":1}\n"
    ++ codes "{\"lane\":0,\"do\":\"ready\",\"client\":1}\n"
    ++ codes "{\"lane\":0,\"do\":\"match\",\"at\":\"https://a.test/\",\"request\":\"/app.css\"}\n")).transcript
    ≡ true
unfolding digits escape_byte grammar_on_literals steps_on_literals
row_usual_page = refl

row_vary :
    has_lines
    (codes "L0.0 cacheOpen -> made\n" ∷ codes "L0.1 put -> ok\n" ∷ codes "L0.2 put -> ok\n" ∷ codes "L0.3 matchAll -> 0\n" ∷ codes "L0.4 matchAll -> 2 0 1\n" ∷ codes "L0.5 match -> hit \"v\" 1 200 2\n" ∷ codes "L0.6 delete -> true\n" ∷ codes "L0.7 keys -> 0\n" ∷ [])
    (replayed
    (codes "{\"lane\":0,\"do\":\"cacheOpen\",\"at\":\"https://a.test/\",\"name\":\"v\"}\n"
    ++ codes "{\"lane\":0,\"do\":\"put\",\"at\":\"https://a.test/\",\"name\":\"v\",\"request\":{\"url\":\"/x\",\"headers\":[[\"Accept\",\"a\"]]},\"response\":{\"status\":200,\"headers\":[[\"Vary\",\"Accept\"]],\"text\":\"A\"}}\n"
    ++ codes "{\"lane\":0,\"do\":\"put\",\"at\":\"https://a.test/\",\"name\":\"v\",\"request\":{\"url\":\"/x\",\"headers\":[[\"Accept\",\"b\"]]},\"response\":{\"status\":200,\"headers\":[[\"Vary\",\"Accept\"]],\"text\":\"BB\"}}\n"
    ++ codes "{\"lane\":0,\"do\":\"matchAll\",\"at\":\"https://a.test/\",\"name\":\"v\",\"request\":\"/x\"}\n"
    ++ codes "{\"lane\":0,\"do\":\"matchAll\",\"at\":\"https://a.test/\",\"name\":\"v\",\"request\":\"/x\",\"ignoreVary\":true}\n"
    ++ codes "{\"lane\":0,\"do\":\"match\",\"at\":\"https://a.test/\",\"request\":{\"url\":\"/x\",\"headers\":[[\"Accept\",\"b\"]]}}\n"
    ++ codes "{\"lane\":0,\"do\":\"delete\",\"at\":\"https://a.test/\",\"name\":\"v\",\"request\":\"/x\",\"ignoreVary\":true}\n"
    ++ codes "{\"lane\":0,\"do\":\"keys\",\"at\":\"https://a.test/\",\"name\":\"v\"}\n")).transcript
    ≡ true
unfolding digits escape_byte grammar_on_literals steps_on_literals
row_vary = refl
