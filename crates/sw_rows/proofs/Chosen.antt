-- Recordings of conformance/small and lines of conformance/bad_lines that bin/rows --choose chose, computed from their lines to the transcript and to the text of what is kept.
use Rattle.std.specs.Prelude.{◌≡◌, ◌++◌, codes, refl}
use Rattle.std.specs.Fmt.{digits}
use Rattle.json.specs.Print.{escape_byte}
use Rattle.sw_record.proofs.OnLiterals.{grammar_on_literals}
use Rattle.sw_rules.proofs.OnLiterals.{steps_on_literals}
use Rattle.sw_rows.specs.Replays.{replayed}

row_small_activating_093 :
    replayed
    (codes "{\"fetch\":\"https://xn--nxa.test/app/sw.js\",\"status\":200,\"headers\":[[\"Content-Type\",\"application/javascript; charset=utf-8\"]],\"text\":\"// v1\",\"activate\":{\"calls\":[{\"do\":\"skipWaiting\"}]}}\n"
    ++ codes "{\"lane\":0,\"do\":\"open\",\"client\":1,\"url\":\"https://xn--nxa.test/\"}\n"
    ++ codes "{\"lane\":0,\"do\":\"register\",\"client\":1,\"script\":\"/app/sw.js\"}\n")
    ≡ record {
      transcript =
          codes "- restarted -> 0 registrations 0 caches\n"
          ++ codes "L0.0 open -> none\n"
          ++ codes "L0.1 register -> j0\n"
          ++ codes "- run j0 -> fetch 0 | mapped r0\n"
          ++ codes "- fetched j0 -> changed | w0 parsed\n"
          ++ codes "- evaluated j0 -> installing | w0 installing | settled j0 r0 | updatefound r0\n"
          ++ codes "- installed j0 -> ok | w0 installed\n"
          ++ codes "- tryactivate r0 -> w0 | w0 activating\n"
          ++ codes "w0.activate.0 skipWaiting -> ok\n"
          ++ codes "- activated w0 -> ok | w0 activated\n"
          ++ codes "end done\n";
      shown =
          codes "registrations 1\n"
          ++ codes "registration \"https://xn--nxa.test\" \"https://xn--nxa.test/app/\" imports\n"
          ++ codes " active activated \"https://xn--nxa.test/app/sw.js\" classic 5\n"
          ++ codes "caches 0\n";
      durable =
          codes "registrations 1\n"
          ++ codes "registration \"https://xn--nxa.test\" \"https://xn--nxa.test/app/\" imports\n"
          ++ codes " active activated \"https://xn--nxa.test/app/sw.js\" classic 5\n"
          ++ codes "caches 0\n";
    }
unfolding digits escape_byte grammar_on_literals steps_on_literals
row_small_activating_093 = refl

row_small_activating_277 :
    replayed
    (codes "{\"fetch\":\"http://127.0.0.1/sw.js\",\"status\":200,\"headers\":[[\"Content-Type\",\"TEXT/ECMAScript \"]],\"text\":\"// v2\",\"activate\":{\"calls\":[{\"do\":\"cacheOpen\",\"name\":\"v\"},{\"do\":\"batch\",\"name\":\"v\",\"operations\":[{\"put\":\"/x\",\"response\":{\"status\":200}},{\"put\":{\"url\":\"/x\",\"method\":\"post\"},\"response\":{\"status\":200}}]}]}}\n"
    ++ codes "{\"lane\":1,\"do\":\"open\",\"client\":4,\"url\":\"http://127.0.0.1/\"}\n"
    ++ codes "{\"lane\":1,\"do\":\"register\",\"client\":4,\"script\":\"/sw.js\",\"cache\":\"all\"}\n")
    ≡ record {
      transcript =
          codes "- restarted -> 0 registrations 0 caches\n"
          ++ codes "L1.0 open -> none\n"
          ++ codes "L1.1 register -> j0\n"
          ++ codes "- run j0 -> fetch 0 | mapped r0\n"
          ++ codes "- fetched j0 -> changed | w0 parsed\n"
          ++ codes "- evaluated j0 -> installing | w0 installing | settled j0 r0 | updatefound r0\n"
          ++ codes "- installed j0 -> ok | w0 installed\n"
          ++ codes "- tryactivate r0 -> w0 | w0 activating\n"
          ++ codes "w0.activate.0 cacheOpen -> made\n"
          ++ codes "w0.activate.1 batch -> TypeError method 1\n"
          ++ codes "- activated w0 -> ok | w0 activated\n"
          ++ codes "end done\n";
      shown =
          codes "registrations 1\n"
          ++ codes "registration \"http://127.0.0.1\" \"http://127.0.0.1/\" all\n"
          ++ codes " active activated \"http://127.0.0.1/sw.js\" classic 5\n"
          ++ codes "caches 1\n"
          ++ codes "cache \"http://127.0.0.1\" \"v\" 0\n";
      durable =
          codes "registrations 1\n"
          ++ codes "registration \"http://127.0.0.1\" \"http://127.0.0.1/\" all\n"
          ++ codes " active activated \"http://127.0.0.1/sw.js\" classic 5\n"
          ++ codes "caches 1\n"
          ++ codes "cache \"http://127.0.0.1\" \"v\" 0\n";
    }
unfolding digits escape_byte grammar_on_literals steps_on_literals
row_small_activating_277 = refl

row_small_caches_007 :
    replayed
    (codes "{\"lane\":0,\"do\":\"cacheOpen\",\"at\":\"https://a.test/\",\"name\":\"w\"}\n"
    ++ codes "{\"lane\":0,\"do\":\"addAll\",\"at\":\"https://a.test/\",\"name\":\"w\",\"requests\":[\"/z\"]}\n")
    ≡ record {
      transcript =
          codes "- restarted -> 0 registrations 0 caches\n"
          ++ codes "L0.0 cacheOpen -> made\n"
          ++ codes "L0.1 addAll -> a0\n"
          ++ codes "- added a0 -> TypeError network 0\n"
          ++ codes "end done\n";
      shown =
          codes "registrations 0\n"
          ++ codes "caches 1\n"
          ++ codes "cache \"https://a.test\" \"w\" 0\n";
      durable =
          codes "registrations 0\n"
          ++ codes "caches 1\n"
          ++ codes "cache \"https://a.test\" \"w\" 0\n";
    }
unfolding digits escape_byte grammar_on_literals steps_on_literals
row_small_caches_007 = refl

row_small_caches_072 :
    replayed
    (codes "{\"lane\":0,\"do\":\"addAll\",\"at\":\"http://c.test/\",\"name\":\"v1\",\"requests\":[\"/x?q=1\",\"./y\"]}\n")
    ≡ record {
      transcript =
          codes "- restarted -> 0 registrations 0 caches\n"
          ++ codes "L0.0 addAll -> SecurityError untrusted\n"
          ++ codes "end done\n";
      shown =
          codes "registrations 0\n"
          ++ codes "caches 0\n";
      durable =
          codes "registrations 0\n"
          ++ codes "caches 0\n";
    }
unfolding digits escape_byte grammar_on_literals steps_on_literals
row_small_caches_072 = refl

row_small_caches_075 :
    replayed
    (codes "{\"lane\":0,\"do\":\"cacheKeys\",\"at\":\"http://[\"}\n")
    ≡ record {
      transcript =
          codes "- restarted -> 0 registrations 0 caches\n"
          ++ codes "L0.0 cacheKeys -> TypeError unparsed\n"
          ++ codes "end done\n";
      shown =
          codes "registrations 0\n"
          ++ codes "caches 0\n";
      durable =
          codes "registrations 0\n"
          ++ codes "caches 0\n";
    }
unfolding digits escape_byte grammar_on_literals steps_on_literals
row_small_caches_075 = refl

row_small_caches_206 :
    replayed
    (codes "{\"lane\":0,\"do\":\"cacheDelete\",\"at\":\"mailto:a\",\"name\":\"v\"}\n")
    ≡ record {
      transcript =
          codes "- restarted -> 0 registrations 0 caches\n"
          ++ codes "L0.0 cacheDelete -> TypeError scheme\n"
          ++ codes "end done\n";
      shown =
          codes "registrations 0\n"
          ++ codes "caches 0\n";
      durable =
          codes "registrations 0\n"
          ++ codes "caches 0\n";
    }
unfolding digits escape_byte grammar_on_literals steps_on_literals
row_small_caches_206 = refl

row_small_calls_111 :
    replayed
    (codes "{\"fetch\":\"http://127.9.0.1:99/other.js\",\"status\":200,\"headers\":[[\"Content-Type\",\"text/javascript\"],[\"Service-Worker-Allowed\",\"/\"]],\"text\":\"// v1\",\"install\":{\"calls\":[]},\"activate\":{\"calls\":[]}}\n"
    ++ codes "{\"lane\":0,\"do\":\"open\",\"client\":1,\"url\":\"http://127.9.0.1:99/app/x\"}\n"
    ++ codes "{\"lane\":0,\"do\":\"register\",\"client\":1,\"script\":\"/other.js\",\"scope\":\"/\"}\n"
    ++ codes "{\"lane\":0,\"do\":\"await\",\"of\":1}\n"
    ++ codes "{\"lane\":0,\"do\":\"claim\",\"client\":1,\"scope\":\"/\",\"slot\":\"active\"}\n")
    ≡ record {
      transcript =
          codes "- restarted -> 0 registrations 0 caches\n"
          ++ codes "L0.0 open -> none\n"
          ++ codes "L0.1 register -> j0\n"
          ++ codes "- run j0 -> fetch 0 | mapped r0\n"
          ++ codes "- fetched j0 -> changed | w0 parsed\n"
          ++ codes "- evaluated j0 -> installing | w0 installing | settled j0 r0 | updatefound r0\n"
          ++ codes "L0.2 await -> r0\n"
          ++ codes "L0.3 claim -> NoWorker\n"
          ++ codes "- installed j0 -> ok | w0 installed\n"
          ++ codes "- tryactivate r0 -> w0 | w0 activating\n"
          ++ codes "- activated w0 -> ok | w0 activated\n"
          ++ codes "end done\n";
      shown =
          codes "registrations 1\n"
          ++ codes "registration \"http://127.9.0.1:99\" \"http://127.9.0.1:99/\" imports\n"
          ++ codes " active activated \"http://127.9.0.1:99/other.js\" classic 5\n"
          ++ codes "caches 0\n";
      durable =
          codes "registrations 1\n"
          ++ codes "registration \"http://127.9.0.1:99\" \"http://127.9.0.1:99/\" imports\n"
          ++ codes " active activated \"http://127.9.0.1:99/other.js\" classic 5\n"
          ++ codes "caches 0\n";
    }
unfolding digits escape_byte grammar_on_literals steps_on_literals
row_small_calls_111 = refl

row_small_handlers_057 :
    replayed
    (codes "{\"fetch\":\"https://a.test/sw.js\",\"status\":200,\"headers\":[[\"Content-Type\",\"text/javascript\"]],\"text\":\"// v1\",\"install\":{\"calls\":[{\"do\":\"cacheDelete\",\"name\":\"v\"}]}}\n"
    ++ codes "{\"lane\":1,\"do\":\"open\",\"client\":7,\"url\":\"https://a.test/\"}\n"
    ++ codes "{\"lane\":1,\"do\":\"register\",\"client\":7,\"script\":\"/sw.js\",\"scope\":\"/app/x/\"}\n")
    ≡ record {
      transcript =
          codes "- restarted -> 0 registrations 0 caches\n"
          ++ codes "L1.0 open -> none\n"
          ++ codes "L1.1 register -> j0\n"
          ++ codes "- run j0 -> fetch 0 | mapped r0\n"
          ++ codes "- fetched j0 -> changed | w0 parsed\n"
          ++ codes "- evaluated j0 -> installing | w0 installing | settled j0 r0 | updatefound r0\n"
          ++ codes "w0.install.0 cacheDelete -> false\n"
          ++ codes "- installed j0 -> ok | w0 installed\n"
          ++ codes "- tryactivate r0 -> w0 | w0 activating\n"
          ++ codes "- activated w0 -> ok | w0 activated\n"
          ++ codes "end done\n";
      shown =
          codes "registrations 1\n"
          ++ codes "registration \"https://a.test\" \"https://a.test/app/x/\" imports\n"
          ++ codes " active activated \"https://a.test/sw.js\" classic 5\n"
          ++ codes "caches 0\n";
      durable =
          codes "registrations 1\n"
          ++ codes "registration \"https://a.test\" \"https://a.test/app/x/\" imports\n"
          ++ codes " active activated \"https://a.test/sw.js\" classic 5\n"
          ++ codes "caches 0\n";
    }
unfolding digits escape_byte grammar_on_literals steps_on_literals
row_small_handlers_057 = refl

row_small_handlers_282 :
    replayed
    (codes "{\"fetch\":\"http://127.0.0.1/sw.js\",\"status\":200,\"headers\":[[\"Content-Type\",\"text/javascript\"]],\"text\":\"// v1\",\"install\":{\"calls\":[{\"do\":\"cacheOpen\",\"name\":\"v\"},{\"do\":\"put\",\"name\":\"v\",\"request\":\"/x\",\"response\":{\"status\":200,\"text\":\"call\"}}]},\"activate\":{\"calls\":[{\"do\":\"delete\",\"name\":\"v\",\"request\":\"/x\"}]}}\n"
    ++ codes "{\"lane\":2,\"do\":\"register\",\"client\":0,\"script\":\"/sw.js\"}\n"
    ++ codes "{\"lane\":0,\"do\":\"open\",\"client\":0,\"url\":\"http://127.0.0.1/other\"}\n")
    ≡ record {
      transcript =
          codes "- restarted -> 0 registrations 0 caches\n"
          ++ codes "L0.0 open -> none\n"
          ++ codes "L2.0 register -> j0\n"
          ++ codes "- run j0 -> fetch 0 | mapped r0\n"
          ++ codes "- fetched j0 -> changed | w0 parsed\n"
          ++ codes "- evaluated j0 -> installing | w0 installing | settled j0 r0 | updatefound r0\n"
          ++ codes "w0.install.0 cacheOpen -> made\n"
          ++ codes "w0.install.1 put -> ok\n"
          ++ codes "- installed j0 -> ok | w0 installed\n"
          ++ codes "- tryactivate r0 -> w0 | w0 activating\n"
          ++ codes "w0.activate.0 delete -> true\n"
          ++ codes "- activated w0 -> ok | w0 activated\n"
          ++ codes "end done\n";
      shown =
          codes "registrations 1\n"
          ++ codes "registration \"http://127.0.0.1\" \"http://127.0.0.1/\" imports\n"
          ++ codes " active activated \"http://127.0.0.1/sw.js\" classic 5\n"
          ++ codes "caches 1\n"
          ++ codes "cache \"http://127.0.0.1\" \"v\" 0\n";
      durable =
          codes "registrations 1\n"
          ++ codes "registration \"http://127.0.0.1\" \"http://127.0.0.1/\" imports\n"
          ++ codes " active activated \"http://127.0.0.1/sw.js\" classic 5\n"
          ++ codes "caches 1\n"
          ++ codes "cache \"http://127.0.0.1\" \"v\" 0\n";
    }
unfolding digits escape_byte grammar_on_literals steps_on_literals
row_small_handlers_282 = refl

row_small_installing_054 :
    replayed
    (codes "{\"lane\":0,\"do\":\"open\",\"client\":8,\"url\":\"https://a.test/app/x\"}\n"
    ++ codes "{\"lane\":0,\"do\":\"unregister\",\"client\":8,\"scope\":\"mailto:x\"}\n")
    ≡ record {
      transcript =
          codes "- restarted -> 0 registrations 0 caches\n"
          ++ codes "L0.0 open -> none\n"
          ++ codes "L0.1 unregister -> j0\n"
          ++ codes "- run j0 -> finished | settled j0 SecurityError scope-origin\n"
          ++ codes "end done\n";
      shown =
          codes "registrations 0\n"
          ++ codes "caches 0\n";
      durable =
          codes "registrations 0\n"
          ++ codes "caches 0\n";
    }
unfolding digits escape_byte grammar_on_literals steps_on_literals
row_small_installing_054 = refl

row_small_installing_242 :
    replayed
    (codes "{\"fetch\":\"https://xn--nxa.test/other.js\",\"status\":200,\"headers\":[[\"Content-Type\",\"text/javascript1.5;x\"]],\"text\":\"// v2\",\"install\":{\"calls\":[{\"do\":\"update\"}]}}\n"
    ++ codes "{\"lane\":0,\"do\":\"open\",\"client\":3,\"url\":\"https://xn--nxa.test/d/e/q\"}\n"
    ++ codes "{\"lane\":0,\"do\":\"register\",\"client\":3,\"script\":\"/other.js\",\"scope\":\"/\"}\n")
    ≡ record {
      transcript =
          codes "- restarted -> 0 registrations 0 caches\n"
          ++ codes "L0.0 open -> none\n"
          ++ codes "L0.1 register -> j0\n"
          ++ codes "- run j0 -> fetch 0 | mapped r0\n"
          ++ codes "- fetched j0 -> changed | w0 parsed\n"
          ++ codes "- evaluated j0 -> installing | w0 installing | settled j0 r0 | updatefound r0\n"
          ++ codes "w0.install.0 update -> InvalidStateError installing\n"
          ++ codes "- installed j0 -> failed | w0 redundant | unmapped r0\n"
          ++ codes "end done\n";
      shown =
          codes "registrations 0\n"
          ++ codes "caches 0\n";
      durable =
          codes "registrations 0\n"
          ++ codes "caches 0\n";
    }
unfolding digits escape_byte grammar_on_literals steps_on_literals
row_small_installing_242 = refl

row_small_pairs_224 :
    replayed
    (codes "{\"lane\":0,\"do\":\"cacheOpen\",\"at\":\"https://a.test/d/\",\"name\":\"v1\"}\n"
    ++ codes "{\"lane\":0,\"do\":\"put\",\"at\":\"https://a.test/\",\"name\":\"v1\",\"request\":{\"url\":\"./y\",\"headers\":[]},\"response\":{\"status\":200,\"headers\":[[\"Vary\",\"Accept,*\"]],\"text\":\"xxxxxxxxxxxxxxxxxxxxxxxxxxxxxxxxxxxxxxxx\"}}\n")
    ≡ record {
      transcript =
          codes "- restarted -> 0 registrations 0 caches\n"
          ++ codes "L0.0 cacheOpen -> made\n"
          ++ codes "L0.1 put -> TypeError vary\n"
          ++ codes "end done\n";
      shown =
          codes "registrations 0\n"
          ++ codes "caches 1\n"
          ++ codes "cache \"https://a.test\" \"v1\" 0\n";
      durable =
          codes "registrations 0\n"
          ++ codes "caches 1\n"
          ++ codes "cache \"https://a.test\" \"v1\" 0\n";
    }
unfolding digits escape_byte grammar_on_literals steps_on_literals
row_small_pairs_224 = refl

row_small_registrations_196 :
    replayed
    (codes "{\"lane\":1,\"do\":\"preloadDisable\",\"client\":9,\"scope\":\"http://[\"}\n")
    ≡ record {
      transcript =
          codes "- restarted -> 0 registrations 0 caches\n"
          ++ codes "L1.0 preloadDisable -> NoClient\n"
          ++ codes "end done\n";
      shown =
          codes "registrations 0\n"
          ++ codes "caches 0\n";
      durable =
          codes "registrations 0\n"
          ++ codes "caches 0\n";
    }
unfolding digits escape_byte grammar_on_literals steps_on_literals
row_small_registrations_196 = refl

row_small_updating_223 :
    replayed
    (codes "{\"fetch\":\"http://127.9.0.1:99/sw.js\",\"status\":500,\"headers\":[[\"Content-Type\",\"text/javascript1.5;x\"]],\"text\":\"// v3\",\"run\":\"throw\",\"install\":{\"calls\":[]}}\n"
    ++ codes "{\"fetch\":\"http://127.9.0.1:99/sw.js\",\"status\":200,\"headers\":[[\"Content-Type\",\"text/jscript\"]],\"text\":\"// v1\",\"install\":{\"end\":\"ok\"}}\n"
    ++ codes "{\"fetch\":\"http://127.9.0.1:99/sw.js\",\"status\":200,\"headers\":[[\"Content-Type\",\"\"]],\"text\":\"// v2\",\"install\":{\"calls\":[]},\"activate\":{\"calls\":[]}}\n"
    ++ codes "{\"lane\":0,\"do\":\"open\",\"client\":3,\"url\":\"http://127.9.0.1:99/p\"}\n"
    ++ codes "{\"lane\":1,\"do\":\"register\",\"client\":3,\"script\":\"/sw.js\",\"scope\":\"/app/x/\",\"type\":\"classic\",\"cache\":\"all\"}\n"
    ++ codes "{\"lane\":1,\"do\":\"open\",\"client\":6,\"url\":\"http://127.9.0.1:99/p\"}\n"
    ++ codes "{\"lane\":1,\"do\":\"register\",\"client\":6,\"script\":\"/sw.js\",\"scope\":\"./\"}\n"
    ++ codes "{\"lane\":1,\"do\":\"await\",\"of\":2}\n"
    ++ codes "{\"lane\":1,\"do\":\"update\",\"client\":6,\"scope\":\"./\"}\n"
    ++ codes "{\"lane\":1,\"do\":\"update\",\"client\":6,\"scope\":\"./\"}\n")
    ≡ record {
      transcript =
          codes "- restarted -> 0 registrations 0 caches\n"
          ++ codes "L0.0 open -> none\n"
          ++ codes "L1.0 register -> j0\n"
          ++ codes "L1.1 open -> none\n"
          ++ codes "L1.2 register -> j1\n"
          ++ codes "- run j0 -> fetch 0 | mapped r0\n"
          ++ codes "- run j1 -> fetch 1 | mapped r1\n"
          ++ codes "- fetched j0 -> rejected | settled j0 TypeError status | unmapped r0\n"
          ++ codes "- fetched j1 -> changed | w0 parsed\n"
          ++ codes "- evaluated j1 -> installing | w0 installing | settled j1 r1 | updatefound r1\n"
          ++ codes "L1.3 await -> r1\n"
          ++ codes "L1.4 update -> j2\n"
          ++ codes "L1.5 update -> j3 joined j2\n"
          ++ codes "- installed j1 -> ok | w0 installed\n"
          ++ codes "- run j2 -> fetch 2\n"
          ++ codes "- fetched j2 -> rejected | settled j2 SecurityError mime | settled j3 SecurityError mime\n"
          ++ codes "- tryactivate r1 -> w0 | w0 activating\n"
          ++ codes "- activated w0 -> ok | w0 activated\n"
          ++ codes "end done\n";
      shown =
          codes "registrations 1\n"
          ++ codes "registration \"http://127.9.0.1:99\" \"http://127.9.0.1:99/\" imports\n"
          ++ codes " active activated \"http://127.9.0.1:99/sw.js\" classic 5\n"
          ++ codes "caches 0\n";
      durable =
          codes "registrations 1\n"
          ++ codes "registration \"http://127.9.0.1:99\" \"http://127.9.0.1:99/\" imports\n"
          ++ codes " active activated \"http://127.9.0.1:99/sw.js\" classic 5\n"
          ++ codes "caches 0\n";
    }
unfolding digits escape_byte grammar_on_literals steps_on_literals
row_small_updating_223 = refl

row_small_updating_230 :
    replayed
    (codes "{\"fetch\":\"http://127.0.0.1/other.js\",\"status\":200,\"headers\":[[\"Content-Type\",\"TEXT/ECMAScript \"]],\"text\":\"// v2\"}\n"
    ++ codes "{\"fetch\":\"http://127.0.0.1/sw.js\",\"status\":200,\"headers\":[[\"Content-Type\",\" application/x-javascript\"]],\"text\":\"// v2\",\"install\":{\"calls\":[]},\"activate\":{\"calls\":[]}}\n"
    ++ codes "{\"lane\":0,\"do\":\"open\",\"client\":7,\"url\":\"http://127.0.0.1/p\"}\n"
    ++ codes "{\"lane\":0,\"do\":\"register\",\"client\":7,\"script\":\"/sw.js\",\"scope\":\"/\"}\n"
    ++ codes "{\"lane\":0,\"do\":\"await\",\"of\":1}\n"
    ++ codes "{\"lane\":0,\"do\":\"register\",\"client\":7,\"script\":\"/other.js\",\"scope\":\"/\",\"type\":\"classic\"}\n"
    ++ codes "{\"lane\":0,\"do\":\"update\",\"client\":7,\"scope\":\"/\"}\n")
    ≡ record {
      transcript =
          codes "- restarted -> 0 registrations 0 caches\n"
          ++ codes "L0.0 open -> none\n"
          ++ codes "L0.1 register -> j0\n"
          ++ codes "- run j0 -> fetch 0 | mapped r0\n"
          ++ codes "- fetched j0 -> changed | w0 parsed\n"
          ++ codes "- evaluated j0 -> installing | w0 installing | settled j0 r0 | updatefound r0\n"
          ++ codes "L0.2 await -> r0\n"
          ++ codes "L0.3 register -> j1\n"
          ++ codes "L0.4 update -> j2\n"
          ++ codes "- installed j0 -> ok | w0 installed\n"
          ++ codes "- run j1 -> fetch 0\n"
          ++ codes "- fetched j1 -> changed | w1 parsed\n"
          ++ codes "- evaluated j1 -> installing | w1 installing | settled j1 r0 | updatefound r0\n"
          ++ codes "- installed j1 -> ok | w0 redundant | w1 installed\n"
          ++ codes "- run j2 -> finished | settled j2 TypeError script\n"
          ++ codes "- tryactivate r0 -> w1 | w1 activating\n"
          ++ codes "- activated w1 -> ok | w1 activated\n"
          ++ codes "end done\n";
      shown =
          codes "registrations 1\n"
          ++ codes "registration \"http://127.0.0.1\" \"http://127.0.0.1/\" imports\n"
          ++ codes " active activated \"http://127.0.0.1/other.js\" classic 5\n"
          ++ codes "caches 0\n";
      durable =
          codes "registrations 1\n"
          ++ codes "registration \"http://127.0.0.1\" \"http://127.0.0.1/\" imports\n"
          ++ codes " active activated \"http://127.0.0.1/other.js\" classic 5\n"
          ++ codes "caches 0\n";
    }
unfolding digits escape_byte grammar_on_literals steps_on_literals
row_small_updating_230 = refl

row_small_waiting_089 :
    replayed
    (codes "{\"fetch\":\"https://b.test/sw.js?v=1\",\"status\":200,\"headers\":[[\"Content-Type\",\"text/javascript1.5;x\"],[\"Service-Worker-Allowed\",\"/\"]],\"text\":\"// v1\"}\n"
    ++ codes "{\"lane\":0,\"do\":\"open\",\"client\":4,\"url\":\"https://b.test/\"}\n"
    ++ codes "{\"lane\":0,\"do\":\"register\",\"client\":4,\"script\":\"/sw.js?v=1\"}\n"
    ++ codes "{\"lane\":0,\"do\":\"await\",\"of\":1}\n"
    ++ codes "{\"lane\":0,\"do\":\"unregister\",\"client\":4,\"scope\":\"/\"}\n"
    ++ codes "{\"lane\":0,\"do\":\"update\",\"client\":4,\"scope\":\"/\"}\n")
    ≡ record {
      transcript =
          codes "- restarted -> 0 registrations 0 caches\n"
          ++ codes "L0.0 open -> none\n"
          ++ codes "L0.1 register -> j0\n"
          ++ codes "- run j0 -> fetch 0 | mapped r0\n"
          ++ codes "- fetched j0 -> changed | w0 parsed\n"
          ++ codes "- evaluated j0 -> installing | w0 installing | settled j0 r0 | updatefound r0\n"
          ++ codes "L0.2 await -> r0\n"
          ++ codes "L0.3 unregister -> j1\n"
          ++ codes "L0.4 update -> j2\n"
          ++ codes "- installed j0 -> ok | w0 installed\n"
          ++ codes "- run j1 -> finished | unmapped r0 | settled j1 true | w0 redundant\n"
          ++ codes "- run j2 -> finished | settled j2 TypeError no-registration\n"
          ++ codes "- tryactivate r0 -> none\n"
          ++ codes "end done\n";
      shown =
          codes "registrations 0\n"
          ++ codes "caches 0\n";
      durable =
          codes "registrations 0\n"
          ++ codes "caches 0\n";
    }
unfolding digits escape_byte grammar_on_literals steps_on_literals
row_small_waiting_089 = refl

row_small_waiting_135 :
    replayed
    (codes "{\"fetch\":\"http://127.0.0.1/sw.js\",\"status\":200,\"headers\":[[\"Content-Type\",\"TEXT/ECMAScript \"],[\"Service-Worker-Allowed\",\"/\"]],\"text\":\"// v1\",\"run\":\"throw\",\"install\":{\"calls\":[]}}\n"
    ++ codes "{\"lane\":1,\"do\":\"open\",\"client\":3,\"url\":\"http://127.0.0.1/app?q=1\"}\n"
    ++ codes "{\"lane\":1,\"do\":\"register\",\"client\":3,\"script\":\"/sw.js\",\"scope\":\"/\"}\n"
    ++ codes "{\"lane\":1,\"do\":\"await\",\"of\":1}\n")
    ≡ record {
      transcript =
          codes "- restarted -> 0 registrations 0 caches\n"
          ++ codes "L1.0 open -> none\n"
          ++ codes "L1.1 register -> j0\n"
          ++ codes "- run j0 -> fetch 0 | mapped r0\n"
          ++ codes "- fetched j0 -> changed | w0 parsed\n"
          ++ codes "- evaluated j0 -> threw | w0 redundant | settled j0 TypeError threw | unmapped r0\n"
          ++ codes "L1.2 await -> TypeError threw\n"
          ++ codes "end done\n";
      shown =
          codes "registrations 0\n"
          ++ codes "caches 0\n";
      durable =
          codes "registrations 0\n"
          ++ codes "caches 0\n";
    }
unfolding digits escape_byte grammar_on_literals steps_on_literals
row_small_waiting_135 = refl

refused_address :
    replayed
    (codes "{\"fetch\":\"\",\"status\":200}\n")
    ≡ record {
      transcript = codes "error: line 1: address\n";
      shown =
          codes "registrations 0\n"
          ++ codes "caches 0\n";
      durable =
          codes "registrations 0\n"
          ++ codes "caches 0\n";
    }
unfolding digits escape_byte grammar_on_literals steps_on_literals
refused_address = refl

refused_await :
    replayed
    (codes "{\"lane\":61,\"do\":\"await\",\"of\":0}\n")
    ≡ record {
      transcript = codes "error: line 1: await\n";
      shown =
          codes "registrations 0\n"
          ++ codes "caches 0\n";
      durable =
          codes "registrations 0\n"
          ++ codes "caches 0\n";
    }
unfolding digits escape_byte grammar_on_literals steps_on_literals
refused_await = refl

refused_base64 :
    replayed
    (codes "{\"fetch\":\"https://a.test/sw.js\",\"status\":200,\"body\":\"====\"}")
    ≡ record {
      transcript = codes "error: line 1: base64\n";
      shown =
          codes "registrations 0\n"
          ++ codes "caches 0\n";
      durable =
          codes "registrations 0\n"
          ++ codes "caches 0\n";
    }
unfolding digits escape_byte grammar_on_literals steps_on_literals
refused_base64 = refl

refused_form :
    replayed
    (codes "{\"lane\":0,\"do\":\"cacheKeys\",\"at\":\"https://a.test/\",\"at\":1}\n")
    ≡ record {
      transcript = codes "error: line 1: form\n";
      shown =
          codes "registrations 0\n"
          ++ codes "caches 0\n";
      durable =
          codes "registrations 0\n"
          ++ codes "caches 0\n";
    }
unfolding digits escape_byte grammar_on_literals steps_on_literals
refused_form = refl

refused_header :
    replayed
    (codes "{\"lane\":0,\"do\":\"put\",\"at\":\"https://a.test/\",\"name\":\"v\",\"request\":\"/x\",\"response\":{\"status\":200,\"headers\":[[\"\",\"v\"]]}}\n")
    ≡ record {
      transcript = codes "error: line 1: header\n";
      shown =
          codes "registrations 0\n"
          ++ codes "caches 0\n";
      durable =
          codes "registrations 0\n"
          ++ codes "caches 0\n";
    }
unfolding digits escape_byte grammar_on_literals steps_on_literals
refused_header = refl

refused_json :
    replayed
    (codes "{\n")
    ≡ record {
      transcript = codes "error: line 1: json\n";
      shown =
          codes "registrations 0\n"
          ++ codes "caches 0\n";
      durable =
          codes "registrations 0\n"
          ++ codes "caches 0\n";
    }
unfolding digits escape_byte grammar_on_literals steps_on_literals
refused_json = refl

refused_method :
    replayed
    (codes "{\"lane\":0,\"do\":\"batch\",\"at\":\"https://a.test/\",\"name\":\"v\",\"operations\":[{\"delete\":{\"url\":\"/x\",\"method\":\"a/b\"}}]}\n")
    ≡ record {
      transcript = codes "error: line 1: method\n";
      shown =
          codes "registrations 0\n"
          ++ codes "caches 0\n";
      durable =
          codes "registrations 0\n"
          ++ codes "caches 0\n";
    }
unfolding digits escape_byte grammar_on_literals steps_on_literals
refused_method = refl

refused_status :
    replayed
    (codes "{\"lane\":0,\"do\":\"put\",\"at\":\"https://a.test/\",\"name\":\"v\",\"request\":\"/x\",\"response\":{\"status\":65536}}\n")
    ≡ record {
      transcript = codes "error: line 1: status\n";
      shown =
          codes "registrations 0\n"
          ++ codes "caches 0\n";
      durable =
          codes "registrations 0\n"
          ++ codes "caches 0\n";
    }
unfolding digits escape_byte grammar_on_literals steps_on_literals
refused_status = refl

refused_too_large_calls :
    replayed
    (codes "{\"fetch\":\"https://a.test/sw.js\",\"status\":200,\"install\":{\"calls\":[{\"do\":\"claim\"},{\"do\":\"claim\"},{\"do\":\"claim\"},{\"do\":\"claim\"},{\"do\":\"claim\"},{\"do\":\"claim\"},{\"do\":\"claim\"},{\"do\":\"claim\"},{\"do\":\"claim\"},{\"do\":\"claim\"},{\"do\":\"claim\"},{\"do\":\"claim\"},{\"do\":\"claim\"},{\"do\":\"claim\"},{\"do\":\"claim\"},{\"do\":\"claim\"},{\"do\":\"claim\"},{\"do\":\"claim\"},{\"do\":\"claim\"},{\"do\":\"claim\"},{\"do\":\"claim\"},{\"do\":\"claim\"},{\"do\":\"claim\"},{\"do\":\"claim\"},{\"do\":\"claim\"},{\"do\":\"claim\"},{\"do\":\"claim\"},{\"do\":\"claim\"},{\"do\":\"claim\"},{\"do\":\"claim\"},{\"do\":\"claim\"},{\"do\":\"claim\"},{\"do\":\"claim\"},{\"do\":\"claim\"},{\"do\":\"claim\"},{\"do\":\"claim\"},{\"do\":\"claim\"},{\"do\":\"claim\"},{\"do\":\"claim\"},{\"do\":\"claim\"},{\"do\":\"claim\"},{\"do\":\"claim\"},{\"do\":\"claim\"},{\"do\":\"claim\"},{\"do\":\"claim\"},{\"do\":\"claim\"},{\"do\":\"claim\"},{\"do\":\"claim\"},{\"do\":\"claim\"},{\"do\":\"claim\"},{\"do\":\"claim\"},{\"do\":\"claim\"},{\"do\":\"claim\"},{\"do\":\"claim\"},{\"do\":\"claim\"},{\"do\":\"claim\"},{\"do\":\"claim\"},{\"do\":\"claim\"},{\"do\":\"claim\"},{\"do\":\"claim\"},{\"do\":\"claim\"},{\"do\":\"claim\"},{\"do\":\"claim\"},{\"do\":\"claim\"},{\"do\":\"claim\"}]}}\n")
    ≡ record {
      transcript = codes "error: line 1: too large: calls\n";
      shown =
          codes "registrations 0\n"
          ++ codes "caches 0\n";
      durable =
          codes "registrations 0\n"
          ++ codes "caches 0\n";
    }
unfolding digits escape_byte grammar_on_literals steps_on_literals
refused_too_large_calls = refl

refused_too_large_headers :
    replayed
    (codes "{\"fetch\":\"https://a.test/sw.js\",\"status\":200,\"install\":{\"calls\":[{\"do\":\"put\",\"name\":\"v\",\"request\":\"/\",\"response\":{\"status\":200,\"headers\":[[\"X-0\",\"v\"],[\"X-1\",\"v\"],[\"X-2\",\"v\"],[\"X-3\",\"v\"],[\"X-4\",\"v\"],[\"X-5\",\"v\"],[\"X-6\",\"v\"],[\"X-7\",\"v\"],[\"X-8\",\"v\"],[\"X-9\",\"v\"],[\"X-10\",\"v\"],[\"X-11\",\"v\"],[\"X-12\",\"v\"],[\"X-13\",\"v\"],[\"X-14\",\"v\"],[\"X-15\",\"v\"],[\"X-16\",\"v\"],[\"X-17\",\"v\"],[\"X-18\",\"v\"],[\"X-19\",\"v\"],[\"X-20\",\"v\"],[\"X-21\",\"v\"],[\"X-22\",\"v\"],[\"X-23\",\"v\"],[\"X-24\",\"v\"],[\"X-25\",\"v\"],[\"X-26\",\"v\"],[\"X-27\",\"v\"],[\"X-28\",\"v\"],[\"X-29\",\"v\"],[\"X-30\",\"v\"],[\"X-31\",\"v\"],[\"X-32\",\"v\"],[\"X-33\",\"v\"],[\"X-34\",\"v\"],[\"X-35\",\"v\"],[\"X-36\",\"v\"],[\"X-37\",\"v\"],[\"X-38\",\"v\"],[\"X-39\",\"v\"],[\"X-40\",\"v\"],[\"X-41\",\"v\"],[\"X-42\",\"v\"],[\"X-43\",\"v\"],[\"X-44\",\"v\"],[\"X-45\",\"v\"],[\"X-46\",\"v\"],[\"X-47\",\"v\"],[\"X-48\",\"v\"],[\"X-49\",\"v\"],[\"X-50\",\"v\"],[\"X-51\",\"v\"],[\"X-52\",\"v\"],[\"X-53\",\"v\"],[\"X-54\",\"v\"],[\"X-55\",\"v\"],[\"X-56\",\"v\"],[\"X-57\",\"v\"],[\"X-58\",\"v\"],[\"X-59\",\"v\"],[\"X-60\",\"v\"],[\"X-61\",\"v\"],[\"X-62\",\"v\"],[\"X-63\",\"v\"],[\"X-64\",\"v\"]]}}]}}")
    ≡ record {
      transcript = codes "error: line 1: too large: headers\n";
      shown =
          codes "registrations 0\n"
          ++ codes "caches 0\n";
      durable =
          codes "registrations 0\n"
          ++ codes "caches 0\n";
    }
unfolding digits escape_byte grammar_on_literals steps_on_literals
refused_too_large_headers = refl

refused_too_large_lanes :
    replayed
    (codes "{\"lane\":64,\"do\":\"await\",\"of\":0}")
    ≡ record {
      transcript = codes "error: line 1: too large: lanes\n";
      shown =
          codes "registrations 0\n"
          ++ codes "caches 0\n";
      durable =
          codes "registrations 0\n"
          ++ codes "caches 0\n";
    }
unfolding digits escape_byte grammar_on_literals steps_on_literals
refused_too_large_lanes = refl

refused_too_large_operations :
    replayed
    (codes "{\"lane\":0,\"do\":\"addAll\",\"at\":\"https://a.test/\",\"name\":\"none\",\"requests\":[\"/x\",\"/x\",\"/x\",\"/x\",\"/x\",\"/x\",\"/x\",\"/x\",\"/x\",\"/x\",\"/x\",\"/x\",\"/x\",\"/x\",\"/x\",\"/x\",\"/x\",\"/x\",\"/x\",\"/x\",\"/x\",\"/x\",\"/x\",\"/x\",\"/x\",\"/x\",\"/x\",\"/x\",\"/x\",\"/x\",\"/x\",\"/x\",\"/x\",\"/x\",\"/x\",\"/x\",\"/x\",\"/x\",\"/x\",\"/x\",\"/x\",\"/x\",\"/x\",\"/x\",\"/x\",\"/x\",\"/x\",\"/x\",\"/x\",\"/x\",\"/x\",\"/x\",\"/x\",\"/x\",\"/x\",\"/x\",\"/x\",\"/x\",\"/x\",\"/x\",\"/x\",\"/x\",\"/x\",\"/x\",\"/x\",\"/x\",\"/x\",\"/x\",\"/x\",\"/x\",\"/x\",\"/x\",\"/x\",\"/x\",\"/x\",\"/x\",\"/x\",\"/x\",\"/x\",\"/x\",\"/x\",\"/x\",\"/x\",\"/x\",\"/x\",\"/x\",\"/x\",\"/x\",\"/x\",\"/x\",\"/x\",\"/x\",\"/x\",\"/x\",\"/x\",\"/x\",\"/x\",\"/x\",\"/x\",\"/x\",\"/x\",\"/x\",\"/x\",\"/x\",\"/x\",\"/x\",\"/x\",\"/x\",\"/x\",\"/x\",\"/x\",\"/x\",\"/x\",\"/x\",\"/x\",\"/x\",\"/x\",\"/x\",\"/x\",\"/x\",\"/x\",\"/x\",\"/x\",\"/x\",\"/x\",\"/x\",\"/x\",\"/x\",\"/x\",\"/x\",\"/x\",\"/x\",\"/x\",\"/x\",\"/x\",\"/x\",\"/x\",\"/x\",\"/x\",\"/x\",\"/x\",\"/x\",\"/x\",\"/x\",\"/x\",\"/x\",\"/x\",\"/x\",\"/x\",\"/x\",\"/x\",\"/x\",\"/x\",\"/x\",\"/x\",\"/x\",\"/x\",\"/x\",\"/x\",\"/x\",\"/x\",\"/x\",\"/x\",\"/x\",\"/x\",\"/x\",\"/x\",\"/x\",\"/x\",\"/x\",\"/x\",\"/x\",\"/x\",\"/x\",\"/x\",\"/x\",\"/x\",\"/x\",\"/x\",\"/x\",\"/x\",\"/x\",\"/x\",\"/x\",\"/x\",\"/x\",\"/x\",\"/x\",\"/x\",\"/x\",\"/x\",\"/x\",\"/x\",\"/x\",\"/x\",\"/x\",\"/x\",\"/x\",\"/x\",\"/x\",\"/x\",\"/x\",\"/x\",\"/x\",\"/x\",\"/x\",\"/x\",\"/x\",\"/x\",\"/x\",\"/x\",\"/x\",\"/x\",\"/x\",\"/x\",\"/x\",\"/x\",\"/x\",\"/x\",\"/x\",\"/x\",\"/x\",\"/x\",\"/x\",\"/x\",\"/x\",\"/x\",\"/x\",\"/x\",\"/x\",\"/x\",\"/x\",\"/x\",\"/x\",\"/x\",\"/x\",\"/x\",\"/x\",\"/x\",\"/x\",\"/x\",\"/x\",\"/x\",\"/x\",\"/x\",\"/x\",\"/x\",\"/x\",\"/x\",\"/x\",\"/x\",\"/x\",\"/x\",\"/x\",\"/x\",\"/x\",\"/x\"]}\n")
    ≡ record {
      transcript = codes "error: line 1: too large: operations\n";
      shown =
          codes "registrations 0\n"
          ++ codes "caches 0\n";
      durable =
          codes "registrations 0\n"
          ++ codes "caches 0\n";
    }
unfolding digits escape_byte grammar_on_literals steps_on_literals
refused_too_large_operations = refl

refused_too_large_text :
    replayed
    (codes "{\"fetch\":\"https://a.test/aaaaaaaaaaaaaaaaaaaaaaaaaaaaaaaaaaaaaaaaaaaaaaaaaaaaaaaaaaaaaaaaaaaaaaaaaaaaaaaaaaaaaaaaaaaaaaaaaaaaaaaaaaaaaaaaaaaaaaaaaaaaaaaaaaaaaaaaaaaaaaaaaaaaaaaaaaaaaaaaaaaaaaaaaaaaaaaaaaaaaaaaaaaaaaaaaaaaaaaaaaaaaaaaaaaaaaaaaaaaaaaaaaaaaaaaaaaaaaaaaaaaaaaaaaaaaaaaaaaaaaaaaaaaaaaaaaaaaaaaaaaaaaaaaaaaaaaaaaaaaaaaaaaaaaaaaaaaaaaaaaaaaaaaaaaaaaaaaaaaaaaaaaaaaaaaaaaaaaaaaaaaaaaaaaaaaaaaaaaaaaaaaaaaaaaaaaaaaaaaaaaaaaaaaaaaaaaaaaaaaaaaaaaaaaaaaaaaaaaaaaaaaaaaaaaaaaaaaaaaaaaaaaaaaaaaaaaaaaaaaaaaaaaaaaaaaaaaaaaaaaaaaaaaaaaaaaaaaaaaaaaaaaaaaaaaaaaaaaaaaaaaaaaaaaaaaaaaaaaaaaaaaaaaaaaaaaaaaaaaaaaaaaaaaaaaaaaaaaaaaaaaaaaaaaaaaaaaaaaaaaaaaaaaaaaaaaaaaaaaaaaaaaaaaaaaaaaaaaaaaaaaaaaaaaaaaaaaaaaaaaaaaaaaaaaaaaaaaaaaaaaaaaaaaaaaaaaaaaaaaaaaaaaaaaaaaaaaaaaaaaaaaaaaaaaaaaaaaaaaaaaaaaaaaaaaaaaaaaaaaaaaaaaaaaaaaaaaaaaaaaaaaaaaaaaaaaaaaaaaaaaaaaaaaaaaaaaaaaaaaaaaaaaaaaaaaaaaaaaaaaaaaaaaaaaaaaaaaaaaaaaaaaaaaaaaaaaaaaaaaaaaaaaaaaaaaaaaaaaaaaaaaaaaaaaaaaaaaaaaaaaaaaaaaaaaaaaaaaaaaaaaaaaaaaaaaaaaaaaaaaaaaaaaaaaaaaaaaaaaaaaaaaaaaaaaaaaaaaaaaaaaaaaaaaaaaaaaaaaaaaaaaaaaaaaaaaaaaaaaaaaaaaaaaaaaaaaaaaaaaaaaaaaaaaaaaaaaaaaaaaaaaaaaaaaaaaaaaaaaaaaaaaaaaaaaaaaaaaaaaaaaaaaaaaaaaaaaaaaaaaaaaaaaaaaaaaaaaaaaaaaaaaaaaaaaaaaaaaaaaaaaaaaaaaaaaaaaaaaaaaaaaaaaaaaaaaaaaaaaaaaaaaaaaaaaaaaaaaaaaaaaaaaaaaaaaaaaaaaaaaaaaaaaaaaaaaaaaaaaaaaaaaaaaaaaaaaaaaaaaaaaaaaaaaaaaaaaaaaaaaaaaaaaaaaaaaaaaaaaaaaaaaaaaaaaaaaaaaaaaaaaaaaaaaaaaaaaaaaaaaaaaaaaaaaaaaaaaaaaaaaaaaaaaaaaaaaaaaaaaaaaaaaaaaaaaaaaaaaaaaaaaaaaaaaaaaaaaaaaaaaaaaaaaaaaaaaaaaaaaaaaaaaaaaaaaaaaaaaaaaaaaaaaaaaaaaaaaaaaaaaaaaaaaaaaaaaaaaaaaaaaaaaaaaaaaaaaaaaaaaaaaaaaaaaaaaaaaaaaaaaaaaaaaaaaaaaaaaaaaaaaaaaaaaaaaaaaaaaaaaaaaaaaaaaaaaaaaaaaaaaaaaaaaaaaaaaaaaaaaaaaaaaaaaaaaaaaaaaaaaaaaaaaaaaaaaaaaaaaaaaaaaaaaaaaaaaaaaaaaaaaaaaaaaaaaaaaaaaaaaaaaaaaaaaaaaaaaaaaaaaaaaaaaaaaaaaaaaaaaaaaaaaaaaaaaaaaaaaaaaaaaaaaaaaaaaaaaaaaaaaaaaaaaaaaaaaaaaaaaaaaaaaaaaaaaaaaaaaaaaaaaaaaaaaaaaaaaaaaaaaaaaaaaaaaaaaaaaaaaaaaaaaaaaaaaaaaaaaaaaaaaaaaaaaaaaaaaaaaaaaaaaaaaaaaaaaaaaaaaaaaaaaaaaaaaaaaaaaaaaaaaaaaaaaaaaaaaaaaaaaaaaaaaaaaaaaaaaaaaaaaaaaaaaaaaaaaaaaaaaaaaaaaaaaaaaaaaaaaaaaaaaaaaaaaaaaaaaaaaaaaaaaaaaaaaaaaaaaaaaaaaaaaaaaaaaaaaaaaaaaaaaaaaaaaaaaaaaaaaaaaaaaaaaaaaaaaaaaaaaaaaaaaaaaaaaaaaaaaaaaaaaaaaaaaaaaaaaaaaaaaaaaaaaaaaaaaaaaaaaaaaaaaaaaaaaaaaaaaaaaaaaaaaaaaaaaaaaaaaaaaaaaaaaaaaaaaaaaaaaaaaaaaaaaaaaaaaaaaaaaaaaaaaaaaaaaaaaaaaaaaaaaaaaaaaaaaaaaaaaaaaaaaaaaaaaaaaaaaaaaaaaaaaaaaaaaaaaaaaaaaaaaaaaaaaaaaaaaaaaaaaaaaaaaaaaaaaaaaaaaaaaaaaaaaaaaaaaaaaaaaaaaaaaaaaaaaaaaaaaaaaaaaaaaaaaaaaaaaaaaaaaaaaaaaaaaaaaaaaaaaaaaaaaaaaaaaaaaaaaaaaaaaaaaaaaaaaaaaaaaaaaaaaaaaaaaaaaaaaaaaaaaaaaaaaaaaaaaaaaaaaaaaaaaaaaaaaaaaaaaaaaaaaaaaaaaaaaaaaaaaaaaaaaaaaaaaaaaaaaaaaaaaaaaaaaaaaaaaaaaaaaaaaaaaaaaaaaaaaaaaaaaaaaaaaaaaaaaaaaaaaaaaaaaaaaaaaaaaaaaaaaaaaaaaaaaaaaaaaaaaaaaaaaaaaaaaaaaaaaaaaaaaaaaaaaaaaaaaaaaaaaaaaaaaaaaaaaaaaaaaaaaaaaaaaaaaaaaaaaaaaaaaaaaaaaaaaaaaaaaaaaaaaaaaaaaaaaaaaaaaaaaaaaaaaaaaaaaaaaaaaaaaaaaaaaaaaaaaaaaaaaaaaaaaaaaaaaaaaaaaaaaaaaaaaaaaaaaaaaaaaaaaaaaaaaaaaaaaaaaaaaaaaaaaaaaaaaaaaaaaaaaaaaaaaaaaaaaaaaaaaaaaaaaaaaaaaaaaaaaaaaaaaaaaaaaaaaaaaaaaaaaaaaaaaaaaaaaaaaaaaaaaaaaaaaaaaaaaaaaaaaaaaaaaaaaaaaaaaaaaaaaaaaaaaaaaaaaaaaaaaaaaaaaaaaaaaaaaaaaaaaaaaaaaaaaaaaaaaaaaaaaaaaaaaaaaaaaaaaaaaaaaaaaaaaaaaaaaaaaaaaaaaaaaaaaaaaaaaaaaaaaaaaaaaaaaaaaaaaaaaaaaaaaaaaaaaaaaaaaaaaaaaaaaaaaaaaaaaaaaaaaaaaaaaaaaaaaaaaaaaaaaaaaaaaaaaaaaaaaaaaaaaaaaaaaaaaaaaaaaaaaaaaaaaaaaaaaaaaaaaaaaaaaaaaaaaaaaaaaaaaaaaaaaaaaaaaaaaaaaaaaaaaaaaaaaaaaaaaaaaaaaaaaaaaaaaaaaaaaaaaaaaaaaaaaaaaaaaaaaaaaaaaaaaaaaaaaaaaaaaaaaaaaaaaaaaaaaaaaaaaaaaaaaaaaaaaaaaaaaaaaaaaaaaaaaaaaaaaaaaaaaaaaaaaaaaaaaaaaaaaaaaaaaaaaaaaaaaaaaaaaaaaaaaaaaaaaaaaaaaaaaaaaaaaaaaaaaaaaaaaaaaaaaaaaaaaaaaaaaaaaaaaaaaaaaaaaaaaaaaaaaaaaaaaaaaaaaaaaaaaaaaaaaaaaaaaaaaaaaaaaaaaaaaaaaaaaaaaaaaaaaaaaaaaaaaaaaaaaaaaaaaaaaaaaaaaaaaaaaaaaaaaaaaaaaaaaaaaaaaaaaaaaaaaaaaaaaaaaaaaaaaaaaaaaaaaaaaaaaaaaaaaaaaaaaaaaaaaaaaaaaaaaaaaaaaaaaaaaaaaaaaaaaaaaaaaaaaaaaaaaaaaaaaaaaaaaaaaaaaaaaaaaaaaaaaaaaaaaaaaaaaaaaaaaaaaaaaaaaaaaaaaaaaaaaaaaaaaaaaaaaaaaaaaaaaaaaaaaaaaaaaaaaaaaaaaaaaaaaaaaaaaaaaaaaaaaaaaaaaaaaaaaaaaaaaaaaaaaaaaaaaaaaaaaaaaaaaa\",\"status\":200}\n")
    ≡ record {
      transcript = codes "error: line 1: too large: text\n";
      shown =
          codes "registrations 0\n"
          ++ codes "caches 0\n";
      durable =
          codes "registrations 0\n"
          ++ codes "caches 0\n";
    }
unfolding digits escape_byte grammar_on_literals steps_on_literals
refused_too_large_text = refl
