-- Checks of imported scripts, from their lines to what is read, computed.
use Rattle.std.specs.Prelude.{◌≡◌, ⊤, ◌++◌, [], ◌∷◌, false, codes, Some, None, Ok, Err, refl}
use Rattle.sw_forms.specs.declared.error.LineCause.TheVariants as cause
use Rattle.sw_forms.specs.declared.error.Limit.TheVariants as limit
use Rattle.sw_forms.specs.declared.error.RecordingError.TheVariants as error
use Rattle.sw_record.proofs.OnLiterals.{grammar_on_literals}
use Rattle.sw_readers.specs.Imports.{answer_line, answer_of, check_line, import_line, imports_member, imports_of, with_check_line, with_value}

unfoldable imports_on_literals : ⊤
unfolding grammar_on_literals answer_line answer_of check_line import_line imports_member imports_of with_check_line with_value
imports_on_literals = tt

checks_of_a_script :
    imports_of
    (codes "{\"fetch\":\"https://a.test/sw.js\",\"status\":200,\"headers\":[[\"Content-Type\",\"text/javascript\"]],\"text\":\"a\",\"imports\":[\"/lib.js\",\"https://b.test/x\"]}\n"
    ++ codes "\n"
    ++ codes "{\"fetch\":\"https://a.test/lib.js#f\",\"error\":true}\n"
    ++ codes "{\"fetch\":\"http://a.test/none\",\"status\":404}\n"
    ++ codes "{\"check\":\"https://a.test/sw.js#part\"}\n"
    ++ codes "{\"check\":\"https://a.test/sw.js\"}")
    ≡ Ok (record {
      fetches =
          record {
            line = record {
              fetch = codes "https://a.test/sw.js";
              fetched =
                  Some (record {
                    response = record {
                      status = 200;
                      headers = record { name = codes "content-type"; value = codes "text/javascript" } ∷ [];
                      body = codes "a";
                    };
                    handlers = record { throws = false; install = []; install_fails = false; activate = [] };
                  });
            };
            imports = codes "/lib.js" ∷ codes "https://b.test/x" ∷ [];
          }
          ∷ record { line = record { fetch = codes "https://a.test/lib.js"; fetched = None }; imports = [] }
          ∷ record {
            line = record {
              fetch = codes "http://a.test/none";
              fetched =
                  Some (record {
                    response = record { status = 404; headers = []; body = [] };
                    handlers = record { throws = false; install = []; install_fails = false; activate = [] };
                  });
            };
            imports = [];
          }
          ∷ [];
      checks = codes "https://a.test/sw.js" ∷ codes "https://a.test/sw.js" ∷ [];
    })
unfolding imports_on_literals
checks_of_a_script = refl

more_than_64_imports :
    imports_of
    (codes "\n"
    ++ codes "{\"fetch\":\"https://a.test/\",\"status\":200,\"imports\":[\"/\",\"/\",\"/\",\"/\",\"/\",\"/\",\"/\",\"/\",\"/\",\"/\",\"/\",\"/\",\"/\",\"/\",\"/\",\"/\",\"/\",\"/\",\"/\",\"/\",\"/\",\"/\",\"/\",\"/\",\"/\",\"/\",\"/\",\"/\",\"/\",\"/\",\"/\",\"/\",\"/\",\"/\",\"/\",\"/\",\"/\",\"/\",\"/\",\"/\",\"/\",\"/\",\"/\",\"/\",\"/\",\"/\",\"/\",\"/\",\"/\",\"/\",\"/\",\"/\",\"/\",\"/\",\"/\",\"/\",\"/\",\"/\",\"/\",\"/\",\"/\",\"/\",\"/\",\"/\",\"/\"]}\n")
    ≡ Err (error.TooLarge 2 limit.Calls)
unfolding imports_on_literals
more_than_64_imports = refl

imports_that_are_no_texts :
    imports_of
    (codes "{\"fetch\":\"https://a.test/\",\"status\":200,\"imports\":[\"/\",1]}\n")
    ≡ Err (error.BadLine 1 cause.Form)
unfolding imports_on_literals
imports_that_are_no_texts = refl

an_error_imports_nothing :
    imports_of
    (codes "{\"fetch\":\"https://a.test/\",\"error\":true,\"imports\":[]}\n")
    ≡ Err (error.BadLine 1 cause.Form)
unfolding imports_on_literals
an_error_imports_nothing = refl

a_script_runs_alone :
    imports_of
    (codes "{\"fetch\":\"https://a.test/\",\"status\":200,\"run\":\"ok\"}\n")
    ≡ Err (error.BadLine 1 cause.Form)
unfolding imports_on_literals
a_script_runs_alone = refl

no_install_handler :
    imports_of
    (codes "{\"fetch\":\"https://a.test/\",\"status\":200,\"install\":{}}\n")
    ≡ Err (error.BadLine 1 cause.Form)
unfolding imports_on_literals
no_install_handler = refl

no_activate_handler :
    imports_of
    (codes "{\"fetch\":\"https://a.test/\",\"status\":200,\"activate\":{}}\n")
    ≡ Err (error.BadLine 1 cause.Form)
unfolding imports_on_literals
no_activate_handler = refl

a_check_of_another_scheme :
    imports_of
    (codes "{\"check\":\"https://a.test/\"}\n"
    ++ codes "{\"check\":\"ftp://a.test/\"}\n")
    ≡ Err (error.BadLine 2 cause.Address)
unfolding imports_on_literals
a_check_of_another_scheme = refl

a_check_of_no_address :
    imports_of
    (codes "{\"check\":\"/sw.js\"}\n")
    ≡ Err (error.BadLine 1 cause.Address)
unfolding imports_on_literals
a_check_of_no_address = refl

a_check_has_nothing_else :
    imports_of
    (codes "{\"check\":\"https://a.test/\",\"lane\":0}\n")
    ≡ Err (error.BadLine 1 cause.Form)
unfolding imports_on_literals
a_check_has_nothing_else = refl

no_lane_lines :
    imports_of
    (codes "{\"lane\":0,\"do\":\"close\",\"client\":1}\n")
    ≡ Err (error.BadLine 1 cause.Form)
unfolding imports_on_literals
no_lane_lines = refl

no_json :
    imports_of
    (codes "{\"check\":")
    ≡ Err (error.BadLine 1 cause.Json)
unfolding imports_on_literals
no_json = refl
