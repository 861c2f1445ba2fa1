-- Checks, computed from their lines to the printed text.
use Rattle.std.specs.Prelude.{ℕ, ◌≡◌, false, List, [], ◌∷◌, ◌++◌, codes, Some, None, refl}
use Rattle.std.specs.Fmt.{digits}
use Rattle.json.specs.Print.{escape_byte}
use Rattle.sw_data.proofs.OnLiterals.{data_on_literals}
use Rattle.sw_readers.specs.declared.inputs.ImportFetch.{ImportFetch}
use Rattle.sw_import.specs.Checking.{check, import_address, nothing}
use Rattle.sw_import.specs.Lines.{checks_text}

-- a line of an address, with the type and the status of its response, its body, and what its script imports
abbrev line_of : List ℕ → List ℕ → ℕ → List ℕ → List (List ℕ) → ImportFetch
line_of address type status body imports = record {
  line = record {
    fetch = address;
    fetched = Some (record {
      response = record {
        status = status;
        headers = record { name = codes "content-type"; value = type } ∷ [];
        body = body;
      };
      handlers = record { throws = false; install = []; install_fails = false; activate = [] };
    });
  };
  imports = imports;
}

-- a line of the script that is checked
abbrev main : List ℕ → List (List ℕ) → ImportFetch
main body imports = line_of (codes "https://a.test/sw.js") (codes "text/javascript") 200 body imports

-- a good line of a script that is imported
abbrev good : List ℕ → List ℕ → ImportFetch
good address body = line_of address (codes "text/javascript") 200 body []

-- a line with status 404
abbrev gone : List ℕ → ImportFetch
gone address = line_of address (codes "text/javascript") 404 (codes "a") []

-- the text of so many checks of the script
abbrev text_of : List ImportFetch → List (List ℕ) → List ℕ
text_of lines scripts = checks_text lines nothing scripts

abbrev sw : List ℕ
sw = codes "https://a.test/sw.js"

abbrev lib : List ℕ
lib = codes "https://a.test/lib.js"

abbrev mem : List ℕ
mem = codes "https://a.test/mem.js"

-- an imported script stays and then changes
row_import_changes :
    text_of (main (codes "s") (codes "/lib.js" ∷ []) ∷ good lib (codes "a") ∷ good lib (codes "a") ∷ good lib (codes "b") ∷ []) (sw ∷ sw ∷ sw ∷ [])
    ≡ codes "check \"https://a.test/sw.js\" -> changed 2 1\n"
    ++ codes "check \"https://a.test/sw.js\" -> unchanged 2\n"
    ++ codes "check \"https://a.test/sw.js\" -> changed 2 1\n"
unfolding digits escape_byte data_on_literals import_address check checks_text
row_import_changes = refl

-- an imported script has no line
row_import_absent :
    text_of (main (codes "s") (codes "/no.js" ∷ []) ∷ []) (sw ∷ [])
    ≡ codes "check \"https://a.test/sw.js\" -> failed import 2\n"
unfolding digits escape_byte data_on_literals import_address check checks_text
row_import_absent = refl

-- an imported script that is gone isn't compared
row_import_gone :
    text_of (main (codes "s") (codes "/lib.js" ∷ []) ∷ good lib (codes "a") ∷ gone lib ∷ []) (sw ∷ sw ∷ [])
    ≡ codes "check \"https://a.test/sw.js\" -> changed 2 1\n"
    ++ codes "check \"https://a.test/sw.js\" -> unchanged 2\n"
unfolding digits escape_byte data_on_literals import_address check checks_text
row_import_gone = refl

-- where another changed, the one that is gone is fetched once more
row_import_gone_again :
    text_of
    (main (codes "s") (codes "/lib.js" ∷ codes "/mem.js" ∷ [])
    ∷ good lib (codes "a") ∷ gone lib ∷ good mem (codes "a") ∷ good mem (codes "b") ∷ [])
    (sw ∷ sw ∷ [])
    ≡ codes "check \"https://a.test/sw.js\" -> changed 3 2\n"
    ++ codes "check \"https://a.test/sw.js\" -> failed import 4\n"
unfolding digits escape_byte data_on_literals import_address check checks_text
row_import_gone_again = refl

-- an address that is imported twice is fetched once
row_import_twice :
    text_of (main (codes "s") (codes "/lib.js" ∷ codes "lib.js#x" ∷ []) ∷ good lib (codes "a") ∷ []) (sw ∷ [])
    ≡ codes "check \"https://a.test/sw.js\" -> changed 2 1\n"
unfolding digits escape_byte data_on_literals import_address check checks_text
row_import_twice = refl

-- an import doesn't parse
row_import_unparsed :
    text_of (main (codes "s") (codes "/lib.js" ∷ codes "http://[" ∷ []) ∷ good lib (codes "a") ∷ []) (sw ∷ [])
    ≡ codes "check \"https://a.test/sw.js\" -> failed import 2\n"
unfolding digits escape_byte data_on_literals import_address check checks_text
row_import_unparsed = refl

-- an import has another scheme
row_import_scheme :
    text_of (main (codes "s") (codes "data:," ∷ []) ∷ []) (sw ∷ [])
    ≡ codes "check \"https://a.test/sw.js\" -> failed import 1\n"
unfolding digits escape_byte data_on_literals import_address check checks_text
row_import_scheme = refl

-- with an equal body a resource that is no longer imported is fetched, and isn't stored
row_import_dropped :
    text_of
    (main (codes "s") (codes "/lib.js" ∷ codes "/mem.js" ∷ []) ∷ main (codes "s") (codes "/mem.js" ∷ [])
    ∷ good lib (codes "a") ∷ good mem (codes "a") ∷ good mem (codes "b") ∷ [])
    (sw ∷ sw ∷ [])
    ≡ codes "check \"https://a.test/sw.js\" -> changed 3 2\n"
    ++ codes "check \"https://a.test/sw.js\" -> changed 3 1\n"
unfolding digits escape_byte data_on_literals import_address check checks_text
row_import_dropped = refl

-- with another body no stored resource is fetched
row_body_changes :
    text_of
    (main (codes "s") (codes "/lib.js" ∷ []) ∷ main (codes "t") [] ∷ good lib (codes "a") ∷ [])
    (sw ∷ sw ∷ [])
    ≡ codes "check \"https://a.test/sw.js\" -> changed 2 1\n"
    ++ codes "check \"https://a.test/sw.js\" -> changed 1 0\n"
unfolding digits escape_byte data_on_literals import_address check checks_text
row_body_changes = refl

-- the script is a network error, isn't JavaScript, or has a bad status
row_script_bad :
    text_of
    (record { line = record { fetch = sw; fetched = None }; imports = [] }
    ∷ line_of sw (codes "text/html") 404 (codes "s") []
    ∷ line_of sw (codes "text/javascript") 404 (codes "s") [] ∷ [])
    (sw ∷ sw ∷ sw ∷ lib ∷ [])
    ≡ codes "check \"https://a.test/sw.js\" -> failed network 1\n"
    ++ codes "check \"https://a.test/sw.js\" -> failed mime 1\n"
    ++ codes "check \"https://a.test/sw.js\" -> failed status 1\n"
    ++ codes "check \"https://a.test/lib.js\" -> failed network 1\n"
unfolding digits escape_byte data_on_literals import_address check checks_text
row_script_bad = refl
