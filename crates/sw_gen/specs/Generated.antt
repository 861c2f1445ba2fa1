-- The recording that a number and a size name: sixteen scripts, then each client in turn, on one of eight lanes (own).
use Rattle.std.specs.Prelude.{ℕ, zero, suc, ◌+◌, ◌*◌, ◌/◌, ◌%◌, ◌==◌, List, [], ◌++◌, replicate, get_or, set, codes, decimal, if◌then◌else◌}

-- ---- draws

-- the number after a number
abbrev pub next : ℕ → ℕ
next x = (1103515245 * x + 12345) % 2147483648

-- what a number gives for a draw of so many
abbrev pub drawn : ℕ → ℕ → ℕ
drawn many x = (x / 65536) % many

-- ---- lines

-- the line that answers a fetch of a script
unfoldable pub fetch_line : ℕ → List ℕ
fetch_line script =
    codes "{\"fetch\":\"https://g.test/s" ++ (decimal script
    ++ (codes "/sw.js\",\"status\":200,\"headers\":[[\"Content-Type\",\"text/javascript\"]],\"text\":\"// "
    ++ (decimal script ++ codes "\"}\n")))

-- the lines of the first so many scripts
abbrev pub fetch_lines : ℕ → List ℕ
fetch_lines zero = []
fetch_lines (suc script) = fetch_lines script ++ fetch_line script

-- the line of a lane's action with this word and these members
unfoldable pub action : ℕ → List ℕ → List ℕ → List ℕ
action lane word members =
    codes "{\"lane\":" ++ (decimal lane ++ (codes ",\"do\":\"" ++ (word ++ (codes "\"" ++ (members ++ codes "}\n")))))

-- the members of an action that names a client
unfoldable pub of_client : ℕ → List ℕ → List ℕ
of_client client members = codes ",\"client\":" ++ (decimal client ++ members)

unfoldable pub open_line : ℕ → ℕ → ℕ → List ℕ
open_line lane client script =
    action lane (codes "open") (of_client client
    (codes ",\"url\":\"https://g.test/s" ++ (decimal script ++ (codes "/p" ++ (decimal client ++ codes "\"")))))

unfoldable pub register_line : ℕ → ℕ → List ℕ
register_line lane client = action lane (codes "register") (of_client client (codes ",\"script\":\"sw.js\""))

unfoldable pub await_line : ℕ → ℕ → List ℕ
await_line lane at = action lane (codes "await") (codes ",\"of\":" ++ decimal at)

unfoldable pub close_line : ℕ → ℕ → List ℕ
close_line lane client = action lane (codes "close") (of_client client [])

-- the line that opens the cache
unfoldable pub cache_line : ℕ → List ℕ
cache_line lane = action lane (codes "cacheOpen") (codes ",\"at\":\"https://g.test/\",\"name\":\"c\"")

unfoldable pub put_line : ℕ → ℕ → List ℕ
put_line lane client =
    action lane (codes "put") (codes ",\"at\":\"https://g.test/\",\"name\":\"c\",\"request\":\"https://g.test/p"
    ++ (decimal client ++ codes "\",\"response\":{\"status\":200}"))

-- the line of an action on the scope of the client's page
unfoldable pub scope_line : ℕ → List ℕ → ℕ → List ℕ
scope_line lane word client = action lane word (of_client client (codes ",\"scope\":\"./\""))

-- the last lines of a client, by their kind
unfoldable pub last_lines : ℕ → ℕ → ℕ → List ℕ
last_lines kind lane client =
    if kind == 0 then close_line lane client
    else if kind == 1 then cache_line lane ++ put_line lane client
    else if kind == 2 then scope_line lane (codes "softUpdate") client
    else scope_line lane (codes "unregister") client

-- the lines of a client on a lane that has so many lines: it opens, registers, and awaits its registering
unfoldable pub client_lines : ℕ → ℕ → ℕ → ℕ → ℕ → List ℕ
client_lines lane before client script kind =
    open_line lane client script ++ register_line lane client ++ await_line lane (before + 1)
    ++ last_lines kind lane client

-- how many lines those are
abbrev pub count_of : ℕ → ℕ
count_of kind = if kind == 1 then 5 else 4

-- ---- the recording

-- what is made so far: the last number, how many lines each lane has, and the bytes
pub record Made : Type 0 where
  pub x : ℕ
  pub counts : List ℕ
  pub text : List ℕ

-- with a client, whose script is a draw of 16 and whose last lines are of a kind that is a draw of 4
unfoldable pub with_client : ℕ → Made → Made
with_client client made =
    let x = next made.x in
    let y = next x in
    let lane = client % 8 in
    let before = get_or made.counts lane 0 in
    record {
      x = y;
      counts = set made.counts lane (before + count_of (drawn 4 y));
      text = made.text ++ client_lines lane before client (drawn 16 x) (drawn 4 y);
    }

-- the scripts and the first so many clients
abbrev pub made : ℕ → ℕ → Made
made number zero = record { x = number % 2147483648; counts = replicate 8 0; text = fetch_lines 16 }
made number (suc client) = with_client client (made number client)

-- the bytes of the recording
abbrev pub generated : ℕ → ℕ → List ℕ
generated number size = (made number size).text
