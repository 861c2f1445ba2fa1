-- The check of a script together with the scripts that it imports: what is fetched, in which order, and what is stored then.
use Rattle.std.specs.Prelude.{ℕ, Bool, true, false, ◌&&◌, not, List, [], ◌∷◌, ◌++◌, length, filter, fold, bytes_eq, Option, Some, None, option_and_then, Result, Ok, Err, if◌then◌else◌}
use Rattle.std.specs.List.{list_any}
use Rattle.std.specs.Map.{lookup}
use Rattle.std.specs.Option.{option_map_or}
use Rattle.indexmap.specs.IndexMap.{insert_entry}
use Rattle.url.specs.Origin.{is_http}
use Rattle.url.specs.Parts.{Parts, serialize}
use Rattle.sw_data.specs.Addresses.{no_fragment, parsed_against}
use Rattle.sw_data.specs.Media.{is_javascript}
use Rattle.sw_data.specs.Network.{drawn_from}
use Rattle.sw_data.specs.declared.recordings.Fetched.{Fetched}
use Rattle.sw_readers.specs.declared.inputs.ImportFetch.{ImportFetch}
use Rattle.sw_rules.specs.Installing.{is_ok_status}
use Rattle.sw_rules.specs.Jobs.{next_draw, with_draw}
use Rattle.sw_rules.specs.State.{Draws}
use Rattle.sw_import.specs.declared.answers.Checked.{Checked}
use Rattle.sw_import.specs.declared.answers.Checked.TheVariants as checked
use Rattle.sw_import.specs.declared.answers.ImportCause.{ImportCause}
use Rattle.sw_import.specs.declared.answers.ImportCause.TheVariants as cause
use Rattle.sw_import.specs.declared.answers.Resource.{Resource}
use Rattle.sw_import.specs.declared.answers.Store.{Store}
use Rattle.sw_import.specs.declared.answers.Outcome.{Outcome}
use Rattle.sw_import.specs.declared.answers.Outcome.TheVariants as outcome

-- ---- what a fetch gives

-- the fetches after these ones, one after another, of an address each
abbrev pub with_fetches : List Draws → List (List ℕ) → List Draws
with_fetches draws made = fold with_draw draws made

-- the line that the next fetch of an address gets
abbrev pub next_line : List ImportFetch → List Draws → List ℕ → Option ImportFetch
next_line lines draws address = drawn_from (λ l. l.line.fetch) lines address (next_draw draws address)

-- the body of a good response, or why the response is bad: a network error, no JavaScript, or a status outside 200 to 299 (Service Workers, Appendix A, "Update")
abbrev pub judged : Option Fetched → Result (List ℕ) ImportCause
judged None = Err cause.Network
judged (Some fetched) =
    if not (is_javascript fetched.response.headers) then Err cause.Mime
    else if not (is_ok_status fetched.response.status) then Err cause.Status
    else Ok fetched.response.body

-- the same, of a line that a fetch gets
abbrev pub body_of : Option ImportFetch → Result (List ℕ) ImportCause
body_of line = judged (option_and_then (λ l. l.line.fetched) line)

-- what the script in a line imports
abbrev pub imports_of : Option ImportFetch → List (List ℕ)
imports_of line = option_map_or (λ l. l.imports) line []

-- the text of a parsed http or https address without its fragment (URL, 4.5, "URL serializer")
abbrev pub web_address : Option Parts → Option (List ℕ)
web_address None = None
web_address (Some url) = if is_http url.scheme then Some (serialize (no_fragment url)) else None

-- the address of an imported text: parsed against its script, without its fragment; none where it doesn't parse or its scheme is another (HTML, "import scripts into worker global scope"; own: no other scheme)
unfoldable pub import_address : List ℕ → List ℕ → Option (List ℕ)
import_address text script = web_address (parsed_against text script)

-- ---- a check in its course

-- the addresses that were fetched, in order; the list of resources so far; the addresses that imports named; and whether the script's body is the stored one and each good response so far equals the stored resource
pub record Course : Type 0 where
  pub made : List (List ℕ)
  pub resources : List Resource
  pub named : List (List ℕ)
  pub same : Bool

-- the script alone is fetched
abbrev pub begun : List ℕ → Course
begun script = record { made = script ∷ []; resources = []; named = []; same = false }

-- one more fetch
abbrev pub with_fetch : Course → List ℕ → Course
with_fetch course address = record course { made = course.made ++ address ∷ [] }

-- one more resource
abbrev pub with_resource : Course → List ℕ → List ℕ → Course
with_resource course address body =
    record course { resources = course.resources ++ record { address = address; body = body } ∷ [] }

-- a resource has this address
abbrev pub has_address : List ℕ → Resource → Bool
has_address address resource = bytes_eq resource.address address

-- an import named the resource
abbrev pub is_named : List (List ℕ) → Resource → Bool
is_named named resource = list_any (bytes_eq resource.address) named

-- a good response is a resource again, a bad one isn't
abbrev pub renewed : Result (List ℕ) ImportCause → Resource → Course → Course
renewed (Err why) stored course = course
renewed (Ok body) stored course =
    record (with_resource course stored.address body) { same = course.same && bytes_eq body stored.body }

-- an imported address that isn't in the list is appended, where its response is good; a bad one ends the check
abbrev pub loaded : Result (List ℕ) ImportCause → List ℕ → Course → Course × Bool
loaded (Err why) address course = (course, false)
loaded (Ok body) address course = (with_resource course address body, true)

module _ (lines : List ImportFetch) (draws : List Draws) where
  -- what the next fetch gets, these fetches being made by the check
  abbrev pub next_body : List (List ℕ) → List ℕ → Result (List ℕ) ImportCause
  next_body made address = body_of (next_line lines (with_fetches draws made) address)

  -- a stored resource is fetched
  abbrev pub refetch : Course → Resource → Course
  refetch course stored =
      renewed (next_body course.made stored.address) stored (with_fetch course stored.address)

  -- where the script's body is the stored one, each stored resource is fetched in order
  abbrev pub refetched : Option Store → List ℕ → Course → Course
  refetched None body course = course
  refetched (Some store) body course =
      if bytes_eq body store.body then fold refetch (record course { same = true }) store.resources else course

  -- an address that is imported
  abbrev pub import_of : Course → List ℕ → Course × Bool
  import_of course address =
      let known = record course { named = course.named ++ address ∷ [] } in
      if list_any (has_address address) course.resources then (known, true)
      else loaded (next_body course.made address) address (with_fetch known address)

  -- a text that is imported, by its address; one without ends the check
  abbrev pub import_text : Course → Option (List ℕ) → Course × Bool
  import_text course None = (course, false)
  import_text course (Some address) = import_of course address

  -- the texts that are imported, in order, up to one that ends the check
  abbrev pub import_all : List ℕ → Course → List (List ℕ) → Course × Bool
  import_all script course [] = (course, true)
  import_all script course (text ∷ rest) =
      let done = import_text course (import_address text script) in
      if done.1 then import_all script done.0 rest else done

-- ---- what a check comes to

-- the addresses that were fetched, in order, and what becomes of the script
pub record Ended : Type 0 where
  pub made : List (List ℕ)
  pub outcome : Outcome

-- the new store has the resources that imports named, in the order of the list
abbrev pub closed : List ℕ → Course × Bool → Ended
closed body (course, false) = record { made = course.made; outcome = outcome.Failed cause.Import }
closed body (course, true) = record {
  made = course.made;
  outcome = outcome.Changed (record {
    body = body;
    resources = filter (is_named course.named) course.resources;
  });
}

module _ (lines : List ImportFetch) (draws : List Draws) where
  -- the script's body is good, and the stored resources are fetched
  abbrev pub decided : List ℕ → List (List ℕ) → List ℕ → Course → Ended
  decided script imports body course =
      if course.same then record { made = course.made; outcome = outcome.Unchanged }
      else closed body (import_all lines draws script course imports)

  -- the script is fetched
  abbrev pub answered : Option Store → List ℕ → List (List ℕ) → Result (List ℕ) ImportCause → Ended
  answered store script imports (Err why) = record { made = script ∷ []; outcome = outcome.Failed why }
  answered store script imports (Ok body) =
      decided script imports body (refetched lines draws store body (begun script))

  -- the check of a script that has this store, or none
  abbrev pub ended : Option Store → List ℕ → Ended
  ended store script =
      let line = next_line lines draws script in
      answered store script (imports_of line) (body_of line)

-- ---- checks one after another

-- what the checks so far left: the store of each script that has one, and how many fetches of each address were drawn
pub record Checks : Type 0 where
  pub stores : List (List ℕ × Store)
  pub draws : List Draws

-- nothing is checked yet
abbrev pub nothing : Checks
nothing = record { stores = []; draws = [] }

-- the answer to a check that made so many fetches
abbrev pub answer_of : ℕ → Outcome → Checked
answer_of fetches (outcome.Failed why) = checked.Failed why fetches
answer_of fetches outcome.Unchanged = checked.Unchanged fetches
answer_of fetches (outcome.Changed store) = checked.Changed fetches (length store.resources)

-- the stores after a check of a script; only a changed script has a new one
abbrev pub stores_after : List (List ℕ × Store) → List ℕ → Outcome → List (List ℕ × Store)
stores_after stores script (outcome.Failed why) = stores
stores_after stores script outcome.Unchanged = stores
stores_after stores script (outcome.Changed store) = insert_entry bytes_eq stores script store

-- the answer and what is left, once a check has come to this
abbrev pub settled : Checks → List ℕ → Ended → Checked × Checks
settled checks script end = (
  answer_of (length end.made) end.outcome,
  record {
    stores = stores_after checks.stores script end.outcome;
    draws = with_fetches checks.draws end.made;
  },
)

-- the update check of a script and of the scripts that it imports: its answer, and what is left (Service Workers, Appendix A, "Update"; own: a resource with a bad response is left out, and an unchanged script keeps its store)
unfoldable pub check : List ImportFetch → Checks → List ℕ → Checked × Checks
check lines checks script =
    settled checks script (ended lines checks.draws (lookup (bytes_eq script) checks.stores) script)

-- the recorded network, and what the checks so far left
pub record DryRun : Type 0 where
  pub lines : List ImportFetch
  pub checks : Checks
