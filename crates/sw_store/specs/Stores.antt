-- What a store is: a host, what its disk keeps, and the events that wait for their changes to be written.
use Rattle.std.specs.Prelude.{◌≡◌, ◌≢◌, ◌⊎◌, ◌≤◌, ◌<◌, ◌+◌, ℕ, List, [], length, map, Option, None}
use Rattle.sw_data.specs.declared.histories.Entry.{Entry}
use Rattle.sw_data.specs.declared.storage.Kept.{Kept}
use Rattle.sw_kept.specs.Spelling.{IsContents}
use Rattle.sw_journal.specs.Format.{format_2, needed_length}
use Rattle.sw_store.specs.declared.limits.TheConstants.{GROWTH}
use Rattle.sw_twin.specs.Twin.{TwinState}
use Rattle.sw_state.specs.Hosted.{Hosted, state_of}

-- own: the entries of the events that wait, the spellings of their changes, and the room for more of each
pub record GroupState : Type 0 where
  pub entries : List Entry
  pub payload : List ℕ
  pub entry_room : ℕ
  pub payload_room : ℕ

-- own: a host; the journal of its disk; what was kept when that was opened; the entries of the events that have happened and
-- whose changes are not written yet, and the spellings of these changes; the next free offset at the opening or the last
-- checkpoint; and the clock at which a call met a fault of the disk, if one did
pub record StoreState : Type 0 where
  pub core : Hosted
  pub twin : TwinState
  pub base : Kept
  pub staged : List Entry
  pub payload : List ℕ
  pub mark : ℕ
  pub since : Option ℕ

abbrev pub store_of : Hosted → TwinState → Kept → GroupState → ℕ → Option ℕ → StoreState
store_of core twin base group mark since = record {
  core = core;
  twin = twin;
  base = base;
  staged = group.entries;
  payload = group.payload;
  mark = mark;
  since = since;
}

-- own: the record of this payload fits behind what is there
abbrev pub FitsBehind : TwinState → List ℕ → Type 0
FitsBehind twin payload = twin.journal.gate + 1 + needed_length format_2 (length payload) ≤ twin.journal.limit

-- own: the current part has format 2, and what waits has its room, in memory and on the disk
pub record IsReady (store : StoreState) : Type 0 where
  pub format : store.twin.journal.format ≡ format_2
  pub room : length store.payload ≤ store.twin.journal.spare
  pub fits : store.payload ≢ [] → FitsBehind store.twin store.payload

-- own: a journal is the same, and only its room for a record may differ
abbrev pub IsSameTwin : TwinState → TwinState → Type 0
IsSameTwin old new = new ≡ record old { journal = record old.journal { spare = new.journal.spare } }

-- own: only the room for a record may differ
abbrev pub same_but_room : StoreState → StoreState → StoreState
same_but_room old new = record old {
  core = new.core;
  twin = record old.twin { journal = record old.twin.journal { spare = new.twin.journal.spare } };
}

-- own: a call left a store as it was: the state is the same, and only room may differ
pub record IsSame (old new : StoreState) : Type 0 where
  pub state : state_of new.core ≡ state_of old.core
  pub rest : new ≡ same_but_room old new

-- own: nothing waits, and no call met a fault of the disk
pub record WaitsForNothing (store : StoreState) : Type 0 where
  pub staged : store.staged ≡ []
  pub payload : store.payload ≡ []
  pub since : store.since ≡ None

-- own: the entry was acknowledged at this clock
abbrev pub stamped : ℕ → Entry → Entry
stamped clock entry = record entry { stamp = clock }

-- own: the entries were acknowledged at this clock
abbrev pub all_stamped : ℕ → List Entry → List Entry
all_stamped clock entries = map (stamped clock) entries

-- own: the next free offset has grown so much since the opening or the last checkpoint
abbrev pub HasGrown : StoreState → Type 0
HasGrown store = store.mark + GROWTH ≤ store.twin.journal.gate + 1

-- own: a whole part that keeps this content is longer than the limit
pub record IsLarge (kept : Kept) (twin : TwinState) : Type 0 where
  pub contents : List ℕ
  pub keeps : IsContents kept contents
  pub large : twin.journal.limit < length contents

-- own: the current part is nothing but a whole part that keeps this content, and the growth is counted from its end
pub record IsWrittenAnew (kept : Kept) (store : StoreState) : Type 0 where
  pub contents : List ℕ
  pub keeps : IsContents kept contents
  pub end : store.twin.journal.gate + 1 ≡ length contents
  pub mark : store.mark ≡ store.twin.journal.gate + 1

-- own: what is kept was written anew where it had to be: the part has not grown so much, or the content is too large
abbrev pub IsTended : Kept → StoreState → Type 0
IsTended kept store = (HasGrown store → ⊥) ⊎ IsLarge kept store.twin
