-- The table of clients as contracts see it (own), and the users of a registration.
use Rattle.std.specs.Prelude.{ℕ, Bool, false, ◌≡◌, ◌<◌, ◌-◌, ◌^◌, List, map, filter, length, bytes_eq, slice_index_or, Some, None, IfSome, if◌then◌else◌}
use Rattle.std.specs.List.{list_any}
use Rattle.std.specs.Map.{values_of}
use Rattle.sw_data.specs.declared.rows.ClientRow.{ClientRow}
use Rattle.sw_list.specs.Tally.{Tally, Tallies}
use Rattle.sw_rules.specs.Rows.{is_client, is_number}
use Rattle.sw_client.specs.declared.OpenClient.{OpenClient}
use Rattle.sw_client.specs.Keyed.{IsKeyed}

-- the clients in order of opening, how many registrations are known, which are those of the numbers below, and for how
-- many more clients there is room
pub record Table : Type 0 where
  pub rows : List OpenClient
  pub known : ℕ
  pub spare : ℕ

-- the clients without what the table notes of them
abbrev pub clients_of : Table → List ClientRow
clients_of table = map (λ row. row.client) table.rows

abbrev pub is_open : ℕ → OpenClient → Bool
is_open number row = is_client number row.client

-- a client's controller is a worker of the registration (Service Workers, "using")
abbrev pub uses : ℕ → OpenClient → Bool
uses registration row = is_number row.registration registration

-- how many clients use a registration
abbrev pub users_of : ℕ → List OpenClient → ℕ
users_of registration rows = length (filter (uses registration) rows)

-- a client that gets a controller, a worker of a registration
abbrev pub controlled_by : ℕ × ℕ → OpenClient → OpenClient
controlled_by controller row = record {
  client = record row.client { controller = Some controller.0 };
  registration = Some controller.1;
}

-- a client, which gets this worker of a registration if it uses that one
abbrev pub handed : ℕ → ℕ → OpenClient → OpenClient
handed registration worker row = if uses registration row then controlled_by (worker, registration) row else row

-- a client that has no controller any more
abbrev pub uncontrolled : OpenClient → OpenClient
uncontrolled row = record { client = record row.client { controller = None }; registration = None }

-- a row can be put into the table: no row has its number, its registration is known, and there is room
pub record FitsClient (new : OpenClient) (table : Table) : Type 0 where
  pub number : list_any (is_client new.client.number) (clients_of table) ≡ false
  pub registration : IfSome new.registration (λ registration. registration < table.known)
  pub room : 0 < table.spare
  pub few : length table.rows < 2 ^ 32 - 1

-- the rows stand at their numbers, and the count of each registration is that of its users
pub record CountsUsers (entries : List (ℕ × OpenClient)) (counts : List ℕ) : Type 0 where
  pub keyed : IsKeyed (λ row. row.client.number) entries
  pub users : (registration : ℕ) → slice_index_or counts registration 0 ≡ users_of registration (values_of entries)
  pub few : length (values_of entries) < 2 ^ 32

-- a client is of a key
abbrev pub is_of : List ℕ → OpenClient → Bool
is_of key row = bytes_eq row.client.key key

-- what is kept of the clients
pub record IsKept (entries : List (ℕ × OpenClient)) (counts : List ℕ) (keys : Tally) : Type 0 where
  pub counted : CountsUsers entries counts
  pub tallied : Tallies is_of (values_of entries) keys
