-- Clients that are claimed, one after another.
use Rattle.std.proofs.Common.{◌≡◌, ◌∙◌, ◌<◌, ◌+◌, ℕ, List, [], ◌∷◌, ◌++◌, length, get_or, take, slice_get, Option, Some, None, option_map, is_some, refl, sym, ap, subst, true, arith}
use Rattle.std.proofs.lemmas.List.{append-nil, append_assoc, length-map, take_more}
use Rattle.std.proofs.lemmas.Option.{slice_get-get_or, slice_get-map}
use Rattle.sw_client.specs.Table as clients
use Rattle.sw_client.specs.Table.{clients_of}
use Rattle.sw_client.specs.declared.OpenClient.{OpenClient}
use Rattle.sw_data.specs.declared.rows.ClientRow.{ClientRow}
use Rattle.sw_data.specs.declared.rows.RegistrationRow.{RegistrationRow}
use Rattle.sw_reg.specs.Table as registrations
use Rattle.sw_reg.specs.Table.{registration_at}
use Rattle.sw_rules.specs.Clients as rules
use Rattle.sw_rules.specs.Noticing.{Did, NoticeList}
use Rattle.sw_rules.specs.Registrations.{controlled_by}
use Rattle.sw_rules.specs.Rows as rows_of
use Rattle.sw_rules.specs.State.{State}
use Rattle.sw_rules.specs.Told.{Told, followed, quiet}
use Rattle.sw_scope.specs.Scopes.{Scopes}
use Rattle.sw_tables.proofs.Chain.{did_then}
use Rattle.sw_tables.proofs.Rows.{within}
use Rattle.sw_tables.specs.Linked.{Linked, registration_of}
use Rattle.sw_worker.specs.Table as workers
use Rattle.sw_activate.specs.Names.{numbers_of}
use Rattle.sw_activate.proofs.Names.{Alike, owner_there, seen_same}

pub take_control_alike : (state : State) (worker client : ℕ) → Alike state (rules.take_control state worker client).state
unfolding rules.take_control
take_control_alike state worker client = record {
  registrations = refl;
  workers = refl;
  clients = seen_same (λ (row : ClientRow). row.number) (rows_of.is_client client) (controlled_by worker) (λ row. refl) state.clients;
}

-- the registration of a worker is known to the clients
pub known_owner : (scopes : Scopes) (of_workers : workers.Table) (of : registrations.Table) (of_clients : clients.Table) → Linked scopes of_workers of of_clients
    → (worker registration : ℕ) → registration_of of_workers.rows worker ≡ Some registration → registration < of_clients.known
known_owner scopes of_workers of of_clients linked worker registration owned =
    by (registration_at registration of.rows) refl (owner_there of_workers of linked.slots worker registration owned)
  where
    by : (o : Option RegistrationRow) → registration_at registration of.rows ≡ o → is_some o ≡ true → registration < of_clients.known
    by None here found = absurd cc
    by (Some row) here found =
        let below = within (λ (r : RegistrationRow). r.number) registration of.rows row linked.slots.registration_places here in
        let known = linked.known in omega (arith, below, known)

-- ---- the client at a place

pub below_numbers : (place : ℕ) (of : clients.Table) → place < length of.rows → place < length (numbers_of of)
below_numbers place of below =
    let one = length-map of.rows (λ (row : OpenClient). row.client) in
    let two = length-map (clients_of of) (λ (row : ClientRow). row.number) in
    omega (arith, one, two, below)

pub number_at : (place : ℕ) (of : clients.Table) (row : ClientRow) (d : ℕ) → place < length of.rows → slice_get (clients_of of) place ≡ Some row
    → get_or (numbers_of of) place d ≡ row.number
number_at place of row d below is =
    let one = slice_get-get_or (numbers_of of) place d (below_numbers place of below) in
    let two = slice_get-map (λ (r : ClientRow). r.number) (clients_of of) place in
    let three : Some (get_or (numbers_of of) place d) ≡ Some row.number = sym one ∙ (two ∙ ap (option_map (λ (r : ClientRow). r.number)) is) in
    cc (three)

pub not_past : (place : ℕ) (of : clients.Table) → place < length of.rows → slice_get (clients_of of) place ≡ None → ⊥
not_past place of below none =
    let one = slice_get-get_or (numbers_of of) place 0 (below_numbers place of below) in
    let two = slice_get-map (λ (r : ClientRow). r.number) (clients_of of) place in
    let three : Some (get_or (numbers_of of) place 0) ≡ None = sym one ∙ (two ∙ ap (option_map (λ (r : ClientRow). r.number)) none) in
    cc (three)

-- ---- one client more

followed_assoc : (told : Told) (f g : State → Told) → followed (followed told f) g ≡ followed told (λ s. followed (f s) g)
unfolding followed
followed_assoc told f g = λ i. record {
  state = (g (f told.state).state).state;
  notices = append_assoc told.notices (f told.state).notices (g (f told.state).state).notices i;
  changes = append_assoc told.changes (f told.state).changes (g (f told.state).state).changes i;
}

followed_quiet : (told : Told) → followed told (λ s. quiet s) ≡ told
unfolding followed
followed_quiet told = λ i. record { state = told.state; notices = append-nil told.notices i; changes = append-nil told.changes i }

module _ (worker registration : ℕ) where
  abbrev all_of : List ℕ → State → Told
  all_of numbers state = rules.claim_clients state worker registration numbers

  abbrev one_of : ℕ → State → Told
  one_of number state = rules.claim_client state worker registration number

  one_more : (numbers : List ℕ) (number : ℕ) (state : State) → all_of (numbers ++ number ∷ []) state ≡ followed (all_of numbers state) (one_of number)
  unfolding rules.claim_clients followed
  one_more [] number state = followed_quiet (one_of number state)
  one_more (n ∷ numbers) number state =
      ap (λ (f : State → Told). followed (one_of n state) f) (λ i s. one_more numbers number s i)
      ∙ sym (followed_assoc (one_of n state) (all_of numbers) (one_of number))

  pub claimed_next : (numbers : List ℕ) (i d : ℕ) (state : State) (before middle after : NoticeList) (one two : State) → i < length numbers
      → Did (all_of (take i numbers) state) before middle one → Did (one_of (get_or numbers i d) one) middle after two
      → Did (all_of (take (i + 1) numbers) state) before after two
  claimed_next numbers i d state before middle after one two below so_far next =
      subst (λ (told : Told). Did told before after two)
      (sym (ap (λ (ns : List ℕ). all_of ns state) (take_more numbers i d below) ∙ one_more (take i numbers) (get_or numbers i d) state))
      (did_then (all_of (take i numbers) state) (one_of (get_or numbers i d)) before middle after one two so_far next)
