-- Copies of the tables, which have the same rows and other room: they are linked as well, and show the same state.
use Rattle.std.proofs.Common.{◌≡◌, ◌∙◌, ◌++◌, ℕ, List, [], All, sym, ap, subst}
use Rattle.std.proofs.lemmas.List.Elements.{All-weaker}
use Rattle.sw_client.specs.Table as clients
use Rattle.sw_client.specs.declared.OpenClient.{OpenClient}
use Rattle.sw_data.specs.declared.answers.Notice.{Notice}
use Rattle.sw_reg.specs.Table as registrations
use Rattle.sw_rules.specs.Clients.{claim_clients}
use Rattle.sw_rules.specs.Noticing.{Did, NoticeList}
use Rattle.sw_rules.specs.State.{State}
use Rattle.sw_scope.specs.Scopes.{Scopes}
use Rattle.sw_tables.specs.Lent.{Rest, lent}
use Rattle.sw_tables.specs.Linked.{HasSlots, IsNoted, Linked}
use Rattle.sw_worker.specs.Table as workers
use Rattle.sw_activate.specs.Names.{numbers_of}

-- own: copies of three tables
pub record AreCopies (old_workers : workers.Table) (old_registrations : registrations.Table) (old_clients : clients.Table)
    (new_workers : workers.Table) (new_registrations : registrations.Table) (new_clients : clients.Table) : Type 0 where
  pub workers : new_workers ≡ record old_workers { spare_rows = new_workers.spare_rows; spare_events = new_workers.spare_events }
  pub registrations : new_registrations ≡ record old_registrations { spare = new_registrations.spare }
  pub clients : new_clients ≡ record old_clients { spare = new_clients.spare }

module _ (of_workers : workers.Table) (of_registrations : registrations.Table) (of_clients : clients.Table) (rows events spare room : ℕ) where
  abbrev workers_too : workers.Table
  workers_too = record of_workers { spare_rows = rows; spare_events = events }

  abbrev registrations_too : registrations.Table
  registrations_too = record of_registrations { spare = spare }

  abbrev clients_too : clients.Table
  clients_too = record of_clients { spare = room }

  slots_too : HasSlots of_workers of_registrations → HasSlots workers_too registrations_too
  slots_too has = record {
    worker_places = has.worker_places;
    registration_places = has.registration_places;
    rows = λ number row is.
        let stands = has.rows number row is in
        record { owner = stands.owner; slots = stands.slots; handler = stands.handler };
    filled = has.filled;
    events = has.events;
  }

  noted_too : (opened : List OpenClient) → All (IsNoted of_workers) opened → All (IsNoted workers_too) opened
  noted_too opened all =
      All-weaker (IsNoted of_workers) (IsNoted workers_too) (λ row noted. record { registration = noted.registration; controller = noted.controller }) opened all

  linked_too : (scopes : Scopes) → Linked scopes of_workers of_registrations of_clients → Linked scopes workers_too registrations_too clients_too
  linked_too scopes linked = record {
    slots = slots_too linked.slots;
    mapped = linked.mapped;
    noted = noted_too of_clients.rows linked.noted;
    known = linked.known;
  }

module _ (w0 : workers.Table) (r0 : registrations.Table) (c0 : clients.Table) (w1 : workers.Table) (r1 : registrations.Table) (c1 : clients.Table) (are : AreCopies w0 r0 c0 w1 r1 c1) where
  pub copies_linked : (scopes : Scopes) → Linked scopes w0 r0 c0 → Linked scopes w1 r1 c1
  copies_linked scopes linked =
      let all = linked_too w0 r0 c0 w1.spare_rows w1.spare_events r1.spare c1.spare scopes linked in
      subst (λ (w : workers.Table). Linked scopes w r1 c1) (sym are.workers)
      (subst (λ (r : registrations.Table). Linked scopes (workers_too w0 r0 c0 w1.spare_rows w1.spare_events r1.spare c1.spare) r c1) (sym are.registrations)
      (subst (λ (c : clients.Table). Linked scopes (workers_too w0 r0 c0 w1.spare_rows w1.spare_events r1.spare c1.spare) (registrations_too w0 r0 c0 w1.spare_rows w1.spare_events r1.spare c1.spare) c)
      (sym are.clients) all))

  -- what a claim on copies tells
  pub told_on_copies : (scopes : Scopes) (rest : Rest) (worker registration : ℕ) (before after : NoticeList) (new : State) → before.rows ≡ []
      → Did (claim_clients (lent scopes w1 r1 c1 rest) worker registration (numbers_of c1)) before after new
      → after.rows ≡ (claim_clients (lent scopes w0 r0 c0 rest) worker registration (numbers_of c0)).notices
  told_on_copies scopes rest worker registration before after new empty did =
      did.notices
      ∙ (ap (λ (rows : List Notice). rows ++ (claim_clients (lent scopes w1 r1 c1 rest) worker registration (numbers_of c1)).notices) empty
      ∙ (λ i. (claim_clients (lent scopes (are.workers i) (are.registrations i) (are.clients i) rest) worker registration (numbers_of (are.clients i))).notices))
