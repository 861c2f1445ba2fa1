-- One more entry of a history is noted.
use Rattle.std.proofs.Common.{◌≡◌, ◌∙◌, ℕ, ◌+◌, Bool, false, List, [], ◌∷◌, ◌++◌, bytes_eq, length, Option, Some, None, option_map, refl, sym, ap, subst, arith, if◌then◌else◌}
use Rattle.std.specs.Option.{option_map_or, option_or}
use Rattle.sw_data.specs.declared.answers.Answer.{Answer}
use Rattle.sw_data.specs.declared.answers.Answer.TheVariants as answer
use Rattle.sw_data.specs.declared.answers.Notice.{Notice}
use Rattle.sw_data.specs.declared.events.Event.{Event}
use Rattle.sw_data.specs.declared.events.Event.TheVariants as event
use Rattle.sw_data.specs.declared.events.Who.TheVariants as who
use Rattle.sw_data.specs.declared.histories.Entry.{Entry}
use Rattle.sw_data.specs.declared.rows.ClientRow.{ClientRow}
use Rattle.sw_data.specs.declared.storage.Kept.{Kept}
use Rattle.sw_data.specs.Events.{named_client, named_page, who_of}
use Rattle.sw_rules.proofs.HistoryLemmas.{after-snoc}
use Rattle.sw_rules.specs.Clients.{leave}
use Rattle.sw_rules.specs.History.{EachFrom, IsStep, Legal, after, after_entries, moved}
use Rattle.sw_rules.specs.Restart.{restart}
use Rattle.sw_rules.specs.Rows.{client_row, is_number}
use Rattle.sw_rules.specs.State.{State}
use Rattle.sw_rules.specs.Step.{Step, state_after, step}
use Rattle.sw_rules.specs.Told.{Outcome, answered}
use Rattle.sw_laws.proofs.Lists.{by_truth, length_pushed}
use Rattle.sw_bucket.proofs.Remaining.{events_remain, is_opening}
use Rattle.sw_bucket.proofs.Same.{SameKeys, forgotten_from_same, same_named}
use Rattle.sw_bucket.specs.Noted.{IsForgottenFrom, IsNotedOf, Noted, NotesOne, client_noted, is_ok, key_used_by, last_noted, moved_client}
use Rattle.sw_bucket.specs.Uses.{client_key, last_from, last_use, used_from, used_in, used_key, work_key}

-- ---- the last use

-- one more use
last_more : (key : List ℕ) (place last : ℕ) (uses : List (Option (List ℕ))) (used : Option (List ℕ))
    → last_from key place last (uses ++ used ∷ []) ≡ (if option_map_or (bytes_eq key) used false then place + length uses else last_from key place last uses)
last_more key place last [] used =
    let same : place ≡ place + 0 = omega arith in ap (λ (p : ℕ). if option_map_or (bytes_eq key) used false then p else last) same
last_more key place last (first ∷ uses) used =
    let now = if option_map_or (bytes_eq key) first false then place else last in
    let same : (place + 1) + length uses ≡ place + length (first ∷ uses) = omega arith in
    last_more key (place + 1) now uses used
    ∙ ap (λ (p : ℕ). if option_map_or (bytes_eq key) used false then p else last_from key (place + 1) now uses) same

used_more : (state : State) (entries : List Entry) (entry : Entry) → used_from state (entries ++ entry ∷ []) ≡ used_from state entries ++ used_key (after_entries state entries) entry.event ∷ []
used_more state [] entry = refl
used_more state (first ∷ entries) entry = ap (λ (rest : List (Option (List ℕ))). used_key state first.event ∷ rest) (used_more (moved state first) entries entry)

as_many : (state : State) (entries : List Entry) → length (used_from state entries) ≡ length entries
as_many state [] = refl
as_many state (entry ∷ entries) = let rest = as_many (moved state entry) entries in omega (arith, rest)

as_many_in : (base : Kept) (history : List Entry) → length (used_in base history) ≡ length history
as_many_in base [] = refl
as_many_in base (opening ∷ entries) = let rest = as_many (restart base) entries in omega (arith, rest)

-- the last use of a key, where one more entry uses this
last_use_more : (base : Kept) (history : List Entry) (entry : Entry) (used : Option (List ℕ)) → used_in base (history ++ entry ∷ []) ≡ used_in base history ++ used ∷ [] → (key : List ℕ)
    → last_use base (history ++ entry ∷ []) key ≡ (if option_map_or (bytes_eq key) used false then length history else last_use base history key)
last_use_more base history entry used is key =
    let many : 0 + length (used_in base history) ≡ length history = let all = as_many_in base history in omega (arith, all) in
    ap (last_from key 0 0) is
    ∙ (last_more key 0 0 (used_in base history) used
    ∙ ap (λ (p : ℕ). if option_map_or (bytes_eq key) used false then p else last_use base history key) many)

-- ---- the key that is used

-- the last entry is a step
last_step : (before : List Entry) (state : State) (entries : List Entry) (entry : Entry) → EachFrom IsStep before state (entries ++ entry ∷ [])
    → Step (after_entries state entries) entry.event entry.answer entry.notices (moved (after_entries state entries) entry)
last_step before state [] entry each = each.0.step
last_step before state (first ∷ entries) entry each = last_step (before ++ first ∷ []) (moved state first) entries entry each.1

-- the key of a client that closes was noted
closed_used : (noted : Noted) (old : State) (found : Option ClientRow) (client : ℕ) (reply : Answer)
    → (let outcome : Outcome = elim found [ None ↦ answered old answer.NoClient | Some row ↦ record { answer = answer.Ok; told = leave old client } ] in outcome.answer ≡ reply)
    → ((key : List ℕ) → option_map (λ (row : ClientRow). row.key) found ≡ Some key → client_noted noted client ≡ Some key)
    → (if is_ok reply then client_noted noted client else None) ≡ option_or (option_map (λ (row : ClientRow). row.key) found) None
closed_used noted old None client reply is knows = ap (λ (r : Answer). if is_ok r then client_noted noted client else None) (sym is)
closed_used noted old (Some row) client reply is knows =
    ap (λ (r : Answer). if is_ok r then client_noted noted client else None) (sym is) ∙ knows row.key refl

used_same : (noted : Noted) (old state : State) (happened : Event) (reply : Answer) (notices : List Notice) → Step old happened reply notices (state_after old happened)
    → ((number : ℕ) (key : List ℕ) → client_key old number ≡ Some key → client_noted noted number ≡ Some key)
    → SameKeys (state_after old happened) state → key_used_by noted state reply happened ≡ used_key old happened
unfolding step who_of named_client named_page work_key
used_same noted old state (event.Close who.Host client) reply notices made knows same = absurd cc
used_same noted old state (event.Close (who.Lane lane at) client) reply notices made knows same =
    closed_used noted old (client_row old client) client reply (ap (λ (o : Option Outcome). option_map_or (λ outcome. outcome.answer) o reply) made.1) (knows client)
used_same noted old state (event.Close (who.Handler worker in_phase at) client) reply notices made knows same = absurd cc
used_same noted old state happened reply notices made knows same = same_named (state_after old happened) state same happened

opening_used : (noted : Noted) (state : State) (reply : Answer) (happened : Event) → happened ≡ event.Restarted who.Host → key_used_by noted state reply happened ≡ None
unfolding named_client named_page work_key
opening_used noted state reply happened is = rw is refl

-- ---- clients

not_opening : (happened : Event) (number : ℕ) → is_number (moved_client happened) number ≡ false → is_opening happened number ≡ false
not_opening (event.Open maker client url partition) number is = is
not_opening happened number is = refl

clients_more : (before now : Noted) (old state : State) (happened : Event) → ((number : ℕ) (key : List ℕ) → client_key old number ≡ Some key → client_noted before number ≡ Some key)
    → SameKeys (state_after old happened) state → ((number : ℕ) → client_noted now number ≡ (if is_number (moved_client happened) number then client_key state number else client_noted before number))
    → (number : ℕ) (key : List ℕ) → client_key (state_after old happened) number ≡ Some key → client_noted now number ≡ Some key
clients_more before now old state happened knows same is number key there =
    is number ∙ by_truth {P = (if is_number (moved_client happened) number then client_key state number else client_noted before number) ≡ Some key} (is_number (moved_client happened) number)
    (λ moved. rw moved (same.clients number ∙ there))
    (λ other. rw other (knows number key (events_remain old happened number key (not_opening happened number other) there)))

-- ---- one more entry

module _ (base : Kept) (before now : Noted) (state : State) where
  -- what is noted of a history with one more entry, which uses this key
  more : (history : List Entry) (entry : Entry) (used : Option (List ℕ)) → IsNotedOf base history before → NotesOne before state entry now
      → used_in base (history ++ entry ∷ []) ≡ used_in base history ++ used ∷ [] → key_used_by before state entry.answer entry.event ≡ used
      → ((number : ℕ) (key : List ℕ) → client_key (after base (history ++ entry ∷ [])) number ≡ Some key → client_noted now number ≡ Some key)
      → IsNotedOf base (history ++ entry ∷ []) now
  more history entry used was one is same clients = record {
    count = let counted = was.count in let grown = one.count in let many = length_pushed history entry in omega (arith, counted, grown, many);
    last = λ key.
        one.last key
        ∙ (ap (λ (u : Option (List ℕ)). if option_map_or (bytes_eq key) u false then before.count else last_noted before key) same
        ∙ ((λ i. if option_map_or (bytes_eq key) used false then was.count i else was.last key i)
        ∙ sym (last_use_more base history entry used is key)));
    clients = clients;
  }

  pub noted_more : (history : List Entry) (entry : Entry) → IsNotedOf base history before → Legal base (history ++ entry ∷ []) → IsForgottenFrom (after base (history ++ entry ∷ [])) state
      → NotesOne before state entry now → IsNotedOf base (history ++ entry ∷ []) now
  noted_more [] entry was legal from one =
      more [] entry None was one refl (opening_used before state entry.answer entry.event legal.opens.event) (λ number key there. absurd cc)
  noted_more (opening ∷ entries) entry was legal from one =
      let history = opening ∷ entries in
      let old = after base history in
      let step = last_step (opening ∷ []) (restart base) entries entry legal.steps in
      let next : after base (history ++ entry ∷ []) ≡ moved old entry = after-snoc base history entry legal.opens in
      let same : SameKeys (moved old entry) state = subst (λ (s : State). SameKeys s state) next (forgotten_from_same (after base (history ++ entry ∷ [])) state from) in
      more history entry (used_key old entry.event) was one
      (ap (λ (rest : List (Option (List ℕ))). None ∷ rest) (used_more (restart base) entries entry))
      (used_same before old state entry.event entry.answer entry.notices step was.clients same)
      (λ number key there. clients_more before now old state entry.event was.clients same one.clients number key (ap (λ (s : State). client_key s number) (sym next) ∙ there))

-- a key that the entry doesn't use has its last use as before
pub others_stay : (before now : Noted) (state : State) (entry : Entry) → NotesOne before state entry now → (key : List ℕ)
    → option_map_or (bytes_eq key) (key_used_by before state entry.answer entry.event) false ≡ false → last_noted now key ≡ last_noted before key
others_stay before now state entry one key other =
    one.last key ∙ ap (λ (b : Bool). if b then before.count else last_noted before key) other
