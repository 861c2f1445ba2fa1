-- What a client gets where it opens.
use Rattle.std.proofs.Common.{◌≡◌, ◌∙◌, ℕ, Bool, true, false, List, Option, Some, None, Ok, is_some, ok_or, option_map, option_and_then, if◌then◌else◌, ap, sym}
use Rattle.sw_client.specs.declared.OpenClient.{OpenClient}
use Rattle.sw_data.specs.Addresses.{Unparsed, address_of, is_trustworthy}
use Rattle.sw_data.specs.Keys.{key_of}
use Rattle.sw_data.specs.declared.answers.Answer.TheVariants as answer
use Rattle.sw_data.specs.declared.answers.Cause.TheVariants as cause
use Rattle.url.specs.Parts.{Parts, serialize}
use Rattle.sw_data.specs.declared.answers.Answer.{Answer}
use Rattle.sw_rules.specs.Activating.{worker_or_none}
use Rattle.sw_rules.specs.Clients.{add_client, open_at, open_client, open_new, opening_controller}
use Rattle.sw_rules.specs.Rows.{active_worker_number, client_row, matched_registration_number}
use Rattle.sw_rules.specs.State.{State}
use Rattle.sw_rules.specs.Told.{Outcome, answered, refused, type_error}
use Rattle.sw_pages.proofs.Active.{first, firsts, second}
use Rattle.sw_pages.specs.Active.{active_match}

by_trust : State → List ℕ → List ℕ → Bool → Option ℕ
by_trust state key url trusted = if trusted then option_and_then (active_worker_number state) (matched_registration_number state key url) else None

-- the controller that a client gets where its address is trustworthy
pub opening : (state : State) (key url address : List ℕ) (found : Option (ℕ × ℕ)) → true ≡ is_trustworthy url → address ≡ url → found ≡ active_match state key address
    → option_map first found ≡ opening_controller state key url
unfolding by_trust
opening state key url address found trusted own is =
    ap (option_map first) (is ∙ ap (active_match state key) own)
    ∙ firsts (active_worker_number state) (matched_registration_number state key url) ∙ ap (by_trust state key url) trusted

-- the row of a client that opens
abbrev pub opened : ℕ → List ℕ → List ℕ → Bool → Option (ℕ × ℕ) → OpenClient
opened n url key secure found = record {
  client = record { number = n; url = url; key = key; secure = secure; controller = option_map first found };
  registration = option_map second found;
}

abbrev pub outcome : State → Answer → OpenClient → Outcome
outcome state reply new = record { answer = reply; told = add_client state new.client }

-- what a client that opens comes to
pub open_here : (state : State) (n : ℕ) (key url : List ℕ) (secure : Bool) (found : Option (ℕ × ℕ)) → secure ≡ is_trustworthy url → option_map first found ≡ opening_controller state key url
    → open_at state n url (Some key) ≡ outcome state (worker_or_none (option_map first found)) (opened n url key secure found)
open_here state n key url secure found trusted is = cc (trusted, is)

-- ---- a text that is parsed

abbrev by_address : State → ℕ → Option (List ℕ) → Option Parts → Outcome
by_address state n key o =
    elim o [ None ↦ refused state (type_error cause.Unparsed) | Some url ↦ open_at state n (serialize url) key ]

-- a client opens at the address that its text is
pub open_parsed : (state : State) (n : ℕ) (text url : List ℕ) (partition key : Option (List ℕ)) → ok_or (option_map serialize (address_of text)) Unparsed ≡ Ok url → key ≡ key_of text partition
    → is_some (client_row state n) ≡ false → open_client state n text partition ≡ open_at state n url key
open_parsed state n text url partition key is own free =
    ap (λ b. if b then answered state answer.InUse else open_new state n text partition) free
    ∙ ap (λ key. by_address state n key (address_of text)) (sym own) ∙ by (address_of text) is
  where
    by : (o : Option Parts) → ok_or (option_map serialize o) Unparsed ≡ Ok url → by_address state n key o ≡ open_at state n url key
    by None is = absurd cc
    by (Some parts) is =
        let same : serialize parts ≡ url = cc is in
        ap (λ text. open_at state n text key) same
