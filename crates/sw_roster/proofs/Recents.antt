-- The clients with a focus, last focused first: what each beat makes of them, and what the focus of each client says.
use Rattle.std.proofs.Common.{◌≡◌, ◌∙◌, ◌<◌, ◌+◌, ℕ, Bool, true, false, not, ◌&&◌, ◌||◌, ◌==◌, List, [], ◌∷◌, ◌++◌, length, Option, Some, None, refl, sym, ap, subst, arith, if◌then◌else◌}
use Rattle.std.specs.List.{cons_option, filter, filter_map, find, list_all, list_any}
use Rattle.std.specs.Option.{is_none, is_some, option_or}
use Rattle.std.proofs.lemmas.Bool.Decides.{nat_tests}
use Rattle.std.proofs.lemmas.Bool.{and_parts}
use Rattle.sw_data.specs.declared.answers.Answer.{Answer}
use Rattle.sw_data.specs.declared.answers.Notice.{Notice}
use Rattle.sw_data.specs.declared.events.Event.{Event}
use Rattle.sw_data.specs.declared.events.Event.TheVariants as event
use Rattle.sw_data.specs.declared.histories.Entry.{Entry}
use Rattle.sw_data.specs.declared.rows.ClientRow.{ClientRow}
use Rattle.sw_readers.specs.declared.inputs.RosterLine.{RosterLine}
use Rattle.sw_readers.specs.declared.inputs.RosterLine.TheVariants as line
use Rattle.sw_roster.proofs.OnlyOpens.{close_closes, only_opens}
use Rattle.sw_roster.specs.Beats.{AreClosed, IsRecent, after_asked, answered, closes, focus_of, focused, focuses, has_focus, is_closed, listed, opens, places, recent_of, unfocused}
use Rattle.sw_roster.specs.Members.{by_focus, closed, dropped, has_closed, is_listed, is_same, may_ask, members, numbers_of, opened, turned}
use Rattle.sw_roster.specs.declared.beats.Beat.{Beat}
use Rattle.sw_roster.specs.declared.beats.Beat.TheVariants as beat
use Rattle.sw_roster.specs.declared.beats.RosterAnswer.{RosterAnswer}
use Rattle.sw_roster.specs.declared.beats.RosterAnswer.TheVariants as told
use Rattle.sw_rules.specs.State.{State}
use Rattle.sw_rules.specs.Step.{Step}
use Rattle.sw_rules.specs.Rows.{is_client, is_number, without}

by_bool : {P : Type 0} (b : Bool) → (b ≡ true → P) → (b ≡ false → P) → P
by_bool true here other = here refl
by_bool false here other = other refl

-- ---- lists

find_same : {X : Type 0} (p q : X → Bool) → ((x : X) → p x ≡ q x) → (xs : List X) → find p xs ≡ find q xs
find_same p q same [] = refl
find_same p q same (x ∷ xs) = grind (arith, same x, find_same p q same xs)

none_found : {X : Type 0} (p : X → Bool) → ((x : X) → p x ≡ false) → (xs : List X) → find p xs ≡ None
none_found p fails [] = refl
none_found p fails (x ∷ xs) = grind (arith, fails x, none_found p fails xs)

-- what is found beside some is found without them
find_beside : {X : Type 0} (a p : X → Bool) (xs : List X) → find (λ x. not (a x) && p x) xs ≡ find p (without a xs)
find_beside a p [] = refl
find_beside a p (x ∷ xs) =
    let rest = find_beside a p xs in
    by_bool (a x) (λ here. grind (arith, here, rest)) (λ other. grind (arith, other, rest))

mapped_same : {X Y : Type 0} (f g : X → Option Y) → ((x : X) → f x ≡ g x) → (xs : List X) → filter_map f xs ≡ filter_map g xs
mapped_same f g same [] = refl
mapped_same f g same (x ∷ xs) = grind (arith, same x, mapped_same f g same xs)

both : {Y : Type 0} (one other : Option Y) (xs ys : List Y) → one ≡ other → xs ≡ ys → cons_option one xs ≡ cons_option other ys
both one other xs ys first rest = ap (λ (o : Option _). cons_option o xs) first ∙ ap (cons_option other) rest

-- ---- places

-- all of these are below
abbrev AreBelow : ℕ → List ℕ → Type 0
AreBelow n [] = Unit {0}
AreBelow n (k ∷ ks) = (k < n) × AreBelow n ks

raised : (n : ℕ) (ks : List ℕ) → AreBelow n ks → AreBelow (n + 1) ks
raised n [] below = tt
raised n (k ∷ ks) below = let first = below.0 in (omega (arith, first), raised n ks below.1)

length_more : (latest : Beat) (past : List Beat) → length (latest ∷ past) ≡ length past + 1
length_more latest past = omega arith

places_below : (past : List Beat) → AreBelow (length past) (places past)
places_below [] = tt
places_below (latest ∷ past) =
    let rest = subst (λ (n : ℕ). AreBelow n (places past)) (sym (length_more latest past)) (raised (length past) (places past) (places_below past)) in
    (omega (arith, length_more latest past), rest)

mapped_below : {Y : Type 0} (n : ℕ) (f g : ℕ → Option Y) → ((k : ℕ) → k < n → f k ≡ g k) → (ks : List ℕ) → AreBelow n ks → filter_map f ks ≡ filter_map g ks
mapped_below n f g same [] below = refl
mapped_below n f g same (k ∷ ks) below = both (f k) (g k) _ _ (same k below.0) (mapped_below n f g same ks below.1)

-- no focus is at the end
not_there : (f t : Bool) (k m : ℕ) (o : Option ℕ) → k < m → is_number o m ≡ false → is_number (if f then Some k else if t then None else o) m ≡ false
not_there true t k m o low other = grind (arith, nat_tests, low)
not_there false true k m o low other = refl
not_there false false k m o low other = other

later : (past : List Beat) (client m : ℕ) → length past < m + 1 → is_number (focus_of past client) m ≡ false
later [] client m low = refl
later (latest ∷ past) client m low =
    let less : length past < m = omega (arith, low, length_more latest past) in
    not_there (focuses client latest) (opens client latest) (length past) m (focus_of past client) less (later past client m (omega (arith, less)))

-- ---- the order of focus

abbrev shown : List ℕ → List ClientRow → List ClientRow
shown recent rows = filter_map (λ number. find (is_client number) rows) recent

none_of : (client : ℕ) (rows : List ClientRow) → find (is_client client) (without (is_client client) rows) ≡ None
none_of client [] = refl
none_of client (row ∷ rows) = grind (arith, nat_tests, none_of client rows)

other_of : (client number : ℕ) → (number == client) ≡ false → (rows : List ClientRow) → find (is_client number) (without (is_client client) rows) ≡ find (is_client number) rows
other_of client number other [] = refl
other_of client number other (row ∷ rows) = grind (arith, nat_tests, other, other_of client number other rows)

shown_without : (client : ℕ) (recent : List ℕ) (rows : List ClientRow) → shown (without (is_same client) recent) rows ≡ shown recent (without (is_client client) rows)
shown_without client [] rows = refl
shown_without client (number ∷ recent) rows =
    let rest = shown_without client recent rows in
    by_bool (number == client)
    (λ same.
    let one : number ≡ client = grind (arith, nat_tests, same) in
    let none : find (is_client number) (without (is_client client) rows) ≡ None = ap (λ (n : ℕ). find (is_client n) (without (is_client client) rows)) one ∙ none_of client rows in
    grind (arith, same, none, rest))
    (λ other. let found = other_of client number other rows in grind (arith, other, found, rest))

any_without : (client n : ℕ) (recent : List ℕ) → list_any (is_same n) (without (is_same client) recent) ≡ (not (client == n) && list_any (is_same n) recent)
any_without client n [] = grind arith
any_without client n (number ∷ recent) = grind (arith, nat_tests, any_without client n recent)

turned_test : (a b : ℕ) → (a == b) ≡ (b == a)
turned_test a b = grind (arith, nat_tests)

never : (here : Bool) {other : Bool} → other ≡ false → (not here && other) ≡ false
never here is = grind (arith, is)

-- what the last beat makes of the focus of a client
stays_as : (f o : Bool) (k : ℕ) (was : Option ℕ) → f ≡ false → o ≡ false → (if f then Some k else if o then None else was) ≡ was
stays_as f o k was is other = rw (is, other) refl

now_focused : (f o here : Bool) (k place : ℕ) (was : Option ℕ) → f ≡ here → o ≡ false → place < k → is_number (if f then Some k else if o then None else was) place ≡ (not here && is_number was place)
now_focused f o here k place was is other low = grind (arith, nat_tests, is, other, low)

at_the_end : (f o here : Bool) (k : ℕ) (was : Option ℕ) → f ≡ here → o ≡ false → is_number was k ≡ false → is_number (if f then Some k else if o then None else was) k ≡ here
at_the_end f o here k was is other none = grind (arith, nat_tests, is, other, none)

now_gone : (f o here : Bool) (k place : ℕ) (was : Option ℕ) → f ≡ false → o ≡ here → is_number (if f then Some k else if o then None else was) place ≡ (not here && is_number was place)
now_gone f o here k place was is other = grind (arith, is, other)

-- and of its place in the list
member_focused : (f o c here any gone : Bool) (k : ℕ) (was : Option ℕ) → f ≡ here → o ≡ false → c ≡ false → any ≡ (is_some was && not gone)
    → (here || (not here && any)) ≡ (is_some (if f then Some k else if o then None else was) && not (if f || o then false else c || gone))
member_focused f o c here any gone k was is other third same = grind (arith, is, other, third, same)

member_opened : (f o c here any gone : Bool) (k : ℕ) (was : Option ℕ) → f ≡ false → o ≡ here → c ≡ false → any ≡ (is_some was && not gone)
    → (not here && any) ≡ (is_some (if f then Some k else if o then None else was) && not (if f || o then false else c || gone))
member_opened f o c here any gone k was is other third same = grind (arith, is, other, third, same)

member_closed : (f o c here any gone : Bool) (k : ℕ) (was : Option ℕ) → f ≡ false → o ≡ false → c ≡ here → any ≡ (is_some was && not gone)
    → (not here && any) ≡ (is_some (if f then Some k else if o then None else was) && not (if f || o then false else c || gone))
member_closed f o c here any gone k was is other third same = grind (arith, is, other, third, same)

member_stays : (f o c any gone : Bool) (k : ℕ) (was : Option ℕ) → f ≡ false → o ≡ false → c ≡ false → any ≡ (is_some was && not gone)
    → any ≡ (is_some (if f then Some k else if o then None else was) && not (if f || o then false else c || gone))
member_stays f o c any gone k was is other third same = grind (arith, is, other, third, same)

-- ---- clients that weren't closed

-- those beside one weren't closed before
open_beside : (client : ℕ) (now before : ℕ → Bool) → ((n : ℕ) → (client == n) ≡ false → now n ≡ before n) → (rows : List ClientRow) → list_all (λ row. not (now row.number)) rows ≡ true
    → list_all (λ row. not (before row.number)) (without (is_client client) rows) ≡ true
open_beside client now before same [] all = refl
open_beside client now before same (row ∷ rows) all =
    let parts = and_parts (not (now row.number)) (list_all (λ r. not (now r.number)) rows) all in
    let rest = open_beside client now before same rows parts.1 in
    let head = parts.0 in
    by_bool (client == row.number)
    (λ here. grind (arith, nat_tests, here, rest))
    (λ other. let before_so : before row.number ≡ now row.number = sym (same row.number other) in grind (arith, nat_tests, other, before_so, head, rest))

open_before : (now before : ℕ → Bool) → ((n : ℕ) → now n ≡ false → before n ≡ false) → (rows : List ClientRow) → list_all (λ row. not (now row.number)) rows ≡ true → list_all (λ row. not (before row.number)) rows ≡ true
open_before now before less [] all = refl
open_before now before less (row ∷ rows) all =
    let parts = and_parts (not (now row.number)) (list_all (λ r. not (now r.number)) rows) all in
    let rest = open_before now before less rows parts.1 in
    let is_open : now row.number ≡ false = grind (arith, parts.0) in
    let was_open = less row.number is_open in
    grind (arith, was_open, rest)

-- a client that was closed is none of them
none_closed : (client : ℕ) (now : ℕ → Bool) → now client ≡ true → (rows : List ClientRow) → list_all (λ row. not (now row.number)) rows ≡ true → without (is_client client) rows ≡ rows
none_closed client now gone [] all = refl
none_closed client now gone (row ∷ rows) all =
    let parts = and_parts (not (now row.number)) (list_all (λ r. not (now r.number)) rows) all in
    let rest = none_closed client now gone rows parts.1 in
    let head = parts.0 in
    by_bool (row.number == client)
    (λ here.
    let one : row.number ≡ client = grind (arith, nat_tests, here) in
    let never_so : now row.number ≡ true = ap now one ∙ gone in
    absurd (grind (arith, head, never_so)))
    (λ other. grind (arith, other, rest))

closed_now : (f o c gone : Bool) → f ≡ false → o ≡ false → (if f || o then false else c || gone) ≡ (c || gone)
closed_now f o c gone is other = grind (arith, is, other)

closed_else : (f o c gone : Bool) → f ≡ false → o ≡ false → c ≡ false → (if f || o then false else c || gone) ≡ gone
closed_else f o c gone is other third = grind (arith, is, other, third)

right_false : (a b : Bool) → (a || b) ≡ false → b ≡ false
right_false a b is = grind (arith, is)

itself : (n : ℕ) → (n == n) ≡ true
itself n = grind (arith, nat_tests)

either_ok : (ok : Bool) (number client : ℕ) → is_number (if ok then Some number else None) client ≡ true → ok ≡ true
either_ok true number client is = refl
either_ok false number client is = absurd cc

either_same : (ok : Bool) (number client : ℕ) → is_number (if ok then Some number else None) client ≡ true → number ≡ client
either_same true number client is = grind (arith, nat_tests, is)
either_same false number client is = absurd cc

-- ---- one more beat

module _ (past : List Beat) (recent : List ℕ) (so_far : IsRecent past recent) (latest : Beat) where
  -- the focus of a client before the last beat
  abbrev was : ClientRow → Option ℕ
  was row = focus_of past row.number

  -- nothing has its focus at the end
  end_free : (row : ClientRow) → is_number (was row) (length past) ≡ false
  end_free row = later past row.number (length past) (omega arith)

  module _ (client : ℕ) where
    -- a client that is focused stands first
    focused_first : ((n : ℕ) → focuses n latest ≡ (client == n)) → ((n : ℕ) → opens n latest ≡ false) → ((n : ℕ) → closes n latest ≡ false) → IsRecent (latest ∷ past) (client ∷ without (is_same client) recent)
    focused_first is_focused is_still is_kept = record {
      members = λ n.
          ap (λ (any : Bool). client == n || any) (any_without client n recent)
          ∙ member_focused (focuses n latest) (opens n latest) (closes n latest) (client == n) (list_any (is_same n) recent) (is_closed past n) (length past) (focus_of past n) (is_focused n) (is_still n) (is_kept n) (so_far.members n);
      order = λ rows all.
          both (find (is_client client) rows) (find (has_focus (latest ∷ past) (length past)) rows) _ _
          (sym
          (find_same (has_focus (latest ∷ past) (length past)) (is_client client)
          (λ row.
          at_the_end (focuses row.number latest) (opens row.number latest) (client == row.number) (length past) (was row) (is_focused row.number) (is_still row.number) (end_free row)
          ∙ turned_test client row.number)
          rows))
          (shown_without client recent rows
          ∙ so_far.order (without (is_client client) rows)
          (open_beside client (is_closed (latest ∷ past)) (is_closed past)
          (λ n other. closed_else (focuses n latest) (opens n latest) (closes n latest) (is_closed past n) (is_focused n ∙ other) (is_still n) (is_kept n)) rows all)
          ∙ sym
          (mapped_below (length past) (λ place. find (has_focus (latest ∷ past) place) rows) (λ place. find (has_focus past place) (without (is_client client) rows))
          (λ place low.
          find_same (has_focus (latest ∷ past) place) (λ row. not (is_client client row) && has_focus past place row)
          (λ row.
          now_focused (focuses row.number latest) (opens row.number latest) (client == row.number) (length past) place (was row) (is_focused row.number) (is_still row.number) low
          ∙ ap (λ (here : Bool). not here && has_focus past place row) (turned_test client row.number))
          rows
          ∙ find_beside (is_client client) (has_focus past place) rows)
          (places past) (places_below past)));
    }

    -- one that is added has no focus
    opened_gone : ((n : ℕ) → focuses n latest ≡ false) → ((n : ℕ) → opens n latest ≡ (client == n)) → ((n : ℕ) → closes n latest ≡ false) → IsRecent (latest ∷ past) (without (is_same client) recent)
    opened_gone is_other is_opened is_kept = record {
      members = λ n.
          any_without client n recent
          ∙ member_opened (focuses n latest) (opens n latest) (closes n latest) (client == n) (list_any (is_same n) recent) (is_closed past n) (length past) (focus_of past n) (is_other n) (is_opened n) (is_kept n) (so_far.members n);
      order = λ rows all.
          both None (find (has_focus (latest ∷ past) (length past)) rows) _ _
          (sym
          (none_found (has_focus (latest ∷ past) (length past))
          (λ row.
          now_gone (focuses row.number latest) (opens row.number latest) (client == row.number) (length past) (length past) (was row) (is_other row.number) (is_opened row.number)
          ∙ never (client == row.number) (end_free row))
          rows))
          (shown_without client recent rows
          ∙ so_far.order (without (is_client client) rows)
          (open_beside client (is_closed (latest ∷ past)) (is_closed past)
          (λ n other. closed_else (focuses n latest) (opens n latest) (closes n latest) (is_closed past n) (is_other n) (is_opened n ∙ other) (is_kept n)) rows all)
          ∙ sym
          (mapped_same (λ place. find (has_focus (latest ∷ past) place) rows) (λ place. find (has_focus past place) (without (is_client client) rows))
          (λ place.
          find_same (has_focus (latest ∷ past) place) (λ row. not (is_client client row) && has_focus past place row)
          (λ row.
          now_gone (focuses row.number latest) (opens row.number latest) (client == row.number) (length past) place (was row) (is_other row.number) (is_opened row.number)
          ∙ ap (λ (here : Bool). not here && has_focus past place row) (turned_test client row.number))
          rows
          ∙ find_beside (is_client client) (has_focus past place) rows)
          (places past)));
    }

  -- where no focus changes the order stays
  same_order : ((n : ℕ) → focuses n latest ≡ false) → ((n : ℕ) → opens n latest ≡ false) → (rows : List ClientRow) → focused past rows ≡ focused (latest ∷ past) rows
  same_order is_other is_still rows =
      both None (find (has_focus (latest ∷ past) (length past)) rows) _ _
      (sym
      (none_found (has_focus (latest ∷ past) (length past))
      (λ row.
      ap (λ (o : Option ℕ). is_number o (length past)) (stays_as (focuses row.number latest) (opens row.number latest) (length past) (was row) (is_other row.number) (is_still row.number))
      ∙ end_free row)
      rows))
      (sym
      (mapped_same (λ place. find (has_focus (latest ∷ past) place) rows) (λ place. find (has_focus past place) rows)
      (λ place.
      find_same (has_focus (latest ∷ past) place) (has_focus past place)
      (λ row.
      ap (λ (o : Option ℕ). is_number o place) (stays_as (focuses row.number latest) (opens row.number latest) (length past) (was row) (is_other row.number) (is_still row.number)))
      rows)
      (places past)))

  -- who wasn't closed now wasn't closed before
  less_closed : ((n : ℕ) → focuses n latest ≡ false) → ((n : ℕ) → opens n latest ≡ false) → (n : ℕ) → is_closed (latest ∷ past) n ≡ false → is_closed past n ≡ false
  less_closed is_other is_still n is =
      let either : (closes n latest || is_closed past n) ≡ false = sym (closed_now (focuses n latest) (opens n latest) (closes n latest) (is_closed past n) (is_other n) (is_still n)) ∙ is in
      right_false (closes n latest) (is_closed past n) either

  -- one that is closed leaves the list
  closed_gone : (client : ℕ) → ((n : ℕ) → focuses n latest ≡ false) → ((n : ℕ) → opens n latest ≡ false) → ((n : ℕ) → closes n latest ≡ (client == n)) → IsRecent (latest ∷ past) (without (is_same client) recent)
  closed_gone client is_other is_still is_closing = record {
    members = λ n.
        any_without client n recent
        ∙ member_closed (focuses n latest) (opens n latest) (closes n latest) (client == n) (list_any (is_same n) recent) (is_closed past n) (length past) (focus_of past n) (is_other n) (is_still n) (is_closing n) (so_far.members n);
    order = λ rows all.
        let gone : is_closed (latest ∷ past) client ≡ true =
        closed_now (focuses client latest) (opens client latest) (closes client latest) (is_closed past client) (is_other client) (is_still client)
        ∙ ap (λ (b : Bool). b || is_closed past client) (is_closing client ∙ itself client) in
        shown_without client recent rows
        ∙ ap (shown recent) (none_closed client (is_closed (latest ∷ past)) gone rows all)
        ∙ so_far.order rows (open_before (is_closed (latest ∷ past)) (is_closed past) (less_closed is_other is_still) rows all)
        ∙ same_order is_other is_still rows;
  }

  -- else all stays
  recent_stays : ((n : ℕ) → focuses n latest ≡ false) → ((n : ℕ) → opens n latest ≡ false) → ((n : ℕ) → closes n latest ≡ false) → IsRecent (latest ∷ past) recent
  recent_stays is_other is_still is_kept = record {
    members = λ n.
        member_stays (focuses n latest) (opens n latest) (closes n latest) (list_any (is_same n) recent) (is_closed past n) (length past) (focus_of past n) (is_other n) (is_still n) (is_kept n) (so_far.members n);
    order = λ rows all.
        so_far.order rows (open_before (is_closed (latest ∷ past)) (is_closed past) (less_closed is_other is_still) rows all)
        ∙ same_order is_other is_still rows;
  }

-- ---- each beat

not_both : (happened : Event) (reply : Answer) (client : ℕ) → opened happened reply ≡ Some client → closed happened reply ≡ None
not_both (event.Open who number url partition) reply client is = refl
not_both happened reply client is = absurd cc

-- an event that happens
pub happened_recent : (past : List Beat) (recent : List ℕ) → IsRecent past recent → (entry : Entry) → IsRecent (beat.Happened entry ∷ past) (dropped (turned entry.event entry.answer) recent)
happened_recent past recent so_far entry = by (opened entry.event entry.answer) (closed entry.event entry.answer) refl refl
  where
    by : (o c : Option ℕ) → opened entry.event entry.answer ≡ o → closed entry.event entry.answer ≡ c → IsRecent (beat.Happened entry ∷ past) (dropped (option_or o c) recent)
    by None None is other =
        recent_stays past recent so_far (beat.Happened entry) (λ n. refl) (λ n. ap (λ (o : Option ℕ). is_number o n) is) (λ n. ap (λ (o : Option ℕ). is_number o n) other)
    by None (Some client) is other =
        closed_gone past recent so_far (beat.Happened entry) client (λ n. refl) (λ n. ap (λ (o : Option ℕ). is_number o n) is) (λ n. ap (λ (o : Option ℕ). is_number o n) other)
    by (Some client) c is other =
        opened_gone past recent so_far (beat.Happened entry) client (λ n. refl) (λ n. ap (λ (o : Option ℕ). is_number o n) is)
        (λ n. ap (λ (o : Option ℕ). is_number o n) (not_both entry.event entry.answer client is))

-- what is asked
pub asked_recent : (past : List Beat) (recent : List ℕ) → IsRecent past recent → (asked : RosterLine) (reply : RosterAnswer) → IsRecent (beat.Asked asked reply ∷ past) (after_asked asked reply recent)
asked_recent past recent so_far (line.Focus client) told.Ok = focused_first past recent so_far (beat.Asked (line.Focus client) told.Ok) client (λ n. refl) (λ n. refl) (λ n. refl)
asked_recent past recent so_far (line.Focus client) reply = recent_stays past recent so_far (beat.Asked (line.Focus client) reply) (λ n. refl) (λ n. refl) (λ n. refl)
asked_recent past recent so_far (line.Action action) reply = recent_stays past recent so_far (beat.Asked (line.Action action) reply) (λ n. refl) (λ n. refl) (λ n. refl)
asked_recent past recent so_far (line.Get client worker) reply = recent_stays past recent so_far (beat.Asked (line.Get client worker) reply) (λ n. refl) (λ n. refl) (λ n. refl)
asked_recent past recent so_far (line.List worker uncontrolled) reply = recent_stays past recent so_far (beat.Asked (line.List worker uncontrolled) reply) (λ n. refl) (λ n. refl) (λ n. refl)

-- nothing has come
pub none_recent : IsRecent [] []
none_recent = record { members = λ client. refl; order = λ rows all. refl }

pub recent_by_focus : (past : List Beat) → IsRecent past (recent_of past)
recent_by_focus [] = none_recent
recent_by_focus (beat.Happened entry ∷ past) = happened_recent past (recent_of past) (recent_by_focus past) entry
recent_by_focus (beat.Asked asked reply ∷ past) = asked_recent past (recent_of past) (recent_by_focus past) asked reply

-- ---- lists of clients

left_true : {a b : Bool} → a ≡ false → (a || b) ≡ true → b ≡ true
left_true {a = a} {b = b} fails is = grind (arith, fails, is)

asked_so : (f gone : Bool) → (if f || false then false else false || gone) ≡ true → gone ≡ true
asked_so f gone is = grind (arith, is)

not_behind : (n : ℕ) (row : ClientRow) (rows : List ClientRow) → find (is_client n) (row ∷ rows) ≡ None → find (is_client n) rows ≡ None
not_behind n row rows out = grind (arith, out)

first_there : (row : ClientRow) (rows : List ClientRow) → find (is_client row.number) (row ∷ rows) ≡ None → ⊥
first_there row rows out = let here : (row.number == row.number) ≡ true = itself row.number in absurd (grind (arith, here, out))

-- a client that was closed isn't open
closed_out : (state new : State) (happened : Event) (reply : Answer) (notices : List Notice) (client : ℕ) → Step state happened reply notices new → is_number (closed happened reply) client ≡ true → find (is_client client) new.clients ≡ None
closed_out state new (event.Close maker number) reply notices client stepped is =
    let answered_ok : has_closed reply ≡ true = either_ok (has_closed reply) number client is in
    let same : number ≡ client = either_same (has_closed reply) number client is in
    subst (λ (n : ℕ). find (is_client n) new.clients ≡ None) same (close_closes state new maker number reply notices stepped answered_ok)
closed_out state new happened reply notices client stepped is = absurd cc

-- who was closed, where clients were opened or closed
still_closed : (f o c gone : Bool) → (if f || o then false else c || gone) ≡ true → f ≡ false → (o ≡ false) × ((c || gone) ≡ true)
still_closed f o c gone is other = (grind (arith, is, other), grind (arith, is, other))

-- after an event those that were closed aren't open
pub happened_closed : (past : List Beat) (state new : State) → AreClosed past state → (entry : Entry) (notices : List Notice) → Step state entry.event entry.answer notices new → AreClosed (beat.Happened entry ∷ past) new
happened_closed past state new are entry notices stepped client is =
    let parts = still_closed false (is_number (opened entry.event entry.answer) client) (is_number (closed entry.event entry.answer) client) (is_closed past client) is refl in
    by_bool (is_number (closed entry.event entry.answer) client)
    (λ now. closed_out state new entry.event entry.answer notices client stepped now)
    (λ other. only_opens state new entry.event entry.answer notices client stepped parts.0 (are client (left_true other parts.1)))

-- what is asked closes nobody
pub asked_closed : (past : List Beat) (state : State) → AreClosed past state → (asked : RosterLine) (reply : RosterAnswer) → AreClosed (beat.Asked asked reply ∷ past) state
asked_closed past state are asked reply client is =
    are client (asked_so (focuses client (beat.Asked asked reply)) (is_closed past client) is)

-- ---- lists of clients

unsome : (any gone : Bool) (o : Option ℕ) → gone ≡ false → any ≡ (is_some o && not gone) → not any ≡ is_none o
unsome any gone None open_now is = grind (arith, open_now, is)
unsome any gone (Some k) open_now is = grind (arith, open_now, is)

kept_among : {X : Type 0} (known p q : X → Bool) → ((x : X) → known x ≡ true → p x ≡ q x) → (xs : List X) → list_all known xs ≡ true → filter p xs ≡ filter q xs
kept_among known p q same [] all = refl
kept_among known p q same (x ∷ xs) all =
    let parts = and_parts (known x) (list_all known xs) all in
    grind (arith, same x parts.0, kept_among known p q same xs parts.1)

-- of clients that weren't closed, the list by what was focused last is the one by falling focus
listed_so : (past : List Beat) (recent : List ℕ) → IsRecent past recent → (rows : List ClientRow) → list_all (λ row. not (is_closed past row.number)) rows ≡ true
    → by_focus recent rows ≡ numbers_of (focused past rows) ++ numbers_of (unfocused past rows)
listed_so past recent so_far rows all =
    ap (λ (some : List ClientRow). numbers_of some ++ numbers_of (filter (λ row. not (list_any (is_same row.number) recent)) rows)) (so_far.order rows all)
    ∙ ap (λ (some : List ClientRow). numbers_of (focused past rows) ++ numbers_of some)
    (kept_among (λ row. not (is_closed past row.number)) (λ row. not (list_any (is_same row.number) recent)) (λ row. is_none (focus_of past row.number))
    (λ row open_now. unsome (list_any (is_same row.number) recent) (is_closed past row.number) (focus_of past row.number) (grind (arith, open_now)) (so_far.members row.number))
    rows all)

-- the clients that are open weren't closed
all_open : (gone : ℕ → Bool) (rows : List ClientRow) → ((n : ℕ) → gone n ≡ true → find (is_client n) rows ≡ None) → list_all (λ row. not (gone row.number)) rows ≡ true
all_open gone [] out = refl
all_open gone (row ∷ rows) out =
    let rest = all_open gone rows (λ n is. not_behind n row rows (out n is)) in
    by_bool (gone row.number)
    (λ is. absurd (first_there row rows (out row.number is)))
    (λ open_now. grind (arith, open_now, rest))

all_kept : {X : Type 0} (p q : X → Bool) (xs : List X) → list_all p xs ≡ true → list_all p (filter q xs) ≡ true
all_kept p q [] all = refl
all_kept p q (x ∷ xs) all =
    let parts = and_parts (p x) (list_all p xs) all in
    grind (arith, parts.0, all_kept p q xs parts.1)

-- so the list of a worker is the one by falling focus
members_listed : (past : List Beat) (state : State) (recent : List ℕ) → IsRecent past recent → AreClosed past state → (worker : ℕ) (uncontrolled : Bool)
    → by_focus recent (members state worker uncontrolled) ≡ listed state past worker uncontrolled
members_listed past state recent so_far are worker uncontrolled =
    listed_so past recent so_far (members state worker uncontrolled)
    (all_kept (λ row. not (is_closed past row.number)) (is_listed state worker uncontrolled) state.clients (all_open (is_closed past) state.clients are))

asking : (b : Bool) → (b ≡ false → ⊥) → b ≡ true
asking true fails = refl
asking false fails = absurd (fails refl)

-- and so is the answer to a worker that asks for its clients
pub listed_answer : (past : List Beat) (state : State) (recent : List ℕ) → IsRecent past recent → AreClosed past state → (worker : ℕ) (uncontrolled : Bool) (all : List ℕ)
    → (may_ask state worker ≡ false → ⊥) → all ≡ by_focus recent (members state worker uncontrolled) → answered state past (line.List worker uncontrolled) ≡ Some (told.Clients all)
listed_answer past state recent so_far are worker uncontrolled all may is =
    ap (λ (b : Bool). Some (if b then told.Clients (listed state past worker uncontrolled) else told.NoWorker)) (asking (may_ask state worker) may)
    ∙ ap (λ (some : List ℕ). Some (told.Clients some)) (sym (is ∙ members_listed past state recent so_far are worker uncontrolled))
