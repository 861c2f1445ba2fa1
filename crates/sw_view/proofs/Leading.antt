-- The moves that are made of notices lead from the map after a front of a history to the map after all of it.
use Rattle.std.proofs.Common.{◌≡◌, ◌∙◌, ◌⊎◌, inl, inr, ⊎_elim, ℕ, zero, suc, true, false, Bool, not, if◌then◌else◌, ◌&&◌, ◌==◌, ◌<◌, List, [], ◌∷◌, ◌++◌, map, take, drop, Option, Some, None, option_map, refl, sym, ap, subst, arith}
use Rattle.std.specs.Prelude.{bytes_eq, find, option_and_then}
use Rattle.std.specs.List.{list_all, list_any}
use Rattle.std.proofs.lemmas.Bool.Decides.{nat_tests}
use Rattle.std.specs.Option.{option_map_or}
use Rattle.std.proofs.lemmas.List.{take-append-drop}
use Rattle.std.proofs.lemmas.List.Sums.{fold-append}
use Rattle.sw_client.specs.Table as clients
use Rattle.sw_data.specs.declared.answers.Notice.{Notice}
use Rattle.sw_data.specs.declared.answers.Notice.TheVariants as notice
use Rattle.sw_data.specs.declared.histories.Entry.{Entry}
use Rattle.sw_data.specs.declared.rows.RegistrationRow.{RegistrationRow}
use Rattle.sw_data.specs.declared.storage.Kept.{Kept}
use Rattle.sw_laws.specs.Coherent.{Coherent, apart}
use Rattle.sw_laws.specs.Laws.{mapped_number, tells_move}
use Rattle.sw_laws.proofs.LawProofs.{is_always_coherent}
use Rattle.sw_laws.proofs.Lists.{any_weaker, by_truth, bytes_eq_equal, find_any}
use Rattle.sw_laws.proofs.Places.{places_apart}
use Rattle.sw_reg.specs.Table as registrations
use Rattle.sw_reg.specs.Table.{is_registration, registration_at}
use Rattle.sw_rules.specs.History.{EachFrom, IsStep, Legal, after, after_entries, moved}
use Rattle.sw_rules.specs.Restart.{restart}
use Rattle.sw_rules.specs.Rows as rules
use Rattle.sw_rules.specs.State.{State}
use Rattle.sw_scope.specs.Scopes.{Scopes, maps}
use Rattle.sw_tables.specs.Lent.{Rest, lent, shown_registration}
use Rattle.sw_tables.proofs.Lookups.{is_of}
use Rattle.sw_tables.proofs.Rows.{find_map}
use Rattle.sw_view.specs.Found.{Found}
use Rattle.sw_view.specs.Mapped.{mapped_after}
use Rattle.sw_view.specs.Moves.{AreMoves}
use Rattle.sw_worker.specs.Table as workers
use Rattle.sw_view.specs.Moving.{mapped_in, moves_told, row_move}
use Rattle.sw_view.proofs.Agreeing.{all_lead, names_it, told_lead}
use Rattle.sw_view.proofs.Telling.{told_along}

coherent_along : (entries : List Entry) (state : State) → Coherent state → Coherent (after_entries state entries)
coherent_along [] state sound = sound
coherent_along (entry ∷ entries) state sound = coherent_along entries (moved state entry) (is_always_coherent.steps state entry.event sound)

-- the steps behind a front
steps_behind : (front rest before : List Entry) (state : State) → EachFrom IsStep before state (front ++ rest) → (earlier : List Entry) × EachFrom IsStep earlier (after_entries state front) rest
steps_behind [] rest before state steps = (before, steps)
steps_behind (entry ∷ front) rest before state steps = steps_behind front rest (before ++ entry ∷ []) (moved state entry) steps.1

-- of rows whose numbers are apart, none behind one of them has its number
none_later : (key scope : List ℕ) (n : ℕ) (row : RegistrationRow) (rows : List RegistrationRow) → row.number ≡ n → list_all (λ later. not (row.number == later.number)) rows ≡ true
    → (test : RegistrationRow → Bool) → ((x : RegistrationRow) → test x ≡ (is_of key scope x && (n == x.number))) → find test rows ≡ None
none_later key scope n row [] is apart test tests = refl
none_later key scope n row (later ∷ rows) is apart test tests =
    let other : (n == later.number) ≡ false = grind (arith, nat_tests, apart, is) in
    grind (arith, tests later, other, none_later key scope n row rows is (grind (arith, apart)) test tests)

module _ (scopes : Scopes) (rest : Rest) (key scope : List ℕ) where
  -- a row of the table is one that the state maps them to
  abbrev passes : RegistrationRow → Bool
  passes row = rules.is_mapped_to key scope (shown_registration scopes rest row)

  passes_is : (is : Option ℕ) → maps scopes key scope ≡ is → (row : RegistrationRow) → passes row ≡ (is_of key scope row && rules.is_number is row.number)
  passes_is is same row =
      by_truth (is_of key scope row)
      (λ own.
      let one : row.key ≡ key = bytes_eq_equal row.key key (grind (arith, own)) in
      let other : row.scope ≡ scope = bytes_eq_equal row.scope scope (grind (arith, own)) in
      let there : maps scopes row.key row.scope ≡ is = (λ i. maps scopes (one i) (other i)) ∙ same in
      grind (arith, own, there))
      (λ other. grind (arith, other))

  number_found : (n : ℕ) → maps scopes key scope ≡ Some n → (rows : List RegistrationRow) → apart (λ x y. x.number == y.number) rows ≡ true
      → option_map (λ row. row.number) (find passes rows)
      ≡ option_and_then (λ row. if is_of key scope row then Some n else None) (registration_at n rows)
  number_found n is [] far = refl
  number_found n is (row ∷ rows) far =
      by_truth (row.number == n)
      (λ own. let same : row.number ≡ n = grind (arith, nat_tests, own) in
      by_truth (is_of key scope row)
      (λ it. grind (arith, nat_tests, own, it, same, passes_is (Some n) is row))
      (λ not_it. grind (arith, own, not_it, passes_is (Some n) is row, none_later key scope n row rows same (grind (arith, far)) passes (passes_is (Some n) is))))
      (λ other. grind (arith, nat_tests, other, passes_is (Some n) is row, number_found n is rows (grind (arith, far))))

  none_passes : maps scopes key scope ≡ None → (rows : List RegistrationRow) → find passes rows ≡ None
  none_passes is [] = refl
  none_passes is (row ∷ rows) = grind (arith, passes_is None is row, none_passes is rows)

  found_in : (is : Option ℕ) → maps scopes key scope ≡ is → (rows : List RegistrationRow) → apart (λ x y. x.number == y.number) rows ≡ true
      → option_map (λ row. row.number) (find passes rows)
      ≡ option_and_then (λ number. option_and_then (λ row. if is_of key scope row then Some number else None) (registration_at number rows)) is
  found_in None is rows far = ap (option_map (λ row. row.number)) (none_passes is rows)
  found_in (Some n) is rows far = number_found n is rows far

module _ (base : Kept) (scopes : Scopes) (of_workers : workers.Table) (of : registrations.Table) (of_clients : clients.Table) (rest : Rest) where
  abbrev now : State
  now = lent scopes of_workers of of_clients rest

  abbrev found : Found
  found = mapped_in scopes of.rows

  -- where a row of the state that is found by a number has them, so has the table's
  row_shown : (key scope : List ℕ) (number : ℕ) (rows : List RegistrationRow)
      → option_map_or (λ row. bytes_eq row.key key && bytes_eq row.scope scope) (find (rules.is_registration number) (map (shown_registration scopes rest) rows)) false ≡ true
      → option_map_or (is_of key scope) (registration_at number rows) false ≡ true
  row_shown key scope number [] is = is
  row_shown key scope number (row ∷ rows) is =
      by_truth (row.number == number) (λ here. grind (arith, here, is)) (λ other. grind (arith, other, is, row_shown key scope number rows))

  -- what a notice tells of them in the state is told of a row that has them
  row_told : (key scope : List ℕ) (told : Notice) → tells_move now key scope told ≡ true → names_it of.rows key scope told ≡ true
  row_told key scope (notice.Mapped number) is = row_shown key scope number of.rows is
  row_told key scope (notice.Unmapped number) is = row_shown key scope number of.rows is
  row_told key scope _ is = absurd cc

  shown_number : (row : Option RegistrationRow) → option_map (λ row. row.number) (option_map (shown_registration scopes rest) row) ≡ option_map (λ row. row.number) row
  shown_number None = refl
  shown_number (Some row) = refl

  rows_apart : Coherent now → apart (λ x y. x.number == y.number) of.rows ≡ true
  rows_apart sound = apart_of of.rows (places_apart (λ row. row.number) now.registrations sound.registrations.numbers)
    where
      clear_of : (row : RegistrationRow) (rows : List RegistrationRow) → list_all (λ later. not (row.number == later.number)) (map (shown_registration scopes rest) rows) ≡ true → list_all (λ later. not (row.number == later.number)) rows ≡ true
      clear_of row [] is = is
      clear_of row (later ∷ rows) is = grind (arith, is, clear_of row rows)

      apart_of : (rows : List RegistrationRow) → apart (λ x y. x.number == y.number) (map (shown_registration scopes rest) rows) ≡ true → apart (λ x y. x.number == y.number) rows ≡ true
      apart_of [] is = is
      apart_of (row ∷ rows) is = grind (arith, is, clear_of row rows, apart_of rows)

  -- what they map to in the state is what is found in the tables
  mapped_now : Coherent now → (key scope : List ℕ) → mapped_number now key scope ≡ found key scope
  mapped_now sound key scope =
      ap (option_map (λ row. row.number)) (find_map (rules.is_mapped_to key scope) (shown_registration scopes rest) of.rows)
      ∙ (shown_number (find (passes scopes rest key scope) of.rows)
      ∙ found_in scopes rest key scope (maps scopes key scope) refl of.rows (rows_apart sound))

  -- each of them that is mapped is that of a row
  has_row : (key scope : List ℕ) (number : ℕ) → found key scope ≡ Some number → list_any (is_of key scope) of.rows ≡ true
  has_row key scope number is = by_map (maps scopes key scope) is
    where
      by_row : (n : ℕ) (row : Option RegistrationRow) → registration_at n of.rows ≡ row → option_and_then (λ row. if is_of key scope row then Some n else None) row ≡ Some number → list_any (is_of key scope) of.rows ≡ true
      by_row n None there is = absurd (cc (is))
      by_row n (Some row) there is =
          by_truth (is_of key scope row) (λ own. find_any (is_registration n) (is_of key scope) of.rows row there own) (λ other. absurd (grind (arith, is, other)))

      by_map : (n : Option ℕ) → option_and_then (λ number. option_and_then (λ row. if is_of key scope row then Some number else None) (registration_at number of.rows)) n ≡ Some number → list_any (is_of key scope) of.rows ≡ true
      by_map None is = absurd (cc (is))
      by_map (Some n) is = by_row n (registration_at n of.rows) refl is

  module _ (opening : Entry) (entries : List Entry) (legal : Legal base (opening ∷ entries)) (is : after base (opening ∷ entries) ≡ now) where
    sound : Coherent now
    sound = subst Coherent is (is_always_coherent.histories base (opening ∷ entries) legal)

    -- after all entries
    mapped_last : (key scope : List ℕ) → found key scope ≡ mapped_after base (opening ∷ entries) key scope
    unfolding mapped_after
    mapped_last key scope = sym (mapped_now sound key scope) ∙ ap (λ (state : State). mapped_number state key scope) (sym is)

    from_nothing : AreMoves (mapped_after base []) (map (row_move found) of.rows) (mapped_after base (opening ∷ entries))
    unfolding mapped_after
    from_nothing key scope = all_lead found of.rows has_row key scope ∙ mapped_last key scope

    -- what they map to behind a front is what the map has, or a notice behind it tells of a row that has them
    told_behind : (front more : List Entry) → front ++ more ≡ entries → (key scope : List ℕ)
        → (mapped_after base (opening ∷ front) key scope ≡ found key scope)
        ⊎ (list_any (λ entry. list_any (names_it of.rows key scope) entry.notices) more ≡ true)
    unfolding mapped_after
    told_behind front more whole key scope =
        let steps = steps_behind front more (opening ∷ []) (restart base) (subst (λ (all : List Entry). EachFrom IsStep (opening ∷ []) (restart base) all) (sym whole) legal.steps) in
        let sound_front = coherent_along front (restart base) (is_always_coherent.restarts base legal.made) in
        let last : after_entries (after_entries (restart base) front) more ≡ now = sym (fold-append moved (restart base) front more) ∙ (ap (after_entries (restart base)) whole ∙ is) in
        ⊎_elim
        (λ same. inl (same ∙ (ap (λ (state : State). mapped_number state key scope) last ∙ mapped_now sound key scope)))
        (λ some. inr (any_weaker (λ (entry : Entry). list_any (tells_move (after_entries (after_entries (restart base) front) more) key scope) entry.notices) _
        (λ entry told. any_weaker (tells_move now key scope) (names_it of.rows key scope) (row_told key scope) entry.notices
        (subst (λ (state : State). list_any (tells_move state key scope) entry.notices ≡ true) last told)) more some))
        (told_along key scope more steps.0 (after_entries (restart base) front) sound_front steps.1)

    from_front : (front more : List Entry) → front ++ more ≡ entries
        → AreMoves (mapped_after base (opening ∷ front)) (moves_told found of.rows more) (mapped_after base (opening ∷ entries))
    from_front front more whole key scope =
        told_lead found of.rows (mapped_after base (opening ∷ front)) more (told_behind front more whole) key scope ∙ mapped_last key scope

  -- from nothing, the moves of all rows
  pub leads_from_nothing : (history : List Entry) → Legal base history → after base history ≡ now
      → AreMoves (mapped_after base []) (map (row_move found) of.rows) (mapped_after base history)
  leads_from_nothing [] legal is = absurd legal.steps
  leads_from_nothing (opening ∷ entries) legal is = from_nothing opening entries legal is

  -- from a front, the moves that are told behind it
  pub leads_from_front : (history : List Entry) (from : ℕ) → 0 < from → Legal base history → after base history ≡ now
      → AreMoves (mapped_after base (take from history)) (moves_told found of.rows (drop from history)) (mapped_after base history)
  leads_from_front [] from some legal is = absurd legal.steps
  leads_from_front history zero some legal is = absurd (omega (arith, some))
  leads_from_front (opening ∷ entries) (suc from) some legal is = from_front opening entries legal is (take from entries) (drop from entries) (take-append-drop from entries)
