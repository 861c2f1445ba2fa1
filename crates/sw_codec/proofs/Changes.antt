-- Changes: reading them is inverse to spelling them.
use Rattle.std.proofs.Common.{◌≡◌, ℕ, ◌<◌, Bool, true, false, eqb, cond, List, [], ◌∷◌, ◌++◌, length, Some, None, refl, sym, ap, subst, ◌∙◌, arith}
use Rattle.std.specs.Prelude.{◌&&◌, not}
use Rattle.std.proofs.Math.Bool.{and-true}
use Rattle.std.proofs.lemmas.Bool.{not-true, and_parts, and_from}
use Rattle.sw_data.specs.declared.exchange.Op.{Op}
use Rattle.sw_data.specs.declared.storage.Change.{Change}
use Rattle.sw_data.specs.declared.storage.Change.TheVariants as change
use Rattle.sw_data.specs.declared.workers.Kind.{Kind}
use Rattle.sw_data.specs.declared.workers.Mode.{Mode}
use Rattle.sw_codec.specs.Laws.{AreBytes}
use Rattle.sw_codec.specs.Reading.{some_ops, ops_at, names_at, waiting_at, active_at, activated_at, update_mode_at, gone_at, cache_new_at, cache_drop_at, cache_ops_at, forgot_at, restarted_at, preload_at, mode_at, kind_at, flag_at, bytes_at, text_at, pair_at, made_at, change_forms, change_at}
use Rattle.sw_codec.specs.Spelling.{is_text, is_body, bytes_spelling, mode_byte, kind_byte, bit, counted_spelling, are_counted, op_spelling, is_op, change_spelling, has_spelling}
use Rattle.sw_codec.proofs.Exchange.{counted-spells, op-spells}
use Rattle.sw_codec.proofs.Fields.{bytes-spells, text-spells, mode-spells, kind-spells, flag-spells}
use Rattle.sw_codec.proofs.Readers.{some_is, Takes, Spells, pair-spells, made-again, Means, meant-spells, Behind, behind_made, tagged-takes}

abbrev has_ops : List Op → Bool
has_ops ops = not (eqb (length ops) 0) && are_counted is_op ops

kept_ops : (test : Bool) (a b : List Op) → cond test None (Some a) ≡ Some b → (not test ≡ true) × (a ≡ b)
kept_ops true a b e = absurd cc
kept_ops false a b e = (refl, cc)

ops-mean : Means some_ops (λ (ops : List Op). ops) (are_counted is_op) has_ops
ops-mean = record {
  sound = λ a b h e.
      let kept = kept_ops (eqb (length a) 0) a b e in
      subst (λ (ops : List Op). (a ≡ ops) × (has_ops ops ≡ true)) kept.1 (refl, and_from (not (eqb (length a) 0)) (are_counted is_op a) kept.0 h);
  again = λ b h.
      let parts = and_parts (not (eqb (length b) 0)) (are_counted is_op b) h in
      (ap (λ (test : Bool). cond test None (Some b)) (not-true (eqb (length b) 0) parts.0), parts.1);
}

ops-spells : Spells ops_at (counted_spelling op_spelling) has_ops
ops-spells = meant-spells (counted-spells op-spells) ops-mean

names-spells : Spells names_at (λ names. bytes_spelling names.0 ++ bytes_spelling names.1) (λ names. is_text names.0 && is_text names.1)
names-spells = pair-spells text-spells text-spells

-- a test among others that always holds
three : (a b : Bool) → (a && true && b) ≡ (a && b)
three a b = ap (λ (test : Bool). test && b) (and-true a)

five : (a b c : Bool) → ((((a && true) && b) && true) && c) ≡ ((a && b) && c)
five a b c = ap (λ (test : Bool). test && c) (and-true ((a && true) && b) ∙ three a b)

-- ---- the fields behind each tag

waiting-spells : Spells (pair_at (pair_at (pair_at (pair_at names_at mode_at) text_at) kind_at) bytes_at)
    (λ p. bytes_spelling p.0.0.0.0.0 ++ bytes_spelling p.0.0.0.0.1 ++ mode_byte p.0.0.0.1 ∷ [] ++ bytes_spelling p.0.0.1 ++ kind_byte p.0.1 ∷ [] ++ bytes_spelling p.1)
    (λ p. ((((is_text p.0.0.0.0.0 && is_text p.0.0.0.0.1) && true) && is_text p.0.0.1) && true) && is_body p.1)
waiting-spells = pair-spells (pair-spells (pair-spells (pair-spells names-spells mode-spells) text-spells) kind-spells) bytes-spells

mode-fields-spells : Spells (pair_at names_at mode_at) (λ p. bytes_spelling p.0.0 ++ bytes_spelling p.0.1 ++ mode_byte p.1 ∷ []) (λ p. is_text p.0.0 && is_text p.0.1 && true)
mode-fields-spells = pair-spells names-spells mode-spells

ops-fields-spells : Spells (pair_at names_at ops_at) (λ p. bytes_spelling p.0.0 ++ bytes_spelling p.0.1 ++ counted_spelling op_spelling p.1) (λ p. is_text p.0.0 && is_text p.0.1 && has_ops p.1)
ops-fields-spells = pair-spells names-spells ops-spells

preload-spells : Spells (pair_at (pair_at names_at flag_at) text_at)
    (λ p. bytes_spelling p.0.0.0 ++ bytes_spelling p.0.0.1 ++ bit 1 p.0.1 ∷ [] ++ bytes_spelling p.1) (λ p. is_text p.0.0.0 && is_text p.0.0.1 && true && is_text p.1)
preload-spells = pair-spells (pair-spells names-spells flag-spells) text-spells

abbrev Waited : Type 0
Waited = ((((List ℕ × List ℕ) × Mode) × List ℕ) × Kind) × List ℕ

abbrev to_waiting : Waited → Change
to_waiting p = change.Waiting p.0.0.0.0.0 p.0.0.0.0.1 p.0.0.0.1 (record { script = p.0.0.1; kind = p.0.1; body = p.1 })

waiting-has : (p : Waited) → (is_text p.0.0.0.0.0 && is_text p.0.0.0.0.1 && is_text p.0.0.1 && is_body p.1) ≡ ((((is_text p.0.0.0.0.0 && is_text p.0.0.0.0.1) && true) && is_text p.0.0.1) && true && is_body p.1)
waiting-has p = sym (five (is_text p.0.0.0.0.0 && is_text p.0.0.0.0.1) (is_text p.0.0.1) (is_body p.1))

waiting-behind : Behind change_spelling has_spelling (1, waiting_at)
unfolding waiting_at change_spelling has_spelling
waiting-behind = behind_made 1 to_waiting change_spelling has_spelling waiting-spells (λ p. refl) waiting-has

active-behind : Behind change_spelling has_spelling (2, active_at)
unfolding active_at change_spelling has_spelling
active-behind = behind_made 2 (λ (p : List ℕ × List ℕ). change.Active p.0 p.1) change_spelling has_spelling names-spells (λ p. refl) (λ p. refl)

activated-behind : Behind change_spelling has_spelling (3, activated_at)
unfolding activated_at change_spelling has_spelling
activated-behind = behind_made 3 (λ (p : List ℕ × List ℕ). change.Activated p.0 p.1) change_spelling has_spelling names-spells (λ p. refl) (λ p. refl)

mode-behind : Behind change_spelling has_spelling (4, update_mode_at)
unfolding update_mode_at change_spelling has_spelling
mode-behind =
    behind_made 4 (λ (p : (List ℕ × List ℕ) × Mode). change.Mode p.0.0 p.0.1 p.1) change_spelling has_spelling mode-fields-spells (λ p. refl)
    (λ p. sym (and-true (is_text p.0.0 && is_text p.0.1)))

gone-behind : Behind change_spelling has_spelling (5, gone_at)
unfolding gone_at change_spelling has_spelling
gone-behind = behind_made 5 (λ (p : List ℕ × List ℕ). change.Gone p.0 p.1) change_spelling has_spelling names-spells (λ p. refl) (λ p. refl)

cache_new-behind : Behind change_spelling has_spelling (6, cache_new_at)
unfolding cache_new_at change_spelling has_spelling
cache_new-behind = behind_made 6 (λ (p : List ℕ × List ℕ). change.CacheNew p.0 p.1) change_spelling has_spelling names-spells (λ p. refl) (λ p. refl)

cache_drop-behind : Behind change_spelling has_spelling (7, cache_drop_at)
unfolding cache_drop_at change_spelling has_spelling
cache_drop-behind = behind_made 7 (λ (p : List ℕ × List ℕ). change.CacheDrop p.0 p.1) change_spelling has_spelling names-spells (λ p. refl) (λ p. refl)

cache_ops-behind : Behind change_spelling has_spelling (8, cache_ops_at)
unfolding cache_ops_at change_spelling has_spelling
cache_ops-behind =
    behind_made 8 (λ (p : (List ℕ × List ℕ) × List Op). change.CacheOps p.0.0 p.0.1 p.1) change_spelling has_spelling ops-fields-spells (λ p. refl) (λ p. refl)

forgot-behind : Behind change_spelling has_spelling (9, forgot_at)
unfolding forgot_at change_spelling has_spelling
forgot-behind = behind_made 9 change.Forgot change_spelling has_spelling text-spells (λ p. refl) (λ p. refl)

restarted-behind : Behind change_spelling has_spelling (10, restarted_at)
unfolding change_spelling has_spelling
restarted-behind = record {
  takes = λ bytes x rest fits e.
      subst (λ (y : Change × List ℕ). Takes (10 ∷ bytes) (change_spelling y.0) y.1 × (has_spelling y.0 ≡ true)) (some_is (change.Restarted, bytes) (x, rest) e)
      (record { parts = refl; rest_fits = fits }, refl);
}

preload-behind : Behind change_spelling has_spelling (11, preload_at)
unfolding preload_at change_spelling has_spelling
preload-behind =
    behind_made 11 (λ (p : ((List ℕ × List ℕ) × Bool) × List ℕ). change.Preload p.0.0.0 p.0.0.1 p.0.1 p.1) change_spelling has_spelling preload-spells (λ p. refl)
    (λ p. sym (three (is_text p.0.0.0 && is_text p.0.0.1) (is_text p.1)))

pub change-takes : (bytes : List ℕ) (x : Change) (rest : List ℕ) → AreBytes bytes → change_at bytes ≡ Some (x, rest) → Takes bytes (change_spelling x) rest × (has_spelling x ≡ true)
unfolding change_at
change-takes bytes x rest fits e =
    tagged-takes change_spelling has_spelling change_forms bytes x rest
    (waiting-behind, (active-behind, (activated-behind, (mode-behind, (gone-behind, (cache_new-behind, (cache_drop-behind, (cache_ops-behind, (forgot-behind, (restarted-behind, (preload-behind, tt))))))))))) fits e

names-again : (make : List ℕ × List ℕ → Change) (key name rest : List ℕ) → (is_text key && is_text name) ≡ true → made_at make names_at ((bytes_spelling key ++ bytes_spelling name) ++ rest) ≡ Some (make (key, name), rest)
names-again make key name rest h =
    made-again make names_at ((bytes_spelling key ++ bytes_spelling name) ++ rest) (key, name) rest (names-spells.again (key, name) rest h)

pub change-again : (x : Change) (rest : List ℕ) → has_spelling x ≡ true → change_at (change_spelling x ++ rest) ≡ Some (x, rest)
unfolding change_at change_spelling has_spelling waiting_at active_at activated_at update_mode_at gone_at cache_new_at cache_drop_at cache_ops_at forgot_at preload_at
change-again (change.Waiting key scope mode worker) rest h =
    let p : Waited = (((((key, scope), mode), worker.script), worker.kind), worker.body) in
    made-again to_waiting (pair_at (pair_at (pair_at (pair_at names_at mode_at) text_at) kind_at) bytes_at)
    ((bytes_spelling key ++ bytes_spelling scope ++ mode_byte mode ∷ [] ++ bytes_spelling worker.script ++ kind_byte worker.kind ∷ [] ++ bytes_spelling worker.body) ++ rest) p rest
    (waiting-spells.again p rest (sym (waiting-has p) ∙ h))
change-again (change.Active key scope) rest h = names-again (λ p. change.Active p.0 p.1) key scope rest h
change-again (change.Activated key scope) rest h = names-again (λ p. change.Activated p.0 p.1) key scope rest h
change-again (change.Mode key scope mode) rest h =
    made-again (λ (p : (List ℕ × List ℕ) × Mode). change.Mode p.0.0 p.0.1 p.1) (pair_at names_at mode_at)
    ((bytes_spelling key ++ bytes_spelling scope ++ mode_byte mode ∷ []) ++ rest) ((key, scope), mode) rest
    (mode-fields-spells.again ((key, scope), mode) rest (and-true (is_text key && is_text scope) ∙ h))
change-again (change.Gone key scope) rest h = names-again (λ p. change.Gone p.0 p.1) key scope rest h
change-again (change.CacheNew key name) rest h = names-again (λ p. change.CacheNew p.0 p.1) key name rest h
change-again (change.CacheDrop key name) rest h = names-again (λ p. change.CacheDrop p.0 p.1) key name rest h
change-again (change.CacheOps key name ops) rest h =
    made-again (λ (p : (List ℕ × List ℕ) × List Op). change.CacheOps p.0.0 p.0.1 p.1) (pair_at names_at ops_at)
    ((bytes_spelling key ++ bytes_spelling name ++ counted_spelling op_spelling ops) ++ rest) ((key, name), ops) rest
    (ops-fields-spells.again ((key, name), ops) rest h)
change-again (change.Forgot key) rest h = made-again change.Forgot text_at (bytes_spelling key ++ rest) key rest (text-spells.again key rest h)
change-again change.Restarted rest h = refl
change-again (change.Preload key scope on text) rest h =
    made-again (λ (p : ((List ℕ × List ℕ) × Bool) × List ℕ). change.Preload p.0.0.0 p.0.0.1 p.0.1 p.1) (pair_at (pair_at names_at flag_at) text_at)
    ((bytes_spelling key ++ bytes_spelling scope ++ bit 1 on ∷ [] ++ bytes_spelling text) ++ rest) (((key, scope), on), text) rest
    (preload-spells.again (((key, scope), on), text) rest (three (is_text key && is_text scope) (is_text text) ∙ h))

pub change-long : (x : Change) → 0 < length (change_spelling x)
unfolding change_spelling
change-long (change.Waiting key scope mode worker) = omega arith
change-long (change.Active key scope) = omega arith
change-long (change.Activated key scope) = omega arith
change-long (change.Mode key scope mode) = omega arith
change-long (change.Gone key scope) = omega arith
change-long (change.CacheNew key name) = omega arith
change-long (change.CacheDrop key name) = omega arith
change-long (change.CacheOps key name ops) = omega arith
change-long (change.Forgot key) = omega arith
change-long change.Restarted = omega arith
change-long (change.Preload key scope on text) = omega arith
