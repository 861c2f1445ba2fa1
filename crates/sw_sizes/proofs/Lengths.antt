-- The lengths of the spellings of changes.
use Rattle.std.proofs.Common.{◌≡◌, ◌∙◌, ℕ, ◌+◌, List, [], ◌∷◌, ◌++◌, length, length-append, refl, sym, ap, arith}
use Rattle.std.specs.Prelude.{sum_by}
use Rattle.std.specs.List.{flat_map}
use Rattle.std.specs.Int.{w32, to_be_bytes}
use Rattle.std.proofs.lemmas.List.Concat.{flat_map-cons}
use Rattle.std.proofs.lemmas.List.Sums.{sum_by-cons}
use Rattle.sw_data.specs.declared.exchange.Op.{Op}
use Rattle.sw_data.specs.declared.storage.Change.{Change}
use Rattle.sw_data.specs.declared.storage.Change.TheVariants as change
use Rattle.sw_data.specs.Sizes.{op_size, text_size}
use Rattle.sw_codec.proofs.SizeLemmas.{quota_size}
use Rattle.sw_codec.specs.Spelling.{bit, bytes_spelling, change_spelling, counted_spelling, kind_byte, mode_byte, op_spelling}
use Rattle.sw_caches.specs.Changes.{change_size}

bytes_long : (bytes : List ℕ) → length (bytes_spelling bytes) ≡ text_size bytes
unfolding bytes_spelling
bytes_long bytes = omega (arith, length-append (to_be_bytes w32 (length bytes)) bytes)

names_long : (key name : List ℕ) → length (bytes_spelling key ++ bytes_spelling name) ≡ text_size key + text_size name
names_long key name = omega (arith, length-append (bytes_spelling key) (bytes_spelling name), bytes_long key, bytes_long name)

-- items that are spelled one after the other
pub all_long : {X : Type 0} (spelling : X → List ℕ) (size : X → ℕ) → ((x : X) → length (spelling x) ≡ size x) → (xs : List X) → length (flat_map spelling xs) ≡ sum_by size xs
all_long spelling size long [] = refl
all_long spelling size long (x ∷ xs) =
    ap length (flat_map-cons spelling x xs)
    ∙ (length-append (spelling x) (flat_map spelling xs)
    ∙ ((λ i. long x i + all_long spelling size long xs i) ∙ sym (sum_by-cons size x xs)))

ops_long : (ops : List Op) → length (counted_spelling op_spelling ops) ≡ 4 + sum_by op_size ops
ops_long ops = omega (arith, length-append (to_be_bytes w32 (length ops)) (flat_map op_spelling ops), all_long op_spelling op_size quota_size ops)

pub change_long : (change : Change) → length (change_spelling change) ≡ change_size change
unfolding change_spelling change_size
change_long (change.Waiting key scope mode worker) =
    let names = bytes_spelling key ++ bytes_spelling scope in
    let moded = names ++ mode_byte mode ∷ [] in
    let scripted = moded ++ bytes_spelling worker.script in
    let kinded = scripted ++ kind_byte worker.kind ∷ [] in
    omega (arith, names_long key scope, length-append names (mode_byte mode ∷ []), length-append moded (bytes_spelling worker.script), length-append scripted (kind_byte worker.kind ∷ []), length-append kinded (bytes_spelling worker.body), bytes_long worker.script, bytes_long worker.body)
change_long (change.Active key scope) = omega (arith, names_long key scope)
change_long (change.Activated key scope) = omega (arith, names_long key scope)
change_long (change.Mode key scope mode) = omega (arith, names_long key scope, length-append (bytes_spelling key ++ bytes_spelling scope) (mode_byte mode ∷ []))
change_long (change.Gone key scope) = omega (arith, names_long key scope)
change_long (change.CacheNew key name) = omega (arith, names_long key name)
change_long (change.CacheDrop key name) = omega (arith, names_long key name)
change_long (change.CacheOps key name ops) =
    omega (arith, names_long key name, length-append (bytes_spelling key ++ bytes_spelling name) (counted_spelling op_spelling ops), ops_long ops)
change_long (change.Forgot key) = omega (arith, bytes_long key)
change_long change.Restarted = refl
change_long (change.Preload key scope on text) =
    let names = bytes_spelling key ++ bytes_spelling scope in
    let switched = names ++ bit 1 on ∷ [] in
    omega (arith, names_long key scope, length-append names (bit 1 on ∷ []), length-append switched (bytes_spelling text), bytes_long text)
