-- A reader and a spelling that are inverse, and readers made of such readers.
use Rattle.std.proofs.Common.{◌≡◌, ℕ, zero, suc, Bool, true, false, cond, eqb, List, [], ◌∷◌, ◌++◌, length, Option, Some, None, refl, sym, ap, subst, ◌∙◌, append_assoc}
use Rattle.std.specs.Prelude.{◌&&◌}
use Rattle.std.specs.List.{flat_map, list_all, AllByRecursion}
use Rattle.std.proofs.lemmas.Bool.{eqb-true, and_parts, and_from}
use Rattle.std.proofs.lemmas.List.Concat.{flat_map-cons}
use Rattle.sw_codec.specs.Laws.{AreBytes}
use Rattle.sw_codec.specs.Reading.{◌>>=◌, pair_at, made_at, meant_at, items_at, chosen_at, tagged_at}

-- ---- steps and tests

-- the value of a step that found one
pub bind_some : {A B : Type 0} (read : Option A) (f : A → Option B) (y : B) → (read >>= f) ≡ Some y → (x : A) × (read ≡ Some x) × (f x ≡ Some y)
bind_some (Some x) f y e = (x, refl, e)
bind_some None f y e = absurd cc

abbrev found : {A : Type 0} → A → Option A
found x = Some x

pub some_is : {A : Type 0} (x y : A) → found x ≡ found y → x ≡ y
some_is x y e = cc

-- ---- readers

-- what a reader took from the front
pub record Takes (bytes text rest : List ℕ) : Type 0 where
  pub parts : bytes ≡ text ++ rest
  pub rest_fits : AreBytes rest

pub Takes-then : (a x b y c : List ℕ) → Takes a x b → Takes b y c → Takes a (x ++ y) c
Takes-then a x b y c p q = record { parts = p.parts ∙ ap (λ (t : List ℕ). x ++ t) q.parts ∙ sym (append_assoc x y c); rest_fits = q.rest_fits }

-- what is read was spelled so, and has a spelling; what has a spelling is read from it
pub record Spells {A : Type 0} (reader : List ℕ → Option (A × List ℕ)) (spelling : A → List ℕ) (has : A → Bool) : Type 0 where
  pub takes : (bytes : List ℕ) (x : A) (rest : List ℕ) → AreBytes bytes → reader bytes ≡ Some (x, rest) → Takes bytes (spelling x) rest × (has x ≡ true)
  pub again : (x : A) (rest : List ℕ) → has x ≡ true → reader (spelling x ++ rest) ≡ Some (x, rest)

module _ {A B : Type 0} {first : List ℕ → Option (A × List ℕ)} {spelling : A → List ℕ} {has : A → Bool} {second : List ℕ → Option (B × List ℕ)} {spelling' : B → List ℕ} {has' : B → Bool}
    (one : Spells first spelling has) (other : Spells second spelling' has') where
  pair-takes : (bytes : List ℕ) (x : A × B) (rest : List ℕ) → AreBytes bytes → pair_at first second bytes ≡ Some (x, rest) → Takes bytes (spelling x.0 ++ spelling' x.1) rest × ((has x.0 && has' x.1) ≡ true)
  pair-takes bytes x rest fits e =
      let a = bind_some (first bytes) (λ one. second one.1 >>= λ other. Some ((one.0, other.0), other.1)) (x, rest) e in
      let b = bind_some (second a.0.1) (λ other. Some ((a.0.0, other.0), other.1)) (x, rest) a.2 in
      let t = one.takes bytes a.0.0 a.0.1 fits a.1 in
      let u = other.takes a.0.1 b.0.0 b.0.1 t.0.rest_fits b.1 in
      let made : (A × B) × List ℕ = ((a.0.0, b.0.0), b.0.1) in
      subst (λ (y : (A × B) × List ℕ). Takes bytes (spelling y.0.0 ++ spelling' y.0.1) y.1 × ((has y.0.0 && has' y.0.1) ≡ true)) (some_is made (x, rest) b.2)
      (Takes-then bytes (spelling a.0.0) a.0.1 (spelling' b.0.0) b.0.1 t.0 u.0, and_from (has a.0.0) (has' b.0.0) t.1 u.1)

  pair-again : (x : A × B) (rest : List ℕ) → (has x.0 && has' x.1) ≡ true → pair_at first second ((spelling x.0 ++ spelling' x.1) ++ rest) ≡ Some (x, rest)
  pair-again x rest h =
      let hs = and_parts (has x.0) (has' x.1) h in
      ap (pair_at first second) (append_assoc (spelling x.0) (spelling' x.1) rest)
      ∙ ap (λ (r : Option (A × List ℕ)). r >>= λ one. second one.1 >>= λ other. Some ((one.0, other.0), other.1)) (one.again x.0 (spelling' x.1 ++ rest) hs.0)
      ∙ ap (λ (r : Option (B × List ℕ)). r >>= λ other. Some ((x.0, other.0), other.1)) (other.again x.1 rest hs.1)

  pub pair-spells : Spells (pair_at first second) (λ x. spelling x.0 ++ spelling' x.1) (λ x. has x.0 && has' x.1)
  pair-spells = record { takes = pair-takes; again = pair-again }

pub made-again : {A B : Type 0} (make : A → B) (reader : List ℕ → Option (A × List ℕ)) (bytes : List ℕ) (a : A) (rest : List ℕ) → reader bytes ≡ Some (a, rest) → made_at make reader bytes ≡ Some (make a, rest)
made-again {A = A} make reader bytes a rest e = ap (λ (r : Option (A × List ℕ)). r >>= λ one. Some (make one.0, one.1)) e

pub made-spells : {A B : Type 0} (make : A → B) (back : B → A) {reader : List ℕ → Option (A × List ℕ)} {spelling : A → List ℕ} {has : A → Bool} (spelling' : B → List ℕ) (has' : B → Bool)
    → Spells reader spelling has → ((b : B) → make (back b) ≡ b) → ((a : A) → spelling' (make a) ≡ spelling a) → ((a : A) → has' (make a) ≡ has a) → Spells (made_at make reader) spelling' has'
made-spells {A} {B} make back {reader} {spelling} {has} spelling' has' spells same spelled having = record {
  takes = λ bytes x rest fits e.
      let a = bind_some (reader bytes) (λ one. Some (make one.0, one.1)) (x, rest) e in
      let t = spells.takes bytes a.0.0 a.0.1 fits a.1 in
      let made : B × List ℕ = (make a.0.0, a.0.1) in
      subst (λ (y : B × List ℕ). Takes bytes (spelling' y.0) y.1 × (has' y.0 ≡ true)) (some_is made (x, rest) a.2)
      (subst (λ (s : List ℕ). Takes bytes s a.0.1) (sym (spelled a.0.0)) t.0, having a.0.0 ∙ t.1);
  again = λ x rest h.
      let spelling_is : spelling' x ++ rest ≡ spelling (back x) ++ rest = ap (λ (b : B). spelling' b ++ rest) (sym (same x)) ∙ ap (λ (s : List ℕ). s ++ rest) (spelled (back x)) in
      let has_is : has (back x) ≡ true = sym (having (back x)) ∙ ap has' (same x) ∙ h in
      ap (made_at make reader) spelling_is ∙ made-again make reader (spelling (back x) ++ rest) (back x) rest (spells.again (back x) rest has_is) ∙ ap (λ (b : B). Some (b, rest)) (same x);
}

-- a value that one that is read stands for
pub record Means {A B : Type 0} (means : A → Option B) (word : B → A) (has : A → Bool) (has' : B → Bool) : Type 0 where
  pub sound : (a : A) (b : B) → has a ≡ true → means a ≡ Some b → (a ≡ word b) × (has' b ≡ true)
  pub again : (b : B) → has' b ≡ true → (means (word b) ≡ Some b) × (has (word b) ≡ true)

pub meant-spells : {A B : Type 0} {means : A → Option B} {word : B → A} {reader : List ℕ → Option (A × List ℕ)} {spelling : A → List ℕ} {has : A → Bool} {has' : B → Bool}
    → Spells reader spelling has → Means means word has has' → Spells (meant_at means reader) (λ b. spelling (word b)) has'
meant-spells {A} {B} {means} {word} {reader} {spelling} {has} {has'} spells meaning = record {
  takes = λ bytes x rest fits e.
      let a = bind_some (reader bytes) (λ one. means one.0 >>= λ value. Some (value, one.1)) (x, rest) e in
      let b = bind_some (means a.0.0) (λ value. Some (value, a.0.1)) (x, rest) a.2 in
      let t = spells.takes bytes a.0.0 a.0.1 fits a.1 in
      let m = meaning.sound a.0.0 b.0 t.1 b.1 in
      let made : B × List ℕ = (b.0, a.0.1) in
      subst (λ (y : B × List ℕ). Takes bytes (spelling (word y.0)) y.1 × (has' y.0 ≡ true)) (some_is made (x, rest) b.2)
      (subst (λ (y : A). Takes bytes (spelling y) a.0.1) m.0 t.0, m.1);
  again = λ x rest h.
      let m = meaning.again x h in
      ap (λ (r : Option (A × List ℕ)). r >>= λ one. means one.0 >>= λ value. Some (value, one.1)) (spells.again (word x) rest m.1)
      ∙ ap (λ (r : Option B). r >>= λ value. Some (value, rest)) m.0;
}

-- ---- items one behind the other

module _ {A : Type 0} {reader : List ℕ → Option (A × List ℕ)} {spelling : A → List ℕ} {has : A → Bool} (spells : Spells reader spelling has) where
  pub items-take : (count : ℕ) (bytes : List ℕ) (items : List A) (rest : List ℕ) → AreBytes bytes → items_at reader count bytes ≡ Some (items, rest)
      → Takes bytes (flat_map spelling items) rest × (length items ≡ count) × (list_all has items ≡ true)
  unfolding items_at
  items-take zero bytes items rest fits e =
      let none : List A = [] in
      subst (λ (y : List A × List ℕ). Takes bytes (flat_map spelling y.0) y.1 × (length y.0 ≡ 0) × (list_all has y.0 ≡ true)) (some_is (none, bytes) (items, rest) e)
      (record { parts = refl; rest_fits = fits }, refl, refl)
  items-take (suc count) bytes items rest fits e =
      let a = bind_some (reader bytes) (λ first. items_at reader count first.1 >>= λ others. Some (first.0 ∷ others.0, others.1)) (items, rest) e in
      let b = bind_some (items_at reader count a.0.1) (λ others. Some (a.0.0 ∷ others.0, others.1)) (items, rest) a.2 in
      let first = spells.takes bytes a.0.0 a.0.1 fits a.1 in
      let others = items-take count a.0.1 b.0.0 b.0.1 first.0.rest_fits b.1 in
      let both = Takes-then bytes (spelling a.0.0) a.0.1 (flat_map spelling b.0.0) b.0.1 first.0 others.0 in
      let made : List A × List ℕ = (a.0.0 ∷ b.0.0, b.0.1) in
      subst (λ (y : List A × List ℕ). Takes bytes (flat_map spelling y.0) y.1 × (length y.0 ≡ suc count) × (list_all has y.0 ≡ true)) (some_is made (items, rest) b.2)
      (rw flat_map-cons both, ap suc others.1, and_from (has a.0.0) (list_all has b.0.0) first.1 others.2)

  pub items-again : (items : List A) (rest : List ℕ) → list_all has items ≡ true → items_at reader (length items) (flat_map spelling items ++ rest) ≡ Some (items, rest)
  unfolding items_at
  items-again [] rest h = refl
  items-again (x ∷ items) rest h =
      let hs = and_parts (has x) (list_all has items) h in
      let regrouped : flat_map spelling (x ∷ items) ++ rest ≡ spelling x ++ (flat_map spelling items ++ rest) =
      ap (λ (l : List ℕ). l ++ rest) (flat_map-cons spelling x items) ∙ append_assoc (spelling x) (flat_map spelling items) rest in
      ap (items_at reader (suc (length items))) regrouped
      ∙ ap (λ (r : Option (A × List ℕ)). r >>= λ first. items_at reader (length items) first.1 >>= λ others. Some (first.0 ∷ others.0, others.1)) (spells.again x (flat_map spelling items ++ rest) hs.0)
      ∙ ap (λ (r : Option (List A × List ℕ)). r >>= λ others. Some (x ∷ others.0, others.1)) (items-again items rest hs.1)

-- ---- a byte and what stands behind it

-- what stands behind a byte is spelled so
pub record Behind {A : Type 0} (spelling : A → List ℕ) (has : A → Bool) (form : ℕ × (List ℕ → Option (A × List ℕ))) : Type 0 where
  pub takes : (bytes : List ℕ) (x : A) (rest : List ℕ) → AreBytes bytes → form.1 bytes ≡ Some (x, rest) → Takes (form.0 ∷ bytes) (spelling x) rest × (has x ≡ true)

pub behind_made : {A B : Type 0} (tag : ℕ) (make : A → B) {reader : List ℕ → Option (A × List ℕ)} {spelling : A → List ℕ} {has : A → Bool} (spelling' : B → List ℕ) (has' : B → Bool)
    → Spells reader spelling has → ((a : A) → spelling' (make a) ≡ tag ∷ spelling a) → ((a : A) → has' (make a) ≡ has a) → Behind spelling' has' (tag, made_at make reader)
behind_made {A} {B} tag make {reader} {spelling} {has} spelling' has' spells spelled having = record {
  takes = λ bytes x rest fits e.
      let a = bind_some (reader bytes) (λ one. Some (make one.0, one.1)) (x, rest) e in
      let t = spells.takes bytes a.0.0 a.0.1 fits a.1 in
      let made : B × List ℕ = (make a.0.0, a.0.1) in
      let whole : Takes (tag ∷ bytes) (spelling' (make a.0.0)) a.0.1 = record {
        parts = ap (λ (l : List ℕ). tag ∷ l) t.0.parts ∙ ap (λ (s : List ℕ). s ++ a.0.1) (sym (spelled a.0.0));
        rest_fits = t.0.rest_fits;
      } in
      subst (λ (y : B × List ℕ). Takes (tag ∷ bytes) (spelling' y.0) y.1 × (has' y.0 ≡ true)) (some_is made (x, rest) a.2)
      (whole, having a.0.0 ∙ t.1);
}

chosen_by : {A : Type 0} (spelling : A → List ℕ) (has : A → Bool) (form : ℕ × (List ℕ → Option (A × List ℕ))) (others : Option (A × List ℕ)) (tag : ℕ) (bytes : List ℕ) (x : A) (rest : List ℕ) (test : Bool)
    → eqb tag form.0 ≡ test → Behind spelling has form → (others ≡ Some (x, rest) → Takes (tag ∷ bytes) (spelling x) rest × (has x ≡ true)) → AreBytes bytes
    → cond test (form.1 bytes) others ≡ Some (x, rest) → Takes (tag ∷ bytes) (spelling x) rest × (has x ≡ true)
chosen_by spelling has form others tag bytes x rest true is sound else_sound fits e =
    subst (λ (t : ℕ). Takes (t ∷ bytes) (spelling x) rest × (has x ≡ true)) (sym (eqb-true tag form.0 is)) (sound.takes bytes x rest fits e)
chosen_by spelling has form others tag bytes x rest false is sound else_sound fits e = else_sound e

chosen-takes : {A : Type 0} (spelling : A → List ℕ) (has : A → Bool) (forms : List (ℕ × (List ℕ → Option (A × List ℕ)))) (tag : ℕ) (bytes : List ℕ) (x : A) (rest : List ℕ)
    → AllByRecursion (Behind spelling has) forms → AreBytes bytes → chosen_at forms tag bytes ≡ Some (x, rest) → Takes (tag ∷ bytes) (spelling x) rest × (has x ≡ true)
chosen-takes spelling has [] tag bytes x rest sound fits e = absurd cc
chosen-takes spelling has (form ∷ forms) tag bytes x rest sound fits e =
    chosen_by spelling has form (chosen_at forms tag bytes) tag bytes x rest (eqb tag form.0) refl sound.0
    (λ other. chosen-takes spelling has forms tag bytes x rest sound.1 fits other) fits e

pub bytes-rest : (byte : ℕ) (bytes : List ℕ) → AreBytes (byte ∷ bytes) → AreBytes bytes
bytes-rest byte bytes fits i = fits (suc i)

pub tagged-takes : {A : Type 0} (spelling : A → List ℕ) (has : A → Bool) (forms : List (ℕ × (List ℕ → Option (A × List ℕ)))) (bytes : List ℕ) (x : A) (rest : List ℕ)
    → AllByRecursion (Behind spelling has) forms → AreBytes bytes → tagged_at forms bytes ≡ Some (x, rest) → Takes bytes (spelling x) rest × (has x ≡ true)
tagged-takes spelling has forms [] x rest sound fits e = absurd cc
tagged-takes spelling has forms (tag ∷ bytes) x rest sound fits e = chosen-takes spelling has forms tag bytes x rest sound (bytes-rest tag bytes fits) e
