-- What a part stands for before it is formatted, and what a crash leaves of it meanwhile.
use Rattle.std.proofs.Common.{◌≡◌, ◌≢◌, ◌⊎◌, inl, inr, ℕ, true, false, List, [], ◌∷◌, ◌++◌, length, take, drop, replicate, Option, Some, None, refl, sym, ◌∙◌, ap, subst, arith, length-drop}
use Rattle.std.proofs.lemmas.List.{drop_at, take-take}
use Rattle.std.specs.Prelude.{MatchOption, IsSome, is_some}
use Rattle.sw_disk.specs.declared.part.Part.{Part}
use Rattle.sw_disk.specs.Image.{Image, get}
use Rattle.sw_disk.specs.DiskRule.{ForTold, Torn, written}
use Rattle.sw_disk.proofs.Tears.{torn_within}
use Rattle.sw_journal.specs.Format.{Format, format_2, format_of}
use Rattle.sw_journal.specs.Content.{NotFormatted, Records, reading, reading_from, content, content_by, content_of_reading, up_to, IsPart, IsFresh}
use Rattle.sw_journal.specs.Version.{format_at}
use Rattle.sw_journal.specs.declared.version.Version.{Version}
use Rattle.sw_journal.proofs.PartLemmas.{reading_from-closed}
use Rattle.sw_journal.proofs.PartChanges.{format_of-front}

-- which header a part has, by what was read of its front
pub header_read : (seen : Option Image) (part : Part) (n m : ℕ) (front : List ℕ) (P : Option Format → Type 0) → m ≡ 16
    → ForTold seen (λ image. take n front ≡ take m (get part image)) → P (format_of (take n front)) → ForTold seen (λ image. P (format_of (get part image)))
header_read None part n m front P all told known = tt
header_read (Some image) part n m front P all told known =
    subst P (format_of-front (take n front) (get part image) (ap (λ (l : List ℕ). take 16 l) told ∙ take-take 16 m (get part image) (omega (arith, all)))) known

pub some_of : (found : Option Version) (format : Option Format) → MatchOption found (format ≡ None) (λ version. format ≡ Some (format_at version)) → is_some found ≡ true → IsSome format
some_of None format told holds = absurd (cc)
some_of (Some version) format told holds = subst (λ (f : Option Format). IsSome f) (sym told) refl

pub none_of : (found : Option Version) (format : Option Format) → MatchOption found (format ≡ None) (λ version. format ≡ Some (format_at version)) → is_some found ≡ false → format ≡ None
none_of None format told no_version = told
none_of (Some version) format told no_version = absurd (cc)

-- a part whose first gate is closed
module _ (bytes : List ℕ) (byte : ℕ) (rest : List ℕ) (shut : byte ≢ 1) (there : drop 16 bytes ≡ byte ∷ rest) where
  pub reads_none : (format : Format) → reading format bytes ≡ up_to [] 16
  unfolding reading
  reads_none format = ap (λ (l : List ℕ). reading_from format 0 16 l) there ∙ reading_from-closed format 0 16 byte rest shut

  -- whatever its header is, it has no record
  pub fresh : IsFresh bytes
  unfolding content
  fresh = elim (format_of bytes) as (λ f. (content_by f bytes ≡ NotFormatted) ⊎ (content_by f bytes ≡ Records [])) [
    | None ↦ inl refl
    | Some format ↦ inr (ap content_of_reading (reads_none format))
  ]

-- with the header it is formatted
pub headed : (bytes : List ℕ) (byte : ℕ) (rest : List ℕ) → byte ≢ 1 → bytes ≡ format_2.header ++ (byte ∷ rest) → IsPart format_2 [] 16 bytes
unfolding format_of
headed bytes byte rest shut is =
    record {
      header = ap format_of is;
      reads = reads_none bytes byte rest shut (ap (λ (l : List ℕ). drop 16 l) is ∙ drop_at format_2.header (byte ∷ rest) 16 refl) format_2;
    }

-- the header torn over zero bytes leaves a closed gate
pub torn_fresh : (old new : List ℕ) → Torn (length (written 0 (replicate 17 0) old)) 0 16 (written 0 (replicate 17 0) old) new → IsFresh new
torn_fresh old new torn =
    let zeroed = written 0 (replicate 17 0) old in
    let shut : drop 16 zeroed ≡ 0 ∷ drop 17 old = refl in
    let t = torn_within 0 16 zeroed new (omega (arith, ap length shut, length-drop 16 zeroed)) torn in
    fresh new 0 (drop 17 old ++ t.past) (λ one. omega (arith, one))
    (ap (λ (l : List ℕ). drop 16 l) t.whole ∙ drop_at t.range (drop 16 zeroed ++ t.past) 16 t.size ∙ ap (λ (l : List ℕ). l ++ t.past) shut)
