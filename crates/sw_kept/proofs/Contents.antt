-- Contents that records make.
use Rattle.std.proofs.Common.{◌≡◌, ℕ, true, false, List, [], ◌∷◌, ◌++◌, Result, Ok, Err, sym, ◌∙◌, ap, subst}
use Rattle.std.proofs.lemmas.List.Sums.{fold-append}
use Rattle.sw_codec.specs.Reading.{read_changes}
use Rattle.sw_data.specs.declared.storage.Change.{Change}
use Rattle.sw_data.specs.declared.storage.Kept.{Kept}
use Rattle.sw_disk.specs.Image.{Image}
use Rattle.sw_journal.specs.Content.{Records}
use Rattle.sw_kept.specs.Stored.{Stored, HasKept, IsCarried, Keeps, carried, kept_by, made_by, stored_of}
use Rattle.sw_rules.specs.Storage.{IsMade, applied, kept_after, nothing}
use Rattle.sw_twin.specs.Current.{content_of}

-- the content of a result that is one
abbrev content_or : Kept → Result Kept ℕ → Kept
content_or other (Ok kept) = kept
content_or other (Err gate) = other

abbrev is_ok : Result Kept ℕ → Type 0
is_ok (Ok kept) = Unit {0}
is_ok (Err gate) = ⊥

abbrev pub ok : Kept → Result Kept ℕ
ok kept = Ok kept

abbrev pub bad : ℕ → Result Kept ℕ
bad gate = Err gate

pub same_content : (kept other : Kept) → ok kept ≡ ok other → kept ≡ other
same_content kept other is = ap (content_or nothing) is

pub no_error : (gate : ℕ) (kept : Kept) → bad gate ≡ ok kept → ⊥
no_error gate kept is = subst is_ok (sym is) tt

-- what follows on a content follows where bytes spell changes
carried_more : (kept : Kept) (gate : ℕ) (next longer : Kept → Result Kept ℕ) (made more : Kept) → ((k : Kept) → next k ≡ ok made → longer k ≡ ok more)
    → (read : Result (List Change) ℕ) → carried kept gate next read ≡ ok made → carried kept gate longer read ≡ ok more
carried_more kept gate next longer made more goes (Ok changes) is = goes (kept_after kept changes) is
carried_more kept gate next longer made more goes (Err offset) is = absurd (no_error gate made is)

-- a record behind the others carries its changes out on the content that they make
pub made_more : (kept made : Kept) (records : List (ℕ × List ℕ)) (gate : ℕ) (payload : List ℕ) (changes : List Change)
    → made_by kept records ≡ ok made → read_changes payload ≡ Ok changes
    → made_by kept (records ++ (gate, payload) ∷ []) ≡ ok (kept_after made changes)
unfolding made_by
made_more kept made [] gate payload changes is reads =
    ap (carried kept gate (λ after. made_by after [])) reads
    ∙ ap (λ (k : Kept). ok (kept_after k changes)) (same_content kept made is)
made_more kept made (first ∷ rest) gate payload changes is reads =
    carried_more kept first.0 (λ after. made_by after rest) (λ after. made_by after (rest ++ (gate, payload) ∷ [])) made (kept_after made changes)
    (λ k goes. made_more k made rest gate payload changes goes reads) (read_changes first.1) is

-- a record whose payload was carried out, or spells nothing
pub carried_on : (old new : Kept) (first : ℕ × List ℕ) (rest : List (ℕ × List ℕ)) → IsCarried true old new first.1 → made_by old (first ∷ rest) ≡ made_by new rest
unfolding made_by
carried_on old new first rest is =
    ap (carried old first.0 (λ after. made_by after rest)) is.1 ∙ ap (λ (k : Kept). made_by k rest) (sym is.2)

pub carried_off : (old new : Kept) (first : ℕ × List ℕ) (rest : List (ℕ × List ℕ)) → IsCarried false old new first.1 → made_by old (first ∷ rest) ≡ bad first.0
unfolding made_by
carried_off old new first rest is = ap (carried old first.0 (λ after. made_by after rest)) is.1

-- more changes make a content of one that changes make of nothing
more_made : (kept : Kept) (changes : List Change) → IsMade kept → IsMade (kept_after kept changes)
more_made kept changes made =
    (made.0 ++ changes, ap (λ (k : Kept). kept_after k changes) made.1 ∙ sym (fold-append applied nothing made.0 changes))

carried_made : (kept : Kept) (gate : ℕ) (next : Kept → Result Kept ℕ) (made : Kept) → IsMade kept → ((k : Kept) → IsMade k → next k ≡ ok made → IsMade made)
    → (read : Result (List Change) ℕ) → carried kept gate next read ≡ ok made → IsMade made
carried_made kept gate next made is goes (Ok changes) makes = goes (kept_after kept changes) (more_made kept changes is) makes
carried_made kept gate next made is goes (Err offset) makes = absurd (no_error gate made makes)

-- so records do
pub records_make : (kept made : Kept) (records : List (ℕ × List ℕ)) → IsMade kept → made_by kept records ≡ ok made → IsMade made
unfolding made_by
records_make kept made [] is makes = subst IsMade (same_content kept made makes) is
records_make kept made (first ∷ rest) is makes =
    carried_made kept first.0 (λ after. made_by after rest) made is (λ k made_so goes. records_make k made rest made_so goes) (read_changes first.1) makes

-- ---- what an image keeps

abbrev kept_in : Stored → Kept
kept_in (Keeps kept) = kept
kept_in _ = nothing

abbrev keeps_some : Stored → Type 0
keeps_some (Keeps kept) = Unit {0}
keeps_some _ = ⊥

kept_by_is : (made : Result Kept ℕ) (kept : Kept) → kept_by made ≡ Keeps kept → made ≡ ok kept
kept_by_is (Ok k) kept is = ap (λ (s : Stored). ok (kept_in s)) is
kept_by_is (Err gate) kept is = absurd (subst keeps_some (sym is) tt)

-- the records of an image that keeps a content make it
pub made_of : (kept : Kept) (image : Image) (records : List (ℕ × List ℕ)) → content_of image ≡ Records records → HasKept kept image → made_by nothing records ≡ ok kept
made_of kept image records has is = kept_by_is (made_by nothing records) kept (sym (ap stored_of has) ∙ is)

-- and an image keeps what its records make
pub keeps_made : (kept : Kept) (image : Image) (records : List (ℕ × List ℕ)) → content_of image ≡ Records records → made_by nothing records ≡ ok kept → HasKept kept image
keeps_made kept image records has makes = ap stored_of has ∙ ap kept_by makes

-- an image with a record more keeps its changes besides
pub more_kept : (kept : Kept) (old new : Image) (records : List (ℕ × List ℕ)) (gate : ℕ) (payload : List ℕ) (changes : List Change)
    → content_of old ≡ Records records → content_of new ≡ Records (records ++ (gate, payload) ∷ []) → read_changes payload ≡ Ok changes
    → HasKept kept old → HasKept (kept_after kept changes) new
more_kept kept old new records gate payload changes was now reads has =
    keeps_made (kept_after kept changes) new (records ++ (gate, payload) ∷ []) now
    (made_more nothing kept records gate payload changes (made_of kept old records was has) reads)

-- images that stand for the same keep the same
pub same_kept : (kept : Kept) (old new : Image) → content_of new ≡ content_of old → HasKept kept old → HasKept kept new
same_kept kept old new same has = ap stored_of same ∙ has
