-- The key of a place is that of its page, with the refusals told as faults.
use Rattle.std.proofs.Common.{◌≡◌, ◌∙◌, ap, sym, List, ℕ, Bool, true, false, Option, Some, None, option_map, option_and_then, refl, is_some, if◌then◌else◌}
use Rattle.std.specs.Prelude.{Result, Ok, Err}
use Rattle.sw_data.specs.declared.answers.Cause.TheVariants as cause
use Rattle.sw_data.specs.declared.answers.Fault.{Fault}
use Rattle.sw_data.specs.declared.answers.Fault.TheVariants as fault
use Rattle.sw_data.specs.declared.answers.SecurityCause.TheVariants as security
use Rattle.sw_url.specs.declared.page.PageFault.{PageFault}
use Rattle.sw_url.specs.Pages.{key_or_refusal, page_key}
use Rattle.sw_data.specs.declared.recordings.Place.{Place}
use Rattle.sw_data.specs.Addresses.{address_of, is_trustworthy, origin_of, parsed_origin}
use Rattle.sw_data.specs.Keys.{key_of, partitioned}
use Rattle.sw_rules.specs.Caching.{place_key}
use Rattle.sw_rules.specs.Told.{type_error}
use Rattle.sw_cachestorage.specs.Places.{fault_of}

abbrev with_fault : Result (List ℕ) PageFault → Result (List ℕ) Fault
with_fault (Ok key) = Ok key
with_fault (Err refusal) = Err (fault_of refusal)

same : {A : Type 0} (origin : A → Option (List ℕ)) (parsed : Option A) (partition : Option (List ℕ)) (trusted : Bool)
    → with_fault (key_or_refusal (is_some parsed) (option_map (partitioned partition) (option_and_then origin parsed)) trusted)
    ≡ (elim (option_map (partitioned partition) (option_and_then origin parsed)) [
      | None ↦ Err (type_error (if is_some parsed then cause.Scheme else cause.Unparsed))
      | Some key ↦ if trusted then Ok key else Err (fault.SecurityError security.Untrusted)
    ])
same origin None partition trusted = refl
same origin (Some url) partition trusted = by (option_map (partitioned partition) (origin url)) trusted
  where
    by : (key : Option (List ℕ)) (b : Bool) → with_fault (key_or_refusal true key b)
        ≡ (elim key [ None ↦ Err (type_error cause.Scheme) | Some k ↦ if b then Ok k else Err (fault.SecurityError security.Untrusted) ])
    by None b = refl
    by (Some key) false = refl
    by (Some key) true = refl

same_key : (place : Place) → with_fault (page_key place.at place.partition) ≡ place_key place
unfolding key_of origin_of
same_key place = same parsed_origin (address_of place.at) place.partition (is_trustworthy place.at)

-- a page that has a key
pub given : (place : Place) (key : List ℕ) → page_key place.at place.partition ≡ Ok key → Ok key ≡ place_key place
given place key is = ap with_fault (sym is) ∙ same_key place

-- a page that has none
pub refused : (place : Place) (refusal : PageFault) → page_key place.at place.partition ≡ Err refusal → Err (fault_of refusal) ≡ place_key place
refused place refusal is = ap with_fault (sym is) ∙ same_key place
