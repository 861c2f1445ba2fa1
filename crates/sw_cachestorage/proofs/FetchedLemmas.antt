-- The responses to the requests of an addAll, one after another.
use Rattle.std.proofs.Common.{◌≡◌, ◌∙◌, ℕ, ◌+◌, ◌<◌, ◌==◌, List, [], ◌∷◌, drop, get_or, length, Option, Some, None, option_map, option_and_then, inl, inr, refl, sym, ap, arith, if◌then◌else◌}
use Rattle.std.specs.Prelude.{filter_map, not, slice_get}
use Rattle.std.specs.List.{zip}
use Rattle.std.proofs.lemmas.List.{drop_all, drop_more}
use Rattle.std.proofs.lemmas.Option.{slice_get_cases}
use Rattle.sw_cachestorage.specs.Added.{fault_at, put_at, response_fault}
use Rattle.sw_data.specs.declared.answers.Cause.{Cause}
use Rattle.sw_data.specs.declared.answers.Cause.TheVariants as cause
use Rattle.sw_data.specs.declared.answers.Fault.{Fault}
use Rattle.sw_data.specs.declared.answers.Fault.TheVariants as fault
use Rattle.sw_data.specs.declared.exchange.Op.{Op}
use Rattle.sw_data.specs.declared.exchange.Op.TheVariants as op
use Rattle.sw_data.specs.declared.exchange.Request.{Request}
use Rattle.sw_data.specs.declared.recordings.Fetched.{Fetched}
use Rattle.sw_data.specs.declared.recordings.FetchLine.{FetchLine}
use Rattle.sw_rules.specs.Caching as rules
use Rattle.sw_rules.specs.Caching.{put_of_response, puts_of, responses_fault}
use Rattle.sw_rules.specs.Installing.{fetched_of, is_ok_status}
use Rattle.sw_rules.specs.Matching.{varies_on_all}

-- the first fault is that of the response at this place, or stands behind it
abbrev pub or_later : ℕ → Option Cause → Option Fault → Option Fault
or_later place (Some why) later = Some (fault.TypeError why (Some place))
or_later place None later = later

-- a put, if there is one, before others
abbrev pub before : Option Op → List Op → List Op
before (Some put) puts = put ∷ puts
before None puts = puts

none_zipped : {X Y : Type 0} (xs : List X) → zip {K = X} {X = Y} xs [] ≡ []
none_zipped [] = refl
none_zipped (x ∷ xs) = refl

-- what the definition tests is what is tested at a place
fault_of : (lines : List (Option FetchLine)) (place : ℕ) (line : Option FetchLine) → slice_get lines place ≡ Some line → fault_at lines place ≡ rules.response_fault line
fault_of lines place line is = ap (λ found. fault (option_and_then fetched_of found)) is ∙ by (fetched_of line)
  where
    fault : Option Fetched → Option Cause
    fault found = elim found [ None ↦ Some cause.Network | Some fetched ↦ response_fault fetched.response ]

    by : (found : Option Fetched) → fault found
        ≡ elim found [
          | None ↦ Some cause.Network
          | Some fetched ↦
              if not (is_ok_status fetched.response.status) then Some cause.Status
              else if fetched.response.status == 206 then Some cause.Partial
              else if varies_on_all fetched.response.headers then Some cause.Vary
              else None
        ]
    by None = refl
    by (Some fetched) = refl

put_of : (request : Request) (lines : List (Option FetchLine)) (place : ℕ) (line : Option FetchLine) → slice_get lines place ≡ Some line → put_at request lines place ≡ put_of_response (request, line)
put_of request lines place line is = ap (λ found. option_map (λ fetched. op.Put request fetched.response) (option_and_then fetched_of found)) is

fault_before : (place : ℕ) (request : Request) (requests : List Request) (line : Option FetchLine) (lines : List (Option FetchLine))
    → responses_fault place (request ∷ requests) (line ∷ lines) ≡ or_later place (rules.response_fault line) (responses_fault (place + 1) requests lines)
fault_before place request requests line lines = by (rules.response_fault line)
  where
    by : (bad : Option Cause) → (elim bad [ Some why ↦ Some (fault.TypeError why (Some place)) | None ↦ responses_fault (place + 1) requests lines ])
        ≡ or_later place bad (responses_fault (place + 1) requests lines)
    by None = refl
    by (Some why) = refl

puts_before : (request : Request) (requests : List Request) (line : Option FetchLine) (lines : List (Option FetchLine))
    → puts_of (request ∷ requests) (line ∷ lines) ≡ before (put_of_response (request, line)) (puts_of requests lines)
puts_before request requests line lines = grind (arith)

-- the request at a place stands before the rest
pub request_here : (requests : List Request) (place : ℕ) → place < length requests → (request : Request) × (drop place requests ≡ request ∷ drop (place + 1) requests)
request_here requests place within = elim (slice_get_cases requests place).1 [
  | inl here ↦ (get_or requests place here.0, drop_more requests place here.0 here.1)
  | inr past ↦ absurd (let far = past.0 in omega (arith, far, within))
]

module _ (requests : List Request) (lines : List (Option FetchLine)) (place : ℕ) (request : Request) (here : drop place requests ≡ request ∷ drop (place + 1) requests) where
  abbrev later : Option Fault
  later = responses_fault (place + 1) (drop (place + 1) requests) (drop (place + 1) lines)

  abbrev others : List Op
  others = puts_of (drop (place + 1) requests) (drop (place + 1) lines)

  pub fault_here : responses_fault place (drop place requests) (drop place lines) ≡ or_later place (fault_at lines place) later
  fault_here = elim (slice_get_cases lines place).1 [
    | inl line ↦
        (λ i. responses_fault place (here i) (drop_more lines place line.0 line.1 i))
        ∙ (fault_before place request (drop (place + 1) requests) (get_or lines place line.0) (drop (place + 1) lines)
        ∙ (λ i. or_later place (rules.response_fault (line.3 i)) later)
        ∙ ap (λ bad. or_later place bad later) (sym (fault_of lines place line.0 line.2)))
    | inr past ↦
        (λ i. responses_fault place (here i) (drop_all place lines past.0 i))
        ∙ ap (λ found. or_later place (elim (option_and_then fetched_of found) [ None ↦ Some cause.Network | Some fetched ↦ response_fault fetched.response ]) later) (sym past.1)
  ]

  pub puts_here : puts_of (drop place requests) (drop place lines) ≡ before (put_at request lines place) others
  puts_here = elim (slice_get_cases lines place).1 [
    | inl line ↦
        (λ i. puts_of (here i) (drop_more lines place line.0 line.1 i))
        ∙ (puts_before request (drop (place + 1) requests) (get_or lines place line.0) (drop (place + 1) lines)
        ∙ (λ i. before (put_of_response (request, line.3 i)) others)
        ∙ ap (λ put. before put others) (sym (put_of request lines place line.0 line.2)))
    | inr past ↦
        (λ i. puts_of (here i) (drop_all place lines past.0 i))
        ∙ (ap (filter_map put_of_response) (sym (none_zipped (drop (place + 1) requests)))
        ∙ (λ i. puts_of (drop (place + 1) requests) (sym (drop_all (place + 1) lines (let far = past.0 in omega (arith, far))) i))
        ∙ ap (λ found. before (option_map (λ fetched. op.Put request fetched.response) (option_and_then fetched_of found)) others) (sym past.1))
  ]
