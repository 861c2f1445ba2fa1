-- The flaws of a line, and which of them decides.
use Rattle.std.specs.Prelude.{ℕ, Bool, true, false, nat_le, Result, Ok, Err, if◌then◌else◌}
use Rattle.sw_forms.specs.declared.error.LineCause.TheVariants as cause
use Rattle.sw_forms.specs.declared.error.Limit.TheVariants as limit
use Rattle.sw_forms.specs.declared.error.RecordingError.{RecordingError}
use Rattle.sw_forms.specs.declared.error.RecordingError.TheVariants as error
use Rattle.sw_forms.specs.declared.flaw.Flaw.{Flaw}
use Rattle.sw_forms.specs.declared.flaw.Flaw.TheVariants as flaw

-- the place of a flaw in the order in which flaws are tested, each over the whole line (own)
abbrev pub rank : Flaw → ℕ
rank (flaw.Cause cause.Json) = 0
rank (flaw.Cause cause.Form) = 1
rank (flaw.Limit limit.Actions) = 2
rank (flaw.Limit limit.Lanes) = 3
rank (flaw.Limit limit.Text) = 4
rank (flaw.Limit limit.Headers) = 5
rank (flaw.Limit limit.Operations) = 6
rank (flaw.Limit limit.Calls) = 7
rank (flaw.Cause cause.Method) = 8
rank (flaw.Cause cause.Status) = 9
rank (flaw.Cause cause.Header) = 10
rank (flaw.Cause cause.Base64) = 11
rank (flaw.Cause cause.Address) = 12
rank (flaw.Cause cause.Await) = 13
rank (flaw.Limit limit.Body) = 14

-- of two flaws the one that is tested first
abbrev pub first_of : Flaw → Flaw → Flaw
first_of left right = if nat_le (rank left) (rank right) then left else right

abbrev pub no_json : Flaw
no_json = flaw.Cause cause.Json

abbrev pub no_form : Flaw
no_form = flaw.Cause cause.Form

-- two parts of a line: both, or the flaw that is tested first
unfoldable pub both : {A B : Type 0} → Result A Flaw → Result B Flaw → Result (A × B) Flaw
both (Ok left) (Ok right) = Ok (left, right)
both (Ok left) (Err why) = Err why
both (Err why) (Ok right) = Err why
both (Err why) (Err other) = Err (first_of why other)

-- a part, where the test holds; otherwise it has this flaw besides its own
abbrev pub needs : {A : Type 0} → Bool → Flaw → Result A Flaw → Result A Flaw
needs true why part = part
needs false why (Ok part) = Err why
needs false why (Err other) = Err (first_of other why)

-- a part, where the line has the form for it
abbrev pub formed : {A : Type 0} → Bool → Result A Flaw → Result A Flaw
formed true part = part
formed false part = Err no_form

-- what is made of a part
abbrev pub made : {A B : Type 0} → (A → B) → Result A Flaw → Result B Flaw
made make (Ok part) = Ok (make part)
made make (Err why) = Err why

-- the refusal of a recording at a line
abbrev pub error_at : ℕ → Flaw → RecordingError
error_at line (flaw.Cause why) = error.BadLine line why
error_at line (flaw.Limit passed) = error.TooLarge line passed
