-- The text of a recording's refusal.
use Rattle.std.specs.Prelude.{ℕ, List, [], ◌++◌, codes, decimal}
use Rattle.sw_forms.specs.declared.error.LineCause.{LineCause}
use Rattle.sw_forms.specs.declared.error.LineCause.TheVariants as cause
use Rattle.sw_forms.specs.declared.error.Limit.{Limit}
use Rattle.sw_forms.specs.declared.error.Limit.TheVariants as limit
use Rattle.sw_forms.specs.declared.error.RecordingError.{RecordingError}
use Rattle.sw_forms.specs.declared.error.RecordingError.TheVariants as error

abbrev pub cause_word : LineCause → List ℕ
cause_word cause.Json = codes "json"
cause_word cause.Form = codes "form"
cause_word cause.Method = codes "method"
cause_word cause.Status = codes "status"
cause_word cause.Header = codes "header"
cause_word cause.Base64 = codes "base64"
cause_word cause.Address = codes "address"
cause_word cause.Await = codes "await"

abbrev pub limit_word : Limit → List ℕ
limit_word limit.Actions = codes "actions"
limit_word limit.Lanes = codes "lanes"
limit_word limit.Text = codes "text"
limit_word limit.Headers = codes "headers"
limit_word limit.Operations = codes "operations"
limit_word limit.Calls = codes "calls"
limit_word limit.Body = codes "body"

-- the text of a refusal (own)
abbrev pub refusal_text : RecordingError → List ℕ
refusal_text (error.BadLine line why) =
    codes "error: line " ++ decimal line ++ codes ": " ++ cause_word why ++ codes "\n"
refusal_text (error.TooLarge line passed) =
    codes "error: line " ++ decimal line ++ codes ": too large: " ++ limit_word passed ++ codes "\n"
refusal_text error.NoMemory = []
