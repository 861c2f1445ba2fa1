-- What a call answers, by the report of its command.
use Rattle.std.proofs.Common.{◌≡◌, ℕ, List, Result, Ok, Err, Some, inl, inr, refl}
use Rattle.std.specs.Prelude.{IfOk, IsErr, length}
use Rattle.sw_disk.specs.Image.{Image}
use Rattle.sw_disk.specs.Plain.{plain, plain_image}
use Rattle.sw_disk.specs.declared.plain.PlainDisk.{PlainDisk}
use Rattle.sw_host.specs.Stands.{Stands}
use Rattle.sw_host.specs.Texts.{code_of}
use Rattle.sw_host.specs.declared.command.Command.{Command}
use Rattle.sw_host.specs.declared.report.Report.{Report}
use Rattle.sw_host.specs.declared.statuses.Status.TheVariants as status
use Rattle.swhost_c.specs.Calls.{Answers, AnswersText, HandsNothing, HandsOut, IsHanded}
use Rattle.swhost_c.specs.declared.handing.Lengths.{Lengths}

-- what a report says, with what stands whatever the report
pub ok_and : {T E : Type 0} (result : Result T E) (P : T → Type 0) (Q : Type 0) → IfOk result P → Q → IfOk result (λ t. P t × Q)
ok_and (Ok value) P Q is and = (is, and)
ok_and (Err error) P Q is and = tt

module _ {E : Type 0} (asked : Command) (bytes : List ℕ) (before : Image) (old new : PlainDisk) (was : plain_image old ≡ before) (room after : List ℕ) (answer : ℕ) where
  pub answers : (report : Result Report E) (lengths : Lengths) → IfOk report (λ r. Stands plain old new (Some bytes) 0 0 asked r.status r.text)
      → IfOk report (λ r. HandsOut (record { outcome = r.status; text = r.text; image = plain_image new }) room after lengths answer)
      → (IsErr report → HandsNothing lengths answer × (after ≡ room)) → Answers asked bytes before room after lengths answer
  answers (Ok report) lengths stands out nothing = inl (
    record { outcome = report.status; text = report.text; image = plain_image new },
    record { old = old; new = new; was = was; is = refl; stands = stands },
    out,
  )
  answers (Err error) lengths stands out nothing = inr (nothing refl)

  pub answers_text : (report : Result Report E) (count : ℕ) → IfOk report (λ r. Stands plain old new (Some bytes) 0 0 asked r.status r.text)
      → IfOk report (λ r. (count ≡ length r.text) × IsHanded (code_of r.status) r.text room after answer)
      → (IsErr report → (count ≡ 0) × (after ≡ room) × (answer ≡ code_of status.NoMemory)) → AnswersText asked bytes before room after count answer
  answers_text (Ok report) count stands out nothing = inl (
    record { outcome = report.status; text = report.text; image = plain_image new },
    record { old = old; new = new; was = was; is = refl; stands = stands },
    out.0,
    out.1,
  )
  answers_text (Err error) count stands out nothing = let none = nothing refl in inr (none.0, none.2, none.1)
