-- The fault of an answer that a refused page gives.
use Rattle.std.specs.Prelude.{None}
use Rattle.sw_data.specs.declared.answers.Cause.TheVariants as cause
use Rattle.sw_data.specs.declared.answers.Fault.{Fault}
use Rattle.sw_data.specs.declared.answers.Fault.TheVariants as fault
use Rattle.sw_data.specs.declared.answers.SecurityCause.TheVariants as security
use Rattle.sw_url.specs.declared.page.PageFault.{PageFault}
use Rattle.sw_url.specs.declared.page.PageFault.TheVariants.{Unparsed, Scheme, Untrusted}

-- own: the fault that a refusal of a page is
abbrev pub fault_of : PageFault → Fault
fault_of Unparsed = fault.TypeError cause.Unparsed None
fault_of Scheme = fault.TypeError cause.Scheme None
fault_of Untrusted = fault.SecurityError security.Untrusted
