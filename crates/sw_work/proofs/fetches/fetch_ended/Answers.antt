-- The script that the fetch gave has no fault, or it is rejected for its first.
use Rattle.std.proofs.Common.{◌≡◌, ◌∙◌, Option, option_copied, ap, subst, sym, arith}
use Rattle.std.specs.Prelude.{Ok, Err}
use Rattle.std.proofs.lemmas.Result.{IfOk-weaker}
use Rattle.sw_data.specs.declared.recordings.Fetched.{Fetched}
use Rattle.sw_install.proofs.FetchEnds.{script_given}
use Rattle.sw_install.specs.Fetches.{IsOutcome}
use Rattle.sw_rules.specs.Installing.{script_of}
use Rattle.sw_tables.specs.Lent.{lent}
use Rattle.sw_work.proofs.Working.{script_rejected}
use Rattle.sw_work.proofs.fetches.fetch_ended.Goals as goal

pub script_fetched-requires-clause-script : goal.script_fetched-requires-clause-script
script_fetched-requires-clause-script c =
    let found : script_of c.args.row.now.job (option_copied c.args.fetched) ≡ Ok c.in-Ok.script.now = grind (arith, c.in_ok-script.ensures, c.in-Ok.is) in
    ap (script_of c.args.row.now.job) (sym (script_given c.args.row.now.job (option_copied c.args.fetched) c.in-Ok.script.now found)) ∙ found

pub returns-in-Ok-clause-comes : goal.returns-in-Ok-clause-comes
returns-in-Ok-clause-comes c =
    let found : script_of c.args.row.now.job (option_copied c.args.fetched) ≡ Ok c.in-Ok.script.now = grind (arith, c.in_ok-script.ensures, c.in-Ok.is) in
    IfOk-weaker c.script_fetched.result _ _
    (λ outcome comes scopes of_clients rest.
    subst (λ (f : Option Fetched). IsOutcome outcome.0 outcome.1 (lent scopes c.args.workers.now c.args.registrations.now of_clients rest) c.args.row.now f c.args.registration)
    (sym (script_given c.args.row.now.job (option_copied c.args.fetched) c.in-Ok.script.now found)) (comes scopes of_clients rest))
    c.script_fetched.ensures.comes

pub returns-in-Err-clause-comes : goal.returns-in-Err-clause-comes
returns-in-Err-clause-comes c = λ scopes of_clients rest.
    let found : script_of c.args.row.now.job (option_copied c.args.fetched) ≡ Err c.in-Err.why = grind (arith, c.in_ok-script.ensures, c.in-Err.is) in
    record {
      comes =
          script_rejected (lent scopes c.args.workers.now c.args.registrations.now of_clients rest) c.args.row.now c.args.registration (option_copied c.args.fetched)
          c.in-Err.why found;
      worker = λ changed. absurd cc;
    }
