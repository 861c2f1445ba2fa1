use Rattle.std.proofs.Common.{◌∙◌, sym}
use Rattle.sw_tables.specs.Lent.{lent}
use Rattle.sw_work.proofs.Working.{made_shown, script_changed, script_kept}
use Rattle.sw_work.proofs.fetches.script_fetched.Goals as goal

pub returns-then-is_same_script-clause-comes : goal.returns-then-is_same_script-clause-comes
returns-then-is_same_script-clause-comes c = λ scopes of_clients rest. record {
  comes =
      script_kept (lent scopes c.args.workers.now c.args.registrations.now of_clients rest) c.args.row.now c.args.registration c.args.script.now
      c.requires.script (sym (c.is_same_script.ensures scopes of_clients rest) ∙ c.if-is_same_script.true);
  worker = λ changed. absurd cc;
}

pub returns-clause-comes : goal.returns-clause-comes
returns-clause-comes c = λ scopes of_clients rest. record {
  comes =
      script_changed (lent scopes c.args.workers.now c.args.registrations.now of_clients rest) c.args.row.now c.args.registration c.args.script.now
      c.requires.script (sym (c.is_same_script.ensures scopes of_clients rest) ∙ c.if-is_same_script.false);
  worker = λ changed.
      made_shown scopes c.args.workers.now c.args.registrations.now of_clients rest c.args.row.now c.args.registration c.args.script.now
      c.in_ok-worker.worker c.in_ok-worker.ensures.row;
}
