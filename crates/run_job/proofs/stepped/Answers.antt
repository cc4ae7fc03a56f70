-- `run_job::stepped`: the report's refusal decides, as in the definition.
-- Assumes nothing.
use mathlib.Core.Path.{refl, sym, ◌∙◌}
use Rattle.laws.proofs.Call.{left-accepted, left-refused}
use Rattle.run.specs.Run.{run_of}
use Rattle.run_job.proofs.stepped.Goals as goal

pub returns-then-report-ne0 : goal.returns-then-report-ne0
returns-then-report-ne0 c = let r = c.args.report in
    record { same = refl; run_after = sym (left-refused r.refusal (run_of r.models c.args.run.flag c.args.run.form) c.args.run c.if-report-ne0.true) }

pub returns : goal.returns
returns c = let r = c.args.report in record {
  same = refl;
  run_after = c.step_to-next.ensures ∙ sym (left-accepted r.refusal (run_of r.models c.args.run.flag c.args.run.form) c.args.run c.if-report-ne0.false);
}
