use Rattle.std.proofs.Common.{ap, sym, ◌∙◌}
use Rattle.cf_tree.specs.Keys.{ascends}
use Rattle.cf_plan.specs.Blaming.{BadPaths}
use Rattle.cf_plan.proofs.FailedPaths.{failing}
use Rattle.cf_plan.proofs.end.failed_paths.Goals as goal

pub returns : goal.returns
returns c =
    failing c.args.stack.now.stack c.in_ok-verdicts.verdicts c.bad_among.result
    (ap (λ (vs : BadPaths). ascends vs) (sym c.verdicts.view_is) ∙ c.verdicts.invariant) c.in_ok-verdicts.ensures c.bad_among.ensures
