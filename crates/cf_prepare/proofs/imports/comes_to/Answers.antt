use Rattle.std.proofs.Common.{ap, ◌∙◌}
use Rattle.cf_desired.specs.declared.wanted.Plan.{Plan}
use Rattle.cf_prepare.specs.Same.{same_plan}
use Rattle.cf_prepare.proofs.SamePlans.{plans_decide}
use Rattle.cf_prepare.proofs.imports.comes_to.Goals as goal

pub returns : goal.returns
returns c =
    plans_decide c.args.source.now c.args.seen.now c.args.wanted.now c.same_plan-same.result c.requires.flawless
    (c.same_plan-same.ensures ∙ ap (λ (p : Plan). same_plan p c.args.wanted.now) c.in_ok-other.ensures)
