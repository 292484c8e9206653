use Rattle.std.proofs.Common.{◌∙◌}
use Rattle.cf_next.proofs.FactsTold.{told_policies}
use Rattle.cf_next.proofs.facts.policies_for.Goals as goal

pub returns-in-Clean : goal.returns-in-Clean
returns-in-Clean c =
    told_policies c.args.stage c.args.stack.now.stack c.as_slice.result.now c.policies_of.result c.in-Clean.is (c.as_slice.ensures.value ∙ c.held.ensures)
    c.policies_of.ensures
