use Rattle.std.proofs.Common.{◌∙◌}
use Rattle.cf_graph.proofs.Needed.{needed}
use Rattle.cf_graph.proofs.needs.needs_of_each.Goals as goal

pub returns : goal.returns
returns c = needed c.args.template.now c.args.conds.now c.as_slice.result.now c.in_ok-all.all.items (c.as_slice.ensures.value ∙ c.in_ok-made.ensures) c.in_ok-all.ensures
