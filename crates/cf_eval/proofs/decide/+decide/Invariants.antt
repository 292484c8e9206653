use Rattle.std.proofs.Common.{◌≡◌, ◌+◌, ◌*◌}
use Rattle.cf_eval.specs.Deciding.{context_scope, open_of}
use Rattle.cf_eval.proofs.Noting.{IsDeciding}
use Rattle.cf_eval.proofs.decide.+decide.Given as goal

abbrev pub decreases-decide : goal.decreases-decide
decreases-decide l = 3 * l.left + 2

abbrev pub decreases-enter : goal.decreases-enter
decreases-enter l = 3 * l.left + 1

abbrev pub decreases-descend : goal.decreases-descend
decreases-descend l = 3 * l.left

abbrev pub decreases-decide-deciding : goal.decreases-decide-deciding
decreases-decide-deciding l = open_of l.done l.context.conds.now

abbrev pub invariant-decide-deciding : goal.invariant-decide-deciding
invariant-decide-deciding l = IsDeciding (context_scope l.context) l.context.conds.now l.initial.under.items l.initial.done l.done × (l.under.items ≡ l.initial.under.items)
