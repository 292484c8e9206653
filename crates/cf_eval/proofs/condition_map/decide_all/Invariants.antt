use Rattle.std.proofs.Common.{◌≡◌, ◌++◌, map, drop, false}
use Rattle.cf_eval.specs.Outcome.{each}
use Rattle.cf_eval.specs.Conditions.{verdict_found}
use Rattle.cf_eval.specs.Deciding.{AreNotedRight, context_scope, noted_of}
use Rattle.cf_eval.proofs.Each.{each_after}
use Rattle.cf_eval.proofs.Settling.{IsSettling}
use Rattle.cf_eval.proofs.condition_map.decide_all.Given as goal

abbrev pub invariant-loop-condition : goal.invariant-loop-condition
invariant-loop-condition l = IsSettling (context_scope l.context) l.context.conds.now l.done l.verdicts.items (drop l.condition-index l.condition-items)
