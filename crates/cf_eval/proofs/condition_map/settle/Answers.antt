use Rattle.std.proofs.Common.{◌≤◌, sym, subst, arith}
use Rattle.cf_eval.specs.Deciding.{left_of}
use Rattle.cf_eval.proofs.Noting.{all_left}
use Rattle.cf_eval.proofs.condition_map.settle.Goals as goal

pub descend-requires-clause-enough : goal.descend-requires-clause-enough
descend-requires-clause-enough c =
    subst (λ u. left_of u c.args.context.now.conds.now ≤ c.len-left.result) (sym c.new-under.ensures.items) (omega (arith, all_left c.args.context.now.conds.now, c.len-left.ensures))
