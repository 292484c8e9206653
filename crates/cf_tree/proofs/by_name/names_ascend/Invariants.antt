use Rattle.std.proofs.Common.{◌≡◌, drop, option_map}
use Rattle.cf_tree.specs.Keys.{ascends, ascends_after}
use Rattle.cf_tree.proofs.by_name.names_ascend.Given as goal

abbrev pub invariant-loop-pair : goal.invariant-loop-pair
invariant-loop-pair g l = ascends l.pairs ≡ ascends_after (option_map (λ t. t.now) l.before) (drop l.pair-index l.pairs)
