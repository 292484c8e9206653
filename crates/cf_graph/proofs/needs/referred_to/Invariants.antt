use Rattle.std.proofs.Common.{◌≡◌, ◌++◌, drop}
use Rattle.cf_graph.proofs.needs.referred_to.Given as goal

abbrev pub invariant-loop-name : goal.invariant-loop-name
invariant-loop-name l = l.initial.names.items ++ l.resource.depends ≡ l.names.items ++ drop l.name-index l.name-items
