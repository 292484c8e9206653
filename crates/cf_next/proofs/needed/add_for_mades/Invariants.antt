use Rattle.std.proofs.Common.{◌≡◌, ◌++◌, take, flat_map}
use Rattle.cf_next.specs.Needed.{for_made}
use Rattle.cf_next.proofs.needed.add_for_mades.Given as goal

abbrev pub invariant-loop-held : goal.invariant-loop-held
invariant-loop-held l = l.needed ≡ l.fn.needed ++ flat_map (for_made l.ids l.stack.stack) (take l.held-index l.made)
