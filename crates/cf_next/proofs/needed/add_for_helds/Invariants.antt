use Rattle.std.proofs.Common.{◌≡◌, ◌++◌, take, flat_map}
use Rattle.cf_next.specs.Needed.{for_held}
use Rattle.cf_next.proofs.needed.add_for_helds.Given as goal

abbrev pub invariant-loop-held : goal.invariant-loop-held
invariant-loop-held l = l.needed ≡ l.fn.needed ++ flat_map (for_held l.ids) (take l.held-index l.helds)
