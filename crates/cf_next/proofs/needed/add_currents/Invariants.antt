use Rattle.std.proofs.Common.{◌≡◌, take, fold}
use Rattle.cf_next.specs.Needed.{with_id}
use Rattle.cf_next.proofs.needed.add_currents.Given as goal

abbrev pub invariant-loop-held : goal.invariant-loop-held
invariant-loop-held l = l.ids ≡ fold with_id l.fn.ids (take l.held-index l.helds)
