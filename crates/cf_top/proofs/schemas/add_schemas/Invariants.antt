use Rattle.std.proofs.Common.{◌≡◌, drop, map}
use Rattle.cf_top.specs.Lanes.{with_each}
use Rattle.cf_top.proofs.schemas.add_schemas.Given as goal

abbrev pub invariant-loop-lane : goal.invariant-loop-lane
invariant-loop-lane g l =
    with_each l.fn.schemas (map g.H.Handler.schema_of l.lanes) ≡ with_each l.schemas (map g.H.Handler.schema_of (drop l.lane-index l.lanes))
