use Rattle.cf_graph.proofs.Sets.{has_more}
use Rattle.cf_graph.proofs.needs.add_places.Goals as goal

pub loop-place-preserved : goal.loop-place-preserved
loop-place-preserved c = has_more c.args.found.now c.loop-place.found c.insert.new.self c.args.places.now c.loop-place.place-index c.loop-place-test.true c.in_ok-insert.ensures.updates c.loop-place.invariant
