use Rattle.std.proofs.Common.{◌≡◌, ◌+◌, ◌≤◌, ◌++◌, map, vec_len, vec_capacity}
use Rattle.std.specs.Vec.Iter.{into_iter_items, into_iter_len}
use Rattle.cf_book.specs.Fences.{handed_in}
use Rattle.cf_book.specs.Inside.{places_now}
use Rattle.cf_book.specs.State.{at_home}
use Rattle.cf_book.proofs.entering.places_for.Given as goal

-- the places so far, and behind them those of the lanes that are left, are all; and there is room for these
abbrev pub invariant-loop-lane : goal.invariant-loop-lane
invariant-loop-lane g l = record {
  placed : places_now g.H.Handler l.places.items ++ map at_home (handed_in g.H.Handler (into_iter_items l.rest)) ≡ map at_home (handed_in g.H.Handler l.fn.lanes.items);
  room : vec_len l.places + into_iter_len l.rest ≤ vec_capacity l.places;
}

abbrev pub decreases-loop-lane : goal.decreases-loop-lane
decreases-loop-lane g l = into_iter_len l.rest
