use Rattle.std.proofs.Common.{◌≡◌, ◌+◌, ◌≤◌, [], ◌++◌, map, vec_len, vec_capacity}
use Rattle.std.specs.Vec.Iter.{into_iter_items, into_iter_len}
use Rattle.cf_lane.specs.Lanes.{lane_with}
use Rattle.cf_book.specs.Inside.{places_now}
use Rattle.cf_book.specs.State.{BookLane, NoneOut}
use Rattle.cf_book.proofs.place.handlers_of.Given as goal

-- the handlers so far, and behind them those of the lanes that are left, are all; and there is room for these
abbrev pub invariant-loop-place : goal.invariant-loop-place
invariant-loop-place g l = record {
  given : map (λ h. lane_with g.H.Handler h []) l.handlers.items ++ map (λ (b : BookLane). record b.lane { log = [] }) (places_now g.H.Handler (into_iter_items l.rest))
      ≡ map (λ (b : BookLane). record b.lane { log = [] }) (places_now g.H.Handler l.fn.places.items);
  home : NoneOut (places_now g.H.Handler (into_iter_items l.rest));
  room : vec_len l.handlers + into_iter_len l.rest ≤ vec_capacity l.handlers;
}

abbrev pub decreases-loop-place : goal.decreases-loop-place
decreases-loop-place g l = into_iter_len l.rest
