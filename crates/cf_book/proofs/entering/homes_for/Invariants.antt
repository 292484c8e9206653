use Rattle.std.proofs.Common.{◌≡◌, take, true}
use Rattle.std.specs.List.{list_all}
use Rattle.cf_handler.specs.Name.{is_lane_name}
use Rattle.cf_book.specs.Fences.{handed_in}
use Rattle.cf_book.specs.Finding.{homes_in}
use Rattle.cf_book.proofs.entering.homes_for.Given as goal

abbrev pub invariant-loop-lane : goal.invariant-loop-lane
invariant-loop-lane g l = record {
  homes : l.homes ≡ homes_in (handed_in g.H.Handler (take l.lane-index l.lanes));
  named : list_all (λ l. is_lane_name l.name) (handed_in g.H.Handler (take l.lane-index l.lanes)) ≡ true;
}
