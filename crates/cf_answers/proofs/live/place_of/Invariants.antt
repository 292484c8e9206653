use Rattle.std.proofs.Common.{◌≡◌, drop}
use Rattle.std.specs.List.{list_any}
use Rattle.cf_answers.specs.Live.{has_this_id}
use Rattle.cf_answers.proofs.live.place_of.Given as goal

abbrev pub invariant-loop-at : goal.invariant-loop-at
invariant-loop-at l = list_any (has_this_id l.id) l.live ≡ list_any (has_this_id l.id) (drop l.at l.live)
