-- The live resources of a set, and what a settled call makes of them (this project's own).
use Rattle.std.specs.Prelude.{Bool, true, false, List}
use Rattle.cf_tree.specs.declared.request.Request.{Request}
use Rattle.cf_handler.specs.Lane.{Live, live_changed}
use Rattle.cf_handler.specs.declared.settled.Settlement.{Settlement}
use Rattle.cf_answers.specs.declared.live_set.LiveSet.{LiveSet}
use Rattle.cf_answers.specs.Live.{lives}

abbrev pub lives_in : LiveSet → List Live
lives_in s = lives s.live.items

-- changed where it is done
abbrev pub changed_where : Bool → Request → Settlement → List Live → List Live
changed_where true request s live = live_changed request s live
changed_where false request s live = live
