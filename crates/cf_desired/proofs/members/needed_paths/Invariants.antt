use Rattle.std.proofs.Common.{◌≡◌, [], take}
use Rattle.std.specs.Prelude.{fold}
use Rattle.cf_desired.specs.Shape.{put_name, stood_for}
use Rattle.cf_desired.proofs.members.needed_paths.Given as goal

abbrev pub invariant-loop-id : goal.invariant-loop-id
invariant-loop-id l = l.paths ≡ fold put_name [] (stood_for l.stands (take l.id-index l.id-items))
