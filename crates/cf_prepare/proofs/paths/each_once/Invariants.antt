use Rattle.std.proofs.Common.{◌≡◌, [], drop, fold}
use Rattle.cf_desired.specs.Shape.{put_name}
use Rattle.cf_prepare.proofs.paths.each_once.Given as goal

abbrev pub invariant-loop-name : goal.invariant-loop-name
invariant-loop-name l = fold put_name l.each (drop l.name-index l.names) ≡ fold put_name [] l.names
