use Rattle.std.proofs.Common.{◌≡◌, take}
use Rattle.std.specs.Prelude.{fold}
use Rattle.cf_desired.specs.Shape.{put_name}
use Rattle.cf_desired.proofs.members.add_names.Given as goal

abbrev pub invariant-loop-name : goal.invariant-loop-name
invariant-loop-name l = l.paths ≡ fold put_name l.fn.paths (take l.name-index l.name-items)
