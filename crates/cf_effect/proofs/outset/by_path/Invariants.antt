use Rattle.std.proofs.Common.{◌≡◌, [], fold}
use Rattle.cf_effect.specs.Outset.{put_terms}
use Rattle.cf_effect.proofs.outset.by_path.Given as goal

abbrev pub invariant-loop-path : goal.invariant-loop-path
invariant-loop-path l = l.terms ≡ fold put_terms [] l.yielded
