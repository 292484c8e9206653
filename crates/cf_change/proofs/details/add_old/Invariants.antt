use Rattle.std.proofs.Common.{◌≡◌, take, map, fold}
use Rattle.cf_tree.specs.Value.{pairs_of}
use Rattle.cf_desired.specs.Shape.{put_name}
use Rattle.cf_change.proofs.details.add_old.Given as goal

abbrev pub invariant-loop-pair : goal.invariant-loop-pair
invariant-loop-pair l = l.names ≡ fold put_name l.fn.names (map (λ p. p.0) (pairs_of (take l.pair-index l.pairs)))
