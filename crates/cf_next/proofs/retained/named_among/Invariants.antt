use Rattle.std.proofs.Common.{◌≡◌, take, flat_map}
use Rattle.cf_next.specs.Repeats.{own_named_in}
use Rattle.cf_next.proofs.retained.named_among.Given as goal

abbrev pub invariant-loop-heard : goal.invariant-loop-heard
invariant-loop-heard l = l.paths ≡ flat_map (own_named_in l.operation) (take l.heard-index l.entries)
