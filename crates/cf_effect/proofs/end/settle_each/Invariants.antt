use Rattle.std.proofs.Common.{◌≡◌, ◌++◌, map, take}
use Rattle.cf_effect.specs.Settling.{settled_among}
use Rattle.cf_effect.proofs.end.settle_each.Given as goal

abbrev pub invariant-loop-held : goal.invariant-loop-held
invariant-loop-held l =
    l.all.items ≡ l.fn.all.items ++ map (settled_among l.settling.wanted l.settling.made l.settling.held) (take l.held-index l.helds)
