use Rattle.std.proofs.Common.{◌≡◌, ◌++◌, take, flat_map}
use Rattle.cf_next.specs.Facts.{keepings_by, starts_for}
use Rattle.cf_next.proofs.removals.add_resources.Given as goal

abbrev pub invariant-loop-held : goal.invariant-loop-held
invariant-loop-held l =
    (l.starts ≡ l.fn.starts ++ flat_map (starts_for l.stage l.facts) (take l.held-index l.helds))
    × (l.keepings ≡ l.fn.keepings ++ flat_map (keepings_by l.stage l.facts) (take l.held-index l.helds))
