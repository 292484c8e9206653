use Rattle.std.proofs.Common.{◌-◌, ◌≤◌, length, vec_len}
use Rattle.cf_effect.specs.Following.{IsNothing}
use Rattle.cf_effect.proofs.findings.nothing_found.Given as goal

abbrev pub invariant-places : goal.invariant-places
invariant-places l = (length l.found.items ≤ l.count) × IsNothing l.found.items

abbrev pub decreases-places : goal.decreases-places
decreases-places l = l.count - vec_len l.found
