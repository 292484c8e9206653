use Rattle.std.proofs.Common.{◌≡◌, ◌-◌, length, take, true}
use Rattle.cf_ready.specs.Ready.{are_made_in}
use Rattle.cf_ready.proofs.ready.met_from.Given as goal

abbrev pub invariant-needs : goal.invariant-needs
invariant-needs l = are_made_in l.made (take l.from l.needs) ≡ true → are_made_in l.made (take l.met l.needs) ≡ true

abbrev pub decreases-needs : goal.decreases-needs
decreases-needs l = length l.needs - l.met
