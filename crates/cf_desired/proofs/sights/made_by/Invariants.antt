use Rattle.std.proofs.Common.{◌≡◌, take}
use Rattle.cf_desired.specs.Listed.{made_by}
use Rattle.cf_desired.proofs.sights.made_by.Given as goal

abbrev pub invariant-loop-id : goal.invariant-loop-id
invariant-loop-id l = l.made ≡ made_by l.conds l.template (take l.id-index l.id-items)
