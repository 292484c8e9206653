use Rattle.std.proofs.Common.{◌≡◌, take}
use Rattle.cf_desired.specs.Kept.{kept_stack_in}
use Rattle.cf_desired.specs.Listed.{stands_by}
use Rattle.cf_desired.proofs.laying.first_stands.Given as goal

abbrev pub invariant-loop-id : goal.invariant-loop-id
invariant-loop-id l = l.stands ≡ stands_by (kept_stack_in l.stack) (take l.id-index l.id-items)
