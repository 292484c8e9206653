use Rattle.cf_effect.proofs.Laid.{AreUsersTo}
use Rattle.cf_effect.proofs.layout.users_of.Given as goal

abbrev pub invariant-loop-other : goal.invariant-loop-other
invariant-loop-other l = AreUsersTo l.rows l.other l.users.items
