use Rattle.std.proofs.Common.{take}
use Rattle.cf_effect.specs.Laying.{JoinsUsers}
use Rattle.cf_effect.proofs.layout.add_users.Given as goal

abbrev pub invariant-loop-at : goal.invariant-loop-at
invariant-loop-at l = JoinsUsers (take l.at-index l.needs) l.other l.fn.users.items l.users.items
