use Rattle.std.proofs.Common.{◌≡◌, ℕ, ◌-◌, ◌≤◌, false, length, vec_len}
use Rattle.cf_effect.specs.Laying.{is_user}
use Rattle.cf_effect.proofs.layout.no_users.Given as goal

abbrev pub invariant-loop-alloc : goal.invariant-loop-alloc
invariant-loop-alloc l = (length l.users.items ≤ l.count) × ((at other : ℕ) → is_user other at l.users.items ≡ false)

abbrev pub decreases-loop-alloc : goal.decreases-loop-alloc
decreases-loop-alloc l = l.count - vec_len l.users
