use Rattle.std.proofs.Common.{◌≡◌, ◌-◌, ◌≤◌, ℕ, None, length, vec_len}
use Rattle.cf_effect.specs.Undoing.{id_at}
use Rattle.cf_effect.proofs.undoing.no_ids.Given as goal

abbrev pub invariant-places : goal.invariant-places
invariant-places l = (length l.ids.items ≤ l.count) × ((at : ℕ) → id_at l.ids.items at ≡ None)

abbrev pub decreases-places : goal.decreases-places
decreases-places l = l.count - vec_len l.ids
