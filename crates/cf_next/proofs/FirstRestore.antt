-- The first call that is found, of those that give back what is still to be given back.
use Rattle.std.proofs.Common.{◌≡◌, ℕ, ◌+◌, List, Some, None}
use Rattle.cf_ready.specs.Halved.{next_set}
use Rattle.cf_effect.specs.declared.restoring.Restoring.{Restoring}
use Rattle.cf_effect.specs.World.{StackState}
use Rattle.cf_plan.specs.Start.{Start}
use Rattle.cf_next.specs.Restores.{IsFirstRestore, NoneAwaited, restore_ranked}
use Rattle.cf_next.proofs.FirstLeft.{next_is_set, none_at_first, none_here, none_up_to}

module _ (homes : List (List ℕ × List ℕ)) (s : StackState) (r : Restoring) where
  pub none_yet : NoneAwaited homes s r 0
  none_yet = none_at_first r.awaited (restore_ranked homes s r)

  module _ (from rank : ℕ) (before : NoneAwaited homes s r from) (next : next_set r.awaited from ≡ Some rank) where
    pub none_more : restore_ranked homes s r rank ≡ None → NoneAwaited homes s r (rank + 1)
    none_more = none_here r.awaited (restore_ranked homes s r) from rank before next

    pub found_first : (a : Start) → restore_ranked homes s r rank ≡ Some a → IsFirstRestore homes s r a
    found_first a found = record {
      rank = rank;
      awaited = next_is_set r.awaited from rank next;
      found = found;
      first = none_up_to r.awaited (restore_ranked homes s r) from rank before next;
    }
