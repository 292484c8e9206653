-- What a crash may leave during a command, from its opening and its run.
use Rattle.std.proofs.Common.{◌≡◌, inl, inr, ℕ, List, None, Result, Ok, Err, ◌∙◌}
use Rattle.cf_disk.specs.declared.disk.Disk.{Ghosts as DiskGhosts}
use Rattle.cf_effect.specs.World.{StackState}
use Rattle.cf_book.specs.State.{BookNow}
use Rattle.cf_face.specs.declared.exit.Exit.{Exit}
use Rattle.cf_face.specs.declared.words.Task.{Task}
use Rattle.cf_top.specs.Outside.{LeavesBook}
use Rattle.cf_workers.specs.Ordering.{schemas_in}
use Rattle.cf_top.specs.Refusals.{LibraryUse}
use Rattle.cf_workers.proofs.Along.{DoubtsNext, no_doubt, run_next}

-- What a task leaves in doubt comes next behind the entries that were acknowledged.
module _ {D : Type 0} (g : DiskGhosts D) where
  pub leaves_next : (o : LibraryUse) (entered ended : BookNow D) (name : List ℕ) (t : Task) (outcome : Result StackState Exit) → entered.doubt ≡ None
      → LeavesBook g o entered ended name t outcome → DoubtsNext g (schemas_in entered.lanes) ended
  leaves_next o entered ended name t (Ok st) none (status, does, stack) = no_doubt g (schemas_in entered.lanes) ended stack.rest.certain
  leaves_next o entered ended name t (Err x) none (inl (refused, still), never) = no_doubt g (schemas_in entered.lanes) ended (still.0.doubt ∙ none)
  leaves_next o entered ended name t (Err x) none (inr (ordered, is, (f, exits, runs)), never) = run_next g entered ended ordered f is.prepared none runs
