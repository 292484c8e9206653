-- How the status of a stack moves with each entry that is written.
use Rattle.std.proofs.Common.{◌≡◌, ℕ, ◌+◌, List, Option, Some, None, sym, subst, true≢false}
use Rattle.cf_core.proofs.Words.{Begun, Cause, EndsAs, Entry, Forward, IsMove, MayTurn, Phase, Schema, StackState, Status, World, begins_from, begun, ends, reviewed as review, stage_of, stays as goes_on, turned, turns}
use Rattle.cf_core.proofs.Moving.{written_moves}
use Rattle.cf_core.proofs.Statuses.{begun_status, ended_status, turned_status}
use Rattle.cf_core.specs.Moving.{begins, other, reviewed as is_reviewed}
use Rattle.cf_core.specs.StatusMoves.{StatusMoves, WrittenMovesStatus, stays, reviewed, creates, updates, deletes, continues, creation_back, created, unmade, unmaking_failed, cleans, updated, update_back, back_cleans, rolled_back, back_failed, deleted, deletion_failed}
use Rattle.std.specs.Prelude.{IsTrue}

-- an operation begins
begun_moves : (k : Begun) (a : Status) → IsTrue (begins_from k a) → StatusMoves a (begun k)
begun_moves (Begun.Create source) a from = creates from
begun_moves (Begun.Update source) a from = updates from
begun_moves (Begun.Delete paths) a from = deletes from
begun_moves (Begun.Continue paths) Status.UpdateRollbackFailed from = continues
begun_moves (Begun.Continue paths) a from = absurd (true≢false (sym from))

-- a change set is kept
review_moves : (a : Status) → StatusMoves a (review a)
review_moves Status.DeleteComplete = reviewed
review_moves a = stays

module _ (schemas : List Schema) (name : List ℕ) (x : World) (s : StackState) where
  -- a later phase begins
  forward_moves : (a : Status) → stage_of a ≡ Some Forward → StatusMoves a (turned a Phase.Back)
  forward_moves Status.CreateInProgress e = creation_back
  forward_moves Status.UpdateInProgress e = update_back
  forward_moves a e = let no : ⊥ = cc in absurd no

  phase_moves : (p : Phase) (why : Option Cause) → MayTurn schemas name x s p why → StatusMoves s.status (turned s.status p)
  phase_moves Phase.Clean None may = subst (λ (a : Status). StatusMoves a (turned a Phase.Clean)) (sym may.0) cleans
  phase_moves Phase.Clean (Some c) may = absurd may
  phase_moves Phase.Back (Some c) may = forward_moves s.status may.0
  phase_moves Phase.Back None may = absurd may
  phase_moves Phase.BackClean None may = subst (λ (a : Status). StatusMoves a (turned a Phase.BackClean)) (sym may.0) back_cleans
  phase_moves Phase.BackClean (Some c) may = absurd may

  -- an operation ends
  end_moves : (a b : Status) → EndsAs schemas name x s a b → StatusMoves a b
  end_moves Status.CreateInProgress Status.CreateComplete e = created
  end_moves Status.RollbackInProgress Status.RollbackComplete e = unmade
  end_moves Status.RollbackInProgress Status.RollbackFailed e = unmaking_failed
  end_moves Status.DeleteInProgress Status.DeleteComplete e = deleted
  end_moves Status.DeleteInProgress Status.DeleteFailed e = deletion_failed
  end_moves Status.UpdateCompleteCleanupInProgress Status.UpdateComplete e = updated
  end_moves Status.UpdateRollbackCompleteCleanupInProgress Status.UpdateRollbackComplete e = rolled_back
  end_moves Status.UpdateRollbackInProgress Status.UpdateRollbackFailed e = back_failed
  end_moves a b e = absurd e

  moves : {out : List ℕ} {e : Entry} {t : StackState} → IsMove schemas x out name s e t → StatusMoves s.status t.status
  moves (goes_on same) = subst (StatusMoves s.status) (sym same) stays
  moves (turns number p why q may) = subst (StatusMoves s.status) (sym (turned_status (x.place + 1) number p s why)) (phase_moves p why may)
  moves (ends number state failed stage q at may) = subst (StatusMoves s.status) (sym (ended_status (x.place + 1) number state failed s)) (end_moves s.status state may.2)
  moves (begins k from by) = subst (StatusMoves s.status) (sym (begun_status (x.place + 1) name (x.operation + 1) k s)) (begun_moves k s.status from)
  moves (is_reviewed number source rows outputs from) = review_moves s.status
  moves other = stays

pub status_moves : WrittenMovesStatus
status_moves schemas x out e name s t w = moves schemas name x s (written_moves w)
