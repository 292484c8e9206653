-- Each entry that may be written keeps what the journal says of each stack's calls and resources (this project's own).
use Rattle.std.specs.Prelude.{◌≡◌, ℕ, ◌||◌, IsTrue, List, [], Some, None, ⊤}
use Rattle.cf_tree.specs.declared.request.Request.{Request}
use Rattle.cf_tree.specs.declared.request.Request.TheVariants as request
use Rattle.cf_entry.specs.declared.entry.Entry.{Entry}
use Rattle.cf_entry.specs.declared.entry.Entry.TheVariants as entry
use Rattle.cf_entry.specs.declared.entry.Reply.TheVariants as reply
use Rattle.cf_entry.specs.declared.status.Status.TheVariants as status
use Rattle.cf_handler.specs.Move.{IsOfLane}
use Rattle.cf_schema.specs.declared.described.Schema.{Schema}
use Rattle.cf_effect.specs.declared.held.Held.{Held}
use Rattle.cf_effect.specs.declared.held.Pending.{Pending}
use Rattle.cf_effect.specs.World.{StackState, World, known_stack, stack_at, stack_of_operation}
use Rattle.cf_effect.specs.Words.{id_named, pending_of}
use Rattle.cf_stacks.specs.Apart.{AreApart}
use Rattle.cf_effect.specs.Fold.{world_after}
use Rattle.cf_plan.specs.Accept.{creates_from}
use Rattle.cf_tree.specs.Lists.{In}
use Rattle.cf_plan.specs.Follow.{MayFollow, updates_from}
use Rattle.cf_core.specs.Fits.{Fits, IsNew, IsWritten}

-- an open call that a continued rollback may give up: a create, or an update of what is held at its path
abbrev pub IsGivenUpIn : StackState → Pending → Request → Type 0
IsGivenUpIn s p (request.Create kind props) = ⊤
IsGivenUpIn s p (request.Update physical props) = (h : Held) × In h s.held × (h.physical ≡ physical) × (h.path ≡ p.path)
IsGivenUpIn s p (request.Delete physical) = ⊥

-- What the course of its operations gives of a stack: no call is open and nothing is made where a creation or an update
-- begins; in the rollback of an update what was held before is still held; and what a continued rollback may give up.
pub record IsSteady (s : StackState) : Type 0 where
  pub rests : IsTrue (creates_from s.status || updates_from s.status) → (s.tokens ≡ []) × (s.made ≡ [])
  pub restores :
      s.status ≡ status.UpdateRollbackInProgress → (b : Held) → In b s.before → (h : Held) × In h s.held × (h.physical ≡ b.physical)
      × (h.path ≡ b.path)
  pub gives_up : s.status ≡ status.UpdateRollbackFailed → (p : Pending) → In p s.tokens → IsGivenUpIn s p p.request

abbrev pub AreSteady : World → Type 0
AreSteady x = (name : List ℕ) (s : StackState) → stack_at name x ≡ Some s → IsSteady s

-- what an open create made has an id of its lane
abbrev pub IsOfItsLane : World → Entry → Type 0
IsOfItsLane x (entry.Outcome number token (reply.Success physical attrs) before after) =
    (name : List ℕ) (s : StackState) (p : Pending) → stack_of_operation number x ≡ Some (name, s) → pending_of token s ≡ Some p
    → id_named p.request ≡ None → IsOfLane p.lane physical
IsOfItsLane x e = ⊤

abbrev pub AllFit : World → Type 0
AllFit x = (name : List ℕ) (s : StackState) → stack_at name x ≡ Some s → Fits x s

-- every stack fits after the entry
abbrev pub FitsKept : Type 0
FitsKept =
    (schemas : List Schema) (x : World) (out : List ℕ) (e : Entry) → MayFollow schemas x out e → IsNew x e → IsOfItsLane x e → AreApart x
    → AreSteady x → AllFit x → AllFit (world_after x e)

-- and so each entry is written, for every stack that is there after it
abbrev pub EachIsWritten : Type 0
EachIsWritten =
    (schemas : List Schema) (x : World) (out : List ℕ) (e : Entry) → MayFollow schemas x out e → IsNew x e → IsOfItsLane x e → AreApart x
    → AreSteady x → AllFit x → (name : List ℕ) (t : StackState) → stack_at name (world_after x e) ≡ Some t
    → IsWritten schemas x out e name (known_stack name x) t
