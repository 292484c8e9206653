-- Which steps are due in an operation while the leases of some tokens are out: all that may follow (this project's own order).
use Rattle.std.specs.Prelude.{◌≡◌, ℕ, Bool, true, false, ◌&&◌, not, List, [], ◌∷◌, Some, IsTrue}
use Rattle.std.specs.List.{list_all}
use Rattle.cf_tree.specs.declared.request.Request.{Request}
use Rattle.cf_tree.specs.declared.request.Request.TheVariants as request
use Rattle.cf_schema.specs.declared.described.Schema.{Schema}
use Rattle.cf_entry.specs.declared.entry.Entry.TheVariants as entry
use Rattle.cf_effect.specs.World.{StackState, World}
use Rattle.cf_effect.specs.Status.{Stage, stage_of}
use Rattle.cf_tree.specs.Lists.{In}
use Rattle.cf_plan.specs.Follow.{MayFollow, MayFollowIn, MayIntend, MayRepeat, MayRepeatOn}
use Rattle.cf_next.specs.declared.step.Next.{Next}
use Rattle.cf_next.specs.declared.step.Next.TheVariants as next
use Rattle.cf_next.specs.Chosen.{is_placed_before, step_place}

-- a new call is due where its Intent may follow; a create names no lane, and is due where its Intent may follow on some lane
abbrev pub IsCallDue : List Schema → World → List ℕ → ℕ → List ℕ → List ℕ → ℕ → Request → Type 0
IsCallDue schemas x out number path lane token (request.Create k props) =
    (lane ≡ []) × (home : List ℕ) × MayFollow schemas x out (entry.Intent number token home path (request.Create k props))
IsCallDue schemas x out number path lane token r = MayFollow schemas x out (entry.Intent number token lane path r)

-- A step is due where it is a repeat that may be made, or where what is written of it may follow.
abbrev pub IsDue : List Schema → World → List ℕ → ℕ → Next → Type 0
IsDue schemas x out number (next.Step path lane token r true) =
    MayRepeatOn schemas x out number (record { token = token; path = path; lane = lane; request = r })
IsDue schemas x out number (next.Step path lane token r false) = IsCallDue schemas x out number path lane token r
IsDue schemas x out number (next.Keep path physical w) = MayFollow schemas x out (entry.Kept number path physical w)
IsDue schemas x out number (next.Turn p cause) = MayFollow schemas x out (entry.Phase number p cause)
IsDue schemas x out number (next.End state failed) = MayFollow schemas x out (entry.Done number state failed)
IsDue schemas x out number next.Wait = ⊥

-- the same on the stack of the operation, in its stage
abbrev pub IsCallDueIn : List Schema → List ℕ → World → List ℕ → StackState → Stage → List ℕ → List ℕ → ℕ → Request → Type 0
IsCallDueIn schemas name x out s stage path lane token (request.Create k props) =
    (lane ≡ []) × (home : List ℕ) × MayIntend schemas name x out s stage token home path (request.Create k props)
IsCallDueIn schemas name x out s stage path lane token r = MayIntend schemas name x out s stage token lane path r

abbrev pub IsDueIn : List Schema → List ℕ → World → List ℕ → StackState → Stage → Next → Type 0
IsDueIn schemas name x out s stage (next.Step path lane token r true) =
    MayRepeat schemas name x out s stage (record { token = token; path = path; lane = lane; request = r })
IsDueIn schemas name x out s stage (next.Step path lane token r false) = IsCallDueIn schemas name x out s stage path lane token r
IsDueIn schemas name x out s stage (next.Keep path physical w) =
    MayFollowIn schemas name x out s stage (entry.Kept s.operation path physical w)
IsDueIn schemas name x out s stage (next.Turn p cause) = MayFollowIn schemas name x out s stage (entry.Phase s.operation p cause)
IsDueIn schemas name x out s stage (next.End state failed) = MayFollowIn schemas name x out s stage (entry.Done s.operation state failed)
IsDueIn schemas name x out s stage next.Wait = ⊥

-- none of the list precedes an earlier one
abbrev pub is_step_before : Next → Next → Bool
is_step_before a b = is_placed_before (step_place a) (step_place b)

abbrev pub are_in_order : List Next → Bool
are_in_order [] = true
are_in_order (n ∷ ns) = list_all (λ m. not (is_step_before m n)) ns && are_in_order ns

-- none of the list comes in it again
abbrev pub AreOnce : List Next → Type 0
AreOnce [] = Unit {0}
AreOnce (n ∷ ns) = (In n ns → ⊥) × AreOnce ns

-- These are all the steps that are due in the operation of this number, and no others, each once, in the order of steps.
pub record AreDue (schemas : List Schema) (x : World) (out : List ℕ) (number : ℕ) (dues : List Next) : Type 0 where
  pub due : (n : Next) → In n dues → IsDue schemas x out number n
  pub all : (n : Next) → IsDue schemas x out number n → In n dues
  pub once : AreOnce dues
  pub ordered : IsTrue (are_in_order dues)

-- these are all on the stack of the operation, in its stage
pub record AreDueIn (schemas : List Schema) (name : List ℕ) (x : World) (out : List ℕ) (s : StackState) (stage : Stage)
    (dues : List Next) : Type 0 where
  pub due : (n : Next) → In n dues → IsDueIn schemas name x out s stage n
  pub all : (n : Next) → IsDueIn schemas name x out s stage n → In n dues
  pub once : AreOnce dues
  pub ordered : IsTrue (are_in_order dues)

-- on the stack of the operation in progress, whichever its stage
abbrev pub AreDueOn : List Schema → List ℕ → World → List ℕ → StackState → List Next → Type 0
AreDueOn schemas name x out s dues = (stage : Stage) → stage_of s.status ≡ Some stage → AreDueIn schemas name x out s stage dues
