-- How many calls, each under a token of its own, an operation makes at a path (this project's own; which call follows which is that of
-- the User Guide: stack updates, replacements, rollbacks, deletions).
use Rattle.std.specs.Prelude.{◌≡◌, ◌⊎◌, ◌≤◌, ℕ, Bool, true, false, ◌&&◌, ◌||◌, not, List, Some, filter, length}
use Rattle.std.specs.Str.{bytes_eq}
use Rattle.cf_tree.specs.Lists.{In}
use Rattle.cf_tree.specs.declared.code.Code.{Code}
use Rattle.cf_tree.specs.declared.request.Request.{Request}
use Rattle.cf_tree.specs.declared.request.Request.TheVariants as request
use Rattle.cf_entry.specs.declared.status.Status.{Status}
use Rattle.cf_entry.specs.declared.status.Status.TheVariants as status
use Rattle.cf_effect.specs.declared.call.Call.{Call}
use Rattle.cf_effect.specs.declared.call.Settled.TheVariants as settled
use Rattle.cf_effect.specs.declared.held.Held.{Held}
use Rattle.cf_effect.specs.declared.held.Pending.{Pending}
use Rattle.cf_effect.specs.Calls.{deletions_of, own_calls}
use Rattle.cf_effect.specs.Status.{Stage, goes_back, goes_forward}
use Rattle.cf_effect.specs.Words.{deletes, is_create, is_update, resources_of, updates}
use Rattle.cf_effect.specs.World.{StackState}
use Rattle.cf_plan.specs.Follow.{cleaned_in}
use Rattle.cf_plan.specs.Forward.{IsDone}
use Rattle.cf_core.specs.Books.{IsOpen}
use Rattle.cf_core.specs.GoesOn.{IsRefusedIn}
use Rattle.cf_core.specs.Tidying.{IsCleanup}

-- at this path the call creates; updates while the operation goes forward; gives a resource back what it had
abbrev pub creates_at : List ℕ → Call → Bool
creates_at path c = bytes_eq path c.path && is_create c.request

abbrev pub updates_at : List ℕ → Call → Bool
updates_at path c = bytes_eq path c.path && (goes_forward c.status && is_update c.request)

abbrev pub restores_at : List ℕ → Call → Bool
restores_at path c = bytes_eq path c.path && (goes_back c.status && is_update c.request)

-- it creates or gives back
abbrev pub makes_at : List ℕ → Call → Bool
makes_at path c = bytes_eq path c.path && (is_create c.request || (goes_back c.status && is_update c.request))

-- it updates in no stage that goes forward or back: there is none
abbrev pub strays_at : List ℕ → Call → Bool
strays_at path c = bytes_eq path c.path && (is_update c.request && not (goes_forward c.status || goes_back c.status))

-- it creates or updates, and so is no deletion
abbrev pub changes_at : List ℕ → Call → Bool
changes_at path c = bytes_eq path c.path && (is_create c.request || is_update c.request)

-- it deletes; it deletes another resource than this one, or than these two
abbrev pub is_deletion : Request → Bool
is_deletion (request.Delete id) = true
is_deletion _ = false

abbrev pub deletes_at : List ℕ → Call → Bool
deletes_at path c = bytes_eq path c.path && is_deletion c.request

abbrev pub deletes_other : List ℕ → List ℕ → Call → Bool
deletes_other path id c = bytes_eq path c.path && (is_deletion c.request && not (deletes id c.request))

abbrev pub deletes_third : List ℕ → List ℕ → List ℕ → Call → Bool
deletes_third path a b c = bytes_eq path c.path && (is_deletion c.request && not (deletes a c.request || deletes b c.request))

-- it updates this resource while the operation goes forward; it was refused
abbrev pub updates_ahead : List ℕ → Call → Bool
updates_ahead id c = goes_forward c.status && updates id c.request

abbrev pub IsRefused : Call → Type 0
IsRefused c = (k : Code) × (c.answer ≡ Some (settled.Failed k))

-- how many such calls the stack's last operation made; each has a token of its own
abbrev pub number_of : (Call → Bool) → StackState → ℕ
number_of test s = length (filter test (own_calls s))

-- the operation deleted no resource under more than three tokens, and gave no path back under more than one
pub record HasFewReturns (s : StackState) : Type 0 where
  pub deletions : (id : List ℕ) → length (deletions_of id s) ≤ 3
  pub restores : (path : List ℕ) → number_of (restores_at path) s ≤ 1
  pub no_strays : (path : List ℕ) → number_of (strays_at path) s ≤ 0

-- What a call of a forward phase has come to: it is open, or its path is done, or it was refused, and its entry tells so.
pub data HasComeTo (s : StackState) (c : Call) : Type 0 where
  is_open : IsOpen c.token s.tokens → HasComeTo s c
  path_done : IsDone s c.path → HasComeTo s c
  is_refused : (k : Code) → c.answer ≡ Some (settled.Failed k) → IsRefusedIn s c k → HasComeTo s c

-- while an operation goes forward, so it is of each of its calls, and it created and updated each path under one token at most
abbrev pub AllHaveComeTo : StackState → Type 0
AllHaveComeTo s = goes_forward s.status ≡ true → (c : Call) → In c s.ledger → HasComeTo s c

pub record HasFewForward (s : StackState) : Type 0 where
  pub come_to : AllHaveComeTo s
  pub creates : (path : List ℕ) → number_of (creates_at path) s ≤ 1
  pub updates : (path : List ℕ) → number_of (updates_at path) s ≤ 1

-- Where the operation created at the path of a resource from before, each update of that resource was refused; so it created a path or
-- gave it back, and not both.
pub record MakesOrGivesBack (s : StackState) : Type 0 where
  pub refused :
      (b : Held) (c d : Call) → In b s.before → In c (own_calls s) → creates_at b.path c ≡ true → In d s.ledger
      → updates_ahead b.physical d ≡ true → IsRefused d
  pub once : (path : List ℕ) → number_of (makes_at path) s ≤ 1

-- of these resources no two are of one path, and at the path of each the operation deleted no other
pub record AreDeletedAlone (rs : List Held) (s : StackState) : Type 0 where
  pub single : (r q : Held) → In r rs → In q rs → r.path ≡ q.path → r.physical ≡ q.physical
  pub no_other : (r : Held) → In r rs → number_of (deletes_other r.path r.physical) s ≡ 0

-- in a cleanup, so are those that it deletes
abbrev pub CleansFew : StackState → Type 0
CleansFew s = (stage : Stage) → IsCleanup stage s.status → AreDeletedAlone (cleaned_in stage s) s

-- In the rollback of a creation so are those that it made; at the path of an open create nothing is made and nothing was deleted, and so
-- it deleted at a path under one token at most.
pub record HasFewUnmade (s : StackState) : Type 0 where
  pub alone : AreDeletedAlone s.made s
  pub none_made : (p : Pending) → In p s.tokens → is_create p.request ≡ true → (r : Held) → In r s.made → r.path ≡ p.path → ⊥
  pub none_deleted : (p : Pending) → In p s.tokens → is_create p.request ≡ true → number_of (deletes_at p.path) s ≡ 0
  pub few : (path : List ℕ) → number_of (deletes_at path) s ≤ 1

abbrev pub UnmakesFew : StackState → Type 0
UnmakesFew s = s.status ≡ status.RollbackInProgress → HasFewUnmade s

-- A path has two resources at most, of these ids, or one and an open create; a deletion of the stack deleted no other there.
pub record AreTwoAt (s : StackState) (path a b : List ℕ) : Type 0 where
  pub resources : (r : Held) → In r (resources_of s) → r.path ≡ path → (r.physical ≡ a) ⊎ (r.physical ≡ b)
  pub creating : (p : Pending) → In p s.tokens → is_create p.request ≡ true → p.path ≡ path → a ≡ b
  pub deleted : s.status ≡ status.DeleteInProgress → number_of (deletes_third path a b) s ≡ 0

-- so it is of each path, and a deletion of the stack deletes no resource under more than one token
pub record HasTwoAPath (s : StackState) : Type 0 where
  pub two : (path : List ℕ) → (a b : List ℕ) × AreTwoAt s path a b
  pub once : s.status ≡ status.DeleteInProgress → (id : List ℕ) → length (deletions_of id s) ≤ 1

-- the deletion of a stack is in progress, or it failed, or the rollback of a creation did
abbrev pub deletes_or_failed : Status → Bool
deletes_or_failed status.DeleteInProgress = true
deletes_or_failed status.DeleteFailed = true
deletes_or_failed status.RollbackFailed = true
deletes_or_failed _ = false

abbrev pub DeletesTwo : StackState → Type 0
DeletesTwo s = deletes_or_failed s.status ≡ true → HasTwoAPath s

-- No operation calls a path under more tokens than its stages give it: in every status.
pub record HasFewCalls (s : StackState) : Type 0 where
  pub forward : HasFewForward s
  pub returns : HasFewReturns s
  pub makes : MakesOrGivesBack s
  pub cleans : CleansFew s
  pub unmakes : UnmakesFew s
  pub two : DeletesTwo s
  pub deletions : (path : List ℕ) → number_of (deletes_at path) s ≤ 3
