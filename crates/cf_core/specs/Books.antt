-- What a stack's entries and its ledger say of each other, from which it is told who is blamed where an operation fails (this
-- project's own).
use Rattle.std.specs.Prelude.{◌≡◌, ℕ, ◌<◌, ◌≤◌, ◌⊎◌, Bool, true, false, ◌&&◌, List, [], Option, Some, None, find, reverse}
use Rattle.cf_tree.specs.Lists.{is_among}
use Rattle.cf_tree.specs.Counts.{HasRisen}
use Rattle.cf_entry.specs.declared.entry.Entry.{Entry}
use Rattle.cf_entry.specs.declared.status.Status.TheVariants as status
use Rattle.cf_effect.specs.declared.call.Call.{Call}
use Rattle.cf_effect.specs.declared.held.Held.{Held}
use Rattle.cf_effect.specs.declared.held.Pending.{Pending}
use Rattle.cf_effect.specs.World.{StackState}
use Rattle.cf_effect.specs.Words.{deletes, is_update, resources_of, updates}
use Rattle.cf_effect.specs.Calls.{is_call, is_success, succeeded, was_refused}
use Rattle.cf_effect.specs.Operation.{Response, is_of, named_paths, own_of, replies_in}
use Rattle.cf_effect.specs.Status.{goes_back, is_in_progress}
use Rattle.cf_plan.specs.Between.{needs_at}
use Rattle.cf_plan.specs.Follow.{failed_of, has_path, is_bad_outcome, settled_by}
use Rattle.cf_tree.specs.Lists.{In}

-- a resource needs none that needs it, directly or through others: what it needs is of a lower rank
pub record AreRanked (hs : List Held) : Type 0 where
  pub rank : List ℕ → ℕ
  pub lower :
      (h g : Held) → In h hs → In g hs → h.superseded ≡ false → g.superseded ≡ false → is_among g.path h.needs ≡ true
      → rank g.path < rank h.path

-- the answers of the stack's last operation, in order
abbrev pub answers_of : StackState → List Response
answers_of s = replies_in (own_of s)

-- the call of a token among rows; of some answers the last at a path, and whether it is a bad one
abbrev pub row_in : ℕ → List Call → Option Call
row_in token rows = find (is_call token) rows

abbrev pub last_in : List ℕ → List Call → List Response → Option Response
last_in path rows replies = find (λ r. has_path path (row_in r.token rows)) (reverse replies)

abbrev pub is_bad_in : List Call → Option Response → Bool
is_bad_in rows None = false
is_bad_in rows (Some r) = is_bad_outcome (row_in r.token rows) r.answer

abbrev pub is_bad_at : List ℕ → List Call → List Response → Bool
is_bad_at path rows replies = is_bad_in rows (last_in path rows replies)

-- one of the answers is the call's; one of them is, and is no success
abbrev pub IsAnsweredIn : List Response → Call → Type 0
IsAnsweredIn replies c = (r : Response) × In r replies × (r.token ≡ c.token)

abbrev pub HasFailedIn : List Response → Call → Type 0
HasFailedIn replies c = (r : Response) × In r replies × (r.token ≡ c.token) × (is_success (settled_by r.answer) ≡ false)

-- a call of the token is open
abbrev pub IsOpen : ℕ → List Pending → Type 0
IsOpen token ps = (p : Pending) × In p ps × (p.token ≡ token)

-- Of the operation of this number, by the rows of a stack, the answers to it, the open calls and the resources: each answer is
-- of a call that has its row, and a count rose where it is no success; what is said to be refused or in doubt was answered so;
-- an open call that has an answer: the last one at its path is bad; a deletion of a resource that is there is open or refused.
pub record AreBooked (number : ℕ) (rows : List Call) (replies : List Response) (tokens : List Pending) (things : List Held) : Type 0 where
  pub called : (r : Response) → In r replies → (c : Call) × (row_in r.token rows ≡ Some c)
  pub counted : (r : Response) → In r replies → is_success (settled_by r.answer) ≡ false → HasRisen r.before r.after
  pub refused : (c : Call) → In c rows → c.number ≡ number → was_refused c ≡ true → HasFailedIn replies c
  pub doubted : (c : Call) → In c rows → 0 < c.doubts → IsAnsweredIn replies c
  pub bad : (p : Pending) (r : Response) → In p tokens → In r replies → r.token ≡ p.token → is_bad_at p.path rows replies ≡ true
  pub tried :
      (c : Call) (h : Held) → In c rows → c.number ≡ number → In h things → deletes h.physical c.request ≡ true
      → (c.path ≡ h.path) × (IsOpen c.token tokens ⊎ (was_refused c ≡ true))

-- The rollback of an update gives back what was held before: each such call is open, or succeeded, or was refused; and then no
-- call at its path follows it, and the last answer there is a bad one.
abbrev pub is_restoring : Call → Bool
is_restoring c = goes_back c.status && is_update c.request

abbrev pub GivesBack : List Held → Call → Type 0
GivesBack before c = (b : Held) × In b before × (b.path ≡ c.path) × (updates b.physical c.request ≡ true)

pub record IsGivenUp (rows : List Call) (replies : List Response) (tokens : List Pending) (c : Call) : Type 0 where
  pub refused : was_refused c ≡ true
  pub bad : is_bad_at c.path rows replies ≡ true
  pub closed : (p : Pending) → In p tokens → p.path ≡ c.path → ⊥

pub record AreRestoring (number : ℕ) (rows : List Call) (replies : List Response) (tokens : List Pending) (before : List Held)
    : Type 0 where
  pub of_before : (c : Call) → In c rows → c.number ≡ number → is_restoring c ≡ true → GivesBack before c
  pub come_to :
      (c : Call) → In c rows → c.number ≡ number → is_restoring c ≡ true
      → IsOpen c.token tokens ⊎ ((succeeded c ≡ true) ⊎ IsGivenUp rows replies tokens c)

-- It is so of each stack, in every status. No entry is of a later operation than the last one, and while that is in progress no
-- end of it is written; a deletion of the stack deletes nothing that it is to retain; what is made needs what the operation's
-- plan says of its path, and what is held has no closed walk of needs.
pub record IsBooked (s : StackState) : Type 0 where
  pub books : AreBooked s.operation s.ledger (answers_of s) s.tokens (resources_of s)
  pub numbered : (e : Entry) (n : ℕ) → In e s.entries → is_of n e ≡ true → n ≤ s.operation
  pub none_failed : is_in_progress s.status ≡ true → failed_of s ≡ []
  pub unretained :
      s.status ≡ status.DeleteInProgress → (c : Call) (id : List ℕ) → In c s.ledger → c.number ≡ s.operation
      → deletes id c.request ≡ true → is_among c.path (named_paths s) ≡ false
  pub restoring : s.status ≡ status.UpdateRollbackInProgress → AreRestoring s.operation s.ledger (answers_of s) s.tokens s.before
  pub needs : (r : Held) → In r s.made → r.needs ≡ needs_at r.path s
  pub ranked : AreRanked s.held
