-- What else holds at each moment: what completed is what was begun, a create that was given up is listed, and nothing stands twice: no
-- lease, no settled token, no known id of what is left over (this project's own; what a status says is that of the User Guide).
use Rattle.std.specs.Prelude.{◌≡◌, ◌≢◌, Some, ℕ, ◌==◌, Bool, true, false, not, List, map, filter}
use Rattle.std.specs.Str.{bytes_eq}
use Rattle.cf_tree.specs.Named.{all_differ}
use Rattle.cf_entry.specs.declared.entry.Entry.{Entry}
use Rattle.cf_entry.specs.declared.status.Status.{Status}
use Rattle.cf_entry.specs.declared.status.Status.TheVariants as status
use Rattle.cf_schema.specs.declared.described.Schema.{Schema}
use Rattle.cf_effect.specs.declared.held.GivenUp.{GivenUp}
use Rattle.cf_effect.specs.declared.held.Leftover.{Leftover}
use Rattle.cf_effect.specs.World.{StackState, World, known_stack, stack_at}
use Rattle.cf_effect.specs.Fold.{world_after}
use Rattle.cf_effect.specs.Words.{unknown_id}
use Rattle.cf_tree.specs.Lists.{In}
use Rattle.cf_plan.specs.Lanes.{Lane}
use Rattle.cf_plan.specs.Life.{Event, IsStart, Life, Happens, life_after, tokens_out}
use Rattle.cf_core.specs.Fits.{IsWritten}
use Rattle.cf_core.specs.OneStack.{AreOwn, IsOnce}
use Rattle.cf_core.specs.SoundLife.{IsSoundLife}

-- in these statuses the source that the last creation or update began with is the one that was completed last
abbrev pub has_completed : Status → Bool
has_completed status.CreateComplete = true
has_completed status.UpdateComplete = true
has_completed status.UpdateCompleteCleanupInProgress = true
has_completed _ = false

abbrev pub CompletesBegun : StackState → Type 0
CompletesBegun s = has_completed s.status ≡ true → s.source ≡ s.going

-- each create that was given up is left over, at its path, under no known id
abbrev pub ListsGivenUp : StackState → Type 0
ListsGivenUp s =
    (g : GivenUp) → In g s.abandoned → (l : Leftover) × In l s.leftovers × (l.path ≡ g.path) × (l.physical ≡ unknown_id)

-- no two of what is left over have one known id
abbrev pub has_known_id : Leftover → Bool
has_known_id l = not (bytes_eq l.physical unknown_id)

abbrev pub LeavesOnce : StackState → Type 0
LeavesOnce s = all_differ bytes_eq (map (λ l. l.physical) (filter has_known_id s.leftovers)) ≡ true

-- each entry that is written keeps these
abbrev pub CompletesBegunStays : Type 0
CompletesBegunStays =
    (schemas : List Schema) (x : World) (out : List ℕ) (e : Entry) (name : List ℕ) (s t : StackState) → IsWritten schemas x out e name s t
    → CompletesBegun s → CompletesBegun t

abbrev pub ListsGivenUpStays : Type 0
ListsGivenUpStays =
    (schemas : List Schema) (x : World) (out : List ℕ) (e : Entry) (name : List ℕ) (s t : StackState) → IsWritten schemas x out e name s t
    → ListsGivenUp s → ListsGivenUp t

abbrev pub LeavesOnceStays : Type 0
LeavesOnceStays =
    (schemas : List Schema) (x : World) (out : List ℕ) (e : Entry) (name : List ℕ) (s t : StackState) → IsWritten schemas x out e name s t
    → IsOnce s → LeavesOnce s → LeavesOnce t

-- what is left over of two stacks has no known id in common
abbrev pub LeavesApart : World → Type 0
LeavesApart x =
    (n m : List ℕ) → n ≢ m → (l k : Leftover) → In l (known_stack n x).leftovers → In k (known_stack m x).leftovers
    → has_known_id l ≡ true → l.physical ≡ k.physical → ⊥

abbrev pub LeavesApartStays : Type 0
LeavesApartStays =
    (schemas : List Schema) (x : World) (out : List ℕ) (e : Entry)
    → ((name : List ℕ) (t : StackState) → stack_at name (world_after x e) ≡ Some t → IsWritten schemas x out e name (known_stack name x) t)
    → AreOwn x.stacks → LeavesApart x → LeavesApart (world_after x e)

-- no two calls that are out are of one token
abbrev pub LeasesOnce : Life → Type 0
LeasesOnce life = all_differ ◌==◌ (tokens_out life) ≡ true

-- no lane settles a token twice
abbrev pub SettlesOnce : Life → Type 0
SettlesOnce life = (l : Lane) → In l life.lanes → all_differ ◌==◌ (map (λ s. s.token) l.state.state.settled) ≡ true

-- each event keeps these, and a start has them
abbrev pub LeasesOnceStays : Type 0
LeasesOnceStays =
    (schemas : List Schema) (life : Life) (event : Event) → Happens schemas life event → IsSoundLife schemas life → LeasesOnce life
    → LeasesOnce (life_after life event)

abbrev pub SettlesOnceStays : Type 0
SettlesOnceStays =
    (schemas : List Schema) (life : Life) (event : Event) → Happens schemas life event → IsSoundLife schemas life → SettlesOnce life
    → SettlesOnce (life_after life event)

abbrev pub StartIsOnce : Type 0
StartIsOnce = (schemas : List Schema) (life : Life) → IsStart schemas life → LeasesOnce life × SettlesOnce life
