-- The rollback of an update, and which of the resources of before it has still to give back what they had, as is kept beside its stack
-- (this project's own).
use Rattle.std.specs.Prelude.{◌≡◌, ℕ, ◌==◌, ◌&&◌, ◌||◌, not, Bool, true, false, List, [], ◌∷◌, Option, Some, None, flat_map, length, map, set, slice_index_or, if◌then◌else◌}
use Rattle.std.specs.List.{list_any, slice_get}
use Rattle.std.specs.Option.{option_and_then, option_map_or}
use Rattle.cf_tree.specs.Datum.{Data}
use Rattle.cf_tree.specs.Keys.{ascends, value_at}
use Rattle.cf_tree.specs.declared.request.Request.{Request}
use Rattle.cf_tree.specs.declared.request.Request.TheVariants as request
use Rattle.cf_entry.specs.declared.entry.Entry.{Entry}
use Rattle.cf_entry.specs.declared.status.Status.TheVariants as status
use Rattle.cf_effect.specs.declared.call.Call.{Call}
use Rattle.cf_effect.specs.declared.held.Held.{Held}
use Rattle.cf_effect.specs.declared.held.Pending.{Pending}
use Rattle.cf_effect.specs.declared.restoring.Restoring.{Restoring}
use Rattle.cf_effect.specs.Calls.{is_call, succeeded}
use Rattle.cf_effect.specs.Index.{ArePlacesOf, is_path}
use Rattle.cf_effect.specs.Operation.{named_in}
use Rattle.cf_effect.specs.Status.{goes_back, goes_forward}
use Rattle.cf_effect.specs.Undoing.{AreFirst}
use Rattle.cf_effect.specs.Words.{has_token, is_update, updates}
use Rattle.cf_effect.specs.World.{StackState}

-- a call went out in a forward phase and succeeded; or in a rollback, and it succeeded or is one of an operation
abbrev pub is_change : Call → Bool
is_change c = goes_forward c.status && succeeded c

abbrev pub is_return : ℕ → Call → Bool
is_return number c = goes_back c.status && (succeeded c || c.number == number)

-- one of these calls that pass a test updates a resource
abbrev pub is_updated_by : (Call → Bool) → List Call → List ℕ → Bool
is_updated_by test calls physical = list_any (λ c. test c && updates physical c.request) calls

-- a resource was updated in place, was not given back what it had, and the operation did not call to do so
abbrev pub awaits_restore : StackState → List ℕ → Bool
awaits_restore s physical = is_updated_by is_change s.ledger physical && not (is_updated_by (is_return s.operation) s.ledger physical)

-- the resource of the path of a rank
abbrev pub held_ranked : List Held → List (List ℕ × ℕ) → ℕ → Option Held
held_ranked before paths rank = option_and_then (λ p. slice_get before p.1) (slice_get paths rank)

-- each of these names is found at its own place, and no other is
pub record AreOwnPlaces (names : List (Option (List ℕ))) (places : List (List ℕ × ℕ)) : Type 0 where
  pub found : ArePlacesOf is_path names places
  pub first : AreFirst names places

abbrev pub id_of : Held → Option (List ℕ)
id_of h = Some h.physical

abbrev pub path_of : Held → Option (List ℕ)
path_of h = Some h.path

-- each of these resources is of an id of its own
abbrev pub HaveOwnIds : List Held → Type 0
HaveOwnIds hs = (i j : ℕ) (h g : Held) → slice_get hs i ≡ Some h → slice_get hs j ≡ Some g → h.physical ≡ g.physical → i ≡ j

-- it is marked where the resource stands that a call updates, of calls that pass a test
abbrev pub with_updated : List (List ℕ × ℕ) → List Bool → Request → List Bool
with_updated ids marks (request.Update id props) = option_map_or (λ at. set marks at true) (value_at id ids) marks
with_updated ids marks r = marks

abbrev pub with_passed : (Call → Bool) → List (List ℕ × ℕ) → List Bool → Call → List Bool
with_passed test ids marks c = if test c then with_updated ids marks c.request else marks

-- the flag of the path of a rank, by what is marked at its place
abbrev pub awaits_by : List Bool → List Bool → ℕ → Bool
awaits_by changed returned at = slice_index_or changed at false && not (slice_index_or returned at false)

abbrev pub AreAwaited : List (List ℕ × ℕ) → List Bool → List Bool → List Bool → Type 0
AreAwaited paths changed returned flags =
    (rank : ℕ) (p : List ℕ × ℕ) → slice_get paths rank ≡ Some p → slice_index_or flags rank false ≡ awaits_by changed returned p.1

-- an update is rolled back, of which no continued rollback skips a path
pub record GivesBack (s : StackState) : Type 0 where
  pub back : s.status ≡ status.UpdateRollbackInProgress
  pub skips : flat_map named_in s.entries ≡ []

-- what is kept of that: by the rank of its path a flag whether a resource of before is still to be given back what it had
pub record IsRestoring (s : StackState) (r : Restoring) : Type 0 where
  pub gives : GivesBack s
  pub order : ascends r.paths ≡ true
  pub paths : AreOwnPlaces (map path_of s.before) r.paths
  pub ids : HaveOwnIds s.before
  pub count : length r.awaited ≡ length r.paths
  pub flags : (rank : ℕ) (h : Held) → held_ranked s.before r.paths rank ≡ Some h
      → slice_index_or r.awaited rank false ≡ awaits_restore s h.physical

-- a resource of this id is that of the path of a rank
pub record HasRank (before : List Held) (paths : List (List ℕ × ℕ)) (id : List ℕ) (rank : ℕ) : Type 0 where
  pub held : Held
  pub ranked : held_ranked before paths rank ≡ Some held
  pub physical : held.physical ≡ id

-- a request updates the resource of the path of a rank
pub record UpdatesAt (before : List Held) (paths : List (List ℕ × ℕ)) (r : Request) (rank : ℕ) : Type 0 where
  pub id : List ℕ
  pub props : List (List ℕ × Data)
  pub asked : r ≡ request.Update id props
  pub ranked : HasRank before paths id rank

-- the operation's update of the resource of the path of a rank is to go out, under a token of its own, by an entry that names no paths
pub record IsRestoreAt (number : ℕ) (p : Pending) (e : Entry) (s : StackState) (r : Restoring) (rank : ℕ) : Type 0 where
  pub own : (number == s.operation && not (list_any (has_token p.token) s.tokens)) ≡ true
  pub names : named_in e ≡ []
  pub to : UpdatesAt s.before r.paths p.request rank

-- an outcome of the call of a token may change what is to be given back, unless it went out in the rollback of the operation
abbrev pub may_change : ℕ → Call → Bool
may_change number c = is_update c.request && not (goes_back c.status && c.number == number)

abbrev pub is_changed_by : ℕ → ℕ → Call → Bool
is_changed_by number token c = is_call token c && may_change number c
