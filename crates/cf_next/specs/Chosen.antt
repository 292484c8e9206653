-- Which one of the steps that may start is chosen (this project's own order): a call that is made again, in the order of
-- tokens; then a new call or a resource to keep, in the order of paths and then of physical ids; then a phase or the end;
-- and nothing where only a call that is out can go on.
use Rattle.std.specs.Prelude.{◌≡◌, ◌≢◌, ℕ, ◌==◌, Bool, true, false, ◌&&◌, ◌||◌, List, [], Option, Some, None, nat_lt, filter_map, fold}
use Rattle.std.specs.Option.{unwrap_or}
use Rattle.std.specs.Str.{bytes_eq}
use Rattle.cf_tree.specs.Keys.{bytes_lt}
use Rattle.cf_tree.specs.declared.request.Request.{Request}
use Rattle.cf_tree.specs.declared.request.Request.TheVariants as request
use Rattle.cf_schema.specs.declared.described.Schema.{Schema}
use Rattle.cf_schema.specs.Kinds.{with_kind}
use Rattle.cf_entry.specs.declared.entry.Entry.{Entry}
use Rattle.cf_entry.specs.declared.entry.Entry.TheVariants as entry
use Rattle.cf_effect.specs.World.{StackState, World, stack_of_operation}
use Rattle.cf_effect.specs.Status.{Stage, stage_of}
use Rattle.cf_effect.specs.Words.{id_named}
use Rattle.cf_next.specs.declared.home.Home.{Home}
use Rattle.cf_next.specs.declared.step.Next.{Next}
use Rattle.cf_next.specs.declared.step.Next.TheVariants as next
use Rattle.cf_plan.specs.Homes.{first_home}
use Rattle.cf_plan.specs.Follow.{MayRepeat, MayFollowIn, is_lane_leased}

-- the tokens of the leases that are out, as the lanes tell them
abbrev pub leases_of : List Home → List ℕ
leases_of homes = filter_map (λ h. h.out) homes

-- the schemas of the lanes that are handed in, one of each type
abbrev pub schemas_of : List Home → List Schema
schemas_of homes = fold (λ schemas (h : Home). with_kind h.schema schemas) [] homes

-- the call of an open token goes out once more, on its lane, which is at home
pub record MayCallAgain (schemas : List Schema) (name : List ℕ) (x : World) (out : List ℕ) (s : StackState) (stage : Stage)
    (path lane : List ℕ) (token : ℕ) (r : Request) : Type 0 where
  pub repeats : MayRepeat schemas name x out s stage (record { token = token; path = path; lane = lane; request = r })
  pub home : is_lane_leased out x lane ≡ false

-- What may start: a repeat, or what an entry writes down that may follow. To wait, a lease is out.
abbrev pub MayStart : List Schema → List ℕ → World → List ℕ → StackState → Stage → Next → Type 0
MayStart schemas name x out s stage (next.Step path lane token r true) = MayCallAgain schemas name x out s stage path lane token r
MayStart schemas name x out s stage (next.Step path lane token r false) =
    MayFollowIn schemas name x out s stage (entry.Intent s.operation token lane path r)
MayStart schemas name x out s stage (next.Keep path physical w) =
    MayFollowIn schemas name x out s stage (entry.Kept s.operation path physical w)
MayStart schemas name x out s stage (next.Turn p cause) = MayFollowIn schemas name x out s stage (entry.Phase s.operation p cause)
MayStart schemas name x out s stage (next.End state failed) = MayFollowIn schemas name x out s stage (entry.Done s.operation state failed)
MayStart schemas name x out s stage next.Wait = out ≢ []

-- The place of a step in the order.
pub record Place : Type 0 where
  pub rank : ℕ
  pub token : ℕ
  pub path : List ℕ
  pub physical : List ℕ

-- the physical id that a request names; a create names none
abbrev pub physical_id_of : Request → List ℕ
physical_id_of r = unwrap_or (id_named r) []

-- a create, which names no physical id, precedes every other step of its path
abbrev pub step_place : Next → Place
step_place (next.Step path lane token r true) = record { rank = 0; token = token; path = []; physical = [] }
step_place (next.Step path lane token r false) = record { rank = 1; token = 0; path = path; physical = physical_id_of r }
step_place (next.Keep path physical w) = record { rank = 1; token = 0; path = path; physical = physical }
step_place (next.Turn p cause) = record { rank = 2; token = 0; path = []; physical = [] }
step_place (next.End state failed) = record { rank = 2; token = 0; path = []; physical = [] }
step_place next.Wait = record { rank = 3; token = 0; path = []; physical = [] }

-- the paths in the order of their bytes, and where they are the same the physical ids
abbrev pub precedes : List ℕ × List ℕ → List ℕ × List ℕ → Bool
precedes a b = bytes_lt a.0 b.0 || (bytes_eq a.0 b.0 && bytes_lt a.1 b.1)

abbrev pub is_placed_before : Place → Place → Bool
is_placed_before a b =
    nat_lt a.rank b.rank
    || (a.rank == b.rank && (nat_lt a.token b.token || (a.token == b.token && precedes (a.path, a.physical) (b.path, b.physical))))

-- a create goes to the first lane at home of its type, in the order in which the lanes were handed in
abbrev pub GoesFirst : List ℕ → World → Next → Type 0
GoesFirst out x (next.Step path lane token (request.Create k props) false) = first_home k out x ≡ Some lane
GoesFirst out x _ = Unit {0}

-- The chosen step may start, and none that may start precedes it.
pub record IsChosen (schemas : List Schema) (name : List ℕ) (x : World) (out : List ℕ) (s : StackState) (stage : Stage)
    (n : Next) : Type 0 where
  pub may : MayStart schemas name x out s stage n
  pub first : (m : Next) → MayStart schemas name x out s stage m → is_placed_before (step_place m) (step_place n) ≡ false
  pub lane : GoesFirst out x n

-- the operation of this number is in progress
abbrev pub IsInProgress : World → ℕ → Type 0
IsInProgress x number =
    (name : List ℕ) × (s : StackState) × (stage : Stage) × (stack_of_operation number x ≡ Some (name, s)) × (stage_of s.status ≡ Some stage)

-- a step of the operation of this number may start
abbrev pub MayStartOn : List Schema → World → List ℕ → ℕ → Next → Type 0
MayStartOn schemas x out number n =
    (name : List ℕ) × (s : StackState) × (stage : Stage) × (stack_of_operation number x ≡ Some (name, s)) × (stage_of s.status ≡ Some stage)
    × MayStart schemas name x out s stage n

-- The next step of the operation of this number is chosen on its stack, in its stage.
abbrev pub IsNext : List Schema → World → List ℕ → ℕ → Next → Type 0
IsNext schemas x out number n =
    (name : List ℕ) × (s : StackState) × (stage : Stage) × (stack_of_operation number x ≡ Some (name, s)) × (stage_of s.status ≡ Some stage)
    × IsChosen schemas name x out s stage n

-- No step of the operation of this number may start, and no lease is out that could come home.
pub record HasNoStep (schemas : List Schema) (x : World) (out : List ℕ) (number : ℕ) : Type 0 where
  pub idle : out ≡ []
  pub none : (n : Next) → MayStartOn schemas x out number n → ⊥

-- The entry that writes a step of the operation down; to repeat a call and to wait write none.
abbrev pub entry_for : ℕ → Next → Option Entry
entry_for number (next.Step path lane token r true) = None
entry_for number (next.Step path lane token r false) = Some (entry.Intent number token lane path r)
entry_for number (next.Keep path physical w) = Some (entry.Kept number path physical w)
entry_for number (next.Turn p cause) = Some (entry.Phase number p cause)
entry_for number (next.End state failed) = Some (entry.Done number state failed)
entry_for number next.Wait = None
