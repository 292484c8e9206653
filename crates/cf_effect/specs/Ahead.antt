-- A creation that goes forward, and which of its paths are ready, as is kept beside the findings of its stack (this project's own).
use Rattle.std.specs.Prelude.{◌≡◌, ℕ, ◌==◌, ◌&&◌, Bool, true, false, List, [], ◌∷◌, ◌++◌, Option, Some, None, IfSome, length, map, set, slice_index_or, take}
use Rattle.std.specs.List.{list_any, slice_get}
use Rattle.std.specs.Option.{option_and_then, option_map_or}
use Rattle.cf_tree.specs.declared.request.Request.{Request}
use Rattle.cf_tree.specs.declared.request.Request.TheVariants as request
use Rattle.cf_entry.specs.declared.entry.Entry.{Entry}
use Rattle.cf_entry.specs.declared.entry.Entry.TheVariants as entry
use Rattle.cf_entry.specs.declared.entry.Reply.{Reply}
use Rattle.cf_entry.specs.declared.entry.Reply.TheVariants as reply
use Rattle.cf_entry.specs.declared.status.Status.TheVariants as status
use Rattle.cf_ready.specs.declared.ready.Readiness.{Readiness}
use Rattle.cf_ready.specs.Ready.{HasFlags, IsShaped, are_made_in}
use Rattle.cf_desired.specs.declared.wanted.Evaluated.{Evaluated}
use Rattle.cf_desired.specs.declared.wanted.Evaluated.TheVariants as evaluated
use Rattle.cf_desired.specs.Shape.{shape_of}
use Rattle.cf_desired.specs.Valued.{nestings_in}
use Rattle.cf_desired.specs.Work.{Nesting}
use Rattle.cf_effect.specs.declared.ahead.Ahead.{Ahead}
use Rattle.cf_effect.specs.declared.ahead.Way.{Way}
use Rattle.cf_effect.specs.declared.ahead.Way.TheVariants.{Back, Forth}
use Rattle.cf_effect.specs.declared.call.Call.{Call}
use Rattle.cf_effect.specs.declared.findings.Findings.{Findings}
use Rattle.cf_effect.specs.declared.findings.Found.{Found}
use Rattle.cf_effect.specs.declared.layout.Layout.{Layout}
use Rattle.cf_effect.specs.declared.layout.Placed.{Placed}
use Rattle.cf_effect.specs.declared.held.Pending.{Pending}
use Rattle.cf_effect.specs.Begin.{seen_in}
use Rattle.cf_effect.specs.Findings.{AreFindings}
use Rattle.cf_effect.specs.Following.{Forgets, IsPlaceOf, with_place}
use Rattle.cf_effect.specs.Layout.{AreRows, row_needs, source_members, users_at}
use Rattle.cf_effect.specs.Reply.{intending}
use Rattle.cf_effect.specs.Words.{is_update, pending_of}
use Rattle.cf_effect.specs.World.{StackState}

-- an outcome that may fail a forward phase: a refusal or a doubt
abbrev pub is_setback : Entry → Bool
is_setback (entry.Outcome number token (reply.Failed code) before after) = true
is_setback (entry.Outcome number token reply.Doubt before after) = true
is_setback _ = false

-- an update of an operation
abbrev pub is_update_of : ℕ → Call → Bool
is_update_of number c = c.number == number && is_update c.request

-- the stacks that are nested in the one that the source of the last create or update describes
abbrev pub nestings_of : StackState → List Nesting
nestings_of s = option_map_or (λ source. nestings_in (shape_of source (seen_in s.before))) s.going []

-- a creation goes forward that holds nothing from before and had no setback and no update, and no stack is nested in it
pub record GoesForth (s : StackState) : Type 0 where
  pub creates : s.status ≡ status.CreateInProgress
  pub held : s.held ≡ []
  pub updates : list_any (is_update_of s.operation) s.ledger ≡ false
  pub setbacks : list_any is_setback s.entries ≡ false
  pub nested : nestings_of s ≡ []

-- what is kept of the properties at a place; they are sound where they are worked out and at no fault
abbrev pub found_in : List (Option Found) → ℕ → Option Found
found_in found at = option_and_then (λ e. e) (slice_get found at)

abbrev pub is_right : Evaluated → Bool
is_right (evaluated.Flawed flaw) = false
is_right (evaluated.Known props) = true

abbrev pub is_sound : Option Found → Bool
is_sound found = option_map_or (λ e. is_right e.evaluated) found false

-- the places of all paths in the order of their names
abbrev pub order_of : Layout → List ℕ
order_of l = map (λ p. p.1) l.places

-- what a path waits for: where a creation goes forward all that it needs, and where it is rolled back all that needs it
abbrev pub waits_for : Way → Layout → ℕ → Placed → List ℕ
waits_for Forth l at row = row.needs.items
waits_for Back l at row = users_at l at

-- and what waits for it
abbrev pub waiting_for : Way → Layout → ℕ → List ℕ
waiting_for Forth l at = users_at l at
waiting_for Back l at = row_needs l.rows.items at

-- the flags of the path at a place are right
abbrev pub AreFlagsAt : Way → Layout → List (Option ℕ) → List (Option Found) → Readiness → ℕ → Type 0
AreFlagsAt w l made found r at =
    (row : Placed) → slice_get l.rows.items at ≡ Some row → HasFlags made (waits_for w l at row) (is_sound (found_in found at)) at r

pub record IsReadiness (w : Way) (l : Layout) (made : List (Option ℕ)) (found : List (Option Found)) (r : Readiness) : Type 0 where
  pub shaped : IsShaped (order_of l) (length l.rows.items) r
  pub flags : (at : ℕ) → AreFlagsAt w l made found r at

-- so many of the first that each path waits for are made as are said to be
abbrev pub FirstMade : Way → Layout → List (Option ℕ) → Readiness → Type 0
FirstMade w l made r =
    (at : ℕ) (row : Placed) → slice_get l.rows.items at ≡ Some row
    → are_made_in made (take (slice_index_or r.met.items at 0) (waits_for w l at row)) ≡ true

-- the flags of the paths at some places are set anew, and no others become wrong
pub record IsTouched (w : Way) (l : Layout) (made : List (Option ℕ)) (found : List (Option Found)) (P : ℕ → Type 0) (old new : Readiness) : Type 0 where
  pub shaped : IsShaped (order_of l) (length l.rows.items) new
  pub first : FirstMade w l made new
  pub there : (at : ℕ) → P at → AreFlagsAt w l made found new at
  pub kept : (at : ℕ) → AreFlagsAt w l made found old at → AreFlagsAt w l made found new at

abbrev pub Touches : Way → Layout → List (Option ℕ) → List (Option Found) → (ℕ → Type 0) → Readiness → Readiness → Type 0
Touches w l made found P old new = IsShaped (order_of l) (length l.rows.items) old → FirstMade w l made old → IsTouched w l made found P old new

-- what is kept of a creation that goes forward
pub record IsAhead (s : StackState) (made : List (Option ℕ)) (found : List (Option Found)) (a : Ahead) : Type 0 where
  pub forth : GoesForth s
  pub rows : AreRows (source_members s) a.layout
  pub ready : IsReadiness Forth a.layout made found a.readiness

abbrev pub KeepsAhead : StackState → Findings → Type 0
KeepsAhead s f = IfSome f.ahead (IsAhead s f.made.items f.found.items)

-- findings, with what is kept of the creation
pub record AreKept (s : StackState) (f : Findings) : Type 0 where
  pub findings : AreFindings s f
  pub ahead : KeepsAhead s f

-- it follows that a path is made, and what was found of those that need it is gone; or that something is found at a place
abbrev pub FollowsMade : List (Option ℕ) → List (Option Found) → ℕ → Option Ahead → Option Ahead → Type 0
FollowsMade made found at old new =
    (s : StackState) (path : List ℕ) (place : ℕ) (were : List (Option ℕ)) (was : List (Option Found)) → IfSome old (IsAhead s were was)
    → IsPlaceOf s path at → made ≡ with_place at place were → Forgets s path was found → IfSome new (IsAhead s made found)

abbrev pub FollowsFound : List (Option ℕ) → List (Option Found) → ℕ → Option Ahead → Option Ahead → Type 0
FollowsFound made found at old new =
    (s : StackState) (was : List (Option Found)) (e : Option Found) → IfSome old (IsAhead s made was) → found ≡ set was at e
    → IfSome new (IsAhead s made found)

-- a call goes out, of which the stack hears by an entry with some lines for events
abbrev pub called_heard : ℕ → Pending → Entry → List (List ℕ) → StackState → StackState
called_heard number p e lines s =
    record (intending number p s) { entries = s.entries ++ e ∷ []; events = s.events ++ lines }

abbrev pub FollowsCall : Pending → Entry → Option Findings → Option Findings → Type 0
FollowsCall p e old new =
    (s : StackState) (number : ℕ) (lines : List (List ℕ)) → IfSome old (AreKept s) → IfSome new (AreKept (called_heard number p e lines s))

-- an answer completes a create, or an entry says that one of the stack is complete; only so what is kept of the creation stays
abbrev pub completes_create : Request → Reply → Bool
completes_create (request.Create kind props) (reply.Success physical attrs) = true
completes_create r answer = false

abbrev pub is_created_by : Entry → StackState → Bool
is_created_by (entry.Outcome number token answer before after) s =
    option_map_or (λ p. completes_create p.request answer) (pending_of token s) false
is_created_by e s = false

abbrev pub StaysIf : Bool → StackState → Findings → Findings → Type 0
StaysIf true s old new = KeepsAhead s old → KeepsAhead s new
StaysIf false s old new = old.ahead ≡ None → new.ahead ≡ None

abbrev pub StaysAhead : Request → Reply → StackState → Findings → Findings → Type 0
StaysAhead r answer s old new = StaysIf (completes_create r answer) s old new

abbrev pub StaysAfter : Entry → StackState → Findings → Findings → Type 0
StaysAfter e s old new = StaysIf (is_created_by e s) s old new

-- what is kept of a creation is let go, unless it is said to stay
abbrev pub unless_kept : Bool → Findings → Findings
unless_kept true f = f
unless_kept false f = record f { ahead = None }
