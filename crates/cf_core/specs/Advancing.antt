-- An operation goes forward: what it has made and updated is what its template says over the ids and attributes of now, what it
-- has not updated is as it was, and what its change set did not hide is still seen (this project's own).
use Rattle.std.specs.Prelude.{◌≡◌, ℕ, true, false, not, IsTrue, List, [], ◌∷◌, Some, map, filter}
use Rattle.cf_tree.specs.declared.request.Request.{Request}
use Rattle.cf_tree.specs.declared.request.Request.TheVariants as request
use Rattle.cf_tree.specs.declared.source.Source.{Source}
use Rattle.cf_schema.specs.declared.described.Schema.{Schema}
use Rattle.cf_tree.specs.declared.row.Row.{Row}
use Rattle.cf_change.specs.Changes.{Changes, HeldAt, changes_of}
use Rattle.cf_change.specs.Hidden.{hides_attrs, hides_id}
use Rattle.cf_desired.specs.ShapeStays.{KeepsRest}
use Rattle.cf_effect.specs.declared.call.Call.{Call}
use Rattle.cf_effect.specs.declared.held.Held.{Held}
use Rattle.cf_effect.specs.declared.held.Pending.{Pending}
use Rattle.cf_effect.specs.World.{StackState}
use Rattle.cf_effect.specs.Words.{current_at, updates}
use Rattle.cf_effect.specs.Begin.{seen_in}
use Rattle.cf_effect.specs.Calls.{was_updated}
use Rattle.cf_effect.specs.End.{seen_now}
use Rattle.cf_effect.specs.Status.{goes_forward}
use Rattle.cf_plan.specs.Accept.{held_as}
use Rattle.cf_plan.specs.Forward.{IsDone, IsReady, Known, evaluated_at, was_updated_at}
use Rattle.cf_tree.specs.Lists.{In}

-- the change set by which the operation was accepted, but for its outputs: of what was held before, and its source
abbrev pub held_before_as : StackState → List HeldAt
held_before_as s = map held_as (filter (λ h. not h.superseded) s.before)

abbrev pub changes_begun : List Schema → StackState → Source → Changes
changes_begun schemas s source = changes_of schemas (held_before_as s) [] [] source

-- each resource of a list is the one of its path, and so none is superseded
abbrev pub AreSingle : List Held → Type 0
AreSingle hs = (r : Held) → In r hs → current_at r.path hs ≡ Some r

-- The same resources, one by one: all but what an update changes is as it was.
pub record IsSameThing (b h : Held) : Type 0 where
  pub path : h.path ≡ b.path
  pub physical : h.physical ≡ b.physical
  pub kind : h.kind ≡ b.kind
  pub needs : h.needs ≡ b.needs
  pub deletion : h.deletion ≡ b.deletion
  pub replace : h.replace ≡ b.replace
  pub superseded : h.superseded ≡ b.superseded

pub data AreSameThings : List Held → List Held → Type 0 where
  none : AreSameThings [] []
  more : {b h : Held} {bs hs : List Held} → IsSameThing b h → AreSameThings bs hs → AreSameThings (b ∷ bs) (h ∷ hs)

-- what the resource has is as it was
pub record IsAsBefore (b h : Held) : Type 0 where
  pub props : h.props ≡ b.props
  pub attrs : h.attrs ≡ b.attrs
  pub unsure : h.unsure ≡ b.unsure

-- a resource is as the template says now, at a path that is ready
pub record IsAsSaid (s : StackState) (r : Held) : Type 0 where
  pub sure : r.unsure ≡ false
  pub said : evaluated_at r.path s ≡ Known r.kind r.props
  pub ready : IsReady s r.path

-- what a call asks for is what the template says of its path now
abbrev pub AsksForNow : StackState → List ℕ → Request → Type 0
AsksForNow s path (request.Create kind props) = evaluated_at path s ≡ Known kind props
AsksForNow s path (request.Update physical props) = (h : Held) × (current_at path s.held ≡ Some h) × (h.physical ≡ physical)
    × (evaluated_at path s ≡ Known h.kind props)
AsksForNow s path (request.Delete physical) = ⊥

-- its change set hid what a call may change: the id and the attributes of what a create takes the place of, the attributes of what is
-- updated
abbrev pub IsHidden : List Row → StackState → List ℕ → Request → Type 0
IsHidden rows s path (request.Create kind props) =
    (h : Held) → current_at path s.held ≡ Some h → (hides_id rows path ≡ true) × (hides_attrs rows path ≡ true)
IsHidden rows s path (request.Update physical props) = hides_attrs rows path ≡ true
IsHidden rows s path (request.Delete physical) = ⊥

pub record IsAdvancing (schemas : List Schema) (s : StackState) (source : Source) : Type 0 where
  pub going : s.going ≡ Some source
  -- the source was accepted, and what its change set did not hide is still seen
  pub no_flaw : (changes_begun schemas s source).flaws ≡ []
  pub no_clash : (changes_begun schemas s source).clash ≡ []
  pub rest : KeepsRest (hides_id (changes_begun schemas s source).rows) (hides_attrs (changes_begun schemas s source).rows) (seen_in
      s.before) (seen_now s)
  -- what was held before is still held, and what was not updated is as it was
  pub single_before : AreSingle s.before
  pub held : AreSameThings s.before s.held
  pub unchanged : (b h : Held) → In b s.before → In h s.held → h.physical ≡ b.physical → was_updated b.physical s ≡ false → IsAsBefore b h
  -- what was made and updated is as the template says
  pub single_made : AreSingle s.made
  pub made : (r : Held) → In r s.made → IsAsSaid s r
  pub updated : (path : List ℕ) → IsTrue (was_updated_at path s) → (h : Held) × (current_at path s.held ≡ Some h) × IsAsSaid s h
  -- so is what is asked for by the open calls, at paths that are ready and not done
  pub ready : (p : Pending) → In p s.tokens → IsReady s p.path
  pub not_done : (p : Pending) → In p s.tokens → ¬ IsDone s p.path
  pub asked : (p : Pending) → In p s.tokens → AsksForNow s p.path p.request
  pub hidden : (p : Pending) → In p s.tokens → IsHidden (changes_begun schemas s source).rows s p.path p.request
  -- all its calls are of this operation and phase
  pub calls : (c : Call) → In c s.ledger → (c.number ≡ s.operation) × IsTrue (goes_forward c.status)
  -- a call that updates a resource is at its path
  pub at_path : (c : Call) (b : Held) → In c s.ledger → In b s.before → IsTrue (updates b.physical c.request) → c.path ≡ b.path
