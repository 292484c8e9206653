-- The rollback of an update: what was held before is still held, what was not updated or was given back is as it is before, and
-- what a continued rollback skips is unsure (this project's own).
use Rattle.std.specs.Prelude.{◌≡◌, ◌⊎◌, ℕ, true, false, IsTrue, List, [], Some, None, flat_map}
use Rattle.cf_tree.specs.Datum.{Data}
use Rattle.cf_tree.specs.declared.request.Request.TheVariants as request
use Rattle.cf_tree.specs.declared.request.Request.{Request}
use Rattle.cf_effect.specs.declared.call.Call.{Call}
use Rattle.cf_effect.specs.declared.held.Held.{Held}
use Rattle.cf_effect.specs.declared.held.Pending.{Pending}
use Rattle.cf_effect.specs.World.{StackState}
use Rattle.cf_effect.specs.Words.{current_at}
use Rattle.cf_effect.specs.Calls.{call_under as call_of, was_restored, was_updated}
use Rattle.cf_effect.specs.Operation.{named_in, was_skipped}
use Rattle.cf_effect.specs.Status.{goes_forward}
use Rattle.cf_tree.specs.Lists.{In}
use Rattle.cf_core.specs.Advancing.{AreSameThings, AreSingle}

-- no continued rollback has skipped a path
abbrev pub SkipsNone : StackState → Type 0
SkipsNone s = flat_map named_in s.entries ≡ []

-- what is not known to be otherwise has the properties of before: it was not updated, or was given back
abbrev pub IsBack : StackState → Held → Type 0
IsBack s b = (was_updated b.physical s ≡ false) ⊎ (was_restored b.physical s ≡ true)

-- the open call went out as the update went forward
abbrev pub IsForwardCall : StackState → Pending → Type 0
IsForwardCall s p = (c : Call) × (call_of p.token s ≡ Some c) × IsTrue (goes_forward c.status)

-- An open update is of what was held before, at its path, which no continued rollback skips. It went out as the update went
-- forward, and its resource was not given back yet; or it gives its resource back what it had.
pub record IsUpdateBack (s : StackState) (p : Pending) (id : List ℕ) (props : List (List ℕ × Data)) : Type 0 where
  pub was : Held
  pub of_before : In was s.before
  pub named : was.physical ≡ id
  pub at_path : was.path ≡ p.path
  pub not_skipped : was_skipped p.path s ≡ false
  pub gives : (IsForwardCall s p × (was_restored id s ≡ false)) ⊎ (props ≡ was.props)

-- an open create went out as the update went forward, and nothing is made at its path
abbrev pub IsOpenInBack : StackState → Pending → Request → Type 0
IsOpenInBack s p (request.Create kind props) = IsForwardCall s p × (current_at p.path s.made ≡ None)
IsOpenInBack s p (request.Update id props) = IsUpdateBack s p id props
IsOpenInBack s p (request.Delete id) = ⊥

pub record IsGoingBack (s : StackState) : Type 0 where
  pub single_before : AreSingle s.before
  pub held : AreSameThings s.before s.held
  pub as_before :
      (b h : Held) → In b s.before → In h s.held → h.physical ≡ b.physical → h.unsure ≡ false → IsBack s b → h.props ≡ b.props
  pub skipped : (h : Held) → In h s.held → was_skipped h.path s ≡ true → h.unsure ≡ true
  pub single_made : AreSingle s.made
  pub calls : (p : Pending) → In p s.tokens → IsOpenInBack s p p.request

-- all is given back: what is held is what was held before, with its properties unless it is unsure
pub record IsBackAll (s : StackState) : Type 0 where
  pub single_before : AreSingle s.before
  pub held : AreSameThings s.before s.held
  pub as_before : (b h : Held) → In b s.before → In h s.held → h.physical ≡ b.physical → h.unsure ≡ false → h.props ≡ b.props

-- an open call of this cleanup deletes what the update made
abbrev pub DeletesMade : StackState → Pending → Type 0
DeletesMade s p = (r : Held) × In r s.made × (p.request ≡ request.Delete r.physical) × (p.path ≡ r.path)
