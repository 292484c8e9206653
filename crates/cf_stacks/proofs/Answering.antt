-- An outcome that is awaited: the stack that it is of, and what it leaves.
use Rattle.std.proofs.Common.{◌≡◌, ℕ, ◌+◌, Bool, true, false, List, Option, Some, None, IfSome, find, map, option_map, refl, sym, ap, ◌∙◌, subst}
use Rattle.std.specs.Option.{option_map_or}
use Rattle.cf_tree.specs.Keys.{ascends, value_at}
use Rattle.cf_entry.specs.declared.entry.Entry.{Entry}
use Rattle.cf_entry.specs.declared.entry.Entry.TheVariants as entry
use Rattle.cf_stacks.specs.declared.standing.Fields.{Fields}
use Rattle.cf_effect.specs.Fold.{effect_at, is_opening, numbered, stack_for}
use Rattle.cf_effect.specs.Listed.{Same}
use Rattle.cf_stacks.specs.Ready.{IsAnswer}
use Rattle.cf_effect.specs.Bounds.{IsShortOutcomeOf}
use Rattle.cf_stacks.specs.Room.{StackStanding, has_call, is_awaited}
use Rattle.cf_stacks.specs.Standing.{NamedStanding, stack_in, stack_known, standing_in, world_in}
use Rattle.cf_effect.specs.World.{StackState, World, is_going, stack_of_operation}
use Rattle.cf_stacks.proofs.Prepared.{awaited_so}
use Rattle.cf_stacks.proofs.Worlds.{find_under, found_stands}

-- what an outcome that is awaited is
pub record IsOutcome (number token : ℕ) (e : Entry) (x : Fields) : Type 0 where
  pub outcome : IsShortOutcomeOf token e
  pub awaited : is_awaited number token (standing_in x) ≡ true
  pub of_it : stack_for e (world_in x) ≡ stack_of_operation number (world_in x)
  pub opening : is_opening e ≡ false
  pub exports : (place : ℕ) (s : StackState) → (effect_at place e s).exports ≡ None
  pub pins : (place : ℕ) (s : StackState) → (effect_at place e s).pins ≡ Same
  pub claims : (place : ℕ) (s : StackState) → (effect_at place e s).claims ≡ Same
  pub numbered_so : (w : World) → numbered e w ≡ w

pub is_outcome : (number token : ℕ) (e : Entry) (x : Fields) → IsAnswer number token e x → IsOutcome number token e x
is_outcome number token (entry.Opened epoch lanes) x h = absurd h
is_outcome number token (entry.Begin n name k) x h = absurd h
is_outcome number token (entry.Kept n path physical w) x h = absurd h
is_outcome number token (entry.Intent n t lane path r) x h = absurd h
is_outcome number token (entry.Outcome n t answer before after) x h = record {
  outcome = (h.1, h.3);
  awaited = h.2;
  of_it = ap (λ (m : ℕ). stack_of_operation m (world_in x)) h.0;
  opening = refl;
  exports = λ place s. refl;
  pins = λ place s. refl;
  claims = λ place s. refl;
  numbered_so = λ w. refl;
}
is_outcome number token (entry.Phase n p cause) x h = absurd h
is_outcome number token (entry.Done n state failed) x h = absurd h
is_outcome number token (entry.ChangeSet n name source rows outputs) x h = absurd h

-- the stack of the operation, on which the call is awaited
abbrev pub going_on : ℕ → Fields → Option NamedStanding
going_on number x = find (λ s. is_going number s.1.stack) x.stacks

some_waits : (token : ℕ) (o : Option NamedStanding) → option_map_or (λ (s : NamedStanding). has_call token s.1.awaited) o false ≡ true → (s : NamedStanding) × (o ≡ Some s) × (has_call token s.1.awaited ≡ true)
some_waits token None h = absurd cc
some_waits token (Some s) h = (s, refl, h)

module _ (x : Fields) (order : ascends x.stacks ≡ true) (number token : ℕ) (h : is_awaited number token (standing_in x) ≡ true) where
  pub waits : (s : NamedStanding) × (going_on number x ≡ Some s) × (has_call token s.1.awaited ≡ true)
  waits = some_waits token (going_on number x) (sym (awaited_so x order number token) ∙ h)

  pub waits_there : IfSome (going_on number x) (λ s. has_call token s.1.awaited ≡ true)
  waits_there = subst (λ (o : Option NamedStanding). IfSome o (λ s. has_call token s.1.awaited ≡ true)) (sym waits.1) waits.2

  pub stands_there : value_at waits.0.0 x.stacks ≡ Some waits.0.1
  stands_there = found_stands (λ (s : NamedStanding). is_going number s.1.stack) x.stacks waits.0 order waits.1

  pub is_of_it : stack_of_operation number (world_in x) ≡ Some (waits.0.0, stack_known (value_at waits.0.0 x.stacks))
  is_of_it =
      find_under (λ (s : StackStanding). s.stack) (is_going number) x.stacks ∙ ap (λ (o : Option NamedStanding). option_map stack_in o) waits.1
      ∙ ap (λ (t : StackState). Some (waits.0.0, t)) (sym (ap stack_known stands_there))
