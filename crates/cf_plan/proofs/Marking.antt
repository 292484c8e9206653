-- What one call adds to the marks of the paths that an operation updated.
use Rattle.std.proofs.Common.{◌≡◌, ℕ, ◌==◌, Bool, true, false, ◌&&◌, List, Option, Some, None, cond, set, refl, ap, sym, ◌∙◌}
use Rattle.std.specs.Prelude.{is_some}
use Rattle.std.proofs.lemmas.Option.{none-some}
use Rattle.cf_tree.specs.Keys.{value_at}
use Rattle.cf_effect.specs.declared.call.Call.{Call}
use Rattle.cf_effect.specs.declared.call.Settled.{Settled}
use Rattle.cf_effect.specs.declared.call.Settled.TheVariants as settled
use Rattle.cf_effect.specs.Calls.{is_success}
use Rattle.cf_effect.specs.Words.{is_update}
use Rattle.cf_plan.specs.Done.{is_good_update}
use Rattle.cf_plan.specs.StatesKept.{marked_at, updated_place, with_mark}

-- what succeeded was answered
module _ (places : List (List ℕ × ℕ)) (number : ℕ) (c : Call) where
  there : (own up : Bool) (o : Option Settled) (at : Option ℕ) (place : ℕ) → cond (own && (up && is_some o)) at None ≡ Some place
      → (marks : List Bool) → cond (up && is_success o) (set marks place true) marks ≡ cond (own && (up && is_success o)) (marked_at marks at) marks
  there true true (Some settled.Success) at place e marks = ap (marked_at marks) (sym e)
  there true true (Some (settled.Failed code)) at place e marks = refl
  there true true None at place e marks = absurd (none-some place e)
  there true false o at place e marks = absurd (none-some place e)
  there false up o at place e marks = absurd (none-some place e)

  nowhere : (own up : Bool) (o : Option Settled) (at : Option ℕ) → cond (own && (up && is_some o)) at None ≡ None
      → (marks : List Bool) → marks ≡ cond (own && (up && is_success o)) (marked_at marks at) marks
  nowhere true true (Some settled.Success) at e marks = ap (marked_at marks) (sym e)
  nowhere true true (Some (settled.Failed code)) at e marks = refl
  nowhere true true None at e marks = refl
  nowhere true false o at e marks = refl
  nowhere false up o at e marks = refl

  answered : (own : Bool) (at o : Option ℕ) → cond own at None ≡ o → (marks : List Bool) → marked_at marks o ≡ cond own (marked_at marks at) marks
  answered true at o e marks = ap (marked_at marks) (sym e)
  answered false at o e marks = ap (marked_at marks) (sym e)

  pub updated_marked : (place : ℕ) (at : Option ℕ) (good : Bool) (old new : List Bool) → at ≡ updated_place places number c → at ≡ Some place
      → good ≡ is_good_update c → new ≡ cond good (set old place true) old → new ≡ with_mark places true number old c
  updated_marked place at good old new is some so made =
      made ∙ ap (λ b. cond b (set old place true) old) so
      ∙ there (c.number == number) (is_update c.request) c.answer (value_at c.path places) place (sym is ∙ some) old

  pub updated_unmarked : (at : Option ℕ) (marks : List Bool) → at ≡ updated_place places number c → at ≡ None → marks ≡ with_mark places true number marks c
  updated_unmarked at marks is none = nowhere (c.number == number) (is_update c.request) c.answer (value_at c.path places) (sym is ∙ none) marks

  pub answered_marked : (place : ℕ) (at : Option ℕ) (old new : List Bool) → at ≡ updated_place places number c → at ≡ Some place → new ≡ set old place true
      → new ≡ with_mark places false number old c
  answered_marked place at old new is some so =
      so ∙ answered (c.number == number && (is_update c.request && is_some c.answer)) (value_at c.path places) (Some place) (sym is ∙ some) old

  pub answered_unmarked : (at : Option ℕ) (marks : List Bool) → at ≡ updated_place places number c → at ≡ None → marks ≡ with_mark places false number marks c
  answered_unmarked at marks is none = answered (c.number == number && (is_update c.request && is_some c.answer)) (value_at c.path places) None (sym is ∙ none) marks
