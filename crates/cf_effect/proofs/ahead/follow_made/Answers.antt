use Rattle.std.proofs.Common.{◌≡◌, ◌∷◌, ◌++◌, [], IfSome, Option, Some, subst, true}
use Rattle.cf_effect.specs.declared.ahead.Ahead.{Ahead}
use Rattle.cf_effect.specs.declared.ahead.Way.TheVariants.{Forth}
use Rattle.cf_effect.specs.declared.layout.Layout.{Layout}
use Rattle.cf_effect.specs.Ahead.{IsAhead, Touches}
use Rattle.cf_effect.specs.Layout.{is_place, users_at}
use Rattle.cf_effect.proofs.Readied.{made_ahead}
use Rattle.cf_effect.proofs.ahead.follow_made.Goals as goal

pub returns-in-Some : goal.returns-in-Some
returns-in-Some c =
    λ s path place were was ahead stands is gone.
    let there : c.args.ahead.now ≡ Some c.in-Some.ahead = cc in
    made_ahead c.in-Some.ahead c.args.made.now c.args.found.now c.args.at c.touch_around.new.readiness
    (subst (λ (l : Layout). Touches Forth l c.args.made.now c.args.found.now (λ k. is_place k (users_at l c.args.at ++ c.args.at ∷ []) ≡ true) c.in-Some.ahead.readiness c.touch_around.new.readiness) c.deref.ensures
    c.touch_around.ensures)
    s path place were was (subst (λ (o : Option Ahead). IfSome o (IsAhead s were was)) there ahead) stands is gone
