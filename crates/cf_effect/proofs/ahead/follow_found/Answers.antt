use Rattle.std.proofs.Common.{◌≡◌, ◌∷◌, [], IfSome, Option, Some, subst, true}
use Rattle.cf_effect.specs.declared.ahead.Ahead.{Ahead}
use Rattle.cf_effect.specs.declared.ahead.Way.TheVariants.{Forth}
use Rattle.cf_effect.specs.declared.layout.Layout.{Layout}
use Rattle.cf_effect.specs.Ahead.{IsAhead, Touches}
use Rattle.cf_effect.specs.Layout.{is_place}
use Rattle.cf_effect.proofs.Readied.{found_ahead}
use Rattle.cf_effect.proofs.ahead.follow_found.Goals as goal

pub returns-in-Some : goal.returns-in-Some
returns-in-Some c =
    λ s was e ahead is.
    let there : c.args.ahead.now ≡ Some c.in-Some.ahead = cc in
    found_ahead c.in-Some.ahead c.args.made.now c.args.found.now c.args.at c.touch_at.new.readiness
    (subst (λ (l : Layout). Touches Forth l c.args.made.now c.args.found.now (λ k. is_place k (c.args.at ∷ []) ≡ true) c.in-Some.ahead.readiness c.touch_at.new.readiness) c.deref.ensures c.touch_at.ensures)
    s was e (subst (λ (o : Option Ahead). IfSome o (IsAhead s c.args.made.now was)) there ahead) is
