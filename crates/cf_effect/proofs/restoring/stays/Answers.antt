use Rattle.std.proofs.Common.{◌≡◌, IfSome, None, Option, subst, sym}
use Rattle.cf_effect.specs.declared.restoring.Restoring.{Restoring}
use Rattle.cf_effect.specs.Fold.{effect_at}
use Rattle.cf_effect.specs.Restoring.{IsRestoring}
use Rattle.cf_effect.specs.State.{state_of}
use Rattle.cf_effect.proofs.GivenBack.{kept_some}
use Rattle.cf_effect.proofs.restoring.stays.Goals as goal

pub returns-in-Some : goal.returns-in-Some
returns-in-Some c = λ t place.
    kept_some (state_of c.args.state.now) (effect_at place c.args.entry.now (state_of c.args.state.now)).stack c.args.restoring.now (c.leaves_all.ensures t place) c.requires

pub returns-in-None : goal.returns-in-None
returns-in-None c = λ t place.
    let none : c.args.restoring.now ≡ None = cc in
    subst (λ (o : Option Restoring). IfSome o (IsRestoring (effect_at place c.args.entry.now (state_of c.args.state.now)).stack)) (sym none) tt
