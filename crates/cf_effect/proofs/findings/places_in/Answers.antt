use Rattle.std.specs.Prelude.{Some}
use Rattle.std.specs.Option.{option_copied}
use Rattle.std.proofs.Common.{ap, subst}
use Rattle.cf_effect.specs.Layout.{IsLayoutOf}
use Rattle.cf_effect.specs.State.{state_of}
use Rattle.cf_effect.proofs.Noted.{all_standing}
use Rattle.cf_effect.proofs.findings.places_in.Goals as goal

pub returns-in-Some : goal.returns-in-Some
returns-in-Some c =
    all_standing (state_of c.args.state.now) c.in-Some.layout.now c.args.helds.now c.places_among.result
    (subst (IsLayoutOf (state_of c.args.state.now)) (ap option_copied c.in-Some.is) c.layout_of.ensures) c.places_among.ensures
