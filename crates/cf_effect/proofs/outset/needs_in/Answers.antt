use Rattle.std.proofs.Common.{◌≡◌, Option, Some, sym, subst}
use Rattle.cf_effect.specs.Begin.{seen_in}
use Rattle.cf_effect.specs.Outset.{Outset}
use Rattle.cf_effect.specs.Reply.{terms_of, wanted_in}
use Rattle.cf_effect.specs.State.{before_in, source_in}
use Rattle.cf_effect.proofs.outset.needs_in.Goals as goal

pub returns-in-Some : goal.returns-in-Some
returns-in-Some c =
    let there : c.args.outset.now ≡ Some c.in-Some.outset = cc in
    subst (λ (o : Option Outset). c.needs.result.now ≡ (terms_of (wanted_in (source_in o) (seen_in (before_in o)) c.args.path.now)).needs) (sym there) c.needs.ensures
