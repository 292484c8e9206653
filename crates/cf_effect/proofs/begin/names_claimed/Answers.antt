use Rattle.std.proofs.Common.{◌≡◌, Option, Some, ap, sym, subst}
use Rattle.cf_effect.specs.Begin.{names_claimed, seen_in}
use Rattle.cf_effect.specs.Listed.{Only}
use Rattle.cf_effect.specs.Outset.{Outset}
use Rattle.cf_effect.specs.State.{before_in, source_in}
use Rattle.cf_effect.proofs.begin.names_claimed.Goals as goal

pub returns-in-Ok : goal.returns-in-Ok
returns-in-Ok c =
    let there : c.args.outset.now ≡ Some c.in-Some.outset = cc in
    subst (λ (o : Option Outset). Only c.in-Ok.names ≡ names_claimed (source_in o) (seen_in (before_in o))) (sym there) (ap (λ ns. Only ns) c.in-Ok.ensures)
