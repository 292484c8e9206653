use Rattle.std.proofs.Common.{◌≡◌, IfOk, Option, Some, sym, subst}
use Rattle.cf_effect.specs.End.{whole_over}
use Rattle.cf_effect.specs.Outset.{Outset}
use Rattle.cf_effect.specs.State.{source_in}
use Rattle.cf_effect.proofs.outset.whole_in.Goals as goal

pub returns-in-Some : goal.returns-in-Some
returns-in-Some c =
    let there : c.args.outset.now ≡ Some c.in-Some.outset = cc in
    subst (λ (o : Option Outset). IfOk c.whole.result (λ w. w ≡ whole_over (source_in o) c.args.seen.now)) (sym there) c.whole.ensures
