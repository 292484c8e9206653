use Rattle.std.proofs.Common.{◌≡◌, Some}
use Rattle.cf_effect.specs.State.{state_of}
use Rattle.cf_effect.proofs.Sought.{layout_there}
use Rattle.cf_effect.proofs.ahead.ahead_of.Goals as goal

pub returns-in_ok-ahead_with-in-Some : goal.returns-in_ok-ahead_with-in-Some
returns-in_ok-ahead_with-in-Some c =
    let there : c.args.state.now.outset ≡ Some c.in-Some.outset = cc in
    c.in_ok-ahead_with-in-Some.ensures (state_of c.args.state.now) (c.goes_forth.ensures c.if-not-goes_forth.false)
    (layout_there c.args.state.now c.in-Some.outset c.in_ok-layout-in-Some.layout there c.in_ok-layout-in-Some.ensures)
