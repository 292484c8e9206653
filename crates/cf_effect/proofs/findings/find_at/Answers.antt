use Rattle.std.proofs.Common.{◌≡◌, Some, sym}
use Rattle.cf_effect.proofs.Sought.{found_at, none_at}
use Rattle.cf_effect.proofs.findings.find_at.Goals as goal

pub returns-in-Some-row_at : goal.returns-in-Some-row_at
returns-in-Some-row_at c =
    let there : c.args.state.now.outset ≡ Some c.in-Some.outset = cc in
    found_at c.args.state.now c.in-Some.outset c.layout.result.now c.args.at c.in-Some-row_at.row.now c.find_row.result there c.layout.ensures (sym c.in-Some-row_at.ensures)
    c.find_row.ensures

pub returns-in-None-row_at : goal.returns-in-None-row_at
returns-in-None-row_at c =
    let there : c.args.state.now.outset ≡ Some c.in-Some.outset = cc in
    none_at c.args.state.now c.in-Some.outset c.layout.result.now c.args.at there c.layout.ensures (sym c.in-None-row_at.ensures)
