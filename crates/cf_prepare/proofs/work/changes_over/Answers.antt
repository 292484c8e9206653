use Rattle.cf_change.specs.Changes.{changes_by}
use Rattle.cf_prepare.proofs.Working.{set_left}
use Rattle.cf_prepare.proofs.work.changes_over.Goals as goal

pub returns-in-Err : goal.returns-in-Err
returns-in-Err c =
    let held = c.args.held.now in
    set_left (changes_by held.resources held.outputs held.exports c.args.found c.args.plan.now) c.in-Err.fault c.no_change.result c.requires.flawless c.requires.clash c.in-Err.ensures c.no_change.ensures
