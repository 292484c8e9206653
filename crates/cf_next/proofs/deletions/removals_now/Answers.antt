use Rattle.cf_next.proofs.Removing.{told_removals}
use Rattle.cf_next.proofs.deletions.removals_now.Goals as goal

pub returns : goal.returns
returns c =
    told_removals c.args.stage c.args.out.now c.args.stack.now.stack c.in_ok-facts.facts c.all_removals-all.result c.requires.status c.in_ok-facts.ensures
    c.requires.idle c.all_removals-all.ensures
