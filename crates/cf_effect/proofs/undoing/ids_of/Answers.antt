use Rattle.cf_effect.proofs.Undone.{ids_more}
use Rattle.cf_effect.proofs.undoing.ids_of.Goals as goal

pub loop-held-preserved : goal.loop-held-preserved
loop-held-preserved c =
    ids_more c.args.layout.now c.args.made.now c.loop-held.held-index c.held-item.result c.loop-held.ids.items c.put_id.new.ids.items c.loop-held-test.true c.held-item.is
    c.loop-held.invariant (c.in_ok-put_id.ensures c.if-not-branch.false)
