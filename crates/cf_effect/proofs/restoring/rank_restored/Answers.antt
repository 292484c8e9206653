use Rattle.cf_effect.specs.State.{state_of}
use Rattle.cf_effect.proofs.GivenBack.{restore_so}
use Rattle.cf_effect.proofs.restoring.rank_restored.Goals as goal

pub returns : goal.returns
returns c =
    restore_so c.args.number c.args.pending.now c.args.entry.now (state_of c.args.state.now) c.args.restoring.now c.before-helds.result.now c.rank_updated.result c.is_own.result
    c.is_own.ensures c.if-not-is_own.false (c.names_none.ensures c.if-not-names_none.false) c.before-helds.ensures c.rank_updated.ensures
