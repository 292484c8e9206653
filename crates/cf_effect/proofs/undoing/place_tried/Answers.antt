use Rattle.cf_effect.specs.State.{state_of}
use Rattle.cf_effect.proofs.Undone.{tried_so}
use Rattle.cf_effect.proofs.undoing.place_tried.Goals as goal

pub returns-then-is_own : goal.returns-then-is_own
returns-then-is_own c =
    tried_so c.args.number c.args.pending.now (state_of c.args.state.now) c.args.undoing.now c.place_asked.result c.is_own.result c.is_own.ensures c.if-is_own.true
    c.place_asked.ensures
