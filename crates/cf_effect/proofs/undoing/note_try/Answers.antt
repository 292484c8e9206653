use Rattle.cf_effect.specs.State.{state_of}
use Rattle.cf_effect.proofs.Undone.{tried_there}
use Rattle.cf_effect.proofs.undoing.note_try.Goals as goal

pub returns-in-Some : goal.returns-in-Some
returns-in-Some c = λ t e lines.
    tried_there c.args.number c.args.pending.now (state_of c.args.state.now) e lines c.args.undoing.now c.in-Some.at c.mark.new.marks c.requires c.in-Some.ensures c.mark.ensures
