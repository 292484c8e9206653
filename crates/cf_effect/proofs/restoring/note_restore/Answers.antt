use Rattle.cf_effect.specs.State.{state_of}
use Rattle.cf_effect.proofs.GivenBack.{restore_noted}
use Rattle.cf_effect.proofs.restoring.note_restore.Goals as goal

pub returns-in-Some : goal.returns-in-Some
returns-in-Some c = λ t lines.
    restore_noted c.args.number c.args.pending.now (state_of c.args.state.now) c.args.entry.now lines c.args.restoring.now c.in-Some.rank c.take_flag.new.flags c.requires
    c.in-Some.ensures c.take_flag.ensures
