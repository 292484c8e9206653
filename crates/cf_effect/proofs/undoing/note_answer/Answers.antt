use Rattle.cf_effect.proofs.Undone.{undoes_at}
use Rattle.cf_effect.proofs.undoing.note_answer.Goals as goal

pub returns-in-Some : goal.returns-in-Some
returns-in-Some c = λ t.
    undoes_at c.args.pending.now c.args.answer.now c.args.undoing.now c.take_off_if.new.undoing c.in-Some.at c.completes_deletion.result c.completes_deletion.ensures
    c.in-Some.ensures c.take_off_if.ensures
