use Rattle.cf_effect.proofs.Spares.{spare_less}
use Rattle.cf_effect.proofs.state.State.respond.Goals as goal

pub returns-in-Update-clause-spare : goal.returns-in-Update-clause-spare
returns-in-Update-clause-spare c = λ n h. c.answer_update.ensures.spare n (spare_less n c.args.self.now h)

pub returns-in-Delete-clause-spare : goal.returns-in-Delete-clause-spare
returns-in-Delete-clause-spare c = λ n h. c.answer_deletion.ensures.spare n (spare_less n c.args.self.now h)
