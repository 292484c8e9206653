use Rattle.cf_effect.proofs.Spares.{spare_less}
use Rattle.cf_effect.proofs.state.State.take_answer.Goals as goal

pub returns-then-is_doubt-clause-spare : goal.returns-then-is_doubt-clause-spare
returns-then-is_doubt-clause-spare c = λ n h. c.doubt.ensures.spare n (spare_less n c.args.self.now h)
