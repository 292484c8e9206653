use Rattle.cf_eval.proofs.Knowing.{knowing_more}
use Rattle.cf_eval.proofs.evaluation.known_stays.Goals as goal

pub returns : goal.returns
returns c = knowing_more
