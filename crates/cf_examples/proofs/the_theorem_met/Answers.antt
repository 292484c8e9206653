use Rattle.cf_examples.proofs.Always as told
use Rattle.cf_examples.proofs.the_theorem_met.Goals as goal

pub returns : goal.returns
returns c = told.met_in_lives
