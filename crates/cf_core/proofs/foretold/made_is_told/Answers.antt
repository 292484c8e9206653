use Rattle.cf_core.proofs.ToldMade.{made_begin_called, made_stay_called, made_told}
use Rattle.cf_core.proofs.foretold.made_is_told.Goals as goal

pub returns-clause-begins : goal.returns-clause-begins
returns-clause-begins c = made_begin_called

pub returns-clause-stays : goal.returns-clause-stays
returns-clause-stays c = made_stay_called

pub returns-clause-told : goal.returns-clause-told
returns-clause-told c = made_told
