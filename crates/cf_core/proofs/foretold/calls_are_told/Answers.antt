use Rattle.cf_core.proofs.ToldCalls.{calls_begin_told, calls_stay_told}
use Rattle.cf_core.proofs.ToldRows.{intended_told}
use Rattle.cf_core.proofs.foretold.calls_are_told.Goals as goal

pub returns-clause-intended : goal.returns-clause-intended
returns-clause-intended c = intended_told

pub returns-clause-begins : goal.returns-clause-begins
returns-clause-begins c = calls_begin_told

pub returns-clause-stays : goal.returns-clause-stays
returns-clause-stays c = calls_stay_told
