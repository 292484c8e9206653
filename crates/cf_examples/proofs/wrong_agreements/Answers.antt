use Rattle.cf_examples.proofs.BrokenAgreement as told
use Rattle.cf_examples.proofs.wrong_agreements.Goals as goal

pub returns-clause-no_such_calls : goal.returns-clause-no_such_calls
returns-clause-no_such_calls c = told.no_such_calls

pub returns-clause-no_such_lanes : goal.returns-clause-no_such_lanes
returns-clause-no_such_lanes c = told.no_such_lanes
