use Rattle.cf_examples.proofs.BrokenStacks as told
use Rattle.cf_examples.proofs.wrong_stacks.Goals as goal

pub returns-clause-not_complete : goal.returns-clause-not_complete
returns-clause-not_complete c = told.not_complete

pub returns-clause-not_restored : goal.returns-clause-not_restored
returns-clause-not_restored c = told.not_restored

pub returns-clause-not_blamed : goal.returns-clause-not_blamed
returns-clause-not_blamed c = told.not_blamed

pub returns-clause-no_such_worlds : goal.returns-clause-no_such_worlds
returns-clause-no_such_worlds c = told.no_such_worlds

pub returns-clause-not_advancing : goal.returns-clause-not_advancing
returns-clause-not_advancing c = told.not_advancing

pub returns-clause-not_back : goal.returns-clause-not_back
returns-clause-not_back c = told.not_back

pub returns-clause-not_booked : goal.returns-clause-not_booked
returns-clause-not_booked c = told.not_booked

pub returns-clause-not_open : goal.returns-clause-not_open
returns-clause-not_open c = told.not_open
