use Rattle.cf_examples.proofs.Ends.{replacement_is_complete, late_effect_is_restored, rollback_is_restored, deletion_is_cleared, failures_are_blamed, failed_rollback_is_blamed, failed_deletion_is_blamed}
use Rattle.cf_examples.proofs.the_ends.Goals as goal

pub returns-clause-complete : goal.returns-clause-complete
returns-clause-complete c = replacement_is_complete

pub returns-clause-restored : goal.returns-clause-restored
returns-clause-restored c = late_effect_is_restored

pub returns-clause-rolled_back : goal.returns-clause-rolled_back
returns-clause-rolled_back c = rollback_is_restored

pub returns-clause-cleared : goal.returns-clause-cleared
returns-clause-cleared c = deletion_is_cleared

pub returns-clause-blamed : goal.returns-clause-blamed
returns-clause-blamed c = failures_are_blamed

pub returns-clause-rollback_blamed : goal.returns-clause-rollback_blamed
returns-clause-rollback_blamed c = failed_rollback_is_blamed

pub returns-clause-deletion_blamed : goal.returns-clause-deletion_blamed
returns-clause-deletion_blamed c = failed_deletion_is_blamed
