use Rattle.std.proofs.Common.{drop}
use Rattle.cf_tree.specs.Datum.{members_of}
use Rattle.cf_tree.specs.Value.{pairs_of}
use Rattle.cf_desired.specs.Given.{offered_members}
use Rattle.cf_desired.proofs.Offering.{IsTaking}
use Rattle.cf_desired.proofs.offers.dict_offered.Given as goal

abbrev pub invariant-loop-pair : goal.invariant-loop-pair
invariant-loop-pair l = IsTaking l.stack (offered_members l.at (members_of l.dict)) (offered_members l.at (members_of (pairs_of (drop l.pair-index l.pair-items)))) l.taken
