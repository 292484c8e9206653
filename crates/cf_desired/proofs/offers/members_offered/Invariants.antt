use Rattle.std.proofs.Common.{drop}
use Rattle.std.specs.Option.{option_copied}
use Rattle.cf_eval.specs.Env.{scope_in}
use Rattle.cf_tree.specs.Form.{fields_in}
use Rattle.cf_tree.specs.Forms.{fields_of}
use Rattle.cf_desired.specs.Given.{offered_fields}
use Rattle.cf_desired.proofs.Offering.{IsTaking}
use Rattle.cf_desired.proofs.offers.members_offered.Given as goal

abbrev pub invariant-loop-pair : goal.invariant-loop-pair
invariant-loop-pair l =
    IsTaking l.env.stack.now (offered_fields (scope_in l.env) (option_copied l.around) (fields_of l.pairs))
    (offered_fields (scope_in l.env) (option_copied l.around) (fields_of (fields_in (drop l.pair-index l.pair-items)))) l.taken
