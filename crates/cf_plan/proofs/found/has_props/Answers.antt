use Rattle.std.proofs.Common.{◌∙◌, ap, sym}
use Rattle.std.specs.Option.{option_copied}
use Rattle.cf_plan.specs.Done.{finding_of}
use Rattle.cf_plan.specs.Forward.{finding_over}
use Rattle.cf_plan.proofs.Findings.{known_has}
use Rattle.cf_plan.proofs.found.has_props.Goals as goal

pub returns-in-Known : goal.returns-in-Known
returns-in-Known c =
    known_has (finding_over (option_copied c.args.wanted)) c.in-Known.found.now c.args.kind.now c.in-Known.wanted c.args.props.now c.are_same.result
    (ap finding_of (sym c.in-Known.is) ∙ c.in_ok-finding.ensures) c.are_same.ensures
