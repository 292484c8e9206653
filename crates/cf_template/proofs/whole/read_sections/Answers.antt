use Rattle.serde_json.specs.View.{view}
use Rattle.cf_template.specs.Whole.{sections_of}
use Rattle.cf_template.proofs.Steps.{first_fails, then_fails, mapped_fails, then_gives, mapped_gives, refused}
use Rattle.cf_template.proofs.whole.read_sections.Goals as goal

pub returns-in_err-read_mappings : goal.returns-in_err-read_mappings
returns-in_err-read_mappings c =
    refused (sections_of (view c.args.root.now)) _ c.from_residual-in_err-read_mappings.result c.in_err-read_mappings.field-0.0 c.from_residual-in_err-read_mappings.ensures.1
    (then_fails _ _ _ _ c.in_ok-description.ensures (then_fails _ _ _ _ c.in_ok-metadata.ensures (then_fails _ _ _ _ c.in_ok-read_parameters.ensures (first_fails _ _ _ c.in_err-read_mappings.ensures))))

pub returns-in_err-read_conditions : goal.returns-in_err-read_conditions
returns-in_err-read_conditions c =
    refused (sections_of (view c.args.root.now)) _ c.from_residual-in_err-read_conditions.result c.in_err-read_conditions.field-0.0 c.from_residual-in_err-read_conditions.ensures.1
    (then_fails _ _ _ _ c.in_ok-description.ensures (then_fails _ _ _ _ c.in_ok-metadata.ensures (then_fails _ _ _ _ c.in_ok-read_parameters.ensures (then_fails _ _ _ _ c.in_ok-read_mappings.ensures (first_fails _ _ _ c.in_err-read_conditions.ensures)))))

pub returns-in_err-read_resources : goal.returns-in_err-read_resources
returns-in_err-read_resources c =
    refused (sections_of (view c.args.root.now)) _ c.from_residual-in_err-read_resources.result c.in_err-read_resources.field-0.0 c.from_residual-in_err-read_resources.ensures.1
    (then_fails _ _ _ _ c.in_ok-description.ensures (then_fails _ _ _ _ c.in_ok-metadata.ensures (then_fails _ _ _ _ c.in_ok-read_parameters.ensures (then_fails _ _ _ _ c.in_ok-read_mappings.ensures (then_fails _ _ _ _ c.in_ok-read_conditions.ensures (first_fails _ _ _ c.in_err-read_resources.ensures))))))

pub returns-in_err-read_outputs : goal.returns-in_err-read_outputs
returns-in_err-read_outputs c =
    refused (sections_of (view c.args.root.now)) _ c.from_residual-in_err-read_outputs.result c.in_err-read_outputs.field-0.0 c.from_residual-in_err-read_outputs.ensures.1
    (then_fails _ _ _ _ c.in_ok-description.ensures (then_fails _ _ _ _ c.in_ok-metadata.ensures (then_fails _ _ _ _ c.in_ok-read_parameters.ensures (then_fails _ _ _ _ c.in_ok-read_mappings.ensures (then_fails _ _ _ _ c.in_ok-read_conditions.ensures (then_fails _ _ _ _ c.in_ok-read_resources.ensures (mapped_fails _ _ _ c.in_err-read_outputs.ensures)))))))

pub returns : goal.returns
returns c = then_gives _ _ _ _ c.in_ok-description.ensures (then_gives _ _ _ _ c.in_ok-metadata.ensures (then_gives _ _ _ _ c.in_ok-read_parameters.ensures (then_gives _ _ _ _ c.in_ok-read_mappings.ensures (then_gives _ _ _ _ c.in_ok-read_conditions.ensures (then_gives _ _ _ _ c.in_ok-read_resources.ensures (mapped_gives _ _ _ c.in_ok-read_outputs.ensures))))))
