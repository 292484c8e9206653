use Rattle.cf_template.proofs.Steps.{then_gives, mapped_gives}
use Rattle.cf_template.proofs.output.fields.Goals as goal

pub returns-in-Ok : goal.returns-in-Ok
returns-in-Ok c =
    rw c.in_ok-name.ensures
    (then_gives _ _ _ _ c.in_ok-condition.ensures (then_gives _ _ _ _ c.in_ok-description.ensures (then_gives _ _ _ _ c.in_ok-export.ensures (mapped_gives _ _ _ c.in-Ok.ensures))))
