use Rattle.std.proofs.Common.{◌≡◌, IfOk, Option, ap, subst, sym}
use Rattle.cf_desired.specs.declared.wanted.Wanted.{Wanted}
use Rattle.cf_plan.specs.Forward.{finding_by, finding_over}
use Rattle.cf_plan.specs.Starts.{AreIntended, wants_by}
use Rattle.cf_plan.proofs.Starting.{intended, told}
use Rattle.cf_plan.proofs.forward.wants_at.Goals as goal

pub returns : goal.returns
returns c =
    let found = finding_by c.args.path.now c.args.now.now in
    told c.wants_over.result (wants_by c.args.schemas.now c.args.stack.now.stack c.args.path.now found)
    (AreIntended c.args.schemas.now c.args.stack.now.stack c.args.path.now)
    (subst (λ (o : Option Wanted). IfOk c.wants_over.result (λ w. w ≡ wants_by c.args.schemas.now c.args.stack.now.stack c.args.path.now (finding_over o)))
    c.wanted_at.ensures c.wants_over.ensures)
    (intended c.args.schemas.now c.args.stack.now.stack c.args.path.now found (sym (ap (finding_by c.args.path.now) c.requires.now)))
