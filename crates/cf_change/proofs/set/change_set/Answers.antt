use Rattle.std.proofs.Common.{◌∙◌, sym, ap, subst}
use Rattle.std.specs.Prelude.{Err}
use Rattle.cf_desired.specs.declared.wanted.Plan.{Plan}
use Rattle.cf_desired.specs.Plan.{plan_of}
use Rattle.cf_desired.proofs.FirstFlaw.{is_flawless}
use Rattle.cf_change.specs.declared.set.ChangeFault.{ChangeFault}
use Rattle.cf_change.specs.Changes.{Changed, Changes, RowsFound, changes_by, changes_of}
use Rattle.cf_change.proofs.Refused.{changed_not}
use Rattle.cf_change.proofs.set.change_set.Goals as goal

pub change_set_by-requires : goal.change_set_by-requires
change_set_by-requires c =
    let plan = plan_of c.args.source.now c.in_ok-found.found.seen in
    let is = is_flawless plan c.in-Ok.plan plan.flaws c.in-Ok.ensures in
    record { flawless = ap (λ (p : Plan). p.flaws) is.1 ∙ is.0 }

pub returns-in-Err : goal.returns-in-Err
returns-in-Err c =
    let held = c.args.held.now in
    let source = c.args.source.now in
    let changes = changes_of c.args.schemas.now held.resources held.outputs held.exports source in
    subst (λ (f : ChangeFault). Changed changes (Err f)) (sym c.refused.ensures)
    (changed_not changes c.in-Err.fault (plan_of source c.in_ok-found.found.seen) (ap (λ (f : RowsFound). (plan_of source f.seen).flaws) c.in_ok-found.ensures) c.in-Err.ensures)

pub returns : goal.returns
returns c =
    let held = c.args.held.now in
    let seen = c.in_ok-found.found.seen in
    let found = c.in_ok-found.ensures in
    let plan =
    (is_flawless (plan_of c.args.source.now seen) c.in-Ok.plan (plan_of c.args.source.now seen).flaws c.in-Ok.ensures).1
    ∙ ap (λ (f : RowsFound). plan_of c.args.source.now f.seen) found in
    subst (λ (x : Changes). Changed x c.change_set_by.result) (λ j. changes_by held.resources held.outputs held.exports (found j) (plan j)) c.change_set_by.ensures
