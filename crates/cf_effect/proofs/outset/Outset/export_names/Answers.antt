use Rattle.std.proofs.Common.{◌≡◌, IfOk, ap, map, subst, ◌∙◌}
use Rattle.cf_desired.specs.declared.wanted.Plan.{Plan}
use Rattle.cf_desired.specs.Plan.{plan_by}
use Rattle.cf_desired.specs.Shape.{shape_of}
use Rattle.cf_effect.specs.Begin.{seen_in}
use Rattle.cf_effect.proofs.outset.Outset.export_names.Goals as goal

pub returns : goal.returns
returns c =
    let seen = c.in_ok-seen.ensures ∙ ap seen_in (c.as_slice.ensures.value ∙ c.before-2.ensures) in
    subst (λ (p : Plan). IfOk c.export_names-names.result (λ names. names ≡ map (λ e. e.0) p.exports))
    (c.in_ok-plan.ensures (shape_of c.args.self.now.source (seen_in c.args.self.now.before)) c.shape.ensures
    ∙ (λ j. plan_by (c.source.ensures j) (shape_of c.args.self.now.source (seen_in c.args.self.now.before)) (seen j)))
    c.export_names-names.ensures
