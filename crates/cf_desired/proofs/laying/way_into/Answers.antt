use Rattle.std.proofs.Common.{◌≡◌, ◌∙◌, IfOk, None, true, ap, sym, subst, Ok}
use Rattle.std.specs.Prelude.{codes, cond}
use Rattle.cf_tree.specs.Keys.{value_at}
use Rattle.cf_eval.specs.Env.{scope_in}
use Rattle.cf_desired.specs.declared.flaw.Flaw.TheVariants as flaw
use Rattle.cf_desired.specs.Given.{given_in}
use Rattle.cf_desired.specs.Kept.{template_name_in, way_in}
use Rattle.cf_desired.specs.Laying.{Way, name_way, way_by, way_shut}
use Rattle.cf_desired.specs.Shape.{has_stack_shape, template_name_of}
use Rattle.cf_desired.proofs.Finding.{not_some}
use Rattle.cf_desired.proofs.laying.way_into.Goals as goal

pub returns-in-Named : goal.returns-in-Named
returns-in-Named c =
    let source = c.args.laying.now.source.now in
    let stack = c.args.env.now.stack.now in
    let s = scope_in c.args.env.now in
    let n = c.args.count.templates in
    let k = c.args.count.members in
    let path = c.args.inner.now.nesting.path in
    let r = c.args.inner.now.resource in
    let none : c.args.unnamed ≡ None = not_some c.args.unnamed c.in_default.not-Some in
    let shape : has_stack_shape r ≡ true = sym c.has_shape.ensures ∙ c.if-not-has_shape.false in
    let named : template_name_of stack path s r ≡ Ok c.in-Named.name = sym c.in_ok-name.ensures ∙ ap template_name_in c.in-Named.is in
    let whole = ap (λ o. way_by c.args.left source stack s n k path r o) none
    ∙ (λ j. cond (shape j) (name_way c.args.left source path n k (given_in s (value_at (codes "Parameters") r.props)) (named j)) (way_shut (flaw.Shape path))) in
    subst (λ (x : Way). IfOk c.way_by_name.result (λ w. way_in w ≡ x)) (sym whole) c.way_by_name.ensures
