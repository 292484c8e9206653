use Rattle.std.proofs.Common.{◌≡◌, ◌∙◌, Some, ap, length, sym, arith}
use Rattle.std.specs.Option.{option_copied}
use Rattle.cf_tree.specs.declared.template.Template.{Template}
use Rattle.cf_desired.specs.Templates.{template_named}
use Rattle.cf_desired.proofs.Limits.{named_few}
use Rattle.cf_desired.proofs.laying.enterable.Goals as goal

pub overflow_add-members : goal.overflow_add-members
overflow_add-members c =
    let found : template_named c.args.name.now c.args.laying.now.source.now ≡ Some c.in-Some.template.now = sym c.template_named.ensures ∙ ap (λ o. option_copied o) c.in-Some.is in
    let small = named_few c.args.name.now c.args.laying.now.source.now c.in-Some.template.now found in
    omega (arith, small, c.requires.few.1, c.len.ensures, ap (λ (t : Template). length t.resources) c.deref.ensures)
