use Rattle.std.proofs.Common.{◌≡◌, ◌∙◌, ℕ, List, true, ap, subst}
use Rattle.cf_tree.specs.Keys.{ascends, value_at}
use Rattle.cf_template.specs.Whole.{template_of}
use Rattle.cf_desired.specs.Templates.{accepted}
use Rattle.cf_desired.proofs.Kept.{value_kept}
use Rattle.cf_desired.proofs.templates.template_named.Goals as goal

pub returns : goal.returns
returns c =
    let in_order : ascends c.args.source.now.texts ≡ true =
    subst (λ (texts : List (List ℕ × List ℕ)). ascends texts ≡ true) c.as_slice-texts.ensures.value c.as_slice-texts.ensures.in_order in
    c.get.ensures ∙ ap (λ (name : List ℕ). value_at name c.args.templates.now) c.as_str.ensures ∙ ap (value_at c.args.name.now) c.requires
    ∙ value_kept (λ bytes. accepted (template_of bytes)) c.args.name.now c.args.source.now.texts in_order
