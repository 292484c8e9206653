use Rattle.std.proofs.Common.{rules, arith, ◌≡◌, ◌<◌, [], ◌∷◌, length, Err, ◌⊎◌, inl, inr, refl}
use Rattle.std.proofs.lemmas.Grind.{common_steps}
use Rattle.serde_json.specs.Data.{array}
use Rattle.serde_json.specs.View.{view, items_view}
use Rattle.serde_json.proofs.Views.{view-Array}
use Rattle.cf_template.specs.declared.refusal.TemplateFault.TheVariants.{WrongShape}
use Rattle.cf_template.specs.Exprs.{get_att_of}
use Rattle.cf_template.proofs.Lengths.{not_two}
use Rattle.cf_template.proofs.arguments.get_att.Goals.{in_default-via-then-as_slice-lt2, in_default-via-else-as_slice-lt2+else-this-lt3}
use Rattle.cf_template.proofs.arguments.get_att.Goals as goal

pub returns-in_default : goal.returns-in_default
returns-in_default c =
    let vs = c.in-Array.items.items in
    let refused : (length vs < 2) ⊎ (2 < length vs) → get_att_of c.args.params.now (view c.args.argument.now) c.args.at ≡ Err (WrongShape c.args.at)
    = λ o. rw (c.in-Array.is, view-Array c.in-Array.items) (not_two (λ ds. get_att_of c.args.params.now (array ds) c.args.at) (WrongShape c.args.at) refl (λ a. refl) (λ a b d ds. refl) vs o) in
    elim c.in_default.branch [
      | in_default-via-then-as_slice-lt2 w ↦ inr (refused (inl (first_of (omega arith, grind (arith, common_steps)))))
      | in_default-via-else-as_slice-lt2+else-this-lt3 w ↦ inr (refused (inr (first_of (omega arith, grind (arith, common_steps)))))
    ]

pub returns-in-len2 : goal.returns-in-len2
returns-in-len2 c =
    let all : c.in-Array.items.items ≡ c.id-item.result ∷ c.attribute-item.result ∷ [] = first_of (cc, search rules, grind (arith, common_steps)) in
    rw (c.in-Array.is, view-Array c.in-Array.items, all) c.get_att_parts.ensures
