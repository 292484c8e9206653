use Rattle.std.proofs.Common.{arith, ◌≡◌, ◌<◌, length, Err, ◌⊎◌, inl, inr, refl}
use Rattle.std.proofs.lemmas.Grind.{common_steps}
use Rattle.serde_json.specs.Data.{array}
use Rattle.serde_json.specs.View.{items_view}
use Rattle.cf_template.specs.declared.refusal.TemplateFault.TheVariants.{WrongShape}
use Rattle.cf_template.specs.Exprs.{find_of}
use Rattle.cf_template.proofs.Lengths.{not_three}
use Rattle.cf_template.proofs.find.+find.Goals.{find_items-in_default-via-then-as_slice-lt3, find_items-in_default-via-else-as_slice-lt3+else-this-lt4}
use Rattle.cf_template.proofs.find.+find.Goals as goal

pub find_items-returns-in_default : goal.find_items-returns-in_default
find_items-returns-in_default t c =
    let refused : (length c.args.items.now.items < 3) ⊎ (3 < length c.args.items.now.items) → find_of c.args.params.now (array (items_view c.args.items.now.items)) c.args.at.now ≡ Err (WrongShape c.args.at.now)
    = not_three (λ ds. find_of c.args.params.now (array ds) c.args.at.now) (WrongShape c.args.at.now) refl (λ a. refl) (λ a b. refl) (λ a b d f ds. refl) c.args.items.now.items in
    elim c.in_default.branch [
      | find_items-in_default-via-then-as_slice-lt3 w ↦ inr (rw c.in_ok-wrong_shape.ensures (refused (inl (first_of (omega arith, grind (arith, common_steps))))))
      | find_items-in_default-via-else-as_slice-lt3+else-this-lt4 w ↦ inr (rw c.in_ok-wrong_shape.ensures (refused (inr (first_of (omega arith, grind (arith, common_steps))))))
    ]
