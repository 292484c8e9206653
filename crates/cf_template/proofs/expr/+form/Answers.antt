use Rattle.std.proofs.Common.{rules, arith, [], ◌∷◌, ◌≡◌, ◌<◌, length, Err, ◌⊎◌, inl, inr, refl}
use Rattle.std.proofs.lemmas.Grind.{common_steps}
use Rattle.serde_json.specs.Data.{array}
use Rattle.serde_json.specs.View.{items_view}
use Rattle.cf_template.specs.declared.refusal.TemplateFault.TheVariants.{WrongShape}
use Rattle.cf_template.specs.Exprs.{sub_of, join_of, split_of, select_of, choice_of}
use Rattle.cf_template.proofs.Lengths.{not_two, not_three}
use Rattle.cf_tree.specs.Form.{node_of}
use Rattle.cf_template.proofs.Steps.{first_fails, then_fails, mapped_fails, then_gives, mapped_gives, refused_by}
use Rattle.cf_template.proofs.expr.+form.Goals.{sub_items-in_default-via-then-as_slice-lt2, sub_items-in_default-via-else-as_slice-lt2+else-this-lt3, join_items-in_default-via-then-as_slice-lt2, join_items-in_default-via-else-as_slice-lt2+else-this-lt3, split_items-in_default-via-then-as_slice-lt2, split_items-in_default-via-else-as_slice-lt2+else-this-lt3, select_items-in_default-via-then-as_slice-lt2, select_items-in_default-via-else-as_slice-lt2+else-this-lt3, choice_items-in_default-via-then-as_slice-lt3, choice_items-in_default-via-else-as_slice-lt3+else-this-lt4}
use Rattle.cf_template.proofs.expr.+form.Goals as goal

pub join_items-returns-in_err-list : goal.join_items-returns-in_err-list
join_items-returns-in_err-list t c =
    let all : c.args.items.now.items ≡ c.delimiter-item.result ∷ c.list-item.result ∷ [] = first_of (cc, search rules, grind (arith, common_steps)) in
    refused_by node_of _ c.from_residual-in_err-list.result c.in_err-list.field-0.0 c.from_residual-in_err-list.ensures.1 (rw all (then_fails _ _ _ _ c.in_ok-delimiter.ensures (mapped_fails _ _ _ c.in_err-list.ensures)))

pub join_items-returns : goal.join_items-returns
join_items-returns t c =
    let all : c.args.items.now.items ≡ c.delimiter-item.result ∷ c.list-item.result ∷ [] = first_of (cc, search rules, grind (arith, common_steps)) in
    rw all (then_gives _ _ _ _ c.in_ok-delimiter.ensures (mapped_gives _ _ _ c.in_ok-list.ensures))

pub split_items-returns-in_err-text : goal.split_items-returns-in_err-text
split_items-returns-in_err-text t c =
    let all : c.args.items.now.items ≡ c.delimiter-item.result ∷ c.text-item.result ∷ [] = first_of (cc, search rules, grind (arith, common_steps)) in
    refused_by node_of _ c.from_residual-in_err-text.result c.in_err-text.field-0.0 c.from_residual-in_err-text.ensures.1 (rw all (then_fails _ _ _ _ c.in_ok-delimiter.ensures (mapped_fails _ _ _ c.in_err-text.ensures)))

pub split_items-returns : goal.split_items-returns
split_items-returns t c =
    let all : c.args.items.now.items ≡ c.delimiter-item.result ∷ c.text-item.result ∷ [] = first_of (cc, search rules, grind (arith, common_steps)) in
    rw all (then_gives _ _ _ _ c.in_ok-delimiter.ensures (mapped_gives _ _ _ c.in_ok-text.ensures))

pub sub_items-returns-in-Err : goal.sub_items-returns-in-Err
sub_items-returns-in-Err t c =
    let all : c.args.items.now.items ≡ c.text-item.result ∷ c.map-item.result ∷ [] = first_of (cc, search rules, grind (arith, common_steps)) in
    rw all (then_fails _ _ _ _ c.in_ok-parts.ensures (mapped_fails _ _ _ c.in-Err.ensures))

pub sub_items-returns-in-Ok : goal.sub_items-returns-in-Ok
sub_items-returns-in-Ok t c =
    let all : c.args.items.now.items ≡ c.text-item.result ∷ c.map-item.result ∷ [] = first_of (cc, search rules, grind (arith, common_steps)) in
    rw all (then_gives _ _ _ _ c.in_ok-parts.ensures (mapped_gives _ _ _ c.in-Ok.ensures))

pub select_items-returns-in_err-index : goal.select_items-returns-in_err-index
select_items-returns-in_err-index t c =
    let all : c.args.items.now.items ≡ c.index-item.result ∷ c.list-item.result ∷ [] = first_of (cc, search rules, grind (arith, common_steps)) in
    refused_by node_of _ c.from_residual-in_err-index.result c.in_err-index.field-0.0 c.from_residual-in_err-index.ensures.1 (rw all (first_fails _ _ _ c.in_err-index.ensures))

pub select_items-returns-in-Err : goal.select_items-returns-in-Err
select_items-returns-in-Err t c =
    let all : c.args.items.now.items ≡ c.index-item.result ∷ c.list-item.result ∷ [] = first_of (cc, search rules, grind (arith, common_steps)) in
    rw all (then_fails _ _ _ _ c.in_ok-index.ensures (mapped_fails _ _ _ c.in-Err.ensures))

pub select_items-returns-in-Ok : goal.select_items-returns-in-Ok
select_items-returns-in-Ok t c =
    let all : c.args.items.now.items ≡ c.index-item.result ∷ c.list-item.result ∷ [] = first_of (cc, search rules, grind (arith, common_steps)) in
    rw all (then_gives _ _ _ _ c.in_ok-index.ensures (mapped_gives _ _ _ c.in-Ok.ensures))

pub choice_items-returns-in_err-yes : goal.choice_items-returns-in_err-yes
choice_items-returns-in_err-yes t c =
    let all : c.args.items.now.items ≡ c.name-item.result ∷ c.yes-item.result ∷ c.no-item.result ∷ [] = first_of (cc, search rules, grind (arith, common_steps)) in
    refused_by node_of _ c.from_residual-in_err-yes.result c.in_err-yes.field-0.0 c.from_residual-in_err-yes.ensures.1 (rw all (then_fails _ _ _ _ c.in_ok-name.ensures (first_fails _ _ _ c.in_err-yes.ensures)))

pub choice_items-returns-in-Err : goal.choice_items-returns-in-Err
choice_items-returns-in-Err t c =
    let all : c.args.items.now.items ≡ c.name-item.result ∷ c.yes-item.result ∷ c.no-item.result ∷ [] = first_of (cc, search rules, grind (arith, common_steps)) in
    rw all (then_fails _ _ _ _ c.in_ok-name.ensures (then_fails _ _ _ _ c.in_ok-yes.ensures (mapped_fails _ _ _ c.in-Err.ensures)))

pub choice_items-returns-in-Ok : goal.choice_items-returns-in-Ok
choice_items-returns-in-Ok t c =
    let all : c.args.items.now.items ≡ c.name-item.result ∷ c.yes-item.result ∷ c.no-item.result ∷ [] = first_of (cc, search rules, grind (arith, common_steps)) in
    rw all (then_gives _ _ _ _ c.in_ok-name.ensures (then_gives _ _ _ _ c.in_ok-yes.ensures (mapped_gives _ _ _ c.in-Ok.ensures)))

pub sub_items-returns-in_default : goal.sub_items-returns-in_default
sub_items-returns-in_default t c =
    let refused : (length c.args.items.now.items < 2) ⊎ (2 < length c.args.items.now.items) → sub_of c.args.params.now (array (items_view c.args.items.now.items)) c.args.at.now ≡ Err (WrongShape c.args.at.now)
    = not_two (λ ds. sub_of c.args.params.now (array ds) c.args.at.now) (WrongShape c.args.at.now) refl (λ a. refl) (λ a b d ds. refl) c.args.items.now.items in
    elim c.in_default.branch [
      | sub_items-in_default-via-then-as_slice-lt2 w ↦ inr (rw c.in_ok-wrong_shape.ensures (refused (inl (first_of (omega arith, grind (arith, common_steps))))))
      | sub_items-in_default-via-else-as_slice-lt2+else-this-lt3 w ↦ inr (rw c.in_ok-wrong_shape.ensures (refused (inr (first_of (omega arith, grind (arith, common_steps))))))
    ]

pub join_items-returns-in_default : goal.join_items-returns-in_default
join_items-returns-in_default t c =
    let refused : (length c.args.items.now.items < 2) ⊎ (2 < length c.args.items.now.items) → join_of c.args.params.now (array (items_view c.args.items.now.items)) c.args.at.now ≡ Err (WrongShape c.args.at.now)
    = not_two (λ ds. join_of c.args.params.now (array ds) c.args.at.now) (WrongShape c.args.at.now) refl (λ a. refl) (λ a b d ds. refl) c.args.items.now.items in
    elim c.in_default.branch [
      | join_items-in_default-via-then-as_slice-lt2 w ↦ inr (rw c.in_ok-wrong_shape.ensures (refused (inl (first_of (omega arith, grind (arith, common_steps))))))
      | join_items-in_default-via-else-as_slice-lt2+else-this-lt3 w ↦ inr (rw c.in_ok-wrong_shape.ensures (refused (inr (first_of (omega arith, grind (arith, common_steps))))))
    ]

pub split_items-returns-in_default : goal.split_items-returns-in_default
split_items-returns-in_default t c =
    let refused : (length c.args.items.now.items < 2) ⊎ (2 < length c.args.items.now.items) → split_of c.args.params.now (array (items_view c.args.items.now.items)) c.args.at.now ≡ Err (WrongShape c.args.at.now)
    = not_two (λ ds. split_of c.args.params.now (array ds) c.args.at.now) (WrongShape c.args.at.now) refl (λ a. refl) (λ a b d ds. refl) c.args.items.now.items in
    elim c.in_default.branch [
      | split_items-in_default-via-then-as_slice-lt2 w ↦ inr (rw c.in_ok-wrong_shape.ensures (refused (inl (first_of (omega arith, grind (arith, common_steps))))))
      | split_items-in_default-via-else-as_slice-lt2+else-this-lt3 w ↦ inr (rw c.in_ok-wrong_shape.ensures (refused (inr (first_of (omega arith, grind (arith, common_steps))))))
    ]

pub select_items-returns-in_default : goal.select_items-returns-in_default
select_items-returns-in_default t c =
    let refused : (length c.args.items.now.items < 2) ⊎ (2 < length c.args.items.now.items) → select_of c.args.params.now (array (items_view c.args.items.now.items)) c.args.at.now ≡ Err (WrongShape c.args.at.now)
    = not_two (λ ds. select_of c.args.params.now (array ds) c.args.at.now) (WrongShape c.args.at.now) refl (λ a. refl) (λ a b d ds. refl) c.args.items.now.items in
    elim c.in_default.branch [
      | select_items-in_default-via-then-as_slice-lt2 w ↦ inr (rw c.in_ok-wrong_shape.ensures (refused (inl (first_of (omega arith, grind (arith, common_steps))))))
      | select_items-in_default-via-else-as_slice-lt2+else-this-lt3 w ↦ inr (rw c.in_ok-wrong_shape.ensures (refused (inr (first_of (omega arith, grind (arith, common_steps))))))
    ]

pub choice_items-returns-in_default : goal.choice_items-returns-in_default
choice_items-returns-in_default t c =
    let refused : (length c.args.items.now.items < 3) ⊎ (3 < length c.args.items.now.items) → choice_of c.args.params.now (array (items_view c.args.items.now.items)) c.args.at.now ≡ Err (WrongShape c.args.at.now)
    = not_three (λ ds. choice_of c.args.params.now (array ds) c.args.at.now) (WrongShape c.args.at.now) refl (λ a. refl) (λ a b. refl) (λ a b d f ds. refl) c.args.items.now.items in
    elim c.in_default.branch [
      | choice_items-in_default-via-then-as_slice-lt3 w ↦ inr (rw c.in_ok-wrong_shape.ensures (refused (inl (first_of (omega arith, grind (arith, common_steps))))))
      | choice_items-in_default-via-else-as_slice-lt3+else-this-lt4 w ↦ inr (rw c.in_ok-wrong_shape.ensures (refused (inr (first_of (omega arith, grind (arith, common_steps))))))
    ]
