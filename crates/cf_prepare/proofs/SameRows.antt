-- Rows that pass the test are the same.
use Rattle.std.proofs.Common.{◌≡◌, ℕ, List, Bool, true, ◌&&◌, Option, Some, None, refl, sym, ap, subst, ◌∙◌, true≢false}
use Rattle.std.specs.Prelude.{◌↔◌, IsTrue}
use Rattle.std.specs.Bool.{Decides, beq}
use Rattle.std.specs.Cmp.{first_so, second_so, booleans_Decides}
use Rattle.std.specs.Cmp.Lexicographic.{pointwise, pointwise_decides}
use Rattle.std.specs.Str.{bytes_eq}
use Rattle.std.proofs.lemmas.Slice.Eq.{bytes_eq-Decides}
use Rattle.cf_tree.specs.declared.row.Action.{Action}
use Rattle.cf_tree.specs.declared.row.Action.TheVariants as action
use Rattle.cf_tree.specs.declared.row.Attribute.{Attribute}
use Rattle.cf_tree.specs.declared.row.Attribute.TheVariants as attribute
use Rattle.cf_tree.specs.declared.row.Detail.{Detail}
use Rattle.cf_tree.specs.declared.row.Evaluation.{Evaluation}
use Rattle.cf_tree.specs.declared.row.Evaluation.TheVariants as evaluation
use Rattle.cf_tree.specs.declared.row.Recreation.{Recreation}
use Rattle.cf_tree.specs.declared.row.Recreation.TheVariants as recreation
use Rattle.cf_tree.specs.declared.row.Replacement.{Replacement}
use Rattle.cf_tree.specs.declared.row.Replacement.TheVariants as replacement
use Rattle.cf_tree.specs.declared.row.Row.{Row}
use Rattle.cf_prepare.specs.Rows.{same_action, same_attribute, same_detail, same_evaluation, same_recreation, same_replacement, same_row}
use Rattle.cf_prepare.specs.Same.{same_option}

-- a test decides where what passes is the same, and all pass against themselves
pub by_both : {A : Type 0} (test : A → A → Bool) → ((a b : A) → test a b ≡ true → a ≡ b) → ((a : A) → test a a ≡ true) → (a b : A) → Decides (test a b) (a ≡ b)
by_both test same itself a b = (same a b, λ e. ap (test a) (sym e) ∙ itself a)

both : {a b : Bool} → a ≡ true → b ≡ true → (a && b) ≡ true
both p q = λ i. p i && q i

pub option_same : {A : Type 0} (test : A → A → Bool) → ((a b : A) → test a b ≡ true → a ≡ b) → (o p : Option A) → same_option test o p ≡ true → o ≡ p
option_same test same None None h = refl
option_same test same None (Some b) h = absurd (true≢false (sym h))
option_same test same (Some a) None h = absurd (true≢false (sym h))
option_same test same (Some a) (Some b) h = ap (λ c. Some c) (same a b h)

pub option_itself : {A : Type 0} (test : A → A → Bool) → ((a : A) → test a a ≡ true) → (o : Option A) → same_option test o o ≡ true
option_itself test itself None = refl
option_itself test itself (Some a) = itself a

pub text_same : (a b : List ℕ) → bytes_eq a b ≡ true → a ≡ b
text_same a b h = (bytes_eq-Decides a b).0 h

pub text_itself : (a : List ℕ) → bytes_eq a a ≡ true
text_itself a = (bytes_eq-Decides a a).1 refl

action_same : (a b : Action) → same_action a b ≡ true → a ≡ b
action_same action.Add action.Add h = refl
action_same action.Modify action.Modify h = refl
action_same action.Remove action.Remove h = refl
action_same _ _ h = absurd (true≢false (sym h))

action_itself : (a : Action) → same_action a a ≡ true
action_itself action.Add = refl
action_itself action.Modify = refl
action_itself action.Remove = refl

replacement_same : (a b : Replacement) → same_replacement a b ≡ true → a ≡ b
replacement_same replacement.True replacement.True h = refl
replacement_same replacement.False replacement.False h = refl
replacement_same replacement.Conditional replacement.Conditional h = refl
replacement_same _ _ h = absurd (true≢false (sym h))

replacement_itself : (a : Replacement) → same_replacement a a ≡ true
replacement_itself replacement.True = refl
replacement_itself replacement.False = refl
replacement_itself replacement.Conditional = refl

attribute_same : (a b : Attribute) → same_attribute a b ≡ true → a ≡ b
attribute_same attribute.Properties attribute.Properties h = refl
attribute_same attribute.DeletionPolicy attribute.DeletionPolicy h = refl
attribute_same attribute.UpdateReplacePolicy attribute.UpdateReplacePolicy h = refl
attribute_same _ _ h = absurd (true≢false (sym h))

attribute_itself : (a : Attribute) → same_attribute a a ≡ true
attribute_itself attribute.Properties = refl
attribute_itself attribute.DeletionPolicy = refl
attribute_itself attribute.UpdateReplacePolicy = refl

recreation_same : (a b : Recreation) → same_recreation a b ≡ true → a ≡ b
recreation_same recreation.Never recreation.Never h = refl
recreation_same recreation.Conditionally recreation.Conditionally h = refl
recreation_same recreation.Always recreation.Always h = refl
recreation_same _ _ h = absurd (true≢false (sym h))

recreation_itself : (a : Recreation) → same_recreation a a ≡ true
recreation_itself recreation.Never = refl
recreation_itself recreation.Conditionally = refl
recreation_itself recreation.Always = refl

evaluation_same : (a b : Evaluation) → same_evaluation a b ≡ true → a ≡ b
evaluation_same evaluation.Static evaluation.Static h = refl
evaluation_same evaluation.Dynamic evaluation.Dynamic h = refl
evaluation_same _ _ h = absurd (true≢false (sym h))

evaluation_itself : (a : Evaluation) → same_evaluation a a ≡ true
evaluation_itself evaluation.Static = refl
evaluation_itself evaluation.Dynamic = refl

detail_same : (a b : Detail) → same_detail a b ≡ true → a ≡ b
detail_same a b h =
    let behind = second_so (same_attribute a.attribute b.attribute) _ h in
    let last = second_so (bytes_eq a.name b.name) _ behind in
    let attribute = attribute_same a.attribute b.attribute (first_so _ _ h) in
    let name = text_same a.name b.name (first_so _ _ behind) in
    let recreation = recreation_same a.recreation b.recreation (first_so _ _ last) in
    let evaluation = evaluation_same a.evaluation b.evaluation (second_so (same_recreation a.recreation b.recreation) _ last) in
    λ i. record { attribute = attribute i; name = name i; recreation = recreation i; evaluation = evaluation i }

detail_itself : (a : Detail) → same_detail a a ≡ true
detail_itself a = both (attribute_itself a.attribute) (both (text_itself a.name) (both (recreation_itself a.recreation) (evaluation_itself a.evaluation)))

details_decide : (xs ys : List Detail) → Decides (pointwise same_detail xs ys) (xs ≡ ys)
details_decide xs ys = pointwise_decides (by_both same_detail detail_same detail_itself) xs ys

row_same : (a b : Row) → same_row a b ≡ true → a ≡ b
row_same a b h =
    let behind = second_so (same_action a.action b.action) _ h in
    let third = second_so (bytes_eq a.path b.path) _ behind in
    let fourth = second_so (bytes_eq a.kind b.kind) _ third in
    let fifth = second_so (same_option same_replacement a.replacement b.replacement) _ fourth in
    let action = action_same a.action b.action (first_so _ _ h) in
    let path = text_same a.path b.path (first_so _ _ behind) in
    let kind = text_same a.kind b.kind (first_so _ _ third) in
    let replacement = option_same same_replacement replacement_same a.replacement b.replacement (first_so _ _ fourth) in
    let unsure = (booleans_Decides a.unsure b.unsure).0 (first_so _ _ fifth) in
    let details = (details_decide a.details b.details).0 (second_so (beq a.unsure b.unsure) _ fifth) in
    λ i. record { action = action i; path = path i; kind = kind i; replacement = replacement i; unsure = unsure i; details = details i }

row_itself : (a : Row) → same_row a a ≡ true
row_itself a =
    both (action_itself a.action) (both (text_itself a.path) (both (text_itself a.kind)
    (both (option_itself same_replacement replacement_itself a.replacement)
    (both ((booleans_Decides a.unsure a.unsure).1 refl) ((details_decide a.details a.details).1 refl)))))

-- so are lists of rows
pub rows_decide : (xs ys : List Row) → Decides (pointwise same_row xs ys) (xs ≡ ys)
rows_decide xs ys = pointwise_decides (by_both same_row row_same row_itself) xs ys

pub same_rows : (xs ys : List Row) (r : Bool) → r ≡ pointwise same_row xs ys → IsTrue r ↔ (xs ≡ ys)
same_rows xs ys r e = subst (λ (b : Bool). IsTrue b ↔ (xs ≡ ys)) (sym e) (rows_decide xs ys)
