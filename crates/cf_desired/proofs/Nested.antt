-- A shape none of whose turns is of a nested stack has none.
use Rattle.std.proofs.Common.{◌≡◌, Bool, true, false, ◌||◌, List, [], ◌∷◌, ◌++◌, map, refl, ap, sym, ◌∙◌, true≢false}
use Rattle.std.specs.List.{list_any}
use Rattle.std.proofs.lemmas.List.Folds.{list_any-append}
use Rattle.cf_desired.specs.Kept.{IsShape, turn_in}
use Rattle.cf_desired.specs.Turns.{Turn, is_nested, through, turns_along, turns_in, turns_inside, the_root}
use Rattle.cf_desired.specs.Valued.{nestings_along, nestings_in}
use Rattle.cf_desired.specs.Work.{Body, Inside, Nesting, Work, barred, halted, nested, no_work, opened, resource, shut}
use Rattle.cf_desired.specs.Work as inside
use Rattle.cf_desired.specs.declared.shape.Shape.{Shape}
use Rattle.cf_desired.specs.declared.shape.Turn as kept

left_of : (a b : Bool) → (a || b) ≡ false → a ≡ false
left_of false b e = refl
left_of true b e = absurd (true≢false e)

right_of : (a b : Bool) → (a || b) ≡ false → b ≡ false
right_of false b e = e
right_of true b e = absurd (true≢false e)

one_inside : (n : Nesting) (i : Inside) → list_any is_nested (turns_inside n i) ≡ true
one_inside n (shut f) = refl
one_inside n (inside.given_by form (barred f)) = refl
one_inside n (inside.given_by form (halted t f)) = refl
one_inside n (inside.given_by form (opened t conds w)) = refl

none_along : (w : Work) → list_any is_nested (turns_along w) ≡ false → nestings_along w ≡ []
none_along no_work e = refl
none_along (resource m w) e = none_along w e
none_along (nested n i w) e =
    absurd (true≢false (sym (one_inside n i) ∙ left_of (list_any is_nested (turns_inside n i)) (list_any is_nested (turns_along w))
    (sym (list_any-append is_nested (turns_inside n i) (turns_along w)) ∙ e)))

none_in : (b : Body) → list_any is_nested (turns_in the_root b) ≡ false → nestings_in b ≡ []
none_in (barred f) e = refl
none_in (halted t f) e = refl
none_in (opened t conds w) e =
    none_along w (left_of (list_any is_nested (turns_along w)) _ (sym (list_any-append is_nested (turns_along w) _) ∙ e))

any_mapped : (ts : List kept.Turn) → list_any (λ t. is_nested (turn_in t)) ts ≡ list_any is_nested (map turn_in ts)
any_mapped [] = refl
any_mapped (t ∷ ts) = ap (λ b. is_nested (turn_in t) || b) (any_mapped ts)

pub none_nested :
    (s : Shape) (b : Body) (r : Bool) → r ≡ list_any (λ t. is_nested (turn_in t)) s.turns → IsShape s b → r ≡ false → nestings_in b ≡ []
none_nested s b r e is f = none_in b (ap (list_any is_nested) (sym is.turns) ∙ sym (any_mapped s.turns) ∙ sym e ∙ f)
