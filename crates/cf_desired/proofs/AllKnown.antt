-- A plan all of whose parts are known is whole.
use Rattle.std.proofs.Common.{◌≡◌, List, [], ◌∷◌, true, Option, Some, None, refl, sym, ap, ◌∙◌, true≢false, map, option_map}
use Rattle.std.specs.Prelude.{is_some}
use Rattle.std.specs.List.{list_all}
use Rattle.std.specs.Option.{option_map_or}
use Rattle.std.specs.Cmp.{first_so, second_so}
use Rattle.cf_desired.specs.Whole.{right_of, right_output, right_export, all_of, whole_with, whole_from, unless_flawed}
use Rattle.cf_desired.specs.Stays.{AllKnownIsWhole}

module _ {A B : Type 0} (f : A → Option B) where
  -- f of each of a list is there
  abbrev pub HasAll : List A → Type 0
  HasAll xs = (ys : List B) × (all_of f xs ≡ Some ys) × (map (λ y. Some y) ys ≡ map f xs)

  one_more : (x : A) (xs : List A) (o : Option B) → f x ≡ o → is_some o ≡ true → HasAll xs → HasAll (x ∷ xs)
  one_more x xs None e s h = absurd (true≢false (sym s))
  one_more x xs (Some y) e s h = (
    y ∷ h.0,
    ap (λ o. option_map_or (λ b. option_map (λ bs. b ∷ bs) (all_of f xs)) o None) e ∙ ap (option_map (λ bs. y ∷ bs)) h.1,
    ap (λ o. o ∷ map (λ z. Some z) h.0) (sym e) ∙ ap (λ os. f x ∷ os) h.2,
  )

  pub all_there : (xs : List A) → list_all (λ x. is_some (f x)) xs ≡ true → HasAll xs
  all_there [] h = ([], refl, refl)
  all_there (x ∷ xs) h = one_more x xs (f x) refl (first_so _ _ h) (all_there xs (second_so (is_some (f x)) _ h))

pub known_whole : AllKnownIsWhole
known_whole p k =
    let rights = all_there right_of p.wanted k.props in
    let outputs = all_there right_output p.outputs k.outputs in
    let exports = all_there right_export p.exports k.exports in (
      record { wanted = rights.0; outputs = outputs.0; exports = exports.0 },
      ap (λ fs. unless_flawed fs (whole_from p (all_of right_of p.wanted) (all_of right_output p.outputs))) k.flaws
          ∙ ap (λ o. whole_from p o (all_of right_output p.outputs)) rights.1
          ∙ ap (λ o. whole_from p (Some rights.0) o) outputs.1
          ∙ ap (λ o. whole_with rights.0 outputs.0 o) exports.1,
      record { wanted = rights.2; outputs = outputs.2; exports = exports.2 },
    )
