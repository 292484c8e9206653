-- Lists that are empty.
use Rattle.std.proofs.Common.{◌≡◌, ◌+◌, List, [], ◌∷◌, ◌++◌, true, false, refl, sym, true≢false}
use Rattle.cf_change.specs.Changes.{is_empty}

pub empty_list : {A : Type 0} (xs : List A) → is_empty xs ≡ true → xs ≡ []
empty_list [] e = refl
empty_list (y ∷ ys) e = absurd (true≢false (sym e))

pub empty_parts : {A : Type 0} (xs ys : List A) → is_empty (xs ++ ys) ≡ true → (xs ≡ []) × (ys ≡ [])
empty_parts [] ys e = (refl, empty_list ys e)
empty_parts (y ∷ xs) ys e = absurd (true≢false (sym e))
