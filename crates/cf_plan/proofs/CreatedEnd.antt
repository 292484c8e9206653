-- Lists in which nothing is the first, and members of a list each item of which is changed.
use Rattle.std.proofs.Common.{◌≡◌, List, [], ◌∷◌, Some, refl, sym, map}
use Rattle.cf_tree.specs.Lists.{first_in}
use Rattle.cf_desired.specs.declared.flaw.Flaw.{Flaw}
use Rattle.cf_tree.specs.Lists.{there}
use Rattle.cf_tree.specs.Lists.{here}
use Rattle.cf_tree.specs.Lists.{In}

-- where it has not failed, all being done, there is no flaw
pub none_first : (fs : List Flaw) → ((f : Flaw) → first_in fs ≡ Some f → ⊥) → fs ≡ []
none_first [] h = refl
none_first (f ∷ fs) h = absurd (h f refl)

-- what a change of each makes of one
pub record IsFrom {A B : Type 0} (f : A → B) (xs : List A) (y : B) : Type 0 where
  pub one : A
  pub of_list : In one xs
  pub same : f one ≡ y

pub in_changed : {A B : Type 0} (f : A → B) (xs : List A) (y : B) → In y (map f xs) → IsFrom f xs y
in_changed f [] y i = elim i [ ]
in_changed {A} {B} f (x ∷ xs) y i = by_place (f x) (map f xs) i refl (in_changed f xs y) where
  by_place : (z : B) (zs : List B) → In y (z ∷ zs) → z ≡ f x → (In y zs → IsFrom f xs y) → IsFrom f (x ∷ xs) y
  by_place z zs here e ih = record { one = x; of_list = here; same = sym e }
  by_place z zs (there j) e ih = let k = ih j in record { one = k.one; of_list = there k.of_list; same = k.same }
