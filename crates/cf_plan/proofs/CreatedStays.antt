-- What is found in a list stays found as the list grows; a path of which a plan knows all is wanted.
use Rattle.std.proofs.Common.{◌≡◌, ℕ, List, [], ◌∷◌, ◌++◌, Bool, true, false, Option, Some, None, refl, ap, find}
use Rattle.std.specs.Prelude.{cond}
use Rattle.std.specs.Option.{option_map_or}
use Rattle.cf_tree.specs.Datum.{Data}
use Rattle.cf_desired.specs.declared.wanted.Wanted.{Wanted}
use Rattle.cf_desired.specs.declared.wanted.Evaluated.TheVariants.{Flawed as flawed, Known as evaluated}
use Rattle.cf_desired.specs.declared.wanted.Evaluated.{Evaluated}
use Rattle.cf_desired.specs.Whole.{known_of, known_props_from}
use Rattle.cf_plan.specs.Forward.{Finding, Later, Known, finding, known_or_later}
use Rattle.cf_tree.specs.Lists.{there}
pub use Rattle.cf_rests.proofs.OfLists.{in_more, found_one}

-- what a plan says of a path
abbrev pub found_in : Option Wanted → Finding
found_in o = option_map_or (λ w. finding w.kind w.props) o Later

-- what is known of a finding
known_from : (k l : List ℕ) (ps : List (List ℕ × Data)) (v : Evaluated) → finding l v ≡ Known k ps → (l ≡ k) × (known_of v ≡ Some ps)
known_from k l ps (flawed f) h = let no : ⊥ = cc in absurd no
known_from k l ps (evaluated qs) h = by_known (known_props_from qs) h where
  by_known : (o : Option (List (List ℕ × Data))) → known_or_later l o ≡ Known k ps → (l ≡ k) × (o ≡ Some ps)
  by_known None g = let no : ⊥ = cc in absurd no
  by_known (Some rs) g = (let e : l ≡ k = cc in e, let e : Some rs ≡ Some ps = cc in e)

-- a path of which a plan knows all is wanted
pub record IsFound (k : List ℕ) (ps : List (List ℕ × Data)) (o : Option Wanted) : Type 0 where
  pub wanted : Wanted
  pub there : o ≡ Some wanted
  pub kind : wanted.kind ≡ k
  pub props : known_of wanted.props ≡ Some ps

pub is_found : (k : List ℕ) (ps : List (List ℕ × Data)) (o : Option Wanted) → found_in o ≡ Known k ps → IsFound k ps o
is_found k ps None h = let no : ⊥ = cc in absurd no
is_found k ps (Some w) h = let parts = known_from k w.kind ps w.props h in record { wanted = w; there = refl; kind = parts.0; props = parts.1 }

passed_over : {A : Type 0} (b : Bool) (y : A) (o p : Option A) (x : A) → (o ≡ None → p ≡ Some x) → cond b (Some y) o ≡ None → cond b (Some y) p ≡ Some x
passed_over true y o p x h m = let no : ⊥ = cc in absurd no
passed_over false y o p x h m = h m

pub found_in_more : {A : Type 0} (test : A → Bool) (xs : List A) (x : A) → test x ≡ true → find test xs ≡ None → find test (xs ++ x ∷ []) ≡ Some x
found_in_more test [] x t n = ap (λ b. cond b (Some x) None) t
found_in_more test (y ∷ xs) x t n = passed_over (test y) y (find test xs) (find test (xs ++ x ∷ [])) x (found_in_more test xs x t) n

still_with : {A : Type 0} (b : Bool) (y : A) (o p : Option A) (x : A) → (o ≡ Some x → p ≡ Some x) → cond b (Some y) o ≡ Some x → cond b (Some y) p ≡ Some x
still_with true y o p x h m = m
still_with false y o p x h m = h m

pub found_still : {A : Type 0} (test : A → Bool) (xs ys : List A) (x : A) → find test xs ≡ Some x → find test (xs ++ ys) ≡ Some x
found_still test [] ys x h = let no : ⊥ = cc in absurd no
found_still test (y ∷ xs) ys x h = still_with (test y) y (find test xs) (find test (xs ++ ys)) x (found_still test xs ys x) h
