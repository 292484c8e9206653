-- f of each of a list, as the code finds it: all so far, or one that is missing.
use Rattle.std.proofs.Common.{◌≡◌, ℕ, zero, suc, ◌<◌, List, [], ◌∷◌, length, get_or, drop, map, Option, Some, None, option_map, refl, ap, arith}
use Rattle.std.specs.Option.{option_map_or}
use Rattle.cf_desired.specs.Whole.{all_of}

module _ {A B : Type 0} (f : A → Option B) where
  first_some : (a : A) (b : B) (rest : List A) (bs : List B) → f a ≡ Some b → all_of f rest ≡ Some bs → all_of f (a ∷ rest) ≡ Some (b ∷ bs)
  first_some a b rest bs h g = rw h (ap (option_map (λ (bs : List B). b ∷ bs)) g)

  first_none : (a : A) (rest : List A) → f a ≡ None → all_of f (a ∷ rest) ≡ None
  first_none a rest h = rw h refl

  later_none : (o : Option B) (rest : List A) → all_of f rest ≡ None → option_map_or (λ b. option_map (λ bs. b ∷ bs) (all_of f rest)) o None ≡ None
  later_none None rest h = refl
  later_none (Some b) rest h = ap (option_map (λ (bs : List B). b ∷ bs)) h

  pub one_missing : (xs : List A) (i : ℕ) (d : A) → i < length xs → f (get_or xs i d) ≡ None → all_of f xs ≡ None
  one_missing [] i d h e = absurd (omega (arith, h))
  one_missing (x ∷ xs) zero d h e = first_none x xs e
  one_missing (x ∷ xs) (suc i) d h e = later_none (f x) xs (one_missing xs i d (omega (arith, h)) e)

  pub all_found : (xs : List A) (bs : List B) → map f xs ≡ map (λ b. Some b) bs → all_of f xs ≡ Some bs
  all_found [] [] h = refl
  all_found [] (b ∷ bs) h = absurd (omega (arith, ap length h))
  all_found (x ∷ xs) [] h = absurd (omega (arith, ap length h))
  all_found (x ∷ xs) (b ∷ bs) h = first_some x b xs bs (ap (λ os. get_or os 0 None) h) (all_found xs bs (ap (drop 1) h))
