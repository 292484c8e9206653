-- Tests over the members of a list.
use Rattle.std.proofs.Common.{◌≡◌, Bool, true, false, ◌&&◌, ◌||◌, not, List, [], ◌∷◌, flat_map, refl, ap, sym, ◌∙◌, true≢false}
use Rattle.std.specs.List.{list_any, list_all}
use Rattle.std.specs.Cmp.{first_so, second_so}
use Rattle.std.proofs.Math.Bool.{and_comm}
use Rattle.std.proofs.lemmas.Bool.{and_from}
use Rattle.std.proofs.lemmas.List.Folds.{list_any-append}
use Rattle.cf_tree.specs.Lists.{there}
use Rattle.cf_tree.specs.Lists.{here}
use Rattle.cf_tree.specs.Lists.{In}
pub use Rattle.cf_rests.proofs.OfLists.{in_first}

pub false_from : (b : Bool) → (b ≡ true → ⊥) → b ≡ false
false_from true n = absurd (n refl)
false_from false n = refl

pub not_so : (b : Bool) → b ≡ false → not b ≡ true
not_so b e = rw e refl

pub is_so : (b : Bool) → not b ≡ true → b ≡ false
is_so true e = absurd (true≢false (sym e))
is_so false e = refl

pub swapped : (a b : Bool) → (a && b) ≡ (b && a)
swapped = and_comm

pub not_both : (b : Bool) → b ≡ true → b ≡ false → ⊥
not_both b t f = true≢false (sym t ∙ f)

pub in_none : {A : Type 0} {a : A} → In a [] → ⊥
in_none i = elim i [ ]

-- a test that all pass
pub all_in : {A : Type 0} (test : A → Bool) (xs : List A) → list_all test xs ≡ true → (a : A) → In a xs → test a ≡ true
all_in test [] h a i = absurd (in_none i)
all_in test (x ∷ xs) h a i =
    in_first (λ b. test b ≡ true) x xs (first_so (test x) (list_all test xs) h) (all_in test xs (second_so (test x) (list_all test xs) h)) a i

pub in_all : {A : Type 0} (test : A → Bool) (xs : List A) → ((a : A) → In a xs → test a ≡ true) → list_all test xs ≡ true
in_all test [] h = refl
in_all test (x ∷ xs) h = and_from (test x) (list_all test xs) (h x here) (in_all test xs (λ a i. h a (there i)))

module _ {A : Type 0} where
  -- a member that passes makes the list pass
  pub any_in : (test : A → Bool) (a : A) (xs : List A) → In a xs → test a ≡ true → list_any test xs ≡ true
  any_in test a xs here t = rw t refl
  any_in test a (x ∷ xs) (there i) t = by (test x) (any_in test a xs i t)
    where
      by : (b : Bool) → list_any test xs ≡ true → (b || list_any test xs) ≡ true
      by true h = refl
      by false h = h

  -- and where the list passes, a member does
  pub in_any : (test : A → Bool) (xs : List A) → list_any test xs ≡ true → (a : A) × In a xs × (test a ≡ true)
  in_any test [] h = absurd (true≢false (sym h))
  in_any test (x ∷ xs) h = by (in_any test xs) (test x) refl h
    where
      by : (list_any test xs ≡ true → (a : A) × In a xs × (test a ≡ true)) → (b : Bool) → test x ≡ b → (b || list_any test xs) ≡ true
          → (a : A) × In a (x ∷ xs) × (test a ≡ true)
      by rest true t h = (x, here, t)
      by rest false t h = let w = rest h in (w.0, there w.1, w.2)

  -- two tests that agree on the members
  pub same_in : (f g : A → Bool) (xs : List A) → ((a : A) → In a xs → f a ≡ g a) → list_any f xs ≡ list_any g xs
  same_in f g [] h = refl
  same_in f g (x ∷ xs) h = rw (h x here) (ap (λ (b : Bool). g x || b) (same_in f g xs (λ a i. h a (there i))))

pub any_flat : {A B : Type 0} (test : B → Bool) (f : A → List B) (xs : List A) → list_any test (flat_map f xs) ≡ list_any (λ x. list_any test (f x)) xs
any_flat test f [] = refl
any_flat test f (x ∷ xs) =
    list_any-append test (f x) (flat_map f xs) ∙ ap (λ (b : Bool). list_any test (f x) || b) (any_flat test f xs)
