-- What holds of no member of a list, and members of those that a test keeps.
use Rattle.std.proofs.Common.{◌≡◌, List, [], ◌∷◌, Bool, true, false, not, ◌||◌, refl, sym, ap, subst, ◌∙◌, true≢false, filter}
use Rattle.std.specs.Prelude.{cond}
use Rattle.std.specs.List.{list_any}
use Rattle.cf_effect.specs.declared.call.Call.{Call}
use Rattle.cf_effect.specs.Calls.{is_open_call}
use Rattle.cf_tree.specs.Lists.{there}
use Rattle.cf_tree.specs.Lists.{here}
use Rattle.cf_tree.specs.Lists.{In}

pub first_not : (a b : Bool) → (a || b) ≡ false → a ≡ false
first_not true b h = h
first_not false b h = refl

pub second_not : (a b : Bool) → (a || b) ≡ false → b ≡ false
second_not true b h = absurd (true≢false h)
second_not false b h = h

pub not_so : (b : Bool) → not b ≡ true → b ≡ false
not_so true h = sym h
not_so false h = refl

-- what is true of no member of a list
pub none_of : {A : Type 0} (test : A → Bool) (xs : List A) (x : A) → list_any test xs ≡ false → In x xs → test x ≡ false
none_of test (y ∷ xs) x h here = first_not (test x) (list_any test xs) h
none_of test (y ∷ xs) x h (there i) = none_of test xs x (second_not (test y) (list_any test xs) h) i
none_of test [] x h i = elim i [ ]

pub in_filter : {A : Type 0} (test : A → Bool) (xs : List A) (x : A) → In x (filter test xs) → In x xs × (test x ≡ true)
in_filter test [] x i = elim i [ ]
in_filter {A} test (y ∷ xs) x i = by_test (test y) refl i (in_filter test xs x) where
  passed : test y ≡ true → (z : A) (zs : List A) → In x (z ∷ zs) → z ≡ y → (In x zs → In x xs × (test x ≡ true)) → In x (y ∷ xs) × (test x ≡ true)
  passed e z zs here s ih = (subst (λ w. In z (w ∷ xs)) s here, ap test s ∙ e)
  passed e z zs (there j) s ih = let k = ih j in (there k.0, k.1)

  by_test : (b : Bool) → test y ≡ b → In x (cond b (y ∷ filter test xs) (filter test xs)) → (In x (filter test xs) → In x xs × (test x ≡ true)) → In x (y ∷ xs) × (test x ≡ true)
  by_test true e j ih = passed e y (filter test xs) j refl ih
  by_test false e j ih = let k = ih j in (there k.0, k.1)

-- without an open call none of the calls is kept
pub none_kept : (cs : List Call) → filter (is_open_call []) cs ≡ []
none_kept [] = refl
none_kept (c ∷ cs) = none_kept cs
