-- The first walk back, step by step: wherever it may, it goes on to the first resource from which a walk leads back.
use Rattle.std.proofs.Common.{◌≡◌, ◌<◌, ◌+◌, ◌-◌, arith, slice_get, ◌≤◌, ℕ, zero, suc, Bool, true, false, cond, ◌||◌, List, [], ◌∷◌, ◌++◌, length, map, flat_map, find, get_or, Option, Some, None, is_some, refl, ap, sym, ◌∙◌, subst, true≢false, ⊎_elim}
use Rattle.std.proofs.lemmas.List.{append_assoc, length-append}
use Rattle.std.proofs.lemmas.Option.{get_or_from_slice_get}
use Rattle.std.specs.Option.{option_or}
use Rattle.std.proofs.lemmas.Bool.{cases_eq}
use Rattle.std.proofs.lemmas.Grind.{common_steps}
use Rattle.std.specs.List.{list_any}
use Rattle.std.specs.Option.{unwrap_or}
use Rattle.std.specs.BTreeSet.{BTreeSet}
use Rattle.cf_tree.specs.Lists.{first_in}
use Rattle.cf_graph.specs.Needs.{needs_listed, walks, shortest_walk}
use Rattle.cf_graph.specs.Cycles.{leads_back, is_on_level, IsLevel, AreLevels, StandAlike}
use Rattle.cf_graph.proofs.Alike.{Rows}
use Rattle.cf_graph.proofs.Walks.{leads_further, longer}

some_inside : {A : Type 0} (x y : A) → Some x ≡ Some y → x ≡ y
some_inside x y e = cc

none≢some : {A : Type 0} (x : A) → None ≡ Some x → ⊥
none≢some x e = cc

-- what is found passes the test, and where nothing is found nothing does
found_passes : {A : Type 0} (f : A → Bool) (x : A) (xs : List A) → find f xs ≡ Some x → f x ≡ true
found_passes f x [] e = absurd (none≢some x e)
found_passes f x (y ∷ ys) e = by (found_passes f x ys) (f y) refl e
  where
    by : (find f ys ≡ Some x → f x ≡ true) → (b : Bool) → f y ≡ b → cond b (Some y) (find f ys) ≡ Some x → f x ≡ true
    by rest true p e = ap f (sym (some_inside y x e)) ∙ p
    by rest false p e = rest e

pub none_passes : {A : Type 0} (f : A → Bool) (xs : List A) → find f xs ≡ None → list_any f xs ≡ false
none_passes f [] e = refl
none_passes f (y ∷ ys) e = by (none_passes f ys) (f y) e
  where
    by : (find f ys ≡ None → list_any f ys ≡ false) → (b : Bool) → cond b (Some y) (find f ys) ≡ None → (b || list_any f ys) ≡ false
    by rest true e = absurd (none≢some y (sym e))
    by rest false e = rest e

same_find : {A : Type 0} (f g : A → Bool) → ((a : A) → f a ≡ g a) → (xs : List A) → find f xs ≡ find g xs
same_find f g h [] = refl
same_find f g h (x ∷ xs) = λ i. cond (h x i) (Some x) (same_find f g h xs i)

first_kept : {A B : Type 0} (f : A → B) (w : A) (ws : List A) (ys : List B) → first_in ws ≡ Some w → first_in (map f ws ++ ys) ≡ Some (f w)
first_kept f w [] ys e = absurd (none≢some w e)
first_kept f w (v ∷ ws) ys e = ap (λ x. Some (f x)) (some_inside v w e)

first_skipped : {A B : Type 0} (f : A → B) (ws : List A) (ys : List B) → is_some (first_in ws) ≡ false → first_in (map f ws ++ ys) ≡ first_in ys
first_skipped f [] ys e = refl
first_skipped f (v ∷ ws) ys e = absurd (true≢false e)

module _ (all : Rows) (start : List ℕ) where
  first_further : (n : ℕ) (name q : List ℕ) (rest : List (List ℕ)) (qs : List (List ℕ)) → find (leads_back all start (suc n)) qs ≡ Some q
      → first_in (walks all start (suc n) q) ≡ Some rest → first_in (flat_map (longer all start n name) qs) ≡ Some (name ∷ rest)
  first_further n name q rest [] e f = absurd (none≢some q e)
  first_further n name q rest (x ∷ xs) e f = by (λ g. first_further n name q rest xs g f) (leads_back all start (suc n) x) refl e
    where
      by : (find (leads_back all start (suc n)) xs ≡ Some q → first_in (flat_map (longer all start n name) xs) ≡ Some (name ∷ rest)) → (b : Bool)
          → leads_back all start (suc n) x ≡ b → cond b (Some x) (find (leads_back all start (suc n)) xs) ≡ Some q
          → first_in (longer all start n name x ++ flat_map (longer all start n name) xs) ≡ Some (name ∷ rest)
      by more true p e =
          first_kept (λ w. name ∷ w) rest (walks all start (suc n) x) (flat_map (longer all start n name) xs)
          (ap (λ (r : List ℕ). first_in (walks all start (suc n) r)) (some_inside x q e) ∙ f)
      by more false p e = first_skipped (λ w. name ∷ w) (walks all start (suc n) x) (flat_map (longer all start n name) xs) p ∙ more e

  module _ (rows : Rows) (h : StandAlike rows all) (level : BTreeSet (List ℕ)) (n : ℕ) (b : IsLevel all start (suc n) level) (name : List ℕ) where
    looked : find (is_on_level level) (needs_listed rows name) ≡ find (leads_back all start (suc n)) (needs_listed all name)
    looked = same_find (is_on_level level) (leads_back all start (suc n)) b (needs_listed rows name) ∙ ap (λ (o : Option (List (List ℕ))). find (leads_back all start (suc n)) (unwrap_or o [])) (h name)

    -- the walk goes on to what is found
    pub goes_on : (q : List ℕ) → find (is_on_level level) (needs_listed rows name) ≡ Some q → leads_back all start (suc n) q ≡ true
    goes_on q e = found_passes (leads_back all start (suc n)) q (needs_listed all name) (sym looked ∙ e)

    pub longer_by_one : (q : List ℕ) (rest : List (List ℕ)) → find (is_on_level level) (needs_listed rows name) ≡ Some q → first_in (walks all start (suc n) q) ≡ Some rest
        → first_in (walks all start (suc (suc n)) name) ≡ Some (name ∷ rest)
    longer_by_one q rest e f = first_further n name q rest (needs_listed all name) (sym looked ∙ e) f

    -- and something is found
    pub never_lost : leads_back all start (suc (suc n)) name ≡ true → find (is_on_level level) (needs_listed rows name) ≡ None → ⊥
    never_lost l e = true≢false (sym l ∙ leads_further all start n name ∙ none_passes (leads_back all start (suc n)) (needs_listed all name) (sym looked ∙ e))

  pub level_at : (n : ℕ) (ls : List (BTreeSet (List ℕ))) (k : ℕ) (d : BTreeSet (List ℕ)) → AreLevels all start (suc n) ls → k < length ls → IsLevel all start (suc (n + k)) (get_or ls k d)
  level_at n [] k d a l = absurd (omega (arith, l))
  level_at n (x ∷ ls) zero d a l = subst (λ (j : ℕ). IsLevel all start (suc j) x) {x = n} {y = n + 0} (omega arith) a.0
  level_at n (x ∷ ls) (suc k) d a l = subst (λ (j : ℕ). IsLevel all start (suc j) (get_or ls k d)) {x = suc n + k} {y = n + suc k} (omega arith) (level_at (suc n) ls k d a.1 (omega (arith, l)))

module _ (all rows : Rows) (start : List ℕ) (h : StandAlike rows all) (levels : List (BTreeSet (List ℕ))) (a : AreLevels all start 1 levels) (at : ℕ) (more : 0 < at) (inside : at < length levels) (level : BTreeSet (List ℕ)) (is : level ≡ get_or levels (at - 1) level) where
  here : IsLevel all start (suc (at - 1)) level
  here =
      subst (IsLevel all start (suc (at - 1))) (sym is)
      (subst (λ (j : ℕ). IsLevel all start (suc j) (get_or levels (at - 1) level)) {x = 0 + (at - 1)} {y = at - 1} (omega arith) (level_at all start 0 levels (at - 1) level a (omega (arith, inside))))

  pub not_lost : (name : List ℕ) (names : List (List ℕ)) → names ≡ needs_listed rows name → leads_back all start (suc at) name ≡ true → find (is_on_level level) names ≡ None → ⊥
  not_lost name names e l f =
      never_lost all start rows h level (at - 1) here name
      (subst (λ (j : ℕ). leads_back all start j name ≡ true) {x = suc at} {y = suc (suc (at - 1))} (omega (arith, more)) l)
      (subst (λ (ns : List (List ℕ)). find (is_on_level level) ns ≡ None) e f)

  -- what a walk that came so far says of the one that is one step longer
  pub goes_further : (target : Option (List (List ℕ))) (name q : List ℕ) (names walk longer : List (List ℕ)) → names ≡ needs_listed rows name → find (is_on_level level) names ≡ Some q → longer ≡ walk ++ name ∷ []
      → ((rest : List (List ℕ)) → first_in (walks all start (suc at) name) ≡ Some rest → target ≡ Some (walk ++ rest))
      → (at - 1 < length levels) × (leads_back all start (suc (at - 1)) q ≡ true) × ((rest : List (List ℕ)) → first_in (walks all start (suc (at - 1)) q) ≡ Some rest → target ≡ Some (longer ++ rest))
  goes_further target name q names walk longer e f g k =
      let found : find (is_on_level level) (needs_listed rows name) ≡ Some q = subst (λ (ns : List (List ℕ)). find (is_on_level level) ns ≡ Some q) e f in (
        omega (arith, inside),
        goes_on all start rows h level (at - 1) here name q found,
        λ rest r.
            k (name ∷ rest)
            (subst (λ (j : ℕ). first_in (walks all start j name) ≡ Some (name ∷ rest)) {x = suc (suc (at - 1))} {y = suc at} (omega (arith, more)) (longer_by_one all start rows h level (at - 1) here name q rest found r))
            ∙ ap (λ (w : List (List ℕ)). Some w) (sym (append_assoc walk (name ∷ []) rest) ∙ ap (λ (w : List (List ℕ)). w ++ rest) (sym g)),
      )

module _ (all : Rows) (start : List ℕ) where
  -- one more level joins behind the others
  pub level_joins : (n : ℕ) (ls : List (BTreeSet (List ℕ))) (l : BTreeSet (List ℕ)) → AreLevels all start n ls → IsLevel all start (n + length ls) l → AreLevels all start n (ls ++ l ∷ [])
  level_joins n [] l a b = (subst (λ (j : ℕ). IsLevel all start j l) {x = n + 0} {y = n} (omega arith) b, tt)
  level_joins n (x ∷ ls) l a b = (a.0, level_joins (suc n) ls l a.1 (subst (λ (j : ℕ). IsLevel all start j l) {x = n + suc (length ls)} {y = suc n + length ls} (omega arith) b))

  pub last_level : (ls : List (BTreeSet (List ℕ))) (l : BTreeSet (List ℕ)) → AreLevels all start 1 ls → Some l ≡ slice_get ls (length ls - 1) → (1 ≤ length ls) × IsLevel all start (length ls) l
  last_level [] l a e = absurd (none≢some l (sym e))
  last_level (x ∷ ls) l a e = (
    omega arith,
    subst (λ (j : ℕ). IsLevel all start j l) {x = suc (0 + (length (x ∷ ls) - 1))} {y = length (x ∷ ls)} (omega arith)
        (subst (IsLevel all start (suc (0 + (length (x ∷ ls) - 1)))) (get_or_from_slice_get (x ∷ ls) (length (x ∷ ls) - 1) l l (sym e))
        (level_at all start 0 (x ∷ ls) (length (x ∷ ls) - 1) l a (omega arith))),
  )

none_from : {A : Type 0} (o : Option A) → is_some o ≡ false → o ≡ None
none_from None e = refl
none_from (Some x) e = absurd (true≢false e)

module _ (all : Rows) (start : List ℕ) where
  -- a walk that is found where no shorter one was is the shortest
  pub is_shortest : (k : ℕ) (w : List (List ℕ)) → shortest_walk all start k ≡ None → first_in (walks all start (suc k) start) ≡ Some w → (n : ℕ) → k < n → shortest_walk all start n ≡ Some w
  is_shortest k w e f zero l = absurd (omega (arith, l))
  is_shortest k w e f (suc m) l = ⊎_elim
      (λ (s : m ≡ k).
      subst (λ (j : ℕ). shortest_walk all start (suc j) ≡ Some w) (sym s)
      (ap (λ (o : Option (List (List ℕ))). option_or o (first_in (walks all start (suc k) start))) e ∙ f))
      (λ (s : m ≡ k → ⊥). ap (λ (o : Option (List (List ℕ))). option_or o (first_in (walks all start (suc m) start))) (is_shortest k w e f m (grind (arith, common_steps))))
      (cases_eq m k)

  module _ (old new : List (BTreeSet (List ℕ))) (level : BTreeSet (List ℕ)) (k : ℕ) (a : AreLevels all start 1 old) (counted : length old ≡ k) (b : IsLevel all start (length old + 1) level) (e : new ≡ old ++ level ∷ []) where
    pub levels_joined : AreLevels all start 1 new
    levels_joined = subst (AreLevels all start 1) (sym e) (level_joins all start 1 old level a (subst (λ (j : ℕ). IsLevel all start j level) {x = length old + 1} {y = 1 + length old} (omega arith) b))

    pub one_more_level : length new ≡ k + 1
    one_more_level = ap (λ (ls : List (BTreeSet (List ℕ))). length ls) e ∙ length-append old (level ∷ []) ∙ omega (arith, counted)

    at_level : IsLevel all start (suc k) level
    at_level = subst (λ (j : ℕ). IsLevel all start j level) {x = length old + 1} {y = suc k} (omega (arith, counted)) b

    pub none_yet : shortest_walk all start k ≡ None → is_on_level level start ≡ false → shortest_walk all start (k + 1) ≡ None
    none_yet s f =
        subst (λ (j : ℕ). shortest_walk all start j ≡ None) {x = suc k} {y = k + 1} (omega arith)
        (ap (λ (o : Option (List (List ℕ))). option_or o (first_in (walks all start (suc k) start))) s ∙ none_from (first_in (walks all start (suc k) start)) (sym (at_level start) ∙ f))

    pub found_now : shortest_walk all start k ≡ None → (w : List (List ℕ)) → first_in (walks all start (length new) start) ≡ Some w → (n : ℕ) → k < n → shortest_walk all start n ≡ Some w
    found_now s w f n l = is_shortest k w s (subst (λ (j : ℕ). first_in (walks all start j start) ≡ Some w) {x = length new} {y = suc k} (one_more_level ∙ omega arith) f) n l
