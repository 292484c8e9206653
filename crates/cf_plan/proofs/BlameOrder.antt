-- A plan wants each path behind those that it needs.
use Rattle.std.proofs.Common.{◌≡◌, ℕ, suc, ◌<◌, ◌⊎◌, inl, inr, List, [], ◌∷◌, ◌++◌, Bool, true, false, ◌||◌, Some, refl, sym, subst, true≢false, find, arith}
use Rattle.std.specs.Prelude.{⊤, cond}
use Rattle.std.specs.Str.{bytes_eq}
use Rattle.std.proofs.lemmas.Slice.Eq.{bytes_eq-Decides}
use Rattle.cf_tree.specs.Lists.{is_among}
use Rattle.cf_tree.specs.declared.source.Source.{Source}
use Rattle.cf_desired.specs.declared.wanted.Wanted.{Wanted}
use Rattle.cf_desired.specs.declared.wanted.Plan.{Plan}
use Rattle.cf_desired.specs.Seeing.{Seen}
use Rattle.cf_desired.specs.Plan.{plan_of}
use Rattle.cf_desired.specs.Whole.{is_wanted_at, wanted_at}
use Rattle.cf_desired.proofs.ComeFirst.{among_split}
use Rattle.cf_desired.proofs.Planned.{WantedFirst, wanted_first}
use Rattle.cf_desired.proofs.Puts.{among_pass}
use Rattle.cf_tree.specs.Lists.{In}
use Rattle.cf_plan.proofs.RunLists.{any_of}

-- what each needs is wanted before it, or is among these
abbrev pub NeedsEarlier : (List ℕ → Type 0) → List Wanted → Type 0
NeedsEarlier P [] = ⊤
NeedsEarlier P (w ∷ ws) = ((q : List ℕ) → In q w.needs → P q) × NeedsEarlier (λ q. P q ⊎ (q ≡ w.path)) ws

-- where a path is wanted first
abbrev pub place_of : List ℕ → List Wanted → ℕ
place_of q [] = 0
place_of q (w ∷ ws) = cond (bytes_eq q w.path) 0 (suc (place_of q ws))

place_further : (b : Bool) (n m : ℕ) → n < m → cond b 0 (suc n) < suc m
place_further true n m h = omega arith
place_further false n m h = omega arith

pub before_it :
    (P : List ℕ → Type 0) (ws : List Wanted) → NeedsEarlier P ws → (m q : List ℕ) (w : Wanted) → find (is_wanted_at m) ws ≡ Some w → In q w.needs
    → P q ⊎ (place_of q ws < place_of m ws)
before_it P [] h m q w e i = let no : ⊥ = cc in absurd no
before_it P (v ∷ vs) h m q w e i = by_test (bytes_eq m v.path) e (before_it (λ x. P x ⊎ (x ≡ v.path)) vs h.1 m q w) where
  further : (P q ⊎ (q ≡ v.path)) ⊎ (place_of q vs < place_of m vs) → P q ⊎ (cond (bytes_eq q v.path) 0 (suc (place_of q vs)) < suc (place_of m vs))
  further (inl (inl p)) = inl p
  further (inl (inr s)) =
      inr (subst (λ b. cond b 0 (suc (place_of q vs)) < suc (place_of m vs)) (sym ((bytes_eq-Decides q v.path).1 s)) (omega arith))
  further (inr l) = inr (place_further (bytes_eq q v.path) (place_of q vs) (place_of m vs) l)

  by_test :
      (b : Bool) → cond b (Some v) (find (is_wanted_at m) vs) ≡ Some w
      → (find (is_wanted_at m) vs ≡ Some w → In q w.needs → (P q ⊎ (q ≡ v.path)) ⊎ (place_of q vs < place_of m vs))
      → P q ⊎ (cond (bytes_eq q v.path) 0 (suc (place_of q vs)) < cond b 0 (suc (place_of m vs)))
  by_test true g ih = let same : v ≡ w = cc in inl (h.0 q (subst (λ x. In q x.needs) (sym same) i))
  by_test false g ih = further (ih g i)

-- a plan that wants each path behind those that it needs
abbrev pub IsOrdered : Plan → Type 0
IsOrdered p = NeedsEarlier (λ q. ⊥) p.wanted

by_order : (P : List ℕ → Type 0) (before : List (List ℕ)) (ws : List Wanted) → WantedFirst before ws → ((q : List ℕ) → is_among q before ≡ true → P q) → NeedsEarlier P ws
by_order P before [] h g = tt
by_order P before (w ∷ ws) h g = (
  λ q i. g q (among_pass (λ p. is_among p before) w.needs q h.0 (any_of (bytes_eq q) w.needs q i ((bytes_eq-Decides q q).1 refl))),
  by_order (λ q. P q ⊎ (q ≡ w.path)) (before ++ w.path ∷ []) ws h.1 (λ q e. either q (among_split q before (w.path ∷ []) e)),
) where
  or_no : (b : Bool) → (b || false) ≡ true → b ≡ true
  or_no true e = refl
  or_no false e = e

  either : (q : List ℕ) → (is_among q before ≡ true) ⊎ (is_among q (w.path ∷ []) ≡ true) → P q ⊎ (q ≡ w.path)
  either q (inl e) = inl (g q e)
  either q (inr e) = inr ((bytes_eq-Decides q w.path).0 (or_no (bytes_eq q w.path) e))

pub plan_ordered : (source : Source) (seen : Seen) → IsOrdered (plan_of source seen)
plan_ordered source seen = by_order (λ q. ⊥) [] (plan_of source seen).wanted (wanted_first source seen) (λ q e. true≢false (sym e))

-- a path that a path needs is wanted before it
pub needed_before :
    (source : Source) (seen : Seen) (m q : List ℕ) (w : Wanted) → wanted_at m (plan_of source seen) ≡ Some w → In q w.needs
    → place_of q (plan_of source seen).wanted < place_of m (plan_of source seen).wanted
needed_before source seen m q w e i = elim (before_it (λ x. ⊥) (plan_of source seen).wanted (plan_ordered source seen) m q w e i) [ inl f ↦ absurd f | inr l ↦ l ]
