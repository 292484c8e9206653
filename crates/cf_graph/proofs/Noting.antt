-- What a map of lists holds after a place was noted in it.
use Rattle.std.proofs.Common.{◌≡◌, ℕ, List, [], ◌∷◌, ◌++◌, Bool, true, false, cond, Option, Some, None, refl, ap, sym, ◌∙◌, subst, true≢false, if◌then◌else◌}
use Rattle.std.specs.Prelude.{Vec}
use Rattle.std.specs.Option.{option_map_or}
use Rattle.std.specs.Ordering.{nat_cmp, is_eq}
use Rattle.std.specs.Str.{bytes_eq}
use Rattle.std.specs.Cmp.Lexicographic.{slice_cmp}
use Rattle.std.specs.BTreeMap.{BTreeMap, get, Updates}
use Rattle.std.specs.declared.alloc.Global.{Global}
use Rattle.std.proofs.lemmas.Map.Text.{is_eq-slice_cmp}
use Rattle.std.proofs.lemmas.Slice.Eq.{bytes_eq-Decides}
use Rattle.cf_graph.specs.Noted.{places_noted}

apart : (q k : List ℕ) → bytes_eq q k ≡ false → is_eq (slice_cmp nat_cmp k q) ≡ false
apart q k e = is_eq-slice_cmp k q ∙ by (bytes_eq k q) refl
  where
    by : (b : Bool) → bytes_eq k q ≡ b → b ≡ false
    by true h = absurd (true≢false (sym ((bytes_eq-Decides q k).1 (sym ((bytes_eq-Decides k q).0 h))) ∙ e))
    by false h = refl

-- the list under a name has one place more
pub noted_more : (m n : BTreeMap (List ℕ) (Vec ℕ Global)) (k : List ℕ) (v : Vec ℕ Global) (at : ℕ) → Updates (slice_cmp nat_cmp) m n k (Some v) → v.items ≡ places_noted m k ++ at ∷ [] → (q : List ℕ) → places_noted n q ≡ (if bytes_eq q k then places_noted m q ++ at ∷ [] else places_noted m q)
noted_more m n k v at h e q = by (bytes_eq q k) refl
  where
    by : (b : Bool) → bytes_eq q k ≡ b → places_noted n q ≡ cond b (places_noted m q ++ at ∷ []) (places_noted m q)
    by true g = subst (λ (r : List ℕ). places_noted n r ≡ places_noted m r ++ at ∷ []) (sym ((bytes_eq-Decides q k).0 g)) (ap (λ (o : Option (Vec ℕ Global)). option_map_or (λ w. w.items) o []) h.1 ∙ e)
    by false g = ap (λ (o : Option (Vec ℕ Global)). option_map_or (λ w. w.items) o []) (h.2 q (apart q k g))

-- the list that stands there grows
pub noted_behind : (m n : BTreeMap (List ℕ) (Vec ℕ Global)) (k : List ℕ) (u v : Vec ℕ Global) (at : ℕ) → Updates (slice_cmp nat_cmp) m n k (Some v) → Some u ≡ get (slice_cmp nat_cmp) m k → v.items ≡ u.items ++ at ∷ [] → (q : List ℕ) → places_noted n q ≡ (if bytes_eq q k then places_noted m q ++ at ∷ [] else places_noted m q)
noted_behind m n k u v at h e g = noted_more m n k v at h (g ∙ ap (λ (o : Option (Vec ℕ Global)). option_map_or (λ w. w.items) o [] ++ at ∷ []) e)

-- or a first one is made
pub noted_first : (m p n : BTreeMap (List ℕ) (Vec ℕ Global)) (k j : List ℕ) (u v : Vec ℕ Global) (at : ℕ) → Updates (slice_cmp nat_cmp) p n j (Some v) → p ≡ m → j ≡ k → None ≡ get (slice_cmp nat_cmp) m k → u.items ≡ [] → v.items ≡ u.items ++ at ∷ [] → (q : List ℕ) → places_noted n q ≡ (if bytes_eq q k then places_noted m q ++ at ∷ [] else places_noted m q)
noted_first m p n k j u v at h same_map same_name e none g =
    let moved = subst (λ (l : List ℕ). Updates (slice_cmp nat_cmp) m n l (Some v)) same_name (subst (λ (l : BTreeMap (List ℕ) (Vec ℕ Global)). Updates (slice_cmp nat_cmp) l n j (Some v)) same_map h) in
    noted_more m n k v at moved (g ∙ ap (λ (xs : List ℕ). xs ++ at ∷ []) (none ∙ ap (λ (o : Option (Vec ℕ Global)). option_map_or (λ w. w.items) o []) e))
