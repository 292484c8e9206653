-- The places that are noted under some names are those of the members that stand among the names.
use Rattle.std.proofs.Common.{◌≡◌, ℕ, ◌<◌, List, [], ◌∷◌, length, map, filter, get_or, Bool, true, false, ◌&&◌, ◌||◌, nat_lt, nat_eq, refl, sym, ◌∙◌}
use Rattle.std.specs.Ordering.{nat_cmp}
use Rattle.std.specs.List.{list_any}
use Rattle.std.specs.List.Sorted.{IsStrictlySortedBy}
use Rattle.std.specs.Str.{bytes_eq}
use Rattle.std.specs.Prelude.{Vec}
use Rattle.std.specs.BTreeMap.{BTreeMap}
use Rattle.std.specs.BTreeSet.{BTreeSet, contains}
use Rattle.std.specs.declared.alloc.Global.{Global}
use Rattle.std.proofs.lemmas.Bool.{and_parts, ltb-true}
use Rattle.cf_tree.specs.Lists.{is_among}
use Rattle.cf_graph.specs.Noted.{places_noted}
use Rattle.cf_graph.proofs.Placing.{flip}
use Rattle.cf_graph.proofs.Selected.{selected_by_set}

out : (l : Bool) (m : List ℕ) (names : List (List ℕ)) → list_any (λ n. l && bytes_eq n m) names ≡ (l && is_among m names)
out true m [] = refl
out true m (n ∷ ns) = λ i. flip n m i || out true m ns i
out false m [] = refl
out false m (n ∷ ns) = out false m ns

module _ (made names : List (List ℕ)) (places : BTreeMap (List ℕ) (Vec ℕ Global)) (s : BTreeSet ℕ)
    (noting : (q : List ℕ) (p : ℕ) → list_any (nat_eq p) (places_noted places q) ≡ (nat_lt p (length made) && bytes_eq q (get_or made p [])))
    (h : (p : ℕ) → contains nat_cmp s p ≡ list_any (λ n. list_any (nat_eq p) (places_noted places n)) names) where
  has : (p : ℕ) → contains nat_cmp s p ≡ (nat_lt p (length made) && is_among (get_or made p []) names)
  has p = h p ∙ (λ i. list_any (λ n. noting n p i) names) ∙ out (nat_lt p (length made)) (get_or made p []) names

  pub within : (p : ℕ) → contains nat_cmp s p ≡ true → p < length made
  within p c = ltb-true p (length made) (and_parts (nat_lt p (length made)) (is_among (get_or made p []) names) (sym (has p) ∙ c)).0

  pub among : IsStrictlySortedBy nat_cmp s.keys → map (λ p. get_or made p []) s.keys ≡ filter (λ n. is_among n names) made
  among sorted = selected_by_set (λ n. is_among n names) made [] s sorted has
