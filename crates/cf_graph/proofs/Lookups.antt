-- What a map in the order of insertion finds is what stands under the name in the list of its entries.
use Rattle.std.proofs.Common.{◌≡◌, ℕ, ◌<◌, List, [], ◌∷◌, ◌++◌, length, get_or, Bool, false, cond, Option, Some, None, is_some, refl, ap, sym, ◌∙◌, true≢false}
use Rattle.std.specs.Str.{bytes_eq}
use Rattle.std.specs.Map.{lookup}
use Rattle.std.proofs.lemmas.List.{get_or_default}
use Rattle.indexmap.specs.IndexMap.{IndexMap, insert_entry}
use Rattle.indexmap.proofs.CallerLemmas.{insert_entry-new}
use Rattle.cf_tree.specs.Keys.{value_at}
use Rattle.cf_graph.specs.Waiting.{row_name, has_come}

pub lookup_is_value_at : {X : Type 0} (k : List ℕ) (es : List (List ℕ × X)) → lookup (bytes_eq k) es ≡ value_at k es
lookup_is_value_at k [] = refl
lookup_is_value_at k (e ∷ es) = ap (cond (bytes_eq k e.0) (Some e.1)) (lookup_is_value_at k es)

none_from : {X : Type 0} (o : Option X) → is_some o ≡ false → o ≡ None
none_from None e = refl
none_from (Some x) e = absurd (true≢false e)

module _ (all placed : List (List ℕ × List (List ℕ))) (p : ℕ) (r : List ℕ × List (List ℕ)) (l : p < length all) (e : r ≡ get_or all p r) (b : Bool) (found : b ≡ is_some (lookup (bytes_eq (get_or all p r).0) placed)) where
  named : row_name all p ≡ (get_or all p r).0
  named = ap (λ (x : List ℕ × List (List ℕ)). x.0) (get_or_default all p ([], []) r l)

  pub come_is : has_come all placed p ≡ b
  come_is = ap (λ (n : List ℕ). is_some (value_at n placed)) named ∙ sym (ap is_some (lookup_is_value_at (get_or all p r).0 placed)) ∙ sym found

  pub not_come : b ≡ false → value_at (row_name all p) placed ≡ None
  not_come f = none_from _ (come_is ∙ f)

-- a name that was not there goes last
pub pushed : {S : Type 0} (m : IndexMap (List ℕ) (List (List ℕ)) S) (k j : List ℕ) (v w : List (List ℕ)) (new : List (List ℕ × List (List ℕ))) → value_at k m.entries ≡ None → j ≡ k → w ≡ v → new ≡ insert_entry bytes_eq m.entries j w → new ≡ m.entries ++ (k, v) ∷ []
pushed m k j v w new none e f g =
    let absent = ap (λ (l : List ℕ). lookup (bytes_eq l) m.entries) e ∙ lookup_is_value_at k m.entries ∙ none in
    g ∙ insert_entry-new bytes_eq m j w absent ∙ (λ i. m.entries ++ (e i, f i) ∷ [])
