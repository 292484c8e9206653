-- The resource of a name stands at its place, where names ascend.
use Rattle.std.proofs.Common.{◌≡◌, ℕ, ◌<◌, List, [], ◌∷◌, length, Some, None, Ok, Err, refl, ap, sym, ◌∙◌, map, get_or, cond}
use Rattle.std.specs.Str.{bytes_eq}
use Rattle.std.specs.Ordering.{nat_cmp, match_ordering}
use Rattle.std.specs.Cmp.Lexicographic.{slice_cmp}
use Rattle.cf_tree.specs.Keys.{ascends, ascends_from, bytes_lt, next, place, value_at}
use Rattle.cf_tree.specs.Named.{found}
use Rattle.cf_tree.specs.declared.template.Res.{Res}
use Rattle.cf_tree.proofs.Lookups.{in_range, value_found, value_missed}
use Rattle.cf_template.proofs.Ordered.{AreOrdered, under_names}
use Rattle.cf_desired.specs.Shared.{no_resource, resource_placed}

abbrev by_name : Res → List ℕ × Res
by_name r = (r.name, r)

-- what stands under the names doesn't count for their order and their places
ascends_from_named : (k : List ℕ) (rs : List Res) → ascends_from k (map by_name rs) ≡ ascends_from k (under_names rs)
ascends_from_named k [] = refl
ascends_from_named k (r ∷ rs) = rw (ascends_from_named r.name rs) refl

ascends_named : (rs : List Res) → ascends (map by_name rs) ≡ ascends (under_names rs)
ascends_named [] = refl
ascends_named (r ∷ rs) = ascends_from_named r.name rs

place_by_name : (k : List ℕ) (rs : List Res) → place k (map by_name rs) ≡ place k (under_names rs)
place_by_name k [] = refl
place_by_name k (r ∷ rs) = ap (λ p. match_ordering (slice_cmp nat_cmp k r.name) (Err 0) (Ok 0) (next p)) (place_by_name k rs)

value_is_found : (k : List ℕ) (rs : List Res) → value_at k (map by_name rs) ≡ found (λ r. r.name) k rs
value_is_found k [] = refl
value_is_found k (r ∷ rs) = ap (λ v. cond (bytes_eq k r.name) (Some r) v) (value_is_found k rs)

module _ (id : List ℕ) (rs : List Res) (at : ℕ) (o : AreOrdered rs) where
  pub named_in : place id (under_names rs) ≡ Ok at → at < length rs
  named_in h = in_range by_name id rs at (ascends_named rs ∙ o) (place_by_name id rs ∙ h)

  pub named_at : place id (under_names rs) ≡ Ok at → found (λ r. r.name) id rs ≡ Some (resource_placed at rs)
  named_at h = sym (value_is_found id rs) ∙ value_found by_name id rs at no_resource (ascends_named rs ∙ o) (place_by_name id rs ∙ h)

  pub named_read : (r : Res) → r ≡ get_or rs at r → place id (under_names rs) ≡ Ok at → Some r ≡ found (λ x. x.name) id rs
  named_read r e h = ap (λ x. Some x) e ∙ sym (value_found by_name id rs at r (ascends_named rs ∙ o) (place_by_name id rs ∙ h)) ∙ value_is_found id rs

  pub named_nowhere : place id (under_names rs) ≡ Err at → found (λ r. r.name) id rs ≡ None
  named_nowhere h = sym (value_is_found id rs) ∙ value_missed by_name id rs at (ascends_named rs ∙ o) (place_by_name id rs ∙ h)
