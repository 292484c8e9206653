-- What the code finds that a resource needs is what the definition says.
use Rattle.std.proofs.Common.{◌≡◌, ℕ, List, [], ◌∷◌, ◌++◌, map, filter, filter_map, find, Bool, true, false, cond, ◌&&◌, ◌||◌, Option, Some, is_some, refl, ap, ◌∙◌}
use Rattle.std.specs.List.{list_any}
use Rattle.std.specs.Str.{bytes_eq}
use Rattle.cf_tree.specs.Forms.{fields_of}
use Rattle.cf_tree.specs.declared.bound.Verdict.{Verdict}
use Rattle.cf_tree.specs.declared.template.Template.{Template}
use Rattle.cf_tree.specs.declared.template.Param.{Param}
use Rattle.cf_tree.specs.declared.template.Res.{Res}
use Rattle.cf_tree.specs.Lists.{is_among}
use Rattle.cf_graph.specs.Mentions.{Mention, by_ref, by_attribute, fields_mentions}
use Rattle.cf_graph.specs.Mentioned.{meant_by, needs_mentioned}
use Rattle.cf_graph.specs.Needs.{all_needs, needs_in, is_made, is_parameter, meant, holds_in, evaluated_props}

pub some_found : {X : Type 0} (test : X → Bool) (xs : List X) → list_any test xs ≡ is_some (find test xs)
some_found test [] = refl
some_found test (x ∷ xs) = by (test x) (some_found test xs)
  where
    by : (b : Bool) → list_any test xs ≡ is_some (find test xs) → (b || list_any test xs) ≡ is_some (cond b (Some x) (find test xs))
    by true h = refl
    by false h = h

pub told : (t : Template) (has : List ℕ → Bool) → ((q : List ℕ) → has q ≡ list_any (λ p. bytes_eq q p.name) t.params) → (q : List ℕ) → has q ≡ is_parameter q t
told t has h q = h q ∙ some_found (λ (p : Param). bytes_eq q p.name) t.params

pub over : (t : Template) (conds : List (List ℕ × Verdict)) (made : List (List ℕ)) (has : List ℕ → Bool) → ((q : List ℕ) → has q ≡ list_any (λ p. bytes_eq q p.name) t.params)
    → map {B = List ℕ × List (List ℕ)} (λ (r : Res). (r.name, needs_mentioned has made conds r)) (filter (is_made conds) t.resources) ≡ map {B = List ℕ × List (List ℕ)} (λ (r : Res). (r.name, needs_mentioned (λ q. is_parameter q t) made conds r)) (filter (is_made conds) t.resources)
over t conds made has h = λ i. map {B = List ℕ × List (List ℕ)} (λ (r : Res). (r.name, needs_mentioned (λ q. told t has h q i) made conds r)) (filter (is_made conds) t.resources)

meant_is : (t : Template) (m : Mention) → meant_by (λ q. is_parameter q t) m ≡ meant t m
meant_is t (by_ref name) = refl
meant_is t (by_attribute name) = refl

both_tests : (p q : Res → Bool) (xs : List Res) → filter q (filter p xs) ≡ filter (λ x. p x && q x) xs
both_tests p q [] = refl
both_tests p q (x ∷ xs) = by (p x) (both_tests p q xs)
  where
    by : (b : Bool) → filter q (filter p xs) ≡ filter (λ x. p x && q x) xs → filter q (cond b (x ∷ filter p xs) (filter p xs)) ≡ cond (b && q x) (x ∷ filter (λ x. p x && q x) xs) (filter (λ x. p x && q x) xs)
    by true h = ap (λ (ys : List Res). cond (q x) (x ∷ ys) ys) h
    by false h = h

by_name : (q : List ℕ → Bool) (xs : List Res) → filter q (map (λ r. r.name) xs) ≡ map (λ r. r.name) (filter (λ r. q r.name) xs)
by_name q [] = refl
by_name q (x ∷ xs) = by (q x.name) (by_name q xs)
  where
    by : (b : Bool) → filter q (map (λ r. r.name) xs) ≡ map (λ r. r.name) (filter (λ r. q r.name) xs) → cond b (x.name ∷ filter q (map (λ r. r.name) xs)) (filter q (map (λ r. r.name) xs)) ≡ map (λ r. r.name) (cond b (x ∷ filter (λ r. q r.name) xs) (filter (λ r. q r.name) xs))
    by true h = ap (λ (ns : List (List ℕ)). x.name ∷ ns) h
    by false h = h

module _ (t : Template) (conds : List (List ℕ × Verdict)) where
  one : (r : Res) → needs_mentioned (λ q. is_parameter q t) (map (λ m. m.name) (filter (is_made conds) t.resources)) conds r ≡ needs_in t conds r
  one r =
      let refs = λ (f : Mention → Option (List ℕ)). filter_map f (fields_mentions (holds_in conds) (fields_of (evaluated_props r))) ++ r.depends in
      (λ i. filter (λ n. is_among n (refs (λ m. meant_is t m i))) (map (λ m. m.name) (filter (is_made conds) t.resources)))
      ∙ by_name (λ n. is_among n (refs (meant t))) (filter (is_made conds) t.resources)
      ∙ ap (λ (ms : List Res). map (λ m. m.name) ms) (both_tests (is_made conds) (λ m. is_among m.name (refs (meant t))) t.resources)

  pub needed : (made : List (List ℕ)) (all : List (List ℕ × List (List ℕ))) → made ≡ map (λ m. m.name) (filter (is_made conds) t.resources) → all ≡ map {B = List ℕ × List (List ℕ)} (λ (r : Res). (r.name, needs_mentioned (λ q. is_parameter q t) made conds r)) (filter (is_made conds) t.resources) → all ≡ all_needs t conds
  needed made all e f =
      f ∙ ap (λ (ms : List (List ℕ)). map {B = List ℕ × List (List ℕ)} (λ (r : Res). (r.name, needs_mentioned (λ q. is_parameter q t) ms conds r)) (filter (is_made conds) t.resources)) e
      ∙ (λ i. map {B = List ℕ × List (List ℕ)} (λ (r : Res). (r.name, one r i)) (filter (is_made conds) t.resources))
