-- The first name of a DependsOn that nothing declares.
use Rattle.std.proofs.Common.{◌≡◌, ℕ, suc, ◌+◌, ◌<◌, arith, length, get_or, drop, flat_map, List, [], ◌∷◌, ◌++◌, map, filter, find, not, Bool, true, false, cond, Option, Some, None, refl, ap, sym, ◌∙◌}
use Rattle.std.specs.List.{list_any}
use Rattle.std.specs.Str.{bytes_eq}
use Rattle.std.specs.Option.{unwrap_or}
use Rattle.std.proofs.lemmas.Option.{none-some}
use Rattle.std.proofs.Math.Seq.{drop-cons}
use Rattle.cf_tree.specs.declared.template.Template.{Template}
use Rattle.cf_tree.specs.declared.template.Res.{Res}
use Rattle.cf_tree.specs.Lists.{first_in}
use Rattle.cf_graph.specs.Needs.{is_unknown, unknown_of}
use Rattle.cf_graph.proofs.Needed.{some_found}

module _ {X Y : Type 0} (test : X → Bool) (f : X → Y) where
  pub first_of_some : (xs : List X) (rest : List Y) (x : X) → find test xs ≡ Some x → first_in (map f (filter test xs) ++ rest) ≡ Some (f x)
  first_of_some [] rest x e = absurd (none-some x e)
  first_of_some (y ∷ ys) rest x e = by (test y) (first_of_some ys rest x) e
    where
      by : (b : Bool) → (find test ys ≡ Some x → first_in (map f (filter test ys) ++ rest) ≡ Some (f x)) → cond b (Some y) (find test ys) ≡ Some x → first_in (map f (cond b (y ∷ filter test ys) (filter test ys)) ++ rest) ≡ Some (f x)
      by true h e = ap (λ (z : X). Some (f z)) (ap (λ (o : Option X). unwrap_or o y) e)
      by false h e = h e

  pub first_of_none : (xs : List X) (rest : List Y) → find test xs ≡ None → map f (filter test xs) ++ rest ≡ rest
  first_of_none [] rest e = refl
  first_of_none (y ∷ ys) rest e = by (test y) (first_of_none ys rest) e
    where
      by : (b : Bool) → (find test ys ≡ None → map f (filter test ys) ++ rest ≡ rest) → cond b (Some y) (find test ys) ≡ None → map f (cond b (y ∷ filter test ys) (filter test ys)) ++ rest ≡ rest
      by true h e = absurd (none-some y (sym e))
      by false h e = h e

pub tells : (t : Template) (has : List ℕ → Bool) → ((q : List ℕ) → has q ≡ list_any (λ r. bytes_eq q r.name) t.resources) → (q : List ℕ) → not (has q) ≡ is_unknown t q
tells t has h q = ap not (h q ∙ some_found (λ (r : Res). bytes_eq q r.name) t.resources)

-- what is left of the resources begins with one
module _ (t : Template) (has : List ℕ → Bool) (h : (q : List ℕ) → has q ≡ list_any (λ r. bytes_eq q r.name) t.resources) (rs : List Res) (i : ℕ) (r : Res) (l : i < length rs) (here : r ≡ get_or rs i r) where
  opened : flat_map (unknown_of t) (drop i rs) ≡ unknown_of t r ++ flat_map (unknown_of t) (drop (i + 1) rs)
  opened =
      let one : suc i ≡ i + 1 = omega arith in
      ap (flat_map (unknown_of t)) (drop-cons rs i r l ∙ (λ j. sym here j ∷ drop (one j) rs))

  same : (o : Option (List ℕ)) → o ≡ find (λ n. not (has n)) r.depends → find (is_unknown t) r.depends ≡ o
  same o e = sym (e ∙ (λ j. find (λ n. tells t has h n j) r.depends))

  -- which names one that is not declared
  pub names_one : (n : List ℕ) → Some n ≡ find (λ m. not (has m)) r.depends → first_in (flat_map (unknown_of t) (drop i rs)) ≡ Some (r.name, n)
  names_one n e = ap first_in opened ∙ first_of_some (is_unknown t) (λ m. (r.name, m)) r.depends (flat_map (unknown_of t) (drop (i + 1) rs)) n (same (Some n) e)

  -- or none
  pub names_none : None ≡ find (λ m. not (has m)) r.depends → first_in (flat_map (unknown_of t) (drop i rs)) ≡ first_in (flat_map (unknown_of t) (drop (i + 1) rs))
  names_none e = ap first_in (opened ∙ first_of_none (is_unknown t) (λ m. (r.name, m)) r.depends (flat_map (unknown_of t) (drop (i + 1) rs)) (same None e))
