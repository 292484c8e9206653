-- The names of properties ascend while they are taken out of a template's.
use Rattle.std.proofs.Common.{◌≡◌, ℕ, List, [], ◌∷◌, ◌++◌, map, true, Option, Some, None, refl, ap, sym, ◌∙◌, subst, append_assoc, append-nil}
use Rattle.std.specs.Cmp.{first_so, second_so}
use Rattle.std.proofs.lemmas.List.{map-append}
use Rattle.cf_tree.specs.Datum.{Data}
use Rattle.cf_tree.specs.Forms.{Form}
use Rattle.cf_tree.specs.Keys.{bytes_lt, ascends, ascends_from}
use Rattle.cf_tree.proofs.Order.{ascends_map}
use Rattle.cf_tree.specs.Value.{datum_of}
use Rattle.cf_eval.specs.declared.got.Got.{Got}
use Rattle.cf_eval.specs.declared.got.Got.TheVariants as it
use Rattle.cf_eval.specs.Gives.{got_found}
use Rattle.cf_eval.specs.Scope.{Scope}
use Rattle.cf_eval.specs.Texts.{Found}
use Rattle.cf_eval.specs.Value.{PropsFound, value_of}
use Rattle.cf_desired.specs.Kept.{prop_taken}
use Rattle.cf_desired.proofs.Properties.{next_prop, props_after}
use Rattle.cf_desired.proofs.Kept.{both, past, rest_ascends}

-- pairs as their names
abbrev pub nameless : {X : Type 0} → List ℕ × X → List ℕ × Unit {0}
nameless p = (p.0, tt)

abbrev pub named : {X : Type 0} → List (List ℕ × X) → List (List ℕ × Unit {0})
named ps = map nameless ps

-- the names of what is known and of what is left ascend
abbrev pub InOrder : List (List ℕ × Option Data) → List (List ℕ × Form) → Type 0
InOrder known left = ascends (named known ++ named left) ≡ true

module _ {X : Type 0} where
  without_from : (k : List ℕ) (xs : List (List ℕ × X)) (y : List ℕ × X) (ys : List (List ℕ × X)) → ascends_from k (xs ++ y ∷ ys) ≡ true → ascends_from k (xs ++ ys) ≡ true
  without_from k [] y ys h = past k y.0 ys (first_so (bytes_lt k y.0) (ascends_from y.0 ys) h) (second_so (bytes_lt k y.0) (ascends_from y.0 ys) h)
  without_from k (x ∷ xs) y ys h =
      both _ _ (first_so (bytes_lt k x.0) (ascends_from x.0 (xs ++ y ∷ ys)) h) (without_from x.0 xs y ys (second_so (bytes_lt k x.0) (ascends_from x.0 (xs ++ y ∷ ys)) h))

  without : (xs : List (List ℕ × X)) (y : List ℕ × X) (ys : List (List ℕ × X)) → ascends (xs ++ y ∷ ys) ≡ true → ascends (xs ++ ys) ≡ true
  without [] y ys h = rest_ascends (λ (x : X). Some x) y.0 ys h
  without (x ∷ xs) y ys h = without_from x.0 xs y ys h

  first_from : (k : List ℕ) (xs ys : List (List ℕ × X)) → ascends_from k (xs ++ ys) ≡ true → ascends_from k xs ≡ true
  first_from k [] ys h = refl
  first_from k (x ∷ xs) ys h = both _ _ (first_so (bytes_lt k x.0) (ascends_from x.0 (xs ++ ys)) h) (first_from x.0 xs ys (second_so (bytes_lt k x.0) (ascends_from x.0 (xs ++ ys)) h))

  first_part : (xs ys : List (List ℕ × X)) → ascends (xs ++ ys) ≡ true → ascends xs ≡ true
  first_part [] ys h = refl
  first_part (x ∷ xs) ys h = first_from x.0 xs ys h

  named_ascend : (ps : List (List ℕ × X)) → ascends (named ps) ≡ ascends ps
  named_ascend ps = ascends_map nameless (λ p. refl) ps

-- one is taken
pub one_taken : (known : List (List ℕ × Option Data)) (p : List ℕ × Form) (left : List (List ℕ × Form)) (v : Option Data) → InOrder known (p ∷ left) → InOrder (known ++ (p.0, v) ∷ []) left
one_taken known p left v h =
    ap (λ (xs : List (List ℕ × Unit {0})). ascends (xs ++ named left)) (map-append nameless known ((p.0, v) ∷ [])) ∙ ap ascends (append_assoc (named known) ((p.0, tt) ∷ []) (named left)) ∙ h

-- one is left out
pub one_left : (known : List (List ℕ × Option Data)) (p : List ℕ × Form) (left : List (List ℕ × Form)) → InOrder known (p ∷ left) → InOrder known left
one_left known p left h = without (named known) (p.0, tt) (named left) h

-- what is known ascends
pub known_in_order : (known : List (List ℕ × Option Data)) (left : List (List ℕ × Form)) → InOrder known left → ascends known ≡ true
known_in_order known left h = sym (named_ascend known) ∙ first_part (named known) (named left) h

pub left_in_order : (left : List (List ℕ × Form)) → ascends left ≡ true → InOrder [] left
left_in_order left h = named_ascend left ∙ h

-- whatever stands under the last name
pub same_names : (known : List (List ℕ × Option Data)) (name : List ℕ) (v w : Option Data) → ascends (known ++ (name, v) ∷ []) ≡ true → ascends (known ++ (name, w) ∷ []) ≡ true
same_names known name v w h =
    sym (named_ascend (known ++ (name, w) ∷ [])) ∙ ap ascends (map-append nameless known ((name, w) ∷ []) ∙ sym (map-append nameless known ((name, v) ∷ []))) ∙ named_ascend (known ++ (name, v) ∷ []) ∙ h

-- one more property in the order of the template
pub prop_step : (s : Scope) (known after : List (List ℕ × Option Data)) (p : List ℕ × Form) (left : List (List ℕ × Form)) (g : Got) (whole : PropsFound)
    → value_of s p.1 ≡ got_found g → whole ≡ props_after s (p ∷ left) known → InOrder known (p ∷ left) → after ≡ known ++ prop_taken p.0 g
    → (whole ≡ props_after s left after) × InOrder after left
prop_step s known after p left (it.Value v) whole e h o u = (
  h ∙ ap (λ (f : Found). next_prop known p.0 f (props_after s left)) e ∙ ap (props_after s left) (sym u),
  subst (λ (k : List (List ℕ × Option Data)). InOrder k left) (sym u) (one_taken known p left (Some (datum_of v)) o),
)
prop_step s known after p left it.NoValue whole e h o u = (
  h ∙ ap (λ (f : Found). next_prop known p.0 f (props_after s left)) e ∙ ap (props_after s left) (sym (u ∙ append-nil known)),
  subst (λ (k : List (List ℕ × Option Data)). InOrder k left) (sym (u ∙ append-nil known)) (one_left known p left o),
)
prop_step s known after p left it.Later whole e h o u = (
  h ∙ ap (λ (f : Found). next_prop known p.0 f (props_after s left)) e ∙ ap (props_after s left) (sym u),
  subst (λ (k : List (List ℕ × Option Data)). InOrder k left) (sym u) (one_taken known p left None o),
)
