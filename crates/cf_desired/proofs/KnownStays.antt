-- Seeing more keeps what was known: properties that are all known, and values of outputs.
use Rattle.std.proofs.Common.{◌≡◌, ℕ, List, [], ◌∷◌, ◌++◌, Bool, true, false, Option, Some, None, refl, sym, ap, subst, filter, find, map, option_map, Ok, Err}
use Rattle.std.specs.Prelude.{⊤, cond}
use Rattle.std.specs.Option.{option_and_then}
use Rattle.std.specs.Str.{bytes_eq}
use Rattle.cf_tree.specs.Datum.{Data}
use Rattle.cf_tree.specs.Forms.{Form}
use Rattle.cf_tree.specs.declared.source.Source.{Source}
use Rattle.cf_tree.specs.declared.template.Out.{Out}
use Rattle.cf_eval.specs.Knows.{StaysKnown, KnowsMore}
use Rattle.cf_desired.specs.Seeing.{Seen, is_output_made, own_ids, first_sights, text_in, text_known}
use Rattle.cf_desired.specs.Stays.{SeesMore}
use Rattle.cf_desired.specs.Whole.{known_of, is_wanted_at}
use Rattle.cf_desired.specs.declared.flaw.Flaw.{Flaw}
use Rattle.cf_desired.specs.declared.wanted.Evaluated.{Evaluated}
use Rattle.cf_desired.specs.declared.wanted.Evaluated.TheVariants.{Flawed as flawed, Known as evaluated}
use Rattle.cf_desired.specs.Plan.{wanted_of, outputs_in}
use Rattle.cf_desired.specs.Given.{Given, given_in}
use Rattle.cf_desired.specs.KnownStays.{KnownStays}
use Rattle.cf_desired.specs.Met.{output_at, scope_after}
use Rattle.cf_eval.specs.Outcome.{Outcome, got, later, bad}
use Rattle.cf_eval.specs.Scope.{Scope}
use Rattle.cf_desired.specs.Shape.{given_root}
use Rattle.cf_desired.specs.Stack.{Stack, Verdicts, Sights, evaluated_in}
use Rattle.cf_eval.specs.Value.{PropsFound, value_of, with_prop, props_of}
use Rattle.cf_eval.specs.Texts.{Found}
use Rattle.cf_desired.specs.Valued.{unless_flaw, member_props, valued_along, valued_inside, valued_in}
use Rattle.cf_desired.specs.Work.{Member, Nesting, Work, Inside, Body, no_work, resource, nested, shut, barred, halted, opened}
use Rattle.cf_desired.specs.Work as inside
use Rattle.cf_eval.proofs.Knowing.{Stands, value_stands}
use Rattle.cf_desired.proofs.Keeping.{GivenKeeps, given_self, given_keeps, KeepsSights, put_keeps, first_keep, over, scope_knows, after_keeps, inside_keeps, names_keep, text_stands}

-- properties, one by one
kept_map : {A B : Type 0} (f : A → B) (x y : Option A) → StaysKnown x y → StaysKnown (option_map f x) (option_map f y)
kept_map f None y h = tt
kept_map f (Some a) y h = ap (option_map f) h

unless_kept : (f : Option Flaw) (v w : Evaluated) → StaysKnown (known_of v) (known_of w) → StaysKnown (known_of (unless_flaw f v)) (known_of (unless_flaw f w))
unless_kept None v w h = h
unless_kept (Some f) v w h = tt

-- what is known of properties, in the stack at a path
abbrev known_at : List ℕ → PropsFound → Option (List (List ℕ × Data))
known_at path r = known_of (evaluated_in path r)

without_value : (path name : List ℕ) (r : PropsFound) → known_at path (with_prop name (got None) r) ≡ known_at path r
without_value path name (Ok ps) = refl
without_value path name (Err w) = refl

with_value : (path name : List ℕ) (d : Data) (r : PropsFound) → known_at path (with_prop name (got (Some d)) r) ≡ option_map (λ rest. (name, d) ∷ rest) (known_at path r)
with_value path name d (Ok ps) = refl
with_value path name d (Err w) = refl

with_later : (path name : List ℕ) (r : PropsFound) → known_at path (with_prop name later r) ≡ None
with_later path name (Ok ps) = refl
with_later path name (Err w) = refl

known_with : (path name : List ℕ) (o : Option Data) (r u : PropsFound) → StaysKnown (known_at path r) (known_at path u)
    → StaysKnown (known_at path (with_prop name (got o) r)) (known_at path (with_prop name (got o) u))
known_with path name None r u h =
    subst (λ x. StaysKnown x (known_at path (with_prop name (got None) u))) (sym (without_value path name r))
    (subst (λ x. StaysKnown (known_at path r) x) (sym (without_value path name u)) h)
known_with path name (Some d) r u h =
    subst (λ x. StaysKnown x (known_at path (with_prop name (got (Some d)) u))) (sym (with_value path name d r))
    (subst (λ x. StaysKnown (option_map (λ rest. (name, d) ∷ rest) (known_at path r)) x) (sym (with_value path name d u))
    (kept_map (λ rest. (name, d) ∷ rest) (known_at path r) (known_at path u) h))

one_kept : (path name : List ℕ) (x y : Found) (r u : PropsFound) → Stands false x y → StaysKnown (known_at path r) (known_at path u)
    → StaysKnown (known_at path (with_prop name x r)) (known_at path (with_prop name y u))
one_kept path name (got o) y r u g h = subst (λ z. StaysKnown (known_at path (with_prop name (got o) r)) (known_at path (with_prop name z u))) (sym g) (known_with path name o r u h)
one_kept path name later y r u g h = subst (λ z. StaysKnown z (known_at path (with_prop name y u))) (sym (with_later path name r)) tt
one_kept path name (bad w) y r u g h = tt

module _ (s t : Scope) (k : KnowsMore s t) (path : List ℕ) where
  props_kept : (ps : List (List ℕ × Form)) → StaysKnown (known_at path (props_of s ps)) (known_at path (props_of t ps))
  props_kept [] = refl
  props_kept (p ∷ ps) = one_kept path p.0 (value_of s p.1) (value_of t p.1) (props_of s ps) (props_of t ps) (value_stands s t k p.1) (props_kept ps)

  member_kept : (m : Member) → StaysKnown (known_of (member_props path s m)) (known_of (member_props path t m))
  member_kept m = unless_kept m.unnamed (evaluated_in path (props_of s m.props)) (evaluated_in path (props_of t m.props)) (props_kept m.props)

abbrev KeptAll : List (Member × Evaluated) → List (Member × Evaluated) → Type 0
KeptAll [] [] = ⊤
KeptAll (x ∷ xs) (y ∷ ys) = ((y.0 ≡ x.0) × StaysKnown (known_of x.1) (known_of y.1)) × KeptAll xs ys
KeptAll _ _ = ⊥

kept_and : (xs ys vs ws : List (Member × Evaluated)) → KeptAll xs ys → KeptAll vs ws → KeptAll (xs ++ vs) (ys ++ ws)
kept_and [] [] vs ws h k = k
kept_and [] (y ∷ ys) vs ws h k = absurd h
kept_and (x ∷ xs) [] vs ws h k = absurd h
kept_and (x ∷ xs) (y ∷ ys) vs ws h k = (h.0, kept_and xs ys vs ws h.1 k)

module _ (source : Source) (a b : Seen) (more : SeesMore a b) where
  mutual
    along_kept : (t : Stack) (conds : Verdicts) (g h : Given) → GivenKeeps g h → (m n : Sights) → KeepsSights m n → (w : Work)
        → KeptAll (valued_along source a t.path (over source a b more t conds g) m w) (valued_along source b t.path (over source a b more t conds h) n w)
    along_kept t conds g h k m n s no_work = tt
    along_kept t conds g h k m n s (resource r w) = ((refl, member_kept _ _ (scope_knows source a b more t conds g h k m n s) t.path r), along_kept t conds g h k m n s w)
    along_kept t conds g h k m n s (nested x i w) =
        let knows = scope_knows source a b more t conds g h k m n s in
        kept_and _ _ _ _ (inside_kept (over source a b more t conds g m) (over source a b more t conds h n) knows i)
        (along_kept t conds g h k _ _ (put_keeps x.id _ _ m n (refl, names_keep _ _ (inside_keeps source a b more (over source a b more t conds g m) (over source a b more t conds h n) knows i)) s) w)

    inside_kept : (s u : Scope) → KnowsMore s u → (i : Inside) → KeptAll (valued_inside source a s i) (valued_inside source b u i)
    inside_kept s u k (shut f) = tt
    inside_kept s u k (inside.given_by form x) = body_kept (given_in s form) (given_in u form) (given_keeps s u k form) x

    body_kept : (g h : Given) → GivenKeeps g h → (x : Body) → KeptAll (valued_in source a g x) (valued_in source b h x)
    body_kept g h k (barred f) = tt
    body_kept g h k (halted t f) = tt
    body_kept g h k (opened t conds w) = along_kept t conds g h k (first_sights t conds a (own_ids w)) (first_sights t conds b (own_ids w)) (first_keep source a b more t conds (own_ids w)) w

  -- by paths
  found_kept : (path : List ℕ) (xs ys : List (Member × Evaluated)) → KeptAll xs ys
      → StaysKnown (option_and_then (λ w. known_of w.props) (find (is_wanted_at path) (map wanted_of xs))) (option_and_then (λ w. known_of w.props) (find (is_wanted_at path) (map wanted_of ys)))
  found_kept path [] [] h = tt
  found_kept path [] (y ∷ ys) h = absurd h
  found_kept path (x ∷ xs) [] h = absurd h
  found_kept path (x ∷ xs) (y ∷ ys) h =
      subst (λ m. StaysKnown (option_and_then (λ w. known_of w.props) (find (is_wanted_at path) (map wanted_of (x ∷ xs)))) (option_and_then (λ w. known_of w.props) (find (is_wanted_at path) (map wanted_of ((m, y.1) ∷ ys))))) (sym h.0.0)
      (either (bytes_eq path x.0.path) (found_kept path xs ys h.1)) where
        either : (t : Bool)
            → StaysKnown (option_and_then (λ w. known_of w.props) (find (is_wanted_at path) (map wanted_of xs))) (option_and_then (λ w. known_of w.props) (find (is_wanted_at path) (map wanted_of ys)))
            → StaysKnown (option_and_then (λ w. known_of w.props) (cond t (Some (wanted_of x)) (find (is_wanted_at path) (map wanted_of xs))))
            (option_and_then (λ w. known_of w.props) (cond t (Some (wanted_of (x.0, y.1))) (find (is_wanted_at path) (map wanted_of ys))))
        either true ih = h.0.1
        either false ih = ih

  -- outputs of the root
  module _ (s u : Scope) (k : KnowsMore s u) (path : List ℕ) (conds : Verdicts) where
    text_kept : (x y : Outcome (List ℕ)) → Stands false x y → StaysKnown (text_known x) (text_known y)
    text_kept (got v) y g = ap text_known g
    text_kept later y g = tt
    text_kept (bad w) y g = tt

    output_named : (name : List ℕ) (os : List Out)
        → StaysKnown (option_and_then (λ o. o.value) (find (λ o. bytes_eq name o.name) (map (output_at path conds s) os)))
        (option_and_then (λ o. o.value) (find (λ o. bytes_eq name o.name) (map (output_at path conds u) os)))
    output_named name [] = tt
    output_named name (o ∷ os) = either (bytes_eq name o.name) (output_named name os) where
      either : (t : Bool)
          → StaysKnown (option_and_then (λ p. p.value) (find (λ p. bytes_eq name p.name) (map (output_at path conds s) os)))
          (option_and_then (λ p. p.value) (find (λ p. bytes_eq name p.name) (map (output_at path conds u) os)))
          → StaysKnown (option_and_then (λ p. p.value) (cond t (Some (output_at path conds s o)) (find (λ p. bytes_eq name p.name) (map (output_at path conds s) os))))
          (option_and_then (λ p. p.value) (cond t (Some (output_at path conds u o)) (find (λ p. bytes_eq name p.name) (map (output_at path conds u) os))))
      either true ih = text_kept (text_in s o.value) (text_in u o.value) (text_stands source a b more s u k o.value)
      either false ih = ih

  outputs_kept : (name : List ℕ) (g : Given) (x : Body)
      → StaysKnown (option_and_then (λ o. o.value) (find (λ o. bytes_eq name o.name) (outputs_in source a g x))) (option_and_then (λ o. o.value) (find (λ o. bytes_eq name o.name) (outputs_in source b g x)))
  outputs_kept name g (barred f) = tt
  outputs_kept name g (halted t f) = tt
  outputs_kept name g (opened t conds w) =
      output_named (scope_after source a g t conds w) (scope_after source b g t conds w)
      (scope_knows source a b more t conds g g (given_self g) _ _ (after_keeps source a b more t conds g g (given_self g) (first_sights t conds a (own_ids w)) (first_sights t conds b (own_ids w)) (first_keep source a b more t conds (own_ids w)) w))
      t.path conds name (filter (is_output_made conds) t.template.outputs)

pub known_kept : KnownStays
known_kept source shape a b more = record {
  props = λ path. found_kept source a b more path _ _ (body_kept source a b more (given_root source) (given_root source) (given_self (given_root source)) shape);
  outputs = λ name. outputs_kept source a b more name (given_root source) shape;
}
