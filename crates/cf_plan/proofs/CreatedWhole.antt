-- What a whole map has at a path is what its plan has there.
use Rattle.std.proofs.Common.{◌≡◌, ℕ, List, [], ◌∷◌, Bool, true, false, ◌&&◌, Option, Some, None, refl, sym, ap, ◌∙◌, map, find, option_map}
use Rattle.std.specs.Prelude.{cond, is_some}
use Rattle.std.specs.List.{list_all}
use Rattle.std.specs.Option.{option_and_then, option_map_or}
use Rattle.std.specs.Str.{bytes_eq}
use Rattle.cf_tree.specs.Datum.{Data}
use Rattle.cf_tree.specs.Keys.{value_at}
use Rattle.cf_effect.specs.declared.held.Held.{Held}
use Rattle.cf_effect.specs.End.{is_right_at}
use Rattle.cf_desired.specs.declared.wanted.Wanted.{Wanted}
use Rattle.cf_desired.specs.Seeing.{SeenAt}
use Rattle.cf_desired.specs.Seeing.{Seen}
use Rattle.cf_desired.specs.Whole.{Right, is_wanted_at, known_of, right_of}
use Rattle.cf_desired.proofs.Planned.{is_seen_at}
use Rattle.cf_tree.specs.Lists.{there}
use Rattle.cf_tree.specs.Lists.{here}
use Rattle.cf_tree.specs.Lists.{In}
use Rattle.cf_effect.proofs.Shown.{shown}

abbrev pub right_with : Wanted → List (List ℕ × Data) → Right
right_with w props = record { path = w.path; kind = w.kind; deletion = w.deletion; replace = w.replace; needs = w.needs; props = props }

seen_of : (o : Option SeenAt) (h : Held) → o ≡ Some (shown h) → (is_some (option_and_then (λ s. s.physical) o) && is_some (option_and_then (λ s. s.attrs) o)) ≡ true
seen_of o h e = ap (λ x. is_some (option_and_then (λ s. s.physical) x) && is_some (option_and_then (λ s. s.attrs) x)) e

pub all_seen :
    (seen : Seen) (ws : List Wanted) → ((p : List ℕ) → In p (map (λ w. w.path) ws) → (r : Held) × (value_at p seen ≡ Some (shown r)))
    → list_all (is_seen_at seen) ws ≡ true
all_seen seen [] h = refl
all_seen seen (w ∷ ws) h =
    let first = h w.path here in
    ap (λ b. b && list_all (is_seen_at seen) ws) (seen_of (value_at w.path seen) first.0 first.1) ∙ all_seen seen ws (λ p i. h p (there i))

right_path : (w : Wanted) (r : Right) → right_of w ≡ Some r → r.path ≡ w.path
right_path w r e = ap (λ o. option_map_or (λ x. x.path) o w.path) (sym e) ∙ by_props (known_of w.props) where
  by_props : (o : Option (List (List ℕ × Data))) → option_map_or (λ x. x.path) (option_map (right_with w) o) w.path ≡ w.path
  by_props None = refl
  by_props (Some ps) = refl

-- rights and what they are of are found alike
pub rights_at :
    (path : List ℕ) (rs : List Right) (ws : List Wanted) → map (λ r. Some r) rs ≡ map right_of ws
    → find (is_right_at path) rs ≡ option_and_then right_of (find (is_wanted_at path) ws)
rights_at path [] [] e = refl
rights_at path [] (w ∷ ws) e = let no : ⊥ = cc in absurd no
rights_at path (r ∷ rs) [] e = let no : ⊥ = cc in absurd no
rights_at path (r ∷ rs) (w ∷ ws) e =
    let head : right_of w ≡ Some r = cc in
    let rest : map (λ x. Some x) rs ≡ map right_of ws = cc in
    ap (λ p. cond (bytes_eq path p) (Some r) (find (is_right_at path) rs)) (right_path w r head)
    ∙ either head (rights_at path rs ws rest) (bytes_eq path w.path) where
      either :
          right_of w ≡ Some r → find (is_right_at path) rs ≡ option_and_then right_of (find (is_wanted_at path) ws) → (b : Bool)
          → cond b (Some r) (find (is_right_at path) rs) ≡ option_and_then right_of (cond b (Some w) (find (is_wanted_at path) ws))
      either h ih true = sym h
      either h ih false = ih

pub found_before : {A B : Type 0} (f : A → Option B) (o : Option A) (b : B) → option_and_then f o ≡ Some b → (a : A) × (o ≡ Some a)
found_before f None b h = let no : ⊥ = cc in absurd no
found_before f (Some a) b h = (a, refl)
