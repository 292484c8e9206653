-- What a plan finds at a path.
use Rattle.std.proofs.Common.{◌≡◌, ◌↔◌, ℕ, Bool, ◌&&◌, List, [], IsTrue, ap, sym, ◌∙◌}
use Rattle.std.specs.Cmp.{first_so, second_so}
use Rattle.std.specs.Str.{bytes_eq}
use Rattle.std.proofs.lemmas.Bool.{and_from}
use Rattle.std.proofs.lemmas.Slice.Eq.{bytes_eq-Decides}
use Rattle.cf_tree.specs.Datum.{Data, members_of}
use Rattle.cf_tree.specs.Same.{same_members}
use Rattle.cf_schema.proofs.Equal.{same_equal, equal_same}
use Rattle.cf_plan.specs.Forward.{Finding, Known}

pub kind_found : Finding → List ℕ
kind_found (Known kind props) = kind
kind_found _ = []

pub props_found : Finding → List (List ℕ × Data)
props_found (Known kind props) = props
props_found _ = []

-- what is found is this type with these properties just where both are the same
pub known_has :
    (f : Finding) (k kind : List ℕ) (wanted props : List (List ℕ × Data)) (b : Bool) → Known k wanted ≡ f
    → b ≡ (bytes_eq k kind && same_members (members_of wanted) (members_of props)) → IsTrue b ↔ (f ≡ Known kind props)
unfolding kind_found props_found
known_has f k kind wanted props b e s = (
  λ t.
      let both = sym s ∙ t in
      let kinds : k ≡ kind = (bytes_eq-Decides k kind).0 (first_so (bytes_eq k kind) (same_members (members_of wanted) (members_of props)) both) in
      let same : wanted ≡ props = same_equal wanted props (second_so (bytes_eq k kind) (same_members (members_of wanted) (members_of props)) both) in
      sym e ∙ ap (λ (n : List ℕ). Known n wanted) kinds ∙ ap (Known kind) same,
  λ h.
      s
      ∙ and_from (bytes_eq k kind) (same_members (members_of wanted) (members_of props)) ((bytes_eq-Decides k kind).1 (ap kind_found (e ∙ h)))
      (equal_same wanted props (ap props_found (e ∙ h))),
)
