-- Properties pass the test exactly if they are equal.
use Rattle.std.proofs.Common.{◌≡◌, ℕ, List, [], ◌∷◌, true, refl, ap, sym, ◌∙◌}
use Rattle.cf_tree.specs.Datum.{Data, Members, dict, no_members, member, members_of}
use Rattle.cf_tree.specs.Same.{same_members}
use Rattle.cf_tree.specs.SameLaws.{same_decides}

pairs_from : Members → List (List ℕ × Data)
pairs_from no_members = []
pairs_from (member k d ms) = (k, d) ∷ pairs_from ms

members_from : Data → Members
members_from (dict ms) = ms
members_from d = no_members

pairs_back : (ps : List (List ℕ × Data)) → pairs_from (members_of ps) ≡ ps
unfolding pairs_from
pairs_back [] = refl
pairs_back (p ∷ ps) = ap (λ qs. p ∷ qs) (pairs_back ps)

-- the test holds exactly of equal properties
pub same_equal : (ps qs : List (List ℕ × Data)) → same_members (members_of ps) (members_of qs) ≡ true → ps ≡ qs
unfolding members_from
same_equal ps qs h = sym (pairs_back ps) ∙ ap (λ d. pairs_from (members_from d)) ((same_decides (dict (members_of ps)) (dict (members_of qs))).0 h) ∙ pairs_back qs

pub equal_same : (ps qs : List (List ℕ × Data)) → ps ≡ qs → same_members (members_of ps) (members_of qs) ≡ true
equal_same ps qs e = (same_decides (dict (members_of ps)) (dict (members_of qs))).1 (ap (λ rs. dict (members_of rs)) e)
