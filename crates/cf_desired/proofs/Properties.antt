-- Properties in the order in which the code takes them.
use Rattle.std.proofs.Common.{◌≡◌, ℕ, List, [], ◌∷◌, ◌++◌, Option, Some, None, Ok, Err, refl, ap, sym, ◌∙◌, append_assoc, append-nil}
use Rattle.cf_tree.specs.Datum.{Data}
use Rattle.cf_tree.specs.Forms.{Form}
use Rattle.cf_eval.specs.Outcome.{got, later, bad}
use Rattle.cf_eval.specs.Scope.{Scope}
use Rattle.cf_eval.specs.Texts.{Found}
use Rattle.cf_eval.specs.Value.{PropsFound, props_of, value_of, with_prop}

-- what comes next, after what is known so far
abbrev pub next_prop : List (List ℕ × Option Data) → List ℕ → Found → (List (List ℕ × Option Data) → PropsFound) → PropsFound
next_prop so_far name (bad stop) rest = Err stop
next_prop so_far name (got None) rest = rest so_far
next_prop so_far name (got (Some d)) rest = rest (so_far ++ (name, Some d) ∷ [])
next_prop so_far name later rest = rest (so_far ++ (name, None) ∷ [])

abbrev pub props_after : Scope → List (List ℕ × Form) → List (List ℕ × Option Data) → PropsFound
props_after s [] so_far = Ok so_far
props_after s (p ∷ ps) so_far = next_prop so_far p.0 (value_of s p.1) (λ known. props_after s ps known)

behind : List (List ℕ × Option Data) → PropsFound → PropsFound
behind so_far (Ok ps) = Ok (so_far ++ ps)
behind so_far (Err f) = Err f

one_more : (so_far : List (List ℕ × Option Data)) (name : List ℕ) (d : Data) (ps : PropsFound)
    → behind so_far (with_prop name (got (Some d)) ps) ≡ behind (so_far ++ (name, Some d) ∷ []) ps
unfolding behind
one_more so_far name d (Ok ps) = ap (λ qs. Ok qs) (sym (append_assoc so_far ((name, Some d) ∷ []) ps))
one_more so_far name d (Err f) = refl

one_later : (so_far : List (List ℕ × Option Data)) (name : List ℕ) (ps : PropsFound)
    → behind so_far (with_prop name later ps) ≡ behind (so_far ++ (name, None) ∷ []) ps
unfolding behind
one_later so_far name (Ok ps) = ap (λ qs. Ok qs) (sym (append_assoc so_far ((name, None) ∷ []) ps))
one_later so_far name (Err f) = refl

one_less : (so_far : List (List ℕ × Option Data)) (name : List ℕ) (ps : PropsFound)
    → behind so_far (with_prop name (got None) ps) ≡ behind so_far ps
unfolding behind
one_less so_far name (Ok ps) = refl
one_less so_far name (Err f) = refl

step_is : (so_far : List (List ℕ × Option Data)) (name : List ℕ) (found : Found) (ps : PropsFound) (rest : List (List ℕ × Option Data) → PropsFound)
    → ((known : List (List ℕ × Option Data)) → behind known ps ≡ rest known) → behind so_far (with_prop name found ps) ≡ next_prop so_far name found rest
unfolding behind
step_is so_far name (bad stop) ps rest h = refl
step_is so_far name (got None) ps rest h = one_less so_far name ps ∙ h so_far
step_is so_far name (got (Some d)) ps rest h = one_more so_far name d ps ∙ h (so_far ++ (name, Some d) ∷ [])
step_is so_far name later ps rest h = one_later so_far name ps ∙ h (so_far ++ (name, None) ∷ [])

behind_is : (s : Scope) (ps : List (List ℕ × Form)) (so_far : List (List ℕ × Option Data)) → behind so_far (props_of s ps) ≡ props_after s ps so_far
unfolding behind
behind_is s [] so_far = ap (λ qs. Ok qs) (append-nil so_far)
behind_is s (p ∷ ps) so_far = step_is so_far p.0 (value_of s p.1) (props_of s ps) (λ known. props_after s ps known) (λ known. behind_is s ps known)

from_start : (ps : PropsFound) → ps ≡ behind [] ps
unfolding behind
from_start (Ok ps) = refl
from_start (Err f) = refl

pub props_in_order : (s : Scope) (ps : List (List ℕ × Form)) → props_of s ps ≡ props_after s ps []
props_in_order s ps = from_start (props_of s ps) ∙ behind_is s ps []
