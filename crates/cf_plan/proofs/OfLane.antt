-- An id that begins with a lane's name and a colon, tested byte by byte.
use Rattle.std.proofs.Common.{◌≡◌, ◌↔◌, ℕ, ◌==◌, true, List, [], ◌∷◌, ◌++◌, refl, ap, sym, ◌∙◌, true≢false}
use Rattle.std.proofs.lemmas.Bool.{eqb-true, eq-eqb}
use Rattle.cf_handler.specs.Move.{IsOfLane}
use Rattle.std.specs.Cmp.{first_so, second_so}
use Rattle.cf_plan.specs.Homes.{is_of_lane}

named : (lane id : List ℕ) → is_of_lane lane id ≡ true → IsOfLane lane id
named [] [] e = absurd (true≢false (sym e))
named [] (c ∷ cs) e = (cs, ap (λ (d : ℕ). d ∷ cs) (eqb-true c 58 e))
named (n ∷ ns) [] e = absurd (true≢false (sym e))
named (n ∷ ns) (c ∷ cs) e =
    let rest : IsOfLane ns cs = named ns cs (second_so (n == c) (is_of_lane ns cs) e) in
    let same : n ≡ c = eqb-true n c (first_so (n == c) (is_of_lane ns cs) e) in
    (rest.0, ap (λ (m : ℕ). m ∷ cs) (sym same) ∙ ap (λ (ds : List ℕ). n ∷ ds) rest.1)

begins : (lane rest : List ℕ) → is_of_lane lane (lane ++ 58 ∷ rest) ≡ true
begins [] rest = refl
begins (n ∷ ns) rest = rw (eq-eqb n n refl) (begins ns rest)

pub of_lane_is : (lane id : List ℕ) → is_of_lane lane id ≡ true ↔ IsOfLane lane id
of_lane_is lane id = (named lane id, λ (rest, e). ap (is_of_lane lane) e ∙ begins lane rest)
