-- A place where no dynamic reference opens is passed.
use Rattle.std.proofs.Common.{◌≡◌, ℕ, zero, suc, ◌+◌, ◌<◌, List, [], ◌∷◌, length, drop, take, ◌-◌, ◌∙◌, sym, true, false, ◌||◌, ap, arith}
use Rattle.std.proofs.lemmas.List.{take_rest}
use native.Mathlib.Numerals.{unary_clauses}
use Rattle.cf_template.specs.Words.{opens_reference, has_reference}

here : (bs : List ℕ) (i : ℕ) → i < length bs → opens_reference (drop i bs) ≡ true → has_reference (drop i bs) ≡ true
here [] i n h = grind arith
here (b ∷ bs) zero n h = ap (λ o. o || has_reference bs) h
here (b ∷ bs) (suc i) n h = here bs i (omega (arith, n)) h

step : (bs : List ℕ) (i : ℕ) → i < length bs → opens_reference (drop i bs) ≡ false → has_reference (drop i bs) ≡ has_reference (drop (suc i) bs)
step [] i n h = grind arith
step (b ∷ bs) zero n h = ap (λ o. o || has_reference bs) h
step (b ∷ bs) (suc i) n h = step bs i (omega (arith, n)) h

pub passed : (bs : List ℕ) (i : ℕ) → i < length bs → opens_reference (take (length bs - i) (drop i bs)) ≡ false → has_reference (drop i bs) ≡ has_reference (drop (i + 1) bs)
passed bs i n h = simp unary_clauses (step bs i n (ap opens_reference (sym (take_rest bs i)) ∙ h))

pub opened : (bs : List ℕ) (i : ℕ) → i < length bs → opens_reference (take (length bs - i) (drop i bs)) ≡ true → has_reference (drop i bs) ≡ true
opened bs i n h = here bs i n (ap opens_reference (sym (take_rest bs i)) ∙ h)
