-- What ends otherwise is not the same.
use Rattle.std.proofs.Common.{◌-◌, ◌≡◌, ℕ, ◌==◌, Bool, true, false, List, Option, Some, length, refl, sym, ◌∙◌, ap, true≢false}
use Rattle.std.specs.List.{slice_get}
use Rattle.std.specs.Str.{bytes_eq}
use Rattle.std.proofs.lemmas.Bool.{eq-eqb}
use Rattle.std.proofs.lemmas.Option.{same_Some}
use Rattle.std.proofs.lemmas.Slice.Eq.{bytes_eq-Decides}

pub ends_apart : (a b : List ℕ) (alike : Bool) → (a ≡ b → alike ≡ true) → alike ≡ false → false ≡ bytes_eq a b
ends_apart a b alike h e = by (bytes_eq a b) refl where
  by : (c : Bool) → bytes_eq a b ≡ c → false ≡ c
  by false g = refl
  by true g = absurd (true≢false (sym (h ((bytes_eq-Decides a b).0 g)) ∙ e))

pub ends_same : (xs ys : List ℕ) (x y : ℕ) → slice_get xs (length xs - 1) ≡ Some x → slice_get ys (length ys - 1) ≡ Some y → xs ≡ ys → (x == y) ≡ true
ends_same xs ys x y h g e = eq-eqb x y (same_Some x y (sym h ∙ ap (λ zs. slice_get zs (length zs - 1)) e ∙ g))
