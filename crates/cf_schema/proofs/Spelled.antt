-- A text against one that is put together from a front and a rest.
use Rattle.std.proofs.Common.{◌≡◌, ℕ, List, [], ◌∷◌, ◌++◌, length, take, drop, Bool, true, false, ◌&&◌, nat_eq, refl, sym, true≢false}
use Rattle.std.specs.Str.{bytes_eq}
use Rattle.std.specs.Cmp.{first_so, second_so}

pub spelled_on : (front text rest : List ℕ) → bytes_eq (take (length front) text) front ≡ true → bytes_eq text (front ++ rest) ≡ bytes_eq (drop (length front) text) rest
spelled_on [] text rest h = refl
spelled_on (b ∷ bs) [] rest h = absurd (true≢false (sym h))
spelled_on (b ∷ bs) (t ∷ ts) rest h = rw (first_so (nat_eq t b) (bytes_eq (take (length bs) ts) bs) h) (spelled_on bs ts rest (second_so (nat_eq t b) _ h))

other : (t b : ℕ) (x y : Bool) → (nat_eq t b && x) ≡ false → (x ≡ false → y ≡ false) → (nat_eq t b && y) ≡ false
other t b x y h k = elim (nat_eq t b) as (λ e. (e && x) ≡ false → (e && y) ≡ false) [ true ↦ k | false ↦ λ _. refl ] h

pub spelled_otherwise : (front text rest : List ℕ) → bytes_eq (take (length front) text) front ≡ false → bytes_eq text (front ++ rest) ≡ false
spelled_otherwise [] text rest h = absurd (true≢false h)
spelled_otherwise (b ∷ bs) [] rest h = refl
spelled_otherwise (b ∷ bs) (t ∷ ts) rest h = other t b _ _ h (spelled_otherwise bs ts rest)
