-- Reading members one after the other, as a loop does.
use Rattle.std.proofs.Common.{◌≡◌, ℕ, suc, ◌-◌, ◌+◌, ◌≤◌, ◌<◌, List, [], ◌∷◌, ◌++◌, Option, Some, None, refl, sym, ap, ◌∙◌, append_assoc, arith}
use Rattle.std.proofs.lemmas.List.{append-nil}
use Rattle.cf_entry.specs.declared.unread.Unread.{Unread}
use Rattle.cf_entry.specs.declared.unread.Unread.TheVariants as unread
use Rattle.cf_entry.specs.Reading.{◌>>=◌, Fails, many_at}

module _ {X : Type 0} where
  -- what was read before, and what is still read
  abbrev pub with_front : List X → Option (List X × List ℕ) → Option (List X × List ℕ)
  with_front front read = read >>= λ x. Some (front ++ x.0, x.1)

  regroup : (front : List X) (n : X) (read : Option (List X × List ℕ)) → with_front front (read >>= λ x. Some (n ∷ x.0, x.1)) ≡ with_front (front ++ n ∷ []) read
  regroup front n (Some x) = ap (λ (ns : List X). Some (ns, x.1)) (simp append_assoc)
  regroup front n None = refl

module _ {X : Type 0} (one : List ℕ → Option (X × List ℕ)) where
  alone : (read : Option (List X × List ℕ)) → with_front [] read ≡ read
  alone (Some x) = refl
  alone None = refl

  pub begins : (n : ℕ) (bytes : List ℕ) (front : List X) → front ≡ [] → with_front front (many_at one (n - 0) bytes) ≡ many_at one n bytes
  begins n bytes front e =
      let k : n - 0 ≡ n = omega arith in
      rw (e, k) (alone (many_at one n bytes))

  pub goes_on : (front : List X) (count i : ℕ) (bytes : List ℕ) (n : X) (after : List ℕ) (total : Option (List X × List ℕ)) → i < count → one bytes ≡ Some (n, after)
      → with_front front (many_at one (count - i) bytes) ≡ total → with_front (front ++ n ∷ []) (many_at one (count - (i + 1)) after) ≡ total
  unfolding many_at
  goes_on front count i bytes n after total lt h so_far =
      let k : count - i ≡ suc (count - (i + 1)) = omega arith in
      let step : with_front front (many_at one (count - i) bytes) ≡ with_front (front ++ n ∷ []) (many_at one (count - (i + 1)) after) = rw (k, h) (regroup front n (many_at one (count - (i + 1)) after)) in
      sym step ∙ so_far

  pub ends : (e : Unread) (front : List X) (count i : ℕ) (bytes : List ℕ) (total : Option (List X × List ℕ)) → i < count → Fails e (one bytes)
      → with_front front (many_at one (count - i) bytes) ≡ total → Fails e total
  unfolding many_at
  ends unread.NoMemory front count i bytes total lt h so_far = tt
  ends unread.NoEntry front count i bytes total lt h so_far =
      let k : count - i ≡ suc (count - (i + 1)) = omega arith in
      let step : with_front front (many_at one (count - i) bytes) ≡ None = rw (k, h) refl in
      sym so_far ∙ step

  pub is_done : (front : List X) (count i : ℕ) (bytes : List ℕ) (total : Option (List X × List ℕ)) → count ≤ i → with_front front (many_at one (count - i) bytes) ≡ total → total ≡ Some (front, bytes)
  unfolding many_at
  is_done front count i bytes total le so_far =
      let k : count - i ≡ 0 = omega arith in
      let step : with_front front (many_at one (count - i) bytes) ≡ Some (front, bytes) = rw k (ap (λ (ns : List X). Some (ns, bytes)) (append-nil front)) in
      sym so_far ∙ step
