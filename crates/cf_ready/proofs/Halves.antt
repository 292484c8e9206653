-- A change of one flag, and the next that is set, seen in the halves.
use Rattle.std.proofs.Common.{◌≡◌, ℕ, zero, suc, ◌+◌, ◌-◌, ◌*◌, ◌/◌, ◌%◌, ◌==◌, ◌<◌, ◌≤◌, Bool, true, false, ◌&&◌, ◌||◌, List, [], ◌∷◌, length, Option, Some, None, get_or, refl, sym, ◌∙◌, ap, arith, cond, replicate, subst, true≢false}
use Rattle.std.proofs.Math.ListN.{set}
use Rattle.std.specs.Option.{option_map}
use Rattle.std.proofs.lemmas.Option.{none-some, same_Some}
use Rattle.cf_ready.specs.Halved.{first_set, next_set, halved, pair_of, in_pair, IsNextIn}

half_suc : (k : ℕ) → suc (suc k) / 2 ≡ suc (k / 2)
half_suc k = omega arith

even_suc : (k : ℕ) → suc (suc k) % 2 ≡ k % 2
even_suc k = omega arith

twice_suc : (k : ℕ) → 2 * suc k ≡ suc (suc (2 * k))
twice_suc k = omega arith

pair_of-suc : (a b : Bool) (bs : List Bool) (k : ℕ) → pair_of (a ∷ b ∷ bs) (suc k) ≡ pair_of bs k
pair_of-suc a b bs k =
    let one : suc (suc (2 * k)) + 1 ≡ suc (suc (2 * k + 1)) = omega arith in
    rw (twice_suc k, one) refl

false_right : (a : Bool) → (a || false) ≡ a
false_right true = refl
false_right false = refl

pub halved_set : (bs : List Bool) (i : ℕ) (v : Bool) → i < length bs → halved (set bs i v) ≡ set (halved bs) (i / 2) (pair_of (set bs i v) (i / 2))
halved_set [] i v h = absurd (omega arith)
halved_set (a ∷ []) zero v h = sym (ap (λ x. x ∷ []) (false_right v))
halved_set (a ∷ []) (suc i) v h = absurd (omega arith)
halved_set (a ∷ b ∷ bs) zero v h = refl
halved_set (a ∷ b ∷ bs) (suc zero) v h = refl
halved_set (a ∷ b ∷ bs) (suc (suc i)) v h =
    rw (half_suc i, pair_of-suc a b (set bs i v) (i / 2)) (ap (λ x. (a || b) ∷ x) (halved_set bs i v (omega arith)))

-- an index and a length as the halves have them
pub half_lt : (bs : List Bool) (i : ℕ) → i < length bs → i / 2 < length (halved bs)
half_lt [] i h = absurd (omega arith)
half_lt (a ∷ []) i h = omega arith
half_lt (a ∷ b ∷ bs) zero h = omega arith
half_lt (a ∷ b ∷ bs) (suc zero) h = omega arith
half_lt (a ∷ b ∷ bs) (suc (suc i)) h = let e = half_suc i in let w : i / 2 < length (halved bs) = half_lt bs i (omega arith) in omega (arith, e, w)

pub halved_none : (n : ℕ) → halved (replicate n false) ≡ replicate (n - n / 2) false
halved_none zero = refl
halved_none (suc zero) = refl
halved_none (suc (suc n)) = let e : suc (suc n) - suc (suc n) / 2 ≡ suc (n - n / 2) = omega arith in rw e (ap (λ x. false ∷ x) (halved_none n))

-- one more before all
pub shifted_none : (o : Option ℕ) → option_map suc o ≡ None → o ≡ None
shifted_none None e = refl
shifted_none (Some k) e = absurd (none-some (suc k) (sym e))

pub shifted_some : (o : Option ℕ) (h : ℕ) → option_map suc o ≡ Some h → (k : ℕ) × (o ≡ Some k) × (h ≡ suc k)
shifted_some None h e = absurd (none-some h e)
shifted_some (Some k) h e = (k, refl, sym (same_Some (suc k) h e))

pub next_first : (bs : List Bool) → next_set bs 0 ≡ first_set bs
next_first [] = refl
next_first (b ∷ bs) = refl

pub next_past : (bs : List Bool) (at : ℕ) → length bs ≤ at → next_set bs at ≡ None
next_past [] at h = refl
next_past (b ∷ bs) zero h = absurd (omega (arith, h))
next_past (b ∷ bs) (suc at) h = ap (option_map suc) (next_past bs at (omega (arith, h)))

-- of two neighbours more before all
two_more : (x : Bool) (k : ℕ) → option_map suc (option_map suc (cond x (Some (2 * k)) (Some (2 * k + 1)))) ≡ cond x (Some (2 * suc k)) (Some (2 * suc k + 1))
two_more true k = ap Some (sym (twice_suc k))
two_more false k = ap Some (let e : suc (suc (2 * k + 1)) ≡ 2 * suc k + 1 = omega arith in e)

more : (a b : Bool) (bs : List Bool) (at at' h : ℕ) → IsNextIn bs at h → next_set (a ∷ b ∷ bs) at' ≡ option_map suc (option_map suc (next_set bs at)) → IsNextIn (a ∷ b ∷ bs) at' (suc h)
more a b bs at at' h f e =
    let two : 2 * suc h ≡ suc (suc (2 * h)) = twice_suc h in
    let three : 2 * suc h + 1 ≡ suc (suc (2 * h + 1)) = omega arith in
    let within : 2 * h < length bs = f.within in
    let seen : get_or (a ∷ b ∷ bs) (2 * suc h) false ≡ get_or bs (2 * h) false = rw two refl in
    record {
      within = omega (arith, within);
      other = λ t. let w : 2 * h + 1 < length bs = f.other (sym seen ∙ t) in omega (arith, w);
      next = e ∙ ap (λ o. option_map suc (option_map suc o)) f.next ∙ two_more (get_or bs (2 * h) false) h ∙ ap (λ x. cond x (Some (2 * suc h)) (Some (2 * suc h + 1))) (sym seen);
    }

first_none : (bs : List Bool) → first_set (halved bs) ≡ None → first_set bs ≡ None
first_none [] e = refl
first_none (a ∷ []) e = e
first_none (true ∷ b ∷ bs) e = absurd (none-some 0 (sym e))
first_none (false ∷ true ∷ bs) e = absurd (none-some 0 (sym e))
first_none (false ∷ false ∷ bs) e = ap (λ o. option_map suc (option_map suc o)) (first_none bs (shifted_none (first_set (halved bs)) e))

first_some : (bs : List Bool) (h : ℕ) → first_set (halved bs) ≡ Some h → IsNextIn bs 0 h
first_some [] h e = absurd (none-some h e)
first_some (true ∷ []) h e = let z : 0 ≡ h = same_Some 0 h e in subst (IsNextIn (true ∷ []) 0) z (record { within = omega arith; other = λ q. absurd (true≢false q); next = refl })
first_some (false ∷ []) h e = absurd (none-some h e)
first_some (true ∷ b ∷ bs) h e = let z : 0 ≡ h = same_Some 0 h e in subst (IsNextIn (true ∷ b ∷ bs) 0) z (record { within = omega arith; other = λ q. absurd (true≢false q); next = refl })
first_some (false ∷ true ∷ bs) h e = let z : 0 ≡ h = same_Some 0 h e in subst (IsNextIn (false ∷ true ∷ bs) 0) z (record { within = omega arith; other = λ q. omega arith; next = refl })
first_some (false ∷ false ∷ bs) h e =
    let m = shifted_some (first_set (halved bs)) h e in
    subst (IsNextIn (false ∷ false ∷ bs) 0) (sym m.2)
    (more false false bs 0 0 m.0 (first_some bs m.0 m.1) (ap (λ o. option_map suc (option_map suc o)) (sym (next_first bs))))

-- one is found in the pair
none_pair : (a b : Bool) (bs : List Bool) (at : ℕ) → in_pair (a ∷ b ∷ bs) (suc (suc at)) ≡ option_map suc (option_map suc (in_pair bs at))
none_pair a b bs at =
    let three : suc (suc at) + 1 ≡ suc (suc (at + 1)) = omega arith in
    rw (even_suc at, three) (by (get_or bs at false) (at % 2 == 0) (get_or bs (at + 1) false))
  where
    by : (x y z : Bool) → cond x (Some (suc (suc at))) (cond (y && z) (Some (suc (suc (at + 1)))) None)
        ≡ option_map suc (option_map suc (cond x (Some at) (cond (y && z) (Some (at + 1)) None)))
    by true y z = refl
    by false true true = refl
    by false true false = refl
    by false false z = refl

past_flag : (bs : List Bool) (i : ℕ) → length bs ≤ i → get_or bs i false ≡ false
past_flag [] i h = refl
past_flag (b ∷ bs) zero h = absurd (omega (arith, h))
past_flag (b ∷ bs) (suc i) h = past_flag bs i (omega (arith, h))

past_pair : (bs : List Bool) (at : ℕ) → length bs ≤ at → in_pair bs at ≡ None
past_pair bs at h = rw (past_flag bs at h, past_flag bs (at + 1) (omega (arith, h))) (nothing (at % 2 == 0)) where
  nothing : (x : Bool) → cond (x && false) (Some (at + 1)) None ≡ None
  nothing true = refl
  nothing false = refl

pub next_paired : (bs : List Bool) (at k : ℕ) → in_pair bs at ≡ Some k → next_set bs at ≡ Some k
next_paired [] at k e = absurd (none-some k (sym (past_pair [] at (omega arith)) ∙ e))
next_paired (true ∷ []) zero k e = e
next_paired (false ∷ []) zero k e = absurd (none-some k e)
next_paired (a ∷ []) (suc at) k e = absurd (none-some k (sym (past_pair (a ∷ []) (suc at) (omega arith)) ∙ e))
next_paired (true ∷ b ∷ bs) zero k e = e
next_paired (false ∷ true ∷ bs) zero k e = e
next_paired (false ∷ false ∷ bs) zero k e = absurd (none-some k e)
next_paired (a ∷ true ∷ bs) (suc zero) k e = e
next_paired (a ∷ false ∷ bs) (suc zero) k e = absurd (none-some k e)
next_paired (a ∷ b ∷ bs) (suc (suc at)) k e =
    let m = shifted_some (option_map suc (in_pair bs at)) k (sym (none_pair a b bs at) ∙ e) in
    let n = shifted_some (in_pair bs at) m.0 m.1 in
    ap (λ o. option_map suc (option_map suc o)) (next_paired bs at n.0 n.1) ∙ ap Some (ap suc (sym n.2) ∙ sym m.2)

pub next_at_top : (bs : List Bool) (at : ℕ) → length bs ≤ 1 → in_pair bs at ≡ None → next_set bs at ≡ None
next_at_top [] at h e = refl
next_at_top (true ∷ []) zero h e = absurd (none-some 0 (sym e))
next_at_top (false ∷ []) zero h e = refl
next_at_top (a ∷ []) (suc at) h e = refl
next_at_top (a ∷ b ∷ bs) at h e = absurd (omega (arith, h))

-- none is found in the pair: the next is found in the halves
pub next_none : (bs : List Bool) (at : ℕ) → in_pair bs at ≡ None → next_set (halved bs) (at / 2 + 1) ≡ None → next_set bs at ≡ None
next_none [] at e g = refl
next_none (true ∷ []) zero e g = absurd (none-some 0 (sym e))
next_none (false ∷ []) zero e g = refl
next_none (a ∷ []) (suc at) e g = refl
next_none (true ∷ b ∷ bs) zero e g = absurd (none-some 0 (sym e))
next_none (false ∷ true ∷ bs) zero e g = absurd (none-some 1 (sym e))
next_none (false ∷ false ∷ bs) zero e g =
    ap (λ o. option_map suc (option_map suc o)) (first_none bs (sym (next_first (halved bs)) ∙ shifted_none (next_set (halved bs) 0) g))
next_none (a ∷ true ∷ bs) (suc zero) e g = absurd (none-some 1 (sym e))
next_none (a ∷ false ∷ bs) (suc zero) e g =
    ap (λ o. option_map suc (option_map suc o)) (first_none bs (sym (next_first (halved bs)) ∙ shifted_none (next_set (halved bs) 0) g))
next_none (a ∷ b ∷ bs) (suc (suc at)) e g =
    let inner : in_pair bs at ≡ None = shifted_none (in_pair bs at) (shifted_none (option_map suc (in_pair bs at)) (sym (none_pair a b bs at) ∙ e)) in
    let n : suc (suc at) / 2 + 1 ≡ suc (at / 2 + 1) = omega arith in
    ap (λ o. option_map suc (option_map suc o))
    (next_none bs at inner (shifted_none (next_set (halved bs) (at / 2 + 1)) (ap (next_set ((a || b) ∷ halved bs)) (sym n) ∙ g)))

after_first : (a b : Bool) (bs : List Bool) (at h : ℕ) → next_set (a ∷ b ∷ bs) at ≡ option_map suc (option_map suc (next_set bs 0)) → option_map suc (next_set (halved bs) 0) ≡ Some h
    → IsNextIn (a ∷ b ∷ bs) at h
after_first a b bs at h e g =
    let m = shifted_some (next_set (halved bs) 0) h g in
    subst (IsNextIn (a ∷ b ∷ bs) at) (sym m.2) (more a b bs 0 at m.0 (first_some bs m.0 (sym (next_first (halved bs)) ∙ m.1)) e)

pub next_some : (bs : List Bool) (at h : ℕ) → in_pair bs at ≡ None → next_set (halved bs) (at / 2 + 1) ≡ Some h → IsNextIn bs at h
next_some [] at h e g = absurd (none-some h g)
next_some (a ∷ []) at h e g = absurd (none-some h (sym (ap (next_set (a ∷ [])) (let n : at / 2 + 1 ≡ suc (at / 2) = omega arith in n)) ∙ g))
next_some (true ∷ b ∷ bs) zero h e g = absurd (none-some 0 (sym e))
next_some (false ∷ true ∷ bs) zero h e g = absurd (none-some 1 (sym e))
next_some (false ∷ false ∷ bs) zero h e g = after_first false false bs 0 h (ap (λ o. option_map suc (option_map suc o)) (sym (next_first bs))) g
next_some (a ∷ true ∷ bs) (suc zero) h e g = absurd (none-some 1 (sym e))
next_some (a ∷ false ∷ bs) (suc zero) h e g = after_first a false bs 1 h (ap (λ o. option_map suc (option_map suc o)) (sym (next_first bs))) g
next_some (a ∷ b ∷ bs) (suc (suc at)) h e g =
    let inner : in_pair bs at ≡ None = shifted_none (in_pair bs at) (shifted_none (option_map suc (in_pair bs at)) (sym (none_pair a b bs at) ∙ e)) in
    let n : suc (suc at) / 2 + 1 ≡ suc (at / 2 + 1) = omega arith in
    let m = shifted_some (next_set (halved bs) (at / 2 + 1)) h (ap (next_set ((a || b) ∷ halved bs)) (sym n) ∙ g) in
    subst (IsNextIn (a ∷ b ∷ bs) (suc (suc at))) (sym m.2) (more a b bs at (suc (suc at)) m.0 (next_some bs at m.0 inner m.1) refl)
