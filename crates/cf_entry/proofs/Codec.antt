-- A reader and a spelling that fit: what is read is spelled so, and what is spelled is read again.
use Rattle.std.proofs.Common.{◌≡◌, ℕ, suc, ◌+◌, ◌<◌, Bool, true, false, cond, List, ◌∷◌, ◌++◌, get_or, take, drop, Option, Some, None, refl, sym, ap, subst, ◌∙◌, append_assoc, arith, ◌⊎◌, inl, inr}
use Rattle.std.proofs.lemmas.Bool.{cases_lt}
use Rattle.std.proofs.lemmas.List.{length-take, get_or-drop, get_or-take, get_or_past}
use Rattle.cf_entry.specs.Reading.{◌>>=◌, then_at, pick_at}

-- ---- bytes

abbrev pub IsBytes : List ℕ → Type 0
IsBytes bytes = (i : ℕ) → get_or bytes i 0 < 256

pub IsBytes-drop : (n : ℕ) (bytes : List ℕ) → IsBytes bytes → IsBytes (drop n bytes)
IsBytes-drop n bytes h i = rw get_or-drop (h (n + i))

pub IsBytes-take : (n : ℕ) (bytes : List ℕ) → IsBytes bytes → IsBytes (take n bytes)
IsBytes-take n bytes h i =
    elim (cases_lt i n) [
      | inl lt ↦ rw (get_or-take n bytes i 0 lt) (h i)
      | inr le ↦ rw (get_or_past (take n bytes) i 0 (omega (arith, length-take n bytes))) (omega arith)
    ]

pub IsBytes-rest : (b : ℕ) (bytes : List ℕ) → IsBytes (b ∷ bytes) → IsBytes bytes
IsBytes-rest b bytes h i = h (suc i)

-- ---- steps that did not fail

pub some_is : {A : Type 0} (x y : A) → Some x ≡ Some y → x ≡ y
some_is x y e = cc

pub bind_some : {A B : Type 0} (r : Option A) (f : A → Option B) (y : B) → (r >>= f) ≡ Some y → (x : A) × (r ≡ Some x) × (f x ≡ Some y)
bind_some (Some x) f y e = (x, refl, e)
bind_some None f y e = absurd cc

pub if_some : {A : Type 0} (b : Bool) (x y : Option A) (z : A) → cond b x y ≡ Some z → ((b ≡ true) × (x ≡ Some z)) ⊎ ((b ≡ false) × (y ≡ Some z))
if_some true x y z e = inl (refl, e)
if_some false x y z e = inr (refl, e)

pub guard_some : {A : Type 0} (b : Bool) (x z : A) → cond b None (Some x) ≡ Some z → (b ≡ false) × (x ≡ z)
guard_some true x z e = absurd cc
guard_some false x z e = (refl, cc)

pub test_some : {A : Type 0} (b : Bool) (x z : A) → cond b (Some x) None ≡ Some z → (b ≡ true) × (x ≡ z)
test_some true x z e = (refl, cc)
test_some false x z e = absurd cc

pub test_bind : {A : Type 0} (b : Bool) (r : Option A) (z : A) → cond b r None ≡ Some z → (b ≡ true) × (r ≡ Some z)
test_bind true r z e = (refl, e)
test_bind false r z e = absurd cc

-- ---- readers that fit a spelling

-- what a reader took from the front
pub record Taken {X : Type 0} (spell : X → List ℕ) (Is : X → Type 0) (bytes : List ℕ) (x : X) (rest : List ℕ) : Type 0 where
  pub parts : bytes ≡ spell x ++ rest
  pub fits : Is x
  pub left : IsBytes rest

pub record Codes {X : Type 0} (spell : X → List ℕ) (Is : X → Type 0) (one : List ℕ → Option (X × List ℕ)) : Type 0 where
  pub takes : (bytes : List ℕ) (x : X) (rest : List ℕ) → IsBytes bytes → one bytes ≡ Some (x, rest) → Taken spell Is bytes x rest
  pub again : (x : X) (rest : List ℕ) → Is x → one (spell x ++ rest) ≡ Some (x, rest)

module _ {A B : Type 0} (sA : A → List ℕ) (IA : A → Type 0) (oneA : List ℕ → Option (A × List ℕ)) (sB : B → List ℕ) (IB : B → Type 0) (oneB : List ℕ → Option (B × List ℕ)) where
  then_takes : Codes sA IA oneA → Codes sB IB oneB → (bytes : List ℕ) (x : A × B) (rest : List ℕ) → IsBytes bytes → then_at oneA oneB bytes ≡ Some (x, rest) → Taken (λ (p : A × B). sA p.0 ++ sB p.1) (λ p. IA p.0 × IB p.1) bytes x rest
  then_takes c d bytes x rest h e =
      let a = bind_some (oneA bytes) (λ u. oneB u.1 >>= λ v. Some ((u.0, v.0), v.1)) (x, rest) e in
      let b = bind_some (oneB a.0.1) (λ v. Some ((a.0.0, v.0), v.1)) (x, rest) a.2 in
      let t = c.takes bytes a.0.0 a.0.1 h a.1 in
      let s = d.takes a.0.1 b.0.0 b.0.1 t.left b.1 in
      let made : Taken (λ (p : A × B). sA p.0 ++ sB p.1) (λ p. IA p.0 × IB p.1) bytes (a.0.0, b.0.0) b.0.1 = record { parts = t.parts ∙ ap (λ r. sA a.0.0 ++ r) s.parts ∙ sym (append_assoc (sA a.0.0) (sB b.0.0) b.0.1); fits = (t.fits, s.fits); left = s.left } in
      subst (λ (p : (A × B) × List ℕ). Taken (λ (q : A × B). sA q.0 ++ sB q.1) (λ q. IA q.0 × IB q.1) bytes p.0 p.1) (some_is _ (x, rest) b.2) made

  pub codes_then : Codes sA IA oneA → Codes sB IB oneB → Codes (λ (p : A × B). sA p.0 ++ sB p.1) (λ p. IA p.0 × IB p.1) (then_at oneA oneB)
  codes_then c d = record {
    takes = then_takes c d;
    again = λ x rest h. rw (append_assoc (sA x.0) (sB x.1) rest, c.again x.0 (sB x.1 ++ rest) h.0, d.again x.1 rest h.1) refl;
  }

module _ {A B : Type 0} (sA : A → List ℕ) (IA : A → Type 0) (oneA : List ℕ → Option (A × List ℕ)) (f : A → Option B) where
  -- what a reader took, and what became of it
  pub pick_takes : Codes sA IA oneA → (bytes : List ℕ) (x : B) (rest : List ℕ) → IsBytes bytes → pick_at f oneA bytes ≡ Some (x, rest) → (a : A) × Taken sA IA bytes a rest × (f a ≡ Some x)
  pick_takes c bytes x rest h e =
      let a = bind_some (oneA bytes) (λ u. f u.0 >>= λ y. Some (y, u.1)) (x, rest) e in
      let b = bind_some (f a.0.0) (λ y. Some (y, a.0.1)) (x, rest) a.2 in
      let t = c.takes bytes a.0.0 a.0.1 h a.1 in
      let same = some_is (b.0, a.0.1) (x, rest) b.2 in
      let same_rest : a.0.1 ≡ rest = ap (λ (p : B × List ℕ). p.1) same in
      let same_x : b.0 ≡ x = ap (λ (p : B × List ℕ). p.0) same in
      (a.0.0, subst (λ r. Taken sA IA bytes a.0.0 r) same_rest t, b.1 ∙ ap (λ y. Some y) same_x)

  pub pick_again : Codes sA IA oneA → (a : A) (x : B) (rest : List ℕ) → IA a → f a ≡ Some x → pick_at f oneA (sA a ++ rest) ≡ Some (x, rest)
  pick_again c a x rest h e = rw (c.again a rest h, e) refl

  pub codes_pick : (sB : B → List ℕ) (IB : B → Type 0) → Codes sA IA oneA → ((a : A) (b : B) → IA a → f a ≡ Some b → (sA a ≡ sB b) × IB b) → ((b : B) → IB b → (a : A) × IA a × (f a ≡ Some b) × (sA a ≡ sB b)) → Codes sB IB (pick_at f oneA)
  codes_pick sB IB c there back = record {
    takes = λ bytes x rest h e.
        let p = pick_takes c bytes x rest h e in
        let q = there p.0 x p.1.fits p.2 in
        record { parts = p.1.parts ∙ ap (λ s. s ++ rest) q.0; fits = q.1; left = p.1.left };
    again = λ b rest h.
        let q = back b h in
        rw (← q.3) (pick_again c q.0 b rest q.1 q.2);
  }

-- the same reader, for a spelling and a condition that come to the same
pub codes_by : {X : Type 0} (s t : X → List ℕ) (I J : X → Type 0) (one : List ℕ → Option (X × List ℕ)) → Codes s I one → ((x : X) → s x ≡ t x) → ((x : X) → I x → J x) → ((x : X) → J x → I x) → Codes t J one
codes_by s t I J one c same there back = record {
  takes = λ bytes x rest h e.
      let p = c.takes bytes x rest h e in
      record { parts = p.parts ∙ ap (λ u. u ++ rest) (same x); fits = there x p.fits; left = p.left };
  again = λ x rest h. rw (← same x) (c.again x rest (back x h));
}
