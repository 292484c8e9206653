-- Paths that join those that are done, one by one.
use Rattle.std.proofs.Common.{◌≡◌, inl, inr, ℕ, suc, ◌+◌, ◌<◌, ◌≤◌, Bool, true, false, ◌||◌, not, List, [], ◌∷◌, ◌++◌, length, take, get_or, map, refl, ap, sym, ◌∙◌, subst, arith, length-append, cond}
use Rattle.std.specs.Prelude.{count_by}
use Rattle.std.specs.Str.{bytes_eq}
use Rattle.cf_tree.specs.Lists.{is_among}
use Rattle.cf_desired.specs.declared.wanted.Wanted.{Wanted}
use Rattle.cf_desired.specs.declared.wanted.Plan.{Plan}
use Rattle.cf_effect.specs.declared.held.Held.{Held}
use Rattle.cf_tree.specs.Lists.{In}
use Rattle.cf_plan.specs.Done.{AddsPath, IsFresh, Joined, none, one}
use Rattle.cf_plan.proofs.Answered.{counted}
use Rattle.cf_plan.proofs.Listed.{among_more, in_at, in_cons, in_last, in_map, in_none, map_more, same_bytes}

abbrev Paths : Type 0
Paths = List (List ℕ)

module _ (before now : Plan) (held : List Held) where
  abbrev pub wants : Paths
  wants = map (λ (w : Wanted). w.path) before.wanted

  -- how many of the wanted paths are not among these
  abbrev pub left_of : Paths → ℕ
  left_of done = count_by (λ w. not (is_among w.path done)) before.wanted

  pub joined_on : (a b c : Paths) → Joined before now held a b → Joined before now held b c → Joined before now held a c
  joined_on a b _ j none = j
  joined_on a b _ j (one k n) = one (joined_on a b _ j k) n

  pub joined_longer : (old new : Paths) → Joined before now held old new → length old ≤ length new
  joined_longer old _ none = omega arith
  joined_longer old _ (one {done} {p} k n) = let h = joined_longer old done k in omega (arith, h, length-append done (p ∷ []))

  -- none of these is fresh, where nothing has joined
  abbrev pub NoneOf : Paths → Paths → Paths → Type 0
  NoneOf old new seen = new ≡ old → (q : List ℕ) → In q seen → IsFresh before now held old q → ⊥

  pub one_joined :
      (old done new : Paths) (p : List ℕ) → In p wants → Joined before now held old done → AddsPath before now held p done new → Joined before now held old new
  one_joined old done new p i j (inl (f, e)) = subst (Joined before now held old) (sym e) (one j (i, f))
  one_joined old done new p i j (inr (f, e)) = subst (Joined before now held old) (sym e) j

  pub one_seen :
      (old done new : Paths) (p : List ℕ) (seen : Paths) → Joined before now held old done → NoneOf old done seen → AddsPath before now held p done new →
      NoneOf old new (seen ++ p ∷ [])
  one_seen old done new p seen j h (inl (f, e)) same q i g =
      let l = joined_longer old done j in let n = ap length (sym e ∙ same) in absurd (omega (arith, l, n, length-append done (p ∷ [])))
  one_seen old done new p seen j h (inr (f, e)) same q i g =
      let was = sym e ∙ same in
      elim (in_last seen p q i) [
        | inl k ↦ h was q k g
        | inr k ↦ f (subst (λ d. IsFresh before now held d p) (sym was) (subst (IsFresh before now held old) k g))
      ]

  -- a step of the round
  pub round :
      (old done new : Paths) (i : ℕ) (w : Wanted) → i < length before.wanted → w ≡ get_or before.wanted i w →
      Joined before now held old done × NoneOf old done (map (λ (v : Wanted). v.path) (take i before.wanted)) → AddsPath before now held w.path done new →
      Joined before now held old new × NoneOf old new (map (λ (v : Wanted). v.path) (take (i + 1) before.wanted))
  round old done new i w l e (j, n) a =
      let wanted : In w.path wants = in_map (λ (v : Wanted). v.path) w before.wanted (subst (λ v. In v before.wanted) (sym e) (in_at before.wanted i w l)) in
      let at : (get_or before.wanted i w).path ≡ w.path = ap (λ v. v.path) (sym e) in
      let next : suc i ≡ i + 1 = omega arith in
      let seen : map (λ (v : Wanted). v.path) (take i before.wanted) ++ w.path ∷ [] ≡ map (λ (v : Wanted). v.path) (take (i + 1) before.wanted) =
      ap (λ p. map (λ (v : Wanted). v.path) (take i before.wanted) ++ p ∷ []) (sym at) ∙ sym (map_more (λ (v : Wanted). v.path) before.wanted i w l)
      ∙ ap (λ k. map (λ (v : Wanted). v.path) (take k before.wanted)) next in
      (one_joined old done new w.path wanted j a, subst (NoneOf old new) seen (one_seen old done new w.path (map (λ (v : Wanted). v.path) (take i before.wanted)) j n a))

  pub joined_same : (old new : Paths) → Joined before now held old new → length new ≡ length old → new ≡ old
  joined_same old _ none e = refl
  joined_same old _ (one {done} {p} k n) e = let h = joined_longer old done k in absurd (omega (arith, h, e, length-append done (p ∷ [])))

  -- one that joins is no longer left
  fewer_by : (a b : Bool) (m n : ℕ) → m ≤ n → cond (not (a || b)) (1 + m) m ≤ cond (not a) (1 + n) n
  fewer_by true b m n h = h
  fewer_by false true m n h = omega (arith, h)
  fewer_by false false m n h = omega (arith, h)

  fewer_more : (a b : Bool) (m n : ℕ) → m < n → cond (not (a || b)) (1 + m) m < cond (not a) (1 + n) n
  fewer_more true b m n h = h
  fewer_more false true m n h = omega (arith, h)
  fewer_more false false m n h = omega (arith, h)

  abbrev left_in : Paths → List Wanted → ℕ
  left_in done ws = count_by (λ w. not (is_among w.path done)) ws

  left_first : (done : Paths) (p : List ℕ) (w : Wanted) (ws : List Wanted) → left_in (done ++ p ∷ []) (w ∷ ws) ≡ cond (not (is_among w.path done || bytes_eq w.path p)) (1 + left_in (done ++ p ∷ []) ws) (left_in (done ++ p ∷ []) ws)
  left_first done p w ws =
      counted (λ w. not (is_among w.path (done ++ p ∷ []))) w ws
      ∙ ap (λ b. cond (not b) (1 + left_in (done ++ p ∷ []) ws) (left_in (done ++ p ∷ []) ws)) (among_more done p w.path)

  left_was : (done : Paths) (w : Wanted) (ws : List Wanted) → left_in done (w ∷ ws) ≡ cond (not (is_among w.path done)) (1 + left_in done ws) (left_in done ws)
  left_was done w ws = counted (λ w. not (is_among w.path done)) w ws

  fewer : (done : Paths) (p : List ℕ) (ws : List Wanted) → left_in (done ++ p ∷ []) ws ≤ left_in done ws
  fewer done p [] = omega arith
  fewer done p (w ∷ ws) =
      let h = fewer_by (is_among w.path done) (bytes_eq w.path p) (left_in (done ++ p ∷ []) ws) (left_in done ws) (fewer done p ws) in
      omega (arith, h, left_first done p w ws, left_was done w ws)

  less : (done : Paths) (p : List ℕ) (ws : List Wanted) → In p (map (λ (w : Wanted). w.path) ws) → is_among p done ≡ false → left_in (done ++ p ∷ []) ws < left_in done ws
  less done p [] i e = absurd (in_none i)
  less done p (w ∷ ws) i e = elim (in_cons i) [
    | inl same ↦ (
        let a : is_among w.path done ≡ false = subst (λ q. is_among q done ≡ false) (sym same) e in
        let b : bytes_eq w.path p ≡ true = subst (λ q. bytes_eq q p ≡ true) (sym same) (same_bytes p) in
        let h = fewer done p ws in
        let new : left_in (done ++ p ∷ []) (w ∷ ws) ≡ left_in (done ++ p ∷ []) ws = left_first done p w ws ∙ rw a (rw b refl) in
        let was : left_in done (w ∷ ws) ≡ 1 + left_in done ws = left_was done w ws ∙ rw a refl in
        omega (arith, h, new, was))
    | inr j ↦ (
        let h = fewer_more (is_among w.path done) (bytes_eq w.path p) (left_in (done ++ p ∷ []) ws) (left_in done ws) (less done p ws j e) in
        omega (arith, h, left_first done p w ws, left_was done w ws))
  ]

  joined_fewer : (old new : Paths) → Joined before now held old new → left_of new ≤ left_of old
  joined_fewer old _ none = omega arith
  joined_fewer old _ (one {done} {p} k n) = let h = joined_fewer old done k in let f = fewer done p before.wanted in omega (arith, h, f)

  pub joined_less : (old new : Paths) → Joined before now held old new → ¬ (length new ≡ length old) → left_of new < left_of old
  joined_less old _ none e = absurd (e refl)
  joined_less old _ (one {done} {p} k (i, f)) e = let h = joined_fewer old done k in let g = less done p before.wanted i f.0 in omega (arith, h, g)
