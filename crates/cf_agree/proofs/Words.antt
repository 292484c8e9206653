-- Lists, ids and lanes.
use Rattle.std.proofs.Common.{◌≡◌, ◌≢◌, ◌⊎◌, inl, inr, ℕ, zero, suc, slice_get, ◌==◌, List, [], ◌∷◌, ◌++◌, Bool, true, false, ◌||◌, Option, Some, None, refl, sym, ap, subst, ◌∙◌, true≢false, map, filter, find, length, nat_le, arith}
use Rattle.std.specs.{Cmp.second_so, List.list_all, List.list_any, List.remove, Prelude.cond, Str.bytes_eq}
use Rattle.std.proofs.lemmas.{Bool.eq-eqb, Bool.ne_eqb, Bool.or_from, Bool.or_left, Bool.or_right, List.Folds.list_any-append, Slice.Eq.bytes_eq-Decides}
use Rattle.cf_tree.specs.{Datum.Data, declared.request.Request.Request, Lists.In, Lists.here, Lists.there}
use Rattle.cf_handler.specs.declared.{settled.Settled.Settled, settled.Settlement.Settlement}
use Rattle.cf_handler.specs.declared.settled.Settlement.TheVariants.{Success}
use Rattle.cf_handler.specs.Lane.{LaneState, Live, live_of, live_after, live_changed, updated, has_id, is_used, succeeded_with, settlement_of}
use Rattle.cf_handler.specs.{Move.IsOfLane, Move.with_settled, Name.is_lane_name, Name.is_name_byte}
use Rattle.cf_agree.specs.Base.{lane_of, settled_at}

pub same_bytes : (a b : List ℕ) → a ≡ b → bytes_eq a b ≡ true
same_bytes a b e = (bytes_eq-Decides a b).1 e

pub bytes_same : (a b : List ℕ) → bytes_eq a b ≡ true → a ≡ b
bytes_same a b e = (bytes_eq-Decides a b).0 e

pub other_bytes : (a b : List ℕ) → a ≢ b → bytes_eq a b ≡ false
other_bytes a b n = grind (arith, bytes_same)

pub bytes_or : (a b : List ℕ) → (a ≡ b) ⊎ (a ≢ b)
bytes_or a b = by_test (bytes_eq a b) refl where
  by_test : (c : Bool) → bytes_eq a b ≡ c → (a ≡ b) ⊎ (a ≢ b)
  by_test true h = inl (bytes_same a b h)
  by_test false h = inr (λ e. true≢false (sym (same_bytes a b e) ∙ h))

pub some_or : {A : Type 0} (o : Option A) → (o ≡ None) ⊎ ((x : A) × (o ≡ Some x))
some_or None = inl refl
some_or (Some x) = inr (x, refl)

pub number_or : (m n : ℕ) → (m ≡ n) ⊎ (m ≢ n)
number_or m n = grind arith

pub if_same : {A : Type 0} (a b : List ℕ) (x y : A) → a ≡ b → cond (bytes_eq a b) x y ≡ x
if_same a b x y e = ap (λ c. cond c x y) (same_bytes a b e)

pub if_other : {A : Type 0} (a b : List ℕ) (x y : A) → a ≢ b → cond (bytes_eq a b) x y ≡ y
if_other a b x y e = ap (λ c. cond c x y) (other_bytes a b e)

pub at_same : {A : Type 0} (m n : ℕ) (x y : A) → m ≡ n → cond (m == n) x y ≡ x
at_same m n x y e = ap (λ c. cond c x y) (eq-eqb m n e)

pub at_other : {A : Type 0} (m n : ℕ) (x y : A) → m ≢ n → cond (m == n) x y ≡ y
at_other m n x y e = ap (λ c. cond c x y) (ne_eqb m n e)

pub in_cons : {A : Type 0} (x y : A) (ys : List A) → In x (y ∷ ys) → (x ≡ y) ⊎ In x ys
in_cons x y ys v3 = grind arith

pub in_either : {A : Type 0} (x : A) (xs : List A) (y : A) → In x (xs ++ y ∷ []) → In x xs ⊎ (x ≡ y)
in_either x [] y i = elim (in_cons x y [] i) [ inl e ↦ inr e | inr e ↦ inl e ]
in_either x (z ∷ xs) y i = grind (arith, in_cons x z (xs ++ y ∷ []) i, in_either x xs y, here, there)

-- the settled entry of a token: it stays, and one more is that of its own token alone
pub entry_still : (t : ℕ) (ss : List Settled) (s r : Settled) → settled_at t ss ≡ Some r → settled_at t (ss ++ s ∷ []) ≡ Some r
entry_still t [] s r h = absurd (cc)
entry_still t (q ∷ ss) s r h = grind (arith, entry_still t ss s r)

pub entry_now : (t : ℕ) (ss : List Settled) (s : Settled) → t ≡ s.token → settled_at t ss ≡ None → settled_at t (ss ++ s ∷ []) ≡ Some s
entry_now t [] s e h = at_same t s.token (Some s) None e
entry_now t (q ∷ ss) s e h = grind (arith, entry_now t ss s e)

pub entry_others : (t : ℕ) (ss : List Settled) (s : Settled) → t ≢ s.token → settled_at t (ss ++ s ∷ []) ≡ settled_at t ss
entry_others t [] s n = at_other t s.token (Some s) None n
entry_others t (q ∷ ss) s n = ap (λ o. cond (t == q.token) (Some q) o) (entry_others t ss s n)

-- no settlement, no entry
pub unsettled : (t : ℕ) (ss : List Settled) → settlement_of t ss ≡ None → settled_at t ss ≡ None
unsettled t [] h = refl
unsettled t (q ∷ ss) h = grind (arith, unsettled t ss)

pub settled_as : (t : ℕ) (ss : List Settled) (x : Settlement) → settlement_of t ss ≡ Some x → (s : Settled) × (settled_at t ss ≡ Some s) × (s.settlement ≡ x)
settled_as t [] x h = absurd (cc)
settled_as t (q ∷ ss) x h = grind (arith, settled_as t ss x)

-- what is live after one more call
pub live_more : (live : List Live) (ss : List Settled) (s : Settled) → live_after live (ss ++ s ∷ []) ≡ live_changed s.request s.settlement (live_after live ss)
live_more live [] s = refl
live_more live (t ∷ ss) s = live_more (live_changed t.request t.settlement live) ss s

-- an id that was used stays so, and that of a success was
pub used_still : (id : List ℕ) (lane : LaneState) (s : Settled) → is_used id lane ≡ true → is_used id (with_settled lane s) ≡ true
used_still id lane s h = grind (arith, list_any-append)

pub used_born : (token : ℕ) (id : List ℕ) (attrs : List (List ℕ × Data)) (lane : LaneState) (s : Settled) → settled_at token lane.settled ≡ Some s → s.settlement ≡ Success id attrs → is_used id lane ≡ true
used_born token id attrs lane s h e = or_right (has_id id lane.base) _ (among lane.settled h) where
  among : (ss : List Settled) → settled_at token ss ≡ Some s → list_any (λ t. succeeded_with id t.settlement) ss ≡ true
  among [] k = absurd (cc)
  among (q ∷ ss) k = grind (arith, among ss, number_or, or_left, same_bytes, or_right, at_other)

pub has_found : (i : List ℕ) (live : List Live) → has_id i live ≡ true → (v : Live) × (find (λ r. bytes_eq i r.id) live ≡ Some v)
has_found i [] h = absurd (true≢false (sym h))
has_found i (r ∷ live) h = either (bytes_eq i r.id) h (has_found i live) where
  either : (b : Bool) → (b || has_id i live) ≡ true → (has_id i live ≡ true → (v : Live) × (find (λ r. bytes_eq i r.id) live ≡ Some v)) → (v : Live) × (cond b (Some r) (find (λ r. bytes_eq i r.id) live) ≡ Some v)
  either true g ih = (r, refl)
  either false g ih = ih g

pub has_none : (i : List ℕ) (live : List Live) → has_id i live ≡ false → find (λ r. bytes_eq i r.id) live ≡ None
has_none i [] h = refl
has_none i (r ∷ live) h = grind (arith, has_none i live)

-- a lane's name has no colon, so an id names one lane
before_colon : (n rest : List ℕ) → list_all is_name_byte n ≡ true → lane_of (n ++ 58 ∷ rest) ≡ n
before_colon [] rest h = refl
before_colon (b ∷ n) rest h = grind (arith, before_colon n rest (second_so (is_name_byte b) (list_all is_name_byte n) h))

pub one_lane : (n i : List ℕ) → is_lane_name n ≡ true → IsOfLane n i → lane_of i ≡ n
one_lane n i h o = ap lane_of o.1 ∙ before_colon n o.0 (second_so (nat_le (length n) 64) _ (second_so (nat_le 1 (length n)) _ h))

-- what stands at a place is of the list, and what is left without it was
pub in_got : {A : Type 0} (x : A) (xs : List A) (i : ℕ) → slice_get xs i ≡ Some x → In x xs
in_got x [] i h = absurd (cc)
in_got x (y ∷ xs) zero h = let z : y ≡ x = cc in subst (λ q. In q (y ∷ xs)) z here
in_got x (y ∷ xs) (suc i) h = there (in_got x xs i h)

pub in_removed : {A : Type 0} (x : A) (xs : List A) (i : ℕ) → In x (remove xs i) → In x xs
in_removed x [] zero h = elim h [ ]
in_removed x [] (suc i) h = elim h [ ]
in_removed x (y ∷ xs) zero h = there h
in_removed x (y ∷ xs) (suc i) h = elim (in_cons x y (remove xs i) h) [ inl e ↦ subst (λ q. In q (y ∷ xs)) (sym e) here | inr k ↦ there (in_removed x xs i k) ]
