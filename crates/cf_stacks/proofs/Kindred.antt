-- The rooms of calls, one by one: what stays of them.
use Rattle.std.proofs.Common.{◌≡◌, ℕ, ◌==◌, Bool, true, false, ◌||◌, not, List, [], ◌∷◌, ◌++◌, Option, Some, None, filter, find, map, refl, ap, sym, ◌∙◌, cond, subst, arith}
use Rattle.std.specs.List.{AllByRecursion, list_any}
use Rattle.cf_effect.specs.declared.held.Pending.{Pending}
use Rattle.cf_stacks.specs.declared.room.CallRoom.{CallRoom}
use Rattle.cf_effect.specs.World.{StackState}
use Rattle.cf_effect.specs.Words.{has_token, pending_of}
use Rattle.cf_effect.specs.Reply.{intending, terms_at}
use Rattle.cf_stacks.specs.Room.{has_call, with_awaited, without_awaited}
use Rattle.cf_stacks.specs.Spare.{HaveOwnTokens, IsRoomFor, KeepsCalls, is_other, is_room_of}
use Rattle.cf_stacks.specs.Stacked.{token_of_room}

module _ {A : Type 0} (P : A → Type 0) where
  pub all_filter : (test : A → Bool) (xs : List A) → AllByRecursion P xs → AllByRecursion P (filter test xs)
  all_filter test [] h = tt
  all_filter test (x ∷ xs) h = by (test x) (all_filter test xs h.1)
    where
      by : (b : Bool) → AllByRecursion P (filter test xs) → AllByRecursion P (cond b (x ∷ filter test xs) (filter test xs))
      by true k = (h.0, k)
      by false k = k

  pub all_with : (xs : List A) (y : A) → AllByRecursion P xs → P y → AllByRecursion P (xs ++ y ∷ [])
  all_with [] y h k = (k, tt)
  all_with (x ∷ xs) y h k = (h.0, all_with xs y h.1 k)

module _ {A : Type 0} (P Q : A → Type 0) (f : (x : A) → P x → Q x) where
  pub all_so : (xs : List A) → AllByRecursion P xs → AllByRecursion Q xs
  all_so [] h = tt
  all_so (x ∷ xs) h = (f x h.0, all_so xs h.1)

-- of those that a test leaves, one may suppose that they pass it
module _ {A : Type 0} (P Q : A → Type 0) (test : A → Bool) (f : (x : A) → test x ≡ true → P x → Q x) where
  pub all_left : (xs : List A) → AllByRecursion P xs → AllByRecursion Q (filter test xs)
  all_left [] h = tt
  all_left (x ∷ xs) h = by (test x) refl (all_left xs h.1)
    where
      by : (b : Bool) → test x ≡ b → AllByRecursion Q (filter test xs) → AllByRecursion Q (cond b (x ∷ filter test xs) (filter test xs))
      by true e k = (f x e h.0, k)
      by false e k = k

room_keeps : (old new : StackState) (r : CallRoom) → KeepsCalls old new → IsRoomFor old r → IsRoomFor new r
room_keeps old new r k h = record {
  terms = λ p e c. rw (k.going, k.before) (h.terms p (k.tokens r.token p e) c);
  line = λ p e. h.line p (k.tokens r.token p e);
  blank = h.blank;
  empty = h.empty;
  spelled = h.spelled;
}

pub rooms_keep : (old new : StackState) (rs : List CallRoom) → KeepsCalls old new → AllByRecursion (IsRoomFor old) rs → AllByRecursion (IsRoomFor new) rs
rooms_keep old new rs k h = all_so (IsRoomFor old) (IsRoomFor new) (λ r. room_keeps old new r k) rs h

pub rooms_left : (s : StackState) (t : ℕ) (rs : List CallRoom) → AllByRecursion (IsRoomFor s) rs → AllByRecursion (IsRoomFor s) (filter (λ r. not (is_room_of t r)) rs)
rooms_left s t rs h = all_filter (IsRoomFor s) (λ r. not (is_room_of t r)) rs h

pub calls_left : (t : ℕ) (rs : List CallRoom) → map token_of_room (filter (λ r. not (is_room_of t r)) rs) ≡ without_awaited t (map token_of_room rs)
calls_left t [] = refl
calls_left t (r ∷ rs) = by (t == r.token) (calls_left t rs)
  where
    by : (b : Bool) → map token_of_room (filter (λ r. not (is_room_of t r)) rs) ≡ without_awaited t (map token_of_room rs)
        → map token_of_room (cond (not b) (r ∷ filter (λ r. not (is_room_of t r)) rs) (filter (λ r. not (is_room_of t r)) rs)) ≡ cond (not b) (r.token ∷ without_awaited t (map token_of_room rs)) (without_awaited t (map token_of_room rs))
    by true k = k
    by false k = ap (λ ts. r.token ∷ ts) k

map_with : (rs : List CallRoom) (r : CallRoom) → map token_of_room (rs ++ r ∷ []) ≡ map token_of_room rs ++ r.token ∷ []
map_with [] r = refl
map_with (q ∷ rs) r = ap (λ ts. q.token ∷ ts) (map_with rs r)

pub calls_with : (rs : List CallRoom) (r : CallRoom) → map token_of_room (filter (λ q. not (is_room_of r.token q)) rs ++ r ∷ []) ≡ with_awaited r.token (map token_of_room rs)
calls_with rs r = map_with (filter (λ q. not (is_room_of r.token q)) rs) r ∙ ap (λ ts. ts ++ r.token ∷ []) (calls_left r.token rs)

pub has_room : (t : ℕ) (rs : List CallRoom) → list_any (is_room_of t) rs ≡ has_call t (map token_of_room rs)
has_room t [] = refl
has_room t (r ∷ rs) = by (t == r.token) (has_room t rs)
  where
    by : (b : Bool) → list_any (is_room_of t) rs ≡ has_call t (map token_of_room rs) → (b || list_any (is_room_of t) rs) ≡ (b || has_call t (map token_of_room rs))
    by true k = refl
    by false k = k

-- Calls apart: those that are left, and one more.
pub apart_filter : (test : Pending → Bool) (ps : List Pending) → HaveOwnTokens ps → HaveOwnTokens (filter test ps)
apart_filter test [] h = tt
apart_filter test (p ∷ ps) h = by (test p) (apart_filter test ps h.1)
  where
    by : (b : Bool) → HaveOwnTokens (filter test ps) → HaveOwnTokens (cond b (p ∷ filter test ps) (filter test ps))
    by true k = (all_filter (is_other p.token) test ps h.0, k)
    by false k = k

not_any : (q : Pending) (b : Bool) (c : Bool) → (b || c) ≡ false → (b ≡ false) × (c ≡ false)
not_any q true c e = absurd cc
not_any q false c e = (refl, e)

turned_round : (t u : ℕ) → (t == u) ≡ false → (u == t) ≡ false
turned_round t u e = Prim.grind (arith)

pub apart_with : (p : Pending) (ps : List Pending) → HaveOwnTokens ps → list_any (has_token p.token) ps ≡ false → HaveOwnTokens (ps ++ p ∷ [])
apart_with p [] h e = (tt, tt)
apart_with p (q ∷ ps) h e =
    let n = not_any q (p.token == q.token) (list_any (has_token p.token) ps) e in
    (all_with (is_other q.token) ps p h.0 (turned_round p.token q.token n.0), apart_with p ps h.1 n.1)

-- none of these calls has the token
none_found : (t : ℕ) (ps : List Pending) → AllByRecursion (is_other t) ps → find (has_token t) ps ≡ None
none_found t [] h = refl
none_found t (p ∷ ps) h = rw h.0 (none_found t ps h.1)

pub same_number : (t u : ℕ) → (t == u) ≡ true → u ≡ t
same_number t u e = Prim.grind (arith)

same_token : (t : ℕ) (p : Pending) (ps : List Pending) → (t == p.token) ≡ true → AllByRecursion (is_other p.token) ps → AllByRecursion (is_other t) ps
same_token t p ps e h = let same : p.token ≡ t = same_number t p.token e in subst (λ u. AllByRecursion (is_other u) ps) same h

-- a call that is left where others are taken off was that of its token before
pub kept_call : (test : Pending → Bool) (t : ℕ) (p : Pending) (ps : List Pending) → HaveOwnTokens ps → find (has_token t) (filter test ps) ≡ Some p → find (has_token t) ps ≡ Some p
kept_call test t p [] h e = e
kept_call test t p (q ∷ ps) h e = by (test q) (t == q.token) refl (kept_call test t p ps h.1) e
  where
    by : (b c : Bool) → (t == q.token) ≡ c → (find (has_token t) (filter test ps) ≡ Some p → find (has_token t) ps ≡ Some p)
        → find (has_token t) (cond b (q ∷ filter test ps) (filter test ps)) ≡ Some p → cond c (Some q) (find (has_token t) ps) ≡ Some p
    by true true d k e = rw d at e
    by true false d k e = k (rw d at e)
    by false true d k e =
        let none : find (has_token t) (filter test ps) ≡ None = none_found t (filter test ps) (all_filter (is_other t) test ps (same_token t q ps d h.0)) in
        absurd (cc)
    by false false d k e = k e

-- a call that has no token of these
pub other_call : (t : ℕ) (p q : Pending) (ps : List Pending) → (t == q.token) ≡ false → find (has_token t) (ps ++ q ∷ []) ≡ Some p → find (has_token t) ps ≡ Some p
other_call t p q [] n e = rw n at e
other_call t p q (r ∷ ps) n e = by (t == r.token) (other_call t p q ps n) e
  where
    by : (b : Bool) → (find (has_token t) (ps ++ q ∷ []) ≡ Some p → find (has_token t) ps ≡ Some p)
        → cond b (Some r) (find (has_token t) (ps ++ q ∷ [])) ≡ Some p → cond b (Some r) (find (has_token t) ps) ≡ Some p
    by true k e = e
    by false k e = k e

pub put_rooms : (s : StackState) (rs : List CallRoom) (r : CallRoom) → AllByRecursion (IsRoomFor s) rs → IsRoomFor s r → AllByRecursion (IsRoomFor s) (filter (λ q. not (is_room_of r.token q)) rs ++ r ∷ [])
put_rooms s rs r h k = all_with (IsRoomFor s) (filter (λ q. not (is_room_of r.token q)) rs) r (rooms_left s r.token rs h) k
