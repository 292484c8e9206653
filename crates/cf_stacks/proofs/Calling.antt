-- A call that goes out: what becomes of the open calls and of the rooms.
use Rattle.std.proofs.Common.{◌≡◌, ℕ, ◌==◌, ◌+◌, ◌≤◌, Bool, true, false, ◌||◌, not, List, [], ◌∷◌, ◌++◌, Option, Some, None, Result, Ok, Err, IfOk, filter, find, is_some, length, map, refl, ap, sym, ◌∙◌, cond, subst, arith}
use Rattle.std.specs.List.{AllByRecursion, list_any}
use Rattle.cf_tree.specs.declared.request.Request.{Request}
use Rattle.cf_entry.specs.declared.entry.Entry.{Entry}
use Rattle.cf_entry.specs.declared.entry.Entry.TheVariants as entry
use Rattle.cf_entry.specs.Entry.{spelling_of}
use Rattle.cf_effect.specs.declared.held.Pending.{Pending}
use Rattle.cf_stacks.specs.declared.room.CallRoom.{CallRoom}
use Rattle.cf_effect.specs.World.{StackState}
use Rattle.cf_effect.specs.Words.{has_token, is_created, pending_of}
use Rattle.cf_effect.specs.Calls.{new_call}
use Rattle.cf_effect.specs.Fold.{effect_at, is_opening}
use Rattle.cf_effect.specs.Reply.{intending}
use Rattle.cf_effect.specs.Bounds.{IsShortOutcomeOf}
use Rattle.cf_stacks.specs.Room.{StackStanding, calls_after, has_call, without_awaited}
use Rattle.cf_stacks.specs.Spare.{HaveOwnTokens, IsNewRoom, IsRoomFor, KeepsCalls, is_room_of}
use Rattle.cf_stacks.specs.Stacked.{token_of_room}
use Rattle.cf_effect.proofs.Closed.{any_found}
use Rattle.cf_stacks.proofs.Kindred.{all_left, all_with, apart_with, has_room, other_call}
use Rattle.cf_stacks.proofs.Short.{outcome_short}

-- one that passes is there, in a list of which this is true of all
module _ {A : Type 0} (P : A → Type 0) (test : A → Bool) where
  pub all_found : (xs : List A) (x : A) → AllByRecursion P xs → find test xs ≡ Some x → P x × (test x ≡ true)
  all_found [] x h e = absurd cc
  all_found (y ∷ xs) x h e = by (test y) refl (all_found xs x h.1) e
    where
      by : (b : Bool) → test y ≡ b → (find test xs ≡ Some x → P x × (test x ≡ true)) → cond b (Some y) (find test xs) ≡ Some x → P x × (test x ≡ true)
      by true d k e = let same : y ≡ x = cc in subst (λ (z : A). P z × (test z ≡ true)) same (h.0, d)
      by false d k e = k e

-- a call that none finds is not there
pub call_found : (t : ℕ) (rs : List CallRoom) → find (is_room_of t) rs ≡ None → has_call t (map token_of_room rs) ≡ false
call_found t rs e = sym (has_room t rs) ∙ any_found (is_room_of t) rs ∙ ap (λ (o : Option CallRoom). is_some o) e

same_number : (t : ℕ) → (t == t) ≡ true
same_number t = Prim.grind (arith)

-- where none of these has the token of a call, it is found behind them
last_in : (p q : Pending) (ps : List Pending) → list_any (has_token p.token) ps ≡ false → find (has_token p.token) (ps ++ p ∷ []) ≡ Some q → q ≡ p
last_in p q [] n e = let here : find (has_token p.token) (p ∷ []) ≡ Some p = rw (same_number p.token) refl in cc
last_in p q (o ∷ ps) n e = one (p.token == o.token) (last_in p q ps) n e
  where
    one : (b : Bool) → (list_any (has_token p.token) ps ≡ false → find (has_token p.token) (ps ++ p ∷ []) ≡ Some q → q ≡ p) → (b || list_any (has_token p.token) ps) ≡ false
        → cond b (Some o) (find (has_token p.token) (ps ++ p ∷ [])) ≡ Some q → q ≡ p
    one true k n e = absurd cc
    one false k n e = k n e

module _ (n : ℕ) (p : Pending) (s : StackState) where
  -- by whether the token is open already
  intending_by : (P : StackState → Type 0) → (list_any (has_token p.token) s.tokens ≡ true → P s) → (list_any (has_token p.token) s.tokens ≡ false → P (record s { tokens = s.tokens ++ p ∷ []; ledger = s.ledger ++ new_call n s.status p ∷ [] })) → P (intending n p s)
  intending_by P f g = by (list_any (has_token p.token) s.tokens) refl
    where
      by : (b : Bool) → list_any (has_token p.token) s.tokens ≡ b → P (cond b s (record s { tokens = s.tokens ++ p ∷ []; ledger = s.ledger ++ new_call n s.status p ∷ [] }))
      by true e = f e
      by false e = g e

  other_stays : (t : ℕ) (q : Pending) → (t == p.token) ≡ false → pending_of t (intending n p s) ≡ Some q → pending_of t s ≡ Some q
  other_stays t q d = intending_by (λ x. pending_of t x ≡ Some q → pending_of t s ≡ Some q) (λ e h. h) (λ e h. other_call t q p s.tokens d h)

  going_stays : (intending n p s).going ≡ s.going
  going_stays = intending_by (λ x. x.going ≡ s.going) (λ e. refl) (λ e. refl)

  before_stays : (intending n p s).before ≡ s.before
  before_stays = intending_by (λ x. x.before ≡ s.before) (λ e. refl) (λ e. refl)

  pub calling_apart : HaveOwnTokens s.tokens → HaveOwnTokens (intending n p s).tokens
  calling_apart h = intending_by (λ x. HaveOwnTokens x.tokens) (λ e. h) (λ e. apart_with p s.tokens h e)

  -- the room of another call is still right
  room_stays : (r : CallRoom) → (r.token == p.token) ≡ false → IsRoomFor s r → IsRoomFor (intending n p s) r
  room_stays r d h = record {
    terms = λ q e c. rw (going_stays, before_stays) (h.terms q (other_stays r.token q d e) c);
    line = λ q e. h.line q (other_stays r.token q d e);
    blank = h.blank;
    empty = h.empty;
    spelled = h.spelled;
  }

  turned : (t : ℕ) → not (p.token == t) ≡ true → (t == p.token) ≡ false
  turned t e = Prim.grind (arith)

  pub calling_rooms : (rs : List CallRoom) (r : CallRoom) → r.token ≡ p.token → AllByRecursion (IsRoomFor s) rs → IsRoomFor (intending n p s) r
      → AllByRecursion (IsRoomFor (intending n p s)) (filter (λ q. not (is_room_of r.token q)) rs ++ r ∷ [])
  calling_rooms rs r t h k =
      all_with (IsRoomFor (intending n p s)) (filter (λ q. not (is_room_of r.token q)) rs) r
      (all_left (IsRoomFor s) (IsRoomFor (intending n p s)) (λ q. not (is_room_of r.token q))
      (λ q e i. room_stays q (turned q.token (subst (λ (u : ℕ). not (u == q.token) ≡ true) t e)) i) rs h) k

  -- the room of a call that was not open is right, and that of one that was open
  last_found : (q : Pending) → list_any (has_token p.token) s.tokens ≡ false → find (has_token p.token) (s.tokens ++ p ∷ []) ≡ Some q → q ≡ p
  last_found q none e = last_in p q s.tokens none e

  pub room_of_new : (r : CallRoom) → r.token ≡ p.token → list_any (has_token p.token) s.tokens ≡ false → IsNewRoom p.path p.request s r → IsRoomFor (intending n p s) r
  room_of_new r t none h = intending_by (λ x. IsRoomFor x r) (λ e. absurd cc) (λ e. record {
    terms = λ q f c. let same : q ≡ p = last_found q none (subst (λ (u : ℕ). find (has_token u) (s.tokens ++ p ∷ []) ≡ Some q) t f) in rw same (h.terms (subst (λ (o : Pending). is_created o ≡ true) same c));
    line = λ q f. let same : q ≡ p = last_found q none (subst (λ (u : ℕ). find (has_token u) (s.tokens ++ p ∷ []) ≡ Some q) t f) in rw same h.line;
    blank = h.blank;
    empty = h.empty;
    spelled = h.spelled;
  })

  pub room_of_open : (r : CallRoom) → list_any (has_token p.token) s.tokens ≡ true → IsRoomFor s r → IsRoomFor (intending n p s) r
  room_of_open r some h = intending_by (λ x. IsRoomFor x r) (λ e. h) (λ e. absurd cc)

-- an outcome that is short has a short spelling
pub short_spelling : (token : ℕ) (e : Entry) → IsShortOutcomeOf token e → length (spelling_of e) ≤ 525350
short_spelling token (entry.Opened epoch lanes) h = absurd h
short_spelling token (entry.Begin number name k) h = absurd h
short_spelling token (entry.Kept number path physical w) h = absurd h
short_spelling token (entry.Intent number t lane path r) h = absurd h
short_spelling token (entry.Outcome number t answer before after) h = outcome_short number t answer before after h.1
short_spelling token (entry.Phase number p cause) h = absurd h
short_spelling token (entry.Done number state failed) h = absurd h
short_spelling token (entry.ChangeSet number name source rows outputs) h = absurd h

abbrev stands : StackState → List ℕ → ℕ → StackStanding
stands s ts n = record { stack = s; awaited = ts; spare = n }

pub standing_same : (s t : StackState) (ts us : List ℕ) (m n : ℕ) → s ≡ t → ts ≡ us → m ≡ n → stands s ts m ≡ stands t us n
standing_same s t ts us m n e f g = rw (e, f, g) refl

-- what rests on the same
pub keeps_like : (s t : StackState) → t.going ≡ s.going → t.before ≡ s.before → t.tokens ≡ s.tokens → KeepsCalls s t
keeps_like s t g b h = record { going = g; before = b; tokens = λ u p e. ap (λ (ps : List Pending). find (has_token u) ps) (sym h) ∙ e }

-- a call that goes out, of which its stack hears
pub heard_so : (t u : StackState) (n : ℕ) (p : Pending) (s : StackState) (e f : Entry) (line : List ℕ) → u ≡ intending n p s → t ≡ record u { entries = u.entries ++ f ∷ []; events = u.events ++ line ∷ [] } → f ≡ e
    → t ≡ record (intending n p s) { entries = s.entries ++ e ∷ []; events = s.events ++ line ∷ [] }
heard_so t u n p s e f line is_u is_t is_e =
    is_t ∙ ap (λ (x : StackState). record x { entries = x.entries ++ f ∷ []; events = x.events ++ line ∷ [] }) is_u
    ∙ ap (λ (g : Entry). record (intending n p s) { entries = (intending n p s).entries ++ g ∷ []; events = (intending n p s).events ++ line ∷ [] }) is_e
    ∙ ap (λ (es : List Entry). record (intending n p s) { entries = es ++ e ∷ []; events = (intending n p s).events ++ line ∷ [] }) (intending_by n p s (λ x. x.entries ≡ s.entries) (λ h. refl) (λ h. refl))
    ∙ ap (λ (ls : List (List ℕ)). record (intending n p s) { entries = s.entries ++ e ∷ []; events = ls ++ line ∷ [] }) (intending_by n p s (λ x. x.events ≡ s.events) (λ h. refl) (λ h. refl))

-- an outcome leaves its call awaited no more
pub outcome_calls : (token : ℕ) (e : Entry) (ts : List ℕ) → IsShortOutcomeOf token e → without_awaited token ts ≡ calls_after e ts
outcome_calls token (entry.Opened epoch lanes) ts h = absurd h
outcome_calls token (entry.Begin number name k) ts h = absurd h
outcome_calls token (entry.Kept number path physical w) ts h = absurd h
outcome_calls token (entry.Intent number t lane path r) ts h = absurd h
outcome_calls token (entry.Outcome number t answer before after) ts h = ap (λ (u : ℕ). without_awaited u ts) (sym h.0)
outcome_calls token (entry.Phase number p cause) ts h = absurd h
outcome_calls token (entry.Done number state failed) ts h = absurd h
outcome_calls token (entry.ChangeSet number name source rows outputs) ts h = absurd h

-- what holds of a result in two ways
pub ok_both : {A E : Type 0} (r : Result A E) (A1 A2 B : A → Type 0) → IfOk r A1 → IfOk r A2 → ((x : A) → A1 x → A2 x → B x) → IfOk r B
ok_both (Ok x) A1 A2 B h k f = f x h k
ok_both (Err e) A1 A2 B h k f = tt
