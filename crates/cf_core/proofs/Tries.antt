-- What an open call deletes was refused fewer than three times: each entry that is written keeps it so.
use Rattle.std.proofs.Common.{◌≡◌, ℕ, ◌+◌, ◌<◌, ◌≤◌, ◌==◌, inl, inr, Bool, true, false, ◌&&◌, not, List, [], ◌∷◌, ◌++◌, Option, Some, None, refl, sym, ap, subst, ◌∙◌, true≢false, map, filter, length, nat_lt, cond, arith}
use Rattle.std.specs.List.{count_by}
use Rattle.std.proofs.lemmas.List.Sums.{count_by-le-length, length-filter}
use Rattle.cf_core.proofs.Words.{Back, BackClean, Call, Clean, Entry, Fits, Forward, Gone, HasNoDeletion, Held, In, IntendsIn, IsOwn, IsTo, MayFollowIn, AreApart, Pending, Reply, Request, Schema, Stage, StackState, Status, Why, World, anew, answered, answered_call, begins, closing, deletes, deletions_of, effect_at, has_token, here, intending, is_call, is_create_at, is_on, is_refusal, is_restore, keeping, keeping_known, keeping_unknown, known_stack, new_call, opened, own_calls, pending_of, refusals_of, replied, step, still_open, there, was_refused, without_token}
use Rattle.cf_core.proofs.Lemmas.{answered_left, append-nil, eqb-true, filter-append, found_one, in_filter, in_more, map-id, nat_tests, not_so}
use Rattle.cf_core.proofs.{BlameStays.row_is, Cleanups.asks_for, Cleanups.is_try, Cleanups.none_begun, Cleanups.one_open, Cleanups.turned_by, FitKept.at_known, Moving.written_is_to}
use Rattle.cf_core.proofs.Rows.{IsSameCall, anew_same, answered_row, answered_row_same, itself_same}
use Rattle.cf_core.proofs.Statuses.{intended_way, kept_way}
use Rattle.cf_core.specs.Tidying.{HasTriesLeft, TriesStayLeft}
use Rattle.cf_core.specs.Written.{other, reviewed}
use Rattle.cf_plan.proofs.Told.{filter_filtered}

-- as many pass where each is changed into one that passes just where it did
module _ {A : Type 0} (test : A → Bool) where
  as_long : (b : Bool) (x y : A) (xs ys : List A) → length xs ≡ length ys → length (cond b (x ∷ xs) xs) ≡ length (cond b (y ∷ ys) ys)
  as_long b x y xs ys e = grind arith

  pub as_many : (f : A → A) (xs : List A) → ((x : A) → In x xs → test (f x) ≡ test x) → length (filter test (map f xs)) ≡ length (filter test xs)
  as_many f [] h = refl
  as_many f (x ∷ xs) h =
      ap (λ b. length (cond b (f x ∷ filter test (map f xs)) (filter test (map f xs)))) (h x here)
      ∙ as_long (test x) (f x) x (filter test (map f xs)) (filter test xs) (as_many f xs (λ y i. h y (there i)))

-- the row is of a deletion of this resource by this operation, and was refused
abbrev is_refused_try : ℕ → List ℕ → Call → Bool
is_refused_try number id c = is_try number id c && was_refused c

abbrev refused_in : ℕ → List ℕ → List Call → ℕ
refused_in number id cs = length (filter (is_refused_try number id) cs)

refusals_are : (id : List ℕ) (s : StackState) → refusals_of id s ≡ refused_in s.operation id s.ledger
refusals_are id s =
    sym (length-filter was_refused (deletions_of id s))
    ∙ ap (λ cs. length (filter was_refused cs)) (filter_filtered (λ c. c.number == s.operation) (λ c. deletes id c.request) s.ledger)
    ∙ ap length (filter_filtered (is_try s.operation id) was_refused s.ledger)

same_try : (number : ℕ) (id : List ℕ) (c d : Call) → IsSameCall c d → (deletes id c.request ≡ true → d.answer ≡ c.answer)
    → is_refused_try number id d ≡ is_refused_try number id c
same_try number id c d same answer =
    ap (λ n. ((n == number) && deletes id d.request) && was_refused d) same.number
    ∙ ap (λ r. ((c.number == number) && deletes id r) && is_refusal r d.answer) same.request ∙ by (deletes id c.request) refl
  where
    by : (b : Bool) → deletes id c.request ≡ b
        → (((c.number == number) && deletes id c.request) && is_refusal c.request d.answer) ≡ (((c.number == number) && deletes id c.request) && was_refused c)
    by true e = ap (λ a. ((c.number == number) && deletes id c.request) && is_refusal c.request a) (answer e)
    by false e = ap (λ b. ((c.number == number) && b) && is_refusal c.request d.answer) e ∙ none (c.number == number) ∙ ap (λ b. ((c.number == number) && b) && was_refused c) (sym e)
      where
        none : (a : Bool) → ((a && false) && is_refusal c.request d.answer) ≡ ((a && false) && was_refused c)
        none true = refl
        none false = refl

-- rows that change and keep their calls and, where they delete the resource, their answers
refused_same : (number : ℕ) (id : List ℕ) (f : Call → Call) (cs : List Call) → ((c : Call) → IsSameCall c (f c))
    → ((c : Call) → In c cs → deletes id c.request ≡ true → (f c).answer ≡ c.answer) → refused_in number id (map f cs) ≡ refused_in number id cs
refused_same number id f cs same answers =
    as_many (is_refused_try number id) f cs (λ c i. same_try number id c (f c) (same c) (answers c i))

-- a row that has no answer yet
refused_new : (number n : ℕ) (id : List ℕ) (s : StackState) (p : Pending)
    → refused_in number id (s.ledger ++ new_call n s.status p ∷ []) ≡ refused_in number id s.ledger
refused_new number n id s p = grind (arith, filter-append, append-nil)

-- where nothing was deleted, nothing was refused
none_pass : {A : Type 0} (test : A → Bool) (xs : List A) → ((x : A) → In x xs → test x ≡ false) → filter test xs ≡ []
none_pass test [] h = refl
none_pass test (x ∷ xs) h = ap (λ b. cond b (x ∷ filter test xs) (filter test xs)) (h x here) ∙ none_pass test xs (λ y i. h y (there i))

none_refused : (s : StackState) → HasNoDeletion s → HasTriesLeft s
none_refused s none p id i e =
    let no : refusals_of id s ≡ 0 = ap (count_by was_refused) (none_pass (λ (c : Call). deletes id c.request) (own_calls s) (λ c j. none c j id)) in
    omega (arith, no)

-- What each entry leaves of them.
module _ (s : StackState) (h : HasTriesLeft s) where
  -- no call is opened, and rows keep their answers where they delete what an open call deletes
  fewer : (t : StackState) (f : Call → Call) → ((c : Call) → IsSameCall c (f c)) → t.operation ≡ s.operation → t.ledger ≡ map f s.ledger
      → ((p : Pending) → In p t.tokens → In p s.tokens)
      → ((p : Pending) (id : List ℕ) → In p t.tokens → p.request ≡ Request.Delete id → (c : Call) → In c s.ledger → deletes id c.request ≡ true
      → (f c).answer ≡ c.answer) → HasTriesLeft t
  fewer t f same operation ledger less answers p id i e =
      subst (λ n. n < 3) (sym (refusals_are id t ∙ ap (λ n. refused_in n id t.ledger) operation ∙ ap (refused_in s.operation id) ledger
      ∙ refused_same s.operation id f s.ledger same (answers p id i e) ∙ sym (refusals_are id s))) (h p id (less p i) e)

  alike : (t : StackState) → t.operation ≡ s.operation → t.ledger ≡ s.ledger → ((p : Pending) → In p t.tokens → In p s.tokens) → HasTriesLeft t
  alike t operation ledger less = fewer t (λ c. c) itself_same operation (ledger ∙ sym (map-id s.ledger)) less (λ p id i e c j d. refl)

  counted_anew : (t : StackState) → t.operation ≡ s.operation → t.ledger ≡ map anew s.ledger → t.tokens ≡ s.tokens → HasTriesLeft t
  counted_anew t operation ledger tokens = fewer t anew anew_same operation ledger (λ p i. subst (In p) tokens i) (λ p id i e c j d. refl)

  -- a resource is kept, and the calls on it are given up
  kept_left : (path physical : List ℕ) (w : Why) → HasTriesLeft (keeping path physical w s)
  kept_left path physical w =
      kept_way HasTriesLeft s h path physical w
      (alike (keeping_unknown path w s) refl refl (λ p i. (in_filter (λ q. not (is_create_at path q)) s.tokens p i).0))
      (alike (keeping_known path physical w s) refl refl (λ p i. (in_filter (λ q. not (is_on physical q)) s.tokens p i).0))

  -- a call goes out
  called_left : (number : ℕ) (p : Pending) → ((id : List ℕ) → p.request ≡ Request.Delete id → length (deletions_of id s) < 3)
      → HasTriesLeft (intending number p s)
  called_left number p few = intended_way HasTriesLeft s h number p (λ q id i e.
      subst (λ n. n < 3) (sym (refusals_are id called ∙ refused_new s.operation number id s p ∙ sym (refusals_are id s)))
      (in_more (λ z. z.request ≡ Request.Delete id → refusals_of id s < 3) p s.tokens (λ z j k. h z id j k)
      (λ k. let most = count_by-le-length was_refused (deletions_of id s) in let left = few id k in omega (arith, most, left)) q i e))
    where
      called : StackState
      called = record s { tokens = s.tokens ++ p ∷ []; ledger = s.ledger ++ new_call number s.status p ∷ [] }

  -- a call is answered
  module _ (x : World) (fits : Fits x s) (token : ℕ) (a : Reply) (p : Pending) (open_ : pending_of token s ≡ Some p) where
    of_tokens : In p s.tokens
    of_tokens = (found_one (has_token token) s.tokens p open_).0

    still : (b : Reply) (q : Pending) → In q (still_open token b s.tokens) → In q s.tokens
    still Reply.Doubt q i = i
    still b q i = (in_filter (λ (k : Pending). not (has_token token k)) s.tokens q i).0

    -- a row that deletes what another open call deletes is not the one that is answered
    other_row : (q : Pending) (id : List ℕ) → In q (without_token token s.tokens) → q.request ≡ Request.Delete id → (c : Call) → In c s.ledger
        → deletes id c.request ≡ true → is_call token c ≡ true → ⊥
    other_row q id i e c j d t =
        let f = in_filter (λ (k : Pending). not (has_token token k)) s.tokens q i in
        let mine : token ≡ p.token = eqb-true token p.token (found_one (has_token token) s.tokens p open_).1 in
        let row = row_is x s fits p c of_tokens j (sym mine ∙ eqb-true token c.token t) in
        let one = one_open x s fits id q p f.0 of_tokens e (sym row.request ∙ asks_for id c.request d) in
        true≢false (sym (ap (has_token token) one ∙ (found_one (has_token token) s.tokens p open_).1) ∙ not_so (has_token token q) f.1)

    same_answer : (b : Reply) (q : Pending) (id : List ℕ) → In q (still_open token b s.tokens) → q.request ≡ Request.Delete id → (c : Call)
        → In c s.ledger → deletes id c.request ≡ true → (answered_row token b c).answer ≡ c.answer
    same_answer b q id i e c j d = by b i (is_call token c) refl where
      by : (b : Reply) → In q (still_open token b s.tokens) → (k : Bool) → is_call token c ≡ k → (cond k (answered_call b c) c).answer ≡ c.answer
      by Reply.Doubt i k t = grind arith
      by b i false t = refl
      by (Reply.Failed k) i true t = absurd (other_row q id i e c j d t)
      by (Reply.Success physical attrs) i true t = absurd (other_row q id i e c j d t)

    closed_left : (hs ms : List Held) → HasTriesLeft (closing token a (record s { held = hs; made = ms }))
    closed_left hs ms = fewer (closing token a (record s { held = hs; made = ms })) (answered_row token a) (answered_row_same token a) refl refl (still a) (same_answer a)

    answered_tries : HasTriesLeft (closing token a (answered (is_restore token s) p.path p.request a s))
    answered_tries =
        let u : StackState = answered (is_restore token s) p.path p.request a s in
        subst (λ (z : StackState). HasTriesLeft (closing token a z)) (sym (answered_left (is_restore token s) p.path p.request a s).as_was) (closed_left u.held u.made)

  replied_left : (x : World) → Fits x s → (token : ℕ) (a : Reply) (o : Option Pending) → pending_of token s ≡ o → HasTriesLeft (replied token a o s)
  replied_left x fits token a None e = h
  replied_left x fits token a (Some p) e = answered_tries x fits token a p e

below_three : (n : ℕ) → nat_lt n 3 ≡ true → n < 3
below_three n e = grind (arith, nat_tests)

none_below_three : (n : ℕ) → (n == 0) ≡ true → n < 3
none_below_three n e = let is = eqb-true n 0 e in omega (arith, is)

-- what a phase deletes was tried fewer than three times
pub few_tries : (schemas : List Schema) (name : List ℕ) (x : World) (s : StackState) (stage : Stage) (path id : List ℕ)
    → IntendsIn stage schemas name x s path (Request.Delete id) → length (deletions_of id s) < 3
few_tries schemas name x s Forward path id may = absurd may.3
few_tries schemas name x s Clean path id (r, may, kept, at, is) =
    subst (λ i. length (deletions_of i s) < 3) (sym is) (below_three (length (deletions_of r.physical s)) may.2)
few_tries schemas name x s Back path id (inl (r, may, kept, at, is)) =
    subst (λ i. length (deletions_of i s) < 3) (sym is) (none_below_three (length (deletions_of r.physical s)) may.3)
few_tries schemas name x s Back path id (inr may) = absurd may
few_tries schemas name x s BackClean path id (r, may, kept, at, is) =
    subst (λ i. length (deletions_of i s) < 3) (sym is) (below_three (length (deletions_of r.physical s)) may.1)
few_tries schemas name x s Gone path id (r, may, kept, at, is) =
    subst (λ i. length (deletions_of i s) < 3) (sym is) (none_below_three (length (deletions_of r.physical s)) may.3)

module _ (schemas : List Schema) (x : World) (out name : List ℕ) (s : StackState) (fits : Fits x s) (h : HasTriesLeft s) where
  step_left : (place : ℕ) (e : Entry) (stage : Stage) → MayFollowIn schemas name x out s stage e → IsOwn s.operation e → HasTriesLeft (effect_at place e s).stack
  step_left place (Entry.Kept number path physical w) stage may own = kept_left s h path physical w
  step_left place (Entry.Intent number token lane path r) stage may own =
      called_left s h number (record { token = token; path = path; lane = lane; request = r }) (λ id e.
      few_tries schemas name x s stage path id (subst (IntendsIn stage schemas name x s path) e may.chosen))
  step_left place (Entry.Outcome number token a before after) stage may own = replied_left s h x fits token a (pending_of token s) refl
  step_left place (Entry.Phase number p c) stage may own =
      let l = turned_by place number p c s in counted_anew s h (effect_at place (Entry.Phase number p c) s).stack l.0 l.1 l.3
  step_left place (Entry.Done number state failed) stage may own = ended_left state where
    ended_left : (state : Status) → HasTriesLeft (effect_at place (Entry.Done number state failed) s).stack
    ended_left Status.CreateComplete = h
    ended_left Status.RollbackFailed = h
    ended_left Status.UpdateRollbackComplete = h
    ended_left Status.RollbackComplete = h
    ended_left Status.DeleteComplete = h
    ended_left v0 = h
  step_left place e stage may own = absurd own

  to_left : AreApart x → known_stack name x ≡ s → {e : Entry} {t : StackState} → IsTo schemas x out name s e t → HasTriesLeft t
  to_left apart was (step {e = e} stage at own may) = step_left (x.place + 1) e stage may own
  to_left apart was (begins k from by) = none_refused (effect_at (x.place + 1) (Entry.Begin (x.operation + 1) name k) s).stack (none_begun name (x.operation + 1) (x.place + 1) k s (λ c i.
      let a = fits.numbers c i in let b : s.operation ≤ x.operation = at_known_last in omega (arith, a, b)))
    where
      at_known_last : s.operation ≤ x.operation
      at_known_last = subst (λ (z : StackState). z.operation ≤ x.operation) was (at_known (λ (z : StackState). z.operation ≤ x.operation) x name (omega arith) (apart.last name))
  to_left apart was (reviewed number source rows outputs from) = h
  to_left apart was (opened epoch lanes) = counted_anew s h (effect_at (x.place + 1) (Entry.Opened epoch lanes) s).stack refl refl refl
  to_left apart was other = h

pub tries_stay_left : TriesStayLeft
tries_stay_left schemas x out e name s t w h = to_left schemas x out name s w.fits h w.apart w.was (written_is_to schemas x out e name s t w)
