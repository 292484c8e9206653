-- How many calls of a kind an operation has made: with each entry that is written it is one more, as many, or none of a new operation.
use Rattle.std.proofs.Common.{◌≡◌, ℕ, ◌+◌, ◌<◌, ◌≤◌, ◌==◌, ◌&&◌, Bool, true, false, List, [], ◌∷◌, ◌++◌, Option, Some, None, refl, sym, ap, subst, ◌∙◌, map, filter, length, length-append, cond, arith}
use Rattle.cf_core.proofs.Words.{AreApart, Begun, Call, Entry, Fits, In, IsOwn, IsTo, IsWritten, MayFollowIn, MayIntend, Pending, Reply, Request, Schema, Stage, StackState, Status, World, anew, begins, effect_at, here, intending, is_open_call, is_restore, known_stack, new_call, opened, own_calls, pending_of, replied, stage_of, step, there}
use Rattle.cf_core.proofs.Lemmas.{answered_left, eq-eqb, eqb-true, filter-append, in_changed, in_filter, map-id}
use Rattle.cf_core.proofs.{Cleanups.turned_by, FitKept.at_known, Moving.written_is_to, Statuses.intended_way, Statuses.kept_way, Tries.as_many}
use Rattle.cf_core.proofs.Rows.{IsSameCall, anew_same, answered_row, answered_row_same, itself_same}
use Rattle.cf_core.specs.Tokens.{number_of}
use Rattle.cf_core.specs.Written.{other, reviewed}
use Rattle.cf_plan.proofs.Told.{filter_filtered}

-- as an operation begins, all rows are of earlier ones, and so none is its own
pub numbers_low : (x : World) (name : List ℕ) (s : StackState) → Fits x s → AreApart x → known_stack name x ≡ s → (c : Call) → In c s.ledger → c.number < x.operation + 1
numbers_low x name s fits apart was c i = let a = fits.numbers c i in let b : s.operation ≤ x.operation = last in omega (arith, a, b) where
  last : s.operation ≤ x.operation
  last = subst (λ (z : StackState). z.operation ≤ x.operation) was (at_known (λ (z : StackState). z.operation ≤ x.operation) x name (omega arith) (apart.last name))

pub none_own_begun : (name : List ℕ) (number place : ℕ) (k : Begun) (s : StackState) → ((c : Call) → In c s.ledger → c.number < number) → (c : Call)
    → In c (own_calls (effect_at place (Entry.Begin number name k) s).stack) → ⊥
none_own_begun name number place k s low c = by k where
  of_rows : (t : StackState) (cs : List Call) → ((d : Call) → In d cs → d.number < number) → t.operation ≡ number → t.ledger ≡ map anew cs → In c (own_calls t) → ⊥
  of_rows t cs below operation ledger i =
      let f = in_filter (λ (d : Call). d.number == t.operation) t.ledger c i in
      let m = in_changed anew cs c (subst (In c) ledger f.0) in
      let lower = below m.one m.of_list in
      let same : c.number ≡ m.one.number = ap (λ (d : Call). d.number) (sym m.same) in
      let own : c.number ≡ t.operation = eqb-true c.number t.operation f.1 in
      omega (arith, lower, same, own, operation)

  kept_low : (d : Call) → In d (filter (is_open_call s.tokens) s.ledger) → d.number < number
  kept_low d i = low d (in_filter (is_open_call s.tokens) s.ledger d i).0

  by : (k : Begun) → In c (own_calls (effect_at place (Entry.Begin number name k) s).stack) → ⊥
  by (Begun.Create source) = of_rows (effect_at place (Entry.Begin number name (Begun.Create source)) s).stack (filter (is_open_call s.tokens) s.ledger) kept_low refl refl
  by (Begun.Update source) = of_rows (effect_at place (Entry.Begin number name (Begun.Update source)) s).stack (filter (is_open_call s.tokens) s.ledger) kept_low refl refl
  by (Begun.Delete paths) = of_rows (effect_at place (Entry.Begin number name (Begun.Delete paths)) s).stack (filter (is_open_call s.tokens) s.ledger) kept_low refl refl
  by (Begun.Continue paths) = of_rows (effect_at place (Entry.Begin number name (Begun.Continue paths)) s).stack s.ledger low refl refl

-- a kind of call is told by what stays of its row as it is answered
abbrev pub IsKind : (Call → Bool) → Type 0
IsKind test = (c d : Call) → IsSameCall c d → test d ≡ test c

-- how many there are as the stack s has changed
pub data Counts (schemas : List Schema) (x : World) (out name : List ℕ) (s : StackState) (test : Call → Bool) (now : ℕ) : Type 0 where
  as_before : now ≡ number_of test s → Counts schemas x out name s test now
  none_yet : now ≡ 0 → Counts schemas x out name s test now
  one_more :
      (stage : Stage) (token : ℕ) (lane path : List ℕ) (r : Request) → stage_of s.status ≡ Some stage
      → MayIntend schemas name x out s stage token lane path r
      → test (new_call s.operation s.status (record { token = token; path = path; lane = lane; request = r })) ≡ true
      → now ≡ number_of test s + 1 → Counts schemas x out name s test now

module _ (test : Call → Bool) (kind : IsKind test) where
  -- the row is of such a call by this operation
  abbrev is_own : ℕ → Call → Bool
  is_own number c = c.number == number && test c

  abbrev counted : ℕ → List Call → ℕ
  counted number cs = length (filter (is_own number) cs)

  numbers_are : (s : StackState) → number_of test s ≡ counted s.operation s.ledger
  numbers_are s = ap length (filter_filtered (λ c. c.number == s.operation) test s.ledger)

  own_same : (number : ℕ) (c d : Call) → IsSameCall c d → is_own number d ≡ is_own number c
  own_same number c d same = ap (λ n. n == number && test d) same.number ∙ ap (λ b. c.number == number && b) (kind c d same)

  counted_same : (number : ℕ) (f : Call → Call) (cs : List Call) → ((c : Call) → IsSameCall c (f c)) → counted number (map f cs) ≡ counted number cs
  counted_same number f cs same = as_many (is_own number) f cs (λ c i. own_same number c (f c) (same c))

  none_first : (number : ℕ) (c : Call) → c.number < number → is_own number c ≡ false
  none_first number c low = by (c.number == number) refl where
    by : (b : Bool) → (c.number == number) ≡ b → (b && test c) ≡ false
    by false e = refl
    by true e = let same : c.number ≡ number = eqb-true c.number number e in absurd (omega (arith, same, low))

  none_own : (number : ℕ) (cs : List Call) → ((c : Call) → In c cs → c.number < number) → counted number cs ≡ 0
  none_own number [] low = refl
  none_own number (c ∷ cs) low =
      ap (λ b. length (cond b (c ∷ filter (is_own number) cs) (filter (is_own number) cs))) (none_first number c (low c here))
      ∙ none_own number cs (λ d i. low d (there i))

  counted_more : (number : ℕ) (cs : List Call) (c : Call) → counted number (cs ++ c ∷ []) ≡ counted number cs + length (cond (is_own number c) (c ∷ []) [])
  counted_more number cs c =
      ap length (filter-append (is_own number) cs (c ∷ [])) ∙ length-append (filter (is_own number) cs) (filter (is_own number) (c ∷ []))

  -- What each entry leaves of them.
  module _ (schemas : List Schema) (x : World) (out name : List ℕ) (s : StackState) where
    abbrev To : StackState → Type 0
    To t = Counts schemas x out name s test (number_of test t)

    alike : (t : StackState) (f : Call → Call) → ((c : Call) → IsSameCall c (f c)) → t.operation ≡ s.operation → t.ledger ≡ map f s.ledger → To t
    alike t f same operation ledger = as_before
        (numbers_are t ∙ ap (λ n. counted n t.ledger) operation ∙ ap (counted s.operation) ledger ∙ counted_same s.operation f s.ledger same ∙ sym (numbers_are s))

    unchanged : (t : StackState) → t.operation ≡ s.operation → t.ledger ≡ s.ledger → To t
    unchanged t operation ledger = alike t (λ c. c) itself_same operation (ledger ∙ sym (map-id s.ledger))

    -- a call goes out
    called : (stage : Stage) (number token : ℕ) (lane path : List ℕ) (r : Request) → stage_of s.status ≡ Some stage
        → MayIntend schemas name x out s stage token lane path r → number ≡ s.operation
        → To (intending number (record { token = token; path = path; lane = lane; request = r }) s)
    called stage number token lane path r at may own = intended_way To s (as_before refl) number p (by (test c) refl) where
      p : Pending
      p = record { token = token; path = path; lane = lane; request = r }

      c : Call
      c = new_call s.operation s.status p

      t : StackState
      t = record s { tokens = s.tokens ++ p ∷ []; ledger = s.ledger ++ new_call number s.status p ∷ [] }

      rows : t.ledger ≡ s.ledger ++ c ∷ []
      rows = ap (λ n. s.ledger ++ new_call n s.status p ∷ []) own

      is_own_so : (b : Bool) → test c ≡ b → is_own s.operation c ≡ b
      is_own_so b e = ap (λ a. a && test c) (eq-eqb s.operation s.operation refl) ∙ e

      number_is : (b : Bool) → test c ≡ b → number_of test t ≡ number_of test s + length (cond b (c ∷ []) [])
      number_is b e =
          numbers_are t ∙ ap (counted s.operation) rows ∙ counted_more s.operation s.ledger c
          ∙ ap (λ k. counted s.operation s.ledger + length (cond k (c ∷ []) [])) (is_own_so b e)
          ∙ ap (λ n. n + length (cond b (c ∷ []) [])) (sym (numbers_are s))

      by : (b : Bool) → test c ≡ b → To t
      by true e = one_more stage token lane path r at may e (number_is true e)
      by false e = as_before (let is = number_is false e in omega (arith, is))

    -- a call is answered
    heard_of : (token : ℕ) (a : Reply) (o : Option Pending) → To (replied token a o s)
    heard_of token a None = as_before refl
    heard_of token a (Some p) =
        let left = (answered_left (is_restore token s) p.path p.request a s).as_was in
        alike (replied token a (Some p) s) (answered_row token a) (answered_row_same token a) (ap (λ (z : StackState). z.operation) left)
        (ap (λ (z : StackState). map (answered_row token a) z.ledger) left)

    ended : (place number : ℕ) (failed : List (List ℕ)) (state : Status) → To (effect_at place (Entry.Done number state failed) s).stack
    ended place number failed Status.CreateComplete = as_before refl
    ended place number failed Status.RollbackFailed = as_before refl
    ended place number failed Status.UpdateRollbackComplete = as_before refl
    ended place number failed Status.RollbackComplete = as_before refl
    ended place number failed Status.DeleteComplete = as_before refl
    ended place number failed state = as_before refl

    stepped : (place : ℕ) (e : Entry) (stage : Stage) → stage_of s.status ≡ Some stage → MayFollowIn schemas name x out s stage e → IsOwn s.operation e
        → To (effect_at place e s).stack
    stepped place (Entry.Kept number path physical w) stage at may own = kept_way To s (as_before refl) path physical w (as_before refl) (as_before refl)
    stepped place (Entry.Intent number token lane path r) stage at may own = called stage number token lane path r at may own
    stepped place (Entry.Outcome number token a before after) stage at may own = heard_of token a (pending_of token s)
    stepped place (Entry.Phase number p c) stage at may own =
        let l = turned_by place number p c s in alike (effect_at place (Entry.Phase number p c) s).stack anew anew_same l.0 l.1
    stepped place (Entry.Done number state failed) stage at may own = ended place number failed state
    stepped place e stage at may own = absurd own

    -- an operation begins: all rows are of earlier ones
    begun : (place number : ℕ) (k : Begun) → ((c : Call) → In c s.ledger → c.number < number) → To (effect_at place (Entry.Begin number name k) s).stack
    begun place number k low = none_yet (by k) where
      kept_low : (c : Call) → In c (filter (is_open_call s.tokens) s.ledger) → c.number < number
      kept_low c i = low c (in_filter (is_open_call s.tokens) s.ledger c i).0

      of_rows : (t : StackState) (cs : List Call) → ((c : Call) → In c cs → c.number < number) → t.operation ≡ number → t.ledger ≡ map anew cs → number_of test t ≡ 0
      of_rows t cs below operation ledger =
          numbers_are t ∙ ap (λ n. counted n t.ledger) operation ∙ ap (counted number) ledger ∙ counted_same number anew cs anew_same ∙ none_own number cs below

      by : (k : Begun) → number_of test (effect_at place (Entry.Begin number name k) s).stack ≡ 0
      by (Begun.Create source) = of_rows (effect_at place (Entry.Begin number name (Begun.Create source)) s).stack (filter (is_open_call s.tokens) s.ledger) kept_low refl refl
      by (Begun.Update source) = of_rows (effect_at place (Entry.Begin number name (Begun.Update source)) s).stack (filter (is_open_call s.tokens) s.ledger) kept_low refl refl
      by (Begun.Delete paths) = of_rows (effect_at place (Entry.Begin number name (Begun.Delete paths)) s).stack (filter (is_open_call s.tokens) s.ledger) kept_low refl refl
      by (Begun.Continue paths) = of_rows (effect_at place (Entry.Begin number name (Begun.Continue paths)) s).stack s.ledger low refl refl

    by_entry : Fits x s → AreApart x → known_stack name x ≡ s → {e : Entry} {t : StackState} → IsTo schemas x out name s e t → To t
    by_entry fits apart was (step {e = e} stage at own may) = stepped (x.place + 1) e stage at may own
    by_entry fits apart was (begins k from by) = begun (x.place + 1) (x.operation + 1) k (numbers_low x name s fits apart was)
    by_entry fits apart was (reviewed number source rows outputs from) = as_before refl
    by_entry fits apart was (opened epoch lanes) = alike (effect_at (x.place + 1) (Entry.Opened epoch lanes) s).stack anew anew_same refl refl
    by_entry fits apart was other = as_before refl

  -- so it is with each entry that is written
  pub counts : (schemas : List Schema) (x : World) (out : List ℕ) (e : Entry) (name : List ℕ) (s t : StackState) → IsWritten schemas x out e name s t
      → Counts schemas x out name s test (number_of test t)
  counts schemas x out e name s t w = by_entry schemas x out name s w.fits w.apart w.was (written_is_to schemas x out e name s t w)
