-- Cleanups: what each entry leaves of one, how it begins, that it goes on until nothing of it is left, and that it ends then.
use Rattle.std.proofs.Common.{◌≡◌, ◌⊎◌, inl, inr, Bool, true, false, List, [], ◌∷◌, refl, ℕ, ◌<◌, Option, Some, None, sym, ap, ◌∙◌, find, arith, ◌≢◌, ◌+◌, ◌==◌, not, ◌&&◌, ◌++◌, subst, true≢false, map, filter, length, ◌≤◌, nat_lt}
use Rattle.cf_core.proofs.Words.{In, change_first, cond, here, there, Begun, Call, Cause, Fits, IsCleanup, IsTrue, MayTurn, Phase, Schema, StackState, Stage, Status, World, begins_from, has_token, is_call, list_any, of_rollback, of_update, reviewed as reviewed_status, stage_of, BackClean, Clean, HoldsWhole, IsCleaning, IsCleaningBack, IsTidying, cleaned_in, Code, EndsAs, Entry, Held, HeldStatus, IntendsIn, IsOwn, IsRowOf, IsTo, IsTried, MayFollowIn, MayIntend, Pending, Reply, Request, TidyingStays, Why, all_differ, anew, answered, answered_call, begins, bytes_eq, call_under as call_of, closing, deletes, deletions_of, effect_at, first_so, has_physical, id_named, intending, is_create_at, is_on, is_open_call, is_refusal, is_restore, keeping, keeping_known, new_call, opened, option_map_or, pending_of, refusals_of, replied, resources_of, second_so, step, was_refused, where_call, where_physical, with_status, without, without_token, AllDone, AreApart, BackTidyingBegins, HasNoDeletion, IsAdvancing, IsDone, IsMove, IsReady, NothingDeleted, Source, TidyingBegins, deletes_nothing, known_stack, turned, AreFailed, CleanupGoesOn, FitsLane, Gone, HasNext, IsAtEnd, IsNamedLane, IsOfLane, IsTidied, MayDelete, MayKeep, MayRepeat, MayStep, StepsIn, TidyingEnds, calls_in_flight, cleaned_up, doubts_of, is_empty, is_free, is_in_flight, is_lane_leased, is_tried_less, keeps, marked, none_in_flight, stack_of_operation, waits_for_repeats}
use Rattle.cf_core.proofs.Lemmas.{eqb-true, found_one, none_any, in_filter, in_kept, and_from, and_left, and_right, any_of, bytes_eq-Decides, cases_Bool, differ_less, either_way, end_status, eq-eqb, in_changed, in_end, in_front, in_more, in_one, not_so, one_id, one_number, some_of, answered_left, like_intended, like_kept, like_replied, in_back, ltb-false}
use Rattle.cf_core.specs.Written.{other, reviewed}
use Rattle.cf_core.proofs.{AdvSteps.row_only, Moving.written_is_to, Rows.answered_row, Rows.answered_same, Statuses.intended_way, Statuses.kept_way, Moving.written_moves, BackSteps.map_same}
use Rattle.std.proofs.lemmas.List.Sums.{length-filter}
use Rattle.cf_core.specs.Moving as move

-- A list of which one is changed.

-- a list of which the first that passes is changed has each member, as it was or changed
module _ {A : Type 0} (test : A → Bool) (change : A → A) where
  abbrev pub IsOf : A → A → Type 0
  IsOf x y = (y ≡ x) ⊎ (y ≡ change x)

  pub from_changed : (xs : List A) (y : A) → In y (change_first test change xs) → (x : A) × In x xs × IsOf x y
  from_changed [] y i = elim i [ ]
  from_changed (x ∷ xs) y i = by (test x) i (from_changed xs y) where
    head : (z : A) (zs : List A) → IsOf x z → In y (z ∷ zs) → (In y zs → (w : A) × In w (x ∷ xs) × IsOf w y) → (w : A) × In w (x ∷ xs) × IsOf w y
    head z zs o here more = (x, here, o)
    head z zs o (there j) more = more j

    by : (b : Bool) → In y (cond b (change x ∷ xs) (x ∷ change_first test change xs)) → (In y (change_first test change xs) → (w : A) × In w xs × IsOf w y)
        → (w : A) × In w (x ∷ xs) × IsOf w y
    by true j more = head (change x) xs (inr refl) j (λ k. (y, there k, inl refl))
    by false j more = head x (change_first test change xs) (inl refl) j (λ k. let w = more k in (w.0, there w.1, w.2))

  pub to_changed : (xs : List A) (x : A) → In x xs → (y : A) × In y (change_first test change xs) × IsOf x y
  to_changed (z ∷ xs) x here = by (test x) where
    by : (b : Bool) → (y : A) × In y (cond b (change x ∷ xs) (x ∷ change_first test change xs)) × IsOf x y
    by true = (change x, here, inr refl)
    by false = (x, here, inl refl)
  to_changed (z ∷ xs) x (there i) = by (test z) (to_changed xs x i) where
    by : (b : Bool) → ((y : A) × In y (change_first test change xs) × IsOf x y) → (y : A) × In y (cond b (change z ∷ xs) (z ∷ change_first test change xs)) × IsOf x y
    by true w = (x, there i, inl refl)
    by false w = (w.0, there w.1, w.2)
  to_changed [] x i = elim i [ ]

-- A new token, and what does not come in a cleanup.

pub some_same : {A : Type 0} (a b : A) → Some a ≡ Some b → a ≡ b
some_same a b e = cc

-- a token above the last one is that of no call
module _ (x : World) (s : StackState) (fits : Fits x s) (token : ℕ) (new : x.token < token) where
  not_called : (c : Call) → find (is_call token) s.ledger ≡ Some c → ⊥
  not_called c f =
      let one = found_one (is_call token) s.ledger c f in
      let same = eqb-true token c.token one.1 in
      let low = fits.last c one.0 in
      omega (arith, same, low, new)

  pub new_called : find (is_call token) s.ledger ≡ None
  new_called = grind (arith, not_called)

  pub new_open : list_any (has_token token) s.tokens ≡ false
  new_open = grind (arith, none_any, not_called, eqb-true)

pub cleanup_stage : (stage : Stage) (at : Status) → IsCleanup stage at → stage_of at ≡ Some stage
cleanup_stage stage at cleanup = grind arith

-- no later phase begins in a cleanup
pub never_turns : (schemas : List Schema) (name : List ℕ) (x : World) (s : StackState) (stage : Stage) (at : Status) → IsCleanup stage at → s.status ≡ at → (p : Phase)
    → (c : Option Cause) → MayTurn schemas name x s p c → ⊥
never_turns schemas name x s stage at cleanup is p c may = grind arith

-- The parts of a cleanup's record say that what it cleans up is tidied, and the other way round.

pub of_cleaning : (name : List ℕ) (x : World) (s : StackState) → IsCleaning name x s → IsTidying (cleaned_in Clean s) s
of_cleaning name x s h = grind (arith, in_kept, in_filter)

pub cleaning_of : (name : List ℕ) (x : World) (s : StackState) → HoldsWhole name x s → IsTidying (cleaned_in Clean s) s → IsCleaning name x s
cleaning_of name x s w h = grind (arith, in_filter, in_kept)

pub of_cleaning_back : (s : StackState) → IsCleaningBack s → IsTidying (cleaned_in BackClean s) s
of_cleaning_back s h = record { calls = h.calls; tried = h.tried }

-- Each entry leaves a cleanup as it has to be: of what is cleaned up, each deletion was refused or is open.

-- Of a list as many pass a test as do not, together; and those of one alone are one.
halves : {A : Type 0} (test : A → Bool) (xs : List A) → length xs ≡ length (filter test xs) + length (filter (λ x. not (test x)) xs)
halves test [] = refl
halves test (x ∷ xs) = grind (arith, halves test xs)

only_in : {A : Type 0} (xs : List A) → length xs ≡ 1 → (x y : A) → In x xs → In y xs → x ≡ y
only_in [] e x y i j = elim i [ ]
only_in (z ∷ []) e x y i j = in_one x z i ∙ sym (in_one y z j)
only_in (z ∷ w ∷ xs) e x y i j = absurd (omega arith)

none_in : {A : Type 0} (xs : List A) → length xs ≡ 0 → (x : A) → In x xs → ⊥
none_in v0 e x i = grind arith

-- the row is of a deletion of this resource by this operation; it was refused, or is open
abbrev pub is_try : ℕ → List ℕ → Call → Bool
is_try number id c = c.number == number && deletes id c.request

abbrev pub IsRefusedOrOpen : List Pending → Call → Type 0
IsRefusedOrOpen ps c = (was_refused c ≡ true) ⊎ (is_open_call ps c ≡ true)

-- so it is of each row of what is cleaned up, and each open call deletes one of that
abbrev pub AllTried : ℕ → List Pending → List Call → List ℕ → Type 0
AllTried number ps cs id = (c : Call) → In c cs → is_try number id c ≡ true → IsRefusedOrOpen ps c

abbrev pub Deletes : List Held → Pending → Type 0
Deletes rs p = (r : Held) × In r rs × (p.request ≡ Request.Delete r.physical) × (p.path ≡ r.path)

pub record Tidies (rs : List Held) (number : ℕ) (ps : List Pending) (cs : List Call) : Type 0 where
  pub calls : (p : Pending) → In p ps → Deletes rs p
  pub tried : (r : Held) → In r rs → AllTried number ps cs r.physical

pub asks_for : (id : List ℕ) (r : Request) → deletes id r ≡ true → r ≡ Request.Delete id
asks_for id r e = grind (arith, bytes_eq-Decides)

-- That says what the counts say.
module _ (x : World) (s : StackState) (fits : Fits x s) where
  -- an open call of a row
  call_open : (c : Call) → In c s.ledger → is_open_call s.tokens c ≡ true → (p : Pending) × In p s.tokens × (call_of p.token s ≡ Some c) × IsRowOf p c
  call_open c i e =
      let p = some_of (has_token c.token) s.tokens e in
      let r = fits.rows p.one p.of_list in
      let f = found_one (is_call p.one.token) s.ledger r.0 r.1 in
      let same : r.0 ≡ c = one_number (λ d. d.token) s.ledger fits.row_tokens r.0 c f.0 i
      (sym (eqb-true p.one.token r.0.token f.1) ∙ sym (eqb-true c.token p.one.token p.passes)) in
      (p.one, p.of_list, subst (λ d. call_of p.one.token s ≡ Some d) same r.1, subst (IsRowOf p.one) same r.2)

  -- two open deletions of a resource are one
  pub one_open : (id : List ℕ) (p q : Pending) → In p s.tokens → In q s.tokens → p.request ≡ Request.Delete id → q.request ≡ Request.Delete id → p ≡ q
  one_open id p q i j e f =
      let a = fits.named p id i (ap id_named e) in
      let b = fits.named q id j (ap id_named f) in
      let same : a.0 ≡ b.0 = one_id (λ r. r.physical) (resources_of s) fits.ids a.0 b.0 a.1 b.1 (a.2 ∙ sym b.2) in
      fits.paths p q i j (sym a.3 ∙ ap (λ r. r.path) same ∙ b.3)

  module _ (id : List ℕ) where
    -- those that were not refused
    abbrev rest : List Call
    rest = filter (λ c. not (was_refused c)) (deletions_of id s)

    count : length (deletions_of id s) ≡ refusals_of id s + length rest
    count = halves was_refused (deletions_of id s) ∙ ap (λ n. n + length rest) (length-filter was_refused (deletions_of id s))

    in_rest : (c : Call) → In c s.ledger → is_try s.operation id c ≡ true → was_refused c ≡ false → In c rest
    in_rest c i t n = grind (arith, in_kept, and_left, and_right)

    from_rest : (c : Call) → In c rest → In c s.ledger × (is_try s.operation id c ≡ true) × (was_refused c ≡ false)
    from_rest c i = grind (arith, in_filter, and_from, not_so)

    to_tried : IsTried s id → AllTried s.operation s.tokens s.ledger id
    to_tried h c i t = elim (cases_Bool (was_refused c)) [ inl e ↦ inl e | inr e ↦ by h (in_rest c i t e) ] where
      by : IsTried s id → In c rest → IsRefusedOrOpen s.tokens c
      by (inl l) j = absurd (none_in rest (let n = count in omega arith) c j)
      by (inr (p, o, l)) j =
          let row = fits.rows p o.0 in
          let f = found_one (is_call p.token) s.ledger row.0 row.1 in
          let own : row.0.number ≡ s.operation = ap (λ (d : Call). d.number) (some_same row.0 o.2.0 (sym row.1 ∙ o.2.1)) ∙ o.2.2 in
          let k : In row.0 rest = grind (arith, in_rest row.0 f.0, bytes_eq-Decides id id, eq-eqb) in
          let same : c ≡ row.0 = only_in rest (let n = count in omega arith) c row.0 j k in
          grind (arith, any_of (has_token c.token) s.tokens p o.0, eq-eqb, eqb-true)

    of_tried : AllTried s.operation s.tokens s.ledger id → IsTried s id
    of_tried h = by rest refl where
      -- the call of a row that was not refused
      of_row : (c : Call) → In c rest → (p : Pending) × In p s.tokens × (call_of p.token s ≡ Some c) × IsRowOf p c
      of_row c i = let r = from_rest c i in elim (h c r.0 r.1) [ inl e ↦ absurd (true≢false (sym e ∙ r.2)) | inr o ↦ call_open c r.0 o ]

      one_row : (c d : Call) → In c rest → In d rest → c ≡ d
      one_row c d i j =
          let p = of_row c i in let q = of_row d j in
          let same = one_open id p.0 q.0 p.1 q.1 (sym p.3.request ∙ asks_for id c.request (second_so (c.number == s.operation) _ (from_rest c i).1))
          (sym q.3.request ∙ asks_for id d.request (second_so (d.number == s.operation) _ (from_rest d j).1)) in
          some_same c d (sym p.2 ∙ ap (λ (k : Pending). call_of k.token s) same ∙ q.2)

      differ : all_differ ◌==◌ (map (λ (c : Call). c.token) rest) ≡ true
      differ = grind (arith, differ_less)

      by : (cs : List Call) → rest ≡ cs → IsTried s id
      by [] e = inl (count ∙ ap (λ (cs : List Call). refusals_of id s + length cs) e ∙ omega arith)
      by (c ∷ []) e = let i : In c rest = subst (In c) (sym e) here in
          let p = of_row c i in
          inr (
            p.0,
            (p.1, sym p.3.request ∙ asks_for id c.request (second_so (c.number == s.operation) _ (from_rest c i).1), (c, p.2, eqb-true c.number s.operation (first_so (c.number == s.operation) _ (from_rest c i).1))),
            count ∙ ap (λ (cs : List Call). refusals_of id s + length cs) e,
          )
      by (c ∷ d ∷ cs) e = grind (arith, one_row c d, differ, eq-eqb c.token d.token, here, there)

  to_tidies : (rs : List Held) → IsTidying rs s → Tidies rs s.operation s.tokens s.ledger
  to_tidies rs h = record { calls = h.calls; tried = λ r i. to_tried r.physical (h.tried r i) }

  pub of_tidies : (rs : List Held) → Tidies rs s.operation s.tokens s.ledger → IsTidying rs s
  of_tidies rs h = record { calls = h.calls; tried = λ r i. of_tried r.physical (h.tried r i) }

-- What a cleanup cleans up, by what is held and made.
abbrev cleaned : Stage → List Held → List Held → List Held
cleaned Clean hs ms = filter (λ r. r.superseded) hs
cleaned stage hs ms = ms

cleaned_is : (stage : Stage) (at : Status) → IsCleanup stage at → (s : StackState) → cleaned_in stage s ≡ cleaned stage s.held s.made
cleaned_is stage at cleanup s = grind arith

-- what is left of the resources: each of these is one of those, and those that stay are among them
record AreLeft (Stays : Held → Type 0) (rs left : List Held) : Type 0 where
  from : (r : Held) → In r left → (q : Held) × In q rs × Stays q × (q.physical ≡ r.physical)
  to : (q : Held) → In q rs → Stays q → (r : Held) × In r left × (r.physical ≡ q.physical) × (r.path ≡ q.path)

-- the resource of an id is off its list
abbrev IsOther : List ℕ → Held → Type 0
IsOther id q = q.physical ≢ id

other_kept : (id : List ℕ) (q : Held) → not (has_physical id q) ≡ true → q.physical ≢ id
other_kept id q e same = true≢false (sym ((bytes_eq-Decides id q.physical).1 (sym same)) ∙ not_so _ e)

left_deleted : (stage : Stage) (id : List ℕ) (hs ms : List Held) → AreLeft (IsOther id) (cleaned stage hs ms) (cleaned stage (without id hs) (without id ms))
left_deleted stage id hs ms = grind (arith, in_filter, in_kept, other_kept, bytes_eq-Decides)

-- one gets another status
abbrev IsAny : Held → Type 0
IsAny q = Unit {0}

record AreLike (rs ls : List Held) : Type 0 where
  from : (r : Held) → In r ls → (q : Held) × In q rs × (q.physical ≡ r.physical) × (q.superseded ≡ r.superseded)
  to : (q : Held) → In q rs → (r : Held) × In r ls × (r.physical ≡ q.physical) × (r.path ≡ q.path) × (r.superseded ≡ q.superseded)

like_itself : (rs : List Held) → AreLike rs rs
like_itself rs = record { from = λ r i. (r, i, refl, refl); to = λ q i. (q, i, refl, refl, refl) }

kept_by : (id : List ℕ) (state : HeldStatus) (q r : Held) → (r ≡ q) ⊎ (r ≡ record q { status = state }) → (r.physical ≡ q.physical) × (r.path ≡ q.path) × (r.superseded ≡ q.superseded)
kept_by id state q r k = grind arith

like_restated : (id : List ℕ) (state : HeldStatus) (rs : List Held) → AreLike rs (where_physical id (λ h. record h { status = state }) rs)
like_restated id state rs = record {
  from = λ r i. let w = from_changed (has_physical id) (λ h. record h { status = state }) rs r i in let k = kept_by id state w.0 r w.2 in (w.0, w.1, sym k.0, sym k.2);
  to = λ q i. let w = to_changed (has_physical id) (λ h. record h { status = state }) rs q i in let k = kept_by id state q w.0 w.2 in (w.0, w.1, k.0, k.1, k.2);
}

left_all : (hs gs : List Held) → AreLike hs gs → AreLeft IsAny hs gs
left_all hs gs h = record { from = λ r i. let w = h.from r i in (w.0, w.1, tt, w.2); to = λ q i n. let w = h.to q i in (w.0, w.1, w.2, w.3) }

left_like : (stage : Stage) (hs ms gs ns : List Held) → AreLike hs gs → AreLike ms ns → AreLeft IsAny (cleaned stage hs ms) (cleaned stage gs ns)
left_like Clean hs ms gs ns h m = left_all (filter (λ q. q.superseded) hs) (filter (λ q. q.superseded) gs) (record {
  from = λ r i. let f = in_filter (λ q. q.superseded) gs r i in let w = h.from r f.0 in (w.0, in_kept (λ q. q.superseded) hs w.0 w.1 (w.3 ∙ f.1), w.2, w.3);
  to = λ q i. let f = in_filter (λ k. k.superseded) hs q i in let w = h.to q f.0 in (w.0, in_kept (λ k. k.superseded) gs w.0 w.1 (w.4 ∙ f.1), w.2, w.3, w.4);
})
left_like stage hs ms gs ns h m = left_all ms ns m

-- What each entry leaves.
module _ (x : World) (s : StackState) (fits : Fits x s) (stage : Stage) (h : Tidies (cleaned stage s.held s.made) s.operation s.tokens s.ledger) where
  abbrev rs : List Held
  rs = cleaned stage s.held s.made

  abbrev Tidy : StackState → Type 0
  Tidy t = Tidies (cleaned stage t.held t.made) t.operation t.tokens t.ledger

  carried : (Stays : Held → Type 0) (left : List Held) (ps : List Pending) (cs : List Call) → AreLeft Stays rs left → ((p : Pending) → In p ps → In p s.tokens)
      → ((p : Pending) → In p ps → (q : Held) → In q rs → p.request ≡ Request.Delete q.physical → Stays q)
      → ((q : Held) → In q rs → Stays q → AllTried s.operation ps cs q.physical) → Tidies left s.operation ps cs
  carried Stays left ps cs l less stays tried = record {
    calls = λ p i. let w = h.calls p (less p i) in let k = l.to w.0 w.1 (stays p i w.0 w.1 w.2) in (k.0, k.1, w.2 ∙ ap (λ id. Request.Delete id) (sym k.2), w.3 ∙ sym k.3);
    tried = λ r i. let w = l.from r i in subst (AllTried s.operation ps cs) w.3 (tried w.0 w.1 w.2);
  }

  -- all rows are counted anew
  tidy_anew : Tidies rs s.operation s.tokens (map anew s.ledger)
  tidy_anew = grind (arith, in_changed)

  -- a deletion goes out
  tidy_called : (q : Pending) (number : ℕ) → Deletes rs q → Tidies rs s.operation (s.tokens ++ q ∷ []) (s.ledger ++ new_call number s.status q ∷ [])
  tidy_called q number d = record {
    calls = in_more (Deletes rs) q s.tokens h.calls d;
    tried = λ r i. in_more (λ c. is_try s.operation r.physical c ≡ true → IsRefusedOrOpen (s.tokens ++ q ∷ []) c) (new_call number s.status q) s.ledger
        (λ c j t. elim (h.tried r i c j t) [
          | inl e ↦ inl e
          | inr e ↦ (let p = some_of (has_token c.token) s.tokens e in inr (any_of (has_token c.token) (s.tokens ++ q ∷ []) p.one (in_front p.one s.tokens (q ∷ []) p.of_list) p.passes))
        ]) (λ t. inr (any_of (has_token q.token) (s.tokens ++ q ∷ []) q (in_end q s.tokens) (eq-eqb q.token q.token refl)));
  }

  -- A resource is kept: no create is open.
  module _ (path physical : List ℕ) (w : Why) where
    no_create : list_any (is_create_at path) s.tokens ≡ false
    no_create = none_any (is_create_at path) s.tokens (λ p i e. let c = h.calls p i in grind (arith, and_left))

    abbrev left : List Pending
    left = filter (λ k. not (is_on physical k)) s.tokens

    kept_known : Tidy (keeping_known path physical w s)
    kept_known =
        carried (IsOther physical) (cleaned stage (without physical s.held) (without physical s.made)) left s.ledger (left_deleted stage physical s.held s.made)
        (λ p i. (still p i).0) (λ p i q j e same. true≢false (sym (on_it p q.physical e same) ∙ not_so _ (still p i).1))
        (λ q i n c j t. elim (h.tried q i c j t) [
          | inl e ↦ inl e
          | inr e ↦ (let p = call_open x s fits c j e in
              inr (any_of (has_token c.token) left p.0 (stays p.0 q.physical p.1 (sym p.3.request ∙ asks_for q.physical c.request (second_so (c.number == s.operation) _ t)) n) (token_is c j p.0 p.2)))
        ]) where
          still : (p : Pending) → In p left → In p s.tokens × (not (is_on physical p) ≡ true)
          still p i = in_filter (λ k. not (is_on physical k)) s.tokens p i

          on_it : (p : Pending) (id : List ℕ) → p.request ≡ Request.Delete id → id ≡ physical → is_on physical p ≡ true
          on_it p id e same = ap (λ k. option_map_or (bytes_eq physical) (id_named k) false) e ∙ (bytes_eq-Decides physical id).1 (sym same)

          stays : (p : Pending) (id : List ℕ) → In p s.tokens → p.request ≡ Request.Delete id → id ≢ physical → In p left
          stays p id i e n = grind (arith, in_kept, bytes_eq-Decides)

          token_is : (c : Call) → In c s.ledger → (p : Pending) → call_of p.token s ≡ Some c → has_token c.token p ≡ true
          token_is c j p e = eq-eqb c.token p.token (sym (eqb-true p.token c.token (found_one (is_call p.token) s.ledger c e).1))

    tidy_kept : Tidy (keeping path physical w s)
    tidy_kept = grind (arith, no_create, kept_known)

  -- A deletion is answered.
  module _ (token : ℕ) (p : Pending) (open_ : pending_of token s ≡ Some p) (id : List ℕ) (deletes_it : p.request ≡ Request.Delete id) where
    of_tokens : In p s.tokens
    of_tokens = (found_one (has_token token) s.tokens p open_).0

    abbrev row : Call
    row = (fits.rows p of_tokens).0

    one_row : (c : Call) → In c s.ledger → is_call token c ≡ true → c ≡ row
    one_row = row_only x s fits token p of_tokens (found_one (has_token token) s.tokens p open_).1

    -- its row is refused, or open, where it counts; the other rows and calls stay
    closed : (a : Reply) (Stays : Held → Type 0) (left : List Held) (ps : List Pending) → AreLeft Stays rs left → ((q : Pending) → In q ps → In q s.tokens)
        → ((q : Pending) → In q ps → (r : Held) → In r rs → q.request ≡ Request.Delete r.physical → Stays r)
        → ((q : Pending) → In q s.tokens → has_token token q ≡ false → In q ps)
        → ((r : Held) → Stays r → is_try s.operation r.physical row ≡ true → IsRefusedOrOpen ps (answered_call a row))
        → Tidies left s.operation ps (where_call token (answered_call a) s.ledger)
    closed a Stays left ps l less stays more last = carried Stays left ps (where_call token (answered_call a) s.ledger) l less stays (λ r i n c j t.
        let m = in_changed (answered_row token a) s.ledger c j in
        subst (IsRefusedOrOpen ps) m.same (each r i n m.one m.of_list (is_call token m.one) refl (ap (is_try s.operation r.physical) m.same ∙ t))) where
          each : (r : Held) → In r rs → Stays r → (c : Call) → In c s.ledger → (b : Bool) → is_call token c ≡ b
              → is_try s.operation r.physical (cond b (answered_call a c) c) ≡ true → IsRefusedOrOpen ps (cond b (answered_call a c) c)
          each r i n c j true e t =
              let k = answered_same a c in
              subst (λ d. IsRefusedOrOpen ps (answered_call a d)) (sym (one_row c j e)) (last r n (ap (is_try s.operation r.physical) (sym (one_row c j e))
              ∙ ap (λ m. (m == s.operation) && deletes r.physical c.request) (sym k.number) ∙ ap (λ q. ((answered_call a c).number == s.operation) && deletes r.physical q) (sym k.request) ∙ t))
          each r i n c j false e t = elim (h.tried r i c j t) [
            | inl f ↦ inl f
            | inr f ↦ (let q = some_of (has_token c.token) s.tokens f in
                inr (any_of (has_token c.token) ps q.one (more q.one q.of_list (ap (λ m. token == m) (sym (eqb-true c.token q.one.token q.passes)) ∙ e)) q.passes))
          ]

    other_open : (q : Pending) → In q (without_token token s.tokens) → In q s.tokens × (has_token token q ≡ false)
    other_open q i = let f = in_filter (λ k. not (has_token token k)) s.tokens q i in (f.0, not_so (has_token token q) f.1)

    still_other : (q : Pending) → In q s.tokens → has_token token q ≡ false → In q (without_token token s.tokens)
    still_other q i e = in_kept (λ k. not (has_token token k)) s.tokens q i (ap not e)

    -- its resource is gone
    tidy_gone : (a : Reply) → Tidies (cleaned stage (without id s.held) (without id s.made)) s.operation (without_token token s.tokens) (where_call token (answered_call a) s.ledger)
    tidy_gone a = closed a (IsOther id) (cleaned stage (without id s.held) (without id s.made)) (without_token token s.tokens) (left_deleted stage id s.held s.made)
        (λ q i. (other_open q i).0) (λ q i r j e same. let o = other_open q i in
        let it = one_open x s fits id q p o.0 of_tokens (e ∙ ap (λ k. Request.Delete k) same) deletes_it in
        true≢false (sym (found_one (has_token token) s.tokens p open_).1 ∙ ap (has_token token) (sym it) ∙ o.1)) still_other
        (λ r n t. absurd (n ((bytes_eq-Decides r.physical id).0
        (ap (deletes r.physical) (sym ((fits.rows p of_tokens).2.request ∙ deletes_it)) ∙ second_so (row.number == s.operation) _ t))))

    -- it was refused
    tidy_refused : (k : Code) → is_refusal (Request.Delete id) (answered_call (Reply.Failed k) row).answer ≡ true
        → Tidy (closing token (Reply.Failed k) (with_status id HeldStatus.DeleteFailed s))
    tidy_refused k e = either_way (λ u. Tidy (closing token (Reply.Failed k) u)) (list_any (has_physical id) s.held)
        (record s { held = where_physical id change s.held }) (record s { made = where_physical id change s.made })
        (by (where_physical id change s.held) s.made (like_restated id HeldStatus.DeleteFailed s.held) (like_itself s.made))
        (by s.held (where_physical id change s.made) (like_itself s.held) (like_restated id HeldStatus.DeleteFailed s.made)) where
          change : Held → Held
          change r = record r { status = HeldStatus.DeleteFailed }

          by : (hs ms : List Held) → AreLike s.held hs → AreLike s.made ms
              → Tidies (cleaned stage hs ms) s.operation (without_token token s.tokens) (where_call token (answered_call (Reply.Failed k)) s.ledger)
          by hs ms l m = closed (Reply.Failed k) IsAny (cleaned stage hs ms) (without_token token s.tokens) (left_like stage s.held s.made hs ms l m)
              (λ q i. (other_open q i).0) (λ q i r j f. tt) still_other
              (λ r n t. inl (ap (λ q. is_refusal q (answered_call (Reply.Failed k) row).answer) ((fits.rows p of_tokens).2.request ∙ deletes_it) ∙ e))

    by_code : (k : Code) → Tidy (closing token (Reply.Failed k) (answered (is_restore token s) p.path (Request.Delete id) (Reply.Failed k) s))
    by_code k = grind (arith, tidy_gone, tidy_refused)

    tidy_answered : (a : Reply) → Tidy (closing token a (answered (is_restore token s) p.path (Request.Delete id) a s))
    tidy_answered (Reply.Success physical attrs) = tidy_gone (Reply.Success physical attrs)
    tidy_answered (Reply.Failed k) = by_code k
    tidy_answered Reply.Doubt = closed Reply.Doubt IsAny rs s.tokens (left_like stage s.held s.made s.held s.made (like_itself s.held) (like_itself s.made))
        (λ q i. i) (λ q i r j e. tt) (λ q i e. i)
        (λ r n t. inr (any_of (has_token row.token) s.tokens p of_tokens (eq-eqb row.token p.token (sym (eqb-true p.token row.token (found_one (is_call p.token) s.ledger row (fits.rows p of_tokens).1).1)))))

  tidy_replied : (token : ℕ) (a : Reply) (o : Option Pending) → pending_of token s ≡ o → Tidy (replied token a o s)
  tidy_replied token a None e = h
  tidy_replied token a (Some p) e =
      let c = h.calls p (found_one (has_token token) s.tokens p e).0 in
      subst (λ r. Tidy (closing token a (answered (is_restore token s) p.path r a s))) (sym c.2) (tidy_answered token p e c.0.physical c.2 a)

-- what a cleanup may delete is what it cleans up
pub deleted_of :
    (schemas : List Schema) (name : List ℕ) (x : World) (s : StackState) (stage : Stage) (at : Status) → IsCleanup stage at → (path : List ℕ) (q : Request)
    → IntendsIn stage schemas name x s path q → (r : Held) × In r (cleaned_in stage s) × (q ≡ Request.Delete r.physical) × (path ≡ r.path)
deleted_of schemas name x s stage at v6 path q may = grind (arith, in_kept)

never_ends : (schemas : List Schema) (name : List ℕ) (x : World) (s : StackState) (stage : Stage) (at : Status) → IsCleanup stage at → EndsAs schemas name x s at at → ⊥
never_ends schemas name x s stage at cleanup e = grind arith

module _ (schemas : List Schema) (x : World) (out : List ℕ) (name : List ℕ) (s : StackState) (stage : Stage) (at : Status) (cleanup : IsCleanup stage at)
    (is : s.status ≡ at) (fits : Fits x s) (h : Tidies (cleaned stage s.held s.made) s.operation s.tokens s.ledger) where
  by_own : (place : ℕ) (e : Entry) → MayFollowIn schemas name x out s stage e → (effect_at place e s).stack.status ≡ at → Tidy x s fits stage h (effect_at place e s).stack
  by_own place (Entry.Kept number path physical w) may e = tidy_kept x s fits stage h path physical w
  by_own place (Entry.Intent number token lane path r) may e =
      let q : Pending = record { token = token; path = path; lane = lane; request = r } in
      let d : Deletes (cleaned stage s.held s.made) q = subst (λ rs. Deletes rs q) (cleaned_is stage at cleanup s) (deleted_of schemas name x s stage at cleanup path r may.chosen) in
      either_way (Tidy x s fits stage h) (list_any (has_token token) s.tokens) s (record s { tokens = s.tokens ++ q ∷ []; ledger = s.ledger ++ new_call number s.status q ∷ [] })
      h (tidy_called x s fits stage h q number d)
  by_own place (Entry.Outcome number token a before after) may e = tidy_replied x s fits stage h token a (pending_of token s) refl
  by_own place (Entry.Phase number p c) may e = absurd (never_turns schemas name x s stage at cleanup is p c may.1)
  by_own place (Entry.Done number state failed) may e =
      absurd (never_ends schemas name x s stage at cleanup
      (subst (λ b. EndsAs schemas name x s b at) is (subst (EndsAs schemas name x s s.status) (sym (end_status state s) ∙ e) may.2)))
  by_own place e may now = absurd may

  to_tidying : {e : Entry} {t : StackState} → IsTo schemas x out name s e t → t.status ≡ at → Tidy x s fits stage h t
  to_tidying (step {e = e} g in_g own may) now =
      by_own (x.place + 1) e (subst (λ k. MayFollowIn schemas name x out s k e) (some_same g stage (sym in_g ∙ ap stage_of is ∙ cleanup_stage stage at cleanup)) may) now
  to_tidying (begins k from by) now = absurd (grind arith)
  to_tidying (reviewed number source rows outputs from) now = h
  to_tidying (opened epoch lanes) now = tidy_anew x s fits stage h
  to_tidying other now = h

pub tidying_stays : TidyingStays
tidying_stays schemas x out e name s t stage at w cleanup is now h =
    let tidies = to_tidies x s w.fits (cleaned stage s.held s.made) (subst (λ rs. IsTidying rs s) (cleaned_is stage at cleanup s) h) in
    subst (λ rs. IsTidying rs t) (sym (cleaned_is stage at cleanup t))
    (of_tidies _ t w.fits_after _ (to_tidying schemas x out name s stage at cleanup is w.fits tidies (written_is_to schemas x out e name s t w) now))

-- An operation deletes nothing as it begins and while it goes forward or gives back, and a cleanup begins with nothing tried.

-- no row of an operation's deletes
abbrev NoneIn : ℕ → List Call → Type 0
NoneIn number cs = (c : Call) → In c (filter (λ d. d.number == number) cs) → (id : List ℕ) → deletes id c.request ≡ false

pub none_anew : (s t : StackState) → t.operation ≡ s.operation → t.ledger ≡ map anew s.ledger → HasNoDeletion s → HasNoDeletion t
none_anew s t operation ledger h =
    subst (λ n. NoneIn n t.ledger) (sym operation)
    (subst (NoneIn s.operation) (sym ledger) (λ c i id. grind (arith, in_filter, in_changed, in_kept)))

-- a call goes out that is no deletion
none_called : (s : StackState) (number : ℕ) (q : Pending) → ((id : List ℕ) → deletes id q.request ≡ false) → HasNoDeletion s → HasNoDeletion (intending number q s)
none_called s number q none h = intended_way HasNoDeletion s h number q (λ c i id.
    let f = in_filter (λ d. d.number == s.operation) (s.ledger ++ new_call number s.status q ∷ []) c i in
    in_more (λ d. (d.number == s.operation) ≡ true → deletes id d.request ≡ false) (new_call number s.status q) s.ledger
    (λ d j e. h d (in_kept (λ k. k.number == s.operation) s.ledger d j e) id) (λ e. none id) c f.0 f.1)

-- an answer to one changes resources and its row
none_replied : (s : StackState) (token : ℕ) (a : Reply) (o : Option Pending) → HasNoDeletion s → HasNoDeletion (replied token a o s)
none_replied s token a v3 h = grind (arith, answered_left, in_filter, in_changed, in_kept)

pub turned_by : (place number : ℕ) (p : Phase) (c : Option Cause) (s : StackState)
    → ((effect_at place (Entry.Phase number p c) s).stack.operation ≡ s.operation) × ((effect_at place (Entry.Phase number p c) s).stack.ledger ≡ map anew s.ledger)
    × ((effect_at place (Entry.Phase number p c) s).stack.status ≡ turned s.status p) × ((effect_at place (Entry.Phase number p c) s).stack.tokens ≡ s.tokens)
turned_by place number p c s = grind arith

-- as an operation begins all rows are of earlier ones
pub none_begun : (name : List ℕ) (number place : ℕ) (k : Begun) (s : StackState) → ((c : Call) → In c s.ledger → c.number < number)
    → HasNoDeletion (effect_at place (Entry.Begin number name k) s).stack
none_begun name number place k s low = grind (arith, in_filter, in_changed, eqb-true)

-- what is asked for where nothing is deleted
module _ (schemas : List Schema) (x : World) (out : List ℕ) (name : List ℕ) (s : StackState) where
  module _ (number token : ℕ) (lane path : List ℕ) (r : Request) (stage : Stage) (in_stage : stage_of s.status ≡ Some stage)
      (may : MayIntend schemas name x out s stage token lane path r) where
    none_asked : (st : Status) → s.status ≡ st → deletes_nothing st ≡ true → (id : List ℕ) → deletes id r ≡ false
    none_asked st is e = grind (arith, some_same)

  module _ (fits : Fits x s) (apart : AreApart x) (was : known_stack name x ≡ s) (h : deletes_nothing s.status ≡ true → HasNoDeletion s) where
    none_by_own : (place : ℕ) (e : Entry) (stage : Stage) → stage_of s.status ≡ Some stage → IsOwn s.operation e → MayFollowIn schemas name x out s stage e
        → deletes_nothing (effect_at place e s).stack.status ≡ true → HasNoDeletion (effect_at place e s).stack
    none_by_own place (Entry.Kept number path physical w) stage in_stage own may e =
        let k = h (ap deletes_nothing (sym (like_kept path physical w s).status) ∙ e) in kept_way HasNoDeletion s k path physical w k k
    none_by_own place (Entry.Intent number token lane path r) stage in_stage own may e =
        let q : Pending = record { token = token; path = path; lane = lane; request = r } in
        let g = ap deletes_nothing (sym (like_intended number q s).status) ∙ e in
        none_called s number q (none_asked number token lane path r stage in_stage may s.status refl g) (h g)
    none_by_own place (Entry.Outcome number token a before after) stage in_stage own may e =
        none_replied s token a (pending_of token s) (h (ap deletes_nothing (sym (like_replied token a (pending_of token s) s).status) ∙ e))
    none_by_own place (Entry.Phase number p c) stage in_stage own may e =
        let l = turned_by place number p c s in
        none_anew s (effect_at place (Entry.Phase number p c) s).stack l.0 l.1 (h (grind arith))
    none_by_own place (Entry.Done number state failed) stage in_stage own may e = grind (arith, end_status)
    none_by_own place e stage in_stage own may now = absurd own

    none_to : {e : Entry} {t : StackState} → IsTo schemas x out name s e t → deletes_nothing t.status ≡ true → HasNoDeletion t
    none_to (step {e = e} stage in_stage own may) g = none_by_own (x.place + 1) e stage in_stage own may g
    none_to (begins k from by) g = none_begun name (x.operation + 1) (x.place + 1) k s (λ c i.
        let a = fits.numbers c i in let b : s.operation ≤ x.operation = grind arith in omega (arith, a, b))
    none_to (reviewed number source rows outputs from) g = h (grind arith)
    none_to (opened epoch lanes) g = none_anew s (effect_at (x.place + 1) (Entry.Opened epoch lanes) s).stack refl refl (h g)
    none_to other g = h g

pub nothing_deleted : NothingDeleted
nothing_deleted schemas x out e name s t w h g = none_to schemas x out name s w.fits w.apart w.was h (written_is_to schemas x out e name s t w) g

-- a cleanup begins by its phase alone
pub never_cleanup : (schemas : List Schema) (name : List ℕ) (x : World) (s : StackState) (stage : Stage) (at : Status) → IsCleanup stage at
    → (from : Status) → EndsAs schemas name x s from at → ⊥
never_cleanup schemas name x s stage at cleanup from e = grind arith

pub record IsTurned (schemas : List Schema) (name : List ℕ) (x : World) (s t : StackState) : Type 0 where
  pub turn : Phase
  pub why : Option Cause
  pub may : MayTurn schemas name x s turn why
  pub status : t.status ≡ turned s.status turn
  pub operation : t.operation ≡ s.operation
  pub ledger : t.ledger ≡ map anew s.ledger
  pub tokens : t.tokens ≡ s.tokens

reviewed_at : (stage : Stage) (at : Status) → IsCleanup stage at → (st : Status) → reviewed_status st ≡ at → st ≡ at
reviewed_at stage at cleanup st e = grind arith

pub begun_at : (place : ℕ) (name : List ℕ) (number : ℕ) (k : Begun) (s : StackState) (stage : Stage) (at : Status) → IsCleanup stage at
    → (effect_at place (Entry.Begin number name k) s).stack.status ≡ at → ⊥
begun_at place name number k s stage at cleanup e = grind arith

module _ (schemas : List Schema) (x : World) (out : List ℕ) (name : List ℕ) (s : StackState) (stage : Stage) (at : Status) (cleanup : IsCleanup stage at)
    (not_yet : s.status ≡ at → ⊥) where
  pub turned_to : {e : Entry} {t : StackState} → IsMove schemas x out name s e t → t.status ≡ at → IsTurned schemas name x s t
  turned_to (move.stays same) now = absurd (not_yet (sym same ∙ now))
  turned_to (move.turns number p c q may) now = grind (arith, turned_by)
  turned_to (move.ends number state failed g q in_g may) now = grind (arith, never_cleanup, end_status)
  turned_to (move.begins k from by) now = absurd (begun_at (x.place + 1) name (x.operation + 1) k s stage at cleanup now)
  turned_to (move.reviewed number source rows outputs from) now = absurd (not_yet (reviewed_at stage at cleanup s.status now))
  turned_to move.other now = absurd (not_yet now)

-- where no call is open and nothing was deleted, all is tried
tidied_from : (x : World) (t : StackState) → Fits x t → t.tokens ≡ [] → HasNoDeletion t → (rs : List Held) → IsTidying rs t
tidied_from x t fits none h rs = of_tidies x t fits rs (record {
  calls = λ p i. elim (subst (In p) none i) [ ];
  tried = λ r i c j e. absurd (true≢false (sym (second_so (c.number == t.operation) _ e) ∙ h c (in_kept (λ d. d.number == t.operation) t.ledger c j (first_so (c.number == t.operation) _ e)) r.physical));
})

module _ (schemas : List Schema) (name : List ℕ) (x : World) (s t : StackState) (y : World) (fits : Fits y t) (h : HasNoDeletion s) (l : IsTurned schemas name x s t) where
  turned_tidied : s.tokens ≡ [] → (rs : List Held) → IsTidying rs t
  turned_tidied none = tidied_from y t fits (l.tokens ∙ none) (none_anew s t l.operation l.ledger h)

  none_left : (source : Source) → IsAdvancing schemas s source → AllDone s → s.tokens ≡ []
  none_left source a all = by s.tokens a.ready a.not_done where
    by : (ps : List Pending) → ((p : Pending) → In p ps → IsReady s p.path) → ((p : Pending) → In p ps → ¬ IsDone s p.path) → ps ≡ []
    by [] ready not_done = refl
    by (p ∷ ps) ready not_done = absurd (not_done p here (all p.path (ready p here).0))

  -- by the phase that begins, in which all is done, or none is open
  cleans : (p : Phase) (c : Option Cause) → s.status ≡ Status.UpdateInProgress → turned s.status p ≡ Status.UpdateCompleteCleanupInProgress → MayTurn schemas name x s p c → AllDone s
  cleans p c is now may = grind arith

  cleans_back : (p : Phase) (c : Option Cause) → s.status ≡ Status.UpdateRollbackInProgress → turned s.status p ≡ Status.UpdateRollbackCompleteCleanupInProgress
      → MayTurn schemas name x s p c → s.tokens ≡ []
  cleans_back p c is now may = grind arith

pub tidying_begins : TidyingBegins
tidying_begins schemas x out e name s t source w is now a h =
    let l = turned_to schemas x out name s Clean Status.UpdateCompleteCleanupInProgress of_update (λ k. let f = sym is ∙ k in cc)
    (written_moves w) now in
    let done = cleans schemas name x s t _ w.fits_after h l l.turn l.why is (sym l.status ∙ now) l.may in
    turned_tidied schemas name x s t _ w.fits_after h l (none_left schemas name x s t _ w.fits_after h l source a done) (cleaned_in Clean t)

pub back_tidying_begins : BackTidyingBegins
back_tidying_begins schemas x out e name s t w is now h =
    let l = turned_to schemas x out name s BackClean Status.UpdateRollbackCompleteCleanupInProgress of_rollback (λ k. let f = sym is ∙ k in cc)
    (written_moves w) now in
    turned_tidied schemas name x s t _ w.fits_after h l (cleans_back schemas name x s t _ w.fits_after h l l.turn l.why is (sym l.status ∙ now) l.may) (cleaned_in BackClean t)

-- A cleanup has a next step until nothing of it is left, and then it ends.

-- where no lease is out, none is in flight and each lane is at home
pub none_calls : (s : StackState) → calls_in_flight [] s ≡ []
none_calls s = by s.ledger where
  by : (cs : List Call) → filter (λ c. is_in_flight [] c.token) cs ≡ []
  by [] = refl
  by (c ∷ cs) = by cs

pub at_home : (x : World) (lane : List ℕ) → is_lane_leased [] x lane ≡ false
at_home x lane = grind (arith, none_any, none_calls)

pub none_flying : (s : StackState) → none_in_flight [] s ≡ true
none_flying s = ap is_empty (none_calls s)

-- a stage is at its end where no call begins or is made again, nothing is kept and no phase begins
pub at_end_by : (schemas : List Schema) (name : List ℕ) (x : World) (s : StackState) (stage : Stage)
    → ((token : ℕ) (lane path : List ℕ) (r : Request) → MayIntend schemas name x [] s stage token lane path r → ⊥)
    → ((path id : List ℕ) (w : Why) → MayKeep stage [] s path id w → ⊥) → ((p : Phase) (c : Option Cause) → MayTurn schemas name x s p c → ⊥)
    → ((p : Pending) → MayRepeat schemas name x [] s stage p → ⊥) → IsAtEnd schemas name x s stage
at_end_by schemas name x s stage no_call no_keep no_turn no_repeat = grind arith

-- a lane that an id names
pub lane_of : (x : World) (physical k : List ℕ) → IsNamedLane x.lanes physical k
    → (lane : List ℕ) × IsOfLane lane physical × (list_any (λ l. bytes_eq lane l.0) x.lanes ≡ true)
lane_of x physical k (l, i, of_lane, kind) = (l.0, of_lane, any_of (λ (m : List ℕ × List ℕ). bytes_eq l.0 m.0) x.lanes l i ((bytes_eq-Decides l.0 l.0).1 refl))

-- a call goes out on a lane at home
pub asks : (schemas : List Schema) (name : List ℕ) (x : World) (s : StackState) (stage : Stage) (lane path : List ℕ) (r : Request) → is_free path s ≡ true
    → FitsLane x lane r → waits_for_repeats stage [] s ≡ false → IntendsIn stage schemas name x s path r → StepsIn schemas name x s stage
asks schemas name x s stage lane path r free fits idle chosen =
    inl (Entry.Intent s.operation (x.token + 1) lane path r, record { next = refl; free = free; home = at_home x lane; fits = fits; no_repeat = idle; chosen = chosen })

module _ (schemas : List Schema) (name : List ℕ) (x : World) (s : StackState) (stage : Stage) (at : Status) (cleanup : IsCleanup stage at) (is : s.status ≡ at)
    (fits : Fits x s) (h : IsTidying (cleaned_in stage s) s) where
  abbrev Steps : Type 0
  Steps = StepsIn schemas name x s stage

  -- an open call is made again, or its resource is kept
  repeats : (k : Stage) (a : Status) → IsCleanup k a → (p : Pending) → In p s.tokens → nat_lt (doubts_of p.token s) 3 ≡ true → MayRepeat schemas name x [] s k p
  repeats k a cleans p i e = grind arith

  open_goes : (p : Pending) → In p s.tokens → Steps
  open_goes p i = by (nat_lt (doubts_of p.token s) 3) refl where
    by : (b : Bool) → nat_lt (doubts_of p.token s) 3 ≡ b → Steps
    by true e = inr (p, repeats stage at cleanup p i e)
    by false e =
        let c = h.calls p i in
        inl (
          Entry.Kept s.operation c.0.path c.0.physical Why.Doubt,
          ((c.0, c.1, refl, refl), p, i, ap (deletes c.0.physical) c.2 ∙ (bytes_eq-Decides c.0.physical c.0.physical).1 refl, ltb-false (doubts_of p.token s) 3 e),
        )

  -- where none is open, a resource is deleted or kept
  module _ (none : s.tokens ≡ []) (r : Held) (i : In r (cleaned_in stage s)) where
    may_delete : (k : Stage) (a : Status) → IsCleanup k a → In r (cleaned_in k s) → is_tried_less s r ≡ true → MayDelete k s r
    may_delete k a cleans j e = grind (arith, in_filter)

    never_waits : (k : Stage) (a : Status) → IsCleanup k a → waits_for_repeats k [] s ≡ false
    never_waits k a cleans = grind arith

    intends : (k : Stage) (a : Status) → IsCleanup k a → MayDelete k s r → keeps k s r ≡ false → IntendsIn k schemas name x s r.path (Request.Delete r.physical)
    intends k a cleans may e = grind arith

    free : is_free r.path s ≡ true
    free = ap (λ (ps : List Pending). not (list_any (λ p. bytes_eq r.path p.path) ps)) none

    less_goes : MayDelete stage s r → (b : Bool) → keeps stage s r ≡ b → Steps
    less_goes may true e = inl (Entry.Kept s.operation r.path r.physical Why.Retained, inl (r, may, never_waits stage at cleanup, e, refl, refl, inl free))
    less_goes may false e =
        let l = lane_of x r.physical r.kind (fits.lanes.0 r (grind (arith, in_front, in_filter, in_back))) in
        asks schemas name x s stage l.0 r.path (Request.Delete r.physical) free (l.1, l.2) (never_waits stage at cleanup) (intends stage at cleanup may e)

    resource_goes : Steps
    resource_goes = by (h.tried r i) where
      by_count : (b : Bool) → nat_lt (refusals_of r.physical s) 3 ≡ b → length (deletions_of r.physical s) ≡ refusals_of r.physical s → Steps
      by_count true e l = less_goes (may_delete stage at cleanup i (ap (λ n. nat_lt n 3) l ∙ e)) (keeps stage s r) refl
      by_count false e l = inl (Entry.Kept s.operation r.path r.physical Why.Failed, ((r, i, refl, refl), ltb-false (refusals_of r.physical s) 3 e))

      by : IsTried s r.physical → Steps
      by (inl l) = by_count (nat_lt (refusals_of r.physical s) 3) refl l
      by (inr (p, o, l)) = elim (subst (In p) none o.0) [ ]

  -- a step, or nothing is left
  pub steps_or_tidied : Steps ⊎ IsTidied stage s
  steps_or_tidied = by_tokens s.tokens refl where
    by_left : s.tokens ≡ [] → (rs : List Held) → cleaned_in stage s ≡ rs → Steps ⊎ IsTidied stage s
    by_left none [] e = inr (none, e)
    by_left none (r ∷ rs) e = inl (resource_goes none r (subst (In r) (sym e) here))

    by_tokens : (ps : List Pending) → s.tokens ≡ ps → Steps ⊎ IsTidied stage s
    by_tokens [] e = by_left e (cleaned_in stage s) refl
    by_tokens (p ∷ ps) e = inl (open_goes p (subst (In p) (sym e) here))

  -- at its end nothing is left
  pub ended_tidied : IsAtEnd schemas name x s stage → IsTidied stage s
  ended_tidied ends = grind (arith, steps_or_tidied)

  -- and where nothing is left it is at its end
  module _ (d : IsTidied stage s) where
    none_cleaned : (r : Held) → In r (cleaned_in stage s) → ⊥
    none_cleaned r i = elim (subst (In r) d.1 i) [ ]

    of_deleted : (k : Stage) (a : Status) → IsCleanup k a → (r : Held) → MayDelete k s r → In r (cleaned_in k s)
    of_deleted k a cleans r may = grind (arith, in_kept)

    not_gone : (k : Stage) (a : Status) → IsCleanup k a → k ≡ Gone → ⊥
    not_gone k a cleans e = grind arith

    no_keep : (path physical : List ℕ) (w : Why) → MayKeep stage [] s path physical w → ⊥
    no_keep path physical w k = grind (arith, none_cleaned, of_deleted, not_gone)

    in_tokens : (k : Stage) (a : Status) → IsCleanup k a → (p : Pending) → MayRepeat schemas name x [] s k p → In p s.tokens
    in_tokens k a cleans p may = grind arith

    at_end : IsAtEnd schemas name x s stage
    at_end = grind (arith, at_end_by, deleted_of, none_cleaned, no_keep, never_turns, in_tokens)

    may_end : (k : Stage) (a : Status) → IsCleanup k a → EndsAs schemas name x s a (cleaned_up a) × AreFailed s (cleaned_up a) []
    may_end k a cleans = grind arith

-- a step may follow where no lease is out
step_follows : (schemas : List Schema) (name : List ℕ) (x : World) (s : StackState) (stage : Stage) (e : Entry) → MayStep schemas name x [] s stage e
    → MayFollowIn schemas name x [] s stage e
step_follows schemas name x s stage e may = grind (arith, none_flying)

module _ (schemas : List Schema) (name : List ℕ) (x : World) (s : StackState) (stage : Stage) (going : stack_of_operation s.operation x ≡ Some (name, s))
    (in_stage : stage_of s.status ≡ Some stage) where
  pub follows : (e : Entry) → MayFollowIn schemas name x [] s stage e → HasNext schemas x s.operation
  follows e may = inl (e, (name, s, stage, going, in_stage, may))

  pub steps : StepsIn schemas name x s stage → HasNext schemas x s.operation
  steps k = grind (arith, follows, step_follows)

pub cleanup_goes_on : CleanupGoesOn
cleanup_goes_on schemas name x s stage at going cleanup is fits h = by (steps_or_tidied schemas name x s stage at cleanup is fits h) where
  in_stage : stage_of s.status ≡ Some stage
  in_stage = ap stage_of is ∙ cleanup_stage stage at cleanup

  by : StepsIn schemas name x s stage ⊎ IsTidied stage s → HasNext schemas x s.operation
  by (inl n) = steps schemas name x s stage going in_stage n
  by (inr d) = let e = may_end schemas name x s stage at cleanup is fits h d stage at cleanup in
      follows schemas name x s stage going in_stage (Entry.Done s.operation (cleaned_up at) [])
      (none_flying s, at_end schemas name x s stage at cleanup is fits h d, subst (λ b. EndsAs schemas name x s b (cleaned_up at)) (sym is) e.0, e.1)

-- An entry that leaves the status of a cleanup is its end.
cleaned_same : (stage : Stage) (at : Status) → IsCleanup stage at → (s t : StackState) → t.held ≡ s.held → t.made ≡ s.made
    → cleaned_in stage t ≡ cleaned_in stage s
cleaned_same stage at cleanup s t held made = grind arith

pub never_begins : (stage : Stage) (at : Status) → IsCleanup stage at → (s : StackState) → s.status ≡ at → (k : Begun)
    → IsTrue (begins_from k s.status) → ⊥
never_begins stage at cleanup s is k from = grind arith

pub reviewed_cleanup : (stage : Stage) (at : Status) → IsCleanup stage at → reviewed_status at ≡ at
reviewed_cleanup stage at cleanup = grind arith

none_marked : (ps : List Pending) → ps ≡ [] → (hs : List Held) → map (marked ps) hs ≡ hs
none_marked ps e hs = ap (λ qs. map (marked qs) hs) e ∙ map_same (marked []) hs (λ h i. refl)

ended_in : (schemas : List Schema) (name : List ℕ) (x : World) (s : StackState) (state : Status) (stage : Stage) (at : Status) → IsCleanup stage at
    → EndsAs schemas name x s at state → state ≡ cleaned_up at
ended_in schemas name x s state stage at cleanup e = grind arith

abbrev IsEnded : Stage → Status → StackState → StackState → Type 0
IsEnded stage at s t = IsTidied stage s × IsTidied stage t × (t.held ≡ s.held) × (t.made ≡ s.made) × (t.status ≡ cleaned_up at)

stopped : (place number : ℕ) (failed : List (List ℕ)) (stage : Stage) (at : Status) → IsCleanup stage at → (s : StackState)
    → ((effect_at place (Entry.Done number (cleaned_up at) failed) s).stack.tokens ≡ s.tokens)
    × ((effect_at place (Entry.Done number (cleaned_up at) failed) s).stack.held ≡ map (marked s.tokens) s.held)
    × ((effect_at place (Entry.Done number (cleaned_up at) failed) s).stack.made ≡ map (marked s.tokens) s.made)
    × ((effect_at place (Entry.Done number (cleaned_up at) failed) s).stack.status ≡ cleaned_up at)
stopped place number failed stage at cleanup s = grind arith

left_at_end : (place number : ℕ) (failed : List (List ℕ)) (stage : Stage) (at : Status) → IsCleanup stage at → (s : StackState) (state : Status) → state ≡ cleaned_up at
    → IsTidied stage s → IsEnded stage at s (effect_at place (Entry.Done number state failed) s).stack
left_at_end place number failed stage at cleanup s state e d = grind (arith, stopped, none_marked, cleaned_same)

module _ (schemas : List Schema) (x : World) (out : List ℕ) (name : List ℕ) (s : StackState) (stage : Stage) (at : Status) (cleanup : IsCleanup stage at)
    (is : s.status ≡ at) (fits : Fits x s) (h : IsTidying (cleaned_in stage s) s) where
  ended_to : {e : Entry} {t : StackState} → IsMove schemas x out name s e t → (t.status ≡ at → ⊥) → IsEnded stage at s t
  ended_to (move.stays same) n = absurd (n (same ∙ is))
  ended_to (move.turns number p c q may) n = absurd (never_turns schemas name x s stage at cleanup is p c may)
  ended_to (move.ends number state failed g q in_g may) n =
      left_at_end (x.place + 1) number failed stage at cleanup s state
      (ended_in schemas name x s state stage at cleanup (subst (λ b. EndsAs schemas name x s b state) is may.2))
      (ended_tidied schemas name x s stage at cleanup is fits h
      (subst (IsAtEnd schemas name x s) (some_same g stage (sym in_g ∙ ap stage_of is ∙ cleanup_stage stage at cleanup)) may.1))
  ended_to (move.begins k from by) n = absurd (never_begins stage at cleanup s is k from)
  ended_to (move.reviewed number source rows outputs from) n = absurd (n (ap reviewed_status is ∙ reviewed_cleanup stage at cleanup))
  ended_to move.other n = absurd (n is)

pub tidying_ends : TidyingEnds
tidying_ends schemas x out e name s t stage at w cleanup is n h = ended_to schemas x out name s stage at cleanup is w.fits h (written_moves w) n
