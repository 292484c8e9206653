-- In the rollback of a creation the operation deletes at a path under one token at most.
use Rattle.std.proofs.Common.{◌≡◌, ◌⊎◌, inl, inr, ℕ, ◌+◌, ◌<◌, ◌≤◌, ◌&&◌, ◌||◌, not, Bool, true, false, List, [], ◌∷◌, Option, Some, None, refl, sym, ap, subst, ◌∙◌, true≢false, length, arith}
use Rattle.cf_core.proofs.Words.{Back, Begun, Call, Data, EndsAs, Entry, Fits, Forward, Held, HeldStatus, In, IntendsIn, IsAdvancing, IsMove, IsOnCourse, IsOwn, IsTo, IsWritten, MayFollowIn, MayIntend, Pending, Reply, Request, Schema, Source, Stage, StackState, Status, World, answered, begins, bytes_eq, changing, current_at, deletes, deletes_nothing, deletions_of, effect_at, first_so, has_physical, has_token, is_create, is_made, is_restore, list_any, made_of, opened, own_calls, pending_of, replied, second_so, stage_of, status_made, step, terms_at, updating, where_physical, with_status, without_token}
use Rattle.cf_core.proofs.Lemmas.{any_of, bytes_eq-Decides, either_way, end_status, eqb-true, found_one, in_either, in_one, not_so, some_is}
use Rattle.cf_core.proofs.{AdvSteps.elsewhere, MovesStatus.status_moves, Cleanups.turned_by, Moving.written_is_to, Moving.written_moves, Sent.IsIntentOf, Sent.open_from, Statuses.kept_way}
use Rattle.cf_core.proofs.Counted.{Counts, IsKind, as_before, counts, none_yet, one_more}
use Rattle.cf_core.proofs.Few.{at_most, covered, deletes_by, deletion_id, none_pass_none, none_such}
use Rattle.cf_core.proofs.FewAhead.{creates_ahead}
use Rattle.cf_core.proofs.FewCleaned.{IsSame, Was, begun_made, changed_there, deleted, ends, fewer, is_deletes_kind, is_other_kind, itself, turns}
use Rattle.cf_core.specs.Moving as move
use Rattle.cf_core.specs.OnCourse.{IsOnWay}
use Rattle.cf_core.specs.StatusMoves.{StatusMoves}
use Rattle.cf_core.specs.StatusMoves as moves
use Rattle.cf_core.specs.FewCalls.{LeavesSo}
use Rattle.cf_core.specs.Tokens.{HasFewUnmade, UnmakesFew, deletes_at, deletes_other, is_deletion, number_of}
use Rattle.cf_core.specs.Written.{other, reviewed}

-- the id that an answer gives
abbrev pub id_given : Reply → List ℕ
id_given (Reply.Success physical attrs) = physical
id_given _ = []

abbrev pub id_in : Entry → List ℕ
id_in (Entry.Outcome number token a before after) = id_given a
id_in _ = []

-- What is made was so before, with its id and path, or an open create has made it and is open no more.
pub record IsNewMade (e : Entry) (before now : List Pending) (r : Held) : Type 0 where
  pub call : Pending
  pub of_tokens : In call before
  pub creates : is_create call.request ≡ true
  pub path : r.path ≡ call.path
  pub physical : r.physical ≡ id_in e
  pub closed : (p : Pending) → In p now → p.path ≡ call.path → ⊥

abbrev pub MadeOf : Entry → StackState → StackState → Type 0
MadeOf e s t = (r : Held) → In r t.made → Was s.made r ⊎ IsNewMade e s.tokens t.tokens r

changed_made : (id : List ℕ) (f : Held → Held) → ((h : Held) → IsSame h (f h)) → (s : StackState) → (r : Held) → In r (changing id f s).made → Was s.made r
changed_made id f same s =
    either_way (λ (u : StackState). (r : Held) → In r u.made → Was s.made r) (list_any (has_physical id) s.held) (record s { held = where_physical id f s.held })
    (record s { made = where_physical id f s.made }) (itself s.made) (changed_there id f same s.made)

module _ (x : World) (s : StackState) (fits : Fits x s) where
  module _ (number token before after : ℕ) (p : Pending) (open_ : pending_of token s ≡ Some p) where
    of_list : In p s.tokens
    of_list = (found_one (has_token token) s.tokens p open_).0

    -- what an open create makes
    pub new_of : (physical : List ℕ) (attrs : List (List ℕ × Data)) (k : List ℕ) (props : List (List ℕ × Data)) → p.request ≡ Request.Create k props → (r : Held) → r.path ≡ p.path
        → r.physical ≡ physical → IsNewMade (Entry.Outcome number token (Reply.Success physical attrs) before after) s.tokens (replied token (Reply.Success physical attrs) (Some p) s).tokens r
    new_of physical attrs k props e r path id = record {
      call = p;
      of_tokens = of_list;
      creates = ap is_create e;
      path = path;
      physical = id;
      closed = λ q l. (elsewhere x s fits token p of_list (found_one (has_token token) s.tokens p open_).1 q (left q l)).1;
    } where
      left : (q : Pending) → In q (replied token (Reply.Success physical attrs) (Some p) s).tokens → In q (without_token token s.tokens)
      left q l = subst (λ (z : Request). In q (without_token token (answered (is_restore token s) p.path z (Reply.Success physical attrs) s).tokens)) e l

    by_request : (a : Reply) (q : Request) → p.request ≡ q
        → (r : Held) → In r (answered (is_restore token s) p.path q a s).made
        → Was s.made r ⊎ IsNewMade (Entry.Outcome number token a before after) s.tokens (replied token a (Some p) s).tokens r
    by_request (Reply.Success physical attrs) (Request.Create k props) e r i = elim (in_either r s.made (m ∷ []) i) [
      | inl j ↦ inl (itself s.made r j)
      | inr j ↦ inr (new_of physical attrs k props e r (ap (λ (h : Held). h.path) (in_one r m j)) (ap (λ (h : Held). h.physical) (in_one r m j)))
    ] where
      m : Held
      m = made_of (terms_at p.path s) (status_made (current_at p.path s.held)) p.path k props physical attrs
    by_request (Reply.Failed c) (Request.Create k props) e r i = inl (itself s.made r i)
    by_request Reply.Doubt (Request.Create k props) e r i = inl (itself s.made r i)
    by_request (Reply.Success physical attrs) (Request.Update id props) e r i = inl (changed_made id (updating props attrs) (λ h. (refl, refl, refl)) s r i)
    by_request (Reply.Failed c) (Request.Update id props) e r i =
        inl (either_way (λ (u : StackState). (r : Held) → In r u.made → Was s.made r) (is_restore token s) (with_status id HeldStatus.UpdateFailed s) s
        (changed_made id (λ h. record h { status = HeldStatus.UpdateFailed }) (λ h. (refl, refl, refl)) s) (itself s.made) r i)
    by_request Reply.Doubt (Request.Update id props) e r i = inl (itself s.made r i)
    by_request a (Request.Delete id) e r i = inl (deleted s (is_restore token s) p.path id a r i)

  answered_made : (place number token before after : ℕ) (a : Reply) (o : Option Pending) → pending_of token s ≡ o
      → (r : Held) → In r (replied token a o s).made → Was s.made r ⊎ IsNewMade (Entry.Outcome number token a before after) s.tokens (replied token a o s).tokens r
  answered_made place number token before after a None e r i = inl (itself s.made r i)
  answered_made place number token before after a (Some p) e r i = by_request number token before after p e a p.request refl r i

  module _ (schemas : List Schema) (out name : List ℕ) where
    stepped : (place : ℕ) (e : Entry) → IsOwn s.operation e → MadeOf e s (effect_at place e s).stack
    stepped place (Entry.Kept number path physical w) own r i =
        inl (kept_way (λ (u : StackState). (r : Held) → In r u.made → Was s.made r) s (itself s.made) path physical w (itself s.made) (fewer physical s.made) r i)
    stepped place (Entry.Intent number token lane path q) own r i = inl (asked r i) where
      asked : (r : Held) → In r (effect_at place (Entry.Intent number token lane path q) s).stack.made → Was s.made r
      asked = grind (arith, itself)
    stepped place (Entry.Outcome number token a before after) own r i = answered_made place number token before after a (pending_of token s) refl r i
    stepped place (Entry.Phase number p c) own r i = inl (turns s place number p c r i)
    stepped place (Entry.Done number state failed) own r i = inl (ends s place number failed state r i)
    stepped place e own r i = absurd own

    pub made_of_entry : {e : Entry} {t : StackState} → IsTo schemas x out name s e t → MadeOf e s t
    made_of_entry (step {e = e} stage at own may) r i = stepped (x.place + 1) e own r i
    made_of_entry (begins k from by) r i = inl (begun_made s schemas x out name (x.place + 1) (x.operation + 1) k r i)
    made_of_entry (reviewed number source rows outputs from) r i = inl (itself s.made r i)
    made_of_entry (opened epoch lanes) r i = inl (itself s.made r i)
    made_of_entry other r i = inl (itself s.made r i)

    -- where it does not go forward, no create is new
    pub open_before : {e : Entry} {t : StackState} → (stage_of s.status ≡ Some Forward → ⊥) → IsTo schemas x out name s e t → (p : Pending) → In p t.tokens → is_create p.request ≡ true
        → In p s.tokens
    open_before never (step {e = e} stage at own may) p i c = elim (open_from (x.place + 1) s e p i) [
      | inl j ↦ j
      | inr k ↦
          let asks = subst (MayFollowIn schemas name x out s stage) k.1 may in
          absurd (never (at ∙ ap (λ (g : Stage). Some g) (creates_ahead schemas name x s stage p.path p.request c asks.chosen)))
    ]
    open_before never (begins k from by) p i c = elim (open_from (x.place + 1) s (Entry.Begin (x.operation + 1) name k) p i) [ inl j ↦ j | inr k ↦ let no : ⊥ = never_intent k in absurd no ] where
      never_intent : IsIntentOf (Entry.Begin (x.operation + 1) name k) p → ⊥
      never_intent (n, e) = cc
    open_before never (reviewed number source rows outputs from) p i c = i
    open_before never (opened epoch lanes) p i c = i
    open_before never other p i c = i

module _ (schemas : List Schema) (x : World) (out : List ℕ) (e : Entry) (name : List ℕ) (s t : StackState) (w : IsWritten schemas x out e name s t)
    (way : IsOnWay schemas name x s) where
  abbrev counts_of : (test : Call → Bool) → IsKind test → Counts schemas x out name s test (number_of test t)
  counts_of test kind = counts test kind schemas x out e name s t w

  made : MadeOf e s t
  made = made_of_entry x s w.fits schemas out name (written_is_to schemas x out e name s t w)

  -- at the path of an open call nothing is deleted
  none_at : (p : Pending) → In p s.tokens → number_of (deletes_at p.path) s ≡ 0 → number_of (deletes_at p.path) t ≡ 0
  none_at p i none = by (counts_of (deletes_at p.path) (is_deletes_kind p.path)) where
    by : Counts schemas x out name s (deletes_at p.path) (number_of (deletes_at p.path) t) → number_of (deletes_at p.path) t ≡ 0
    by (as_before q) = q ∙ none
    by (none_yet q) = q
    by (one_more stage token lane path r at may is q) =
        let same : path ≡ p.path = sym ((bytes_eq-Decides p.path path).0 (first_so (bytes_eq p.path path) _ is)) in
        absurd (true≢false (sym (any_of (λ (k : Pending). bytes_eq path k.path) s.tokens p i ((bytes_eq-Decides path p.path).1 same)) ∙ not_so _ may.free))

  others_at : (path id : List ℕ) → number_of (deletes_at path) t ≡ 0 → number_of (deletes_other path id) t ≡ 0
  others_at path id none =
      let all = covered (deletes_other path id) (deletes_at path) (λ c. false) (λ c. false) (λ c. false) (λ c. cover (bytes_eq path c.path) (is_deletion c.request) (not (deletes id c.request))) (own_calls t) in
      let never = none_pass_none (own_calls t) in
      omega (arith, all, none, never)
    where
      cover : (a b c : Bool) → (a && (b && c)) ≡ true → ((a && b) || (false || (false || false))) ≡ true
      cover true true c e = refl
      cover true false c e = absurd (true≢false (sym e))
      cover false b c e = absurd (true≢false (sym e))

  -- a creation turns back
  module _ (forward : s.status ≡ Status.CreateInProgress) (back : t.status ≡ Status.RollbackInProgress) where
    advancing : (source : Source) × IsAdvancing schemas s source
    advancing = let c = subst (IsOnCourse schemas name x s) forward way.course.stage in (c.0, c.1)

    none_made_at : (p : Pending) → In p s.tokens → (r : Held) → In r s.made → r.path ≡ p.path → ⊥
    none_made_at p i r j same = advancing.1.not_done p i (is_made r (ap (λ q. current_at q s.made) (sym same) ∙ advancing.1.single_made r j))

    none_now : (test : Call → Bool) → IsKind test → ((c : Call) → test c ≡ true → is_deletion c.request ≡ true) → number_of test t ≡ 0
    none_now test kind deletes_so = by (counts_of test kind) where
      before : number_of test s ≡ 0
      before = none_such test (own_calls s) (λ c i d.
          let id = deletion_id c.request (deletes_so c d) in
          true≢false (sym (ap (deletes id.0) id.1 ∙ (bytes_eq-Decides id.0 id.0).1 refl) ∙ way.supported.undeleted (ap deletes_nothing forward) c i id.0))

      never : (stage : Stage) (token : ℕ) (lane path : List ℕ) (r : Request) → stage_of s.status ≡ Some stage → MayIntend schemas name x out s stage token lane path r → is_deletion r ≡ true → ⊥
      never stage token lane path r at may d =
          let id = deletion_id r d in
          let goes : stage ≡ Forward = some_is stage Forward (sym at ∙ ap stage_of forward) in
          (subst (λ (g : Stage). IntendsIn g schemas name x s path (Request.Delete id.0)) goes (subst (IntendsIn stage schemas name x s path) id.1 may.chosen)).3

      by : Counts schemas x out name s test (number_of test t) → number_of test t ≡ 0
      by (as_before q) = q ∙ before
      by (none_yet q) = q
      by (one_more stage token lane path r at may is q) = absurd (never stage token lane path r at may (deletes_so _ is))

    abbrev Begins : Type 0
    Begins = ((r : Held) → In r t.made → Was s.made r) × ((p : Pending) → In p t.tokens → In p s.tokens)

    begins_few : Begins → HasFewUnmade t
    begins_few (from, opens) = record {
      alone = record {
        single = λ r q i j same.
            let a = from r i in
            let b = from q j in
            sym a.2 ∙ ap (λ (h : Held). h.physical) (some_is a.0 b.0 (sym (advancing.1.single_made a.0 a.1) ∙ ap (λ p. current_at p s.made) (a.3 ∙ same ∙ sym b.3)
            ∙ advancing.1.single_made b.0 b.1)) ∙ b.2;
        no_other = λ r i. none_now (deletes_other r.path r.physical) (is_other_kind r.path r.physical) (λ c d. first_so (is_deletion c.request) _ (second_so (bytes_eq r.path c.path) _ d));
      };
      none_made = λ p i c r j same. let a = from r j in none_made_at p (opens p i) a.0 a.1 (a.3 ∙ same);
      none_deleted = λ p i c. none_now (deletes_at p.path) (is_deletes_kind p.path) (λ c d. second_so (bytes_eq p.path c.path) _ d);
      few = λ path. let none = none_now (deletes_at path) (is_deletes_kind path) (λ c d. second_so (bytes_eq path c.path) _ d) in omega (arith, none);
    }

  -- it goes on
  module _ (back : s.status ≡ Status.RollbackInProgress) (h : HasFewUnmade s) where
    not_forward : stage_of s.status ≡ Some Forward → ⊥
    not_forward f = let k : Some Back ≡ Some Forward = sym (ap stage_of back) ∙ f in cc

    asked : (stage : Stage) (token : ℕ) (lane path : List ℕ) (r : Request) → stage_of s.status ≡ Some stage → MayIntend schemas name x out s stage token lane path r
        → is_deletion r ≡ true → (m : Held) × In m s.made × (r ≡ Request.Delete m.physical) × (path ≡ m.path) × (length (deletions_of m.physical s) ≡ 0)
    asked stage token lane path r at may d = of_request r d (subst (λ (g : Stage). IntendsIn g schemas name x s path r) (some_is stage Back (sym at ∙ ap stage_of back)) may.chosen) where
      of_request : (r : Request) → is_deletion r ≡ true → IntendsIn Back schemas name x s path r
          → (m : Held) × In m s.made × (r ≡ Request.Delete m.physical) × (path ≡ m.path) × (length (deletions_of m.physical s) ≡ 0)
      of_request (Request.Delete id) d (inl (m, may, kept, p, is)) = (m, may.1, ap (λ i. Request.Delete i) is, p, eqb-true (length (deletions_of m.physical s)) 0 may.3)
      of_request (Request.Delete id) d (inr may) = absurd may
      of_request (Request.Create kind props) d may = absurd (true≢false (sym d))
      of_request (Request.Update id props) d may = absurd (true≢false (sym d))

    no_other_now : (r : Held) → In r s.made → number_of (deletes_other r.path r.physical) t ≡ 0
    no_other_now r i = by (counts_of (deletes_other r.path r.physical) (is_other_kind r.path r.physical)) where
      by : Counts schemas x out name s (deletes_other r.path r.physical) (number_of (deletes_other r.path r.physical) t) → number_of (deletes_other r.path r.physical) t ≡ 0
      by (as_before q) = q ∙ h.alone.no_other r i
      by (none_yet q) = q
      by (one_more stage token lane path q at may is k) =
          let rest = second_so (bytes_eq r.path path) _ is in
          let a = asked stage token lane path q at may (first_so (is_deletion q) _ rest) in
          let same : r.path ≡ a.0.path = (bytes_eq-Decides r.path path).0 (first_so (bytes_eq r.path path) _ is) ∙ a.3 in
          absurd (true≢false (sym (ap (deletes r.physical) a.2 ∙ (bytes_eq-Decides r.physical a.0.physical).1 (h.alone.single r a.0 i a.1 same)) ∙ not_so _ (second_so (is_deletion q) _ rest)))

    few_now : (path : List ℕ) → number_of (deletes_at path) t ≤ 1
    few_now path = at_most schemas x out name s t (deletes_at path) 1 (counts_of (deletes_at path) (is_deletes_kind path)) (h.few path) (λ stage token lane p r at may is.
        let a = asked stage token lane p r at may (second_so (bytes_eq path p) _ is) in
        let same : path ≡ a.0.path = (bytes_eq-Decides path p).0 (first_so (bytes_eq path p) _ is) ∙ a.3 in
        let all = deletes_by a.0.path a.0.physical s in
        let none = h.alone.no_other a.0 a.1 in
        let untried = a.4 in
        subst (λ q. number_of (deletes_at q) s < 1) (sym same) (omega (arith, all, none, untried)))

    opens : (p : Pending) → In p t.tokens → is_create p.request ≡ true → In p s.tokens
    opens = open_before x s w.fits schemas out name not_forward (written_is_to schemas x out e name s t w)

    single_now : (r q : Held) → Was s.made r ⊎ IsNewMade e s.tokens t.tokens r → Was s.made q ⊎ IsNewMade e s.tokens t.tokens q → r.path ≡ q.path → r.physical ≡ q.physical
    single_now r q (inl a) (inl b) same = sym a.2 ∙ h.alone.single a.0 b.0 a.1 b.1 (a.3 ∙ same ∙ sym b.3) ∙ b.2
    single_now r q (inl a) (inr n) same = absurd (h.none_made n.call n.of_tokens n.creates a.0 a.1 (a.3 ∙ same ∙ n.path))
    single_now r q (inr n) (inl b) same = absurd (h.none_made n.call n.of_tokens n.creates b.0 b.1 (b.3 ∙ sym same ∙ n.path))
    single_now r q (inr n) (inr m) same = n.physical ∙ sym m.physical

    other_now : (r : Held) → Was s.made r ⊎ IsNewMade e s.tokens t.tokens r → number_of (deletes_other r.path r.physical) t ≡ 0
    other_now r (inl a) = subst (λ p. number_of (deletes_other p r.physical) t ≡ 0) a.3 (subst (λ d. number_of (deletes_other a.0.path d) t ≡ 0) a.2 (no_other_now a.0 a.1))
    other_now r (inr n) =
        others_at r.path r.physical (subst (λ p. number_of (deletes_at p) t ≡ 0) (sym n.path) (none_at n.call n.of_tokens (h.none_deleted n.call n.of_tokens n.creates)))

    made_nowhere : (p : Pending) → In p t.tokens → is_create p.request ≡ true → (r : Held) → Was s.made r ⊎ IsNewMade e s.tokens t.tokens r → r.path ≡ p.path → ⊥
    made_nowhere p i c r (inl a) same = h.none_made p (opens p i c) c a.0 a.1 (a.3 ∙ same)
    made_nowhere p i c r (inr n) same = n.closed p i (sym same ∙ n.path)

    stays_few : HasFewUnmade t
    stays_few = record {
      alone = record { single = λ r q i j same. single_now r q (made r i) (made q j) same; no_other = λ r i. other_now r (made r i) };
      none_made = λ p i c r j same. made_nowhere p i c r (made r j) same;
      none_deleted = λ p i c. none_at p (opens p i c) (h.none_deleted p (opens p i c) c);
      few = few_now;
    }

  -- by its phase alone
  turned_back : s.status ≡ Status.CreateInProgress → t.status ≡ Status.RollbackInProgress → {d : Entry} {u : StackState} → IsMove schemas x out name s d u → u ≡ t
      → ((r : Held) → In r t.made → Was s.made r) × ((p : Pending) → In p t.tokens → In p s.tokens)
  turned_back was now m same = subst (λ (z : StackState). ((r : Held) → In r z.made → Was s.made r) × ((p : Pending) → In p z.tokens → In p s.tokens)) same
      (by m (ap (λ (z : StackState). z.status) same ∙ now)) where
        by : {d : Entry} {u : StackState} → IsMove schemas x out name s d u → u.status ≡ Status.RollbackInProgress
            → ((r : Held) → In r u.made → Was s.made r) × ((p : Pending) → In p u.tokens → In p s.tokens)
        by (move.stays q) k = let no : Status.CreateInProgress ≡ Status.RollbackInProgress = sym was ∙ sym q ∙ k in absurd cc
        by (move.turns number p why q may) k = (turns s (x.place + 1) number p why, λ z i. subst (In z) (turned_by (x.place + 1) number p why s).3 i)
        by (move.ends number state failed g q in_g may) k = absurd (never_ends state (sym (end_status state s) ∙ k) may.2) where
          never_ends : (b : Status) → b ≡ Status.RollbackInProgress → EndsAs schemas name x s s.status b → ⊥
          never_ends b same ends_so = grind arith
        by (move.begins j from b) k = absurd (never_begins j k) where
          never_begins : (j : Begun) → (effect_at (x.place + 1) (Entry.Begin (x.operation + 1) name j) s).stack.status ≡ Status.RollbackInProgress → ⊥
          never_begins j k = grind arith
        by (move.reviewed number source rows outputs from) k = (itself s.made, λ z i. i)
        by move.other k = (itself s.made, λ z i. i)

  came_from : (a b : Status) → StatusMoves a b → b ≡ Status.RollbackInProgress → (a ≡ Status.RollbackInProgress) ⊎ (a ≡ Status.CreateInProgress)
  came_from _ _ moves.stays e = inl e
  came_from _ _ moves.creation_back e = inr refl
  came_from _ _ moves.reviewed e = let no : ⊥ = cc in absurd no
  came_from _ _ (moves.creates f) e = let no : ⊥ = cc in absurd no
  came_from _ _ (moves.updates f) e = let no : ⊥ = cc in absurd no
  came_from _ _ (moves.deletes f) e = let no : ⊥ = cc in absurd no
  came_from _ _ moves.continues e = let no : ⊥ = cc in absurd no
  came_from _ _ moves.created e = let no : ⊥ = cc in absurd no
  came_from _ _ moves.unmade e = let no : ⊥ = cc in absurd no
  came_from _ _ moves.unmaking_failed e = let no : ⊥ = cc in absurd no
  came_from _ _ moves.cleans e = let no : ⊥ = cc in absurd no
  came_from _ _ moves.updated e = let no : ⊥ = cc in absurd no
  came_from _ _ moves.update_back e = let no : ⊥ = cc in absurd no
  came_from _ _ moves.back_cleans e = let no : ⊥ = cc in absurd no
  came_from _ _ moves.rolled_back e = let no : ⊥ = cc in absurd no
  came_from _ _ moves.back_failed e = let no : ⊥ = cc in absurd no
  came_from _ _ moves.deleted e = let no : ⊥ = cc in absurd no
  came_from _ _ moves.deletion_failed e = let no : ⊥ = cc in absurd no

  pub few_unmade : UnmakesFew s → UnmakesFew t
  few_unmade was now = elim (came_from s.status t.status (status_moves schemas x out e name s t w) now) [
    | inl same ↦ stays_few same (was same)
    | inr forward ↦ begins_few forward now (turned_back forward now (written_moves w) refl)
  ]

pub unmaking_stays_few : LeavesSo UnmakesFew
unmaking_stays_few schemas x out e name s t w way = few_unmade schemas x out e name s t w way way.supported.few.unmakes
