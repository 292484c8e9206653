-- What the calls of a forward phase have come to: each entry of it keeps that each is open, refused, or its path done.
use Rattle.std.proofs.Common.{◌≡◌, inl, inr, ℕ, ◌+◌, ◌==◌, ◌&&◌, ◌||◌, not, Bool, true, false, IsTrue, List, [], ◌∷◌, ◌++◌, Option, Some, None, refl, sym, ap, subst, ◌∙◌, true≢false, map, filter}
use Rattle.cf_core.proofs.Words.{AsksForNow, Begun, Call, Data, Entry, Fits, Held, In, IsAdvancing, IsDone, IsFurther, IsOnCourse, IsOpen, IsRowOf, IsWritten, Pending, Reply, Request, Schema, Source, StackState, World, anew, answered, answered_call, bytes_eq, closing, cond, creates_from, current_at, effect_at, entries_with, goes_forward, has_token, heard, is_call, is_current_at, is_made, is_open_call, is_restore, is_success, is_update, is_updated, lines_of, made_of, new_call, on_stack, own_calls, pending_of, replied, status_made, still_open, terms_at, updates_from}
use Rattle.cf_core.proofs.Lemmas.{any_of, and_from, answered_left, bytes_eq-Decides, eq-eqb, eqb-true, found_in_more, found_one, found_still, in_changed, in_either, in_end, in_front, in_kept, in_map, in_one, or_left, or_right}
use Rattle.cf_core.proofs.AdvSteps.{HasBegunBy, IsAhead, asks, begins_ahead, begun_from, course_is_free, done_stays, further_of, goes_by, hears, is_ahead, is_other, none_kept_of, only_forward, opens, row_only}
use Rattle.cf_core.proofs.Rows.{IsSameCall, answered_row, answered_row_same}
use Rattle.cf_core.proofs.{Moving.written_is_to, Statuses.intended_way}
use Rattle.cf_core.specs.OnCourse.{IsOnWay}
use Rattle.cf_core.specs.Tokens.{AllHaveComeTo, HasComeTo, is_open, is_refused, path_done}

abbrev AllCome : StackState → Type 0
AllCome s = (c : Call) → In c s.ledger → HasComeTo s c

-- a made one at its path is found there, or another one
made_at : (hs : List Held) (m : Held) → m.superseded ≡ false → (r : Held) × (current_at m.path (hs ++ m ∷ []) ≡ Some r)
made_at hs m current = by (current_at m.path hs) refl where
  at_path : (bytes_eq m.path m.path && not m.superseded) ≡ true
  at_path = and_from (bytes_eq m.path m.path) _ ((bytes_eq-Decides m.path m.path).1 refl) (ap not current)

  by : (o : Option Held) → current_at m.path hs ≡ o → (r : Held) × (current_at m.path (hs ++ m ∷ []) ≡ Some r)
  by (Some r) e = (r, found_still (is_current_at m.path) hs (m ∷ []) r e)
  by None e = (m, found_in_more (is_current_at m.path) hs m at_path e)

module _ (schemas : List Schema) (x : World) (s : StackState) (source : Source) (a : IsAdvancing schemas s source) (fits : Fits x s) (all : AllCome s) where
  -- what is so of a call stays so where it stays open, and no entry is taken away
  still : (t : StackState) → IsFurther s t source → (c d : Call) → d.token ≡ c.token → d.path ≡ c.path → d.answer ≡ c.answer
      → (IsOpen c.token s.tokens → IsOpen c.token t.tokens) → ((e : Entry) → In e s.entries → In e t.entries) → HasComeTo s c → HasComeTo t d
  still t further c d token path answer stay entries (is_open o) = is_open (subst (λ n. IsOpen n t.tokens) (sym token) (stay o))
  still t further c d token path answer stay entries (path_done e) = path_done (subst (IsDone t) (sym path) (done_stays s t source further c.path e))
  still t further c d token path answer stay entries (is_refused k e (n, before, after, i)) =
      is_refused k (answer ∙ e) (n, before, after, subst (λ m. In (Entry.Outcome n m (Reply.Failed k) before after) t.entries) (sym token) (entries _ i))

  -- an opening
  opened_come : (place epoch : ℕ) (lanes : List (List ℕ × List ℕ)) → IsFurther s (effect_at place (Entry.Opened epoch lanes) s).stack source
      → AllCome (effect_at place (Entry.Opened epoch lanes) s).stack
  opened_come place epoch lanes further d i =
      let m = in_changed anew s.ledger d i in
      subst (HasComeTo t) m.same (still t further m.one (anew m.one) refl refl refl (λ o. o) (more s.entries) (all m.one m.of_list))
    where
      t : StackState
      t = (effect_at place (Entry.Opened epoch lanes) s).stack

      more : (es : List Entry) (e : Entry) → In e es → In e (entries_with (Entry.Opened epoch lanes) es)
      more [] e j = elim j [ ]
      more (f ∷ es) e j = in_front e (f ∷ es) (Entry.Opened epoch lanes ∷ []) j

  -- a call goes out
  asked_come : (place number token : ℕ) (lane path : List ℕ) (r : Request) → let e : Entry = Entry.Intent number token lane path r in
      IsFurther s (effect_at place e s).stack source → AllCome (effect_at place e s).stack
  asked_come place number token lane path r =
      intended_way (λ (u : StackState). let t : StackState = record u { entries = u.entries ++ e ∷ []; events = u.events ++ lines_of place e s } in IsFurther s t source → AllCome t)
      s (λ further c i. still (record s { entries = s.entries ++ e ∷ []; events = s.events ++ lines_of place e s }) further c c refl refl refl (λ o. o) (λ d j. in_front d s.entries (e ∷ []) j) (all c i))
      number p (λ further c i. elim (in_either c s.ledger (new_call number s.status p ∷ []) i) [
        | inl j ↦ still (record s { tokens = s.tokens ++ p ∷ []; ledger = s.ledger ++ new_call number s.status p ∷ []; entries = s.entries ++ e ∷ []; events = s.events ++ lines_of place e s })
            further c c refl refl refl (λ o. (o.0, in_front o.0 s.tokens (p ∷ []) o.1, o.2)) (λ d k. in_front d s.entries (e ∷ []) k) (all c j)
        | inr j ↦ is_open (p, in_end p s.tokens, ap (λ (d : Call). d.token) (sym (in_one c (new_call number s.status p) j)))
      ]) where
        e : Entry
        e = Entry.Intent number token lane path r

        p : Pending
        p = record { token = token; path = path; lane = lane; request = r }

  -- a call is answered
  module _ (place number token before after : ℕ) (r : Reply) (p : Pending) (open_ : pending_of token s ≡ Some p) where
    of_tokens : In p s.tokens
    of_tokens = (found_one (has_token token) s.tokens p open_).0

    named : has_token token p ≡ true
    named = (found_one (has_token token) s.tokens p open_).1

    abbrev outcome : Entry
    outcome = Entry.Outcome number token r before after

    abbrev u : StackState
    u = answered (is_restore token s) p.path p.request r s

    abbrev t : StackState
    t = record s {
      held = u.held;
      made = u.made;
      tokens = still_open token r s.tokens;
      ledger = map (answered_row token r) s.ledger;
      entries = s.entries ++ outcome ∷ [];
      events = s.events ++ lines_of place outcome s;
    }

    -- other calls stay open
    stays : (b : Reply) (c : Call) → is_call token c ≡ false → IsOpen c.token s.tokens → IsOpen c.token (still_open token b s.tokens)
    stays Reply.Doubt c n o = o
    stays b c n (q, i, e) = (q, in_kept (λ (k : Pending). not (has_token token k)) s.tokens q i (ap not (ap (λ m. token == m) e ∙ n)), e)

    of_row : (c : Call) → In c s.ledger → is_call token c ≡ true → IsRowOf p c
    of_row c i e = subst (IsRowOf p) (sym (row_only x s fits token p of_tokens named c i e)) (fits.rows p of_tokens).2

    -- a success makes its path done
    success_done : (physical : List ℕ) (attrs : List (List ℕ × Data)) → r ≡ Reply.Success physical attrs → (q : Request) → p.request ≡ q → AsksForNow s p.path q
        → (c : Call) → In c s.ledger → is_call token c ≡ true → IsDone t p.path
    success_done physical attrs e (Request.Create k props) f asked c i n = is_made found.0 (ap (current_at p.path) made_is ∙ found.1) where
      m : Held
      m = made_of (terms_at p.path s) (status_made (current_at p.path s.held)) p.path k props physical attrs

      found : (h : Held) × (current_at p.path (s.made ++ m ∷ []) ≡ Some h)
      found = made_at s.made m refl

      made_is : u.made ≡ s.made ++ m ∷ []
      made_is = λ z. (answered (is_restore token s) p.path (f z) (e z) s).made
    success_done physical attrs e (Request.Update id props) f asked c i n =
        is_updated (any_of (λ (d : Call). bytes_eq p.path d.path && (is_update d.request && is_success d.answer)) (own_calls t) (answered_row token r c) own_row
        (and_from (bytes_eq p.path (answered_row token r c).path) _ ((bytes_eq-Decides p.path (answered_row token r c).path).1 (sym (same.path ∙ row.path)))
        (and_from (is_update (answered_row token r c).request) _ (ap is_update (same.request ∙ row.request ∙ f)) good))) where
          same : IsSameCall c (answered_row token r c)
          same = answered_row_same token r c

          row : IsRowOf p c
          row = of_row c i n

          own_row : In (answered_row token r c) (own_calls t)
          own_row =
              in_kept (λ (d : Call). d.number == s.operation) (map (answered_row token r) s.ledger) (answered_row token r c) (in_map (answered_row token r) c s.ledger i)
              (eq-eqb (answered_row token r c).number s.operation (same.number ∙ (a.calls c i).0))

          good : is_success (answered_row token r c).answer ≡ true
          good = ap (λ b. is_success (cond b (answered_call r c) c).answer) n ∙ ap (λ b. is_success (answered_call b c).answer) e
    success_done physical attrs e (Request.Delete id) f asked c i n = absurd asked

    by_answer : (b : Reply) → r ≡ b → (c : Call) → In c s.ledger → is_call token c ≡ true → HasComeTo t (answered_call b c)
    by_answer Reply.Doubt e c i n = is_open (p, subst (λ b. In p (still_open token b s.tokens)) (sym e) of_tokens, sym (eqb-true token p.token named) ∙ eqb-true token c.token n)
    by_answer (Reply.Failed k) e c i n =
        is_refused k refl (number, before, after, subst (λ d. In d t.entries) (λ z. Entry.Outcome number (eqb-true token c.token n z) (e z) before after) (in_end outcome s.entries))
    by_answer (Reply.Success physical attrs) e c i n =
        path_done (subst (IsDone t) (sym (of_row c i n).path) (success_done physical attrs e p.request refl (a.asked p of_tokens) c i n))

    heard_row : IsFurther s t source → (c : Call) → In c s.ledger → (b : Bool) → is_call token c ≡ b → HasComeTo t (cond b (answered_call r c) c)
    heard_row further c i false n = still t further c c refl refl refl (stays r c n) (λ d j. in_front d s.entries (outcome ∷ []) j) (all c i)
    heard_row further c i true n = by_answer r refl c i n

    heard_come : IsFurther s t source → AllCome t
    heard_come further d i =
        let m = in_changed (answered_row token r) s.ledger d i in
        subst (HasComeTo t) m.same (heard_row further m.one m.of_list (is_call token m.one) refl)

  answered_come : (place number token before after : ℕ) (r : Reply) (o : Option Pending) → pending_of token s ≡ o
      → let t : StackState = (heard place (Entry.Outcome number token r before after) s (on_stack (replied token r o s))).stack in IsFurther s t source → AllCome t
  answered_come place number token before after r None e = λ further c i.
      still (record s { entries = s.entries ++ outcome ∷ []; events = s.events ++ lines_of place outcome s }) further c c refl refl refl (λ o. o)
      (λ d j. in_front d s.entries (outcome ∷ []) j) (all c i)
    where
      outcome : Entry
      outcome = Entry.Outcome number token r before after
  answered_come place number token before after r (Some p) e =
      subst (λ (v : StackState). let t : StackState = (heard place (Entry.Outcome number token r before after) s (on_stack (closing token r v))).stack in IsFurther s t source → AllCome t)
      (sym (answered_left (is_restore token s) p.path p.request r s).as_was) (heard_come place number token before after r p e)

  come_by : {out name : List ℕ} {e : Entry} {t : StackState} → IsAhead schemas x out name s e t → IsFurther s t source → AllCome t
  come_by (asks number token lane path r own may) further = asked_come (x.place + 1) number token lane path r further
  come_by (hears number token before after r o) further = answered_come (x.place + 1) number token before after r (pending_of token s) refl further
  come_by (opens epoch lanes) further = opened_come (x.place + 1) epoch lanes further
  come_by is_other further = all

-- where it goes forward, its stack is on its course
pub advancing : (schemas : List Schema) (name : List ℕ) (x : World) (s : StackState) → goes_forward s.status ≡ true → IsOnCourse schemas name x s s.status
    → (source : Source) × IsAdvancing schemas s source
advancing schemas name x s forward =
    only_forward (λ z. IsOnCourse schemas name x s z → (source : Source) × IsAdvancing schemas s source) (λ c. (c.0, c.1)) (λ c. c) s.status forward

module _ (schemas : List Schema) (x : World) (out : List ℕ) (e : Entry) (name : List ℕ) (s t : StackState) (w : IsWritten schemas x out e name s t)
    (way : IsOnWay schemas name x s) (come : AllHaveComeTo s) where
  -- as it begins it has no call
  no_call : (u : StackState) → u ≡ t → u.ledger ≡ map anew (filter (is_open_call s.tokens) s.ledger) → IsTrue (creates_from s.status || updates_from s.status)
      → (c : Call) → In c t.ledger → HasComeTo t c
  no_call u same rows free c i =
      elim (subst (In c) (ap (λ (z : StackState). z.ledger) (sym same) ∙ rows ∙ none_kept_of s (course_is_free schemas name x s way.course.stage free).0) i) [ ]

  none_begun : HasBegunBy schemas x name s t → goes_forward t.status ≡ true → (c : Call) → In c t.ledger → HasComeTo t c
  none_begun (Begun.Create from, f, b, q) on = no_call (begun_from x name s (Begun.Create from)) q refl (or_left (creates_from s.status) (updates_from s.status) f)
  none_begun (Begun.Update from, f, b, q) on = no_call (begun_from x name s (Begun.Update from)) q refl (or_right (creates_from s.status) (updates_from s.status) f)
  none_begun (Begun.Delete paths, f, b, q) on = absurd (true≢false (sym on ∙ ap (λ (u : StackState). goes_forward u.status) (sym q)))
  none_begun (Begun.Continue paths, f, b, q) on = absurd (true≢false (sym on ∙ ap (λ (u : StackState). goes_forward u.status) (sym q)))

  forward_come : (b : Bool) → goes_forward s.status ≡ b → goes_forward t.status ≡ true → (c : Call) → In c t.ledger → HasComeTo t c
  forward_come false waits on = none_begun (begins_ahead w waits on) on
  forward_come true forward on =
      let source = advancing schemas name x s forward way.course.stage in
      let ahead = is_ahead schemas x out name s forward (written_is_to schemas x out e name s t w) on in
      let g = goes_by schemas x out name s source.0 source.1 w.fits forward ahead in
      come_by schemas x s source.0 source.1 w.fits (come forward) ahead (further_of schemas s source.0 source.1 t g.going g.before g.left)

  pub come_stays : AllHaveComeTo t
  come_stays on = forward_come (goes_forward s.status) refl on
