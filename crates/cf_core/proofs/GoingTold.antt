-- What a forward phase's entries and ledger say of each other is kept by each of its entries.
use Rattle.std.proofs.Common.{◌≡◌, ◌⊎◌, inl, inr, ℕ, ◌+◌, ◌<◌, ◌≤◌, ◌==◌, Bool, true, false, ◌&&◌, List, ◌∷◌, ◌++◌, Option, Some, None, refl, sym, ap, subst, ◌∙◌, true≢false, map, filter, arith, []}
use Rattle.cf_core.proofs.Words.{AsksOfNow, Begun, Call, Code, Data, Entry, Fits, Forward, Held, In, IsAdvancing, AsksForNow, IsFurther, IsReady, IsRefusedIn, IsRowOf, IsTold, LeftAt, MayIntend, Pending, Reply, Request, Response, Schema, Source, StackState, ToldBegins, ToldStays, World, after_last, anew, answered, answered_call, bytes_eq, call_under as call_of, closing, current_at, doubts_in, doubts_of, effect_at, entries_with, goes_forward, has_token, heard, is_call, is_open_call, is_phase, is_restore, is_turn_or_opening, is_update, lines_of, list_any, moved, new_call, now_of, on_stack, option_map_or, pending_of, replied, reply_in, still_open, was_answered_at}
use Rattle.cf_core.proofs.Lemmas.{and_no, answered_left, any_filtered, any_mapped, any_no_more, any_of, bytes_eq-Decides, doubts_both, eq-eqb, eqb-true, found_in_more, found_one, found_still, in_changed, in_either, in_end, in_front, in_mapped, in_more, in_one, no_and, some_is, to_mapped}
use Rattle.cf_core.proofs.AdvSteps.{HasBegunBy, IsAhead, apart, asks, begins_ahead, begun_from, further_of, goes_by, hears, is_ahead, is_other, no_restore, none_kept_of, opens, ready_said, ready_stays, row_only, rows_same, was_open}
use Rattle.cf_core.proofs.Rows.{anew_same, answered_row, answered_row_same, answered_same, row_found}
use Rattle.cf_core.proofs.{Moving.written_is_to, Cleanups.new_called, Cleanups.new_open}
use Rattle.cf_effect.specs.declared.call.Settled.{Settled}
use Rattle.std.specs.Prelude.{cond, is_some}

-- one more that does not pass comes after the last that does
pub after_more : {A : Type 0} (test : A → Bool) (xs : List A) (x : A) → test x ≡ false → after_last test (xs ++ x ∷ []) ≡ after_last test xs ++ x ∷ []
after_more test [] x e = ap (λ b. cond b [] (x ∷ [])) e
after_more test (y ∷ ys) x e = grind (arith, after_more test ys x e, any_no_more)

-- an answered update at a path, among all rows
abbrev is_answered_at : ℕ → List ℕ → Call → Bool
is_answered_at n q c = (c.number == n) && (bytes_eq q c.path && (is_update c.request && is_some c.answer))

answered_all : (q : List ℕ) (s : StackState) → was_answered_at q s ≡ list_any (is_answered_at s.operation q) s.ledger
answered_all q s = any_filtered (λ c. c.number == s.operation) (λ c. bytes_eq q c.path && (is_update c.request && is_some c.answer)) s.ledger

doubts_found : (s : StackState) (token : ℕ) (c : Call) → call_of token s ≡ Some c → doubts_of token s ≡ c.doubts
doubts_found s token c e = ap (λ o. option_map_or (λ d. d.doubts) o 0) e

-- there is this entry more, if any
abbrev HasMore : Entry → StackState → StackState → Type 0
HasMore e s t = (t.entries ≡ s.entries) ⊎ (t.entries ≡ s.entries ++ e ∷ [])

module _ (schemas : List Schema) (x : World) (s : StackState) (source : Source) (a : IsAdvancing schemas s source) (fits : Fits x s) (told : IsTold s)
    (t : StackState) (further : IsFurther s t source) (left : (q : List ℕ) → LeftAt s t q) where
  -- a row that was refused in the stack as it is now
  abbrev Refused : Call → List ℕ → List (List ℕ × Data) → Code → Type 0
  Refused c id props k = IsRefusedIn t c k × IsReady s c.path × AsksOfNow s c.path id props × (current_at c.path t.held ≡ current_at c.path s.held)

  -- The stack with one entry more: what is of the entry and its calls.
  record IsToldNext (e : Entry) : Type 0 where
    entries : HasMore e s t
    no_phase : is_phase e ≡ false
    called : (r : Response) → reply_in e ≡ Some r → (c : Call) × (call_of r.token s ≡ Some c)
    stays : (token : ℕ) (c : Call) → call_of token s ≡ Some c → (d : Call) × (call_of token t ≡ Some d)
    doubted : (p : Pending) → In p t.tokens → doubts_of p.token t ≤ doubts_in p.token (now_of t)
    once : (p : Pending) → In p t.tokens → is_update p.request ≡ true → was_answered_at p.path t ≡ false
    refused : (c : Call) (id : List ℕ) (props : List (List ℕ × Data)) (k : Code) → In c t.ledger → c.request ≡ Request.Update id props
        → c.answer ≡ Some (Settled.Failed k) → Refused c id props k

  told_next : (e : Entry) → IsToldNext e → IsTold t
  told_next e n = record {
    no_phase = grind (arith, any_no_more is_phase s.entries e n.no_phase, n.entries, told.no_phase);
    called = λ r i. let m = in_mapped reply_in t.entries r i in
        grind (arith, new m.one m.of_list, told.called r, to_mapped reply_in s.entries m.one r, n.called r, n.stays r.token);
    doubted = n.doubted;
    once = n.once;
    refused = λ c id props k i q g. let w = n.refused c id props k i q g in record {
      told = w.0;
      ready = ready_stays s t source further c.path w.1;
      asks = (w.2.0, w.3 ∙ w.2.1, w.2.2, ready_said s t source further c.path w.1 ∙ w.2.3);
    };
  } where
    new : (d : Entry) → In d t.entries → In d s.entries ⊎ (d ≡ e)
    new d i = grind (arith, in_either, in_one)

  -- what was refused before is so still: at its path no update is open
  refused_still : (e : Entry) → HasMore e s t → (c : Call) (id : List ℕ) (props : List (List ℕ × Data)) (k : Code) → In c s.ledger → c.request ≡ Request.Update id props
      → c.answer ≡ Some (Settled.Failed k) → Refused c id props k
  refused_still e more c id props k i u g =
      let w = told.refused c id props k i u g in
      ((w.told.0, w.told.1, w.told.2, grind (arith, in_front)), w.ready, w.asks, by (left c.path)) where
        by : LeftAt s t c.path → current_at c.path t.held ≡ current_at c.path s.held
        by l =
            let in_row = a.calls c i in
            grind (arith, answered_all, any_of (is_answered_at s.operation c.path) s.ledger c i, told.once, bytes_eq-Decides)

-- An opening.
module _ (schemas : List Schema) (x : World) (s : StackState) (source : Source) (a : IsAdvancing schemas s source) (fits : Fits x s) (told : IsTold s) (place : ℕ) where
  opened_told : (epoch : ℕ) (lanes : List (List ℕ × List ℕ)) → IsFurther s (effect_at place (Entry.Opened epoch lanes) s).stack source
      → ((q : List ℕ) → LeftAt s (effect_at place (Entry.Opened epoch lanes) s).stack q) → IsTold (effect_at place (Entry.Opened epoch lanes) s).stack
  opened_told epoch lanes further left = told_next schemas x s source a fits told t further left (Entry.Opened epoch lanes) (record {
    entries = more s.entries;
    no_phase = refl;
    called = λ r f. let no : ⊥ = cc in absurd no;
    stays = λ token c f. (anew c, row_found anew anew_same token s.ledger c f);
    doubted = λ p i. let c = fits.rows p i in let none = doubts_found t p.token (anew c.0) (row_found anew anew_same p.token s.ledger c.0 c.1) in omega (arith, none);
    once = λ p i u. answered_all p.path t ∙ any_mapped anew (is_answered_at s.operation p.path) s.ledger ∙ sym (answered_all p.path s) ∙ told.once p i u;
    refused = λ c id props k i u g.
        let m = in_changed anew s.ledger c i in
        subst (λ d. Refused schemas x s source a fits told t further left d id props k) m.same
        (refused_still schemas x s source a fits told t further left (Entry.Opened epoch lanes) (more s.entries) m.one id props k m.of_list (ap (λ d. d.request) m.same ∙ u)
        (ap (λ d. d.answer) m.same ∙ g));
  }) where
    t : StackState
    t = (effect_at place (Entry.Opened epoch lanes) s).stack

    more : (es : List Entry) → (entries_with (Entry.Opened epoch lanes) es ≡ es) ⊎ (entries_with (Entry.Opened epoch lanes) es ≡ es ++ Entry.Opened epoch lanes ∷ [])
    more v0 = grind arith

  -- A call goes out.
  module _ (number token : ℕ) (lane path : List ℕ) (r : Request) (name out : List ℕ) (may : MayIntend schemas name x out s Forward token lane path r) (lines : List (List ℕ)) where
    abbrev q : Pending
    q = record { token = token; path = path; lane = lane; request = r }

    abbrev row : Call
    row = new_call number s.status q

    abbrev intent : Entry
    intent = Entry.Intent number token lane path r

    abbrev with_call : StackState
    with_call = record s { tokens = s.tokens ++ q ∷ []; ledger = s.ledger ++ row ∷ []; entries = s.entries ++ intent ∷ []; events = lines }

    is_new : x.token < token
    is_new = let next = may.next in omega (arith, next)

    none_open : list_any (has_token token) s.tokens ≡ false
    none_open = new_open x s fits token is_new

    intent_told : IsFurther s with_call source → ((p : List ℕ) → LeftAt s with_call p) → IsTold with_call
    intent_told further left = told_next schemas x s source a fits told with_call further left intent (record {
      entries = inr refl;
      no_phase = refl;
      called = λ r f. let no : ⊥ = cc in absurd no;
      stays = λ t c f. (c, found_still (is_call t) s.ledger (row ∷ []) c f);
      doubted = in_more (λ p. doubts_of p.token with_call ≤ doubts_in p.token (now_of with_call)) q s.tokens
          (λ p i.
          let c = fits.rows p i in
          let now = doubts_found with_call p.token c.0 (found_still (is_call p.token) s.ledger (row ∷ []) c.0 c.1) in
          let was = doubts_found s p.token c.0 c.1 in
          let less = told.doubted p i in
          let more : doubts_in p.token (now_of with_call) ≡ doubts_in p.token (now_of s) + 0 =
          ap (doubts_in p.token) (after_more is_turn_or_opening s.entries intent refl) ∙ doubts_both schemas s p.token (now_of s) (intent ∷ []) in
          omega (arith, now, was, less, more))
          (let none = doubts_found with_call token row (found_in_more (is_call token) s.ledger row (eq-eqb token token refl) (new_called x s fits token is_new)) in omega (arith, none));
      once = in_more (λ p. is_update p.request ≡ true → was_answered_at p.path with_call ≡ false) q s.tokens (λ p i u. as_it_was p.path ∙ told.once p i u)
          (λ u. as_it_was path ∙ (grind (arith, true≢false)));
      refused = λ c id props k i u g. elim (in_either c s.ledger (row ∷ []) i) [
        | inl j ↦ refused_still schemas x s source a fits told with_call further left intent (inr refl) c id props k j u g
        | inr j ↦ let e = sym (ap (λ (d : Call). d.answer) (in_one c row j)) ∙ g in let no : ⊥ = cc in absurd no
      ];
    }) where
      as_it_was : (p : List ℕ) → was_answered_at p with_call ≡ was_answered_at p s
      as_it_was p = search (answered_all, with_call, any_no_more, is_answered_at, row, and_no)

  -- A call is answered.
  module _ (number token before after : ℕ) (r : Reply) (p : Pending) (open_ : pending_of token s ≡ Some p) (hs ms : List Held) (lines : List (List ℕ)) where
    of_tokens : In p s.tokens
    of_tokens = (found_one (has_token token) s.tokens p open_).0

    named : has_token token p ≡ true
    named = (found_one (has_token token) s.tokens p open_).1

    of_row : Call
    of_row = (fits.rows p of_tokens).0

    is_row : IsRowOf p of_row
    unfolding of_row
    is_row = (fits.rows p of_tokens).2

    row_at : call_of token s ≡ Some of_row
    unfolding of_row
    row_at = ap (λ n. call_of n s) (eqb-true token p.token named) ∙ (fits.rows p of_tokens).1

    only : (c : Call) → In c s.ledger → is_call token c ≡ true → c ≡ of_row
    unfolding of_row
    only c i e = row_only x s fits token p of_tokens named c i e

    abbrev outcome : Entry
    outcome = Entry.Outcome number token r before after

    abbrev t : StackState
    t = moved s hs ms (still_open token r s.tokens) (map (answered_row token r) s.ledger) (s.entries ++ outcome ∷ []) lines

    -- the doubts of an open call
    doubted_by : (k : ℕ) (c : Call) → k ≡ c.token → (b : Bool) → is_call token c ≡ b → (y : Reply)
        → (cond b (answered_call y c) c).doubts ≤ c.doubts + doubts_in k (Entry.Outcome number token y before after ∷ [])
    doubted_by k c e b n y = grind (arith, eq-eqb, eqb-true)

    doubted_now : (k : Pending) → In k s.tokens → doubts_of k.token t ≤ doubts_in k.token (now_of t)
    doubted_now k i =
        let c = fits.rows k i in
        let now = doubts_found t k.token (answered_row token r c.0) (row_found (answered_row token r) (answered_row_same token r) k.token s.ledger c.0 c.1) in
        let was = doubts_found s k.token c.0 c.1 in
        let less = told.doubted k i in
        let more : doubts_in k.token (now_of t) ≡ doubts_in k.token (now_of s) + doubts_in k.token (outcome ∷ []) =
        ap (doubts_in k.token) (after_more is_turn_or_opening s.entries outcome refl) ∙ doubts_both schemas s k.token (now_of s) (outcome ∷ []) in
        let step = doubted_by k.token c.0 (eqb-true k.token c.0.token (found_one (is_call k.token) s.ledger c.0 c.1).1) (is_call token c.0) refl r in
        omega (arith, now, was, less, more, step)

    -- an open update's path
    once_now : (k : Pending) → In k s.tokens → (k.path ≡ p.path → ⊥) ⊎ (r ≡ Reply.Doubt) → is_update k.request ≡ true → was_answered_at k.path t ≡ false
    once_now k i apart_or u =
        answered_all k.path t ∙ rows_same x s fits token p of_tokens named r (is_answered_at s.operation k.path) (λ c j e w. by c w apart_or)
        ∙ sym (answered_all k.path s) ∙ told.once k i u where
          by : (c : Call) → IsRowOf p c → (k.path ≡ p.path → ⊥) ⊎ (r ≡ Reply.Doubt) → is_answered_at s.operation k.path (answered_call r c) ≡ is_answered_at s.operation k.path c
          by c w why = grind (arith, apart, and_no, no_and, answered_same r c, w.path)

    module _ (further : IsFurther s t source) (left : (q : List ℕ) → LeftAt s t q) (failed : (f : Code) → r ≡ Reply.Failed f → hs ≡ s.held) where
      abbrev Is : Call → List ℕ → List (List ℕ × Data) → Code → Type 0
      Is c id props k = Refused schemas x s source a fits told t further left c id props k

      -- what is refused
      refused_row : (d : Call) (id : List ℕ) (props : List (List ℕ × Data)) (k : Code) → d ≡ of_row → token ≡ d.token → (b : Reply) → r ≡ b
          → (answered_call b d).request ≡ Request.Update id props → (answered_call b d).answer ≡ Some (Settled.Failed k) → Is (answered_call b d) id props k
      refused_row d id props k m n (Reply.Failed f) e u g =
          let path : d.path ≡ p.path = let w = is_row.path in cc in
          let asks : p.request ≡ Request.Update id props = let w = is_row.request in cc in
          let this : outcome ≡ Entry.Outcome number d.token (Reply.Failed k) before after = let f : f ≡ k = cc in cc in (
            (number, before, after, subst (λ h. In h t.entries) this (in_end outcome s.entries)),
            subst (IsReady s) (sym path) (a.ready p of_tokens),
            subst (λ q. AsksOfNow s q id props) (sym path) (subst (AsksForNow s p.path) asks (a.asked p of_tokens)),
            ap (current_at d.path) (failed f e),
          )
      refused_row d id props k m n b e u g = let un = is_row.unanswered in grind arith

      refused_now : (d : Call) (id : List ℕ) (props : List (List ℕ × Data)) (k : Code) → In d s.ledger → (b : Bool) → is_call token d ≡ b
          → (cond b (answered_call r d) d).request ≡ Request.Update id props → (cond b (answered_call r d) d).answer ≡ Some (Settled.Failed k)
          → Is (cond b (answered_call r d) d) id props k
      refused_now d id props k i true e u g = refused_row d id props k (only d i e) (eqb-true token d.token e) r refl u g
      refused_now d id props k i false e u g = refused_still schemas x s source a fits told t further left outcome (inr refl) d id props k i u g

      outcome_told : IsTold t
      outcome_told = told_next schemas x s source a fits told t further left outcome (record {
        entries = inr refl;
        no_phase = refl;
        called = λ q f. (of_row, ap (λ (y : Response). call_of y.token s) (sym (some_is (record { token = token; answer = r; before = before; after = after }) q f)) ∙ row_at);
        stays = λ n c f. (answered_row token r c, row_found (answered_row token r) (answered_row_same token r) n s.ledger c f);
        doubted = λ q i. doubted_now q (was_open x s fits token p of_tokens named r q i).0;
        once = λ q i u. let w = was_open x s fits token p of_tokens named r q i in once_now q w.0 w.1 u;
        refused = λ c id props k i u g.
            let m = in_changed (answered_row token r) s.ledger c i in
            subst (λ d. Is d id props k) m.same
            (refused_now m.one id props k m.of_list (is_call token m.one) refl (ap (λ (d : Call). d.request) m.same ∙ u) (ap (λ (d : Call). d.answer) m.same ∙ g));
      })

-- Each entry of a forward phase.
module _ (schemas : List Schema) (x : World) (out name : List ℕ) (s : StackState) (source : Source) (a : IsAdvancing schemas s source) (fits : Fits x s)
    (told : IsTold s) where
  -- what is held stays where the call of an answer fails
  held_failed : (restores : Bool) (path : List ℕ) (r : Request) (f : Code) → restores ≡ false → AsksForNow s path r → (answered restores path r (Reply.Failed f) s).held ≡ s.held
  held_failed restores path r f e asked = grind (arith, true≢false)

  abbrev Told : StackState → Type 0
  Told t = IsFurther s t source → ((q : List ℕ) → LeftAt s t q) → IsTold t

  answered_told : (number token before after : ℕ) (r : Reply) (o : Option Pending) → pending_of token s ≡ o → is_some o ≡ true
      → Told (heard (x.place + 1) (Entry.Outcome number token r before after) s (on_stack (replied token r o s))).stack
  answered_told number token before after r None e there = absurd (true≢false (sym there))
  answered_told number token before after r (Some p) e there =
      let f = found_one (has_token token) s.tokens p e in
      let u = answered (is_restore token s) p.path p.request r s in
      subst (λ v. Told (heard (x.place + 1) (Entry.Outcome number token r before after) s (on_stack (closing token r v))).stack)
      (sym (answered_left (is_restore token s) p.path p.request r s).as_was)
      (λ further left. outcome_told schemas x s source a fits told (x.place + 1) number token before after r p e u.held u.made _ further left
      (λ c g. ap (λ y. (answered (is_restore token s) p.path p.request y s).held) g
      ∙ held_failed (is_restore token s) p.path p.request c
      (no_restore x s fits token p f.0 f.1 (record { calls = a.calls; at_path = a.at_path })) (a.asked p f.0)))

  told_by : {e : Entry} {t : StackState} → IsAhead schemas x out name s e t → Told t
  told_by (asks number token lane path r own may) =
      let e : Entry = Entry.Intent number token lane path r in
      let q : Pending = record { token = token; path = path; lane = lane; request = r } in
      let lines : List (List ℕ) = s.events ++ lines_of (x.place + 1) e s in
      subst (λ u. Told (record u { entries = u.entries ++ e ∷ []; events = u.events ++ lines_of (x.place + 1) e s }))
      (ap (λ b. cond b s (record s { tokens = s.tokens ++ q ∷ []; ledger = s.ledger ++ new_call number s.status q ∷ [] }))
      (sym (none_open schemas x s source a fits told (x.place + 1) number token lane path r name out may lines)))
      (intent_told schemas x s source a fits told (x.place + 1) number token lane path r name out may lines)
  told_by (hears number token before after r open_) = answered_told number token before after r (pending_of token s) refl open_
  told_by (opens epoch lanes) = opened_told schemas x s source a fits told (x.place + 1) epoch lanes
  told_by is_other = λ further left. told

pub told_stays : ToldStays
told_stays schemas x out e name s t source w forward on a told =
    let ahead = is_ahead schemas x out name s forward (written_is_to schemas x out e name s t w) on in
    let g = goes_by schemas x out name s source a w.fits forward ahead in
    told_by schemas x out name s source a w.fits told ahead (further_of schemas s source a t g.going g.before g.left) g.left

-- As a creation or an update begins, where no call is open, it has the one entry, and no row.
begun_told : (s t : StackState) (b : Entry) → s.tokens ≡ [] → is_phase b ≡ false → reply_in b ≡ None → t.entries ≡ b ∷ [] → t.tokens ≡ s.tokens
    → t.ledger ≡ map anew (filter (is_open_call s.tokens) s.ledger) → IsTold t
begun_told s t b none no_phase no_reply entries tokens ledger = grind (arith, in_mapped, in_one, none_kept_of)

pub told_begins : ToldBegins
told_begins schemas x out e name s t w waits goes none = by (begins_ahead w waits goes) where
  by : HasBegunBy schemas x name s t → IsTold t
  by (Begun.Create from, f, b, q) = subst IsTold q (begun_told s (begun_from x name s (Begun.Create from)) _ none refl refl refl refl refl)
  by (Begun.Update from, f, b, q) = subst IsTold q (begun_told s (begun_from x name s (Begun.Update from)) _ none refl refl refl refl refl)
  by (Begun.Delete paths, f, b, q) = absurd (true≢false (sym goes ∙ ap (λ (u : StackState). goes_forward u.status) (sym q)))
  by (Begun.Continue paths, f, b, q) = absurd (true≢false (sym goes ∙ ap (λ (u : StackState). goes_forward u.status) (sym q)))
