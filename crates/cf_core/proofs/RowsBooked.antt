-- What rows, answers and open calls say of each other, as rows change, and as calls and answers are added.
use Rattle.std.proofs.Common.{◌≡◌, ℕ, List, [], ◌∷◌, ◌++◌, true, false, ◌||◌, Option, Some, None, refl, sym, ap, ◌∙◌, map, option_map, ◌<◌, ◌⊎◌, inl, inr, true≢false, arith}
use Rattle.cf_core.proofs.Words.{AreBooked, AreRestoring, Call, GivesBack, HasFailedIn, Held, In, IsAnsweredIn, IsCounted, IsGivenUp, IsOpen, IsRowOf, Pending, Reply, Request, Response, Status, anew, answered_call, bytes_eq, cond, deletes, goes_back, has_path, is_bad_at, is_bad_outcome, is_call, is_doubt, is_refusal, is_restoring, is_success, is_update, new_call, second_so, settled_by, still_open, succeeded, updates, was_refused, where_call}
use Rattle.cf_core.proofs.Lemmas.{bytes_or, each_map as each_mapped, eq-eqb, eqb-true, found_one, found_same, found_still, if_other, if_same, in_end, in_filter, in_front, in_more, in_reversed, none_below, not_so, reversed_more}
use Rattle.cf_core.proofs.Rows.{IsSameCall, anew_same, answered_same, answered_row, answered_row_same, call_mapped}
use Rattle.cf_core.specs.Books.{row_in}
use Rattle.cf_tree.specs.Counts.{HasRisen}
use Rattle.cf_plan.proofs.BlameAnswer.{doubt_open, in_still, stays_open}
use Rattle.cf_effect.specs.declared.call.Settled.TheVariants as settled

-- where each answer's call is at the path as before, and as good or bad as before, the last one is as bad as before
pub bad_same : (path : List ℕ) (rows rows' : List Call) (replies : List Response)
    → ((r : Response) → In r replies → has_path path (row_in r.token rows') ≡ has_path path (row_in r.token rows))
    → ((r : Response) → In r replies → is_bad_outcome (row_in r.token rows') r.answer ≡ is_bad_outcome (row_in r.token rows) r.answer)
    → is_bad_at path rows' replies ≡ is_bad_at path rows replies
bad_same path rows rows' replies at bad = grind (arith, found_same, in_reversed, found_one)

module _ (f : Call → Call) (same : (c : Call) → IsSameCall c (f c)) where
  outcome_mapped : (o : Option Call) (a : Reply) → is_bad_outcome (option_map f o) a ≡ is_bad_outcome o a
  outcome_mapped o a = grind arith

  pub bad_mapped : (path : List ℕ) (rows : List Call) (replies : List Response) → is_bad_at path (map f rows) replies ≡ is_bad_at path rows replies
  bad_mapped path rows replies = grind (arith, bad_same, call_mapped, outcome_mapped)

-- as a call is added
pub bad_called : (path : List ℕ) (rows more : List Call) (replies : List Response)
    → ((r : Response) → In r replies → (c : Call) × (row_in r.token rows ≡ Some c)) → is_bad_at path (rows ++ more) replies ≡ is_bad_at path rows replies
bad_called path rows more replies called =
    bad_same path rows (rows ++ more) replies (λ r i. ap (has_path path) (still r i)) (λ r i. ap (λ o. is_bad_outcome o r.answer)
    (still r i)) where
      still : (r : Response) → In r replies → row_in r.token (rows ++ more) ≡ row_in r.token rows
      still r i = let k = called r i in found_still (is_call r.token) rows more k.0 k.1 ∙ sym k.1

-- What rows, answers and open calls say of each other stays so as a phase begins, as calls are given up, and as one is written down
-- or answered.

-- a resource of a list has this one's path and id
pub record IsLike (hs : List Held) (h : Held) : Type 0 where
  pub one : Held
  pub of_list : In one hs
  pub path : one.path ≡ h.path
  pub physical : one.physical ≡ h.physical

-- by an answer to a call: a resource was there, and where the call deletes it, it was in doubt or refused; or no call deletes it
abbrev pub IsLeftBy : List Held → List Call → Pending → Reply → Held → Type 0
IsLeftBy things rows p answer r =
    (IsLike things r × (deletes r.physical p.request ≡ true → (is_doubt answer ≡ true) ⊎ (is_refusal p.request (settled_by answer) ≡ true)))
    ⊎ ((c : Call) → In c rows → deletes r.physical c.request ≡ true → ⊥)

none_refuses : (q : Request) → is_refusal q None ≡ false
none_refuses q = grind arith

pub success_refuses : (q : Request) → is_refusal q (Some settled.Success) ≡ false
success_refuses q = grind arith

-- an update that is answered by a failure is refused
update_refused : (q : Request) (k : _) → is_update q ≡ true → is_refusal q (Some (settled.Failed k)) ≡ true
update_refused q k e = grind arith

pub rose : (a : Reply) (before after : ℕ) → IsCounted a before after → is_success (settled_by a) ≡ false → HasRisen before after
rose a before after h e = grind arith

closed : (token : ℕ) (tokens : List Pending) (a : Reply) (q : Pending) → In q (still_open token a tokens) → q.token ≡ token → is_doubt a ≡ true
closed token tokens a q i e = grind (arith, eq-eqb, not_so, in_filter)

pub open_front : {ps : List Pending} {token : ℕ} (qs : List Pending) → IsOpen token ps → IsOpen token (ps ++ qs)
open_front {ps} {token} qs k = (k.0, in_front k.0 ps qs k.1, k.2)

on_left : {A B C : Type 0} → (A → B) → A ⊎ C → B ⊎ C
on_left f = elim [ inl a ↦ inl (f a) | inr c ↦ inr c ]

on_given : {A B C D E : Type 0} → (A → B) → (C → D) → A ⊎ (E ⊎ C) → B ⊎ (E ⊎ D)
on_given f g = elim [ inl a ↦ inl (f a) | inr k ↦ inr (elim k [ inl e ↦ inl e | inr c ↦ inr (g c) ]) ]

-- where an operation begins, nothing of it is written yet
pub booked_begun : (number : ℕ) (rows : List Call) (tokens : List Pending) (things : List Held) → ((c : Call) → In c rows → c.number ≡ number → ⊥)
    → ((c : Call) → In c rows → c.doubts ≡ 0) → AreBooked number rows [] tokens things
booked_begun number rows tokens things other none = grind (arith, none_below)

pub restoring_begun : (number : ℕ) (rows : List Call) (tokens : List Pending) (before : List Held) (replies : List Response)
    → ((c : Call) → In c rows → c.number ≡ number → is_restoring c ≡ true → ⊥) → AreRestoring number rows replies tokens before
restoring_begun number rows tokens before replies other = record { of_before = λ c i e r. absurd (other c i e r); come_to = λ c i e r. absurd (other c i e r) }

module _ (number : ℕ) (rows : List Call) (replies : List Response) (tokens : List Pending) where
  -- a phase or an opening begins
  pub booked_anew : (things : List Held) → AreBooked number rows replies tokens things → AreBooked number (map anew rows) replies tokens things
  booked_anew things h = record {
    called = λ r i. let k = h.called r i in (anew k.0, call_mapped anew anew_same r.token rows ∙ ap (option_map anew) k.1);
    counted = h.counted;
    refused = each_mapped (λ c. c.number ≡ number → was_refused c ≡ true → HasFailedIn replies c) anew rows h.refused;
    doubted = each_mapped (λ c. 0 < c.doubts → IsAnsweredIn replies c) anew rows (λ c i l. absurd (none_below l));
    bad = λ p r i j e. bad_mapped anew anew_same p.path rows replies ∙ h.bad p r i j e;
    tried = λ c r i e j d.
        each_mapped (λ x. x.number ≡ number → deletes r.physical x.request ≡ true → (x.path ≡ r.path) × (IsOpen x.token tokens ⊎ (was_refused x ≡ true))) anew rows
        (λ x k n. h.tried x r k n j) c i e d;
  }

  pub restoring_anew : (before : List Held) → AreRestoring number rows replies tokens before → AreRestoring number (map anew rows) replies tokens before
  restoring_anew before h = record {
    of_before = each_mapped (λ c. c.number ≡ number → is_restoring c ≡ true → GivesBack before c) anew rows h.of_before;
    come_to = each_mapped
        (λ c. c.number ≡ number → is_restoring c ≡ true → IsOpen c.token tokens ⊎ ((succeeded c ≡ true) ⊎ IsGivenUp (map anew rows) replies tokens c)) anew rows
        (λ c i e r. on_given (λ o. o) (λ k. record { refused = k.refused; bad = bad_mapped anew anew_same c.path rows replies ∙ k.bad; closed = k.closed }) (h.come_to c i e r));
  }

  -- fewer calls are open and fewer resources there, but no deletion of a resource that is there was given up
  pub booked_fewer : (things : List Held) → AreBooked number rows replies tokens things → (tokens' : List Pending) (things' : List Held)
      → ((p : Pending) → In p tokens' → In p tokens) → ((r : Held) → In r things' → IsLike things r)
      → ((p : Pending) (c : Call) (r : Held) → In p tokens → In c rows → p.token ≡ c.token → In r things' → deletes r.physical c.request ≡ true → In p tokens')
      → AreBooked number rows replies tokens' things'
  booked_fewer things h tokens' things' fewer less left = grind (arith, on_left)

  -- a call is written down
  module _ (state : Status) (q : Pending) where
    abbrev row : Call
    row = new_call number state q

    pub booked_called : (things : List Held) → AreBooked number rows replies tokens things → ((r : Response) → In r replies → r.token ≡ q.token → ⊥)
        → ((r : Held) → In r things → deletes r.physical q.request ≡ true → q.path ≡ r.path)
        → AreBooked number (rows ++ row ∷ []) replies (tokens ++ q ∷ []) things
    booked_called things h new named = record {
      called = λ r i. let k = h.called r i in (k.0, found_still (is_call r.token) rows (row ∷ []) k.0 k.1);
      counted = h.counted;
      refused =
          in_more (λ c. c.number ≡ number → was_refused c ≡ true
          → HasFailedIn replies c) row rows h.refused (λ n e. absurd (true≢false (sym e ∙ none_refuses q.request)));
      doubted = in_more (λ c. 0 < c.doubts → IsAnsweredIn replies c) row rows h.doubted (λ l. absurd (none_below l));
      bad = λ p r i j e.
          bad_called p.path rows (row ∷ []) replies h.called
          ∙ in_more (λ x. r.token ≡ x.token → is_bad_at x.path rows replies ≡ true) q tokens (λ x k. h.bad x r k j) (λ d. absurd (new r j d)) p i e;
      tried = λ c r i e j d.
          in_more (λ x. x.number ≡ number → deletes r.physical x.request ≡ true → (x.path ≡ r.path) × (IsOpen x.token (tokens ++ q ∷ [])
          ⊎ (was_refused x ≡ true))) row rows
          (λ x k n f. let t = h.tried x r k n j f in (t.0, on_left (open_front (q ∷ [])) t.1)) (λ n f. (named r j f, inl (q, in_end q tokens, refl))) c i e d;
    }

    pub restoring_called : (before : List Held) → AreRestoring number rows replies tokens before
        → ((r : Response) → In r replies → (c : Call) × (row_in r.token rows ≡ Some c)) → GivesBack before row
        → ((c : Call) → In c rows → c.number ≡ number → is_restoring c ≡ true → was_refused c ≡ true → q.path ≡ c.path → ⊥)
        → AreRestoring number (rows ++ row ∷ []) replies (tokens ++ q ∷ []) before
    restoring_called before h called gives apart = record {
      of_before = in_more (λ c. c.number ≡ number → is_restoring c ≡ true → GivesBack before c) row rows h.of_before (λ n r. gives);
      come_to = in_more (λ c. c.number ≡ number → is_restoring c ≡ true
          → IsOpen c.token (tokens ++ q ∷ []) ⊎ ((succeeded c ≡ true) ⊎ IsGivenUp (rows ++ row ∷ []) replies (tokens ++ q ∷ []) c)) row rows
          (λ c i e r. on_given (open_front (q ∷ []))
          (λ k. record {
            refused = k.refused;
            bad = bad_called c.path rows (row ∷ []) replies called ∙ k.bad;
            closed = in_more (λ p. p.path ≡ c.path → ⊥) q tokens k.closed (apart c i e r k.refused);
          }) (h.come_to c i e r)) (λ n r. inl (q, in_end q tokens, refl));
    }

  -- a call is answered
  module _ (p : Pending) (i : In p tokens) (token : ℕ) (named : token ≡ p.token) (answer : Reply) (before after : ℕ) (its : Call)
      (found : row_in token rows ≡ Some its) (rowed : (q : Pending) (c : Call) → In q tokens → In c rows → q.token ≡ c.token → IsRowOf q c)
      (paths : (q r : Pending) → In q tokens → In r tokens → q.path ≡ r.path → q ≡ r) where
    abbrev r0 : Response
    r0 = record { token = token; answer = answer; before = before; after = after }

    abbrev rows' : List Call
    rows' = where_call token (answered_call answer) rows

    abbrev replies' : List Response
    replies' = replies ++ r0 ∷ []

    abbrev tokens' : List Pending
    tokens' = still_open token answer tokens

    row_of : IsRowOf p its
    row_of = let one = found_one (is_call token) rows its found in rowed p its i one.0 (sym named ∙ eqb-true token its.token one.1)

    each_answered : (P : Call → Type 0) → ((c : Call) → In c rows → token ≡ c.token → IsRowOf p c → P (answered_call answer c))
        → ((c : Call) → In c rows → (token ≡ c.token → ⊥) → P c) → (c : Call) → In c rows' → P c
    each_answered P same other = each_mapped P (answered_row token answer) rows (λ c j. grind (arith, eqb-true, eq-eqb))

    -- the last answer at a path, by then
    bad_then : (path : List ℕ) → is_bad_at path rows' replies' ≡ cond (bytes_eq path p.path) (is_bad_outcome (Some its) answer) (is_bad_at path rows replies)
    bad_then path =
        bad_mapped (answered_row token answer) (answered_row_same token answer) path rows replies' ∙ (grind (arith, reversed_more))
        ∙ ap (λ a. cond (bytes_eq path a) (is_bad_outcome (Some its) answer) (is_bad_at path rows replies)) row_of.path

    bad_there : (path : List ℕ) → path ≡ p.path → is_bad_outcome (Some its) answer ≡ true → is_bad_at path rows' replies' ≡ true
    bad_there path e b = bad_then path ∙ if_same path p.path (is_bad_outcome (Some its) answer) (is_bad_at path rows replies) e ∙ b

    bad_else : (path : List ℕ) → (path ≡ p.path → ⊥) → is_bad_at path rows' replies' ≡ is_bad_at path rows replies
    bad_else path n = bad_then path ∙ if_other path p.path (is_bad_outcome (Some its) answer) (is_bad_at path rows replies) n

    open_still : (c : Call) → (token ≡ c.token → ⊥) → IsOpen c.token tokens → IsOpen c.token tokens'
    open_still c n k = (k.0, stays_open token tokens answer k.0 k.1 (λ u. n (sym u ∙ k.2)), k.2)

    module _ (things things' : List Held) (h : AreBooked number rows replies tokens things) (counted : IsCounted answer before after)
        (from : (r : Held) → In r things' → IsLeftBy things rows p answer r) where
      failed_further : (c : Call) → HasFailedIn replies c → HasFailedIn replies' c
      failed_further c k = (k.0, in_front k.0 replies (r0 ∷ []) k.1, k.2, k.3)

      refused_now : (a : Reply) → answer ≡ a → (c : Call) → In c rows → token ≡ c.token → (answered_call a c).number ≡ number
          → was_refused (answered_call a c) ≡ true → HasFailedIn replies' (answered_call a c)
      refused_now (Reply.Success physical attrs) is c j e n k = absurd (true≢false (sym k ∙ success_refuses c.request))
      refused_now (Reply.Failed x) is c j e n k = (r0, in_end r0 replies, e, ap (λ a. is_success (settled_by a)) is)
      refused_now Reply.Doubt is c j e n k = failed_further c (h.refused c j n k)

      bad_answered : (q : Pending) (r : Response) → In q tokens' → In r replies' → r.token ≡ q.token → is_bad_at q.path rows' replies' ≡ true
      bad_answered q r j l e = let was : In q tokens = in_still token tokens answer q j in elim (bytes_or q.path p.path) [
        | inl path ↦ bad_there q.path path (ap (λ b. b || is_refusal its.request (settled_by answer))
            (closed token tokens answer q j (ap (λ z. z.token) (paths q p was i path) ∙ sym named)))
        | inr other ↦ bad_else q.path other ∙ in_more (λ z. z.token ≡ q.token → is_bad_at q.path rows replies ≡ true) r0 replies (λ z k. h.bad q z was k)
            (λ d.
            let one = found_one (is_call token) rows its found in
            absurd (other (sym (rowed q its was one.0 (sym d ∙ eqb-true token its.token one.1)).path ∙ row_of.path))) r l e
      ]

      -- a call that deletes a resource of those that are left is at its path, and did so before
      tried_now : (c : Call) → In c rows → c.number ≡ number → (r : Held) → In r things' → deletes r.physical c.request ≡ true
          → (c.path ≡ r.path) × (IsOpen c.token tokens ⊎ (was_refused c ≡ true))
          × (deletes r.physical p.request ≡ true → (is_doubt answer ≡ true) ⊎ (is_refusal p.request (settled_by answer) ≡ true))
      tried_now c j n r l d = grind arith

      tried_same : (c : Call) → In c rows → token ≡ c.token → IsRowOf p c → c.number ≡ number → (r : Held) → In r things' → deletes r.physical c.request ≡ true
          → (c.path ≡ r.path) × (IsOpen c.token tokens' ⊎ (was_refused (answered_call answer c) ≡ true))
      tried_same c j e o n r l d = grind (arith, doubt_open, none_refuses)

      pub booked_answered : AreBooked number rows' replies' tokens' things'
      booked_answered = record {
        called =
            in_more (λ r. (c : Call) × (row_in r.token rows' ≡ Some c)) r0 replies (λ r j. let k = h.called r j in mapped r.token k.0 k.1) (mapped token its found);
        counted = in_more (λ r. is_success (settled_by r.answer) ≡ false → HasRisen r.before r.after) r0 replies h.counted (rose answer before after counted);
        refused =
            each_answered (λ c. c.number ≡ number → was_refused c ≡ true → HasFailedIn replies' c) (λ c j e o. refused_now answer refl c j e)
            (λ c j n e k. failed_further c (h.refused c j e k));
        doubted =
            each_answered (λ c. 0 < c.doubts → IsAnsweredIn replies' c) (λ c j e o l. (r0, in_end r0 replies, e ∙ sym (answered_same answer c).token))
            (λ c j n l. let k = h.doubted c j l in (k.0, in_front k.0 replies (r0 ∷ []) k.1, k.2));
        bad = bad_answered;
        tried = λ c r j e l d.
            each_answered (λ x. x.number ≡ number → deletes r.physical x.request ≡ true → (x.path ≡ r.path) × (IsOpen x.token tokens' ⊎ (was_refused x ≡ true)))
            (λ x k s o n f. answered_is x r (tried_same x k s o (sym (answered_same answer x).number
            ∙ n) r l (ap (deletes r.physical) (sym (answered_same answer x).request) ∙ f)))
            (λ x k s n f. let t = tried_now x k n r l f in (t.0, on_left (open_still x s) t.1)) c j e d;
      } where
        mapped : (t : ℕ) (c : Call) → row_in t rows ≡ Some c → (d : Call) × (row_in t rows' ≡ Some d)
        mapped t c e = (
          answered_row token answer c,
          call_mapped (answered_row token answer) (answered_row_same token answer) t rows ∙ ap (option_map (answered_row token answer)) e,
        )

        answered_is : (x : Call) (r : Held) → (x.path ≡ r.path) × (IsOpen x.token tokens' ⊎ (was_refused (answered_call answer x) ≡ true))
            → ((answered_call answer x).path ≡ r.path) × (IsOpen (answered_call answer x).token tokens' ⊎ (was_refused (answered_call answer x) ≡ true))
        answered_is x r k = grind (arith, answered_same)

    pub restoring_answered : (held_before : List Held) → AreRestoring number rows replies tokens held_before → AreRestoring number rows' replies' tokens' held_before
    restoring_answered held_before h = record {
      of_before =
          each_answered (λ c. c.number ≡ number → is_restoring c ≡ true → GivesBack held_before c)
          (λ c j e o n r. let s = answered_same answer c in let b = h.of_before c j (sym s.number ∙ n) (sym (restoring_same c)
          ∙ r) in (b.0, b.1, b.2 ∙ sym s.path, ap (updates b.0.physical) s.request ∙ b.3))
          (λ c j n. h.of_before c j);
      come_to =
          each_answered (λ c. c.number ≡ number → is_restoring c ≡ true → IsOpen c.token tokens' ⊎ ((succeeded c ≡ true) ⊎ IsGivenUp rows' replies' tokens' c))
          (λ c j e o n r. now answer refl c e o (restoring_update c (sym (restoring_same c) ∙ r))) (λ c j n m r. on_given (open_still c n)
          (λ k. record {
            refused = k.refused;
            bad = bad_else c.path (λ e. k.closed p i (sym e)) ∙ k.bad;
            closed = λ q j. k.closed q (in_still token tokens answer q j);
          }) (h.come_to c j m r));
    } where
      restoring_same : (c : Call) → is_restoring (answered_call answer c) ≡ is_restoring c
      restoring_same c = let s = answered_same answer c in cc (s.status, s.request)

      restoring_update : (c : Call) → is_restoring c ≡ true → is_update c.request ≡ true
      restoring_update c e = second_so (goes_back c.status) (is_update c.request) e

      now : (a : Reply) → answer ≡ a → (c : Call) → token ≡ c.token → IsRowOf p c → is_update c.request ≡ true
          → IsOpen (answered_call a c).token tokens' ⊎ ((succeeded (answered_call a c) ≡ true) ⊎ IsGivenUp rows' replies' tokens' (answered_call a c))
      now (Reply.Failed k) is c e o u =
          inr (inr (record {
            refused = update_refused c.request k u;
            bad =
                bad_there c.path o.path
                (ap (λ a. is_doubt a || is_refusal its.request (settled_by a)) is
                ∙ update_refused its.request k (ap is_update (row_of.request ∙ sym o.request) ∙ u));
            closed = λ q j d.
                let same : q ≡ p = paths q p (in_still token tokens answer q j) i (d ∙ o.path) in
                let doubt : is_doubt answer ≡ true = closed token tokens answer q j (ap (λ z. z.token) same ∙ sym named) in
                true≢false (sym doubt ∙ ap is_doubt is);
          }))
      now v0 is c e o u = grind (arith, doubt_open)
