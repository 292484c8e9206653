-- The rollback of an update gives everything back, entry by entry.
use Rattle.std.proofs.Common.{◌≡◌, ◌⊎◌, inl, inr, ℕ, List, [], ◌∷◌, ◌++◌, Bool, true, false, not, Option, Some, None, refl, sym, ap, subst, ◌∙◌, true≢false, find, map, cond, arith, ◌||◌, ◌+◌}
use Rattle.cf_core.proofs.Words.{AreSingle, Call, Data, Fits, Held, HeldStatus, In, IsBack, IsForwardCall, IsGoingBack, IsOpenInBack, IsUpdateBack, Pending, Reply, Request, StackState, Status, World, answered, answered_call, bytes_eq, changing, closing, current_at, goes_back, goes_forward, has_physical, has_token, id_named, is_call, is_restore, is_success, list_any, made_of, making, pending_of, replied, replying, resources_of, settled_by, status_made, still_open, succeeded, terms_at, updates, updating, was_restored, was_skipped, where_call, where_physical, with_status, without_token, Begun, DeletesMade, Entry, IsAdvancing, AsksForNow, IsHeldAtRest, IsBackAll, Schema, SkipsNone, Source, Why, all_differ, anew, as_before, beginning, deleting, first_so, is_among, is_current_at, is_made, keeping, marked, skipped_in, stopping, Back, BackClean, BackHolds, BackStaysAtRest, BackStaysInCleanup, Cause, EndsAs, FailedRollbacksStay, IntendsIn, IsAfterBack, IsAfterBackClean, IsAfterFailed, IsAfterReturn, IsMove, IsTo, MayFollowIn, MayKeep, MayTurn, Phase, Stage, UpdatesGoBack, UpdatesTurnBack, begins, begins_from, creates_from, effect_at, effect_of, intending, opened, stage_of, step, updates_from}
use Rattle.cf_core.proofs.Lemmas.{any_of, either_way, eqb-true, found_one, in_changed, in_filter, map-id, none_false, not_so, append-nil, flat_map-append, list_any-append, none_any, or_true}
use Rattle.cf_plan.proofs.RunLanes.{bytes_same, same_bytes}
use Rattle.cf_core.proofs.{BackSteps.HaveOwnIds, BackSteps.back_of, BackSteps.IsLike, BackSteps.changed_all, BackSteps.changed_if, BackSteps.is_of, BackSteps.like_itself, BackSteps.none_with, BackSteps.one_of, BackSteps.own_before, BackSteps.own_front, BackSteps.same_thing, BackSteps.single_more, BackSteps.was_of, AdvSteps.elsewhere, AdvSteps.row_only, AdvSteps.rows_same, AdvSteps.was_open, BackSteps.answered_rows, BackSteps.did, BackSteps.did_so, BackSteps.false_with, BackSteps.forward_only, BackSteps.success_did, BackSteps.goes_on, BackSteps.open_stays, BackSteps.plain, BackSteps.none_along, BackSteps.not_in_both, BackSteps.own_back, BackSteps.same_ids, BackSteps.same_mapped, BackSteps.same_things, BackSteps.single_along, BackSteps.without_none, BackSteps.anew_done, BackSteps.none_did, BackSteps.same_done, Statuses.intended_status, Statuses.kept_status, Statuses.replied_status, Moving.written_is_to, Moving.written_moves, BackSteps.anew_back, BackSteps.intended_back, BackSteps.heard_of}
use Rattle.cf_core.specs.Written.{reviewed, other}
use Rattle.cf_core.specs.Moving as move

-- A call is answered while an update goes back: what was open as it went forward, or a restore.

module _ (x : World) (s : StackState) (fits : Fits x s) (b : IsGoingBack s) (token : ℕ) (p : Pending) (pending : pending_of token s ≡ Some p) where
  of_tokens : In p s.tokens
  of_tokens = (found_one (has_token token) s.tokens p pending).0

  named : has_token token p ≡ true
  named = (found_one (has_token token) s.tokens p pending).1

  token_is : token ≡ p.token
  token_is = eqb-true token p.token named

  abbrev row : Call
  row = (fits.rows p of_tokens).0

  -- it is the one of its token, and says what was updated and given back
  row_is : (c : Call) → In c s.ledger → is_call token c ≡ true → c ≡ row
  row_is = row_only x s fits token p of_tokens named

  unchanged : (a : Reply) (dir : Status → Bool) (id : List ℕ) → ((is_success (settled_by a) ≡ false) ⊎ (dir row.status ≡ false)) ⊎ (updates id p.request ≡ false)
      → did dir id (where_call token (answered_call a) s.ledger) ≡ did dir id s.ledger
  unchanged a dir id why = rows_same x s fits token p of_tokens named a (did_so dir id) (λ c j e w. by c (row_is c j e) w.request (ap is_success w.unanswered)) where
    by : (c : Call) → c ≡ row → c.request ≡ p.request → succeeded c ≡ false → did_so dir id (answered_call a c) ≡ did_so dir id c
    by c same asks fails = grind (arith, false_with)

  held_own : HaveOwnIds s.held
  held_own = own_front s.held s.made fits.ids

  -- Where the answer updates nothing.
  abbrev left_with : Reply → List Held → List Held → StackState
  left_with a hs ms = record s { held = hs; made = ms; tokens = still_open token a s.tokens; ledger = where_call token (answered_call a) s.ledger }

  module _ (a : Reply) (none_updated : (is_success (settled_by a) ≡ false) ⊎ ((id : List ℕ) → updates id p.request ≡ false)) where
    closed_back :
        (g : Held → Held) (hs ms : List Held) → hs ≡ map g s.held → ((h : Held) → IsLike h (g h)) → AreSingle ms
        → ((q : Pending) → In q (still_open token a s.tokens) → current_at q.path s.made ≡ None → current_at q.path ms ≡ None) → IsGoingBack (left_with a hs ms)
    closed_back g hs ms held_is like single others = plain s (left_with a hs ms) g (record {
      before = refl;
      held = held_is;
      like = like;
      ledger = record {
        rows = answered_rows token a s.ledger;
        done = λ dir id. unchanged a dir id (grind arith);
      };
      skips = λ path. refl;
      calls = λ q i. b.calls q (was_open x s fits token p of_tokens named a q i).0;
      made = others;
    }) single b

    -- where it changes no resource
    quiet_back : IsGoingBack (closing token a s)
    quiet_back = closed_back (λ h. h) s.held s.made (sym (map-id s.held)) like_itself b.single_made (λ q i n. n)

    -- where one of what was before gets another status
    restated_back : (restores : Bool) (state : _) (id : List ℕ) → list_any (has_physical id) s.held ≡ true → IsGoingBack (closing token a (cond restores (with_status id state s) s))
    restated_back false state id e = quiet_back
    restated_back true state id e =
        subst (λ (c : Bool). IsGoingBack (closing token a (cond c (record s { held = where_physical id change s.held }) (record s { made = where_physical id change s.made })))) (sym e)
        (closed_back (changed_if id change) (where_physical id change s.held) s.made (changed_all id change s.held held_own)
        (λ h. either_way (IsLike h) (has_physical id h) (change h) h (record { same = record { path = refl; physical = refl; kind = refl; needs = refl; deletion = refl; replace = refl; superseded = refl }; props = refl; unsure = refl }) (like_itself h))
        b.single_made (λ q i n. n))
      where
        change : Held → Held
        change h = record h { status = state }

  -- A create makes a resource at its path.
  created_back :
      (kind : List ℕ) (props : List (List ℕ × Data)) (physical : List ℕ) (attrs : List (List ℕ × Data)) → p.request ≡ Request.Create kind props
      → current_at p.path s.made ≡ None → IsGoingBack (closing token (Reply.Success physical attrs) (making (made_of (terms_at p.path s) (status_made (current_at p.path s.held)) p.path kind props physical attrs) s))
  created_back kind props physical attrs is none =
      closed_back (Reply.Success physical attrs) (inr (λ id. ap (updates id) is)) (λ h. h) s.held (s.made ++ new ∷ []) (sym (map-id s.held)) like_itself
      (single_more s.made new refl none b.single_made)
      (λ q i n. none_with s.made new q.path (none_false (bytes_eq q.path p.path) (λ e. (elsewhere x s fits token p of_tokens named q i).1 (bytes_same q.path p.path e))) n)
    where
      new : Held
      new = made_of (terms_at p.path s) (status_made (current_at p.path s.held)) p.path kind props physical attrs

  -- An update, be it of the forward phase or a restore, changes a resource of before.
  module _ (id : List ℕ) (props : List (List ℕ × Data)) (is : p.request ≡ Request.Update id props) (u : IsUpdateBack s p id props) where
    one_before : (c : Held) → In c s.before → c.physical ≡ id → c ≡ u.was
    one_before c i e = one_of s.before (own_before s.before s.held s.made b.held fits.ids) c u.was i u.of_before (e ∙ sym u.named)

    is_held : list_any (has_physical id) s.held ≡ true
    is_held = let h = is_of b.held u.of_before in any_of (has_physical id) s.held h.0 h.1 (same_bytes id h.0.physical (sym u.named ∙ sym h.2.physical))

    module _ (physical : List ℕ) (attrs : List (List ℕ × Data)) where
      abbrev answer : Reply
      answer = Reply.Success physical attrs

      abbrev g : Held → Held
      g = changed_if id (updating props attrs)

      abbrev t : StackState
      t = left_with answer (where_physical id (updating props attrs) s.held) s.made

      -- what went out as the update went forward is an update from now on, and was not given back
      forward_did : IsForwardCall s p × (was_restored id s ≡ false) → (c : Held) → c.physical ≡ id → IsBack t c → ⊥
      forward_did ((r, f, w), n) c e back =
          let i = found_one (is_call p.token) s.ledger r f in let asks = same_bytes c.physical id e in let st = forward_only r.status w in
          grind (arith, row_is r, token_is, success_did token physical attrs goes_forward c.physical s.ledger r, unchanged answer goes_back)

      before_held : (c h : Held) → In c s.before → In h s.held → h.physical ≡ c.physical → (g h).unsure ≡ false → IsBack t c → (g h).props ≡ c.props
      before_held c h i j e sure w = by (has_physical id h) refl
        where
          by : (n : Bool) → has_physical id h ≡ n → (g h).props ≡ c.props
          by true m =
              let of_it : c.physical ≡ id = sym e ∙ sym (bytes_same id h.physical m) in
              ap (λ (k : Bool). (cond k (updating props attrs h) h).props) m
              ∙ (elim u.gives [
                | inl f ↦ absurd (forward_did f c of_it w)
                | inr q ↦ q ∙ ap (λ (r : Held). r.props) (sym (one_before c i of_it))
              ])
          by false m =
              let that : bytes_eq c.physical id ≡ false = none_false (bytes_eq c.physical id) (λ so. true≢false (sym (same_bytes id h.physical (sym (bytes_same c.physical id so) ∙ sym e)) ∙ m)) in
              let same : g h ≡ h = ap (λ (k : Bool). cond k (updating props attrs h) h) m in
              let back = back_of s t c (λ dir. unchanged answer dir c.physical (inr (ap (updates c.physical) is ∙ that))) w in
              ap (λ (r : Held). r.props) same ∙ b.as_before c h i j e (sym (ap (λ (r : Held). r.unsure) same) ∙ sure) back

      skipped : (h : Held) → In h s.held → was_skipped h.path t ≡ true → (g h).unsure ≡ true
      skipped h j w = grind (arith, was_of, one_before, bytes_same, b.skipped h j w)

      -- another open call names another id
      apart : (q : Pending) → In q (without_token token s.tokens) → (that : List ℕ) → id_named q.request ≡ Some that → bytes_eq that id ≡ false
      apart q i that e =
          let f = elsewhere x s fits token p of_tokens named q i in
          let mine = fits.named p id of_tokens (ap id_named is) in
          let its = fits.named q that f.0 e in
          none_false (bytes_eq that id) (λ so.
          let one = one_of (resources_of s) fits.ids its.0 mine.0 its.1 mine.1 (its.2 ∙ (bytes_same that id so ∙ sym mine.2)) in
          f.1 (sym its.3 ∙ (ap (λ (r : Held). r.path) one ∙ mine.3)))

      updated_back : IsGoingBack (closing token answer (changing id (updating props attrs) s))
      updated_back =
          subst (λ (c : Bool). IsGoingBack (closing token answer (cond c (record s { held = where_physical id (updating props attrs) s.held }) (record s { made = where_physical id (updating props attrs) s.made })))) (sym is_held)
          (goes_on s t g b (record {
            before = refl;
            held = changed_all id (updating props attrs) s.held held_own;
            same = λ h. grind (arith, same_thing);
            as_before = before_held;
            skipped = skipped;
            made = b.single_made;
            calls = λ q i. open_stays s t q (record {
              before = refl;
              rows = answered_rows token answer s.ledger;
              restored = λ that e n. (unchanged answer goes_back that (inr (ap (updates that) is ∙ (apart q i that e)))) ∙ n;
              skips = λ n. n;
              made = λ n. n;
            }) q.request refl (b.calls q (elsewhere x s fits token p of_tokens named q i).0);
          }))

  -- by the request and the answer
  answered_back : (restores : Bool) (r : Request) (a : Reply) → p.request ≡ r → IsOpenInBack s p r → IsGoingBack (closing token a (answered restores p.path r a s))
  answered_back restores (Request.Create kind props) (Reply.Success physical attrs) e o = created_back kind props physical attrs e o.1
  answered_back restores (Request.Create kind props) (Reply.Failed c) e o = quiet_back (Reply.Failed c) (inl refl)
  answered_back restores (Request.Create kind props) Reply.Doubt e o = quiet_back Reply.Doubt (inl refl)
  answered_back restores (Request.Update id props) (Reply.Success physical attrs) e o = updated_back id props e o physical attrs
  answered_back restores (Request.Update id props) (Reply.Failed c) e o = restated_back (Reply.Failed c) (inl refl) restores HeldStatus.UpdateFailed id (is_held id props e o)
  answered_back restores (Request.Update id props) Reply.Doubt e o = quiet_back Reply.Doubt (inl refl)
  answered_back restores (Request.Delete id) a e o = absurd o

-- an answer of an open call, be it known or not
pub replied_back : (x : World) (s : StackState) (token : ℕ) (a : Reply) → Fits x s → IsGoingBack s → IsGoingBack (replying token a s)
replied_back x s token a fits b = by (pending_of token s) refl
  where
    by : (o : Option Pending) → pending_of token s ≡ o → IsGoingBack (replied token a o s)
    by None e = b
    by (Some p) e =
        let i = (found_one (has_token token) s.tokens p e).0 in
        answered_back x s fits b token p e (is_restore token s) p.request a refl (b.calls p i)

-- How an update begins to go back, fails to, is continued, and has given all back; and its cleanup and rest.

-- Where an operation ends, a resource of which a call is open gets another status.
marked_like : (ps : List Pending) (h : Held) → IsLike h (marked ps h)
marked_like ps h = grind (arith, same_thing)

-- the ids of what is held, or made, are its own, and stay so
own_marked : (ps : List Pending) (hs : List Held) → HaveOwnIds hs → HaveOwnIds (map (marked ps) hs)
own_marked ps hs d = subst (λ (ids : List (List ℕ)). all_differ bytes_eq ids ≡ true) (sym (same_ids (same_mapped (marked ps) (λ h. (marked_like ps h).same) (same_things hs)))) d

-- the rollback has failed
pub stopped_back : (x : World) (s : StackState) (st : Status) → Fits x s → IsGoingBack s → IsGoingBack (stopping st s)
stopped_back x s st fits b =
    let along = same_mapped (marked s.tokens) (λ h. (marked_like s.tokens h).same) (same_things s.made) in
    plain s (stopping st s) (marked s.tokens) (record {
      before = refl;
      held = refl;
      like = marked_like s.tokens;
      ledger = same_done s.ledger;
      skips = λ path. refl;
      calls = b.calls;
      made = λ p i. none_along p.path along;
    }) (single_along along (own_marked s.tokens s.made (own_back s.held s.made fits.ids)) b.single_made) b

-- What a continued rollback skips is unsure from then on.
module _ (paths : List (List ℕ)) (place : ℕ) (name : List ℕ) (number : ℕ) (s : StackState) (ls : List (List ℕ)) where
  abbrev begun : Entry
  begun = Entry.Begin number name (Begun.Continue paths)

  abbrev continued : StackState
  continued = record (beginning name number (Begun.Continue paths) s) { entries = s.entries ++ begun ∷ []; events = ls }

  skips_more : (path : List ℕ) → was_skipped path continued ≡ (was_skipped path s || is_among path paths)
  skips_more path = grind (arith, flat_map-append, append-nil, list_any-append)

  before_unsure : (o : Option Held) (h : Held) → (as_before o h).unsure ≡ true
  before_unsure o h = grind arith

  abbrev skipping : Held → Held
  skipping = skipped_in paths s.before

  is_left : (h : Held) → is_among h.path paths ≡ false → skipping h ≡ h
  is_left h e = ap (λ (c : Bool). cond c (as_before (find (has_physical h.physical) s.before) h) h) e

  pub continued_back : IsGoingBack s → IsGoingBack continued
  continued_back b =
      goes_on s continued skipping b (record {
        before = refl;
        held = refl;
        same = λ h. grind (arith, same_thing);
        as_before = λ c h i j e sure w. let back = back_of s continued c (λ dir. (anew_done s.ledger).done dir c.physical) w in
            grind (arith, is_left, b.as_before c h i j e, before_unsure);
        skipped = λ h j w. grind (arith, is_left, or_true, skips_more, b.skipped h j, before_unsure);
        made = b.single_made;
        calls = λ p i.
            let f = in_filter (λ (q : Pending). not (is_among q.path paths)) s.tokens p i in
            open_stays s continued p (record {
              before = refl;
              rows = (anew_done s.ledger).rows;
              restored = λ id e n. (anew_done s.ledger).done goes_back id ∙ n;
              skips = λ n. skips_more p.path ∙ (ap (λ c. c || is_among p.path paths) n ∙ not_so (is_among p.path paths) f.1);
              made = λ n. n;
            }) p.request refl (b.calls p f.0);
      })

-- As the forward phase has failed, the update goes back.
module _ (schemas : List Schema) (x : World) (s : StackState) (source : Source) (fits : Fits x s) (a : IsAdvancing schemas s source) (skips : SkipsNone s) (st : Status) where
  abbrev turned : StackState
  turned = record s { status = st; ledger = map anew s.ledger }

  none_restored : (id : List ℕ) → was_restored id turned ≡ false
  none_restored id = (anew_done s.ledger).done goes_back id ∙ none_did id s.ledger (λ c i. (a.calls c i).1)

  is_forward : (p : Pending) → In p s.tokens → IsForwardCall turned p
  is_forward p i =
      let row = fits.rows p i in
      let d = (anew_done s.ledger).rows p.token row.0 row.1 in
      (d.0, d.1, ap goes_forward d.2 ∙ (a.calls row.0 (found_one (is_call p.token) s.ledger row.0 row.1).0).1)

  opens : (p : Pending) → In p s.tokens → (r : Request) → AsksForNow s p.path r → IsOpenInBack turned p r
  opens p i (Request.Create kind props) asked = (is_forward p i, by (current_at p.path s.made) refl)
    where
      by : (o : Option Held) → current_at p.path s.made ≡ o → o ≡ None
      by None e = refl
      by (Some r) e = absurd (a.not_done p i (is_made r e))
  opens p i (Request.Update id props) (h, at, physical, said) =
      let f = found_one (is_current_at p.path) s.held h at in
      let w = was_of a.held f.0 in
      let path : p.path ≡ h.path = bytes_same p.path h.path (first_so (bytes_eq p.path h.path) (not h.superseded) f.1) in
      record {
        was = w.0;
        of_before = w.1;
        named = sym w.2.physical ∙ physical;
        at_path = sym w.2.path ∙ sym path;
        not_skipped = ap (is_among p.path) skips;
        gives = inl (is_forward p i, none_restored id);
      }
  opens p i (Request.Delete id) asked = asked

  pub turned_back : IsGoingBack turned
  turned_back = record {
    single_before = a.single_before;
    held = a.held;
    as_before = λ c h i j e u w.
        elim w [
          | inl n ↦ (a.unchanged c h i j e (sym ((anew_done s.ledger).done goes_forward c.physical) ∙ n)).props
          | inr n ↦ absurd (true≢false (sym n ∙ none_restored c.physical))
        ];
    skipped = λ h j w. absurd (true≢false (sym w ∙ (ap (is_among h.path) skips)));
    single_made = a.single_made;
    calls = λ p i. opens p i p.request (a.asked p i);
  }

-- What is given back stays, where what is held stays.
pub all_back : (s t : StackState) → t.before ≡ s.before → t.held ≡ s.held → IsBackAll s → IsBackAll t
all_back s t before held b = grind arith

pub stopped_all : (s : StackState) (st : Status) → IsBackAll s → IsBackAll (stopping st s)
stopped_all s st b = grind (arith, same_mapped, marked_like, in_changed)

pub stopped_rests : (x : World) (s : StackState) (st : Status) → Fits x s → IsBackAll s → s.tokens ≡ [] → s.made ≡ [] → IsHeldAtRest (stopping st s)
stopped_rests x s st fits b tokens made = record {
  none_open = tokens;
  none_made = ap (map (marked s.tokens)) made;
  single = single_along (stopped_all s st b).held (own_marked s.tokens s.held (own_front s.held s.made fits.ids)) b.single_before;
}

-- In the cleanup what was made is deleted, or kept, and nothing that is held.
abbrev IsHeldStill : StackState → StackState → Type 0
IsHeldStill s t = (t.before ≡ s.before) × (t.held ≡ s.held)

module _ (x : World) (s : StackState) (fits : Fits x s) where
  not_held : (r : Held) → In r s.made → (id : List ℕ) → r.physical ≡ id → (h : Held) → In h s.held → has_physical id h ≡ false
  not_held r i id e h j = none_false (has_physical id h) (λ so. not_in_both s.held s.made fits.ids h r j i (sym (bytes_same id h.physical so) ∙ sym e))

  module _ (id : List ℕ) (none : (h : Held) → In h s.held → has_physical id h ≡ false) where
    deleted_still : IsHeldStill s (deleting id s)
    deleted_still = (refl, without_none id s.held none)

    answered_still : (restores : Bool) (path : List ℕ) (a : Reply) → IsHeldStill s (answered restores path (Request.Delete id) a s)
    answered_still restores path a = grind (arith, deleted_still, none_any)

  pub replied_still : (token : ℕ) (a : Reply) → ((p : Pending) → In p s.tokens → DeletesMade s p) → IsHeldStill s (replying token a s)
  replied_still token a calls = by (pending_of token s) refl
    where
      by : (o : Option Pending) → pending_of token s ≡ o → IsHeldStill s (replied token a o s)
      by None e = (refl, refl)
      by (Some p) e =
          let d = calls p (found_one (has_token token) s.tokens p e).0 in
          subst (λ (r : Request). IsHeldStill s (answered (is_restore token s) p.path r a s)) (sym d.2) (answered_still d.0.physical (not_held d.0 d.1 d.0.physical refl) (is_restore token s) p.path a)

  pub kept_still : (path id : List ℕ) (w : Why) (r : Held) → In r s.made → r.physical ≡ id → IsHeldStill s (keeping path id w s)
  kept_still path id w r i e = grind (arith, without_none, not_held)

-- The rollback of an update gives everything back, by the entries that may be written in each of its statuses.

-- nor is a change set kept at this one
none_reviewed : (st at : Status) → st ≡ at → (creates_from at || updates_from at) ≡ false → (creates_from st || updates_from st) ≡ true → ⊥
none_reviewed st at is n e = true≢false (sym e ∙ (ap (λ v. creates_from v || updates_from v) is ∙ n))

-- the stack after an entry of its own
abbrev left : World → StackState → Entry → StackState
left x s e = (effect_at (x.place + 1) e s).stack

-- the stage of a step is that of the status
stage_is : (s : StackState) (st : Status) (at stage : Stage) → s.status ≡ st → stage_of st ≡ Some at → stage_of s.status ≡ Some stage → stage ≡ at
stage_is s st at stage is e f = let same : Some stage ≡ Some at = sym f ∙ (ap stage_of is ∙ e) in cc

-- An update goes back.
module _ (schemas : List Schema) (x : World) (out : List ℕ) (name : List ℕ) (s : StackState) (fits : Fits x s) (st : s.status ≡ Status.UpdateRollbackInProgress) (b : IsGoingBack s) where
  none_kept : (path physical : List ℕ) (w : Why) → MayKeep Back out s path physical w → ⊥
  none_kept path physical w k = grind arith

  -- it stays as it is where its status does
  same_after : (t : StackState) → t.status ≡ s.status → IsGoingBack t → IsAfterBack t t.status
  same_after t e h = subst (IsAfterBack t) (sym (e ∙ st)) h

  restores : (token : ℕ) (lane path : List ℕ) (r : Request) → IntendsIn Back schemas name x s path r → IsOpenInBack s (record { token = token; path = path; lane = lane; request = r }) r
  restores token lane path r k = grind arith

  turns : (number : ℕ) (p : Phase) (c : Option Cause) → MayTurn schemas name x s p c → IsAfterBack (left x s (Entry.Phase number p c)) (left x s (Entry.Phase number p c)).status
  turns number p c k = grind (arith, all_back, left, was_of, one_of, own_before)

  ends : (number : ℕ) (state : Status) (failed : List (List ℕ)) → EndsAs schemas name x s Status.UpdateRollbackInProgress state
      → IsAfterBack (left x s (Entry.Done number state failed)) (left x s (Entry.Done number state failed)).status
  ends number Status.UpdateRollbackFailed failed e = let f : Entry = Entry.Done number Status.UpdateRollbackFailed failed in
      heard_of f (effect_of f s).stack _ refl (stopped_back x s Status.UpdateRollbackFailed fits b)
  ends number state failed e = absurd e

  steps : (e : Entry) → MayFollowIn schemas name x out s Back e → IsAfterBack (left x s e) (left x s e).status
  steps (Entry.Kept number path physical w) may = absurd (none_kept path physical w may)
  steps (Entry.Intent number token lane path r) may =
      let p : Pending = record { token = token; path = path; lane = lane; request = r } in
      let e : Entry = Entry.Intent number token lane path r in
      same_after (left x s e) (intended_status number p s) (heard_of e (intending number p s) _ refl (intended_back number p s (restores token lane path r may.chosen) b))
  steps (Entry.Outcome number token a before after) may =
      let e : Entry = Entry.Outcome number token a before after in
      same_after (left x s e) (replied_status token a s) (heard_of e (replying token a s) _ refl (replied_back x s token a fits b))
  steps (Entry.Phase number p c) may = turns number p c may.1
  steps (Entry.Done number state failed) may = ends number state failed (subst (λ v. EndsAs schemas name x s v state) st may.2)
  steps e never = absurd never

  goes : (e : Entry) (t : StackState) → IsTo schemas x out name s e t → IsAfterBack t t.status
  goes e t (step stage at is_own may) = steps e (subst (λ v. MayFollowIn schemas name x out s v e) (stage_is s Status.UpdateRollbackInProgress Back stage st refl at) may)
  goes e t (begins k from by) = absurd (grind arith)
  goes e t (reviewed number source rows outputs from) = absurd (none_reviewed s.status Status.UpdateRollbackInProgress st refl from)
  goes e t (opened epoch lanes) =
      let f : Entry = Entry.Opened epoch lanes in
      same_after (left x s f) refl (heard_of f (effect_of f s).stack _ refl (anew_back s s.status b))
  goes e t other = same_after s refl b

pub updates_back : UpdatesGoBack
updates_back schemas x out e name s t w st b = goes schemas x out name s w.fits st b e t (written_is_to schemas x out e name s t w)

-- A rollback that failed: no step follows, but it may be continued.
module _ (schemas : List Schema) (x : World) (out : List ℕ) (name : List ℕ) (s : StackState) (fits : Fits x s) (st : s.status ≡ Status.UpdateRollbackFailed) (b : IsGoingBack s) where
  begun_after :
      (k : Begun) → begins_from k Status.UpdateRollbackFailed ≡ true
      → IsAfterFailed (left x s (Entry.Begin (x.operation + 1) name k)) (left x s (Entry.Begin (x.operation + 1) name k)).status
  begun_after (Begun.Continue paths) e =
      continued_back paths (x.place + 1) name (x.operation + 1) s (left x s (Entry.Begin (x.operation + 1) name (Begun.Continue paths))).events b
  begun_after k e = grind arith

  stays_failed : (e : Entry) (t : StackState) → IsTo schemas x out name s e t → IsAfterFailed t t.status
  stays_failed e t (step stage at is_own may) = absurd (let same : None ≡ Some stage = sym refl ∙ (sym (ap stage_of st) ∙ at) in cc)
  stays_failed e t (begins k from by) = begun_after k (subst (λ v. begins_from k v ≡ true) st from)
  stays_failed e t (reviewed number source rows outputs from) = absurd (none_reviewed s.status Status.UpdateRollbackFailed st refl from)
  stays_failed e t (opened epoch lanes) =
      let f : Entry = Entry.Opened epoch lanes in
      (subst (IsAfterFailed (left x s f)) (sym (refl ∙ st)) (heard_of f (effect_of f s).stack _ refl (anew_back s s.status b)))
  stays_failed e t other = subst (IsAfterFailed s) (sym (refl ∙ st)) b

pub failed_stay : FailedRollbacksStay
failed_stay schemas x out e name s t w st b = stays_failed schemas x out name s w.fits st b e t (written_is_to schemas x out e name s t w)

-- The cleanup of a rollback.
module _ (schemas : List Schema) (x : World) (out : List ℕ) (name : List ℕ) (s : StackState) (fits : Fits x s) (st : s.status ≡ Status.UpdateRollbackCompleteCleanupInProgress)
    (b : IsBackAll s) (calls : (p : Pending) → In p s.tokens → DeletesMade s p) where
  cleaned_after : (t : StackState) → t.status ≡ s.status → (t.before ≡ s.before) × (t.held ≡ s.held) → IsAfterBackClean s t t.status
  cleaned_after t e k = subst (IsAfterBackClean s t) (sym (e ∙ st)) (all_back s t k.0 k.1 b)

  kept_made : (path physical : List ℕ) (w : Why) → MayKeep BackClean out s path physical w → ((keeping path physical w s).before ≡ s.before) × ((keeping path physical w s).held ≡ s.held)
  kept_made path physical w k = grind (arith, kept_still x s fits path physical)

  cleaned_ends : (number : ℕ) (state : Status) (failed : List (List ℕ)) → EndsAs schemas name x s Status.UpdateRollbackCompleteCleanupInProgress state
      → IsAfterBackClean s (left x s (Entry.Done number state failed)) (left x s (Entry.Done number state failed)).status
  cleaned_ends number Status.UpdateRollbackComplete failed e =
      let f : Entry = Entry.Done number Status.UpdateRollbackComplete failed in (
        all_back (stopping Status.UpdateRollbackComplete s) (left x s f) refl refl (stopped_all s Status.UpdateRollbackComplete b),
        λ tokens made. let r = stopped_rests x s Status.UpdateRollbackComplete fits b tokens made in record { none_open = r.none_open; none_made = r.none_made; single = r.single },
      )
  cleaned_ends number state failed e = absurd e

  cleaning : (e : Entry) → MayFollowIn schemas name x out s BackClean e → IsAfterBackClean s (left x s e) (left x s e).status
  cleaning (Entry.Kept number path physical w) may = grind (arith, cleaned_after, kept_status, kept_made)
  cleaning (Entry.Intent number token lane path r) may = grind (arith, cleaned_after, intended_status)
  cleaning (Entry.Outcome number token a before after) may =
      cleaned_after (left x s (Entry.Outcome number token a before after)) (replied_status token a s) (replied_still x s fits token a calls)
  cleaning (Entry.Phase number p c) may = absurd (grind arith)
  cleaning (Entry.Done number state failed) may = cleaned_ends number state failed (subst (λ v. EndsAs schemas name x s v state) st may.2)
  cleaning e never = absurd never

  stays_cleaned : (e : Entry) (t : StackState) → IsTo schemas x out name s e t → IsAfterBackClean s t t.status
  stays_cleaned e t to = grind (arith, cleaning, cleaned_after)

pub cleanup_stays : BackStaysInCleanup
cleanup_stays schemas x out e name s t w st b calls = stays_cleaned schemas x out name s w.fits st b calls e t (written_is_to schemas x out e name s t w)

-- At rest.
module _ (schemas : List Schema) (x : World) (out : List ℕ) (name : List ℕ) (s : StackState) (fits : Fits x s) (st : s.status ≡ Status.UpdateRollbackComplete) (b : IsBackAll s) (r : IsHeldAtRest s) where
  begun_rests :
      (k : Begun) → begins_from k Status.UpdateRollbackComplete ≡ true
      → IsAfterReturn (left x s (Entry.Begin (x.operation + 1) name k)) (left x s (Entry.Begin (x.operation + 1) name k)).status
  begun_rests k e = grind arith

  stays_returned : (e : Entry) (t : StackState) → IsTo schemas x out name s e t → IsAfterReturn t t.status
  stays_returned e t to = grind (arith, begun_rests, all_back)

pub rest_stays : BackStaysAtRest
rest_stays schemas x out e name s t w st b r = stays_returned schemas x out name s w.fits st b r e t (written_is_to schemas x out e name s t w)

-- As the forward phase of an update has failed.
module _ (schemas : List Schema) (x : World) (out : List ℕ) (name : List ℕ) (s : StackState) (source : Source) (fits : Fits x s) (st : s.status ≡ Status.UpdateInProgress)
    (a : IsAdvancing schemas s source) (skips : SkipsNone s) where
  turns_to : (number : ℕ) (p : Phase) (c : Option Cause) → (left x s (Entry.Phase number p c)).status ≡ Status.UpdateRollbackInProgress → IsGoingBack (left x s (Entry.Phase number p c))
  turns_to number Phase.Clean c f = absurd (cc)
  turns_to number Phase.Back c f = let e : Entry = Entry.Phase number Phase.Back c in
      heard_of e (effect_of e s).stack _ refl (turned_back schemas x s source fits a skips (effect_of e s).stack.status)
  turns_to number Phase.BackClean c f = absurd (cc)

  turns_by : {e : Entry} {t : StackState} → IsMove schemas x out name s e t → t.status ≡ Status.UpdateRollbackInProgress → IsGoingBack t
  turns_by (move.stays {t = t} same) f = grind arith
  turns_by (move.turns number p c q may) f = turns_to number p c f
  turns_by (move.ends number state failed g q in_g may) f = absurd (subst (λ v. EndsAs schemas name x s v state) st may.2)
  turns_by (move.begins k from by) f = absurd (grind arith)
  turns_by (move.reviewed number source rows outputs from) f = absurd (none_reviewed s.status Status.UpdateInProgress st refl from)
  turns_by move.other f = grind arith

pub updates_turn : UpdatesTurnBack
updates_turn schemas x out e name s t source w st a skips f = turns_by schemas x out name s source w.fits st a skips (written_moves w) f

pub back_holds : BackHolds
back_holds s b = grind (arith, is_of)
