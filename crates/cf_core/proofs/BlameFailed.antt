-- Where an operation fails, each failed path is blamed, from its end until the next one begins.
use Rattle.std.proofs.Common.{◌≡◌, ℕ, ◌==◌, List, [], ◌∷◌, ◌++◌, Bool, true, false, ◌||◌, Option, Some, None, refl, sym, ap, ◌∙◌, option_map, ◌<◌, ◌⊎◌, inl, inr, not, subst, true≢false, arith, ◌≤◌, filter, ◌+◌, IsTrue, ◌&&◌, ◌≢◌}
use Rattle.cf_core.proofs.Cleanups.{at_home, none_calls}
use Rattle.cf_core.proofs.Words.{Back, BackClean, Call, Course, EndsAs, Entry, FailedAreBlamed, Fits, Gone, Held, In, IntendsDeletion, IntendsIn, IsAtEnd, IsBlamed, IsBlamedFor, IsBooked, IsGoingBack, IsMove, IsOfLane, IsOnCourse, IsOpen, IsTo, IsToRestore, MatchBool, MayDelete, MayFollow, MayStep, Pending, Phase, Request, Response, Schema, StackState, Stage, Status, Why, World, anew, answers_of, begins as is_begun, begun, bytes_eq, call_under as call_of, current_at, deletes, deletions_of, doubts_of, effect_at, ended_effect, ends as is_end, entries_with, failed_in, failed_of, first_so, flat_map, has_refused_restore, has_restore, here, id_named, is_among, is_at_one, is_bad_at, is_bad_last, is_call, is_cleared, is_create, is_create_at, is_current_at, is_failed_path, is_failed_status, is_free, is_held_at_one, is_in_flight, is_in_progress, is_needed_by_create, is_needed_by_held, is_needed_by_made, is_not_needed, is_of, is_physical_of, is_refusal, is_repeated, is_restoring, is_success, is_to_retain, is_untried, keeps, known_stack, last_at, length, list_any, may_repeat, named_paths, nat_lt, needs_at, opened, option_map_or, option_or, own_calls, refusals_of, replies_in, resource_at, resources_of, restores_of, settled_by, stage_of, stays as is_still, step as is_step, succeeded, turned, turns as is_turn, updates, waits_for_repeats, was_refused, was_restored, was_skipped, was_updated, ◌↔◌}
use Rattle.cf_core.proofs.Lemmas.{and_from, any_of, append-nil, bytes_eq-Decides, differ_one, eq-eqb, eqb-true, found_one, greatest, in_back, in_filter, in_front, in_reversed, is_found_in, nat_tests, none_any, none_below, none_false, none_of, not_so, one_counted, or_left, or_right, or_true, refusal_fails, second_not, some_counted, some_is, some_of}
use Rattle.cf_core.proofs.{BackSteps.is_of as now_held, Rows.anew_same, Rows.call_mapped, Stacks.on_option, Stacks.on_bool, Stacks.on_list, Moving.written_moves, Moving.written_is_to, Statuses.begun_status, Statuses.ended_status, Statuses.turned_status, Statuses.turned_goes, Statuses.begun_goes, RowsBooked.success_refuses, RowsBooked.rose, BlameStays.Leaves, BlameStays.answers_then, BlameStays.failed_then, BlameStays.own_opened, BlameStays.row_is, BlameStays.one_resource, BlameStays.held_or_made, BlameStays.plan_rank, BlameStays.needs_lower, BlameStays.done_left, BlameStays.GoesOn, BlameStays.goes_on}
use Rattle.cf_core.specs.{Moving.begins as is_beginning, Moving.reviewed as is_review, Moving.other as is_elsewhere, Written.reviewed as is_reviewed, Written.other as is_other}
use Rattle.cf_effect.specs.declared.call.Settled.{Settled}
use Rattle.cf_entry.specs.Entry.{texts_ascend}

-- Where an operation fails, each failed path is blamed, and a path is failed.

is_above : (n : ℕ) → 0 < n → nat_lt 0 n ≡ true
is_above n l = grind (arith, nat_tests)

not_both : (q : Request) (a : Option Settled) → is_refusal q a ≡ true → is_success a ≡ true → ⊥
not_both q a r e = let k = success_refuses q in grind arith

is_so : (b : Bool) → not b ≡ false → b ≡ true
is_so b e = grind arith

module _ (x : World) (s : StackState) (fits : Fits x s) (h : IsBooked s) where
  -- a row is found by its token
  found_row : (token : ℕ) (c : Call) → In c s.ledger → token ≡ c.token → call_of token s ≡ Some c
  found_row token c i e =
      let f = is_found_in (is_call token) s.ledger c i (eq-eqb token c.token e) in
      let one = found_one (is_call token) s.ledger f.0 f.1 in
      f.1 ∙ ap (λ d. Some d) (differ_one ◌==◌ eq-eqb (λ c. c.token) s.ledger fits.row_tokens f.0 c one.0 i (sym (eqb-true token (f.0).token one.1) ∙ e))

  -- the operation's deletions and restores are rows of it
  own_row : (c : Call) → In c (own_calls s) → In c s.ledger × (c.number ≡ s.operation)
  own_row c i = let k = in_filter (λ z. z.number == s.operation) s.ledger c i in (k.0, eqb-true c.number s.operation k.1)

  deletion_row : (physical : List ℕ) (c : Call) → In c (deletions_of physical s) → In c s.ledger × (c.number ≡ s.operation) × (deletes physical c.request ≡ true)
  deletion_row physical c i = grind (arith, in_filter)

  -- a failed path is blamed, also by a stack with the same rows and answers
  module _ (t : StackState) (ledger : t.ledger ≡ s.ledger) (stand : answers_of t ≡ answers_of s) where
    blamed_by : (path : List ℕ) (r : Response) (c : Call) → In r (answers_of s) → call_of r.token s ≡ Some c → c.path ≡ path
        → is_success (settled_by r.answer) ≡ false → IsBlamedFor t path
    blamed_by path r c i d p f = grind (arith, rose)

    blamed_resource : (path : List ℕ) (r : Held) → In r (resources_of s) → path ≡ r.path → 0 < refusals_of r.physical s → IsBlamedFor t path
    blamed_resource path r i d l =
        let c = one_counted was_refused (deletions_of r.physical s) l in
        let k = deletion_row r.physical c.one c.of_list in
        let a = h.books.refused c.one k.0 k.1 c.passes in
        blamed_by path a.0 c.one a.1 (found_row (a.0).token c.one k.0 a.2) ((h.books.tried c.one r k.0 k.1 i k.2).0 ∙ sym d) a.3

    pub blamed_path : (path : List ℕ) → is_failed_path s path ≡ true → IsBlamedFor t path
    blamed_path path f = elim (or_true (is_bad_last s (last_at path s)) _ f) [
      | inl b ↦ (grind (arith, found_one, in_reversed, bytes_eq-Decides, refusal_fails))
      | inr b ↦ (let p = some_of (λ r. bytes_eq path r.path && nat_lt 0 (refusals_of r.physical s)) (resources_of s) b in
          blamed_resource path p.one p.of_list ((bytes_eq-Decides path (p.one).path).0 (first_so (bytes_eq path (p.one).path) _ p.passes))
          (grind (arith, nat_tests)))
    ]

  abbrev pub Fails : Type 0
  Fails = (path : List ℕ) × (is_failed_path s path ≡ true)

  last_fails : (path : List ℕ) → is_bad_at path s.ledger (answers_of s) ≡ true → Fails
  last_fails path b = (path, or_left (is_bad_last s (last_at path s)) _ ((grind arith) ∙ b))

  -- an open call in doubt
  open_fails : (p : Pending) → In p s.tokens → 0 < doubts_of p.token s → Fails
  open_fails p i l = on_option (call_of p.token s) (λ e. absurd (none_below (subst (λ o. 0 < option_map_or (λ c. c.doubts) o 0) e l)))
      (λ c e.
      let one = found_one (is_call p.token) s.ledger c e in
      let r = h.books.doubted c one.0 (subst (λ o. 0 < option_map_or (λ c. c.doubts) o 0) e l) in
      last_fails p.path (h.books.bad p r.0 i r.1 (r.2 ∙ sym (eqb-true p.token c.token one.1))))

  -- a resource of which a deletion was refused
  refused_fails : (r : Held) → In r (resources_of s) → ((c : Call) → In c (deletions_of r.physical s) → IsOpen c.token s.tokens → ⊥) → is_untried s r ≡ false → Fails
  refused_fails r i closed e = (
    r.path,
    or_right (is_bad_last s (last_at r.path s)) _ (any_of (λ z. bytes_eq r.path z.path && nat_lt 0 (refusals_of z.physical s)) (resources_of s) r i
        (and_from (bytes_eq r.path r.path) (nat_lt 0 (refusals_of r.physical s)) ((bytes_eq-Decides r.path r.path).1 refl)
        (is_above (refusals_of r.physical s) (counted (deletions_of r.physical s) refl (grind (arith, nat_tests)))))),
  ) where
    counted : (cs : List Call) → deletions_of r.physical s ≡ cs → 0 < length cs → 0 < refusals_of r.physical s
    counted [] d l = absurd (none_below l)
    counted (c ∷ cs) d l =
        let of_list : In c (deletions_of r.physical s) = subst (In c) (sym d) here in
        let k = deletion_row r.physical c of_list in
        some_counted was_refused (deletions_of r.physical s) c of_list
        (elim (h.books.tried c r k.0 k.1 i k.2).1 [ inl o ↦ absurd (closed c of_list o) | inr d ↦ d ])

  -- a resource that is the one of a path is at it
  at_resource : (r : Held) → In r (resources_of s) → (q : List ℕ) → is_physical_of r.physical (resource_at q s) ≡ true → q ≡ r.path
  at_resource r i q e = by (current_at q s.made) refl (current_at q s.held) refl e where
    at : (z : Held) → In z (resources_of s) → is_current_at q z ≡ true → bytes_eq r.physical z.physical ≡ true → q ≡ r.path
    at z j c f =
        let same : z ≡ r = one_resource x s fits z r j i (sym ((bytes_eq-Decides r.physical z.physical).0 f)) in
        (bytes_eq-Decides q z.path).0 (first_so (bytes_eq q z.path) _ c) ∙ ap (λ a. a.path) same

    by : (o : Option Held) → current_at q s.made ≡ o → (g : Option Held) → current_at q s.held ≡ g → is_physical_of r.physical (option_or o g) ≡ true → q ≡ r.path
    by o d g k f = grind (arith, found_one, at, in_back, in_front)

  -- what is of the highest rank no made resource needs
  unneeded_by_made : (r : Held) → In r (resources_of s) → ((z : Held) → In z s.made → plan_rank s z.path ≤ plan_rank s r.path) → is_needed_by_made s r ≡ false
  unneeded_by_made r i most = grind (arith, none_any, some_of, needs_lower, at_resource)

  -- a resource that no held one needs
  none_needs : (r : Held)
      → ((a z : Held) (q : List ℕ) → In a s.held → a.superseded ≡ false → In q a.needs → In z s.held → q ≡ z.path → z.superseded ≡ false
      → r.physical ≡ z.physical → ⊥) → is_needed_by_held s r ≡ false
  none_needs r never =
      none_any (λ a. is_held_at_one a.needs s r) (filter (λ a. not a.superseded) s.held)
      (λ a i d.
      let k = in_filter (λ a. not a.superseded) s.held a i in
      let q = some_of (λ p. is_physical_of r.physical (current_at p s.held)) a.needs d in
      by a q.one k.0 (not_so _ k.1) q.of_list (current_at q.one s.held) refl q.passes) where
        by : (a : Held) (q : List ℕ) → In a s.held → a.superseded ≡ false → In q a.needs → (o : Option Held) → current_at q s.held ≡ o
            → is_physical_of r.physical o ≡ true → ⊥
        by a q i c j None e f = true≢false (sym f)
        by a q i c j (Some z) e f = let one = found_one (is_current_at q) s.held z e in grind (arith, bytes_eq-Decides, not_so)

  made_unneeded : (r : Held) → In r s.made → is_needed_by_held s r ≡ false
  made_unneeded r i = none_needs r (λ a z q ia c j iz p cz e. held_or_made x s fits z r iz i (sym e))

  held_unneeded : (r : Held) → In r s.held → ((z : Held) → In z s.held → h.ranked.rank z.path ≤ h.ranked.rank r.path) → is_needed_by_held s r ≡ false
  held_unneeded r i most =
      none_needs r
      (λ a z q ia c j iz p cz e.
      let same : z ≡ r = one_resource x s fits z r (in_front z s.held s.made iz) (in_front r s.held s.made i) (sym e) in
      let low : h.ranked.rank z.path < h.ranked.rank a.path =
      h.ranked.lower a z ia iz c cz (any_of (bytes_eq z.path) a.needs q j ((bytes_eq-Decides z.path q).1 (sym p))) in
      let lower : h.ranked.rank r.path < h.ranked.rank a.path = subst (λ y. h.ranked.rank y.path < h.ranked.rank a.path) same low in
      let high : h.ranked.rank a.path ≤ h.ranked.rank r.path = most a ia in
      omega (arith, lower, high))

  module _ (schemas : List Schema) (name : List ℕ) where
    -- what could be deleted by now could be kept, or its deletion could be called for
    untried_more : (stage : Stage) (r : Held) → In r (resources_of s) → MayDelete stage s r → waits_for_repeats stage [] s ≡ false
        → (is_free r.path s ≡ true) ⊎ (is_to_retain stage s r.path ≡ true) → (keeps stage s r ≡ false → is_free r.path s ≡ true)
        → (IntendsDeletion stage s r.path (Request.Delete r.physical) → IntendsIn stage schemas name x s r.path (Request.Delete r.physical))
        → ((e : Entry) → MayStep schemas name x [] s stage e → ⊥) → ⊥
    untried_more stage r i may no_repeat free frees chosen step = on_bool (keeps stage s r)
        (λ k. step (Entry.Kept s.operation r.path r.physical Why.Retained) (inl (r, may, no_repeat, k, refl, refl, free)))
        (λ k.
        let l = fits.lanes.0 r i in
        step (Entry.Intent s.operation (x.token + 1) l.0.0 r.path (Request.Delete r.physical)) (record {
          next = refl;
          free = frees k;
          home = at_home x l.0.0;
          fits = (l.2, any_of (λ m. bytes_eq l.0.0 m.0) x.lanes l.0 l.1 ((bytes_eq-Decides l.0.0 l.0.0).1 refl));
          no_repeat = no_repeat;
          chosen = chosen (r, may, k, refl, refl);
        }))

    none_waits : (waiting : Pending → Bool) → ((p : Pending) → In p s.tokens → waiting p ≡ true → ⊥)
        → (list_any is_repeated (filter (λ c. is_in_flight [] c.token) s.ledger) || list_any waiting s.tokens) ≡ false
    none_waits waiting never = ap (λ cs. list_any is_repeated cs || list_any waiting s.tokens) (none_calls s) ∙ none_any waiting s.tokens never

    not_needed : (r : Held) → is_needed_by_made s r ≡ false → is_needed_by_create s r ≡ false → is_not_needed s r ≡ true
    not_needed r made create = cc

    -- The rollback of a creation, and of an update.
    module _ (at_end : IsAtEnd schemas name x s Back) where
      back_doubted : (p : Pending) → In p s.tokens → Fails
      back_doubted p i = open_fails p i (grind (arith, nat_tests))

      all_free : s.tokens ≡ [] → (path : List ℕ) → is_free path s ≡ true
      all_free d path = ap (λ ts. not (list_any (λ p. bytes_eq path p.path) ts)) d

      made_fails : s.status ≡ Status.RollbackInProgress → s.tokens ≡ [] → (m : Held) (ms : List Held) → s.made ≡ m ∷ ms → Fails
      made_fails back d m ms e =
          let g = greatest (λ r. plan_rank s r.path) m ms in
          let r = g.one in
          let i : In r s.made = subst (In r) (sym e) g.of_list in
          let j : In r (resources_of s) = in_back r s.held s.made i in
          let unneeded = unneeded_by_made r j (λ z k. g.most z (subst (In z) e k)) in
          let none_create : is_needed_by_create s r ≡ false = ap (list_any (λ p. is_create p.request && is_at_one (needs_at p.path s) s r)) d in
          let n = not_needed r unneeded none_create in
          refused_fails r j (λ c k o. elim (subst (In o.0) d o.1) [ ])
          (none_false (is_untried s r) (λ u. untried_more Back r j (back, i, n, u) (none_waits (may_repeat Back [] s) (λ p i e. at_end.1 p (i, e))) (inl (all_free d r.path))
          (λ k. all_free d r.path) (λ k. inl k) at_end.0))

      pub rollback_fails : s.status ≡ Status.RollbackInProgress → s.held ≡ [] → is_cleared s ≡ false → Fails
      rollback_fails back unheld left = on_list s.tokens
          (λ d. on_list s.made (λ e. absurd (true≢false (sym (cc) ∙ left))) (λ m ms e. made_fails back d m ms e))
          (λ p ps d. back_doubted p (subst (In p) (sym d) here))

      module _ (back : s.status ≡ Status.UpdateRollbackInProgress) (going : IsGoingBack s) where
        -- a restore that is over succeeded, or its path has failed
        restore_over : s.tokens ≡ [] → (c : Call) → In c (restores_of s) → (succeeded c ≡ true) ⊎ Fails
        restore_over d c i =
            let k = in_filter is_restoring (own_calls s) c i in let own = own_row c k.0 in
            elim ((h.restoring back).come_to c own.0 own.1 k.1) [
              | inl o ↦ (elim (subst (In o.0) d o.1) [ ])
              | inr j ↦ (elim j [ inl e ↦ inl e | inr u ↦ inr (last_fails c.path u.bad) ])
            ]

        abbrev is_to_restore : Held → Bool
        is_to_restore b = was_updated b.physical s && (not (was_restored b.physical s) && not (was_skipped b.path s))

        three : (a b c : Bool) → (a && (not b && not c)) ≡ true → (a ≡ true) × (b ≡ false) × (c ≡ false)
        three a b c e = grind arith

        to_restore : (b : Held) → In b s.before → is_to_restore b ≡ true → IsToRestore s b
        to_restore b i e = let (w, r, n) = three (was_updated b.physical s) (was_restored b.physical s) (was_skipped b.path s) e in (i, w, r, n)

        is_told : (b : Held) → IsToRestore s b → is_to_restore b ≡ true
        is_told b (i, w, r, n) = cc

        -- what is still to be given back could be, or its path has failed
        restore_fails : s.tokens ≡ [] → (b : Held) → In b s.before → is_to_restore b ≡ true → Fails
        restore_fails d b i e = by (has_restore b.physical s) refl where
          by_over : (c : Call) → In c (restores_of s) → updates b.physical c.request ≡ true → (succeeded c ≡ true) ⊎ Fails → Fails
          by_over c j u k = grind (arith, in_filter, any_of, and_from)

          by : (t : Bool) → has_restore b.physical s ≡ t → Fails
          by true r = let c = some_of (λ z. updates b.physical z.request) (restores_of s) r in grind (arith, by_over, restore_over)
          by false r =
              let g = now_held going.held i in
              let l = fits.lanes.0 g.0 (in_front g.0 s.held s.made g.1) in
              absurd (at_end.0 (Entry.Intent s.operation (x.token + 1) l.0.0 b.path (Request.Update b.physical b.props)) (record {
                next = refl;
                free = all_free d b.path;
                home = at_home x l.0.0;
                fits = (
                  subst (IsOfLane l.0.0) g.2.physical l.2,
                  any_of (λ m. bytes_eq l.0.0 m.0) x.lanes l.0 l.1
                      ((bytes_eq-Decides l.0.0 l.0.0).1 refl),
                );
                no_repeat = (none_waits (may_repeat Back [] s) (λ p i e. at_end.1 p (i, e)));
                chosen = inr (back, b, to_restore b i e, refl, refl, refl, r);
              }))

        pub back_fails : Fails
        back_fails = on_list s.tokens (λ d. on_bool (has_refused_restore s)
            (λ r. let c = some_of was_refused (restores_of s) r in elim (restore_over d c.one c.of_list) [ inl e ↦ absurd (not_both c.one.request c.one.answer c.passes e) | inr f ↦ f ])
            (λ r. on_bool (list_any is_to_restore s.before) (λ l. let b = some_of is_to_restore s.before l in restore_fails d b.one b.of_list b.passes)
            (λ l. absurd (at_end.0 (Entry.Phase s.operation Phase.BackClean None) (back, d, (λ b to. true≢false (sym (is_told b to) ∙ none_of is_to_restore s.before b l to.0)), r)))))
            (λ p ps d. back_doubted p (subst (In p) (sym d) here))

    -- A deletion.
    module _ (deleted : s.status ≡ Status.DeleteInProgress) (at_end : IsAtEnd schemas name x s Gone) where
      module _ (named : (p : Pending) → In p s.tokens → is_among p.path (named_paths s) ≡ true) where
        never_created : (p : Pending) → In p s.tokens → is_create p.request ≡ true → ⊥
        never_created p i c =
            at_end.0 (Entry.Kept s.operation p.path [] Why.Retained)
            (inr (
              refl,
              refl,
              named p i,
              any_of (is_create_at p.path) s.tokens p i (and_from (is_create p.request)
                  (bytes_eq p.path p.path) c ((bytes_eq-Decides p.path p.path).1 refl)),
            ))

        none_open_on : (r : Held) (c : Call) → In c (deletions_of r.physical s) → IsOpen c.token s.tokens → ⊥
        none_open_on r c i o =
            let k = deletion_row r.physical c i in
            let row = row_is x s fits o.0 c o.1 k.0 o.2 in
            true≢false (sym (named o.0 o.1) ∙ ap (λ p. is_among p (named_paths s)) (sym row.path) ∙ h.unretained deleted c r.physical k.0 k.1 k.2)

        free_or_named : (path : List ℕ) → (is_free path s ≡ true) ⊎ (is_among path (named_paths s) ≡ true)
        free_or_named path = on_bool (list_any (λ p. bytes_eq path p.path) s.tokens) (λ e.
            let p = some_of (λ p. bytes_eq path p.path) s.tokens e in
            inr (ap (λ q. is_among q (named_paths s)) ((bytes_eq-Decides path p.one.path).0 p.passes) ∙ named p.one p.of_list))
            (λ e. inl (ap not e))

        kept_free : (r : Held) → (is_free r.path s ≡ true) ⊎ (is_among r.path (named_paths s) ≡ true) → keeps Gone s r ≡ false → is_free r.path s ≡ true
        kept_free r o k = grind (arith, second_not)

        pick : (r : Held) → In r (resources_of s) → is_needed_by_made s r ≡ false → is_needed_by_held s r ≡ false → Fails
        pick r i made held_ =
            let none_create : is_needed_by_create s r ≡ false =
            none_any (λ p. is_create p.request && is_at_one (needs_at p.path s) s r) s.tokens (λ p j e. never_created p j (first_so (is_create p.request) _ e)) in
            let n = not_needed r made none_create in
            refused_fails r i (none_open_on r)
            (none_false (is_untried s r)
            (λ u. untried_more Gone r i (i, n, held_, u) (none_waits (may_repeat Gone [] s) (λ p i e. at_end.1 p (i, e))) (free_or_named r.path) (kept_free r (free_or_named r.path)) (λ k. k) at_end.0))

        nothing_named : s.held ≡ [] → s.made ≡ [] → (p : Pending) → In p s.tokens → ⊥
        nothing_named unheld unmade p i = by p.request refl where
          none_there : (r : Held) → In r (resources_of s) → ⊥
          none_there r j = elim (subst (In r) unmade (subst (λ hs. In r (hs ++ s.made)) unheld j)) [ ]

          by : (q : Request) → p.request ≡ q → ⊥
          by (Request.Create k props) e = never_created p i (ap is_create e)
          by (Request.Update id props) e = let r = fits.named p id i (ap id_named e) in none_there r.0 r.1
          by (Request.Delete id) e = let r = fits.named p id i (ap id_named e) in none_there r.0 r.1

        named_fails : is_cleared s ≡ false → Fails
        named_fails left = on_list s.made (λ e. on_list s.held
            (λ d. on_list s.tokens (λ f. absurd (true≢false (sym (cc) ∙ left))) (λ p ps f. absurd (nothing_named d e p (subst (In p) (sym f) here))))
            (λ m ms d.
            let g = greatest (λ r. h.ranked.rank r.path) m ms in
            let i : In g.one s.held = subst (In g.one) (sym d) g.of_list in
            pick g.one (in_front g.one s.held s.made i) (ap (list_any (λ z. is_at_one (needs_at z.path s) s g.one)) e)
            (held_unneeded g.one i (λ z k. g.most z (subst (In z) d k)))))
            (λ m ms e.
            let g = greatest (λ r. plan_rank s r.path) m ms in
            let i : In g.one s.made = subst (In g.one) (sym e) g.of_list in
            let j : In g.one (resources_of s) = in_back g.one s.held s.made i in
            pick g.one j (unneeded_by_made g.one j (λ z k. g.most z (subst (In z) e k))) (made_unneeded g.one i))

      pub delete_fails : is_cleared s ≡ false → Fails
      delete_fails left = let unnamed : Pending → Bool = λ p. not (is_among p.path (named_paths s)) in on_bool (list_any unnamed s.tokens)
          (λ e. let p = some_of unnamed s.tokens e in (grind (arith, open_fails, nat_tests, none_false, and_from)))
          (λ e. named_fails (λ p i. is_so (is_among p.path (named_paths s)) (none_of unnamed s.tokens p e i)) left)

-- From the end of an operation that failed until the next one begins, paths are named, and each is blamed.

-- an opening leaves it so
opened_blamed : (s : StackState) (epoch : ℕ) (lanes : List (List ℕ × List ℕ)) (at_place : ℕ) → IsBlamed s (failed_of s)
    → IsBlamed (effect_at at_place (Entry.Opened epoch lanes) s).stack (failed_of (effect_at at_place (Entry.Opened epoch lanes) s).stack)
opened_blamed s epoch lanes at_place b = record {
  some = λ e. b.some (sym failed_is ∙ e);
  each = λ path i. by path (b.each path (subst (In path) failed_is i));
} where
  failed_is : flat_map failed_in (filter (is_of s.operation) (entries_with (Entry.Opened epoch lanes) s.entries)) ≡ failed_of s
  failed_is = ap (flat_map failed_in) (own_opened s.operation epoch lanes s.entries)

  by : (path : List ℕ) → IsBlamedFor s path → IsBlamedFor (effect_at at_place (Entry.Opened epoch lanes) s).stack path
  by path k = record {
    reply = k.reply;
    call = anew k.call;
    of_call = call_mapped anew anew_same k.reply.token s.ledger ∙ ap (option_map anew) k.of_call;
    at_path = k.at_path;
    stands = subst (λ es. In k.reply (replies_in es)) (sym (own_opened s.operation epoch lanes s.entries)) k.stands;
    failed = k.failed;
    rose = k.rose;
  }

module _ (schemas : List Schema) (x : World) (out : List ℕ) (name : List ℕ) (s : StackState) (fits : Fits x s)
    (was : known_stack name x ≡ s) (c : Course schemas name x s) where
  abbrev at_place : ℕ
  at_place = x.place + 1

  course_at : (st : Status) → s.status ≡ st → IsOnCourse schemas name x s st
  course_at st g = subst (IsOnCourse schemas name x s) g c.stage

  some_fails : (stage : Stage) → stage_of s.status ≡ Some stage → IsAtEnd schemas name x s stage → (state : Status)
      → is_failed_status state ≡ true → EndsAs schemas name x s s.status state → (path : List ℕ) × (is_failed_path s path ≡ true)
  some_fails stage at at_end Status.RollbackFailed f ends =
      let g : (s.status ≡ Status.RollbackInProgress) × (is_cleared s ≡ false) = grind arith in
      let back : stage ≡ Back = some_is stage Back (sym at ∙ ap stage_of g.0) in
      rollback_fails x s fits c.booked schemas name (subst (IsAtEnd schemas name x s) back at_end) g.0 (course_at Status.RollbackInProgress g.0).none_held g.1
  some_fails stage at at_end Status.UpdateRollbackFailed f ends =
      let g : s.status ≡ Status.UpdateRollbackInProgress = grind arith in
      let back : stage ≡ Back = some_is stage Back (sym at ∙ ap stage_of g) in
      back_fails x s fits c.booked schemas name (subst (IsAtEnd schemas name x s) back at_end) g (course_at Status.UpdateRollbackInProgress g)
  some_fails stage at at_end Status.DeleteFailed f ends =
      let g : (s.status ≡ Status.DeleteInProgress) × (is_cleared s ≡ false) = grind arith in
      let gone : stage ≡ Gone = some_is stage Gone (sym at ∙ ap stage_of g.0) in
      delete_fails x s fits c.booked schemas name g.0 (subst (IsAtEnd schemas name x s) gone at_end) g.1
  some_fails stage at at_end state f ends = absurd (true≢false (sym f))

  abbrev Blames : Entry → Type 0
  Blames e = IsBlamed (effect_at at_place e s).stack (failed_of (effect_at at_place e s).stack)

  done_blamed : (number : ℕ) (state : Status) (failed : List (List ℕ)) → GoesOn schemas x out number (Entry.Done number state failed) name s
      → is_failed_status state ≡ true → Blames (Entry.Done number state failed)
  done_blamed number state failed g f = record { some = some_named; each = each_blamed } where
    done : Entry
    done = Entry.Done number state failed

    then_ : StackState
    then_ = (effect_at at_place done s).stack

    left : Leaves s done (ended_effect state s).stack
    left = done_left s c.booked schemas name x number failed state g.may.2 (λ e. absurd (true≢false (sym f ∙ ap is_failed_status e)))
        (λ u. (course_at Status.RollbackInProgress u).none_held)

    own : is_of s.operation done ≡ true
    own = eq-eqb s.operation number g.is

    failed_is : failed_of then_ ≡ failed
    failed_is = failed_then s c.booked g.going done own (λ es. refl) refl (ended_effect state s).stack left then_.events

    answers_are : answers_of then_ ≡ answers_of s
    answers_are =
        answers_then s c.booked g.going done own (λ es. refl) refl (ended_effect state s).stack left then_.events ∙ append-nil (answers_of s)

    are : (p : List ℕ) → In p failed ↔ IsTrue (is_failed_path s p)
    are = (subst (λ b. MatchBool b (IsTrue (texts_ascend failed) × ((p : List ℕ) → In p failed ↔ IsTrue (is_failed_path s p))) (failed ≡ [])) f g.may.3).1

    some_named : failed_of then_ ≢ []
    some_named e = let k = some_fails g.stage g.at g.may.1 state f g.may.2 in grind (arith, failed_is, are)

    each_blamed : (path : List ℕ) → In path (failed_of then_) → IsBlamedFor then_ path
    each_blamed path i = blamed_path x s fits c.booked then_ (grind arith) answers_are path ((are path).0 (subst (In path) failed_is i))

  -- it begins, or enters a later phase
  in_progress : {P : Type 0} (st now : Status) → is_in_progress st ≡ true → now ≡ st → is_failed_status now ≡ true → P
  in_progress st now g e f = absurd (grind arith)

  -- where it stays as it was, the entry is an opening or is of another stack
  stays_blamed : (e : Entry) (t : StackState) → IsTo schemas x out name s e t → is_failed_status s.status ≡ true → is_failed_status t.status ≡ true
      → IsBlamed t (failed_of t)
  stays_blamed e t (is_step stage at is_own may) was f = absurd (grind arith)
  stays_blamed e t (is_begun k from by) was f = in_progress (begun k) _ (begun_goes k) (begun_status at_place name (x.operation + 1) k s) f
  stays_blamed e t (is_reviewed number source rows outputs from) was f = absurd (grind arith)
  stays_blamed e t (opened epoch lanes) was f = opened_blamed s epoch lanes at_place (grind arith)
  stays_blamed e t is_other was f = grind arith

  moved_blamed : (e : Entry) (t : StackState) → IsTo schemas x out name s e t → MayFollow schemas x out e → IsMove schemas x out name s e t
      → is_failed_status t.status ≡ true → IsBlamed t (failed_of t)
  moved_blamed e t to may (is_still same) f = stays_blamed e t to (ap is_failed_status (sym same) ∙ f) f
  moved_blamed e t to may (is_turn number p why on turn) f = in_progress (turned s.status p) _ (turned_goes s.status p) (turned_status at_place number p s why) f
  moved_blamed e t to may (is_end number state failed stage on at follows) f = grind (arith, done_blamed, goes_on, ended_status)
  moved_blamed e t to may (is_beginning k from by) f = in_progress (begun k) _ (begun_goes k) (begun_status at_place name (x.operation + 1) k s) f
  moved_blamed e t to may (is_review number source rows outputs from) f = absurd (grind arith)
  moved_blamed e t to may is_elsewhere f = grind arith

pub failed_blamed : FailedAreBlamed
failed_blamed schemas x out e name s t w c f =
    moved_blamed schemas x out name s w.fits w.was c e t (written_is_to schemas x out e name s t w) w.may (written_moves w) f
