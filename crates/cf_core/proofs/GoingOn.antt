-- Every operation on its course goes on until its end.
use Rattle.std.proofs.Common.{arith, ◌≡◌, ◌⊎◌, inl, inr, ℕ, Bool, true, false, not, ◌&&◌, ◌||◌, List, ◌++◌, Option, Some, None, refl, sym, ap, subst, ◌∙◌, true≢false, map, filter, option_map, ◌==◌, nat_lt, [], ◌∷◌, take, drop, take-append-drop, ◌↔◌, suc, length, append_assoc, IsTrue}
use Rattle.cf_core.proofs.Words.{AgreeAt, AreDone, Evaluated, Flaw, HasFailed, Held, In, IsAdvancing, IsDone, IsReady, Later, Member, Nesting, Plan, Schema, Seen, Shape, Source, StackState, Wanted, World, all_differ, bind_flaw_in, bytes_eq, current_at, evaluated_at, fault_at, finding, found_of, given_root, held_before_as, inner_at, inner_from, is_among, is_current_at, is_made, is_of_evaluation, is_right, is_settled, is_shown, is_updated, list_all, member_at, needs_at, nesting_at, nestings_in, option_map_or, plan_by, plan_in, plan_now, props_at, resources_in, seen_in, seen_now, shape_of, terms_of, value_at, wanted_at, wanted_from, wanted_of, AllDone, Bad, Call, Cause, Code, Data, Difference, EndsAs, Entry, Finding, Fits, Forward, ForwardGoesOn, HasKinds, HasNext, IsAtEnd, IsRefusedAhead, IsTold, Known, MayTurn, Pending, Phase, Reply, Request, Status, StepsIn, WantsNew, WantsUpdate, call_under as call_of, difference_of, difference_to, doubts_of, first_so, found, has_physical, held_before, is_call, is_conditional, is_excused, is_free, is_lane_of, is_not_updatable, is_success, is_update, is_wanted_at, list_any, own_calls, refusing, resources_of, second_so, stack_of_operation, stage_of, succeeded, updates, was_answered_at, was_not_updatable, was_updated, AreFailed, Back, DeletionGoesOn, FitsLane, Gone, IntendsDeletion, IntendsIn, IntendsRestore, IsOfLane, IsToRestore, MayDelete, MayIntend, MayKeep, MayRepeat, RollbackGoesOn, Stage, Why, cleaned_in, goes_forward, has_refused_restore, has_restore, is_cleared, is_create, is_create_at, is_empty, is_needed_by_held, is_not_needed, is_to_retain, is_untried, keeps, may_repeat, named_paths, waits_for_repeats, was_restored, was_skipped, BackClean, Clean, IsOnCourse, OperationGoesOn, is_in_progress, of_rollback, of_update}
use Rattle.cf_core.proofs.Lemmas.{all_pass, by_paths, bytes_eq-Decides, differ_behind, each_passes, find-append, first_of, found_one, in_changed, is_found_in, needs_are, needs_suffice, never_later, paths_apart, paths_are, root_bound, seen_of, shape_is_held, shown, shown_at, some_of, value_left, Passes, all_found, and_from, any_of, cases_Bool, eq-eqb, eqb-true, excused, failed_or, first_or_all, in_filter, in_front, is_found, ltb-false, none_failing, not_thrice, bytes_same, empty_list, none_any, none_of, not_so, or_cases, or_left, or_right, same_bytes}
use Rattle.cf_core.proofs.{HidSeen.shape_before, Cleanups.some_same, HidCalls.it, HidCalls.not_updated, HidCalls.one_kind, HidCalls.was, AdvSteps.keeps_nothing, BackSteps.is_of, FitKept.one_id, FitKept.one_number, Cleanups.of_cleaning, Cleanups.of_cleaning_back, Cleanups.cleanup_goes_on}
use Rattle.cf_desired.proofs.{NeededKnown.needed_known, StackNeeds.stack_needs_suffice}
use Rattle.cf_desired.specs.NeededIsKnown.{is_bound}
use Rattle.cf_desired.specs.declared.wanted.Inner.{Inner}
use Rattle.std.specs.{Option.option_and_then, Prelude.cond, Prelude.is_some}
use Rattle.cf_core.proofs.Cleanups.{asks, at_end_by, follows, lane_of, none_flying, steps, none_calls}
use Rattle.cf_effect.specs.declared.call.Settled.{Settled}
use Rattle.cf_schema.proofs.Equal.{same_equal}
use Rattle.std.specs.Prelude.{cond, is_some}
use Rattle.cf_plan.proofs.FailedPaths.{are_failed, failed_list}

-- While a forward phase has not failed, the properties of a path that is ready are known: they rest on what is done alone, and all
-- of that is seen.

module _ (schemas : List Schema) (name : List ℕ) (x : World) (s : StackState) (source : Source) (a : IsAdvancing schemas s source)
    (done : List (List ℕ)) (are : AreDone s done) where
  abbrev before : Seen
  before = seen_in s.before

  abbrev shape : Shape
  shape = shape_of source before

  abbrev now : Seen
  now = seen_now s

  abbrev left : Seen
  left = seen_of done now

  now_is : plan_now s ≡ plan_by source shape now
  now_is = ap (λ g. plan_in g before now) a.going

  -- what is done is seen
  shown_so : (q : List ℕ) (o p : Option Held) (r : Held) → current_at q s.made ≡ o → current_at q s.held ≡ p → (o ≡ Some r) ⊎ (p ≡ Some r) → is_shown now q ≡ true
  shown_so q o p r e f w = grind (arith, option_map, shown, shown_at, find-append)

  done_shown : (q : List ℕ) → IsDone s q → is_shown now q ≡ true
  done_shown q (is_made r e) = shown_so q (Some r) (current_at q s.held) r e refl (inl refl)
  done_shown q (is_updated e) = let h = a.updated q e in shown_so q (current_at q s.made) (Some h.0) h.0 refl h.1 (inr refl)
  done_shown q (is_right h i needs e sure said) = shown_so q (current_at q s.made) (Some h) h refl e (inr refl)

  at_done : (q : List ℕ) → is_among q done ≡ true → value_at q left ≡ value_at q now
  at_done q e = value_left done q now ∙ ap (λ b. cond b (value_at q now) None) e

  left_shown : (q : List ℕ) → is_among q done ≡ true → is_shown left q ≡ true
  left_shown q e = ap (λ k. is_some (option_and_then (λ v. v.physical) k) && is_some (option_and_then (λ v. v.attrs) k)) (at_done q e) ∙ done_shown q ((are q).1 e)

  shown_left : (q : List ℕ) → is_shown left q ≡ true → is_among q done ≡ true
  shown_left q e = grind (arith, value_left, true≢false)

  agree_at : (qs : List (List ℕ)) → ((q : List ℕ) → is_among q qs ≡ true → is_among q done ≡ true) → AgreeAt qs left now
  agree_at qs h q i = (ap (option_and_then (λ v. v.physical)) (sym (at_done q (h q i))), ap (option_and_then (λ v. v.attrs)) (sym (at_done q (h q i))))

  among_in : (q : List ℕ) (qs : List (List ℕ)) (P : List ℕ → Type 0) → ((p : List ℕ) → In p qs → P p) → is_among q qs ≡ true → P q
  among_in q qs P h e = let w = some_of (bytes_eq q) qs e in subst P (sym ((bytes_eq-Decides q w.one).0 w.passes)) (h w.one w.of_list)

  -- the parameters of the root are bound
  root : bind_flaw_in (given_root source) shape ≡ None
  root =
      ap (bind_flaw_in (given_root source)) (shape_before schemas s source a ∙ sym (shape_is_held schemas (held_before_as s) source a.no_flaw))
      ∙ root_bound source (found_of schemas (held_before_as s) source).seen (ap (filter (λ f. not (is_of_evaluation f))) a.no_flaw)

  module _ (good : HasFailed schemas name x s → ⊥) where
    -- those of a nested stack are, where all that its stack resource needs is done
    one_bound : (i : Inner) → In i (plan_by source shape left).nested → is_bound left i ≡ true
    one_bound i j = by (list_all (is_shown left) i.needs) refl where
      differ : (seen : Seen) → all_differ bytes_eq (map (λ n. n.path) (plan_by source shape seen).nested) ≡ true
      differ seen =
          ap (all_differ bytes_eq) (by_paths source shape seen).stacks
          ∙ differ_behind (map (λ m. m.path) (resources_in shape)) (map (λ n. n.path) (nestings_in shape)) (paths_apart source before)

      needs_done : list_all (is_shown left) i.needs ≡ true → (q : List ℕ) → In q i.needs → is_among q done ≡ true
      needs_done e q k = shown_left q (each_passes (is_shown left) i.needs q e k)

      -- it is as it is over all that is seen now
      same_now : list_all (is_shown left) i.needs ≡ true → (n : Option Nesting) → nesting_at shape i.path ≡ n → (f : Option (Option Flaw))
          → fault_at source shape left i.path ≡ f
          → inner_from n f ≡ Some i → inner_at i.path (plan_by source shape now) ≡ Some i
      same_now e (Some n) g (Some f) k m =
          let is : record { path = n.path; needs = n.needs; fault = f } ≡ i = cc in
          let needs : n.needs ≡ i.needs = ap (λ (v : Inner). v.needs) is in
          let agree = agree_at n.needs (λ q among. among_in q n.needs (λ p. is_among p done ≡ true) (λ p l. needs_done e p (subst (In p) needs l)) among) in
          (by_paths source shape now).nested i.path
          ∙ ap (λ o. inner_from o (fault_at source shape now i.path)) g
          ∙ ap (inner_from (Some n)) (stack_needs_suffice source before left now i.path n g agree ∙ k) ∙ m
      same_now e n g f k m = let no : ⊥ = grind arith in absurd no

      by_fault : list_all (is_shown left) i.needs ≡ true → (f : Flaw) → i.fault ≡ Some f → ⊥
      by_fault e f k =
          let at_left : inner_at i.path (plan_by source shape left) ≡ Some i = first_of (plan_by source shape left).nested i (differ left) j in
          let at_now = same_now e (nesting_at shape i.path) refl (fault_at source shape left i.path) refl (sym ((by_paths source shape left).nested i.path) ∙ at_left) in
          let there_now : In i (plan_now s).nested = subst (λ (p : Plan). In i p.nested) (sym now_is)
          (found_one (λ n. bytes_eq i.path n.path) (plan_by source shape now).nested i at_now).0 in
          good (inr (inl (i.path, f, inr (i, there_now, refl, (λ q l. (are q).1 (needs_done e q l)), k))))

      by : (b : Bool) → list_all (is_shown left) i.needs ≡ b → (not b || not (is_some i.fault)) ≡ true
      by b e = grind (arith, by_fault)

    -- a ready path is not Later
    pub ready_known : (p : List ℕ) → IsReady s p → evaluated_at p s ≡ Later → ⊥
    ready_known p ready e = by (member_at shape p) refl (props_at source shape now p) refl where
      wanted_is : (seen : Seen) → (w : Wanted) × (wanted_at p (plan_by source shape seen) ≡ Some w)
      wanted_is seen =
          let i = subst (In p) (paths_are s source a.going ∙ (by_paths source shape before).paths ∙ sym ((by_paths source shape seen).paths)) ready.0 in
          let m = in_changed (λ (w : Wanted). w.path) (plan_by source shape seen).wanted p i in
          is_found_in (λ (w : Wanted). bytes_eq p w.path) (plan_by source shape seen).wanted m.one m.of_list ((bytes_eq-Decides p m.one.path).1 (sym m.same))

      own_needs : (m : Member) → member_at shape p ≡ Some m → needs_at p s ≡ m.needs
      own_needs m f =
          let w = wanted_is before in
          needs_are s source a.going p ∙ ap (λ o. (terms_of o).needs) w.1
          ∙ same (props_at source shape before p) (ap (λ o. wanted_from o (props_at source shape before p)) (sym f) ∙ sym ((by_paths source shape before).wanted p)
          ∙ w.1) where
            same : {w : Wanted} → (v : Option Evaluated) → wanted_from (Some m) v ≡ Some w → w.needs ≡ m.needs
            same {w = w} None k = let no : ⊥ = cc in absurd no
            same {w = w} (Some v) k = ap (λ (u : Wanted). u.needs) (sym (some_same (wanted_of (m, v)) w k))

      settled : (m : Member) → member_at shape p ≡ Some m → (v : Evaluated) → props_at source shape now p ≡ Some v → is_settled v ≡ true
      settled m f v g =
          let needs = own_needs m f in
          let done_needs : (q : List ℕ) → In q m.needs → is_among q done ≡ true = λ q i. (are q).0 (ready.1 q (subst (In q) (sym needs) i)) in
          let agree = agree_at m.needs (λ q among. among_in q m.needs (λ r. is_among r done ≡ true) done_needs among) in
          needed_known source before left root (all_pass (is_bound left) (plan_by source shape left).nested one_bound) p m v f
          (all_pass (is_shown left) m.needs (λ q i. left_shown q (done_needs q i))) (sym (needs_suffice source before left now p m f agree) ∙ g)

      by : (o : Option Member) → member_at shape p ≡ o → (v : Option Evaluated) → props_at source shape now p ≡ v → ⊥
      by None f v g = grind (arith, wanted_is now, (by_paths source shape now).wanted p)
      by (Some m) f None g = grind (arith, wanted_is now, (by_paths source shape now).wanted p)
      by (Some m) f (Some v) g =
          let at : wanted_at p (plan_now s) ≡ Some (wanted_of (m, v)) =
          ap (wanted_at p) now_is ∙ (by_paths source shape now).wanted p ∙ ap (λ o. wanted_from o (props_at source shape now p)) f ∙ ap (wanted_from (Some m)) g in
          never_later m.kind v (settled m f v g) (sym (ap (λ o. option_map_or (λ w. finding w.kind w.props) o Later) at) ∙ e)

-- A forward phase has a next step, or it ends.

-- a resource whose properties don't differ has them
same_props : (schemas : List Schema) (h : Held) (props : List (List ℕ × Data)) → difference_to schemas h props ≡ Difference.Same → h.props ≡ props
same_props schemas h props e = grind (arith, same_equal)

forward_or : (st : Status) → stage_of st ≡ Some Forward → (st ≡ Status.CreateInProgress) ⊎ (st ≡ Status.UpdateInProgress)
forward_or st e = grind arith

conditional : (d : Difference) → is_conditional d ≡ true → d ≡ Difference.MayReplace
conditional d e = grind (arith, true≢false)

same_known : (k j : List ℕ) (ps qs : List (List ℕ × Data)) → Known k ps ≡ Known j qs → (k ≡ j) × (ps ≡ qs)
same_known k j ps qs e = (cc, cc)

module _ (schemas : List Schema) (name : List ℕ) (x : World) (s : StackState) (source : Source) (in_forward : stage_of s.status ≡ Some Forward)
    (fits : Fits x s) (a : IsAdvancing schemas s source) (kinds : HasKinds x s) (told : IsTold s) (good : HasFailed schemas name x s → ⊥) where
  abbrev Steps : Type 0
  Steps = StepsIn schemas name x s Forward

  -- an open call is made again
  open_goes : (p : Pending) → In p s.tokens → Steps
  open_goes p i = elim (cases_Bool (nat_lt (doubts_of p.token s) 3)) [
    | inl e ↦ inr (p, (good, i, e))
    | inr e ↦ (let told_of = told.doubted p i in
        absurd (grind (arith, ltb-false (doubts_of p.token s) 3 e, not_thrice schemas s (none_failing schemas name x s good) p.token)))
  ]

  -- A path that is ready and not done, of which no call is open.
  module _ (p : List ℕ) (ready : IsReady s p) (undone : IsDone s p → ⊥) (free : is_free p s ≡ true) (k : List ℕ) (props : List (List ℕ × Data))
      (said : evaluated_at p s ≡ Known k props) where
    creates : WantsNew schemas s (current_at p s.held) props → Steps
    creates wants =
        let w = is_found k props (wanted_at p (plan_now s)) said in
        let i = (found_one (is_wanted_at p) (plan_now s).wanted w.wanted w.there).0 in
        let e = some_of (bytes_eq k) (map (λ (l : List ℕ × List ℕ). l.1) x.lanes)
        (ap (λ n. is_among n (map (λ (l : List ℕ × List ℕ). l.1) x.lanes)) (sym w.kind) ∙ kinds w.wanted i) in
        let l = in_changed (λ (m : List ℕ × List ℕ). m.1) x.lanes e.one e.of_list in
        let fit = any_of (is_lane_of l.one.0 k) x.lanes l.one l.of_list
        (and_from (bytes_eq l.one.0 l.one.0) _ ((bytes_eq-Decides l.one.0 l.one.0).1 refl) (ap (bytes_eq k) l.same ∙ e.passes)) in
        asks schemas name x s Forward l.one.0 p (Request.Create k props) free fit refl (good, ready, undone, (said, wants))

    -- of what is held at it
    module _ (h : Held) (at : current_at p s.held ≡ Some h) where
      kind_is : k ≡ h.kind
      kind_is = sym (it schemas s source a p k props said undone h at).kind ∙ sym (one_kind schemas s source a p k props said undone h at)

      updates_it : WantsUpdate schemas s h props → was_answered_at p s ≡ false → Steps
      updates_it wants none =
          let i = in_front h s.held s.made (found_one (is_current_at p) s.held h at).0 in
          let l = lane_of x h.physical h.kind (fits.lanes.0 h i) in
          asks schemas name x s Forward l.0 p (Request.Update h.physical props) free (l.1, l.2) refl
          (good, ready, undone, (h, at, refl, said ∙ ap (λ n. Known n props) kind_is, wants, none))

      creates_new : WantsNew schemas s (Some h) props → Steps
      creates_new wants = creates (subst (λ o. WantsNew schemas s o props) (sym at) wants)

      -- where its update was answered, it was refused because a new resource is needed
      abbrev IsReplaced : Type 0
      IsReplaced = (difference_to schemas h props ≡ Difference.MayReplace) × (was_not_updatable s h ≡ true)

      refused_so : (c : Call) → In c (own_calls s) → (id : List ℕ) (asked : List (List ℕ × Data)) (r : Code) → c.request ≡ Request.Update id asked
          → c.answer ≡ Some (Settled.Failed r) → p ≡ c.path → IsReplaced
      refused_so c i id asked r asks answer path = by_code r refl excuse where
        of_ledger : In c s.ledger
        of_ledger = (in_filter (λ d. d.number == s.operation) s.ledger c i).0

        call_is : call_of c.token s ≡ Some c
        call_is =
            let f = is_found_in (is_call c.token) s.ledger c of_ledger (eq-eqb c.token c.token refl) in
            let one = found_one (is_call c.token) s.ledger f.0 f.1 in
            f.1 ∙ ap (λ d. Some d) (one_number (λ d. d.token) s.ledger fits.row_tokens f.0 c one.0 of_ledger (sym (eqb-true c.token f.0.token one.1)))

        t : IsRefusedAhead s c id asked r
        t = told.refused c id asked r of_ledger asks answer

        excuse : is_excused schemas s (Request.Update id asked) r ≡ true
        excuse = grind (arith, call_is, asks, refuses) where
          refuses : refusing schemas s (Entry.Outcome t.told.0 c.token (Reply.Failed r) t.told.1 t.told.2) ≡ None
          refuses = excused schemas s (none_failing schemas name x s good) told.no_phase (Entry.Outcome t.told.0 c.token (Reply.Failed r) t.told.1 t.told.2) t.told.3

        same_held : t.asks.0 ≡ h
        same_held = some_same t.asks.0 h (sym t.asks.1 ∙ ap (λ q. current_at q s.held) (sym path) ∙ at)

        of_id : h.physical ≡ id
        of_id = ap (λ (g : Held). g.physical) (sym same_held) ∙ t.asks.2

        same_asked : props ≡ asked
        same_asked = (same_known k t.asks.0.kind props asked (sym said ∙ ap (λ q. evaluated_at q s) path ∙ t.asks.3)).1

        by_before : r ≡ Code.NotUpdatable → (b : Held) → held_before id s ≡ Some b → is_conditional (difference_to schemas b asked) ≡ true → IsReplaced
        by_before n b e d =
            let f = found_one (has_physical id) s.before b e in
            let same : b.physical ≡ h.physical = sym ((bytes_eq-Decides id b.physical).0 f.1) ∙ sym of_id in
            let g = is_of a.held f.0 in
            let now = was schemas s source a p k props said undone h at in
            let is_h : g.0 ≡ h = one_id (λ (y : Held). y.physical) (resources_of s) fits.ids g.0 h (in_front g.0 s.held s.made g.1)
            (in_front h s.held s.made now.in_held) (g.2.physical ∙ same) in
            let kind : h.kind ≡ b.kind = ap (λ (y : Held). y.kind) (sym is_h) ∙ g.2.kind in
            let still = not_updated schemas s source a p now.before now.in_before now.at undone in
            let props_are : h.props ≡ b.props =
            (a.unchanged b h f.0 now.in_held (sym same) (ap (λ q. was_updated q s) (same ∙ now.same.physical) ∙ still)).props in
            let differs : difference_to schemas h props ≡ difference_to schemas b asked =
            λ i. option_map_or (λ schema. difference_of schema (props_are i) (same_asked i)) (found (kind i) schemas) Difference.Update in (
              differs ∙ conditional (difference_to schemas b asked) d,
              any_of (λ (q : Call). updates h.physical q.request && is_not_updatable q.answer) (own_calls s) c i
                  (and_from (updates h.physical c.request) _ (ap (updates h.physical) asks ∙ (bytes_eq-Decides h.physical id).1 of_id)
                  (ap is_not_updatable answer ∙ ap (λ q. is_not_updatable (Some (Settled.Failed q))) n)),
            )

        by_code : (q : Code) → r ≡ q → is_excused schemas s (Request.Update id asked) q ≡ true → IsReplaced
        by_code q n e = grind (arith, by_before)

      answered_so : was_answered_at p s ≡ true → IsReplaced
      answered_so e = by_request c.one.request refl (first_so (is_update c.one.request) _ rest) where
        c : Passes (λ d. bytes_eq p d.path && (is_update d.request && is_some d.answer)) (own_calls s)
        c = some_of (λ d. bytes_eq p d.path && (is_update d.request && is_some d.answer)) (own_calls s) e

        path : p ≡ c.one.path
        path = (bytes_eq-Decides p c.one.path).0 (first_so (bytes_eq p c.one.path) _ c.passes)

        rest : (is_update c.one.request && is_some c.one.answer) ≡ true
        rest = second_so (bytes_eq p c.one.path) _ c.passes

        by_answer : (id : List ℕ) (asked : List (List ℕ × Data)) → c.one.request ≡ Request.Update id asked → (o : Option Settled) → c.one.answer ≡ o → is_some o ≡ true
            → IsReplaced
        by_answer id asked q None g t = absurd (true≢false (sym t))
        by_answer id asked q (Some (Settled.Failed r)) g t = refused_so c.one c.of_list id asked r q g path
        by_answer id asked q (Some Settled.Success) g t =
            absurd (undone (is_updated (any_of (λ d. bytes_eq p d.path && (is_update d.request && succeeded d)) (own_calls s) c.one c.of_list
            (and_from (bytes_eq p c.one.path) _ ((bytes_eq-Decides p c.one.path).1 path) (and_from (is_update c.one.request) _ (ap is_update q) (ap is_success g))))))

        by_request : (q : Request) → c.one.request ≡ q → is_update q ≡ true → IsReplaced
        by_request (Request.Update id asked) q t = by_answer id asked q c.one.answer refl (second_so (is_update c.one.request) _ rest)
        by_request _ q t = absurd (true≢false (sym t))

      by_answer : WantsUpdate schemas s h props → (IsReplaced → Steps) → Steps
      by_answer wants more = elim (cases_Bool (was_answered_at p s)) [ inl e ↦ more (answered_so e) | inr e ↦ updates_it wants e ]

      held_goes : (d : Difference) → difference_to schemas h props ≡ d → Steps
      held_goes Difference.Replace e = creates_new (inl e)
      held_goes Difference.MayReplace e = by_answer ((λ n. let k = sym e ∙ n in cc), inr (λ n. let k = sym e ∙ n in cc)) (λ w. creates_new (inr (e, w.1)))
      held_goes Difference.Update e = by_answer ((λ n. let k = sym e ∙ n in cc), inr (λ n. let k = sym e ∙ n in cc))
          (λ w. let k = sym e ∙ w.0 in let no : ⊥ = cc in absurd no)
      held_goes Difference.Same e = elim (cases_Bool h.unsure) [
        | inl u ↦ by_answer ((λ n. let k = sym e ∙ n in cc), inl u) (λ w. let k = sym e ∙ w.0 in let no : ⊥ = cc in absurd no)
        | inr u ↦ absurd (undone (is_right h ready.0 ready.1 at u (said ∙ ap (λ n. Known n props) kind_is ∙ ap (Known h.kind) (sym (same_props schemas h props e)))))
      ]

    path_goes : Steps
    path_goes = by (current_at p s.held) refl where
      by : (o : Option Held) → current_at p s.held ≡ o → Steps
      by None e = creates (subst (λ o. WantsNew schemas s o props) (sym e) tt)
      by (Some h) e = held_goes h e (difference_to schemas h props) refl

  -- a path that is ready and not done goes on
  ready_goes : (done : List (List ℕ)) → AreDone s done → (p : List ℕ) → IsReady s p → (IsDone s p → ⊥) → Steps
  ready_goes done are p ready undone = elim (cases_Bool (list_any (λ q. bytes_eq p q.path) s.tokens)) [
    | inl e ↦ let q = some_of (λ (q : Pending). bytes_eq p q.path) s.tokens e in open_goes q.one q.of_list
    | inr e ↦ by_said (ap not e) (evaluated_at p s) refl
  ] where
    by_said : is_free p s ≡ true → (f : Finding) → evaluated_at p s ≡ f → Steps
    by_said free (Bad fault) e = absurd (good (inr (inl (p, fault, inl (ready, e)))))
    by_said free Later e = absurd (ready_known schemas name x s source a done are good p ready e)
    by_said free (Known k props) e = path_goes p ready undone free k props e

  -- where all is done the next phase begins, or the creation ends
  all_goes : AllDone s → stack_of_operation s.operation x ≡ Some (name, s) → HasNext schemas x s.operation
  all_goes all going = by (forward_or s.status in_forward) where
    module_end : s.status ≡ Status.CreateInProgress → IsAtEnd schemas name x s Forward
    module_end e = at_end_by schemas name x s Forward (λ token lane path r w. w.chosen.2 (all path w.chosen.1.0)) (keeps_nothing [] s) no_turn
        (λ p w. a.not_done p w.1 (all p.path (a.ready p w.1).0)) where
          no_turn : (p : Phase) (c : Option Cause) → MayTurn schemas name x s p c → ⊥
          no_turn Phase.Clean None w = let g = sym e ∙ w.0 in cc
          no_turn Phase.Back (Some c) w = good w.1
          no_turn Phase.BackClean None w = let g = sym e ∙ w.0 in cc
          no_turn p c w = w

    by : (s.status ≡ Status.CreateInProgress) ⊎ (s.status ≡ Status.UpdateInProgress) → HasNext schemas x s.operation
    by (inr e) = steps schemas name x s Forward going in_forward (inl (Entry.Phase s.operation Phase.Clean None, (e, good, all)))
    by (inl e) =
        follows schemas name x s Forward going in_forward (Entry.Done s.operation Status.CreateComplete [])
        (none_flying s, module_end e, subst (λ k. EndsAs schemas name x s k Status.CreateComplete) (sym e) (good, all), refl)

pub forward_goes_on : ForwardGoesOn
forward_goes_on schemas name x s source going in_forward fits a kinds told =
    let d = all_found s source a.going in
    elim (failed_or schemas name x s source a.going d.0 d.1 told.no_phase told.called) [
      | inl f ↦ steps schemas name x s Forward going in_forward (inl (Entry.Phase s.operation Phase.Back (Some f.1.0), (in_forward, f.0, f.1.1)))
      | inr good ↦ elim (first_or_all s source a.going d.0 d.1) [
        | inl p ↦ steps schemas name x s Forward going in_forward
            (ready_goes schemas name x s source in_forward fits a kinds told good d.0 d.1 p.0 p.1 (λ e. true≢false (sym ((d.1 p.0).0 e) ∙ p.2)))
        | inr all ↦ all_goes schemas name x s source in_forward fits a kinds told good all going
      ]
    ]

-- A rollback has a next step, or it ends; so has a deletion.

-- the first that passes is taken, or none does
tries : {A B C : Type 0} (test : A → Bool) (xs : List A) → ((a : A) → In a xs → test a ≡ true → B) → (((a : A) → In a xs → test a ≡ false) → B ⊎ C) → B ⊎ C
tries test xs take_it rest = elim (cases_Bool (list_any test xs)) [
  | inl e ↦ let p = some_of test xs e in inl (take_it p.one p.of_list p.passes)
  | inr e ↦ rest (λ a i. none_of test xs a e i)
]

-- whether an id begins with the name of a lane and a colon
abbrev begins_with : List ℕ → List ℕ → Bool
begins_with lane id = bytes_eq (take (suc (length lane)) id) (lane ++ 58 ∷ [])

front_of : (lane rest : List ℕ) → take (suc (length lane)) (lane ++ 58 ∷ rest) ≡ lane ++ 58 ∷ []
front_of [] rest = refl
front_of (n ∷ ns) rest = ap (λ ms. n ∷ ms) (front_of ns rest)

of_lane : (lane id : List ℕ) → begins_with lane id ≡ true ↔ IsOfLane lane id
of_lane lane id =
    let same = bytes_eq-Decides (take (suc (length lane)) id) (lane ++ 58 ∷ []) in
    let rest = drop (suc (length lane)) id in (
      λ e. (rest, sym (take-append-drop (suc (length lane)) id) ∙ ap (λ t. t ++ rest) (same.0 e) ∙ append_assoc lane (58 ∷ []) rest),
      λ (ns, e). same.1 (ap (take (suc (length lane))) e ∙ front_of lane ns),
    )

-- the statuses from which a phase begins
abbrev may_turn : Status → Bool
may_turn Status.UpdateRollbackInProgress = true
may_turn st = goes_forward st

-- an open create is given up
abbrev GivesUp : Stage → StackState → List ℕ → List ℕ → Type 0
GivesUp stage s path physical =
    (stage ≡ Gone) × (physical ≡ []) × (is_among path (named_paths s) ≡ true) × IsTrue (list_any (is_create_at path) s.tokens)

module _ (schemas : List Schema) (name : List ℕ) (x : World) (s : StackState) where
  turns_from : (p : Phase) (c : Option Cause) → MayTurn schemas name x s p c → may_turn s.status ≡ true
  turns_from p c w = grind arith

  -- where no call may be made again, none is waited for
  none_waits : (stage : Stage) → ((p : Pending) → In p s.tokens → may_repeat stage [] s p ≡ false) → waits_for_repeats stage [] s ≡ false
  none_waits stage none = grind (arith, none_any, true≢false, none_calls)

  -- a lane of an id
  abbrev home : List ℕ → Bool
  home id = list_any (λ (l : List ℕ × List ℕ). begins_with l.0 id) x.lanes

  lane_for : (id : List ℕ) → home id ≡ true → (lane : List ℕ) × IsOfLane lane id × (list_any (λ l. bytes_eq lane l.0) x.lanes ≡ true)
  lane_for id e =
      let p = some_of (λ (l : List ℕ × List ℕ). begins_with l.0 id) x.lanes e in
      (p.one.0, (of_lane p.one.0 id).0 p.passes, any_of (λ (m : List ℕ × List ℕ). bytes_eq p.one.0 m.0) x.lanes p.one p.of_list (same_bytes p.one.0))

  home_for : (id lane : List ℕ) → IsOfLane lane id → list_any (λ l. bytes_eq lane l.0) x.lanes ≡ true → home id ≡ true
  home_for id lane is there =
      let p = some_of (λ (l : List ℕ × List ℕ). bytes_eq lane l.0) x.lanes there in
      any_of (λ (l : List ℕ × List ℕ). begins_with l.0 id) x.lanes p.one p.of_list
      (ap (λ n. begins_with n id) (sym (bytes_same lane p.one.0 p.passes)) ∙ (of_lane lane id).1 is)

  -- A stage that deletes, of these resources, those that pass a test, and calls nothing else.
  module _ (stage : Stage) (rs : List Held) (may : Held → Bool) (deletes : (r : Held) → MayDelete stage s r ↔ (In r rs × (may r ≡ true)))
      (calls : (path : List ℕ) (r : Request) → IntendsIn stage schemas name x s path r ↔ IntendsDeletion stage s path r) where
    abbrev is_open : Held → Bool
    is_open r = is_free r.path s || is_to_retain stage s r.path

    abbrev goes : Held → Bool
    goes r = may r && ((keeps stage s r && is_open r) || (not (keeps stage s r) && (is_free r.path s && home r.physical)))

    -- it is kept, or deleted on a lane
    goes_on : ((p : Pending) → In p s.tokens → may_repeat stage [] s p ≡ false) → (r : Held) → In r rs → goes r ≡ true → StepsIn schemas name x s stage
    goes_on idle r i e = elim (or_cases (keeps stage s r && is_open r) _ (second_so (may r) _ e)) [
      | inl k ↦ (let free = or_cases (is_free r.path s) _ (second_so (keeps stage s r) _ k) in
          inl (Entry.Kept s.operation r.path r.physical Why.Retained, inl (r, w, none_waits stage idle, first_so (keeps stage s r) _ k, refl, refl, free)))
      | inr d ↦ (let l = lane_for r.physical (grind arith) in
          asks schemas name x s stage l.0 r.path (Request.Delete r.physical) (grind arith) (l.1, l.2) (none_waits stage idle)
          ((calls r.path (Request.Delete r.physical)).1 (r, w, grind arith, refl, refl)))
    ] where
      w : MayDelete stage s r
      w = (deletes r).1 (i, first_so (may r) _ e)

    -- where none goes and nothing is given up it is at its end
    module _ (none : (r : Held) → In r rs → goes r ≡ false) where
      stays : (r : Held) → MayDelete stage s r
          → ((keeps stage s r && is_open r) || (not (keeps stage s r) && (is_free r.path s && home r.physical))) ≡ true → ⊥
      stays r w e = let m = (deletes r).0 w in true≢false (sym (and_from (may r) _ m.1 e) ∙ none r m.0)

      no_call : (token : ℕ) (lane path : List ℕ) (r : Request) → MayIntend schemas name x [] s stage token lane path r → ⊥
      no_call token lane path r w = by r w.fits ((calls path r).0 w.chosen) where
        by : (k : Request) → FitsLane x lane k → IntendsDeletion stage s path k → ⊥
        by (Request.Delete id) fits (r, d, kept, at, of_id) =
            let h = home_for id lane fits.0 fits.1 in let free = w.free in
            stays r d (or_right (keeps stage s r && is_open r) _ (grind (arith, and_from)))
        by k fits d = absurd d

      no_keep : (cleaned_in stage s ≡ []) → ((path id : List ℕ) → GivesUp stage s path id → ⊥) → (path id : List ℕ) (w : Why) → MayKeep stage [] s path id w → ⊥
      no_keep empty given path id Why.Retained (inl (r, d, idle, kept, at, of_id, free)) = grind (arith, or_left, and_from, or_right)
      no_keep empty given path id Why.Retained (inr k) = given path id k
      no_keep empty given path id Why.Failed k = elim (subst (In k.0.0) empty k.0.1) [ ]
      no_keep empty given path id Why.Doubt k = elim (subst (In k.0.0) empty k.0.1) [ ]

    deletes_or_ends : cleaned_in stage s ≡ [] → may_turn s.status ≡ false
        → ((p : Pending) → MayRepeat schemas name x [] s stage p → In p s.tokens × (may_repeat stage [] s p ≡ true))
        → ((p : Pending) → In p s.tokens → may_repeat stage [] s p ≡ false) → ((path id : List ℕ) → GivesUp stage s path id → ⊥)
        → StepsIn schemas name x s stage ⊎ IsAtEnd schemas name x s stage
    deletes_or_ends empty stays_in repeats idle given = tries goes rs (goes_on idle) (λ none.
        inr (at_end_by schemas name x s stage (no_call none) (no_keep none empty given) (λ p c w. true≢false (sym (turns_from p c w) ∙ stays_in))
        (λ p w. let r = repeats p w in true≢false (sym r.1 ∙ idle p r.0))))

  -- the rollback of a creation
  module _ (rolling : s.status ≡ Status.RollbackInProgress) where
    made_deletes : (r : Held) → MayDelete Back s r ↔ (In r s.made × ((is_not_needed s r && is_untried s r) ≡ true))
    made_deletes r = (λ w. (w.1, and_from (is_not_needed s r) _ w.2 w.3), λ w. (rolling, w.0, first_so (is_not_needed s r) _ w.1, second_so (is_not_needed s r) _ w.1))

    no_restore : (path : List ℕ) (r : Request) → IntendsRestore s path r → ⊥
    no_restore path r d = grind arith

    steps_rolling : StepsIn schemas name x s Back ⊎ IsAtEnd schemas name x s Back
    steps_rolling = tries (may_repeat Back [] s) s.tokens (λ p i e. inr (p, (i, e))) (λ idle.
        deletes_or_ends Back s.made (λ r. is_not_needed s r && is_untried s r) made_deletes
        (λ path r. (λ w. elim w [ inl d ↦ d | inr d ↦ absurd (no_restore path r d) ], λ d. inl d)) refl (ap may_turn rolling) (λ p w. w) idle
        (λ path id k. let e = k.0 in cc))

  -- a deletion
  module _ (gone : s.status ≡ Status.DeleteInProgress) where
    abbrev may_go : Held → Bool
    may_go r = is_not_needed s r && (not (is_needed_by_held s r) && is_untried s r)

    gone_deletes : (r : Held) → MayDelete Gone s r ↔ (In r (resources_of s) × (may_go r ≡ true))
    gone_deletes r = grind (arith, and_from, not_so)

    -- an open create that is given up
    abbrev is_given_up : Pending → Bool
    is_given_up p = is_among p.path (named_paths s) && is_create p.request

    given_up : (p : Pending) → In p s.tokens → is_given_up p ≡ true → StepsIn schemas name x s Gone
    given_up p i e =
        let open_ = any_of (is_create_at p.path) s.tokens p i (and_from (is_create p.request) _ (second_so (is_among p.path (named_paths s)) _ e) (same_bytes p.path)) in
        inl (Entry.Kept s.operation p.path [] Why.Retained, inr (refl, refl, first_so (is_among p.path (named_paths s)) _ e, open_))

    steps_gone : StepsIn schemas name x s Gone ⊎ IsAtEnd schemas name x s Gone
    steps_gone = tries (may_repeat Gone [] s) s.tokens (λ p i e. inr (p, (i, e))) (λ idle. tries is_given_up s.tokens given_up (λ none.
        deletes_or_ends Gone (resources_of s) may_go gone_deletes (λ path r. (λ d. d, λ d. d)) refl (ap may_turn gone) (λ p w. w) idle
        (λ path id k.
        let p = some_of (is_create_at path) s.tokens k.3 in
        let same = bytes_same path p.one.path (second_so (is_create p.one.request) _ p.passes) in
        true≢false (sym (and_from (is_among p.one.path (named_paths s)) _ (ap (λ q. is_among q (named_paths s)) (sym same) ∙ k.2)
        (first_so (is_create p.one.request) _ p.passes)) ∙ none p.one p.of_list))))

  -- the rollback of an update
  module _ (back : s.status ≡ Status.UpdateRollbackInProgress) where
    abbrev is_left : Held → Bool
    is_left b = was_updated b.physical s && (not (was_restored b.physical s) && not (was_skipped b.path s))

    abbrev is_restorable : Held → Bool
    is_restorable b = is_left b && (not (has_restore b.physical s) && (is_free b.path s && home b.physical))

    abbrev can_turn : Bool
    can_turn = is_empty s.tokens && (not (list_any is_left s.before) && not (has_refused_restore s))

    left_is : (b : Held) → IsToRestore s b ↔ (In b s.before × (is_left b ≡ true))
    left_is b = grind (arith, and_from, not_so)

    restore_goes : waits_for_repeats Back [] s ≡ false → (b : Held) → In b s.before → is_restorable b ≡ true → StepsIn schemas name x s Back
    restore_goes idle b i e =
        let l = lane_for b.physical (grind arith) in
        asks schemas name x s Back l.0 b.path (Request.Update b.physical b.props) (grind arith) (l.1, l.2)
        idle (inr (back, b, (left_is b).1 (i, grind arith), refl, refl, refl, grind arith))

    no_left : list_any is_left s.before ≡ false ↔ ((b : Held) → IsToRestore s b → ⊥)
    no_left = grind (arith, true≢false, any_of, none_any)

    turn_goes : can_turn ≡ true → StepsIn schemas name x s Back
    turn_goes e =
        let free : s.tokens ≡ [] = grind (arith, empty_list, and_from) in
        let none : (b : Held) → IsToRestore s b → ⊥ = grind (arith, no_left, not_so) in
        inl (Entry.Phase s.operation Phase.BackClean None, (back, free, none, grind (arith, not_so)))

    -- where it can do nothing of this it is at its end
    module _ (none : (b : Held) → In b s.before → is_restorable b ≡ false) (stays : can_turn ≡ false) where
      no_restored : (token : ℕ) (lane path : List ℕ) (r : Request) → MayIntend schemas name x [] s Back token lane path r → ⊥
      no_restored token lane path r w = by r w.fits w.chosen where
        by : (k : Request) → FitsLane x lane k → IntendsDeletion Back s path k ⊎ IntendsRestore s path k → ⊥
        by (Request.Create k props) fits e = elim e [ inl d ↦ d | inr d ↦ d ]
        by (Request.Delete id) fits e = elim e [ inl d ↦ (let k = sym back ∙ d.1.0 in cc) | inr d ↦ d ]
        by (Request.Update id props) fits (inl e) = e
        by (Request.Update id props) fits (inr (k, b, left, at, of_id, of_props, first)) =
            let m = (left_is b).0 left in
            true≢false (sym (and_from (is_left b) _ m.1 (and_from (not (has_restore b.physical s)) _ (ap (λ n. not (has_restore n s)) (sym of_id) ∙ ap not first)
            (and_from (is_free b.path s) _ (ap (λ p. is_free p s) (sym at) ∙ w.free) (ap home (sym of_id) ∙ home_for id lane fits.0 fits.1)))) ∙ none b m.0)

      no_kept : (path id : List ℕ) (w : Why) → MayKeep Back [] s path id w → ⊥
      no_kept path id w k = grind arith

      no_turn : (p : Phase) (c : Option Cause) → MayTurn schemas name x s p c → ⊥
      no_turn p c w = grind (arith, no_left)

    steps_back : StepsIn schemas name x s Back ⊎ IsAtEnd schemas name x s Back
    steps_back = tries (may_repeat Back [] s) s.tokens (λ p i e. inr (p, (i, e))) (λ idle. tries is_restorable s.before (restore_goes (none_waits Back idle)) (λ none.
        elim (cases_Bool can_turn) [
          | inl e ↦ inl (turn_goes e)
          | inr e ↦ inr (at_end_by schemas name x s Back (no_restored none e) (no_kept none e) (no_turn none e) (λ p w. true≢false (sym w.1 ∙ idle p w.0)))
        ]))

  -- an operation whose stage can be at its end only where it may end goes on
  module _ (going : stack_of_operation s.operation x ≡ Some (name, s)) where
    goes_or_ends : (stage : Stage) → stage_of s.status ≡ Some stage
        → (IsAtEnd schemas name x s stage → (state : Status) × (failed : List (List ℕ)) × EndsAs schemas name x s s.status state × AreFailed s state failed)
        → StepsIn schemas name x s stage ⊎ IsAtEnd schemas name x s stage → HasNext schemas x s.operation
    goes_or_ends stage at ends (inl n) = steps schemas name x s stage going at n
    goes_or_ends stage at ends (inr end) =
        let e = ends end in follows schemas name x s stage going at (Entry.Done s.operation e.0 e.1) (none_flying s, end, e.2, e.3)

pub rollback_goes_on : RollbackGoesOn
rollback_goes_on schemas name x s going (inl e) = goes_or_ends schemas name x s going Back (ap stage_of e) (λ end. elim (cases_Bool (is_cleared s)) [
  | inl c ↦ (Status.RollbackComplete, [], subst (λ k. EndsAs schemas name x s k Status.RollbackComplete) (sym e) c, refl)
  | inr c ↦ (Status.RollbackFailed, failed_list s, subst (λ k. EndsAs schemas name x s k Status.RollbackFailed) (sym e) c, are_failed s)
]) (steps_rolling schemas name x s e)
rollback_goes_on schemas name x s going (inr e) = goes_or_ends schemas name x s going Back (ap stage_of e)
    (λ end. (Status.UpdateRollbackFailed, failed_list s, subst (λ k. EndsAs schemas name x s k Status.UpdateRollbackFailed) (sym e) tt, are_failed s))
    (steps_back schemas name x s e)

pub deletion_goes_on : DeletionGoesOn
deletion_goes_on schemas name x s going e = goes_or_ends schemas name x s going Gone (ap stage_of e) (λ end. elim (cases_Bool (is_cleared s)) [
  | inl c ↦ (Status.DeleteComplete, [], subst (λ k. EndsAs schemas name x s k Status.DeleteComplete) (sym e) c, refl)
  | inr c ↦ (Status.DeleteFailed, failed_list s, subst (λ k. EndsAs schemas name x s k Status.DeleteFailed) (sym e) c, are_failed s)
]) (steps_gone schemas name x s e)

-- Every operation on its course goes on until its end.

module _ (schemas : List Schema) (name : List ℕ) (x : World) (s : StackState) (going : stack_of_operation s.operation x ≡ Some (name, s)) (fits : Fits x s) where
  by_status : (st : Status) → s.status ≡ st → is_in_progress st ≡ true → IsOnCourse schemas name x s st → (goes_forward st ≡ true → HasKinds x s × IsTold s)
      → HasNext schemas x s.operation
  by_status Status.CreateInProgress e g c told = let w = told refl in forward_goes_on schemas name x s c.0 going (ap stage_of e) fits c.1 w.0 w.1
  by_status Status.UpdateInProgress e g c told = let w = told refl in forward_goes_on schemas name x s c.0 going (ap stage_of e) fits c.1 w.0 w.1
  by_status Status.UpdateCompleteCleanupInProgress e g c told = cleanup_goes_on schemas name x s Clean Status.UpdateCompleteCleanupInProgress going of_update e fits
      (of_cleaning name x s c)
  by_status Status.UpdateRollbackCompleteCleanupInProgress e g c told =
      cleanup_goes_on schemas name x s BackClean Status.UpdateRollbackCompleteCleanupInProgress going of_rollback e fits (of_cleaning_back s c)
  by_status Status.RollbackInProgress e g c told = rollback_goes_on schemas name x s going (inl e)
  by_status Status.UpdateRollbackInProgress e g c told = rollback_goes_on schemas name x s going (inr e)
  by_status Status.DeleteInProgress e g c told = deletion_goes_on schemas name x s going e
  by_status st e g c told = absurd (true≢false (sym g))

pub operation_goes_on : OperationGoesOn
operation_goes_on schemas name x s going g fits c told = by_status schemas name x s going fits s.status refl g c told
