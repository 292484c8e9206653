-- An operation creates a path or gives it back, and not both.
use Rattle.std.proofs.Common.{◌≡◌, ◌⊎◌, inl, inr, ℕ, ◌+◌, ◌<◌, ◌==◌, ◌&&◌, ◌||◌, Bool, true, false, List, [], ◌∷◌, ◌++◌, Option, Some, None, refl, sym, ap, subst, ◌∙◌, true≢false, map, cond, arith}
use Rattle.cf_core.proofs.Words.{Back, Call, Cause, Entry, Fits, Forward, Held, In, IntendsIn, IsAdvancing, IsDone, IsOwn, IsTo, IsWritten, MayFollowIn, MayIntend, Pending, Phase, Reply, Request, Schema, Source, Stage, StackState, Status, World, anew, answered_call, begins, bytes_eq, effect_at, first_so, goes_back, goes_forward, has_token, is_call, is_create, is_restore, is_success, is_update, new_call, opened, own_calls, pending_of, replied, resources_of, second_so, stage_of, step, succeeded, updates}
use Rattle.cf_core.proofs.Lemmas.{and_from, answered_left, bytes_eq-Decides, eqb-true, found_one, in_changed, in_filter, in_front, in_kept, one_id, some_of}
use Rattle.cf_core.proofs.{BackSteps.is_of, BlameStays.row_is, Cleanups.turned_by, Come.advancing, Moving.written_is_to, Statuses.intended_way, Statuses.kept_way}
use Rattle.cf_core.proofs.Counted.{IsKind, counts, none_own_begun, numbers_low}
use Rattle.cf_core.proofs.Few.{at_most, back_stage, covered, first_back, none_pass_none, none_such}
use Rattle.cf_core.proofs.FewAhead.{creates_ahead, first_create, forward_stage, is_create_kind, no_create, not_open, stage_forward}
use Rattle.cf_core.proofs.Rows.{IsSameCall, anew_same, answered_row, answered_row_same}
use Rattle.cf_core.specs.FewCalls.{LeavesSo}
use Rattle.cf_core.specs.OnCourse.{IsOnWay}
use Rattle.cf_core.specs.Tokens.{HasComeTo, IsRefused, MakesOrGivesBack, creates_at, is_open, is_refused, makes_at, number_of, path_done, restores_at, updates_ahead}
use Rattle.cf_core.specs.Written.{other, reviewed}
use Rattle.cf_plan.proofs.Listed.{in_last}
use Rattle.cf_plan.proofs.WholeFound.{current_is}

abbrev AllRefused : StackState → Type 0
AllRefused s = (b : Held) (c d : Call) → In b s.before → In c (own_calls s) → creates_at b.path c ≡ true → In d s.ledger → updates_ahead b.physical d ≡ true → IsRefused d

is_ahead_kind : (id : List ℕ) → IsKind (updates_ahead id)
is_ahead_kind id c d same = ap (λ a. goes_forward a && updates id d.request) same.status ∙ ap (λ r. goes_forward c.status && updates id r) same.request

is_make_kind : (path : List ℕ) → IsKind (makes_at path)
is_make_kind path c d same =
    ap (λ p. bytes_eq path p && (is_create d.request || (goes_back d.status && is_update d.request))) same.path
    ∙ ap (λ a. bytes_eq path c.path && (is_create d.request || (goes_back a && is_update d.request))) same.status
    ∙ ap (λ r. bytes_eq path c.path && (is_create r || (goes_back c.status && is_update r))) same.request

-- Rows that change keep it where those that were refused stay so.
module _ (s : StackState) (h : AllRefused s) where
  mapped : (t : StackState) (f : Call → Call) → ((c : Call) → IsSameCall c (f c)) → t.before ≡ s.before → t.operation ≡ s.operation → t.ledger ≡ map f s.ledger
      → ((d : Call) → In d s.ledger → IsRefused d → (f d).answer ≡ d.answer) → AllRefused t
  mapped t f same before operation ledger stay b c d i j creates k updates_it =
      let g = in_filter (λ (z : Call). z.number == t.operation) t.ledger c j in
      let m = in_changed f s.ledger c (subst (In c) ledger g.0) in
      let n = in_changed f s.ledger d (subst (In d) ledger k) in
      let number : c.number ≡ m.one.number = ap (λ (z : Call). z.number) (sym m.same) ∙ (same m.one).number in
      let own : In m.one (own_calls s) =
      in_kept (λ (z : Call). z.number == s.operation) s.ledger m.one m.of_list (ap (λ a. a == s.operation) (sym number) ∙ ap (λ a. c.number == a) (sym operation) ∙ g.1) in
      let r = h b m.one n.one (subst (In b) before i) own (sym (is_create_kind b.path m.one (f m.one) (same m.one)) ∙ ap (creates_at b.path) m.same ∙ creates) n.of_list
      (sym (is_ahead_kind b.physical n.one (f n.one) (same n.one)) ∙ ap (updates_ahead b.physical) n.same ∙ updates_it) in
      (r.0, ap (λ (z : Call). z.answer) (sym n.same) ∙ stay n.one n.of_list r ∙ r.1)

  -- a call is answered: that of an open one, which was not refused
  module _ (x : World) (fits : Fits x s) (token : ℕ) (a : Reply) where
    answered_so : (o : Option Pending) → pending_of token s ≡ o → AllRefused (replied token a o s)
    answered_so None e = h
    answered_so (Some p) e =
        let left = (answered_left (is_restore token s) p.path p.request a s).as_was in
        mapped (replied token a (Some p) s) (answered_row token a) (answered_row_same token a) (ap (λ (z : StackState). z.before) left) (ap (λ (z : StackState). z.operation) left)
        (ap (λ (z : StackState). map (answered_row token a) z.ledger) left) stay where
          one : In p s.tokens × (has_token token p ≡ true)
          one = found_one (has_token token) s.tokens p e

          stay : (d : Call) → In d s.ledger → IsRefused d → (answered_row token a d).answer ≡ d.answer
          stay d i (k, refused) = by (is_call token d) refl where
            by : (b : Bool) → is_call token d ≡ b → (cond b (answered_call a d) d).answer ≡ d.answer
            by false q = refl
            by true q =
                let row = row_is x s fits p d one.0 i (sym (eqb-true token p.token one.1) ∙ eqb-true token d.token q) in
                let no = sym row.unanswered ∙ refused in let never : ⊥ = cc in absurd never

module _ (schemas : List Schema) (x : World) (out name : List ℕ) (s : StackState) (fits : Fits x s) (way : IsOnWay schemas name x s) where
  h : AllRefused s
  h = way.supported.few.makes.refused

  module _ (number token : ℕ) (lane path : List ℕ) (r : Request) (own : number ≡ s.operation) (stage : Stage) (in_stage : stage_of s.status ≡ Some stage)
      (may : MayIntend schemas name x out s stage token lane path r) where
    abbrev p : Pending
    p = record { token = token; path = path; lane = lane; request = r }

    abbrev called : Call
    called = new_call number s.status p

    -- where it goes forward
    module _ (forward : goes_forward s.status ≡ true) (goes : stage ≡ Forward) where
      ahead : (source : Source) × IsAdvancing schemas s source
      ahead = advancing schemas name x s forward way.course.stage

      chosen : IntendsIn Forward schemas name x s path r
      chosen = subst (λ (g : Stage). IntendsIn g schemas name x s path r) goes may.chosen

      come : (c : Call) → In c s.ledger → HasComeTo s c
      come = way.supported.few.forward.come_to forward

      -- an update of the path that is created has come to a refusal
      refused_before : (b : Held) → In b s.before → b.path ≡ path → (d : Call) → In d s.ledger → updates_ahead b.physical d ≡ true → IsRefused d
      refused_before b i at d k updates_it = by (come d k) where
        path_is : path ≡ d.path
        path_is = sym at ∙ sym (ahead.1.at_path d b k i (second_so (goes_forward d.status) _ updates_it))

        by : HasComeTo s d → IsRefused d
        by (is_open o) = absurd (not_open schemas x name s fits (way.supported.told forward) come path may.free chosen.2 d k path_is o)
        by (path_done e) = absurd (chosen.2 (subst (IsDone s) (sym path_is) e))
        by (is_refused code e told) = (code, e)

      -- no path that was created is updated
      updates_none : (b : Held) → In b s.before → (c : Call) → In c (own_calls s) → creates_at b.path c ≡ true → updates b.physical r ≡ true → ⊥
      updates_none b i c j creates u = by r u chosen where
        by : (q : Request) → updates b.physical q ≡ true → IntendsIn Forward schemas name x s path q → ⊥
        by (Request.Update id props) is (good, ready, undone, (g, at, of, said, wants, none)) =
            let now = current_is path s.held g at in
            let k = is_of ahead.1.held i in
            let same : k.0 ≡ g = one_id (λ (z : Held). z.physical) (resources_of s) fits.ids k.0 g (in_front k.0 s.held s.made k.1) (in_front g s.held s.made now.0)
            (k.2.physical ∙ (bytes_eq-Decides b.physical id).0 is ∙ of) in
            let path_is : b.path ≡ path = sym k.2.path ∙ ap (λ (z : Held). z.path) same ∙ sym now.1 in
            no_create schemas x name s fits (way.supported.told forward) come path may.free undone good c j (subst (λ z. creates_at z c ≡ true) path_is creates)
        by (Request.Create kind props) is m = true≢false (sym is)
        by (Request.Delete id) is m = true≢false (sym is)

    creates_so : (b : Held) → creates_at b.path called ≡ true → (stage ≡ Forward) × (b.path ≡ path)
    creates_so b e =
        (creates_ahead schemas name x s stage path r (second_so (bytes_eq b.path path) _ e) may.chosen, (bytes_eq-Decides b.path path).0 (first_so (bytes_eq b.path path) _ e))

    -- no call is both
    not_both : (id : List ℕ) (q : Request) → is_create q ≡ true → updates id q ≡ true → ⊥
    not_both id (Request.Create kind props) c u = true≢false (sym u)
    not_both id (Request.Update i props) c u = true≢false (sym c)
    not_both id (Request.Delete i) c u = true≢false (sym c)

    with_it : AllRefused (record s { tokens = s.tokens ++ p ∷ []; ledger = s.ledger ++ called ∷ [] })
    with_it b c d i j creates k updates_it =
        let g = in_filter (λ (z : Call). z.number == s.operation) (s.ledger ++ called ∷ []) c j in
        by (in_last s.ledger called c g.0) (in_last s.ledger called d k) g.1 where
          -- the new call, wherever it is one of the two
          new_creates : c ≡ called → (stage ≡ Forward) × (b.path ≡ path)
          new_creates e = creates_so b (subst (λ z. creates_at b.path z ≡ true) e creates)

          new_updates : d ≡ called → (goes_forward s.status && updates b.physical r) ≡ true
          new_updates e = subst (λ z. updates_ahead b.physical z ≡ true) e updates_it

          by : In c s.ledger ⊎ (c ≡ called) → In d s.ledger ⊎ (d ≡ called) → (c.number == s.operation) ≡ true → IsRefused d
          by (inl m) (inl n) mine = h b c d i (in_kept (λ (z : Call). z.number == s.operation) s.ledger c m mine) creates n updates_it
          by (inr e) (inl n) mine =
              let at = new_creates e in
              refused_before (stage_forward s.status (in_stage ∙ ap (λ (g : Stage). Some g) at.0)) at.0 b i at.1 d n updates_it
          by (inl m) (inr f) mine =
              let u = new_updates f in
              let forward : goes_forward s.status ≡ true = first_so (goes_forward s.status) _ u in
              absurd (updates_none forward (forward_stage s.status stage forward in_stage) b i c (in_kept (λ (z : Call). z.number == s.operation) s.ledger c m mine) creates
              (second_so (goes_forward s.status) _ u))
          by (inr e) (inr f) mine =
              absurd (not_both b.physical r (second_so (bytes_eq b.path path) _ (subst (λ z. creates_at b.path z ≡ true) e creates)) (second_so (goes_forward s.status) _ (new_updates f)))

    intended_refused : AllRefused (effect_at (x.place + 1) (Entry.Intent number token lane path r) s).stack
    intended_refused = intended_way AllRefused s h number p with_it

  ended : (number : ℕ) (failed : List (List ℕ)) (state : Status) → AllRefused (effect_at (x.place + 1) (Entry.Done number state failed) s).stack
  ended number failed Status.CreateComplete = h
  ended number failed Status.RollbackFailed = h
  ended number failed Status.UpdateRollbackComplete = h
  ended number failed Status.RollbackComplete = h
  ended number failed Status.DeleteComplete = h
  ended number failed state = h

  turned : (number : ℕ) (f : Phase) (w : Option Cause) → AllRefused (effect_at (x.place + 1) (Entry.Phase number f w) s).stack
  turned number f w =
      let l = turned_by (x.place + 1) number f w s in
      mapped s h (effect_at (x.place + 1) (Entry.Phase number f w) s).stack anew anew_same (same_before f) l.0 l.1 (λ d i k. refl) where
        same_before : (g : Phase) → (effect_at (x.place + 1) (Entry.Phase number g w) s).stack.before ≡ s.before
        same_before g = grind arith

  stepped : (e : Entry) (stage : Stage) → stage_of s.status ≡ Some stage → IsOwn s.operation e → MayFollowIn schemas name x out s stage e → AllRefused (effect_at (x.place + 1) e s).stack
  stepped (Entry.Kept number path physical w) stage at own may = kept_way AllRefused s h path physical w h h
  stepped (Entry.Intent number token lane path r) stage at own may = intended_refused number token lane path r own stage at may
  stepped (Entry.Outcome number token a before after) stage at own may = answered_so s h x fits token a (pending_of token s) refl
  stepped (Entry.Phase number f w) stage at own may = turned number f w
  stepped (Entry.Done number state failed) stage at own may = ended number failed state
  stepped e stage at own may = absurd own

module _ (schemas : List Schema) (x : World) (out : List ℕ) (e : Entry) (name : List ℕ) (s t : StackState) (w : IsWritten schemas x out e name s t)
    (way : IsOnWay schemas name x s) where
  refused_to : {d : Entry} {u : StackState} → IsTo schemas x out name s d u → AllRefused u
  refused_to (step {e = d} stage at own may) = stepped schemas x out name s w.fits way d stage at own may
  refused_to (begins k from by) = λ b c d i j creates l u. absurd (none_own_begun name (x.operation + 1) (x.place + 1) k s (numbers_low x name s w.fits w.apart w.was) c j)
  refused_to (reviewed number source rows outputs from) = way.supported.few.makes.refused
  refused_to (opened epoch lanes) =
      mapped s way.supported.few.makes.refused (effect_at (x.place + 1) (Entry.Opened epoch lanes) s).stack anew anew_same refl refl refl (λ d i k. refl)
  refused_to other = way.supported.few.makes.refused

  -- nothing is given back while it goes forward
  one_way : (st : Status) → goes_forward st ≡ true → goes_back st ≡ true → ⊥
  one_way st f b = grind arith

  none_restored : goes_forward s.status ≡ true → (path : List ℕ) → number_of (restores_at path) s ≡ 0
  none_restored forward path = none_such (restores_at path) (own_calls s) (λ c i g.
      let a = advancing schemas name x s forward way.course.stage in
      let calls = a.1.calls c (in_filter (λ (z : Call). z.number == s.operation) s.ledger c i).0 in
      one_way c.status calls.1 (first_so (goes_back c.status) _ (second_so (bytes_eq path c.path) _ g)))

  -- what is given back was updated, and so its path was not created
  none_created : (path : List ℕ) (r : Request) → is_update r ≡ true → IntendsIn Back schemas name x s path r → number_of (creates_at path) s ≡ 0
  none_created path (Request.Update id props) u (inl may) = absurd may
  none_created path (Request.Update id props) u (inr (back, b, to_restore, at, is, with_props, none)) =
      subst (λ p. number_of (creates_at p) s ≡ 0) (sym at) (none_such (creates_at b.path) (own_calls s) (λ c i g.
      let f = some_of (λ (d : Call). goes_forward d.status && (updates b.physical d.request && succeeded d)) s.ledger to_restore.1 in
      let rest = second_so (goes_forward f.one.status) _ f.passes in
      let refused = way.supported.few.makes.refused b c f.one to_restore.0 i g f.of_list
      (and_from (goes_forward f.one.status) _ (first_so (goes_forward f.one.status) _ f.passes) (first_so (updates b.physical f.one.request) _ rest)) in
      true≢false (sym (second_so (updates b.physical f.one.request) _ rest) ∙ ap is_success refused.1)))
  none_created path (Request.Create kind props) u may = absurd (true≢false (sym u))
  none_created path (Request.Delete id) u may = absurd (true≢false (sym u))

  both : (path : List ℕ) → number_of (creates_at path) s ≡ 0 → number_of (restores_at path) s ≡ 0 → number_of (makes_at path) s < 1
  both path creates restores =
      let all = covered (makes_at path) (creates_at path) (restores_at path) (λ c. false) (λ c. false)
      (λ c. cover (bytes_eq path c.path) (is_create c.request) (goes_back c.status && is_update c.request)) (own_calls s) in
      let never = none_pass_none (own_calls s) in
      omega (arith, all, creates, restores, never)
    where
      cover : (e k g : Bool) → (e && (k || g)) ≡ true → ((e && k) || ((e && g) || (false || false))) ≡ true
      cover false k g q = absurd (true≢false (sym q))
      cover true true g q = refl
      cover true false true q = refl
      cover true false false q = absurd (true≢false (sym q))

  first_make : (path : List ℕ) (stage : Stage) (token : ℕ) (lane at : List ℕ) (r : Request) → stage_of s.status ≡ Some stage
      → MayIntend schemas name x out s stage token lane at r
      → makes_at path (new_call s.operation s.status (record { token = token; path = at; lane = lane; request = r })) ≡ true → number_of (makes_at path) s < 1
  first_make path stage token lane at r in_stage may is = by (is_create r) refl where
    rest : (is_create r || (goes_back s.status && is_update r)) ≡ true
    rest = second_so (bytes_eq path at) _ is

    same : path ≡ at
    same = (bytes_eq-Decides path at).0 (first_so (bytes_eq path at) _ is)

    made : is_create r ≡ true → number_of (makes_at path) s < 1
    made c =
        let goes : stage ≡ Forward = creates_ahead schemas name x s stage at r c may.chosen in
        let few = first_create schemas x out name s w.fits way way.supported.few.forward path stage token lane at r in_stage may (and_from (bytes_eq path at) _ (first_so (bytes_eq path at) _ is) c) in
        both path (omega (arith, few)) (none_restored (stage_forward s.status (in_stage ∙ ap (λ (g : Stage). Some g) goes)) path)

    given : (goes_back s.status && is_update r) ≡ true → number_of (makes_at path) s < 1
    given g =
        let goes : stage ≡ Back = back_stage s.status stage (first_so (goes_back s.status) _ g) in_stage in
        let few = first_back schemas x out name s way path stage token lane at r in_stage may (and_from (bytes_eq path at) _ (first_so (bytes_eq path at) _ is) g) in
        both path
        (subst (λ p. number_of (creates_at p) s ≡ 0) (sym same) (none_created at r (second_so (goes_back s.status) _ g) (subst (λ (z : Stage). IntendsIn z schemas name x s at r) goes may.chosen)))
        (omega (arith, few))

    by : (b : Bool) → is_create r ≡ b → number_of (makes_at path) s < 1
    by true c = made c
    by false c = given (subst (λ b. (b || (goes_back s.status && is_update r)) ≡ true) c rest)

pub making_stays_one : LeavesSo MakesOrGivesBack
making_stays_one schemas x out e name s t w way = record {
  refused = refused_to schemas x out e name s t w way (written_is_to schemas x out e name s t w);
  once = λ path.
      at_most schemas x out name s t (makes_at path) 1 (counts (makes_at path) (is_make_kind path) schemas x out e name s t w) (way.supported.few.makes.once path)
      (first_make schemas x out e name s t w way path);
}
