-- An operation creates a path, and updates it as it goes forward, under one token at most.
use Rattle.std.proofs.Common.{◌≡◌, ℕ, ◌<◌, ◌==◌, ◌&&◌, not, true, false, List, Some, None, refl, sym, ap, subst, ◌∙◌, true≢false, arith}
use Rattle.cf_core.proofs.Words.{Call, Code, Entry, Fits, Forward, HasFailed, In, IntendsIn, IsDone, IsOpen, IsRefusedIn, IsTold, MayIntend, Pending, Reply, Request, Schema, Stage, StackState, Status, World, bytes_eq, call_under, first_so, goes_forward, is_call, is_create, is_excused, is_free, is_refused_call, is_update, new_call, own_calls, refusing, second_so, stage_of, was_answered_at}
use Rattle.cf_core.proofs.Lemmas.{and_from, any_of, bytes_eq-Decides, eq-eqb, eqb-true, excused, found_one, in_filter, is_found_in, none_failing, not_so, one_number}
use Rattle.cf_core.proofs.{BlameStays.row_is}
use Rattle.cf_core.proofs.Come.{come_stays}
use Rattle.cf_core.proofs.Counted.{IsKind, counts}
use Rattle.cf_core.proofs.Few.{at_most, none_such}
use Rattle.cf_core.specs.OnCourse.{IsOnWay}
use Rattle.cf_core.specs.FewCalls.{LeavesSo}
use Rattle.cf_core.specs.Tokens.{HasComeTo, HasFewForward, creates_at, is_open, is_refused, number_of, path_done, updates_at}
use Rattle.std.specs.Prelude.{is_some}

pub is_create_kind : (path : List ℕ) → IsKind (creates_at path)
is_create_kind path c d same =
    ap (λ p. bytes_eq path p && is_create d.request) same.path ∙ ap (λ r. bytes_eq path c.path && is_create r) same.request

pub is_update_kind : (path : List ℕ) → IsKind (updates_at path)
is_update_kind path c d same =
    ap (λ p. bytes_eq path p && (goes_forward d.status && is_update d.request)) same.path
    ∙ ap (λ a. bytes_eq path c.path && (goes_forward a && is_update d.request)) same.status
    ∙ ap (λ r. bytes_eq path c.path && (goes_forward c.status && is_update r)) same.request

-- a call creates, or goes forward, in the stage of that alone
pub creates_ahead : (schemas : List Schema) (name : List ℕ) (x : World) (s : StackState) (stage : Stage) (path : List ℕ) (r : Request) → is_create r ≡ true
    → IntendsIn stage schemas name x s path r → stage ≡ Forward
creates_ahead schemas name x s stage path r c may = grind arith

pub forward_stage : (st : Status) (stage : Stage) → goes_forward st ≡ true → stage_of st ≡ Some stage → stage ≡ Forward
forward_stage st stage g e = grind arith

pub stage_forward : (st : Status) → stage_of st ≡ Some Forward → goes_forward st ≡ true
stage_forward st e = grind arith

-- a refused create is no excuse
creates_fail : (schemas : List Schema) (s : StackState) (c : Call) (k : Code) → is_create c.request ≡ true → is_refused_call schemas s (Some c) k ≡ true
creates_fail schemas s c k e = by c.request e where
  by : (r : Request) → is_create r ≡ true → not (is_excused schemas s r k) ≡ true
  by (Request.Create kind props) e = refl
  by (Request.Update id props) e = absurd (true≢false (sym e))
  by (Request.Delete id) e = absurd (true≢false (sym e))

-- A path that is not done and free has no create yet while the phase has not failed, and no update that was not answered.
module _ (schemas : List Schema) (x : World) (name : List ℕ) (s : StackState) (fits : Fits x s) (told : IsTold s) (come : (c : Call) → In c s.ledger → HasComeTo s c)
    (path : List ℕ) (free : is_free path s ≡ true) (undone : IsDone s path → ⊥) where
  pub not_open : (c : Call) → In c s.ledger → path ≡ c.path → IsOpen c.token s.tokens → ⊥
  not_open c i at (q, j, e) =
      let row = row_is x s fits q c j i e in
      let same : path ≡ q.path = at ∙ row.path in
      true≢false (sym (any_of (λ (p : Pending). bytes_eq path p.path) s.tokens q j ((bytes_eq-Decides path q.path).1 same)) ∙ not_so _ free)

  module _ (good : HasFailed schemas name x s → ⊥) where
    row_at : (c : Call) → In c s.ledger → call_under c.token s ≡ Some c
    row_at c i =
        let f = is_found_in (is_call c.token) s.ledger c i (eq-eqb c.token c.token refl) in
        let one = found_one (is_call c.token) s.ledger f.0 f.1 in
        f.1 ∙ ap (λ d. Some d) (one_number (λ (d : Call). d.token) s.ledger fits.row_tokens f.0 c one.0 i (sym (eqb-true c.token f.0.token one.1)))

    not_refused : (c : Call) → In c s.ledger → is_create c.request ≡ true → (k : Code) → IsRefusedIn s c k → ⊥
    not_refused c i creates k (n, before, after, j) = never fails (excused schemas s (none_failing schemas name x s good) told.no_phase (Entry.Outcome n c.token (Reply.Failed k) before after) j) where
      fails : is_refused_call schemas s (call_under c.token s) k ≡ true
      fails = ap (λ o. is_refused_call schemas s o k) (row_at c i) ∙ creates_fail schemas s c k creates

      never : is_refused_call schemas s (call_under c.token s) k ≡ true → refusing schemas s (Entry.Outcome n c.token (Reply.Failed k) before after) ≡ None → ⊥
      never f e = grind arith

    pub no_create : (c : Call) → In c (own_calls s) → creates_at path c ≡ true → ⊥
    no_create c i e = by (come c of_ledger) where
      of_ledger : In c s.ledger
      of_ledger = (in_filter (λ (d : Call). d.number == s.operation) s.ledger c i).0

      at : path ≡ c.path
      at = (bytes_eq-Decides path c.path).0 (first_so (bytes_eq path c.path) _ e)

      by : HasComeTo s c → ⊥
      by (is_open o) = not_open c of_ledger at o
      by (path_done d) = undone (subst (IsDone s) (sym at) d)
      by (is_refused k f told_so) = not_refused c of_ledger (second_so (bytes_eq path c.path) _ e) k told_so

  module _ (none : was_answered_at path s ≡ false) where
    no_update : (c : Call) → In c (own_calls s) → updates_at path c ≡ true → ⊥
    no_update c i e = by (come c of_ledger) where
      of_ledger : In c s.ledger
      of_ledger = (in_filter (λ (d : Call). d.number == s.operation) s.ledger c i).0

      at : path ≡ c.path
      at = (bytes_eq-Decides path c.path).0 (first_so (bytes_eq path c.path) _ e)

      updates_it : is_update c.request ≡ true
      updates_it = second_so (goes_forward c.status) _ (second_so (bytes_eq path c.path) _ e)

      by : HasComeTo s c → ⊥
      by (is_open o) = not_open c of_ledger at o
      by (path_done d) = undone (subst (IsDone s) (sym at) d)
      by (is_refused k f told_so) =
          true≢false (sym (any_of (λ (d : Call). bytes_eq path d.path && (is_update d.request && is_some d.answer)) (own_calls s) c i
          (and_from (bytes_eq path c.path) _ (first_so (bytes_eq path c.path) _ e) (and_from (is_update c.request) _ updates_it (ap is_some f)))) ∙ none)

module _ (schemas : List Schema) (x : World) (out name : List ℕ) (s : StackState) (fits : Fits x s) (way : IsOnWay schemas name x s) (few : HasFewForward s) where
  pub first_create : (path : List ℕ) (stage : Stage) (token : ℕ) (lane at : List ℕ) (r : Request) → stage_of s.status ≡ Some stage
      → MayIntend schemas name x out s stage token lane at r
      → creates_at path (new_call s.operation s.status (record { token = token; path = at; lane = lane; request = r })) ≡ true → number_of (creates_at path) s < 1
  first_create path stage token lane at r in_stage may is =
      let goes : stage ≡ Forward = creates_ahead schemas name x s stage at r (second_so (bytes_eq path at) _ is) may.chosen in
      let forward : goes_forward s.status ≡ true = stage_forward s.status (in_stage ∙ ap (λ (g : Stage). Some g) goes) in
      let same : at ≡ path = sym ((bytes_eq-Decides path at).0 (first_so (bytes_eq path at) _ is)) in
      let chosen = subst (λ (g : Stage). IntendsIn g schemas name x s at r) goes may.chosen in
      let none : number_of (creates_at at) s ≡ 0 =
      none_such (creates_at at) (own_calls s) (no_create schemas x name s fits (way.supported.told forward) (few.come_to forward) at may.free chosen.2 chosen.0) in
      subst (λ p. number_of (creates_at p) s < 1) same (omega (arith, none))

  unanswered : (path : List ℕ) (r : Request) → is_update r ≡ true → IntendsIn Forward schemas name x s path r → was_answered_at path s ≡ false
  unanswered path (Request.Update id props) u (good, ready, undone, (h, at, is, said, wants, none)) = none
  unanswered path (Request.Create kind props) u may = absurd (true≢false (sym u))
  unanswered path (Request.Delete id) u may = absurd (true≢false (sym u))

  first_update : (path : List ℕ) (stage : Stage) (token : ℕ) (lane at : List ℕ) (r : Request) → stage_of s.status ≡ Some stage
      → MayIntend schemas name x out s stage token lane at r
      → updates_at path (new_call s.operation s.status (record { token = token; path = at; lane = lane; request = r })) ≡ true → number_of (updates_at path) s < 1
  first_update path stage token lane at r in_stage may is =
      let rest : (goes_forward s.status && is_update r) ≡ true = second_so (bytes_eq path at) _ is in
      let forward : goes_forward s.status ≡ true = first_so (goes_forward s.status) _ rest in
      let goes : stage ≡ Forward = forward_stage s.status stage forward in_stage in
      let same : at ≡ path = sym ((bytes_eq-Decides path at).0 (first_so (bytes_eq path at) _ is)) in
      let chosen = subst (λ (g : Stage). IntendsIn g schemas name x s at r) goes may.chosen in
      let none : number_of (updates_at at) s ≡ 0 =
      none_such (updates_at at) (own_calls s) (no_update schemas x name s fits (way.supported.told forward) (few.come_to forward) at may.free chosen.2
      (unanswered at r (second_so (goes_forward s.status) _ rest) chosen)) in
      subst (λ p. number_of (updates_at p) s < 1) same (omega (arith, none))

pub forward_stays_few : LeavesSo HasFewForward
forward_stays_few schemas x out e name s t w way = record {
  come_to = come_stays schemas x out e name s t w way way.supported.few.forward.come_to;
  creates = λ path.
      at_most schemas x out name s t (creates_at path) 1 (counts (creates_at path) (is_create_kind path) schemas x out e name s t w) (way.supported.few.forward.creates path)
      (first_create schemas x out name s w.fits way way.supported.few.forward path);
  updates = λ path.
      at_most schemas x out name s t (updates_at path) 1 (counts (updates_at path) (is_update_kind path) schemas x out e name s t w) (way.supported.few.forward.updates path)
      (first_update schemas x out name s w.fits way way.supported.few.forward path);
}
