-- An operation deletes no resource under more than three tokens, and gives no path back under more than one.
use Rattle.std.proofs.Common.{◌≡◌, ℕ, ◌+◌, ◌<◌, ◌≤◌, ◌==◌, ◌&&◌, ◌||◌, not, Bool, true, false, List, [], ◌∷◌, Some, inl, inr, refl, sym, ap, subst, ◌∙◌, true≢false, filter, length, cond, arith}
use Rattle.cf_core.proofs.Words.{Back, BackClean, Call, Clean, Forward, Gone, HasNoDeletion, Held, In, IntendsIn, IsGoingBack, IsOnCourse, MayIntend, Request, Schema, Stage, StackState, Status, World, bytes_eq, current_at, deletes, deletions_of, first_so, goes_back, goes_forward, has_restore, here, is_create, is_update, new_call, own_calls, restores_of, second_so, stage_of, there, updates}
use Rattle.cf_core.proofs.Lemmas.{any_of, bytes_eq-Decides, eqb-true, in_filter, in_kept, none_false, not_so, some_is}
use Rattle.cf_core.proofs.Cleanups.{asks_for}
use Rattle.cf_core.proofs.Tries.{few_tries}
use Rattle.cf_core.proofs.Counted.{Counts, IsKind, as_before, counts, none_yet, one_more}
use Rattle.cf_core.specs.OnCourse.{IsOnWay}
use Rattle.cf_core.specs.FewCalls.{FewChanges, LeavesSo}
use Rattle.cf_core.specs.Tokens.{HasFewReturns, changes_at, deletes_at, deletes_other, is_deletion, makes_at, number_of, restores_at, strays_at, updates_at}

-- where no call is such, there is none
pub none_such : (test : Call → Bool) (cs : List Call) → ((c : Call) → In c cs → test c ≡ true → ⊥) → length (filter test cs) ≡ 0
none_such test [] never = refl
none_such test (c ∷ cs) never =
    ap (λ b. length (cond b (c ∷ filter test cs) (filter test cs))) (none_false (test c) (λ e. never c here e)) ∙ none_such test cs (λ d i. never d (there i))

-- what a deletion deletes; where nothing was deleted, there is no call that deletes
pub deletion_id : (r : Request) → is_deletion r ≡ true → (id : List ℕ) × (r ≡ Request.Delete id)
deletion_id (Request.Delete id) e = (id, refl)
deletion_id (Request.Create kind props) e = absurd (true≢false (sym e))
deletion_id (Request.Update id props) e = absurd (true≢false (sym e))

pub none_deletes : (s : StackState) → HasNoDeletion s → (test : Call → Bool) → ((c : Call) → test c ≡ true → is_deletion c.request ≡ true) → number_of test s ≡ 0
none_deletes s none test deletes_so = none_such test (own_calls s) (λ c i d.
    let id = deletion_id c.request (deletes_so c d) in
    true≢false (sym (ap (deletes id.0) id.1 ∙ (bytes_eq-Decides id.0 id.0).1 refl) ∙ none c i id.0))

-- at most so many, where there were fewer before one more goes out
pub at_most : (schemas : List Schema) (x : World) (out name : List ℕ) (s t : StackState) (test : Call → Bool) (most : ℕ) → Counts schemas x out name s test (number_of test t)
    → number_of test s ≤ most
    → ((stage : Stage) (token : ℕ) (lane path : List ℕ) (r : Request) → stage_of s.status ≡ Some stage → MayIntend schemas name x out s stage token lane path r
    → test (new_call s.operation s.status (record { token = token; path = path; lane = lane; request = r })) ≡ true → number_of test s < most)
    → number_of test t ≤ most
at_most schemas x out name s t test most (as_before e) few fewer = omega (arith, e, few)
at_most schemas x out name s t test most (none_yet e) few fewer = omega (arith, e)
at_most schemas x out name s t test most (one_more stage token lane path r at may is e) few fewer =
    let below = fewer stage token lane path r at may is in omega (arith, e, below)

is_deletion_kind : (id : List ℕ) → IsKind (λ c. deletes id c.request)
is_deletion_kind id c d same = ap (deletes id) same.request

pub is_restore_kind : (path : List ℕ) → IsKind (restores_at path)
is_restore_kind path c d same =
    ap (λ p. bytes_eq path p && (goes_back d.status && is_update d.request)) same.path
    ∙ ap (λ a. bytes_eq path c.path && (goes_back a && is_update d.request)) same.status
    ∙ ap (λ r. bytes_eq path c.path && (goes_back c.status && is_update r)) same.request

is_stray_kind : (path : List ℕ) → IsKind (strays_at path)
is_stray_kind path c d same =
    ap (λ p. bytes_eq path p && (is_update d.request && not (goes_forward d.status || goes_back d.status))) same.path
    ∙ ap (λ a. bytes_eq path c.path && (is_update d.request && not (goes_forward a || goes_back a))) same.status
    ∙ ap (λ r. bytes_eq path c.path && (is_update r && not (goes_forward c.status || goes_back c.status))) same.request

-- an update goes out in a stage that goes forward or back
update_goes : (schemas : List Schema) (name : List ℕ) (x : World) (s : StackState) (stage : Stage) (path : List ℕ) (r : Request) → stage_of s.status ≡ Some stage
    → is_update r ≡ true → IntendsIn stage schemas name x s path r → (goes_forward s.status || goes_back s.status) ≡ true
update_goes schemas name x s stage path (Request.Update id props) at u may = by s.status stage at may where
  by : (st : Status) (g : Stage) → stage_of st ≡ Some g → IntendsIn g schemas name x s path (Request.Update id props) → (goes_forward st || goes_back st) ≡ true
  by Status.CreateInProgress g e m = refl
  by Status.UpdateInProgress g e m = refl
  by Status.RollbackInProgress g e m = refl
  by Status.UpdateRollbackInProgress g e m = refl
  by st Clean e m = absurd m
  by st BackClean e m = absurd m
  by st Gone e m = absurd m
  by st Forward e m = grind arith
  by st Back e m = grind arith
update_goes schemas name x s stage path r at u may = let no : ⊥ = cc in absurd no

no_stray : (schemas : List Schema) (x : World) (out name : List ℕ) (s : StackState) (path : List ℕ) (stage : Stage) (token : ℕ) (lane at : List ℕ) (r : Request)
    → stage_of s.status ≡ Some stage → MayIntend schemas name x out s stage token lane at r
    → strays_at path (new_call s.operation s.status (record { token = token; path = at; lane = lane; request = r })) ≡ true → number_of (strays_at path) s < 0
no_stray schemas x out name s path stage token lane at r in_stage may is =
    let rest : (is_update r && not (goes_forward s.status || goes_back s.status)) ≡ true = second_so (bytes_eq path at) _ is in
    let goes = update_goes schemas name x s stage at r in_stage (first_so (is_update r) _ rest) may.chosen in
    absurd (true≢false (sym goes ∙ not_so _ (second_so (is_update r) _ rest)))

-- a call goes back in the stage of that alone
pub back_stage : (st : Status) (stage : Stage) → goes_back st ≡ true → stage_of st ≡ Some stage → stage ≡ Back
back_stage st stage g e = grind arith

-- The call that gives a path back is the first that does.
module _ (schemas : List Schema) (x : World) (out name : List ℕ) (s : StackState) (way : IsOnWay schemas name x s) where
  module _ (back : s.status ≡ Status.UpdateRollbackInProgress) (b : Held) (of_before : In b s.before) (none : has_restore b.physical s ≡ false) where
    going : IsGoingBack s
    going = subst (IsOnCourse schemas name x s) back way.course.stage

    never : (c : Call) → In c (own_calls s) → restores_at b.path c ≡ true → ⊥
    never c i e = true≢false (sym found ∙ none) where
      rest : (goes_back c.status && is_update c.request) ≡ true
      rest = second_so (bytes_eq b.path c.path) _ e

      path : b.path ≡ c.path
      path = (bytes_eq-Decides b.path c.path).0 (first_so (bytes_eq b.path c.path) _ e)

      own_row : In c s.ledger × ((c.number == s.operation) ≡ true)
      own_row = in_filter (λ (d : Call). d.number == s.operation) s.ledger c i

      gives : (g : Held) × In g s.before × (g.path ≡ c.path) × (updates g.physical c.request ≡ true)
      gives = (way.course.booked.restoring back).of_before c own_row.0 (eqb-true c.number s.operation own_row.1) rest

      same : gives.0 ≡ b
      same = some_is gives.0 b (sym (going.single_before gives.0 gives.1) ∙ ap (λ p. current_at p s.before) (gives.2 ∙ sym path) ∙ going.single_before b of_before)

      found : has_restore b.physical s ≡ true
      found =
          any_of (λ (d : Call). updates b.physical d.request) (restores_of s) c
          (in_kept (λ (d : Call). goes_back d.status && is_update d.request) (own_calls s) c i rest)
          (ap (λ (h : Held). updates h.physical c.request) (sym same) ∙ gives.3)

    none_before : number_of (restores_at b.path) s ≡ 0
    none_before = none_such (restores_at b.path) (own_calls s) never

  -- what it asks for
  chosen : (path : List ℕ) (r : Request) → is_update r ≡ true → IntendsIn Back schemas name x s path r → number_of (restores_at path) s ≡ 0
  chosen path (Request.Update id props) u (inl may) = absurd may
  chosen path (Request.Update id props) u (inr (back, b, to_restore, at, is, with_props, none)) =
      subst (λ p. number_of (restores_at p) s ≡ 0) (sym at) (none_before back b to_restore.0 (subst (λ i. has_restore i s ≡ false) is none))
  chosen path r u may = let no : ⊥ = cc in absurd no

  pub first_back : (path : List ℕ) (stage : Stage) (token : ℕ) (lane at : List ℕ) (r : Request) → stage_of s.status ≡ Some stage
      → MayIntend schemas name x out s stage token lane at r
      → restores_at path (new_call s.operation s.status (record { token = token; path = at; lane = lane; request = r })) ≡ true
      → number_of (restores_at path) s < 1
  first_back path stage token lane at r in_stage may is =
      let rest : (goes_back s.status && is_update r) ≡ true = second_so (bytes_eq path at) _ is in
      let same : path ≡ at = (bytes_eq-Decides path at).0 (first_so (bytes_eq path at) _ is) in
      let goes : stage ≡ Back = back_stage s.status stage (first_so (goes_back s.status) _ rest) in_stage in
      let none : number_of (restores_at at) s ≡ 0 =
      chosen at r (second_so (goes_back s.status) _ rest) (subst (λ (g : Stage). IntendsIn g schemas name x s at r) goes may.chosen) in
      subst (λ p. number_of (restores_at p) s < 1) (sym same) (omega (arith, none))

-- the resource that is deleted was tried fewer than three times
fewer_tries : (schemas : List Schema) (x : World) (out name : List ℕ) (s : StackState) (id : List ℕ) (stage : Stage) (token : ℕ) (lane path : List ℕ) (r : Request)
    → stage_of s.status ≡ Some stage → MayIntend schemas name x out s stage token lane path r → deletes id r ≡ true → number_of (λ c. deletes id c.request) s < 3
fewer_tries schemas x out name s id stage token lane path r at may is =
    few_tries schemas name x s stage path id (subst (IntendsIn stage schemas name x s path) (asks_for id r is) may.chosen)

pub returns_stay_few : LeavesSo HasFewReturns
returns_stay_few schemas x out e name s t w way = record {
  deletions = λ id.
      at_most schemas x out name s t (λ c. deletes id c.request) 3 (counts (λ c. deletes id c.request) (is_deletion_kind id) schemas x out e name s t w)
      (way.supported.few.returns.deletions id) (fewer_tries schemas x out name s id);
  restores = λ path.
      at_most schemas x out name s t (restores_at path) 1 (counts (restores_at path) (is_restore_kind path) schemas x out e name s t w) (way.supported.few.returns.restores path)
      (first_back schemas x out name s way path);
  no_strays = λ path.
      at_most schemas x out name s t (strays_at path) 0 (counts (strays_at path) (is_stray_kind path) schemas x out e name s t w) (way.supported.few.returns.no_strays path)
      (no_stray schemas x out name s path);
}

-- Of a list as many pass a test at most as pass four others, where each that passes it passes one of them.
abbrev one_if : Bool → ℕ
one_if true = 1
one_if false = 0

filtered : (test : Call → Bool) (c : Call) (cs : List Call) → length (filter test (c ∷ cs)) ≡ one_if (test c) + length (filter test cs)
filtered test c cs = by (test c) where
  by : (b : Bool) → length (cond b (c ∷ filter test cs) (filter test cs)) ≡ one_if b + length (filter test cs)
  by true = omega arith
  by false = omega arith

one_of : (t a b c d : Bool) → (t ≡ true → (a || (b || (c || d))) ≡ true) → one_if t ≤ one_if a + (one_if b + (one_if c + one_if d))
one_of false a b c d h = omega arith
one_of true true b c d h = omega arith
one_of true false true c d h = omega arith
one_of true false false true d h = omega arith
one_of true false false false true h = omega arith
one_of true false false false false h = absurd (true≢false (sym (h refl)))

module _ (test a b c d : Call → Bool) (covers : (z : Call) → test z ≡ true → (a z || (b z || (c z || d z))) ≡ true) where
  pub covered : (cs : List Call)
      → length (filter test cs) ≤ length (filter a cs) + (length (filter b cs) + (length (filter c cs) + length (filter d cs)))
  covered [] = omega arith
  covered (z ∷ cs) =
      let less = covered cs in
      let one = one_of (test z) (a z) (b z) (c z) (d z) (covers z) in
      let t = filtered test z cs in
      let f = filtered a z cs in
      let g = filtered b z cs in
      let h = filtered c z cs in
      let k = filtered d z cs in
      omega (arith, less, one, t, f, g, h, k)

pub none_pass_none : (cs : List Call) → length (filter (λ (c : Call). false) cs) ≡ 0
none_pass_none cs = none_such (λ (c : Call). false) cs (λ c i f. true≢false (sym f))

-- as many delete at a path as delete this resource, and as delete another one there
pub deletes_by : (path id : List ℕ) (s : StackState) → number_of (deletes_at path) s ≤ number_of (deletes_other path id) s + length (deletions_of id s)
deletes_by path id s =
    let all = covered (deletes_at path) (deletes_other path id) (λ c. deletes id c.request) (λ c. false) (λ c. false)
    (λ c. cover (bytes_eq path c.path) (is_deletion c.request) (deletes id c.request)) (own_calls s) in
    let never = none_pass_none (own_calls s) in
    omega (arith, all, never)
  where
    cover : (a b c : Bool) → (a && b) ≡ true → ((a && (b && not c)) || (c || (false || false))) ≡ true
    cover false b c e = absurd (true≢false (sym e))
    cover true false c e = absurd (true≢false (sym e))
    cover true true true e = refl
    cover true true false e = refl

-- a call that is no deletion makes, updates ahead, or strays
change_is : (e k u f g : Bool) → (e && (k || u)) ≡ true → ((e && (k || (g && u))) || ((e && (f && u)) || ((e && (u && not (f || g))) || false))) ≡ true
change_is false k u f g is = absurd (true≢false (sym is))
change_is true true u f g is = refl
change_is true false false f g is = absurd (true≢false (sym is))
change_is true false true f true is = refl
change_is true false true true false is = refl
change_is true false true false false is = refl

pub few_changes : FewChanges
few_changes s few path =
    let all = covered (changes_at path) (makes_at path) (updates_at path) (strays_at path) (λ c. false)
    (λ c. change_is (bytes_eq path c.path) (is_create c.request) (is_update c.request) (goes_forward c.status) (goes_back c.status)) (own_calls s) in
    let a = few.makes.once path in
    let b = few.forward.updates path in
    let c = few.returns.no_strays path in
    let never = none_pass_none (own_calls s) in
    omega (arith, all, a, b, c, never)
