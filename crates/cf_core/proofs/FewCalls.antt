-- In every status no operation has called a path under more than five tokens of its own.
use Rattle.std.proofs.Common.{◌≡◌, ◌≤◌, ◌<◌, ◌+◌, ◌==◌, ◌&&◌, ◌||◌, not, ℕ, Bool, true, false, List, [], ◌∷◌, Some, inl, inr, refl, sym, ap, subst, ◌∙◌, true≢false, map, filter, length, arith}
use Rattle.cf_core.proofs.Lemmas.{bytes_eq-Decides, differ_less, eq-eqb, in_filter}
use Rattle.cf_core.proofs.Words.{Back, BackClean, Call, Clean, Forward, Gone, Held, In, IntendsIn, IsCleanup, MayIntend, Pending, Request, Schema, Stage, StackState, Status, World, all_differ, bytes_eq, cleaned_in, deletes, deletions_of, first_so, here, is_create, is_update, new_call, no_stack, of_rollback, of_update, own_calls, second_so, stage_of, there}
use Rattle.cf_core.proofs.Counted.{counts}
use Rattle.cf_core.proofs.Few.{at_most, covered, deletes_by, few_changes, none_pass_none, returns_stay_few}
use Rattle.cf_core.proofs.{FewAhead.forward_stays_few, FewMade.making_stays_one, FewUnmade.unmaking_stays_few, Tries.few_tries}
use Rattle.cf_core.proofs.FewCleaned.{cleaning_stays_few, cleans_one, is_deletes_kind}
use Rattle.cf_core.proofs.FewLeft.{deleting_stays_two}
use Rattle.cf_core.specs.FewCalls.{FewStay, LeavesSo, OneIsOpen, TokensAreFew, is_call_at, is_open_at}
use Rattle.cf_core.specs.OnCourse.{IsOnWay}
use Rattle.cf_core.specs.Tokens.{AreDeletedAlone, HasFewCalls, changes_at, deletes_at, deletes_or_failed, deletes_third, is_deletion, number_of}

-- An operation deletes at a path under three tokens at most.

clean_status : (st : Status) → stage_of st ≡ Some Clean → st ≡ Status.UpdateCompleteCleanupInProgress
clean_status st e = grind arith

back_clean_status : (st : Status) → stage_of st ≡ Some BackClean → st ≡ Status.UpdateRollbackCompleteCleanupInProgress
back_clean_status st e = grind arith

gone_status : (st : Status) → stage_of st ≡ Some Gone → st ≡ Status.DeleteInProgress
gone_status st e = grind arith

module _ (schemas : List Schema) (x : World) (out name : List ℕ) (s : StackState) (way : IsOnWay schemas name x s) where
  -- of one resource a path, under fewer than three before
  alone_few : (rs : List Held) → AreDeletedAlone rs s → (m : Held) → In m rs → length (deletions_of m.physical s) < 3 → number_of (deletes_at m.path) s < 3
  alone_few rs alone m i few =
      let all = deletes_by m.path m.physical s in
      let none = alone.no_other m i in
      omega (arith, all, none, few)

  cleans_few : (stage : Stage) (path id : List ℕ) → IsCleanup stage s.status → IntendsIn stage schemas name x s path (Request.Delete id) → number_of (deletes_at path) s < 3
  cleans_few stage path id k may =
      let m = cleans_one schemas name x s path stage s.status k (Request.Delete id) may in
      subst (λ p. number_of (deletes_at p) s < 3) (sym m.3) (alone_few (cleaned_in stage s) (way.supported.few.cleans stage k) m.0 m.1
      (few_tries schemas name x s stage path m.0.physical (subst (IntendsIn stage schemas name x s path) m.2 may)))

  -- of two resources a path, each under one
  two_few : s.status ≡ Status.DeleteInProgress → (path : List ℕ) → number_of (deletes_at path) s < 3
  two_few was path =
      let two = way.supported.few.two (ap deletes_or_failed was) in
      let k = two.two path in
      let all = covered (deletes_at path) (deletes_third path k.0 k.1) (λ c. deletes k.0 c.request) (λ c. deletes k.1 c.request) (λ c. false)
      (λ c. cover (bytes_eq path c.path) (is_deletion c.request) (deletes k.0 c.request) (deletes k.1 c.request)) (own_calls s) in
      let none = k.2.deleted was in
      let a = two.once was k.0 in
      let b = two.once was k.1 in
      let never = none_pass_none (own_calls s) in
      omega (arith, all, none, a, b, never)
    where
      cover : (z d p q : Bool) → (z && d) ≡ true → ((z && (d && not (p || q))) || (p || (q || false))) ≡ true
      cover true true true q e = refl
      cover true true false true e = refl
      cover true true false false e = refl
      cover true false p q e = absurd (true≢false (sym e))
      cover false d p q e = absurd (true≢false (sym e))

  by_stage : (stage : Stage) (path id : List ℕ) → stage_of s.status ≡ Some stage → IntendsIn stage schemas name x s path (Request.Delete id) → number_of (deletes_at path) s < 3
  by_stage Forward path id at may = absurd may.3
  by_stage Clean path id at may = cleans_few Clean path id (subst (IsCleanup Clean) (sym (clean_status s.status at)) of_update) may
  by_stage BackClean path id at may = cleans_few BackClean path id (subst (IsCleanup BackClean) (sym (back_clean_status s.status at)) of_rollback) may
  by_stage Gone path id at may = two_few (gone_status s.status at) path
  by_stage Back path id at (inr may) = absurd may
  by_stage Back path id at (inl (m, may, kept, p, is)) =
      subst (λ q. number_of (deletes_at q) s < 3) (sym p) (alone_few s.made (way.supported.few.unmakes may.0).alone m may.1
      (subst (λ i. length (deletions_of i s) < 3) is (few_tries schemas name x s Back path id (inl (m, may, kept, p, is)))))

  fewer : (path : List ℕ) (stage : Stage) (token : ℕ) (lane at : List ℕ) (r : Request) → stage_of s.status ≡ Some stage
      → MayIntend schemas name x out s stage token lane at r
      → deletes_at path (new_call s.operation s.status (record { token = token; path = at; lane = lane; request = r })) ≡ true → number_of (deletes_at path) s < 3
  fewer path stage token lane at r in_stage may is =
      subst (λ p. number_of (deletes_at p) s < 3) (sym ((bytes_eq-Decides path at).0 (first_so (bytes_eq path at) _ is))) (by r (second_so (bytes_eq path at) _ is) may.chosen) where
        by : (q : Request) → is_deletion q ≡ true → IntendsIn stage schemas name x s at q → number_of (deletes_at at) s < 3
        by (Request.Delete id) d m = by_stage stage at id in_stage m
        by (Request.Create kind props) d m = absurd (true≢false (sym d))
        by (Request.Update id props) d m = absurd (true≢false (sym d))

deletions_stay_few : LeavesSo (λ t. (path : List ℕ) → number_of (deletes_at path) t ≤ 3)
deletions_stay_few schemas x out e name s t w way path =
    at_most schemas x out name s t (deletes_at path) 3 (counts (deletes_at path) (is_deletes_kind path) schemas x out e name s t w) (way.supported.few.deletions path)
    (fewer schemas x out name s way path)

-- All of it stays so, and is so of a stack of which nothing is known.
pub few_stay : FewStay
few_stay schemas x out e name s t w way = record {
  forward = forward_stays_few schemas x out e name s t w way;
  returns = returns_stay_few schemas x out e name s t w way;
  makes = making_stays_one schemas x out e name s t w way;
  cleans = cleaning_stays_few schemas x out e name s t w way;
  unmakes = unmaking_stays_few schemas x out e name s t w way;
  two = deleting_stays_two schemas x out e name s t w way;
  deletions = deletions_stay_few schemas x out e name s t w way;
}

none_cleans : (stage : Stage) (st : Status) → IsCleanup stage st → st ≡ Status.DeleteComplete → ⊥
none_cleans _ _ of_update e = let no : ⊥ = cc in no
none_cleans _ _ of_rollback e = let no : ⊥ = cc in no

pub none_few : HasFewCalls no_stack
none_few = record {
  forward = record { come_to = λ g. absurd (cc); creates = λ path. omega arith; updates = λ path. omega arith };
  returns = record { deletions = λ id. omega arith; restores = λ path. omega arith; no_strays = λ path. omega arith };
  makes = record { refused = λ b c d i. elim i [ ]; once = λ path. omega arith };
  cleans = λ stage k. absurd (none_cleans stage Status.DeleteComplete k refl);
  unmakes = λ g. absurd (cc);
  two = λ g. absurd (cc);
  deletions = λ path. omega arith;
}

-- Each call creates or updates, or deletes.
kind_of : (path : List ℕ) (c : Call) → is_call_at path c ≡ true → (changes_at path c || (deletes_at path c || (false || false))) ≡ true
kind_of path c e = by (bytes_eq path c.path) e c.request where
  by : (b : Bool) → b ≡ true → (r : Request) → ((b && (is_create r || is_update r)) || ((b && is_deletion r) || (false || false))) ≡ true
  by true e (Request.Create kind props) = refl
  by true e (Request.Update id props) = refl
  by true e (Request.Delete id) = refl
  by false e r = absurd (true≢false (sym e))

both : (s : StackState) (path : List ℕ) → number_of (is_call_at path) s ≤ number_of (changes_at path) s + number_of (deletes_at path) s
both s path =
    let all = covered (is_call_at path) (changes_at path) (deletes_at path) (λ c. false) (λ c. false) (kind_of path) (own_calls s) in
    let none = none_pass_none (own_calls s) in
    omega (arith, all, none)

pub tokens_are_few : TokensAreFew
tokens_are_few schemas life name s h at path =
    let few = (h.way name s at).supported.few in
    let most = both s path in
    let changes = few_changes s few path in
    let deletions = few.deletions path in
    omega (arith, most, changes, deletions)

-- no two open calls are of one path
one_alike : (ps : List Pending) → all_differ ◌==◌ (map (λ p. p.token) ps) ≡ true → ((p q : Pending) → In p ps → In q ps → p ≡ q) → length ps ≤ 1
one_alike [] differ same = omega arith
one_alike (p ∷ []) differ same = omega arith
one_alike (p ∷ q ∷ ps) differ same =
    let equal = ap (λ (z : Pending). z.token) (same p q here (there here)) in
    let no : ⊥ = grind (arith, eq-eqb p.token q.token equal) in
    absurd no

pub one_is_open : OneIsOpen
one_is_open x s fits path =
    one_alike (filter (is_open_at path) s.tokens) (differ_less ◌==◌ (λ (p : Pending). p.token) (is_open_at path) s.tokens fits.tokens) (λ p q i j.
    let a = in_filter (is_open_at path) s.tokens p i in
    let b = in_filter (is_open_at path) s.tokens q j in
    fits.paths p q a.0 b.0 (sym ((bytes_eq-Decides path p.path).0 a.1) ∙ (bytes_eq-Decides path q.path).0 b.1))
