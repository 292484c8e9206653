-- What an entry that is written is to a stack, and what it does to its operation.
use Rattle.std.proofs.Common.{arith, ◌≡◌, ℕ, List, Option, Some, None, refl, ap, ◌+◌, sym, subst, true≢false, ◌||◌}
use Rattle.cf_core.proofs.Words.{BecomesBy, BeginsBy, Begun, Entry, IsMove, IsOwn, IsTo, IsWritten, MayBegin, MayFollow, MayFollowIn, MayFollowOn, Phase, Schema, StackState, Stage, World, WrittenIsTo, at_opening as by_opening, begins as is_begun, begins_from, creates_from, effect_at, ends as is_end, known_stack, opened as is_opened_to, other as by_other, own as by_own, stack_for, stack_of_operation, stage_of, stays as is_still, step as is_step, turns as is_turn, updates_from}
use Rattle.cf_core.proofs.Lemmas.{eqb-true, found_passes, some_is}
use Rattle.cf_core.specs.Moving.{begins as is_beginning, other as is_elsewhere, reviewed as is_review}
use Rattle.cf_core.specs.Written.{reviewed as is_reviewed, other as is_other}
use Rattle.std.specs.{Option.option_map, Prelude.IsTrue}
use Rattle.cf_core.proofs.Statuses.{intended_status, kept_status, replied_status}

-- What an entry that is written is to a stack.

named_so : {A : Type 0} {name : List ℕ} {s : A} (n : List ℕ) (o : Option A) → option_map {U = List ℕ × A} (λ (t : A). (n, t)) o ≡ Some (name, s) → n ≡ name
named_so n None q = let no : ⊥ = cc in absurd no
named_so {A = A} {name = name} {s = s} n (Some t) q = ap (λ (p : List ℕ × A). p.0) (some_is (n, t) (name, s) q)

module _ (schemas : List Schema) (x : World) (out : List ℕ) (name : List ℕ) (s : StackState) where
  abbrev becoming : Entry → StackState
  becoming e = (effect_at (x.place + 1) e s).stack

  -- the operation of the number is the one of the stack
  pub numbered_so : (number : ℕ) → stack_of_operation number x ≡ Some (name, s) → number ≡ s.operation
  numbered_so number going = grind (arith, eqb-true, found_passes)

  -- a step of the operation in progress is one in the stage of its stack
  abbrev pub InStage : Entry → Type 0
  InStage e = (stage : Stage) × (stage_of s.status ≡ Some stage) × MayFollowIn schemas name x out s stage e

  pub in_stage : (e : Entry) (number : ℕ) → stack_of_operation number x ≡ Some (name, s) → MayFollowOn schemas number x out e → InStage e
  in_stage e number going (n, t, stage, found, at, may) = grind (arith, some_is)

  stepping : (e : Entry) (number : ℕ) → ((m : ℕ) → number ≡ m → IsOwn m e) → stack_of_operation number x ≡ Some (name, s) → MayFollowOn schemas number x out e
      → IsTo schemas x out name s e (becoming e)
  stepping e number is_own going may =
      let m = in_stage e number going may in is_step m.0 m.1 (is_own s.operation (numbered_so number going)) m.2

  -- a beginning on it
  beginning_so : (number : ℕ) (k : Begun) → known_stack name x ≡ s → MayBegin schemas x number name k
      → IsTo schemas x out name s (Entry.Begin number name k) (becoming (Entry.Begin number name k))
  beginning_so number k was (next, from, by) =
      subst (λ (m : ℕ). IsTo schemas x out name s (Entry.Begin m name k) (becoming (Entry.Begin m name k))) (sym next)
      (is_begun k (subst (λ (v : StackState). IsTrue (begins_from k v.status)) was from)
      (subst (λ (m : ℕ). BeginsBy schemas name x m s k) next (subst (λ (v : StackState). BeginsBy schemas name x number v k) was by)))

  pub beginning_name : (number : ℕ) (n : List ℕ) (k : Begun) → stack_for (Entry.Begin number n k) x ≡ Some (name, s) → n ≡ name
  beginning_name number n k q = grind (arith, some_is, named_so)

  -- by what the entry is
  pub to_own : (e : Entry) → known_stack name x ≡ s → stack_for e x ≡ Some (name, s) → MayFollow schemas x out e → IsTo schemas x out name s e (becoming e)
  to_own (Entry.Opened epoch lanes) was q may = is_opened_to epoch lanes
  to_own (Entry.Begin number n k) was q may = grind (arith, beginning_name, beginning_so)
  to_own (Entry.ChangeSet number n source rows outputs) was q (next, from, accepted) =
      let pair : ◌≡◌ {A = List ℕ × StackState} (n, known_stack n x) (name, s) = some_is (n, known_stack n x) (name, s) q in
      subst (λ (o : List ℕ). IsTo schemas x out name s (Entry.ChangeSet number o source rows outputs) (becoming (Entry.ChangeSet number o source rows outputs)))
      (sym (ap (λ (p : List ℕ × StackState). p.0) pair))
      (is_reviewed number source rows outputs (subst (λ (p : List ℕ × StackState). IsTrue (creates_from p.1.status || updates_from p.1.status)) pair from))
  to_own e was q may = stepping e _ (λ m o. o) q may

  pub becomes_to : (e : Entry) (t : StackState) → known_stack name x ≡ s → MayFollow schemas x out e → BecomesBy x e name s t → IsTo schemas x out name s e t
  becomes_to e t was may (by_own q) = to_own e was q may
  becomes_to (Entry.Opened epoch lanes) t was may (by_opening q) = is_opened_to epoch lanes
  becomes_to e t was may (by_opening q) = absurd (true≢false (sym q))
  becomes_to e t was may (by_other q none) = is_other

pub written_is_to : WrittenIsTo
written_is_to schemas x out e name s t w = becomes_to schemas x out name s e t w.was w.may w.becomes

-- What an entry that is written does to the operation of a stack.

module _ (schemas : List Schema) (x : World) (out : List ℕ) (name : List ℕ) (s : StackState) where
  -- what is no step of an operation
  converted : {e : Entry} {t : StackState} → (IsOwn s.operation e → ⊥) → IsTo schemas x out name s e t → IsMove schemas x out name s e t
  converted never (is_step stage at is_own may) = absurd (never is_own)
  converted never (is_begun k from by) = is_beginning k from by
  converted never (is_reviewed number source rows outputs from) = is_review number source rows outputs from
  converted never (is_opened_to epoch lanes) = is_still refl
  converted never is_other = is_elsewhere

  of_it : (e : Entry) → known_stack name x ≡ s → stack_for e x ≡ Some (name, s) → MayFollow schemas x out e → IsMove schemas x out name s e (effect_at (x.place + 1) e s).stack
  of_it (Entry.Kept number path physical w) was q may = is_still (kept_status path physical w s)
  of_it (Entry.Intent number token lane path r) was q may = is_still (intended_status number (record { token = token; path = path; lane = lane; request = r }) s)
  of_it (Entry.Outcome number token answer b a) was q may = is_still (replied_status token answer s)
  of_it (Entry.Phase number p why) was q may = let m = in_stage schemas x out name s (Entry.Phase number p why) number q may in is_turn number p why q m.2.1
  of_it (Entry.Done number state failed) was q may = let m = in_stage schemas x out name s (Entry.Done number state failed) number q may in is_end number state failed m.0 q m.1 m.2
  of_it e was q may = converted (λ o. o) (to_own schemas x out name s e was q may)

  moves : (e : Entry) (t : StackState) → known_stack name x ≡ s → MayFollow schemas x out e → BecomesBy x e name s t → IsMove schemas x out name s e t
  moves e t was may (by_own q) = of_it e was q may
  moves (Entry.Opened epoch lanes) t was may (by_opening q) = is_still refl
  moves e t was may (by_opening q) = absurd (true≢false (sym q))
  moves e t was may (by_other q none) = is_elsewhere

pub written_moves : {schemas : List Schema} {x : World} {out : List ℕ} {e : Entry} {name : List ℕ} {s t : StackState} → IsWritten schemas x out e name s t
    → IsMove schemas x out name s e t
written_moves {schemas} {x} {out} {e} {name} {s} {t} w = moves schemas x out name s e t w.was w.may w.becomes
