-- What the rollback of an update offers is what it may begin.
use Rattle.std.proofs.Common.{◌≡◌, inl, inr, ℕ, suc, arith, ◌==◌, Bool, true, false, ◌&&◌, ◌||◌, not, List, [], ◌∷◌, Option, Some, None, filter, length, option_map, cond, refl, ap, sym, subst, ◌∙◌, true≢false}
use Rattle.std.specs.List.{list_any}
use Rattle.std.proofs.lemmas.Bool.{and_parts, and_from, eqb-true}
use Rattle.std.proofs.lemmas.Option.{same_Some}
use Rattle.cf_tree.specs.declared.request.Request.{Request}
use Rattle.cf_tree.specs.declared.request.Request.TheVariants as request
use Rattle.cf_schema.specs.declared.described.Schema.{Schema}
use Rattle.cf_entry.specs.declared.status.Status.TheVariants as status
use Rattle.cf_entry.specs.declared.turn.Cause.{Cause}
use Rattle.cf_entry.specs.declared.turn.Phase.{Phase}
use Rattle.cf_entry.specs.declared.turn.Phase.TheVariants as phase
use Rattle.cf_entry.specs.declared.turn.Why.{Why}
use Rattle.cf_entry.specs.declared.turn.Why.TheVariants as why
use Rattle.cf_effect.specs.declared.call.Call.{Call}
use Rattle.cf_effect.specs.declared.held.Held.{Held}
use Rattle.cf_effect.specs.declared.held.Pending.{Pending}
use Rattle.cf_effect.specs.Calls.{own_calls, was_refused, was_restored, was_updated}
use Rattle.cf_effect.specs.Operation.{was_skipped}
use Rattle.cf_effect.specs.Status.{Back, Forward, Gone, goes_back, stage_of}
use Rattle.cf_effect.specs.Words.{is_update}
use Rattle.cf_effect.specs.World.{StackState, World}
use Rattle.cf_tree.specs.Lists.{In}
use Rattle.cf_plan.specs.Follow.{IntendsDeletion, IntendsRestore, IsToRestore, MayKeep, MayTurn, has_refused_restore, has_restore, is_free, waits_for_repeats}
use Rattle.cf_plan.proofs.Causing.{map_in}
use Rattle.cf_plan.proofs.Members.{is_so, not_so, any_in, false_from, in_any}
use Rattle.cf_plan.proofs.CreatedRight.{in_filter}
use Rattle.cf_plan.proofs.Listed.{in_map, in_none}
use Rattle.cf_plan.proofs.RunLists.{in_kept}
use Rattle.cf_plan.proofs.Told.{any_filtered}
use Rattle.cf_plan.specs.Start.{Start}
use Rattle.cf_next.specs.declared.offer.Turn.{Turn}
use Rattle.cf_next.specs.Offer.{AreKeepings, AreRepeats, AreStarts, IsOffer, IsTurn, MayBeginAt}
use Rattle.cf_next.specs.Restoring.{is_restored, is_to_restore, may_restore, restore_of, restores, restores_out, turn_restored}

none_there : {A : Type 0} (xs : List A) → (length xs == 0) ≡ true → xs ≡ []
none_there [] e = refl
none_there (x ∷ xs) e = let some : suc (length xs) ≡ 0 = eqb-true (suc (length xs)) 0 e in absurd (omega (arith, some))

none_counted : {A : Type 0} (xs : List A) → xs ≡ [] → (length xs == 0) ≡ true
none_counted xs e = ap (λ (ys : List _). length ys == 0) e

-- what is to be given back is told by a test
to_restore : (s : StackState) (b : Held) → In b s.before → is_to_restore s b ≡ true → IsToRestore s b
to_restore s b i t =
    let k = and_parts (was_updated b.physical s) _ t in
    let l = and_parts (not (was_restored b.physical s)) _ k.1 in
    (i, k.0, is_so (was_restored b.physical s) l.0, is_so (was_skipped b.path s) l.1)

from_restore : (s : StackState) (b : Held) → IsToRestore s b → is_to_restore s b ≡ true
from_restore s b (i, u, r, k) =
    and_from (was_updated b.physical s) _ u
    (and_from (not (was_restored b.physical s)) _ (not_so (was_restored b.physical s) r) (not_so (was_skipped b.path s) k))

module _ (schemas : List Schema) (name : List ℕ) (x : World) (out : List ℕ) (s : StackState) (goes : s.status ≡ status.UpdateRollbackInProgress) where
  not_created : s.status ≡ status.RollbackInProgress → ⊥
  not_created e = let other : status.RollbackInProgress ≡ status.UpdateRollbackInProgress = sym e ∙ goes in cc

  no_deletion : (path : List ℕ) (r : Request) → IntendsDeletion Back s path r → ⊥
  no_deletion path (request.Delete physical) m = not_created m.1.0
  no_deletion path (request.Create kind props) i = i
  no_deletion path (request.Update physical props) i = i

  begins : (path : List ℕ) (r : Request) → IntendsRestore s path r → is_free path s ≡ true → In (record { path = path; request = r }) (restores s s.before)
  begins path (request.Update physical props) (going, b, is, at, id, ps, new) free =
      subst (λ a. In a (restores s s.before)) (sym same)
      (in_map restore_of b (filter (may_restore s) s.before) (in_kept (may_restore s) s.before b is.0
      (and_from (is_to_restore s b) _ (from_restore s b is)
      (and_from (not (has_restore b.physical s)) _ (not_so (has_restore b.physical s) (subst (λ q. has_restore q s ≡ false) id new))
      (subst (λ p. is_free p s ≡ true) at free))))) where
        same : ◌≡◌ {A = Start} (record { path = path; request = request.Update physical props }) (restore_of b)
        same = λ i. record { path = at i; request = request.Update (id i) (ps i) }
  begins path (request.Create kind props) i free = absurd i
  begins path (request.Delete physical) i free = absurd i

  may_begin : (a : Start) → In a (restores s s.before) → IntendsRestore s a.path a.request × (is_free a.path s ≡ true)
  may_begin a i =
      let (b, at, same) = map_in restore_of a (filter (may_restore s) s.before) i in
      let (held, t) = in_filter (may_restore s) s.before b at in
      let k = and_parts (is_to_restore s b) _ t in
      let l = and_parts (not (has_restore b.physical s)) _ k.1 in
      subst (λ (c : Start). IntendsRestore s c.path c.request × (is_free c.path s ≡ true)) same
      ((goes, b, to_restore s b held k.0, refl, refl, refl, is_so (has_restore b.physical s) l.0), l.1)

  starts : AreStarts schemas name x out s Back (restores_out out s)
  starts path r = (to, from (waits_for_repeats Back out s) refl) where
    to : MayBeginAt schemas name x out s Back path r → In (record { path = path; request = r }) (restores_out out s)
    to (free, none, inl i) = absurd (no_deletion path r i)
    to (free, none, inr i) = subst (λ b. In (record { path = path; request = r }) (cond b [] (restores s s.before))) (sym none) (begins path r i free)

    from : (b : Bool) → waits_for_repeats Back out s ≡ b → In (record { path = path; request = r }) (cond b [] (restores s s.before)) → MayBeginAt schemas name x out s Back path r
    from true e i = absurd (in_none i)
    from false e i = let w = may_begin (record { path = path; request = r }) i in (w.1, e, inr w.0)

  none_kept : AreKeepings Back out s []
  none_kept path physical w = (λ m. absurd (never w m), λ i. absurd (in_none i)) where
    never : (w : Why) → MayKeep Back out s path physical w → ⊥
    never why.Retained (inl m) = not_created m.1.0
    never why.Retained (inr m) = let other : Back ≡ Gone = m.0 in cc
    never why.Failed m = in_none m.0.1
    never why.Doubt m = in_none m.0.1

  -- all is given back just where the test says so
  abbrev AllBack : Type 0
  AllBack = (s.tokens ≡ []) × ((b : Held) → IsToRestore s b → ⊥) × (has_refused_restore s ≡ false)

  all_back : is_restored s ≡ true → AllBack
  all_back t =
      let k = and_parts (length s.tokens == 0) _ t in
      let l = and_parts (not (list_any (is_to_restore s) s.before)) _ k.1 in
      let none = is_so (list_any (is_to_restore s) s.before) l.0 in (
        none_there s.tokens k.0,
        λ b is. true≢false (sym (any_in (is_to_restore s) b s.before is.0 (from_restore s b is)) ∙ none),
        is_so (has_refused_restore s) l.1,
      )

  is_back : AllBack → is_restored s ≡ true
  is_back (tokens, none, refused) =
      and_from (length s.tokens == 0) _ (none_counted s.tokens tokens)
      (and_from (not (list_any (is_to_restore s) s.before)) _ (not_so (list_any (is_to_restore s) s.before)
      (false_from (list_any (is_to_restore s) s.before) (λ t. let w = in_any (is_to_restore s) s.before t in none w.0 (to_restore s w.0 w.1 w.2))))
      (not_so (has_refused_restore s) refused))

  only : (b : Bool) (p : Phase) (c : Option Cause) → turn_restored b ≡ Some (record { phase = p; cause = c }) → (b ≡ true) × (phase.BackClean ≡ p) × (None ≡ c)
  only false p c e = let no : ⊥ = cc in absurd no
  only true p c e = (refl, same_Some phase.BackClean p (ap (option_map (λ (t : Turn). t.phase)) e), same_Some None c (ap (option_map (λ (t : Turn). t.cause)) e))

  turned : IsTurn schemas name x s (turn_restored (is_restored s))
  turned p c = (to p c, from p c) where
    to : (p : Phase) (c : Option Cause) → MayTurn schemas name x s p c → turn_restored (is_restored s) ≡ Some (record { phase = p; cause = c })
    to phase.BackClean None m = ap turn_restored (is_back (m.1, m.2, m.3))
    to phase.BackClean (Some c) m = absurd m
    to phase.Clean None m = let other : status.UpdateInProgress ≡ status.UpdateRollbackInProgress = sym m.0 ∙ goes in let no : ⊥ = cc in absurd no
    to phase.Clean (Some c) m = absurd m
    to phase.Back None m = absurd m
    to phase.Back (Some c) m = let other : Some Forward ≡ Some Back = sym m.0 ∙ ap stage_of goes in let no : ⊥ = cc in absurd no

    from : (p : Phase) (c : Option Cause) → turn_restored (is_restored s) ≡ Some (record { phase = p; cause = c }) → MayTurn schemas name x s p c
    from phase.BackClean None e = let back = all_back (only (is_restored s) phase.BackClean None e).0 in (goes, back.0, back.1, back.2)
    from phase.BackClean (Some c) e = let k = only (is_restored s) phase.BackClean (Some c) e in let no : ⊥ = cc in absurd no
    from phase.Clean c e = let k = only (is_restored s) phase.Clean c e in let no : ⊥ = cc in absurd no
    from phase.Back c e = let k = only (is_restored s) phase.Back c e in let no : ⊥ = cc in absurd no

  -- the offer
  pub restoring : (repeats : List Pending) → AreRepeats schemas name x out s Back repeats
      → IsOffer schemas name x out s Back (record { repeats = repeats; starts = restores_out out s; keepings = []; turn = turn_restored (is_restored s); is_made = false })
  restoring repeats are = record {
    repeats = are;
    starts = starts;
    keepings = none_kept;
    turn = turned;
    made = λ e. let no : ⊥ = cc in absurd no;
  }

-- a call that is refused is told in parts
pub refused_parts : (s : StackState) → list_any (λ c. c.number == s.operation && (goes_back c.status && (is_update c.request && was_refused c))) s.ledger ≡ has_refused_restore s
refused_parts s =
    sym (any_filtered (λ c. goes_back c.status && is_update c.request) was_refused (own_calls s)
    ∙ any_filtered (λ c. c.number == s.operation) (λ c. (goes_back c.status && is_update c.request) && was_refused c) s.ledger
    ∙ alike s.ledger) where
      by : (a b c : Bool) → ((a && b) && c) ≡ (a && (b && c))
      by true b c = refl
      by false b c = refl

      alike : (cs : List Call) → list_any (λ c. c.number == s.operation && ((goes_back c.status && is_update c.request) && was_refused c)) cs
          ≡ list_any (λ c. c.number == s.operation && (goes_back c.status && (is_update c.request && was_refused c))) cs
      alike [] = refl
      alike (c ∷ cs) = λ i. (c.number == s.operation && by (goes_back c.status) (is_update c.request) (was_refused c) i) || alike cs i
