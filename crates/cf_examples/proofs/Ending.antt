-- When an operation is at its end: nothing that may come in its stage is left.
use Rattle.std.proofs.Common.{◌≡◌, ◌≢◌, inl, inr, ℕ, Bool, true, false, Option, Some, None, List, [], refl, sym, ◌∙◌, ap, subst, true≢false, ◌&&◌}
use Rattle.std.specs.Prelude.{not}
use Rattle.std.specs.List.{list_all, list_any}
use Rattle.cf_tree.specs.declared.request.Request.{Request}
use Rattle.cf_tree.specs.declared.request.Request.TheVariants as request
use Rattle.cf_tree.specs.Lists.{is_among}
use Rattle.cf_schema.specs.declared.described.Schema.{Schema}
use Rattle.cf_entry.specs.declared.entry.Entry.{Entry}
use Rattle.cf_entry.specs.declared.entry.Entry.TheVariants as entry
use Rattle.cf_entry.specs.declared.status.Status.TheVariants as status
use Rattle.cf_entry.specs.declared.turn.Why.{Why}
use Rattle.cf_entry.specs.declared.turn.Why.TheVariants as why
use Rattle.cf_entry.specs.declared.turn.Phase.{Phase}
use Rattle.cf_entry.specs.declared.turn.Phase.TheVariants as phase
use Rattle.cf_entry.specs.declared.turn.Cause.{Cause}
use Rattle.cf_effect.specs.declared.held.Held.{Held}
use Rattle.cf_effect.specs.declared.held.Pending.{Pending}
use Rattle.cf_effect.specs.World.{StackState, World}
use Rattle.cf_effect.specs.Status.{Stage, Forward, Clean, Back, BackClean, Gone, stage_of}
use Rattle.cf_effect.specs.Words.{resources_of, is_create_at}
use Rattle.cf_effect.specs.Calls.{was_updated, was_restored}
use Rattle.cf_effect.specs.Operation.{was_skipped, named_paths}
use Rattle.cf_plan.specs.Forward.{AllDone, HasFailed}
use Rattle.cf_tree.specs.Lists.{In}
use Rattle.cf_plan.specs.Follow.{IntendsDeletion, IntendsRestore, IsToRestore, MayDelete, MayKeep, MayTurn, MayStep, MayRepeat, IsAtEnd, may_repeat, is_untried, has_refused_restore, has_restore, cleaned_in, is_not_needed}
use Rattle.cf_plan.specs.Between.{is_needed_by_held}
use Rattle.cf_examples.proofs.Lists.{in_none, each_passes, none_passes}

-- The forward phase of a creation: all is done, and no call is open.
module _ (schemas : List Schema) (name : List ℕ) (x : World) (s : StackState) (creates : s.status ≡ status.CreateInProgress) (all : AllDone s) (sound : ¬ HasFailed schemas name x s) (none_open : s.tokens ≡ []) where
  create_turns : (p : Phase) (c : Option Cause) → MayTurn schemas name x s p c → ⊥
  create_turns phase.Clean None m = let e = m.0 in absurd (cc)
  create_turns phase.Clean (Some c) m = m
  create_turns phase.Back None m = m
  create_turns phase.Back (Some c) m = sound m.1
  create_turns phase.BackClean None m = let e = m.0 in absurd (cc)
  create_turns phase.BackClean (Some c) m = m

  create_keeps : (path physical : List ℕ) (w : Why) → MayKeep Forward [] s path physical w → ⊥
  create_keeps path physical why.Retained m = elim m [ inl k ↦ k.1 | inr k ↦ let e = k.0 in absurd (cc) ]
  create_keeps path physical why.Failed m = in_none m.0.1
  create_keeps path physical why.Doubt m = in_none m.0.1

  create_steps : (e : Entry) → MayStep schemas name x [] s Forward e → ⊥
  create_steps (entry.Opened epoch lanes) m = m
  create_steps (entry.Begin number stack kind) m = m
  create_steps (entry.Kept number path physical w) m = create_keeps path physical w m
  create_steps (entry.Intent number token lane path r) m = let (ok, ready, undone, chosen) = m.chosen in undone (all path ready.0)
  create_steps (entry.Outcome number token answer before after) m = m
  create_steps (entry.Phase number p c) m = create_turns p c m
  create_steps (entry.Done number state failed) m = m
  create_steps (entry.ChangeSet number stack source rows outputs) m = m

  create_repeats : (p : Pending) → MayRepeat schemas name x [] s Forward p → ⊥
  create_repeats p m = in_none (subst (In p) none_open m.1)

  pub end_of_create : IsAtEnd schemas name x s Forward
  end_of_create = (create_steps, create_repeats)

-- what a call would delete, give back or keep
no_deletion : (stage : Stage) (s : StackState) (path : List ℕ) (r : Request) → ((h : Held) → MayDelete stage s h → ⊥) → IntendsDeletion stage s path r → ⊥
no_deletion stage s path (request.Create k props) none m = m
no_deletion stage s path (request.Update physical props) none m = m
no_deletion stage s path (request.Delete physical) none m = none m.0 m.1

no_keep : (stage : Stage) (s : StackState) (path physical : List ℕ) (w : Why) → ((h : Held) → MayDelete stage s h → ⊥) → (stage ≡ Gone → is_among path (named_paths s) ≡ true → list_any (is_create_at path) s.tokens ≡ true → ⊥) → cleaned_in stage s ≡ [] → MayKeep stage [] s path physical w → ⊥
no_keep stage s path physical why.Retained none closed cleaned m = elim m [ inl k ↦ none k.0 k.1 | inr k ↦ closed k.0 k.2 k.3 ]
no_keep stage s path physical why.Failed none closed cleaned m = in_none (subst (In m.0.0) cleaned m.0.1)
no_keep stage s path physical why.Doubt none closed cleaned m = in_none (subst (In m.0.0) cleaned m.0.1)

no_restore : (s : StackState) (path : List ℕ) (r : Request) → (s.status ≢ status.UpdateRollbackInProgress) → IntendsRestore s path r → ⊥
no_restore s path (request.Create k props) other m = m
no_restore s path (request.Update physical props) other m = other m.0
no_restore s path (request.Delete physical) other m = m

-- which phases a status can turn into
stays_clean : (schemas : List Schema) (name : List ℕ) (x : World) (s : StackState) (p : Phase) (c : Option Cause) → (s.status ≢ status.UpdateInProgress) → (stage_of s.status ≢ Some Forward) → (s.status ≢ status.UpdateRollbackInProgress) → MayTurn schemas name x s p c → ⊥
stays_clean schemas name x s phase.Clean None a b d m = a m.0
stays_clean schemas name x s phase.Clean (Some c) a b d m = m
stays_clean schemas name x s phase.Back None a b d m = m
stays_clean schemas name x s phase.Back (Some c) a b d m = b m.0
stays_clean schemas name x s phase.BackClean None a b d m = d m.0
stays_clean schemas name x s phase.BackClean (Some c) a b d m = m

stays_back : (schemas : List Schema) (name : List ℕ) (x : World) (s : StackState) (p : Phase) (c : Option Cause) → (s.status ≢ status.UpdateInProgress) → (stage_of s.status ≢ Some Forward) → (s.tokens ≡ [] → has_refused_restore s ≡ false → ⊥) → MayTurn schemas name x s p c → ⊥
stays_back schemas name x s phase.Clean None a b d m = a m.0
stays_back schemas name x s phase.Clean (Some c) a b d m = m
stays_back schemas name x s phase.Back None a b d m = m
stays_back schemas name x s phase.Back (Some c) a b d m = b m.0
stays_back schemas name x s phase.BackClean None a b d m = d m.1 m.3
stays_back schemas name x s phase.BackClean (Some c) a b d m = m

-- no open call may be repeated
no_repeat : (stage : Stage) (s : StackState) (p : Pending) → list_any (may_repeat stage [] s) s.tokens ≡ false → In p s.tokens → may_repeat stage [] s p ≡ true → ⊥
no_repeat stage s p none i e = true≢false (sym e ∙ none_passes (may_repeat stage [] s) s.tokens p none i)

-- The cleanup of an update: nothing is superseded.
module _ (schemas : List Schema) (name : List ℕ) (x : World) (s : StackState) (cleans : s.status ≡ status.UpdateCompleteCleanupInProgress) (none_left : cleaned_in Clean s ≡ []) (all_left : list_all (λ r. not r.superseded) s.held ≡ true) (none_open : list_any (may_repeat Clean [] s) s.tokens ≡ false) where
  clean_deletes : (r : Held) → MayDelete Clean s r → ⊥
  clean_deletes r m = true≢false (sym (each_passes (λ (h : Held). not h.superseded) s.held r all_left m.0) ∙ ap not m.1)

  clean_steps : (e : Entry) → MayStep schemas name x [] s Clean e → ⊥
  clean_steps (entry.Opened epoch lanes) m = m
  clean_steps (entry.Begin number stack kind) m = m
  clean_steps (entry.Kept number path physical w) m = no_keep Clean s path physical w clean_deletes (λ e. absurd (cc)) none_left m
  clean_steps (entry.Intent number token lane path r) m = no_deletion Clean s path r clean_deletes m.chosen
  clean_steps (entry.Outcome number token answer before after) m = m
  clean_steps (entry.Phase number p c) m = stays_clean schemas name x s p c (λ e. cc) (λ e. not_forward (ap stage_of (sym cleans) ∙ e)) (λ e. cc) m
    where
      not_forward : Some Clean ≡ Some Forward → ⊥
      not_forward e = cc
  clean_steps (entry.Done number state failed) m = m
  clean_steps (entry.ChangeSet number stack source rows outputs) m = m

  pub end_of_clean : IsAtEnd schemas name x s Clean
  end_of_clean = (clean_steps, λ p m. no_repeat Clean s p none_open m.0 m.1)

-- The rollback of a creation: what was made is gone, or its deletion was tried, or what needs it is there.
module _ (schemas : List Schema) (name : List ℕ) (x : World) (s : StackState) (rolls : s.status ≡ status.RollbackInProgress) (none_left : list_all (λ r. not (is_not_needed s r && is_untried s r)) s.made ≡ true) (none_open : list_any (may_repeat Back [] s) s.tokens ≡ false) where
  roll_deletes : (r : Held) → MayDelete Back s r → ⊥
  roll_deletes r m = true≢false (sym (each_passes (λ (h : Held). not (is_not_needed s h && is_untried s h)) s.made r none_left m.1) ∙ ap not (both (is_not_needed s r) (is_untried s r) m.2 m.3))
    where
      both : (a b : Bool) → a ≡ true → b ≡ true → (a && b) ≡ true
      both true b e f = f
      both false b e f = e

  roll_steps : (e : Entry) → MayStep schemas name x [] s Back e → ⊥
  roll_steps (entry.Opened epoch lanes) m = m
  roll_steps (entry.Begin number stack kind) m = m
  roll_steps (entry.Kept number path physical w) m = no_keep Back s path physical w roll_deletes (λ e. absurd (cc)) refl m
  roll_steps (entry.Intent number token lane path r) m = elim m.chosen [ inl k ↦ no_deletion Back s path r roll_deletes k | inr k ↦ no_restore s path r (λ e. cc) k ]
  roll_steps (entry.Outcome number token answer before after) m = m
  roll_steps (entry.Phase number p c) m = stays_clean schemas name x s p c (λ e. cc) (λ e. not_forward (ap stage_of (sym rolls) ∙ e)) (λ e. cc) m
    where
      not_forward : Some Back ≡ Some Forward → ⊥
      not_forward e = cc
  roll_steps (entry.Done number state failed) m = m
  roll_steps (entry.ChangeSet number stack source rows outputs) m = m

  pub end_of_rollback : IsAtEnd schemas name x s Back
  end_of_rollback = (roll_steps, λ p m. no_repeat Back s p none_open m.0 m.1)

-- The cleanup of a rollback: nothing that was made is left.
module _ (schemas : List Schema) (name : List ℕ) (x : World) (s : StackState) (cleans : s.status ≡ status.UpdateRollbackCompleteCleanupInProgress) (none_made : s.made ≡ []) (none_open : list_any (may_repeat BackClean [] s) s.tokens ≡ false) where
  back_deletes : (r : Held) → MayDelete BackClean s r → ⊥
  back_deletes r m = in_none (subst (In r) none_made m.0)

  back_steps : (e : Entry) → MayStep schemas name x [] s BackClean e → ⊥
  back_steps (entry.Opened epoch lanes) m = m
  back_steps (entry.Begin number stack kind) m = m
  back_steps (entry.Kept number path physical w) m = no_keep BackClean s path physical w back_deletes (λ e. absurd (cc)) none_made m
  back_steps (entry.Intent number token lane path r) m = no_deletion BackClean s path r back_deletes m.chosen
  back_steps (entry.Outcome number token answer before after) m = m
  back_steps (entry.Phase number p c) m = stays_clean schemas name x s p c (λ e. cc) (λ e. not_forward (ap stage_of (sym cleans) ∙ e)) (λ e. cc) m
    where
      not_forward : Some BackClean ≡ Some Forward → ⊥
      not_forward e = cc
  back_steps (entry.Done number state failed) m = m
  back_steps (entry.ChangeSet number stack source rows outputs) m = m

  pub end_of_back_clean : IsAtEnd schemas name x s BackClean
  end_of_back_clean = (back_steps, λ p m. no_repeat BackClean s p none_open m.0 m.1)

-- A deletion: what is held or made is gone, or its deletion was tried, or what needs it is there.
abbrev pub may_go : StackState → Held → Bool
may_go s r = is_not_needed s r && (not (is_needed_by_held s r) && is_untried s r)

module _ (schemas : List Schema) (name : List ℕ) (x : World) (s : StackState) (goes : s.status ≡ status.DeleteInProgress) (none_left : list_all (λ r. not (may_go s r)) (resources_of s) ≡ true) (none_open : list_any (may_repeat Gone [] s) s.tokens ≡ false) (asked : (path : List ℕ) → is_among path (named_paths s) ≡ true → list_any (is_create_at path) s.tokens ≡ true → ⊥) where
  gone_deletes : (r : Held) → MayDelete Gone s r → ⊥
  gone_deletes r m = true≢false (sym (each_passes (λ (h : Held). not (may_go s h)) (resources_of s) r none_left m.0) ∙ ap not (all_three (is_not_needed s r) (is_needed_by_held s r) (is_untried s r) m.1 m.2 m.3))
    where
      all_three : (a b c : Bool) → a ≡ true → b ≡ false → c ≡ true → (a && (not b && c)) ≡ true
      all_three true false c e f g = g
      all_three true true c e f g = sym f
      all_three false b c e f g = e

  gone_steps : (e : Entry) → MayStep schemas name x [] s Gone e → ⊥
  gone_steps (entry.Opened epoch lanes) m = m
  gone_steps (entry.Begin number stack kind) m = m
  gone_steps (entry.Kept number path physical w) m = no_keep Gone s path physical w gone_deletes (λ e. asked path) refl m
  gone_steps (entry.Intent number token lane path r) m = no_deletion Gone s path r gone_deletes m.chosen
  gone_steps (entry.Outcome number token answer before after) m = m
  gone_steps (entry.Phase number p c) m = stays_clean schemas name x s p c (λ e. cc) (λ e. not_forward (ap stage_of (sym goes) ∙ e)) (λ e. cc) m
    where
      not_forward : Some Gone ≡ Some Forward → ⊥
      not_forward e = cc
  gone_steps (entry.Done number state failed) m = m
  gone_steps (entry.ChangeSet number stack source rows outputs) m = m

  end_of_gone : IsAtEnd schemas name x s Gone
  end_of_gone = (gone_steps, λ p m. no_repeat Gone s p none_open m.0 m.1)

pub end_of_deletion : (schemas : List Schema) (name : List ℕ) (x : World) (s : StackState) → s.status ≡ status.DeleteInProgress → list_all (λ r. not (may_go s r)) (resources_of s) ≡ true → s.tokens ≡ [] → IsAtEnd schemas name x s Gone
end_of_deletion schemas name x s goes none_left closed = end_of_gone schemas name x s goes none_left (ap (list_any (may_repeat Gone [] s)) closed) (λ path among made. true≢false (sym made ∙ ap (list_any (is_create_at path)) closed))

-- where the command names no path, calls may stay open
pub end_of_failed_deletion : (schemas : List Schema) (name : List ℕ) (x : World) (s : StackState) → s.status ≡ status.DeleteInProgress → list_all (λ r. not (may_go s r)) (resources_of s) ≡ true → list_any (may_repeat Gone [] s) s.tokens ≡ false → named_paths s ≡ [] → IsAtEnd schemas name x s Gone
end_of_failed_deletion schemas name x s goes none_left none_open none_named = end_of_gone schemas name x s goes none_left none_open (λ path among made. true≢false (sym among ∙ ap (is_among path) none_named))

-- The rollback of an update: nothing is left to give back, and yet the cleanup can't begin.
abbrev pub is_open_restore : StackState → Held → Bool
is_open_restore s b = was_updated b.physical s && (not (was_restored b.physical s) && (not (was_skipped b.path s) && not (has_restore b.physical s)))

abbrev pub is_to_restore : StackState → Held → Bool
is_to_restore s b = was_updated b.physical s && (not (was_restored b.physical s) && not (was_skipped b.path s))

pub nothing_to_restore : (s : StackState) → list_all (λ b. not (is_to_restore s b)) s.before ≡ true → (b : Held) → IsToRestore s b → ⊥
nothing_to_restore s none b m = true≢false (sym (each_passes (λ (h : Held). not (is_to_restore s h)) s.before b none m.0) ∙ ap not (all_three (was_updated b.physical s) (was_restored b.physical s) (was_skipped b.path s) m.1 m.2 m.3))
  where
    all_three : (a b c : Bool) → a ≡ true → b ≡ false → c ≡ false → (a && (not b && not c)) ≡ true
    all_three true false false e f g = refl
    all_three true false true e f g = sym g
    all_three true true c e f g = sym f
    all_three false b c e f g = e

module _ (schemas : List Schema) (name : List ℕ) (x : World) (s : StackState) (rolls : s.status ≡ status.UpdateRollbackInProgress) (none_left : list_all (λ b. not (is_open_restore s b)) s.before ≡ true) (stopped : s.tokens ≡ [] → has_refused_restore s ≡ false → ⊥) (none_open : list_any (may_repeat Back [] s) s.tokens ≡ false) where
  undo_deletes : (r : Held) → MayDelete Back s r → ⊥
  undo_deletes r m = let e = m.0 in cc

  undo_restores : (path : List ℕ) (r : Request) → IntendsRestore s path r → ⊥
  undo_restores path (request.Create k props) m = m
  undo_restores path (request.Update physical props) (rolling, b, (i, updated, restored, skipped), at_path, id, props_are, new) =
      true≢false (sym (each_passes (λ (h : Held). not (is_open_restore s h)) s.before b none_left i) ∙ ap not (all_four (was_updated b.physical s) (was_restored b.physical s) (was_skipped b.path s) (has_restore b.physical s) updated restored skipped (subst (λ q. has_restore q s ≡ false) id new)))
    where
      all_four : (a b c d : Bool) → a ≡ true → b ≡ false → c ≡ false → d ≡ false → (a && (not b && (not c && not d))) ≡ true
      all_four true false false false e f g h = refl
      all_four true false false true e f g h = sym h
      all_four true false true d e f g h = sym g
      all_four true true c d e f g h = sym f
      all_four false b c d e f g h = e
  undo_restores path (request.Delete physical) m = m

  undo_steps : (e : Entry) → MayStep schemas name x [] s Back e → ⊥
  undo_steps (entry.Opened epoch lanes) m = m
  undo_steps (entry.Begin number stack kind) m = m
  undo_steps (entry.Kept number path physical w) m = no_keep Back s path physical w undo_deletes (λ e. absurd (cc)) refl m
  undo_steps (entry.Intent number token lane path r) m = elim m.chosen [ inl k ↦ no_deletion Back s path r undo_deletes k | inr k ↦ undo_restores path r k ]
  undo_steps (entry.Outcome number token answer before after) m = m
  undo_steps (entry.Phase number p c) m = stays_back schemas name x s p c (λ e. cc) (λ e. not_forward (ap stage_of (sym rolls) ∙ e)) stopped m
    where
      not_forward : Some Back ≡ Some Forward → ⊥
      not_forward e = cc
  undo_steps (entry.Done number state failed) m = m
  undo_steps (entry.ChangeSet number stack source rows outputs) m = m

  pub end_of_undoing : IsAtEnd schemas name x s Back
  end_of_undoing = (undo_steps, λ p m. no_repeat Back s p none_open m.0 m.1)
