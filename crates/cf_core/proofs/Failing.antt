-- What fails a forward phase is among its stack's entries.
use Rattle.std.proofs.Common.{◌≡◌, ℕ, ◌==◌, ◌&&◌, List, [], ◌∷◌, ◌++◌, Bool, true, false, Option, Some, None, refl, ap, ◌∙◌}
use Rattle.std.specs.Prelude.{cond, is_some}
use Rattle.std.specs.List.{list_any}
use Rattle.std.specs.Option.{option_or}
use Rattle.cf_schema.specs.declared.described.Schema.{Schema}
use Rattle.cf_entry.specs.declared.entry.Entry.{Entry}
use Rattle.cf_entry.specs.declared.entry.Entry.TheVariants as entry
use Rattle.cf_entry.specs.declared.entry.Reply.{Reply}
use Rattle.cf_entry.specs.declared.entry.Reply.TheVariants as reply
use Rattle.cf_entry.specs.declared.turn.Reason.{Reason}
use Rattle.cf_entry.specs.declared.turn.Reason.TheVariants as reason
use Rattle.cf_effect.specs.World.{StackState}
use Rattle.cf_effect.specs.Operation.{before_first, up_to_last, after_last, is_phase, is_turn_or_opening, forward_of, now_of, doubts_in}
use Rattle.cf_effect.specs.Calls.{call_under}
use Rattle.cf_plan.specs.Forward.{is_refused_call, refusing, doubting, first_refusing, first_failing_behind, first_failing}
use Rattle.cf_tree.specs.Lists.{there}
use Rattle.cf_tree.specs.Lists.{here}
use Rattle.cf_tree.specs.Lists.{In}
use Rattle.cf_core.specs.Turned.{reason_in}

before_by : {A : Type 0} (test : A → Bool) (y : A) (xs : List A) (x : A) (b : Bool) → In x (cond b [] (y ∷ before_first test xs)) → (In x (before_first test xs) → In x xs) → In x (y ∷ xs)
before_by test y xs x true j ih = elim j [ ]
before_by test y xs x false here ih = here
before_by test y xs x false (there j) ih = there (ih j)

in_before : {A : Type 0} (test : A → Bool) (xs : List A) (x : A) → In x (before_first test xs) → In x xs
in_before test [] x i = elim i [ ]
in_before test (y ∷ xs) x i = before_by test y xs x (test y) i (in_before test xs x)

up_to_by : {A : Type 0} (test : A → Bool) (y : A) (xs : List A) (x : A) (b : Bool) → In x (cond b (y ∷ up_to_last test xs) []) → (In x (up_to_last test xs) → In x xs) → In x (y ∷ xs)
up_to_by test y xs x false j ih = elim j [ ]
up_to_by test y xs x true here ih = here
up_to_by test y xs x true (there j) ih = there (ih j)

in_up_to : {A : Type 0} (test : A → Bool) (xs : List A) (x : A) → In x (up_to_last test xs) → In x xs
in_up_to test [] x i = elim i [ ]
in_up_to test (y ∷ xs) x i = up_to_by test y xs x (list_any test (y ∷ xs)) i (in_up_to test xs x)

after_by : {A : Type 0} (test : A → Bool) (y : A) (xs : List A) (x : A) (b c : Bool) → In x (cond b (after_last test xs) (cond c xs (y ∷ xs))) → (In x (after_last test xs) → In x xs) → In x (y ∷ xs)
after_by test y xs x true c j ih = there (ih j)
after_by test y xs x false true j ih = there j
after_by test y xs x false false j ih = j

in_after : {A : Type 0} (test : A → Bool) (xs : List A) (x : A) → In x (after_last test xs) → In x xs
in_after test [] x i = elim i [ ]
in_after test (y ∷ xs) x i = after_by test y xs x (list_any test xs) (test y) i (in_after test xs x)

-- an outcome of this token that failed for this reason
pub record IsFailedOutcome (token : ℕ) (why : Reason) (e : Entry) : Type 0 where
  pub number : ℕ
  pub answer : Reply
  pub before : ℕ
  pub after : ℕ
  pub is : e ≡ entry.Outcome number token answer before after
  pub told : reason_in answer ≡ Some why

pub some_same : {A : Type 0} {x y : A} → Some x ≡ Some y → x ≡ y
some_same e = cc

none_some : {A : Type 0} {x : A} → None ≡ Some x → ⊥
none_some e = cc

module _ (token : ℕ) (why : Reason) where
  refused_so : (number t : ℕ) (answer : Reply) (given : Reason) (before after : ℕ) (b : Bool) → reason_in answer ≡ Some given → cond {A = Option (ℕ × Reason)} b (Some (t, given)) None ≡ Some (token, why) → IsFailedOutcome token why (entry.Outcome number t answer before after)
  refused_so number t answer given before after false r h = absurd (none_some h)
  refused_so number t answer given before after true r h = record {
    number = number;
    answer = answer;
    before = before;
    after = after;
    is = ap (λ (p : ℕ × Reason). entry.Outcome number p.0 answer before after) (some_same h);
    told = r ∙ ap (λ (p : ℕ × Reason). Some p.1) (some_same h);
  }

  refusing_says : (schemas : List Schema) (s : StackState) (e : Entry) → refusing schemas s e ≡ Some (token, why) → IsFailedOutcome token why e
  refusing_says schemas s (entry.Outcome number t (reply.Failed c) before after) h =
      refused_so number t (reply.Failed c) (reason.Code c) before after (is_refused_call schemas s (call_under t s) c) refl h
  refusing_says schemas s (entry.Outcome number t (reply.Success physical attrs) before after) h = absurd (none_some h)
  refusing_says schemas s (entry.Outcome number t reply.Doubt before after) h = absurd (none_some h)
  refusing_says schemas s (entry.Opened epoch lanes) h = absurd (none_some h)
  refusing_says schemas s (entry.Begin number name k) h = absurd (none_some h)
  refusing_says schemas s (entry.Kept number path physical w) h = absurd (none_some h)
  refusing_says schemas s (entry.Intent number t lane path r) h = absurd (none_some h)
  refusing_says schemas s (entry.Phase number p c) h = absurd (none_some h)
  refusing_says schemas s (entry.Done number state failed) h = absurd (none_some h)
  refusing_says schemas s (entry.ChangeSet number name source rows outputs) h = absurd (none_some h)

  doubting_says : (s : StackState) (earlier : List Entry) (e : Entry) → doubting s earlier e ≡ Some (token, why) → IsFailedOutcome token why e
  doubting_says s earlier (entry.Outcome number t reply.Doubt before after) h =
      refused_so number t reply.Doubt reason.Fault before after (is_some (call_under t s) && doubts_in t earlier == 2) refl h
  doubting_says s earlier (entry.Outcome number t (reply.Success physical attrs) before after) h = absurd (none_some h)
  doubting_says s earlier (entry.Outcome number t (reply.Failed c) before after) h = absurd (none_some h)
  doubting_says s earlier (entry.Opened epoch lanes) h = absurd (none_some h)
  doubting_says s earlier (entry.Begin number name k) h = absurd (none_some h)
  doubting_says s earlier (entry.Kept number path physical w) h = absurd (none_some h)
  doubting_says s earlier (entry.Intent number t lane path r) h = absurd (none_some h)
  doubting_says s earlier (entry.Phase number p c) h = absurd (none_some h)
  doubting_says s earlier (entry.Done number state failed) h = absurd (none_some h)
  doubting_says s earlier (entry.ChangeSet number name source rows outputs) h = absurd (none_some h)

  abbrev SomeFails : List Entry → Type 0
  SomeFails es = (e : Entry) × In e es × IsFailedOutcome token why e

  first_refusing_says : (schemas : List Schema) (s : StackState) (es : List Entry) → first_refusing schemas s es ≡ Some (token, why) → SomeFails es
  first_refusing_says schemas s [] h = absurd (none_some h)
  first_refusing_says schemas s (e ∷ es) h = by_first (refusing schemas s e) refl h (first_refusing_says schemas s es) where
    by_first : (o : Option (ℕ × Reason)) → refusing schemas s e ≡ o → option_or o (first_refusing schemas s es) ≡ Some (token, why) → (first_refusing schemas s es ≡ Some (token, why) → SomeFails es) → SomeFails (e ∷ es)
    by_first (Some f) q g ih = (e, here, refusing_says schemas s e (q ∙ g))
    by_first None q g ih = let r = ih g in (r.0, there r.1, r.2)

  first_behind_says : (schemas : List Schema) (s : StackState) (es earlier : List Entry) → first_failing_behind schemas s earlier es ≡ Some (token, why) → SomeFails es
  first_behind_says schemas s [] earlier h = absurd (none_some h)
  first_behind_says schemas s (e ∷ es) earlier h =
      by_first (refusing schemas s e) (doubting s earlier e) refl refl h (first_behind_says schemas s es (earlier ++ e ∷ [])) where
        by_first : (o d : Option (ℕ × Reason)) → refusing schemas s e ≡ o → doubting s earlier e ≡ d → option_or o (option_or d (first_failing_behind schemas s (earlier ++ e ∷ []) es)) ≡ Some (token, why) → (first_failing_behind schemas s (earlier ++ e ∷ []) es ≡ Some (token, why) → SomeFails es) → SomeFails (e ∷ es)
        by_first (Some f) d q p g ih = (e, here, refusing_says schemas s e (q ∙ g))
        by_first None (Some f) q p g ih = (e, here, doubting_says s earlier e (p ∙ g))
        by_first None None q p g ih = let r = ih g in (r.0, there r.1, r.2)

  -- what fails the phase is a failed outcome among the stack's entries
  pub failing_says : (schemas : List Schema) (s : StackState) → first_failing schemas s ≡ Some (token, why) → SomeFails s.entries
  failing_says schemas s h = by_first (first_refusing schemas s (up_to_last is_turn_or_opening (forward_of s))) refl h where
    by_first : (o : Option (ℕ × Reason)) → first_refusing schemas s (up_to_last is_turn_or_opening (forward_of s)) ≡ o → option_or o (first_failing_behind schemas s [] (now_of s)) ≡ Some (token, why) → SomeFails s.entries
    by_first (Some f) q g =
        let r = first_refusing_says schemas s (up_to_last is_turn_or_opening (forward_of s)) (q ∙ g) in
        (r.0, in_before is_phase s.entries r.0 (in_up_to is_turn_or_opening (forward_of s) r.0 r.1), r.2)
    by_first None q g = let r = first_behind_says schemas s (now_of s) [] g in (r.0, in_after is_turn_or_opening s.entries r.0 r.1, r.2)
