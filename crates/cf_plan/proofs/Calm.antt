-- Where no outcome is a refusal or a doubt, none fails the forward phase.
use Rattle.std.proofs.Common.{◌≡◌, inl, inr, Bool, true, false, List, [], ◌∷◌, ◌++◌, None, cond, refl, subst, true≢false}
use Rattle.std.specs.List.{list_any}
use Rattle.cf_tree.specs.Lists.{In, here, there}
use Rattle.cf_entry.specs.declared.entry.Entry.{Entry}
use Rattle.cf_entry.specs.declared.entry.Entry.TheVariants as entry
use Rattle.cf_entry.specs.declared.entry.Reply.TheVariants as reply
use Rattle.cf_schema.specs.declared.described.Schema.{Schema}
use Rattle.cf_effect.specs.Ahead.{is_setback}
use Rattle.cf_effect.specs.Operation.{after_last, before_first, forward_of, is_phase, is_turn_or_opening, now_of, up_to_last}
use Rattle.cf_effect.specs.World.{StackState}
use Rattle.cf_plan.specs.Forward.{doubting, first_failing, first_failing_behind, first_refusing, refusing}
use Rattle.cf_plan.proofs.Listed.{in_cons}
use Rattle.cf_plan.proofs.Members.{any_in, false_from, in_none, not_both}

module _ (schemas : List Schema) (s : StackState) where
  abbrev Calm : List Entry → Type 0
  Calm es = (e : Entry) → In e es → is_setback e ≡ false

  not_refusing : (e : Entry) → is_setback e ≡ false → refusing schemas s e ≡ None
  not_refusing (entry.Outcome n t (reply.Failed c) b a) h = absurd (true≢false h)
  not_refusing _ h = refl

  not_doubting : (earlier : List Entry) (e : Entry) → is_setback e ≡ false → doubting s earlier e ≡ None
  not_doubting earlier (entry.Outcome n t reply.Doubt b a) h = absurd (true≢false h)
  not_doubting earlier _ h = refl

  none_refusing : (es : List Entry) → Calm es → first_refusing schemas s es ≡ None
  none_refusing [] h = refl
  none_refusing (e ∷ es) h = rw (not_refusing e (h e here)) (none_refusing es (λ x i. h x (there i)))

  none_behind : (es earlier : List Entry) → Calm es → first_failing_behind schemas s earlier es ≡ None
  none_behind [] earlier h = refl
  none_behind (e ∷ es) earlier h =
      rw (not_refusing e (h e here)) (rw (not_doubting earlier e (h e here)) (none_behind es (earlier ++ e ∷ []) (λ x i. h x (there i))))

  pub none_fails : list_any is_setback s.entries ≡ false → first_failing schemas s ≡ None
  none_fails h =
      rw (none_refusing (up_to_last is_turn_or_opening (forward_of s)) (λ e i. calm e (in_before is_phase s.entries e (in_up is_turn_or_opening (forward_of s) e i))))
      (none_behind (now_of s) [] (λ e i. calm e (in_after is_turn_or_opening s.entries e i)))
    where
      calm : Calm s.entries
      calm e i = false_from (is_setback e) (λ t. not_both (list_any is_setback s.entries) (any_in is_setback e s.entries i t) h)

      in_up : (test : Entry → Bool) (es : List Entry) (x : Entry) → In x (up_to_last test es) → In x es
      in_up test [] x i = i
      in_up test (e ∷ es) x i = by (list_any test (e ∷ es)) (in_up test es x) i where
        by : (b : Bool) → (In x (up_to_last test es) → In x es) → In x (cond b (e ∷ up_to_last test es) []) → In x (e ∷ es)
        by true more j = elim (in_cons j) [ inl same ↦ subst (λ y. In y (e ∷ es)) same here | inr k ↦ there (more k) ]
        by false more j = absurd (in_none j)

      in_after : (test : Entry → Bool) (es : List Entry) (x : Entry) → In x (after_last test es) → In x es
      in_after test [] x i = i
      in_after test (e ∷ es) x i = by (list_any test es) (test e) (in_after test es x) i where
        by : (b c : Bool) → (In x (after_last test es) → In x es) → In x (cond b (after_last test es) (cond c es (e ∷ es))) → In x (e ∷ es)
        by true c more j = there (more j)
        by false true more j = there j
        by false false more j = j

      in_before : (test : Entry → Bool) (es : List Entry) (x : Entry) → In x (before_first test es) → In x es
      in_before test [] x i = i
      in_before test (e ∷ es) x i = by (test e) (in_before test es x) i where
        by : (b : Bool) → (In x (before_first test es) → In x es) → In x (cond b [] (e ∷ before_first test es)) → In x (e ∷ es)
        by true more j = absurd (in_none j)
        by false more j = elim (in_cons j) [ inl same ↦ subst (λ y. In y (e ∷ es)) same here | inr k ↦ there (more k) ]
