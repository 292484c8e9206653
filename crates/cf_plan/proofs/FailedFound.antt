-- Whether a forward phase has failed is decided, and why; what has not failed it was refused with an excuse, or was in doubt less
-- than three times.
use Rattle.std.proofs.Common.{◌≡◌, ◌⊎◌, inl, inr, ℕ, ◌+◌, ◌≤◌, ◌==◌, Bool, true, false, ◌&&◌, ◌||◌, List, ◌∷◌, ◌++◌, Option, Some, None, refl, sym, ap, subst, ◌∙◌, true≢false, filter, length, append_assoc, length-append, option_map, arith, []}
use Rattle.cf_plan.specs.Done.{AreDone}
use Rattle.cf_effect.specs.declared.call.Call.{Call}
use Rattle.cf_entry.specs.declared.turn.Cause.{Cause}
use Rattle.cf_entry.specs.declared.entry.Entry.{Entry}
use Rattle.cf_plan.specs.Forward.{HasFailed, IsCause, doubting, first_failing, first_failing_behind, first_refusing, is_refused_call, path_of_token, plan_before, plan_now, refusing}
use Rattle.cf_tree.specs.Lists.{there}
use Rattle.cf_tree.specs.Lists.{here}
use Rattle.cf_tree.specs.Lists.{In}
use Rattle.cf_entry.specs.declared.turn.Reason.{Reason}
use Rattle.cf_effect.specs.Operation.{Response, after_last, before_first, doubts_in, forward_of, is_doubt, is_phase, is_turn_or_opening, now_of, replies_in, reply_in, up_to_last}
use Rattle.cf_schema.specs.declared.described.Schema.{Schema}
use Rattle.cf_tree.specs.declared.source.Source.{Source}
use Rattle.cf_effect.specs.World.{StackState, World}
use Rattle.cf_effect.specs.Calls.{call_under as call_of}
use Rattle.std.specs.Prelude.{count_by, cond, is_some}
use Rattle.std.specs.List.{list_any}
use Rattle.std.specs.Option.{option_or}
use Rattle.std.proofs.lemmas.List.{append-nil}
use Rattle.std.proofs.lemmas.Bool.{and_from, eqb-false, eqb-true}
use Rattle.std.proofs.lemmas.List.Elements.{filter-append, filter_map-append}
use Rattle.cf_plan.proofs.RunLists.{in_back, in_either, in_front, to_mapped}
use Rattle.std.proofs.lemmas.List.Sums.{length-filter}
use Rattle.cf_plan.specs.declared.cause.Failure.{Failure}
use Rattle.cf_plan.specs.declared.cause.Failure.TheVariants.{Because, Nothing}
use Rattle.cf_plan.specs.Causes.{IsFailureOf, plan_failure}
use Rattle.cf_plan.proofs.Causing.{tells}
use Rattle.cf_plan.proofs.DoneFound.{terms_are}
use Rattle.cf_entry.proofs.Codec.{some_is}
use Rattle.cf_plan.proofs.ChangedLists.{none_if}
use Rattle.cf_entry.specs.declared.entry.Entry.TheVariants as entry
use Rattle.cf_entry.specs.declared.entry.Reply.TheVariants as reply
use Rattle.cf_entry.specs.declared.turn.Cause.TheVariants as cause
use Rattle.cf_entry.specs.declared.turn.Reason.TheVariants as reason

-- neither of two is there
neither : {A : Type 0} (a b : Option A) → option_or a b ≡ None → (a ≡ None) × (b ≡ None)
neither None b e = (refl, e)
neither (Some x) b e = let no : ⊥ = cc in absurd no

either_is : {A : Type 0} (a b : Option A) (x : A) → option_or a b ≡ Some x → (a ≡ Some x) ⊎ (b ≡ Some x)
either_is None b x e = inr e
either_is (Some y) b x e = inl e

-- A list falls into what comes up to the last that passes, and what comes after it.
module _ {A : Type 0} (test : A → Bool) where
  pub none_before : (xs : List A) → list_any test xs ≡ false → before_first test xs ≡ xs
  none_before [] e = refl
  none_before (x ∷ xs) e = by (test x) e (none_before xs) where
    by : (b : Bool) → (b || list_any test xs) ≡ false → (list_any test xs ≡ false → before_first test xs ≡ xs) → cond b [] (x ∷ before_first test xs) ≡ x ∷ xs
    by true f ih = absurd (true≢false f)
    by false f ih = ap (λ ys. x ∷ ys) (ih f)

  none_up : (xs : List A) → list_any test xs ≡ false → up_to_last test xs ≡ []
  none_up [] e = refl
  none_up (x ∷ xs) e = ap (λ b. cond b (x ∷ up_to_last test xs) []) e

  parts : (xs : List A) → up_to_last test xs ++ after_last test xs ≡ xs
  parts [] = refl
  parts (x ∷ xs) = by (list_any test xs) refl (test x) (parts xs) where
    by : (b : Bool) → list_any test xs ≡ b → (c : Bool) → up_to_last test xs ++ after_last test xs ≡ xs
        → cond (c || b) (x ∷ up_to_last test xs) [] ++ cond b (after_last test xs) (cond c xs (x ∷ xs)) ≡ x ∷ xs
    by true e true ih = ap (λ ys. x ∷ ys) ih
    by true e false ih = ap (λ ys. x ∷ ys) ih
    by false e true ih = ap (λ ys. x ∷ (ys ++ xs)) (none_up xs e)
    by false e false ih = refl

-- The outcomes that fail the phase.
module _ (schemas : List Schema) (s : StackState) where
  none_refusing : (es : List Entry) → first_refusing schemas s es ≡ None → (e : Entry) → In e es → refusing schemas s e ≡ None
  none_refusing (e ∷ es) n d here = (neither (refusing schemas s e) (first_refusing schemas s es) n).0
  none_refusing (e ∷ es) n d (there i) = none_refusing es (neither (refusing schemas s e) (first_refusing schemas s es) n).1 d i
  none_refusing [] n e i = elim i [ ]

  none_behind : (earlier es : List Entry) → first_failing_behind schemas s earlier es ≡ None → (e : Entry) → In e es → refusing schemas s e ≡ None
  none_behind earlier (e ∷ es) n d here = (neither (refusing schemas s e) _ n).0
  none_behind earlier (e ∷ es) n d (there i) =
      none_behind (earlier ++ e ∷ []) es (neither (doubting s earlier e) _ (neither (refusing schemas s e) _ n).1).1 d i
  none_behind earlier [] n e i = elim i [ ]

  -- the token of one is that of an outcome
  abbrev IsAnswered : ℕ × Reason → Entry → Type 0
  IsAnswered a e = (r : Response) × (reply_in e ≡ Some r) × (r.token ≡ a.0)

  refusing_of : (e : Entry) (a : ℕ × Reason) → refusing schemas s e ≡ Some a → IsAnswered a e
  refusing_of (entry.Outcome number token (reply.Failed k) before after) a f =
      (record { token = token; answer = reply.Failed k; before = before; after = after }, refl, by (is_refused_call schemas s (call_of token s) k) f) where
        by : (b : Bool) → cond b (Some (token, reason.Code k)) None ≡ Some a → token ≡ a.0
        by true g = ap (λ (p : ℕ × Reason). p.0) (some_is (token, reason.Code k) a g)
        by false g = let no : ⊥ = cc in absurd no
  refusing_of e a f = let no : ⊥ = cc in absurd no

  doubting_of : (earlier : List Entry) (e : Entry) (a : ℕ × Reason) → doubting s earlier e ≡ Some a → IsAnswered a e
  doubting_of earlier (entry.Outcome number token reply.Doubt before after) a f =
      (record { token = token; answer = reply.Doubt; before = before; after = after }, refl, by (is_some (call_of token s) && doubts_in token earlier == 2) f) where
        by : (b : Bool) → cond b (Some (token, reason.Fault)) None ≡ Some a → token ≡ a.0
        by true g = ap (λ (p : ℕ × Reason). p.0) (some_is (token, reason.Fault) a g)
        by false g = let no : ⊥ = cc in absurd no
  doubting_of earlier e a f = let no : ⊥ = cc in absurd no

  abbrev IsAnsweredIn : ℕ × Reason → List Entry → Type 0
  IsAnsweredIn a es = (e : Entry) × In e es × IsAnswered a e

  refused_in : (es : List Entry) (a : ℕ × Reason) → first_refusing schemas s es ≡ Some a → IsAnsweredIn a es
  refused_in [] a f = let no : ⊥ = cc in absurd no
  refused_in (e ∷ es) a f = by (either_is (refusing schemas s e) (first_refusing schemas s es) a f) (refused_in es a) where
    by : (refusing schemas s e ≡ Some a) ⊎ (first_refusing schemas s es ≡ Some a) → (first_refusing schemas s es ≡ Some a → IsAnsweredIn a es) → IsAnsweredIn a (e ∷ es)
    by (inl g) ih = (e, here, refusing_of e a g)
    by (inr g) ih = let w = ih g in (w.0, there w.1, w.2)

  failed_in : (earlier es : List Entry) (a : ℕ × Reason) → first_failing_behind schemas s earlier es ≡ Some a → IsAnsweredIn a es
  failed_in earlier [] a f = let no : ⊥ = cc in absurd no
  failed_in earlier (e ∷ es) a f = by (either_is (refusing schemas s e) _ a f) (failed_in (earlier ++ e ∷ []) es a) where
    more : (doubting s earlier e ≡ Some a) ⊎ (first_failing_behind schemas s (earlier ++ e ∷ []) es ≡ Some a)
        → (first_failing_behind schemas s (earlier ++ e ∷ []) es ≡ Some a → IsAnsweredIn a es) → IsAnsweredIn a (e ∷ es)
    more (inl g) ih = (e, here, doubting_of earlier e a g)
    more (inr g) ih = let w = ih g in (w.0, there w.1, w.2)

    by : (refusing schemas s e ≡ Some a) ⊎ (option_or (doubting s earlier e) (first_failing_behind schemas s (earlier ++ e ∷ []) es) ≡ Some a)
        → (first_failing_behind schemas s (earlier ++ e ∷ []) es ≡ Some a → IsAnsweredIn a es) → IsAnsweredIn a (e ∷ es)
    by (inl g) ih = (e, here, refusing_of e a g)
    by (inr g) ih = more (either_is (doubting s earlier e) _ a g) ih

  -- how often a token is in doubt
  pub doubts_both : (token : ℕ) (xs ys : List Entry) → doubts_in token (xs ++ ys) ≡ doubts_in token xs + doubts_in token ys
  doubts_both token xs ys =
      ap (count_by test) (filter_map-append reply_in xs ys) ∙ sym (length-filter test (replies_in xs ++ replies_in ys))
      ∙ ap length (filter-append test (replies_in xs) (replies_in ys)) ∙ length-append (filter test (replies_in xs)) (filter test (replies_in ys))
      ∙ (λ i. length-filter test (replies_in xs) i + length-filter test (replies_in ys) i) where
        test : Response → Bool
        test r = token == r.token && is_doubt r.answer

  no_doubt : (b : Bool) (n : ℕ) → n ≤ 2 → n + (0 + cond (b && false) 1 0) ≤ 2
  no_doubt true n l = omega (arith, l)
  no_doubt false n l = omega (arith, l)

  -- a doubt more of a call leaves less than three, where none fails the phase
  one_doubt : (token : ℕ) → is_some (call_of token s) ≡ true → (earlier : List Entry) (e : Entry) → doubting s earlier e ≡ None → doubts_in token earlier ≤ 2
      → doubts_in token earlier + doubts_in token (e ∷ []) ≤ 2
  one_doubt token row earlier (entry.Outcome number other reply.Doubt before after) n l = by (token == other) refl where
    by : (b : Bool) → (token == other) ≡ b → doubts_in token earlier + (0 + cond (b && true) 1 0) ≤ 2
    by false e = omega (arith, l)
    by true e = two (doubts_in token earlier == 2) refl where
      two : (c : Bool) → (doubts_in token earlier == 2) ≡ c → doubts_in token earlier + (0 + cond (true && true) 1 0) ≤ 2
      two true f =
          let same = ap (λ t. is_some (call_of t s) && doubts_in t earlier == 2) (sym (eqb-true token other e)) ∙ and_from (is_some (call_of token s)) _ row f in
          let some : ◌≡◌ {A = Option (ℕ × Reason)} (Some (other, reason.Fault)) None = sym (ap (λ c. cond c (Some (other, reason.Fault)) None) same) ∙ n in
          let no : ⊥ = cc in absurd no
      two false f = let less = eqb-false (doubts_in token earlier) 2 f in omega (arith, l, less)
  one_doubt token row earlier (entry.Outcome number other (reply.Success physical attrs) before after) n l = no_doubt (token == other) (doubts_in token earlier) l
  one_doubt token row earlier (entry.Outcome number other (reply.Failed k) before after) n l = no_doubt (token == other) (doubts_in token earlier) l
  one_doubt token row earlier e n l = omega (arith, l)

  few_doubts : (token : ℕ) → is_some (call_of token s) ≡ true → (earlier es : List Entry) → first_failing_behind schemas s earlier es ≡ None → doubts_in token earlier ≤ 2
      → doubts_in token (earlier ++ es) ≤ 2
  few_doubts token row earlier [] n l = subst (λ xs. doubts_in token xs ≤ 2) (sym (append-nil earlier)) l
  few_doubts token row earlier (e ∷ es) n l =
      let m = neither (doubting s earlier e) _ (neither (refusing schemas s e) _ n).1 in
      subst (λ xs. doubts_in token xs ≤ 2) (append_assoc earlier (e ∷ []) es)
      (few_doubts token row (earlier ++ e ∷ []) es m.1 (subst (λ k. k ≤ 2) (sym (doubts_both token earlier (e ∷ []))) (one_doubt token row earlier e m.0 l)))

  -- what did not fail the phase
  module _ (none : first_failing schemas s ≡ None) where
    pub not_thrice : (token : ℕ) → is_some (call_of token s) ≡ true → 3 ≤ doubts_in token (now_of s) → ⊥
    not_thrice token row l = let k = few_doubts token row [] (now_of s) (neither (first_refusing schemas s (up_to_last is_turn_or_opening (forward_of s))) _ none).1
        (omega arith) in omega (arith, k, l)

    pub excused : list_any is_phase s.entries ≡ false → (e : Entry) → In e s.entries → refusing schemas s e ≡ None
    excused no_phase e i = elim (in_either e (up_to_last is_turn_or_opening s.entries) _ (subst (In e) (sym (parts is_turn_or_opening s.entries)) i)) [
      | inl j ↦ none_refusing (up_to_last is_turn_or_opening (forward_of s))
          (neither (first_refusing schemas s (up_to_last is_turn_or_opening (forward_of s))) _ none).0 e
          (subst (λ es. In e (up_to_last is_turn_or_opening es)) (sym (none_before is_phase s.entries no_phase)) j)
      | inr j ↦ none_behind [] (now_of s) (neither (first_refusing schemas s (up_to_last is_turn_or_opening (forward_of s))) _ none).1 e j
    ]

  -- and what did was written down
  pub failing_in : list_any is_phase s.entries ≡ false → (a : ℕ × Reason) → first_failing schemas s ≡ Some a → IsAnsweredIn a s.entries
  failing_in no_phase a f = elim (either_is (first_refusing schemas s (up_to_last is_turn_or_opening (forward_of s))) _ a f) [
    | inl g ↦ (let w = refused_in (up_to_last is_turn_or_opening (forward_of s)) a g in
        (w.0, subst (In w.0) (none_before is_phase s.entries no_phase) (subst (In w.0) (parts is_turn_or_opening (forward_of s)) (in_front w.0 _ (after_last is_turn_or_opening (forward_of s)) w.1)), w.2))
    | inr g ↦ (let w = failed_in [] (now_of s) a g in (w.0, subst (In w.0) (parts is_turn_or_opening s.entries) (in_back w.0 (up_to_last is_turn_or_opening s.entries) _ w.1), w.2))
  ]

-- the phase has failed, for a cause, or it has not
pub failed_or :
    (schemas : List Schema) (name : List ℕ) (x : World) (s : StackState) (source : Source) → s.going ≡ Some source → (done : List (List ℕ)) → AreDone s done
    → list_any is_phase s.entries ≡ false → ((r : Response) → In r (replies_in s.entries) → (c : Call) × (call_of r.token s ≡ Some c))
    → (HasFailed schemas name x s × ((c : Cause) × IsCause schemas name x s c)) ⊎ (HasFailed schemas name x s → ⊥)
failed_or schemas name x s source going done are no_phase called = by (first_failing schemas s) refl where
  by : (o : Option (ℕ × Reason)) → first_failing schemas s ≡ o
      → (HasFailed schemas name x s × ((c : Cause) × IsCause schemas name x s c)) ⊎ (HasFailed schemas name x s → ⊥)
  by None f = by_failure (plan_failure name x (plan_before s) (plan_now s) done) (tells schemas name x s done are (plan_before s) (terms_are s source going) None f) where
    by_failure : (v : Failure) → IsFailureOf schemas name x s v
        → (HasFailed schemas name x s × ((c : Cause) × IsCause schemas name x s c)) ⊎ (HasFailed schemas name x s → ⊥)
    by_failure Nothing n = inr n
    by_failure (Because c) w = inl (w.0, (c, w.1))
  by (Some a) f =
      let w = failing_in schemas s no_phase a f in
      let r = w.2.0 in
      let c = called r (to_mapped reply_in s.entries w.0 r w.1 w.2.1) in
      let path : path_of_token a.0 s ≡ Some c.0.path = ap (λ t. path_of_token t s) (sym w.2.2) ∙ ap (option_map (λ (d : Call). d.path)) c.1 in
      inl (inl (a, f), (cause.Handler c.0.path a.1, (a.0, f, path)))

-- where it has not, no outcome failed it
pub none_failing : (schemas : List Schema) (name : List ℕ) (x : World) (s : StackState) → (HasFailed schemas name x s → ⊥) → first_failing schemas s ≡ None
none_failing schemas name x s good = none_if (first_failing schemas s) (λ a f. good (inl (a, f)))
