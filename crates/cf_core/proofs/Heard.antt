-- What a stack has heard, whatever the entries are: each of its entries is one of the journal's, and an opening is heard by each stack on which
-- an operation ever began.
use Rattle.std.proofs.Common.{◌≡◌, ◌⊎◌, inl, inr, ℕ, ◌+◌, true, false, List, [], ◌∷◌, ◌++◌, Option, Some, None, refl, sym, ap, subst, ◌∙◌, true≢false}
use Rattle.std.specs.Option.{option_map}
use Rattle.cf_core.proofs.Words.{Begun, Entry, In, IsTrue, StackState, Status, World, after_last, creates_from, effect_at, empty_world, entries_with, fold_of, is_done_entry, is_opened_since, is_opening, list_any, reviewed, stack_at}
use Rattle.cf_core.proofs.Lemmas.{any_of, in_end, in_one, some_is, value_under}
use Rattle.cf_core.proofs.{Alike.terms_stay, Each.left_at, GoingTold.after_more}
use Rattle.cf_plan.proofs.Listed.{in_last}
use Rattle.cf_stacks.proofs.Folded.{folded_more}

module _ (place : ℕ) (s : StackState) where
  -- an entry of an operation joins those before it
  in_own : (e : Entry) → (effect_at place e s).stack.entries ≡ s.entries ++ e ∷ [] → (d : Entry) → In d (effect_at place e s).stack.entries → In d s.entries ⊎ (d ≡ e)
  in_own e k d i = in_last s.entries e d (subst (In d) k i)

  in_opening : (e : Entry) (es : List Entry) → entries_with e [] ≡ [] → ((f : Entry) (fs : List Entry) → entries_with e (f ∷ fs) ≡ (f ∷ fs) ++ e ∷ []) → (d : Entry)
      → In d (entries_with e es) → In d es ⊎ (d ≡ e)
  in_opening e [] none more d i = elim (subst (In d) none i) [ ]
  in_opening e (f ∷ fs) none more d i = in_last (f ∷ fs) e d (subst (In d) (more f fs) i)

  pub heard_of : (e : Entry) (d : Entry) → In d (effect_at place e s).stack.entries → In d s.entries ⊎ (d ≡ e)
  heard_of (Entry.Opened epoch lanes) d i = in_opening (Entry.Opened epoch lanes) s.entries refl (λ f fs. refl) d i
  heard_of (Entry.Begin number name (Begun.Create source)) d i = inr (in_one d (Entry.Begin number name (Begun.Create source)) i)
  heard_of (Entry.Begin number name (Begun.Update source)) d i = inr (in_one d (Entry.Begin number name (Begun.Update source)) i)
  heard_of (Entry.Begin number name (Begun.Delete paths)) d i = inr (in_one d (Entry.Begin number name (Begun.Delete paths)) i)
  heard_of (Entry.Begin number name (Begun.Continue paths)) d i = in_last s.entries (Entry.Begin number name (Begun.Continue paths)) d i
  heard_of (Entry.ChangeSet number name source rows outputs) d i = inl i
  heard_of (Entry.Kept n path physical w) d i = in_own (Entry.Kept n path physical w) (terms_stay place n (Entry.Kept n path physical w) s refl).entries d i
  heard_of (Entry.Intent n token lane path r) d i = in_own (Entry.Intent n token lane path r) (terms_stay place n (Entry.Intent n token lane path r) s refl).entries d i
  heard_of (Entry.Outcome n token a before after) d i =
      in_own (Entry.Outcome n token a before after) (terms_stay place n (Entry.Outcome n token a before after) s refl).entries d i
  heard_of (Entry.Phase n p c) d i = in_own (Entry.Phase n p c) (terms_stay place n (Entry.Phase n p c) s refl).entries d i
  heard_of (Entry.Done n state failed) d i = in_own (Entry.Done n state failed) (terms_stay place n (Entry.Done n state failed) s refl).entries d i

pub heard_in_journal : (es : List Entry) (name : List ℕ) (s : StackState) → stack_at name (fold_of empty_world es) ≡ Some s → (e : Entry) → In e s.entries → In e es
heard_in_journal es name s at =
    left_at (λ (z : StackState). (d : Entry) → In d z.entries → In d es) (λ e. In e es) (λ d i. elim i [ ])
    (λ z h place e is d i. elim (heard_of place z e d i) [ inl j ↦ h d j | inr same ↦ subst (λ f. In f es) (sym same) is ]) es (λ e i. i) name s at

-- Only on a stack that an operation may create was nothing ever begun.
abbrev IsUnheard : StackState → Type 0
IsUnheard s = s.entries ≡ [] → creates_from s.status ≡ true

some_more : (es : List Entry) (e : Entry) → es ++ e ∷ [] ≡ [] → ⊥
some_more [] e h = let no : ⊥ = cc in no
some_more (d ∷ es) e h = let no : ⊥ = cc in no

review_creates : (z : Status) → creates_from z ≡ true → creates_from (reviewed z) ≡ true
review_creates Status.DeleteComplete h = refl
review_creates z h = h

module _ (place : ℕ) (s : StackState) (h : IsUnheard s) where
  unheard_opened : (e : Entry) (es : List Entry) → ((f : Entry) (fs : List Entry) → entries_with e (f ∷ fs) ≡ (f ∷ fs) ++ e ∷ []) → entries_with e es ≡ [] → es ≡ []
  unheard_opened e [] more none = refl
  unheard_opened e (f ∷ fs) more none = absurd (some_more (f ∷ fs) e (sym (more f fs) ∙ none))

  unheard_of : (e : Entry) → IsUnheard (effect_at place e s).stack
  unheard_of (Entry.Opened epoch lanes) none = h (unheard_opened (Entry.Opened epoch lanes) s.entries (λ f fs. refl) none)
  unheard_of (Entry.Begin number name (Begun.Create source)) none = absurd (some_more [] (Entry.Begin number name (Begun.Create source)) none)
  unheard_of (Entry.Begin number name (Begun.Update source)) none = absurd (some_more [] (Entry.Begin number name (Begun.Update source)) none)
  unheard_of (Entry.Begin number name (Begun.Delete paths)) none = absurd (some_more [] (Entry.Begin number name (Begun.Delete paths)) none)
  unheard_of (Entry.Begin number name (Begun.Continue paths)) none = absurd (some_more s.entries (Entry.Begin number name (Begun.Continue paths)) none)
  unheard_of (Entry.ChangeSet number name source rows outputs) none = review_creates s.status (h none)
  unheard_of (Entry.Kept n path physical w) none =
      absurd (some_more s.entries (Entry.Kept n path physical w) (sym (terms_stay place n (Entry.Kept n path physical w) s refl).entries ∙ none))
  unheard_of (Entry.Intent n token lane path r) none =
      absurd (some_more s.entries (Entry.Intent n token lane path r) (sym (terms_stay place n (Entry.Intent n token lane path r) s refl).entries ∙ none))
  unheard_of (Entry.Outcome n token a before after) none =
      absurd (some_more s.entries (Entry.Outcome n token a before after) (sym (terms_stay place n (Entry.Outcome n token a before after) s refl).entries ∙ none))
  unheard_of (Entry.Phase n p c) none = absurd (some_more s.entries (Entry.Phase n p c) (sym (terms_stay place n (Entry.Phase n p c) s refl).entries ∙ none))
  unheard_of (Entry.Done n state failed) none =
      absurd (some_more s.entries (Entry.Done n state failed) (sym (terms_stay place n (Entry.Done n state failed) s refl).entries ∙ none))

-- Where an opening is the last entry, each stack on which an operation began has heard it since.
pub opened_since : (es : List Entry) (epoch : ℕ) (lanes : List (List ℕ × List ℕ)) (name : List ℕ) (s : StackState)
    → stack_at name (fold_of empty_world (es ++ Entry.Opened epoch lanes ∷ [])) ≡ Some s → creates_from s.status ≡ false → IsTrue (is_opened_since s)
opened_since es epoch lanes name s at from =
    by (stack_at name x) refl (sym (value_under left name x.stacks) ∙ ap (stack_at name) (folded_more empty_world es opening) ∙ at)
  where
    opening : Entry
    opening = Entry.Opened epoch lanes

    x : World
    x = fold_of empty_world es

    left : StackState → StackState
    left z = (effect_at (x.place + 1) opening z).stack

    begun_on : (z : StackState) → stack_at name x ≡ Some z → creates_from z.status ≡ false → (ds : List Entry) → z.entries ≡ ds → IsTrue (is_opened_since (left z))
    begun_on z q other [] e = absurd (true≢false (sym (left_at IsUnheard (λ d. Unit {0}) (λ n. refl) (λ y h place d is. unheard_of place y h d) es (λ d i. tt) name z q e) ∙ other))
    begun_on z q other (d ∷ ds) e =
        ap (λ (fs : List Entry). list_any is_opening (after_last is_done_entry (entries_with opening fs))) e
        ∙ ap (list_any is_opening) (after_more is_done_entry (d ∷ ds) opening refl)
        ∙ any_of is_opening (after_last is_done_entry (d ∷ ds) ++ opening ∷ []) opening (in_end opening (after_last is_done_entry (d ∷ ds))) refl

    by : (o : Option StackState) → stack_at name x ≡ o → option_map left o ≡ Some s → IsTrue (is_opened_since s)
    by None q e = let no : ⊥ = cc in absurd no
    by (Some z) q e =
        let same : left z ≡ s = some_is (left z) s e in
        subst (λ (y : StackState). IsTrue (is_opened_since y)) same
        (begun_on z q (ap (λ (y : StackState). creates_from y.status) same ∙ from) z.entries refl)
