-- What is so of every stack of a world, shown entry by entry.
use Rattle.std.proofs.Common.{◌≡◌, ◌⊎◌, inl, inr, ℕ, ◌+◌, false, List, [], ◌∷◌, ◌++◌, Option, Some, None, refl, sym, ap, subst, ◌∙◌, arith}
use Rattle.std.specs.Ordering.{nat_cmp, match_ordering}
use Rattle.std.specs.Cmp.Lexicographic.{slice_cmp}
use Rattle.std.specs.declared.cmp.Ordering.{Ordering}
use Rattle.std.specs.declared.cmp.Ordering.TheVariants.{Less, Equal, Greater}
use Rattle.std.specs.Option.{option_map}
use Rattle.cf_tree.specs.Keys.{put}
use Rattle.cf_tree.specs.Lists.{In}
use Rattle.cf_tree.specs.Lists.In.{here, there}
use Rattle.cf_core.proofs.Words.{AreApart, Begun, Entry, HasNextNumber, IsLegal, IsTo, MayFollow, Schema, StackState, World, effect_at, empty_world, fold_of, is_going, is_opening, known_stack, no_stack, opening_heard, stack_at, stack_for, stack_of_operation, world_after}
use Rattle.cf_core.proofs.Lemmas.{append-nil, append_assoc, found_one, in_cons, map_in, some_is}
use Rattle.cf_core.proofs.FitKept.{after_stacks, at_known, stands_by}
use Rattle.cf_core.proofs.KeepSound.{legal_with, stands_in}
use Rattle.cf_core.proofs.Moving.{becomes_to}
use Rattle.cf_core.proofs.Stacks.{put_by}
use Rattle.cf_stacks.proofs.Apart.{stay_apart}
use Rattle.cf_stacks.proofs.Folded.{folded_more}

-- what is put in is there, and the others are as they were
in_put : (n : List ℕ) (v : StackState) (ps : List (List ℕ × StackState)) (q : List ℕ × StackState) → In q (put n v ps) → In q ps ⊎ (q.1 ≡ v)
in_put n v [] q i = elim (in_cons i) [ inl e ↦ inr (ap (λ (z : List ℕ × StackState). z.1) (sym e)) | inr j ↦ inl j ]
in_put n v (p ∷ ps) q i = by (slice_cmp nat_cmp n p.0) (in_put n v ps q) i where
  by : (o : Ordering) → (In q (put n v ps) → In q ps ⊎ (q.1 ≡ v)) → In q (match_ordering o ((n, v) ∷ p ∷ ps) ((p.0, v) ∷ ps) (p ∷ put n v ps))
      → In q (p ∷ ps) ⊎ (q.1 ≡ v)
  by Less ih i = elim (in_cons i) [ inl e ↦ inr (ap (λ (z : List ℕ × StackState). z.1) (sym e)) | inr j ↦ inl j ]
  by Equal ih i = elim (in_cons i) [ inl e ↦ inr (ap (λ (z : List ℕ × StackState). z.1) (sym e)) | inr j ↦ inl (there j) ]
  by Greater ih i = elim (in_cons i) [
    | inl e ↦ inl (subst (λ z. In z (p ∷ ps)) e here)
    | inr j ↦ elim (ih j) [ inl k ↦ inl (there k) | inr same ↦ inr same ]
  ]

-- Whatever the entries are: what is so of a stack of which nothing is known, and stays so with each of these entries, is so of each stack.
module _ (P : StackState → Type 0) (Q : Entry → Type 0) (none : P no_stack) (effect : (s : StackState) → P s → (place : ℕ) (e : Entry) → Q e → P (effect_at place e s).stack) where
  abbrev pub AreAll : World → Type 0
  AreAll x = (q : List ℕ × StackState) → In q x.stacks → P q.1

  module _ (x : World) (h : AreAll x) where
    at_all : (name : List ℕ) (s : StackState) → stack_at name x ≡ Some s → P s
    at_all name s q = h (name, s) (stands_in name s x.stacks q)

    known_all : (name : List ℕ) → P (known_stack name x)
    known_all name = at_known P x name none (at_all name)

    going_all : (number : ℕ) (q : List ℕ × StackState) → stack_of_operation number x ≡ Some q → P q.1
    going_all number q e = h q (found_one (λ (p : List ℕ × StackState). is_going number p.1) x.stacks q e).0

    named_all : (name : List ℕ) (q : List ℕ × StackState) → option_map (λ (s : StackState). (name, s)) (stack_at name x) ≡ Some q → P q.1
    named_all name q e = by (stack_at name x) refl e where
      by : (o : Option StackState) → stack_at name x ≡ o → option_map (λ (s : StackState). (name, s)) o ≡ Some q → P q.1
      by None k f = let never : ⊥ = cc in absurd never
      by (Some s) k f = subst (λ (z : List ℕ × StackState). P z.1) (some_is _ _ f) (at_all name s k)

    for_all : (e : Entry) (q : List ℕ × StackState) → stack_for e x ≡ Some q → P q.1
    for_all (Entry.Opened epoch lanes) q e = let never : ⊥ = cc in absurd never
    for_all (Entry.Begin number name (Begun.Create source)) q e = subst (λ (z : List ℕ × StackState). P z.1) (some_is _ _ e) (known_all name)
    for_all (Entry.Begin number name (Begun.Update source)) q e = named_all name q e
    for_all (Entry.Begin number name (Begun.Delete paths)) q e = named_all name q e
    for_all (Entry.Begin number name (Begun.Continue paths)) q e = named_all name q e
    for_all (Entry.ChangeSet number name source rows outputs) q e = subst (λ (z : List ℕ × StackState). P z.1) (some_is _ _ e) (known_all name)
    for_all (Entry.Kept number path physical w) q e = going_all number q e
    for_all (Entry.Intent number token lane path r) q e = going_all number q e
    for_all (Entry.Outcome number token a before after) q e = going_all number q e
    for_all (Entry.Phase number p c) q e = going_all number q e
    for_all (Entry.Done number state failed) q e = going_all number q e

    all_of : (e : Entry) → Q e → is_opening e ≡ false → AreAll (world_after x e)
    all_of e is new q i = by (stack_for e x) refl (subst (In q) (after_stacks x e new) i) where
      by : (o : Option (List ℕ × StackState)) → stack_for e x ≡ o → In q (put_by x e o) → P q.1
      by None k j = h q j
      by (Some s) k j = elim (in_put s.0 (effect_at (x.place + 1) e s.1).stack x.stacks q j) [
        | inl l ↦ h q l
        | inr same ↦ subst P (sym same) (effect s.1 (for_all e s k) (x.place + 1) e is)
      ]

    all_after : (e : Entry) → Q e → AreAll (world_after x e)
    all_after (Entry.Opened epoch lanes) is q i =
        let (s, j, e) = map_in (opening_heard (x.place + 1) (Entry.Opened epoch lanes)) q x.stacks i in
        subst (λ (z : List ℕ × StackState). P z.1) e (effect s.1 (h s j) (x.place + 1) (Entry.Opened epoch lanes) is)
    all_after e is q i = all_of e is refl q i

  all_folded : (x : World) (es : List Entry) → ((e : Entry) → In e es → Q e) → AreAll x → AreAll (fold_of x es)
  all_folded x [] are h = h
  all_folded x (e ∷ es) are h = all_folded (world_after x e) es (λ d i. are d (there i)) (all_after x h e (are e here))

  -- so it is in each world of these entries
  pub all_left : (es : List Entry) → ((e : Entry) → In e es → Q e) → AreAll (fold_of empty_world es)
  all_left es are = all_folded empty_world es are (λ q i. elim i [ ])

  pub left_at : (es : List Entry) → ((e : Entry) → In e es → Q e) → (name : List ℕ) (s : StackState) → stack_at name (fold_of empty_world es) ≡ Some s → P s
  left_at es are name s q = all_left es are (name, s) (stands_in name s (fold_of empty_world es).stacks q)

-- the world before the first entry
pub none_apart : AreApart empty_world
none_apart = record { names = refl; last = λ n t g. absurd (cc); apart = λ a b t u f g same above. absurd (cc) }

pub next_number : (schemas : List Schema) (out : List ℕ) (x : World) (e : Entry) → MayFollow schemas x out e → HasNextNumber e x
next_number schemas out x (Entry.Begin number name k) may = let is = may.0 in omega (arith, is)
next_number schemas out x e may = tt

-- Where each entry could follow those before it: what is so of a stack of which nothing is known, and stays so with each entry that may
-- follow, is so of each stack. It may tell of the entries before.
module _ (schemas : List Schema) (P : List Entry → List ℕ → StackState → Type 0) (none : (es : List Entry) (name : List ℕ) → P es name no_stack)
    (more : (es : List Entry) (e : Entry) (out name : List ℕ) (s t : StackState) → IsLegal schemas empty_world es → AreApart (fold_of empty_world es)
    → known_stack name (fold_of empty_world es) ≡ s → IsTo schemas (fold_of empty_world es) out name s e t → P es name s → P (es ++ e ∷ []) name t) where
  abbrev AreSo : List Entry → Type 0
  AreSo es = (name : List ℕ) (s : StackState) → stack_at name (fold_of empty_world es) ≡ Some s → P es name s

  one_more : (es : List Entry) (e : Entry) (out : List ℕ) → IsLegal schemas empty_world es → AreApart (fold_of empty_world es)
      → MayFollow schemas (fold_of empty_world es) out e → AreSo es → AreSo (es ++ e ∷ [])
  one_more es e out legal apart may all name t g =
      let x : World = fold_of empty_world es in
      let f = stands_by x apart e name t (ap (stack_at name) (folded_more empty_world es e) ∙ g) in
      more es e out name f.stack t legal apart f.known (becomes_to schemas x out name f.stack e t f.known may f.becomes)
      (subst (P es name) f.known (at_known (P es name) x name (none es name) (all name)))

  run : (fs es : List Entry) → IsLegal schemas empty_world es → AreApart (fold_of empty_world es) → AreSo es → IsLegal schemas (fold_of empty_world es) fs → AreSo (es ++ fs)
  run [] es legal apart all rest = subst AreSo (sym (append-nil es)) all
  run (e ∷ fs) es legal apart all ((out, may), rest) =
      let x : World = fold_of empty_world es in
      let after : world_after x e ≡ fold_of empty_world (es ++ e ∷ []) = folded_more empty_world es e in
      subst AreSo (append_assoc es (e ∷ []) fs)
      (run fs (es ++ e ∷ []) (legal_with schemas empty_world es e out legal may) (subst AreApart after (stay_apart x e apart (next_number schemas out x e may)))
      (one_more es e out legal apart may all) (subst (λ y. IsLegal schemas y fs) after rest))

  pub legal_all : (es : List Entry) → IsLegal schemas empty_world es → (name : List ℕ) (s : StackState) → stack_at name (fold_of empty_world es) ≡ Some s → P es name s
  legal_all es legal = run es [] tt none_apart (λ name s e. let no : ⊥ = cc in absurd no) legal
