-- A forward phase that has failed has one cause: no two resources or nested stacks of a plan have one path.
use Rattle.std.proofs.Common.{◌≡◌, ◌⊎◌, inl, inr, ℕ, Bool, true, false, not, List, [], ◌∷◌, ◌++◌, Option, Some, None, map, refl, ap, sym, subst, ◌∙◌, true≢false}
use Rattle.std.specs.List.{list_any}
use Rattle.std.specs.Str.{bytes_eq}
use Rattle.std.specs.Ordering.{nat_cmp, is_lt, ordering_reverse}
use Rattle.std.specs.declared.cmp.Ordering.{Ordering}
use Rattle.std.specs.declared.cmp.Ordering.TheVariants.{Less, Equal, Greater}
use Rattle.std.specs.Cmp.Lexicographic.{slice_cmp, nat_list_cmp_total, texts_ties}
use Rattle.std.proofs.lemmas.Bool.{and_parts}
use Rattle.std.proofs.lemmas.Option.{none-some, same_Some}
use Rattle.cf_tree.specs.Keys.{bytes_lt}
use Rattle.cf_tree.specs.Named.{all_differ}
use Rattle.cf_tree.specs.declared.source.Source.{Source}
use Rattle.cf_entry.specs.declared.turn.Cause.{Cause}
use Rattle.cf_entry.specs.declared.turn.Cause.TheVariants as cause
use Rattle.cf_entry.specs.declared.turn.Reason.{Reason}
use Rattle.cf_schema.specs.declared.described.Schema.{Schema}
use Rattle.cf_desired.specs.FlawText.{flaw_text}
use Rattle.cf_desired.specs.Shape.{shape_of}
use Rattle.cf_desired.specs.declared.flaw.Flaw.{Flaw}
use Rattle.cf_desired.specs.declared.wanted.Inner.{Inner}
use Rattle.cf_desired.specs.declared.wanted.Plan.{Plan}
use Rattle.cf_desired.proofs.Apart.{paths_apart}
use Rattle.cf_rests.proofs.Viewed.{by_paths}
use Rattle.cf_effect.specs.Begin.{seen_in}
use Rattle.cf_effect.specs.End.{seen_now}
use Rattle.cf_effect.specs.World.{StackState, World}
use Rattle.cf_plan.specs.Forward.{IsBadAt, IsBadNested, IsBadPath, IsCause, path_of_token, plan_in, plan_now}
use Rattle.cf_tree.specs.Lists.{there}
use Rattle.cf_tree.specs.Lists.{In}
use Rattle.cf_plan.proofs.Causing.{bad_same}
use Rattle.cf_plan.proofs.Members.{is_so, any_in}
use Rattle.cf_plan.proofs.Listed.{bytes_same, in_cons, in_map, in_none, same_bytes}
use Rattle.cf_plan.proofs.PlanTerms.{over_now}

-- Lists in which no text stands twice.
first_other : (p : List ℕ) (ps : List (List ℕ)) → all_differ bytes_eq (p ∷ ps) ≡ true → In p ps → ⊥
first_other p ps h i =
    true≢false (sym (any_in (bytes_eq p) p ps i (same_bytes p)) ∙ is_so (list_any (bytes_eq p) ps) (and_parts (not (list_any (bytes_eq p) ps)) (all_differ bytes_eq ps) h).0)

others : (p : List ℕ) (ps : List (List ℕ)) → all_differ bytes_eq (p ∷ ps) ≡ true → all_differ bytes_eq ps ≡ true
others p ps h = (and_parts (not (list_any (bytes_eq p) ps)) (all_differ bytes_eq ps) h).1

behind : (ps qs : List (List ℕ)) (p : List ℕ) → In p qs → In p (ps ++ qs)
behind [] qs p i = i
behind (q ∷ ps) qs p i = there (behind ps qs p i)

second_differ : (ps qs : List (List ℕ)) → all_differ bytes_eq (ps ++ qs) ≡ true → all_differ bytes_eq qs ≡ true
second_differ [] qs h = h
second_differ (p ∷ ps) qs h = second_differ ps qs (others p (ps ++ qs) h)

not_in_both : (ps qs : List (List ℕ)) → all_differ bytes_eq (ps ++ qs) ≡ true → (p : List ℕ) → In p ps → In p qs → ⊥
not_in_both [] qs h p i j = in_none i
not_in_both (q ∷ ps) qs h p i j = elim (in_cons i) [
  | inl e ↦ first_other q (ps ++ qs) h (behind ps qs q (subst (λ r. In r qs) (sym e) j))
  | inr k ↦ not_in_both ps qs (others q (ps ++ qs) h) p k j
]

one_more : (a : Inner) (ns : List Inner) (m n : Inner) → all_differ bytes_eq (map (λ k. k.path) (a ∷ ns)) ≡ true → (In m ns → In n ns → m ≡ n)
    → (a ≡ m) ⊎ In m ns → (a ≡ n) ⊎ In n ns → m.path ≡ n.path → m ≡ n
one_more a ns m n h ih (inl f) (inl g) e = sym f ∙ g
one_more a ns m n h ih (inl f) (inr k) e =
    absurd (first_other a.path (map (λ (b : Inner). b.path) ns) h
    (subst (λ p. In p (map (λ (b : Inner). b.path) ns)) (sym (ap (λ (b : Inner). b.path) f ∙ e)) (in_map (λ (b : Inner). b.path) n ns k)))
one_more a ns m n h ih (inr k) (inl g) e =
    absurd (first_other a.path (map (λ (b : Inner). b.path) ns) h
    (subst (λ p. In p (map (λ (b : Inner). b.path) ns)) (sym (ap (λ (b : Inner). b.path) g ∙ sym e)) (in_map (λ (b : Inner). b.path) m ns k)))
one_more a ns m n h ih (inr k) (inr l) e = ih k l

one_of : (ns : List Inner) → all_differ bytes_eq (map (λ n. n.path) ns) ≡ true → (m n : Inner) → In m ns → In n ns → m.path ≡ n.path → m ≡ n
one_of [] h m n i j e = absurd (in_none i)
one_of (a ∷ ns) h m n i j e = one_more a ns m n h (λ k l. one_of ns (others a.path (map (λ (b : Inner). b.path) ns) h) m n k l e) (in_cons i) (in_cons j) e

-- of two paths of which neither is below the other
same_path : (p q : List ℕ) → bytes_lt p q ≡ false → bytes_lt q p ≡ false → p ≡ q
same_path p q f g = by (slice_cmp nat_cmp p q) refl where
  by : (o : Ordering) → slice_cmp nat_cmp p q ≡ o → p ≡ q
  by Less e = absurd (true≢false (sym (ap is_lt e) ∙ f))
  by Equal e = bytes_same p q (texts_ties p q ∙ rw e refl)
  by Greater e = absurd (true≢false (sym (ap is_lt (nat_list_cmp_total.antisymm q p ∙ ap ordering_reverse e)) ∙ g))

module _ (schemas : List Schema) (name : List ℕ) (x : World) (s : StackState) where
  -- the paths of a plan differ
  abbrev wanted : Plan → List (List ℕ)
  wanted p = map (λ w. w.path) p.wanted

  abbrev stacks : Plan → List (List ℕ)
  stacks p = map (λ n. n.path) p.nested

  abbrev differ : Plan → Bool
  differ p = all_differ bytes_eq (wanted p ++ stacks p)

  plan_paths : differ (plan_now s) ≡ true
  plan_paths = by s.going where
    by : (going : Option Source) → differ (plan_in going (seen_in s.before) (seen_now s)) ≡ true
    by None = refl
    by (Some source) =
        let v = by_paths source (shape_of source (seen_in s.before)) (seen_now s) in
        (λ i. all_differ bytes_eq (v.paths i ++ v.stacks i)) ∙ paths_apart source (seen_in s.before)

  -- at one path there is one fault
  not_both : (p : List ℕ) (f g : Flaw) → IsBadAt s p f → IsBadNested s p g → ⊥
  not_both p f g (ready, e) (i, at, same, needs, fault) =
      not_in_both (wanted (plan_now s)) (stacks (plan_now s)) plan_paths p (subst (In p) (sym (over_now s (plan_now s) refl).paths) ready.0)
      (subst (λ q. In q (stacks (plan_now s))) same (in_map (λ (n : Inner). n.path) i (plan_now s).nested at))

  one_fault : (p : List ℕ) (f g : Flaw) → IsBadPath s p f → IsBadPath s p g → f ≡ g
  one_fault p f g (inl (ready, e)) (inl (also, h)) = bad_same f g (sym e ∙ h)
  one_fault p f g (inl a) (inr b) = absurd (not_both p f g a b)
  one_fault p f g (inr b) (inl a) = absurd (not_both p g f a b)
  one_fault p f g (inr (i, at, same, needs, fault)) (inr (j, in_too, alike, met, flaw)) =
      let one = one_of (plan_now s).nested (second_differ (wanted (plan_now s)) (stacks (plan_now s)) plan_paths) i j at in_too (same ∙ sym alike) in
      same_Some f g (sym fault ∙ ap (λ (n : Inner). n.fault) one ∙ flaw)

  abbrev IsFirstBad : List ℕ → Flaw → Type 0
  IsFirstBad p f = IsBadPath s p f × ((q : List ℕ) (other : Flaw) → IsBadPath s q other → bytes_lt q p ≡ false)

  one_flaw : (p q : List ℕ) (f g : Flaw) → IsFirstBad p f → IsFirstBad q g → f ≡ g
  one_flaw p q f g (bad, least) (worse, low) =
      one_fault p f g bad (subst (λ r. IsBadPath s r g) (sym (same_path p q (low p f bad) (least q g worse))) worse)

  -- causes of two kinds exclude each other
  no_plan : (path text : List ℕ) (r : Reason) → IsCause schemas name x s (cause.Handler path r) → IsCause schemas name x s (cause.Plan text) → ⊥
  no_plan path text r (t, e, at) (f, is, none, rest) = none-some (t, r) (sym none ∙ e)

  no_export : (path export : List ℕ) (r : Reason) → IsCause schemas name x s (cause.Handler path r) → IsCause schemas name x s (cause.Export export) → ⊥
  no_export path export r (t, e, at) (none, no_path, no_output, lost) = none-some (t, r) (sym none ∙ e)

  no_loss : (text export : List ℕ) → IsCause schemas name x s (cause.Plan text) → IsCause schemas name x s (cause.Export export) → ⊥
  no_loss text export (f, is, none, inl (p, first, least)) (also, no_path, no_output, lost) = no_path p f first
  no_loss text export (f, is, none, inr (bad, no_bad)) (also, no_path, no_output, lost) = no_output f bad

  pub one_cause : (c d : Cause) → IsCause schemas name x s c → IsCause schemas name x s d → c ≡ d
  one_cause (cause.Handler path r) (cause.Handler other why) (t, e, at) (u, f, is) =
      let same = same_Some (t, r) (u, why) (sym e ∙ f) in
      let token = ap (λ (a : ℕ × Reason). a.0) same in
      let place = same_Some path other (sym at ∙ ap (λ v. path_of_token v s) token ∙ is) in
      λ i. cause.Handler (place i) (same i).1
  one_cause (cause.Handler path r) (cause.Plan text) a b = absurd (no_plan path text r a b)
  one_cause (cause.Handler path r) (cause.Export export) a b = absurd (no_export path export r a b)
  one_cause (cause.Plan text) (cause.Handler path r) a b = absurd (no_plan path text r b a)
  one_cause (cause.Plan text) (cause.Plan other) (f, is, none, inl (p, first, least)) (g, so, also, inl (q, second, low)) =
      ap cause.Plan (is ∙ ap flaw_text (one_flaw p q f g (first, least) (second, low)) ∙ sym so)
  one_cause (cause.Plan text) (cause.Plan other) (f, is, none, inl (p, first, least)) (g, so, also, inr (bad, no_path)) = absurd (no_path p f first)
  one_cause (cause.Plan text) (cause.Plan other) (f, is, none, inr (bad, no_path)) (g, so, also, inl (q, second, low)) = absurd (no_path q g second)
  one_cause (cause.Plan text) (cause.Plan other) (f, is, none, inr (bad, no_path)) (g, so, also, inr (worse, no_other)) =
      ap cause.Plan (is ∙ ap flaw_text (same_Some f g (sym bad.1 ∙ worse.1)) ∙ sym so)
  one_cause (cause.Plan text) (cause.Export export) a b = absurd (no_loss text export a b)
  one_cause (cause.Export export) (cause.Handler path r) a b = absurd (no_export path export r b a)
  one_cause (cause.Export export) (cause.Plan text) a b = absurd (no_loss text export b a)
  one_cause (cause.Export export) (cause.Export other) (none, no_path, no_output, lost) (also, rest, more, gone) = ap cause.Export (same_Some export other (sym lost.1 ∙ gone.1))
