-- The first path that stops an operation from going on is one path: the paths of a plan differ.
use Rattle.std.proofs.Common.{◌≡◌, ◌⊎◌, inl, inr, ℕ, Bool, true, false, not, List, [], ◌∷◌, ◌++◌, Option, Some, None, map, refl, ap, sym, subst, ◌∙◌, true≢false}
use Rattle.std.specs.List.{list_any}
use Rattle.std.specs.Str.{bytes_eq}
use Rattle.std.specs.Ordering.{nat_cmp, is_lt, ordering_reverse}
use Rattle.std.specs.declared.cmp.Ordering.{Ordering}
use Rattle.std.specs.declared.cmp.Ordering.TheVariants.{Less, Equal, Greater}
use Rattle.std.specs.Cmp.Lexicographic.{slice_cmp, nat_list_cmp_total, texts_ties}
use Rattle.std.proofs.lemmas.Bool.{and_parts}
use Rattle.cf_tree.specs.Keys.{bytes_lt}
use Rattle.cf_tree.specs.Lists.{In}
use Rattle.cf_tree.specs.Named.{all_differ}
use Rattle.cf_tree.specs.declared.source.Source.{Source}
use Rattle.cf_desired.specs.Shape.{shape_of}
use Rattle.cf_desired.specs.declared.wanted.Inner.{Inner}
use Rattle.cf_desired.specs.declared.wanted.Plan.{Plan}
use Rattle.cf_desired.specs.declared.wanted.Wanted.{Wanted}
use Rattle.cf_effect.specs.Begin.{seen_in}
use Rattle.cf_effect.specs.World.{StackState}
use Rattle.cf_plan.specs.Forward.{plan_before, plan_in}
use Rattle.cf_core.proofs.Lemmas.{by_paths, paths_apart}
use Rattle.cf_plan.proofs.Listed.{bytes_same, in_cons, in_map, same_bytes}
use Rattle.cf_plan.proofs.Members.{any_in, is_so}
use Rattle.cf_plan.proofs.RunLists.{in_front}
use Rattle.cf_prepare.specs.Resuming.{IsFirstStuck}

first_other : (p : List ℕ) (ps : List (List ℕ)) → all_differ bytes_eq (p ∷ ps) ≡ true → In p ps → ⊥
first_other p ps h i =
    true≢false (sym (any_in (bytes_eq p) p ps i (same_bytes p)) ∙ is_so (list_any (bytes_eq p) ps) (and_parts (not (list_any (bytes_eq p) ps)) (all_differ bytes_eq ps) h).0)

others : (p : List ℕ) (ps : List (List ℕ)) → all_differ bytes_eq (p ∷ ps) ≡ true → all_differ bytes_eq ps ≡ true
others p ps h = (and_parts (not (list_any (bytes_eq p) ps)) (all_differ bytes_eq ps) h).1

abbrev at_paths : List Wanted → List (List ℕ)
at_paths ws = map (λ (w : Wanted). w.path) ws

-- of two that are wanted at one path there is one
one_more : (a : Wanted) (ws : List Wanted) (more : List (List ℕ)) (v w : Wanted) → all_differ bytes_eq (a.path ∷ (at_paths ws ++ more)) ≡ true → (In v ws → In w ws → v ≡ w)
    → (a ≡ v) ⊎ In v ws → (a ≡ w) ⊎ In w ws → v.path ≡ w.path → v ≡ w
one_more a ws more v w h ih (inl f) (inl g) e = sym f ∙ g
one_more a ws more v w h ih (inl f) (inr k) e =
    absurd (first_other a.path (at_paths ws ++ more) h
    (in_front a.path (at_paths ws) more (subst (λ p. In p (at_paths ws)) (sym (ap (λ (b : Wanted). b.path) f ∙ e)) (in_map (λ (b : Wanted). b.path) w ws k))))
one_more a ws more v w h ih (inr k) (inl g) e =
    absurd (first_other a.path (at_paths ws ++ more) h
    (in_front a.path (at_paths ws) more (subst (λ p. In p (at_paths ws)) (sym (ap (λ (b : Wanted). b.path) g ∙ sym e)) (in_map (λ (b : Wanted). b.path) v ws k))))
one_more a ws more v w h ih (inr k) (inr l) e = ih k l

one_wanted : (ws : List Wanted) (more : List (List ℕ)) → all_differ bytes_eq (at_paths ws ++ more) ≡ true → (v w : Wanted) → In v ws → In w ws → v.path ≡ w.path → v ≡ w
one_wanted [] more h v w i j e = elim i [ ]
one_wanted (a ∷ ws) more h v w i j e = one_more a ws more v w h (λ k l. one_wanted ws more (others a.path (at_paths ws ++ more) h) v w k l e) (in_cons i) (in_cons j) e

-- of two paths of which neither is below the other
same_path : (p q : List ℕ) → bytes_lt p q ≡ false → bytes_lt q p ≡ false → p ≡ q
same_path p q f g = by (slice_cmp nat_cmp p q) refl where
  by : (o : Ordering) → slice_cmp nat_cmp p q ≡ o → p ≡ q
  by Less e = absurd (true≢false (sym (ap is_lt e) ∙ f))
  by Equal e = bytes_same p q (texts_ties p q ∙ rw e refl)
  by Greater e = absurd (true≢false (sym (ap is_lt (nat_list_cmp_total.antisymm q p ∙ ap ordering_reverse e)) ∙ g))

module _ (s : StackState) where
  abbrev differ : Plan → Bool
  differ p = all_differ bytes_eq (at_paths p.wanted ++ map (λ (n : Inner). n.path) p.nested)

  plan_paths : differ (plan_before s) ≡ true
  plan_paths = by s.going where
    by : (going : Option Source) → differ (plan_in going (seen_in s.before) (seen_in s.before)) ≡ true
    by None = refl
    by (Some source) =
        let v = by_paths source (shape_of source (seen_in s.before)) (seen_in s.before) in
        (λ i. all_differ bytes_eq (v.paths i ++ v.stacks i)) ∙ paths_apart source (seen_in s.before)

  pub one_stuck : (kinds : List (List ℕ)) (p q k l : List ℕ) → IsFirstStuck kinds s p k → IsFirstStuck kinds s q l → (p ≡ q) × (k ≡ l)
  one_stuck kinds p q k l (w, stuck, at, kind, least) (v, other, too, also, low) =
      let same : p ≡ q =
      same_path p q (subst (λ z. bytes_lt z q ≡ false) (sym at) (low w stuck)) (subst (λ z. bytes_lt z p ≡ false) (sym too) (least v other)) in
      let one : w ≡ v = one_wanted (plan_before s).wanted (map (λ (n : Inner). n.path) (plan_before s).nested) plan_paths w v stuck.1 other.1 (sym at ∙ same ∙ too) in
      (same, kind ∙ ap (λ (z : Wanted). z.kind) one ∙ sym also)
