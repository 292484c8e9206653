-- The paths that are found to be done are just those that are done.
use Rattle.std.proofs.Common.{◌≡◌, inl, inr, ℕ, Bool, true, false, ◌&&◌, ◌||◌, not, Option, Some, None, List, [], ◌∷◌, ◌++◌, filter, find, map, is_some, refl, ap, sym, ◌∙◌, subst, cond, true≢false}
use Rattle.std.specs.List.{list_any, list_all}
use Rattle.std.specs.Str.{bytes_eq}
use Rattle.std.proofs.lemmas.Bool.{and_parts, and_from}
use Rattle.cf_tree.specs.Lists.{is_among}
use Rattle.cf_desired.specs.declared.wanted.Plan.{Plan}
use Rattle.cf_effect.specs.declared.held.Held.{Held}
use Rattle.cf_effect.specs.World.{StackState}
use Rattle.cf_effect.specs.Words.{current_at, is_current_at, is_update}
use Rattle.cf_effect.specs.declared.call.Call.{Call}
use Rattle.cf_effect.specs.Calls.{own_calls, succeeded}
use Rattle.cf_plan.specs.Between.{needs_at}
use Rattle.cf_plan.specs.Forward.{IsDone, is_made, is_updated, is_right, plan_now, was_updated_at}
use Rattle.cf_tree.specs.Lists.{there}
use Rattle.cf_tree.specs.Lists.{here}
use Rattle.cf_tree.specs.Lists.{In}
use Rattle.cf_plan.specs.Done.{AreDone, HasTerms, CanJoin, Joined, none, one, is_good_update, made_paths, planned_needs, updated_paths}
use Rattle.cf_plan.proofs.Listed.{among_more, bytes_same, in_cons, in_none, or_cases, or_left, or_right}

-- a resource is made at a path just where the path is among those of what was made
made_by : (a b : Bool) (p q : List ℕ) (h : Held) (hs : List Held) → bytes_eq p h.path ≡ a → h.superseded ≡ b → is_among p (map (λ r. r.path) (filter (λ r. not r.superseded) hs)) ≡ is_some (find (is_current_at p) hs) → is_among p (map (λ r. r.path) (filter (λ r. not r.superseded) (h ∷ hs))) ≡ is_some (find (is_current_at p) (h ∷ hs))
made_by true true p q h hs e f k = rw e (rw f k)
made_by true false p q h hs e f k = rw e (rw f (rw e refl))
made_by false true p q h hs e f k = rw e (rw f k)
made_by false false p q h hs e f k = rw e (rw f (rw e k))

made_among : (p : List ℕ) (hs : List Held) → is_among p (map (λ r. r.path) (filter (λ r. not r.superseded) hs)) ≡ is_some (find (is_current_at p) hs)
made_among p [] = refl
made_among p (h ∷ hs) = made_by (bytes_eq p h.path) h.superseded p p h hs refl refl (made_among p hs)

pub some_is : {A : Type 0} (o : Option A) → is_some o ≡ true → (a : A) × (o ≡ Some a)
some_is None e = absurd (true≢false (sym e))
some_is (Some a) e = (a, refl)

-- the operation updated a path just where the path is among those of the updates that succeeded
and_true : (b : Bool) → (b && true) ≡ b
and_true true = refl
and_true false = refl

and_false : (b : Bool) → (b && false) ≡ false
and_false true = refl
and_false false = refl

updated_calls : (p : List ℕ) (cs : List Call) → is_among p (map (λ c. c.path) (filter is_good_update cs)) ≡ list_any (λ c. bytes_eq p c.path && (is_update c.request && succeeded c)) cs
updated_calls p [] = refl
updated_calls p (c ∷ cs) = by (is_update c.request && succeeded c) (updated_calls p cs)
  where
    others : Bool
    others = list_any (λ d. bytes_eq p d.path && (is_update d.request && succeeded d)) cs

    by : (u : Bool) → is_among p (map (λ d. d.path) (filter is_good_update cs)) ≡ others
        → is_among p (map (λ d. d.path) (cond u (c ∷ filter is_good_update cs) (filter is_good_update cs))) ≡ ((bytes_eq p c.path && u) || others)
    by true h = ap (λ b. bytes_eq p c.path || b) h ∙ ap (λ b. b || others) (sym (and_true (bytes_eq p c.path)))
    by false h = h ∙ ap (λ b. b || others) (sym (and_false (bytes_eq p c.path)))

updated_among : (s : StackState) (p : List ℕ) → is_among p (updated_paths s) ≡ was_updated_at p s
updated_among s p = updated_calls p (own_calls s)

-- what is among two lists
among_both : (p : List ℕ) (xs ys : List (List ℕ)) → is_among p (xs ++ ys) ≡ (is_among p xs || is_among p ys)
among_both p [] ys = refl
among_both p (x ∷ xs) ys = ap (λ b. bytes_eq p x || b) (among_both p xs ys) ∙ or_more (bytes_eq p x) (is_among p xs) (is_among p ys)
  where
    or_more : (a b c : Bool) → (a || (b || c)) ≡ ((a || b) || c)
    or_more true b c = refl
    or_more false b c = refl

-- all of a list are among another, one by one
pub all_met : (ns done : List (List ℕ)) → list_all (λ n. is_among n done) ns ≡ true → (q : List ℕ) → In q ns → is_among q done ≡ true
all_met [] done e q i = absurd (in_none i)
all_met (n ∷ ns) done e q i =
    let k = and_parts (is_among n done) (list_all (λ m. is_among m done) ns) e in
    elim (in_cons i) [ inl same ↦ subst (λ m. is_among m done ≡ true) same k.0 | inr j ↦ all_met ns done k.1 q j ]

pub met_all : (ns done : List (List ℕ)) → ((q : List ℕ) → In q ns → is_among q done ≡ true) → list_all (λ n. is_among n done) ns ≡ true
met_all [] done h = refl
met_all (n ∷ ns) done h = and_from (is_among n done) (list_all (λ m. is_among m done) ns) (h n here) (met_all ns done (λ q i. h q (there i)))

module _ (s : StackState) (terms : Plan) (terms_are : HasTerms s terms) where
  abbrev start : List (List ℕ)
  start = made_paths s ++ updated_paths s

  start_done : (p : List ℕ) → is_among p start ≡ true → IsDone s p
  start_done p e = elim (or_cases (is_among p (made_paths s)) (is_among p (updated_paths s)) (sym (among_both p (made_paths s) (updated_paths s)) ∙ e)) [
    | inl k ↦ (let (r, f) = some_is (current_at p s.made) (sym (made_among p s.made) ∙ k) in is_made r f)
    | inr k ↦ is_updated (sym (updated_among s p) ∙ k)
  ]

  fresh_done : (done : List (List ℕ)) (p : List ℕ) → ((q : List ℕ) → is_among q done ≡ true → IsDone s q) → CanJoin terms (plan_now s) s.held done p → IsDone s p
  fresh_done done p h (i, (new, met, (r, at, sure, props))) =
      is_right r (subst (In p) terms_are.paths i) (λ q j. h q (all_met (planned_needs p terms) done met q (subst (In q) (sym (terms_are.needs p)) j))) at sure props

  sound : (done : List (List ℕ)) → Joined terms (plan_now s) s.held start done → (p : List ℕ) → is_among p done ≡ true → IsDone s p
  sound _ none p e = start_done p e
  sound _ (one {done} {p = q} j n) p e = elim (or_cases (is_among p done) (bytes_eq p q) (sym (among_more done q p) ∙ e)) [
    | inl k ↦ sound done j p k
    | inr k ↦ subst (IsDone s) (sym (bytes_same p q k)) (fresh_done done q (sound done j) n)
  ]

  kept : (done : List (List ℕ)) → Joined terms (plan_now s) s.held start done → (p : List ℕ) → is_among p start ≡ true → is_among p done ≡ true
  kept _ none p e = e
  kept _ (one {done} {p = q} j n) p e = among_more done q p ∙ or_left (is_among p done) (bytes_eq p q) (kept done j p e)

  yes_or : (b : Bool) → (b ≡ false → ⊥) → b ≡ true
  yes_or true h = refl
  yes_or false h = absurd (h refl)

  complete :
      (done : List (List ℕ)) → Joined terms (plan_now s) s.held start done → ((p : List ℕ) → CanJoin terms (plan_now s) s.held done p → ⊥) →
      (p : List ℕ) → IsDone s p → is_among p done ≡ true
  complete done j all p (is_made r e) =
      kept done j p (among_both p (made_paths s) (updated_paths s) ∙ or_left (is_among p (made_paths s)) (is_among p (updated_paths s)) (made_among p s.made ∙ ap is_some e))
  complete done j all p (is_updated t) =
      kept done j p (among_both p (made_paths s) (updated_paths s) ∙ or_right (is_among p (made_paths s)) (is_among p (updated_paths s)) (updated_among s p ∙ t))
  complete done j all p (is_right h i needs at sure props) =
      let met = met_all (needs_at p s) done (λ q m. complete done j all q (needs q m)) in
      yes_or (is_among p done) (λ new. all p (subst (In p) (sym terms_are.paths) i, (new, subst (λ ns. list_all (λ n. is_among n done) ns ≡ true) (sym (terms_are.needs p)) met, (h, at, sure, props))))

  pub are_done :
      (now : Plan) → now ≡ plan_now s → (first done : List (List ℕ)) → first ≡ start → Joined terms now s.held first done →
      ((p : List ℕ) → CanJoin terms now s.held done p → ⊥) → AreDone s done
  are_done now f first done g j all =
      let k : Joined terms (plan_now s) s.held start done =
      subst (λ n. Joined terms n s.held start done) f (subst (λ l. Joined terms now s.held l done) g j) in
      let last : (p : List ℕ) → CanJoin terms (plan_now s) s.held done p → ⊥ = λ p n. all p (subst (λ m. CanJoin terms m s.held done p) (sym f) n) in
      λ p. (complete done k last p, sound done k p)
