-- What is computed of the failure of a forward phase is so.
use Rattle.std.proofs.Common.{◌≡◌, ◌⊎◌, ◌↔◌, inl, inr, ℕ, Bool, true, false, Option, Some, None, List, [], ◌∷◌, ◌++◌, IsTrue, filter, find, map, option_map, refl, ap, sym, ◌∙◌, subst, if◌then◌else◌, true≢false}
use Rattle.std.specs.Prelude.{filter_map, is_some, option_and_then, Result, Ok, Err, IfOk}
use Rattle.std.specs.declared.alloc.AllocError.{AllocError}
use Rattle.std.specs.List.{list_all, cons_option}
use Rattle.std.specs.Option.{option_map_or}
use Rattle.std.proofs.lemmas.Option.{none-some, same_Some}
use Rattle.std.proofs.lemmas.Bool.{and_parts, and_from}
use Rattle.cf_tree.specs.Datum.{Data}
use Rattle.cf_tree.specs.Lists.{first_in, is_among}
use Rattle.cf_entry.specs.declared.turn.Reason.{Reason}
use Rattle.cf_export.specs.declared.Export.{Export}
use Rattle.cf_desired.specs.declared.flaw.Flaw.{Flaw}
use Rattle.cf_desired.specs.declared.wanted.Evaluated.{Evaluated}
use Rattle.cf_desired.specs.declared.wanted.Evaluated.TheVariants as result
use Rattle.cf_desired.specs.declared.wanted.Plan.{Plan}
use Rattle.cf_desired.specs.declared.wanted.Wanted.{Wanted}
use Rattle.cf_desired.specs.Whole.{wanted_at, known_props_from}
use Rattle.cf_schema.specs.declared.described.Schema.{Schema}
use Rattle.cf_effect.specs.World.{StackState, World}
use Rattle.cf_plan.specs.declared.cause.Failure.{Failure}
use Rattle.cf_plan.specs.declared.cause.Failure.TheVariants.{Nothing, Because}
use Rattle.cf_plan.specs.Between.{needs_at}
use Rattle.cf_plan.specs.Forward.{Finding, Bad, Later, finding, known_or_later, AllDone, HasFailed, IsBadAt, IsBadOutput, IsBadPath, IsLostExport, first_failing, is_lost, path_of_token, plan_now}
use Rattle.cf_tree.specs.Lists.{there}
use Rattle.cf_tree.specs.Lists.{here}
use Rattle.cf_tree.specs.Lists.{In}
use Rattle.cf_plan.specs.Done.{AreDone, HasTerms, are_met, planned_needs}
use Rattle.cf_plan.specs.Failed.{are_all_done, flaw_planned, flaw_found, flaw_in, flaws_found, inner_found, least}
use Rattle.cf_plan.specs.Causes.{IsFailureOf, end_failure, failure_of_call, is_nothing, of_export, or_call, or_flaw, or_path, plan_failure}
use Rattle.cf_plan.proofs.Doing.{all_met, met_all}
use Rattle.cf_plan.proofs.FailingCalls.{failing_called}
use Rattle.cf_plan.proofs.Least.{least_in, least_low, least_none}
use Rattle.cf_plan.proofs.Listed.{in_cons, in_map, in_none}

-- members of lists that are put together
pub in_left : {A : Type 0} (x : A) (xs ys : List A) → In x xs → In x (xs ++ ys)
in_left x [] ys i = absurd (in_none i)
in_left x (z ∷ zs) ys i = elim (in_cons i) [ inl e ↦ subst (λ c. In x (c ∷ (zs ++ ys))) (sym e) here | inr j ↦ there (in_left x zs ys j) ]

pub in_right : {A : Type 0} (x : A) (xs ys : List A) → In x ys → In x (xs ++ ys)
in_right x [] ys i = i
in_right x (z ∷ zs) ys i = there (in_right x zs ys i)

pub in_either : {A : Type 0} (x : A) (xs ys : List A) → In x (xs ++ ys) → In x xs ⊎ In x ys
in_either x [] ys i = inr i
in_either x (z ∷ zs) ys i = elim (in_cons i) [ inl e ↦ inl (subst (λ c. In x (c ∷ zs)) (sym e) here) | inr j ↦ elim (in_either x zs ys j) [ inl k ↦ inl (there k) | inr k ↦ inr k ] ]

in_cons_option : {A : Type 0} (y : A) (o : Option A) (ys : List A) → In y (cons_option o ys) → (o ≡ Some y) ⊎ In y ys
in_cons_option y None ys i = inr i
in_cons_option y (Some z) ys i = elim (in_cons i) [ inl e ↦ inl (ap (λ c. Some c) e) | inr j ↦ inr j ]

pub in_mapped : {A B : Type 0} (f : A → Option B) (y : B) (xs : List A) → In y (filter_map f xs) → (x : A) × In x xs × (f x ≡ Some y)
in_mapped f y [] i = absurd (in_none i)
in_mapped f y (x ∷ xs) i = elim (in_cons_option y (f x) (filter_map f xs) i) [
  | inl e ↦ (x, here, e)
  | inr j ↦ (let z = in_mapped f y xs j in (z.0, there z.1, z.2))
]

skips : {A : Type 0} (y : A) (o : Option A) (ys : List A) → In y ys → In y (cons_option o ys)
skips y None ys i = i
skips y (Some z) ys i = there i

pub mapped_in : {A B : Type 0} (f : A → Option B) (y : B) (x : A) (xs : List A) → In x xs → f x ≡ Some y → In y (filter_map f xs)
mapped_in f y x [] i e = absurd (in_none i)
mapped_in f y x (z ∷ zs) i e = elim (in_cons i) [
  | inl k ↦ subst (λ o. In y (cons_option o (filter_map f zs))) (sym (ap f k ∙ e)) here
  | inr j ↦ skips y (f z) (filter_map f zs) (mapped_in f y x zs j e)
]

pub map_in : {A B : Type 0} (f : A → B) (y : B) (xs : List A) → In y (map f xs) → (x : A) × In x xs × (f x ≡ y)
map_in f y [] i = absurd (in_none i)
map_in f y (x ∷ xs) i = elim (in_cons i) [ inl e ↦ (x, here, e) | inr j ↦ (let z = map_in f y xs j in (z.0, there z.1, z.2)) ]

-- a flaw by a plan is what is found at the path
is_bad : Finding → Bool
is_bad (Bad f) = true
is_bad _ = false

later_bad : (f : Flaw) → Later ≡ Bad f → ⊥
unfolding is_bad
later_bad f e = true≢false (sym (ap is_bad e))

bad_known : (k : List ℕ) (o : Option (List (List ℕ × Data))) (f : Flaw) → known_or_later k o ≡ Bad f → ⊥
unfolding is_bad
bad_known k None f e = later_bad f e
bad_known k (Some ps) f e = true≢false (sym (ap is_bad e))

pub bad_same : (a b : Flaw) → Bad a ≡ Bad b → a ≡ b
bad_same a b e = ap (flaw_or a) e
  where
    flaw_or : Flaw → Finding → Flaw
    flaw_or d (Bad c) = c
    flaw_or d _ = d

flaw_finding : (k : List ℕ) (p : Evaluated) (f : Flaw) → (flaw_in p ≡ Some f) ↔ (finding k p ≡ Bad f)
flaw_finding k (result.Flawed g) f = (λ e. ap (λ c. Bad c) (same_Some g f e), λ e. ap (λ c. Some c) (bad_same g f e))
flaw_finding k (result.Known ps) f = (λ e. absurd (none-some f e), λ e. absurd (bad_known k (known_props_from ps) f e))

flaw_of : (o : Option Wanted) (f : Flaw) → (option_and_then (λ w. flaw_in w.props) o ≡ Some f) ↔ (option_map_or (λ w. finding w.kind w.props) o Later ≡ Bad f)
flaw_of None f = (λ e. absurd (none-some f e), λ e. absurd (later_bad f e))
flaw_of (Some w) f = flaw_finding w.kind w.props f

-- what is found where a test holds
abbrev pub where_met : Bool → List ℕ → Option Flaw → Option (List ℕ × Flaw)
where_met b p o = if b then option_map (λ (f : Flaw). (p, f)) o else None

pub test_found : (b : Bool) (p : List ℕ) (o : Option Flaw) (a : List ℕ × Flaw) → where_met b p o ≡ Some a → (b ≡ true) × (p ≡ a.0) × (o ≡ Some a.1)
test_found true p None a e = absurd (none-some a e)
test_found true p (Some f) a e = let same : (p, f) ≡ a = same_Some (p, f) a e in (refl, ap (λ (c : List ℕ × Flaw). c.0) same, ap (λ (c : List ℕ × Flaw). Some c.1) same)
test_found false p o a e = absurd (none-some a e)

pub found_test : (b : Bool) (p : List ℕ) (o : Option Flaw) (f : Flaw) → b ≡ true → o ≡ Some f → where_met b p o ≡ Some (p, f)
found_test b p o f e g = ap (λ c. where_met c p o) e ∙ ap (λ c. where_met true p c) g

first_found : {A : Type 0} (test : A → Bool) (xs : List A) → first_in (filter test xs) ≡ find test xs
first_found test [] = refl
first_found test (x ∷ xs) = by_test (test x) refl (first_found test xs)
  where
    by_test : (b : Bool) → test x ≡ b → first_in (filter test xs) ≡ find test xs → first_in (filter test (x ∷ xs)) ≡ find test (x ∷ xs)
    by_test true k h = rw k refl
    by_test false k h = rw k h

pub all_are : (ws : List Wanted) (done : List (List ℕ)) → list_all (λ w. is_among w.path done) ws ≡ true → (p : List ℕ) → In p (map (λ w. w.path) ws) → is_among p done ≡ true
all_are [] done e p i = absurd (in_none i)
all_are (w ∷ ws) done e p i =
    let k = and_parts (is_among w.path done) (list_all (λ v. is_among v.path done) ws) e in
    elim (in_cons i) [ inl same ↦ subst (λ q. is_among q done ≡ true) same k.0 | inr j ↦ all_are ws done k.1 p j ]

pub are_all : (ws : List Wanted) (done : List (List ℕ)) → ((p : List ℕ) → In p (map (λ w. w.path) ws) → is_among p done ≡ true) → list_all (λ w. is_among w.path done) ws ≡ true
are_all [] done h = refl
are_all (w ∷ ws) done h = and_from (is_among w.path done) (list_all (λ v. is_among v.path done) ws) (h w.path here) (are_all ws done (λ p i. h p (there i)))

-- a call that fails the phase has its row, and so a path
pub call_failed :
    (schemas : List Schema) (name : List ℕ) (x : World) (s : StackState) (a : ℕ × Reason) (o : Option (List ℕ)) → first_failing schemas s ≡ Some a
    → path_of_token a.0 s ≡ o → IsFailureOf schemas name x s (failure_of_call o a.1)
call_failed schemas name x s a (Some path) f k = (inl (a, f), (a.0, f, k))
call_failed schemas name x s a None f k = absurd (true≢false (sym (failing_called schemas s a f) ∙ ap is_some k))

module _ (schemas : List Schema) (name : List ℕ) (x : World) (s : StackState) (done : List (List ℕ)) (are : AreDone s done) (terms : Plan) (terms_are : HasTerms s terms) where
  abbrev flaws : List (List ℕ × Flaw)
  flaws = flaws_found terms (plan_now s) done

  to_bad : (a : List ℕ × Flaw) → In a flaws → IsBadPath s a.0 a.1
  to_bad a i = elim (in_either a (filter_map (flaw_found terms (plan_now s) done) terms.wanted) (filter_map (inner_found done) (plan_now s).nested) i) [
    | inl j ↦ (
        let (w, at, e) = in_mapped (flaw_found terms (plan_now s) done) a terms.wanted j in
        let (met, same, flaw) = test_found (are_met w.path terms done) w.path (flaw_planned w.path (plan_now s)) a e in
        let wanted = subst (In w.path) terms_are.paths (in_map (λ (v : Wanted). v.path) w terms.wanted at) in
        let ready = λ (q : List ℕ) (m : In q (needs_at w.path s)). (are q).1 (all_met (planned_needs w.path terms) done met q (subst (In q) (sym (terms_are.needs w.path)) m)) in
        let bad = (flaw_of (wanted_at w.path (plan_now s)) a.1).0 flaw in
        inl (subst (λ p. IsBadAt s p a.1) same ((wanted, ready), bad)))
    | inr j ↦ (
        let (n, at, e) = in_mapped (inner_found done) a (plan_now s).nested j in
        let (met, same, flaw) = test_found (list_all (λ m. is_among m done) n.needs) n.path n.fault a e in
        inr (n, at, same, (λ q m. (are q).1 (all_met n.needs done met q m)), flaw))
  ]

  from_bad : (p : List ℕ) (f : Flaw) → IsBadPath s p f → In (p, f) flaws
  from_bad p f (inl ((wanted, ready), bad)) =
      let (w, at, same) = map_in (λ (v : Wanted). v.path) p terms.wanted (subst (In p) (sym terms_are.paths) wanted) in
      let met = subst (λ ns. list_all (λ m. is_among m done) ns ≡ true) (sym (terms_are.needs p)) (met_all (needs_at p s) done (λ q m. (are q).0 (ready q m))) in
      let flaw = (flaw_of (wanted_at p (plan_now s)) f).1 bad in
      let here_found : flaw_found terms (plan_now s) done w ≡ Some (p, f) =
      subst (λ q. where_met (are_met q terms done) q (flaw_planned q (plan_now s)) ≡ Some (p, f)) (sym same)
      (found_test (are_met p terms done) p (flaw_planned p (plan_now s)) f met flaw) in
      in_left (p, f) (filter_map (flaw_found terms (plan_now s) done) terms.wanted) (filter_map (inner_found done) (plan_now s).nested)
      (mapped_in (flaw_found terms (plan_now s) done) (p, f) w terms.wanted at here_found)
  from_bad p f (inr (n, at, same, ready, flaw)) =
      let met = met_all n.needs done (λ q m. (are q).0 (ready q m)) in
      let here_found : inner_found done n ≡ Some (p, f) =
      found_test (list_all (λ m. is_among m done) n.needs) n.path n.fault f met flaw ∙ ap (λ q. Some (q, f)) same in
      in_right (p, f) (filter_map (flaw_found terms (plan_now s) done) terms.wanted) (filter_map (inner_found done) (plan_now s).nested)
      (mapped_in (inner_found done) (p, f) n (plan_now s).nested at here_found)

  to_all : are_all_done terms done ≡ true → AllDone s
  to_all e p i = (are p).1 (all_are terms.wanted done e p (subst (In p) (sym terms_are.paths) i))

  from_all : AllDone s → are_all_done terms done ≡ true
  from_all h = are_all terms.wanted done (λ p i. (are p).0 (h p (subst (In p) terms_are.paths i)))

  abbrev NoBad : Type 0
  NoBad = (q : List ℕ) (other : Flaw) → IsBadPath s q other → ⊥

  not_failed :
      first_failing schemas s ≡ None → NoBad → ((fault : Flaw) → IsBadOutput s fault → ⊥) → ((export : List ℕ) → IsLostExport name x s export → ⊥) →
      HasFailed schemas name x s → ⊥
  not_failed f n o l (inl (a, e)) = none-some a (sym f ∙ e)
  not_failed f n o l (inr (inl (p, fault, b))) = n p fault b
  not_failed f n o l (inr (inr (inl (fault, b)))) = o fault b
  not_failed f n o l (inr (inr (inr (export, b)))) = l export b

  -- where nothing failed and no path is at fault, only what comes behind all paths can fail
  by_export : (o : Option Export) → find (is_lost name x (plan_now s)) x.exports ≡ o → first_failing schemas s ≡ None → NoBad → AllDone s → first_in (plan_now s).flaws ≡ None → IsFailureOf schemas name x s (of_export o)
  by_export (Some e) k f n d g =
      let lost : IsLostExport name x s e.name = (d, ap (option_map (λ c. c.name)) (first_found (is_lost name x (plan_now s)) x.exports ∙ k)) in
      (inr (inr (inr (e.name, lost))), (f, n, (λ other b. none-some other (sym g ∙ b.1)), lost))
  by_export None k f n d g =
      not_failed f n (λ fault b. none-some fault (sym g ∙ b.1))
      (λ export l. none-some export (ap (option_map (λ (c : Export). c.name)) (sym (first_found (is_lost name x (plan_now s)) x.exports ∙ k)) ∙ l.1))

  by_flaw : (o : Option Flaw) → first_in (plan_now s).flaws ≡ o → first_failing schemas s ≡ None → NoBad → AllDone s → IsFailureOf schemas name x s (or_flaw o (of_export (find (is_lost name x (plan_now s)) x.exports)))
  by_flaw (Some fault) k f n d = (inr (inr (inl (fault, (d, k)))), (fault, refl, f, inr ((d, k), n)))
  by_flaw None k f n d = by_export (find (is_lost name x (plan_now s)) x.exports) refl f n d k

  by_all : (b : Bool) → are_all_done terms done ≡ b → first_failing schemas s ≡ None → NoBad → IsFailureOf schemas name x s (if b then end_failure name x (plan_now s) else Nothing)
  by_all true k f n = by_flaw (first_in (plan_now s).flaws) refl f n (to_all k)
  by_all false k f n = not_failed f n (λ fault b. true≢false (sym (from_all b.0) ∙ k)) (λ export l. true≢false (sym (from_all l.0) ∙ k))

  by_path : (o : Option (List ℕ × Flaw)) → least flaws ≡ o → first_failing schemas s ≡ None → IsFailureOf schemas name x s (or_path o (if are_all_done terms done then end_failure name x (plan_now s) else Nothing))
  by_path (Some a) k f =
      let bad = to_bad a (least_in (λ b. b.0) flaws a k) in
      (inr (inl (a.0, a.1, bad)), (a.1, refl, f, inl (a.0, bad, λ q other b. least_low (λ b. b.0) flaws a k (q, other) (from_bad q other b))))
  by_path None k f = by_all (are_all_done terms done) refl f (λ q other b. least_none (λ b. b.0) flaws k (q, other) (from_bad q other b))

  pub tells : (o : Option (ℕ × Reason)) → first_failing schemas s ≡ o → IsFailureOf schemas name x s (or_call o s (plan_failure name x terms (plan_now s) done))
  tells (Some a) f = call_failed schemas name x s a (path_of_token a.0 s) f refl
  tells None f = by_path (least flaws) refl f

pub tells_by :
    (schemas : List Schema) (name : List ℕ) (x : World) (s : StackState) (terms now : Plan) (done : List (List ℕ)) → HasTerms s terms →
    now ≡ plan_now s → AreDone s done → (o : Option (ℕ × Reason)) → first_failing schemas s ≡ o →
    IsFailureOf schemas name x s (or_call o s (plan_failure name x terms now done))
tells_by schemas name x s terms now done terms_are f are o g =
    subst (λ n. IsFailureOf schemas name x s (or_call o s (plan_failure name x terms n done))) (sym f) (tells schemas name x s done are terms terms_are o g)

pub told : (r : Result Failure AllocError) (v : Failure) (P : Failure → Type 0) → IfOk r (λ f. f ≡ v) → P v → IfOk r P
told (Ok f) v P e p = subst P (sym e) p
told (Err a) v P e p = tt

-- all wanted paths are among those that are done just where all are done
pub all_done_is :
    (s : StackState) (terms : Plan) (done : List (List ℕ)) → HasTerms s terms → AreDone s done → IsTrue (are_all_done terms done) ↔ AllDone s
all_done_is s terms done terms_are are = (
  λ t p i. (are p).1 (all_are terms.wanted done t p (subst (In p) (sym terms_are.paths) i)),
  λ h. are_all terms.wanted done (λ p i. (are p).0 (h p (subst (In p) terms_are.paths i))),
)

-- the phase goes on just where there is no failure
pub goes_by : (schemas : List Schema) (name : List ℕ) (x : World) (s : StackState) (f : Failure) (so : Bool) → IsFailureOf schemas name x s f → so ≡ is_nothing f
    → IsTrue so ↔ (¬ HasFailed schemas name x s)
goes_by schemas name x s Nothing so h e = ((λ _. h), (λ _. e))
goes_by schemas name x s (Because c) so h e = ((λ t. absurd (true≢false (sym t ∙ e))), (λ n. absurd (n h.0)))
