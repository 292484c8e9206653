-- The paths that a deletion names, as a walk over the entries finds them.
use Rattle.std.proofs.Common.{◌≡◌, ℕ, Bool, true, false, List, [], ◌∷◌, ◌++◌, Result, Ok, Err, cond, filter, flat_map, refl, ap, sym, ◌∙◌, true≢false}
use Rattle.std.specs.Prelude.{IfOk}
use Rattle.cf_entry.specs.declared.entry.Entry.{Entry}
use Rattle.cf_entry.specs.declared.entry.Entry.TheVariants as entry
use Rattle.cf_effect.specs.Heard.{is_success_outcome}
use Rattle.cf_effect.specs.Operation.{is_of, named_in, named_paths}
use Rattle.cf_effect.specs.World.{StackState}
use Rattle.cf_next.specs.Repeats.{own_named_in}

-- an outcome that is a success names nothing
no_names : (e : Entry) → is_success_outcome e ≡ true → named_in e ≡ []
no_names (entry.Begin number stack kind) h = absurd (true≢false (sym h))
no_names _ h = refl

none_either : (b : Bool) (none : List (List ℕ)) → cond b none none ≡ none
none_either true none = refl
none_either false none = refl

pub names_nothing : (number : ℕ) (e : Entry) → is_success_outcome e ≡ true → own_named_in number e ≡ []
names_nothing number e h = ap (λ (ps : List (List ℕ)). cond (is_of number e) ps []) (no_names e h) ∙ none_either (is_of number e) []

flat_filtered : {A B : Type 0} (test : A → Bool) (f : A → List B) (xs : List A)
    → flat_map f (filter test xs) ≡ flat_map (λ x. cond (test x) (f x) []) xs
flat_filtered test f [] = refl
flat_filtered test f (x ∷ xs) = by (test x) (flat_filtered test f xs)
  where
    by : (b : Bool) → flat_map f (filter test xs) ≡ flat_map (λ y. cond (test y) (f y) []) xs
        → flat_map f (cond b (x ∷ filter test xs) (filter test xs)) ≡ cond b (f x) [] ++ flat_map (λ y. cond (test y) (f y) []) xs
    by true e = ap (λ ys. f x ++ ys) e
    by false e = e

pub told_named : {E : Type 0} (s : StackState) (number : ℕ) (es : List Entry) (made : Result (List (List ℕ)) E) → number ≡ s.operation
    → es ≡ s.entries
    → IfOk made (λ paths. paths ≡ flat_map (own_named_in number) es) → IfOk made (λ paths. paths ≡ named_paths s)
told_named s number es (Ok paths) n l e =
    e ∙ (ap (λ (k : ℕ). flat_map (own_named_in k) es) n ∙ (ap (flat_map (own_named_in s.operation)) l ∙ sym (flat_filtered (is_of s.operation) named_in s.entries)))
told_named s number es (Err fault) n l e = e
