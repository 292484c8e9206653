-- How conditions are decided, each one once: what is noted of those that are decided, and what stays to be done (this project's own).
use Rattle.std.specs.Prelude.{◌≡◌, ℕ, suc, ◌≤◌, Bool, length, map, true, List, [], ◌∷◌, ◌++◌, Option, Some, None, IsSome, is_some, Result, Ok, Err, option_map, if◌then◌else◌}
use Rattle.cf_eval.specs.declared.decide.ConditionContext as over
use Rattle.cf_tree.specs.Keys.{value_at}
use Rattle.cf_tree.specs.Lists.{is_among}
use Rattle.cf_tree.specs.Tests.{Test}
use Rattle.cf_tree.specs.declared.bound.Verdict.{Verdict}
use Rattle.cf_eval.specs.declared.fault.Stop as broken
use Rattle.cf_eval.specs.Outcome.{Outcome, got}
use Rattle.cf_eval.specs.Scope.{Scope, verdict_among, condition_scope, verdict_of}
use Rattle.cf_eval.specs.Conditions.{test_found, condition_found, decided_by}
use Rattle.cf_eval.specs.Gives.{part_of, Stops}

-- how many conditions are not under way
abbrev pub left_of : List (List ℕ) → List (List ℕ × Test) → ℕ
left_of under [] = 0
left_of under (c ∷ cs) = if is_among c.0 under then left_of under cs else suc (left_of under cs)

-- none of those that are under way is decided
abbrev pub Apart : List (List ℕ) → List (List ℕ × Verdict) → Type 0
Apart under done = (m : List ℕ) → is_among m under ≡ true → value_at m done ≡ None

-- what is noted of a condition is what it comes to, whatever else is under way
abbrev pub AreNotedRight : Scope → List (List ℕ × Test) → List (List ℕ × Verdict) → Type 0
AreNotedRight s conds done =
    (name : List ℕ) (v : Verdict) → value_at name done ≡ Some v → (left : ℕ) (under : List (List ℕ)) (at : List ℕ) → Apart under done
    → left_of under conds ≤ left
    → condition_found left s conds under at name ≡ part_of (verdict_of v)

-- what was noted stays
abbrev pub Extends : List (List ℕ × Verdict) → List (List ℕ × Verdict) → Type 0
Extends old new = (m : List ℕ) (v : Verdict) → value_at m old ≡ Some v → value_at m new ≡ Some v

-- a condition was looked at: it comes to this over those that are decided now
pub record IsDecided (s : Scope) (conds : List (List ℕ × Test)) (under : List (List ℕ)) (old new : List (List ℕ × Verdict)) (c : Test)
    (v : Verdict) : Type 0 where
  pub right : AreNotedRight s conds new
  pub extends : Extends old new
  pub apart : Apart under new
  pub verdict : test_found (decided_by (verdict_among new) s) None c ≡ part_of (verdict_of v)

-- a condition was decided under its name
pub record IsNoted (s : Scope) (conds : List (List ℕ × Test)) (under : List (List ℕ)) (old new : List (List ℕ × Verdict)) (name : List ℕ)
    (v : Verdict) : Type 0 where
  pub right : AreNotedRight s conds new
  pub extends : Extends old new
  pub apart : Apart under new
  pub noted : value_at name new ≡ Some v
  pub declared : IsSome (value_at name conds)

-- what is decided over: parameters, mappings, pseudo parameters, and the names of the resources, none of which may be referred to
abbrev pub context_scope : over.ConditionContext → Scope
context_scope g = condition_scope g.mappings.now g.params.now g.pseudo.now g.resources.now

-- how many conditions are not decided
abbrev pub open_of : List (List ℕ × Verdict) → List (List ℕ × Test) → ℕ
open_of done [] = 0
open_of done (c ∷ cs) = if is_some (value_at c.0 done) then open_of done cs else suc (open_of done cs)

-- what `decide` answers: a verdict, or the fault that the condition has while those of `under` are under way
abbrev pub DecidesAs : over.ConditionContext → ℕ → List (List ℕ) → List (List ℕ) → List (List ℕ × Verdict) → List (List ℕ × Verdict) → Test
    → Result Verdict broken.Stop → Type 0
DecidesAs g left under still old new c (Ok v) = IsDecided (context_scope g) g.conds.now under old new c v × (still ≡ under)
DecidesAs g left under still old new c (Err w) =
    Stops (test_found (decided_by (condition_found left (context_scope g) g.conds.now under) (context_scope g)) None c) w

-- what `enter` and `descend` answer
abbrev pub Notes : over.ConditionContext → List (List ℕ) → List (List ℕ) → List (List ℕ × Verdict) → List (List ℕ × Verdict) → List ℕ
    → (broken.Stop → Type 0) → Result Verdict broken.Stop → Type 0
Notes g under still old new name stops (Ok v) = IsNoted (context_scope g) g.conds.now under old new name v × (still ≡ under)
Notes g under still old new name stops (Err w) = stops w

-- what `settle` answers of a condition that nothing is under way for
abbrev pub Answers : Scope → List (List ℕ × Test) → List ℕ → List (List ℕ × Verdict) → Result Verdict broken.Stop → Type 0
Answers s conds name new (Ok v) =
    AreNotedRight s conds new × ((at : List ℕ) → condition_found (length conds) s conds [] at name ≡ part_of (verdict_of v))
Answers s conds name new (Err w) = (at : List ℕ) → Stops (condition_found (length conds) s conds [] at name) w

-- a condition with its verdict, None being Later
abbrev pub noted_of : List ℕ × Verdict → List ℕ × Option Bool
noted_of c = (c.0, verdict_of c.1)

abbrev pub GivesConds : Outcome (List (List ℕ × Option Bool)) → Result (List (List ℕ × Verdict)) broken.Stop → Type 0
GivesConds o (Ok conds) = o ≡ got (map noted_of conds)
GivesConds o (Err w) = Stops o w
