-- What the evaluation of a part gives, and how parts come together: they are evaluated from first to last, the first fault is the answer,
-- and else one part that is Later makes the whole Later (this project's own order).
use Rattle.std.specs.Prelude.{ℕ, List, [], ◌∷◌, Option, Some, None}
use Rattle.cf_eval.specs.declared.fault.EvalWhy.{EvalWhy}
use Rattle.cf_eval.specs.declared.fault.EvalWhy.TheVariants.{UnknownName, WrongKind}

-- why an evaluation stops and at which place; or which condition is asked for at which place, where it is not decided; or why, in
-- which nested stack and at which place there, where an output of it is at fault
pub data Stop : Type 0 where
  fault : EvalWhy → List ℕ → Stop
  undecided : List ℕ → List ℕ → Stop
  below : EvalWhy → List ℕ → List ℕ → Stop

pub data Outcome (A : Type 0) : Type 0 where
  got : A → Outcome A
  later : Outcome A
  bad : Stop → Outcome A

-- a condition that is asked for and not decided is not declared, and so an unknown name
abbrev pub undeclared_at_fault : {A : Type 0} → Outcome A → Outcome A
undeclared_at_fault (bad (undecided name at)) = bad (fault UnknownName at)
undeclared_at_fault (bad (fault why at)) = bad (fault why at)
undeclared_at_fault (bad (below why stack at)) = bad (below why stack at)
undeclared_at_fault (got a) = got a
undeclared_at_fault later = later

-- where an evaluation in the stack at a path stops: why, in which stack, at which place of its template
abbrev pub stopped_at : List ℕ → Stop → EvalWhy × (List ℕ × List ℕ)
stopped_at stack (fault why at) = (why, (stack, at))
stopped_at stack (undecided name at) = (UnknownName, (stack, at))
stopped_at stack (below why path at) = (why, (path, at))

-- what f makes of a part once it is known
abbrev pub on_got : {A B : Type 0} → Outcome A → (A → Outcome B) → Outcome B
on_got (got a) f = f a
on_got later f = later
on_got (bad s) f = bad s

-- Later, but for a fault that comes after it
abbrev pub after_later : {A B : Type 0} → Outcome A → Outcome B
after_later (got a) = later
after_later later = later
after_later (bad s) = bad s

-- what f makes of two parts once both are known
abbrev pub both : {A B C : Type 0} → Outcome A → Outcome B → (A → B → Outcome C) → Outcome C
both (got a) y f = on_got y (f a)
both later y f = after_later y
both (bad s) y f = bad s

-- the parts of a list
abbrev pub each : {A : Type 0} → List (Outcome A) → Outcome (List A)
each [] = got []
each (x ∷ xs) = both x (each xs) (λ a rest. got (a ∷ rest))

-- WrongKind, where there is nothing
abbrev pub or_wrong : {A : Type 0} → List ℕ → Option A → Outcome A
or_wrong at (Some a) = got a
or_wrong at None = bad (fault WrongKind at)
