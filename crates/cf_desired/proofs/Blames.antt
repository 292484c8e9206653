-- Who is to blame where an evaluation stops, as a flaw and as what is seen of an output.
use Rattle.std.specs.Prelude.{cond, filter}
use Rattle.std.proofs.Common.{◌≡◌, ℕ, List, [], ◌∷◌, ◌++◌, map, Bool, true, false, Option, Some, None, refl, sym, ap, ◌∙◌, option_map}
use Rattle.std.specs.Option.{option_or, option_map_or}
use Rattle.cf_eval.specs.declared.env.OutputSight.{OutputSight}
use Rattle.cf_eval.specs.declared.env.OutputSight.TheVariants as output
use Rattle.cf_eval.specs.declared.fault.EvalFault.{EvalFault}
use Rattle.cf_eval.specs.declared.fault.EvalFault.TheVariants as answer
use Rattle.cf_eval.specs.declared.fault.EvalWhy.{EvalWhy}
use Rattle.cf_eval.specs.Env.{RefusesIn}
use Rattle.cf_eval.specs.Outcome.{Outcome, Stop, bad}
use Rattle.cf_desired.specs.declared.evaluations.Blame.{Blame}
use Rattle.cf_desired.specs.Kept.{IsBlameOf, blame_at, flaw_of_blame}
use Rattle.cf_desired.specs.Seeing.{broken_at}
use Rattle.cf_desired.specs.Stack.{flaw_at}

pub some_blamed : (path : List ℕ) (o : Option Stop) → option_map flaw_of_blame (option_map (blame_at path) o) ≡ option_map (flaw_at path) o
some_blamed path None = refl
some_blamed path (Some s) = refl

-- an output that is broken
abbrev pub sight_by : Blame → OutputSight
sight_by b = output.Broken b.why b.stack b.at

-- what is seen of an output, by what is to blame
pub made_sight : (path : List ℕ) (o : Option Stop) (v : Option (List ℕ)) → option_map_or sight_by (option_map (blame_at path) o) (output.Made v) ≡ option_map_or (broken_at path) o (output.Made v)
made_sight path None v = refl
made_sight path (Some s) v = refl

abbrev from_stop : EvalWhy × (List ℕ × List ℕ) → Blame
from_stop x = record { why = x.0; stack = x.1.0; at = x.1.1 }

-- an evaluation that is refused stops so
pub refused : {A : Type 0} (path : List ℕ) (o : Outcome A) (e : EvalFault) (b : Blame) → RefusesIn path o e → IsBlameOf e b → (s : Stop) × ((o ≡ bad s) × (b ≡ blame_at path s))
refused path o (answer.Bad why stack at) b h g = (h.0, (h.1.0, g ∙ ap from_stop (sym h.1.1)))
refused path o answer.NoMemory b h g = absurd g

-- the first that is to blame
pub first_blamed : (path : List ℕ) (x y z : Option Stop)
    → option_or (option_map (blame_at path) x) (option_or (option_map (blame_at path) y) (option_map (blame_at path) z)) ≡ option_map (blame_at path) (option_or x (option_or y z))
first_blamed path (Some s) y z = refl
first_blamed path None (Some s) z = refl
first_blamed path None None z = refl

-- one more of those that pass, or not
module _ {A B : Type 0} (f : A → B) (test : A → Bool) where
  pub one_more : (xs : List A) (x : A) → test x ≡ true → map f (filter test (xs ++ x ∷ [])) ≡ map f (filter test xs) ++ f x ∷ []
  one_more [] x h = ap (λ b. map f (cond b (x ∷ []) [])) h
  one_more (y ∷ xs) x h = either (test y) (one_more xs x h) where
    either : (b : Bool) → map f (filter test (xs ++ x ∷ [])) ≡ map f (filter test xs) ++ f x ∷ []
        → map f (cond b (y ∷ filter test (xs ++ x ∷ [])) (filter test (xs ++ x ∷ []))) ≡ map f (cond b (y ∷ filter test xs) (filter test xs)) ++ f x ∷ []
    either true ih = ap (λ zs. f y ∷ zs) ih
    either false ih = ih

  pub one_less : (xs : List A) (x : A) → test x ≡ false → map f (filter test (xs ++ x ∷ [])) ≡ map f (filter test xs)
  one_less [] x h = ap (λ b. map f (cond b (x ∷ []) [])) h
  one_less (y ∷ xs) x h = either (test y) (one_less xs x h) where
    either : (b : Bool) → map f (filter test (xs ++ x ∷ [])) ≡ map f (filter test xs)
        → map f (cond b (y ∷ filter test (xs ++ x ∷ [])) (filter test (xs ++ x ∷ []))) ≡ map f (cond b (y ∷ filter test xs) (filter test xs))
    either true ih = ap (λ zs. f y ∷ zs) ih
    either false ih = ih
