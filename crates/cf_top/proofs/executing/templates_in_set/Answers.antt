use Rattle.std.proofs.Common.{◌≡◌, ◌∙◌, ℕ, List, Option, Some, None, Result, Ok, Err, ap}
use Rattle.std.specs.Prelude.{IfOk}
use Rattle.cf_tree.specs.declared.template.Template.{Template}
use Rattle.cf_desired.specs.Templates.{templates_of}
use Rattle.cf_effect.specs.World.{World, known_stack}
use Rattle.cf_effect.specs.declared.held.KeptSet.{KeptSet}
use Rattle.cf_prepare.specs.Refusals.{set_of}
use Rattle.cf_top.proofs.executing.templates_in_set.Goals as goal

one_set : (a b : KeptSet) → Some a ≡ Some b → a ≡ b
one_set a b e = cc

-- the templates of the set that is found are those of each set of the number
of_set : {E : Type 0} (number : ℕ) (name : List ℕ) (x : World) (set : KeptSet) → Some set ≡ set_of number (known_stack name x) → (r : Result (List (List ℕ × Template)) E)
    → IfOk r (λ ts. ts ≡ templates_of set.source) → IfOk r (λ ts. (k : KeptSet) → set_of number (known_stack name x) ≡ Some k → ts ≡ templates_of k.source)
of_set number name x set at (Ok ts) is = λ k has. is ∙ ap (λ (s : KeptSet). templates_of s.source) (one_set set k (at ∙ has))
of_set number name x set at (Err e) is = tt

none_there : (o : Option KeptSet) (k : KeptSet) → None ≡ o → o ≡ Some k → ⊥
none_there o k none has = let f = none ∙ has in cc

pub returns-in-Some : goal.returns-in-Some
returns-in-Some c = of_set c.args.number c.args.stack.now c.args.world.now.world c.in-Some.set.now c.in-Some.ensures c.templates_of.result c.templates_of.ensures

-- there is no set of the number
pub returns-in-None : goal.returns-in-None
returns-in-None c k has = absurd (none_there (set_of c.args.number (known_stack c.args.stack.now c.args.world.now.world)) k c.in-None.ensures has)
