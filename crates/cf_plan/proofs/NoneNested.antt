-- Where the shape of a source has no nested stack, what the source wants has none.
use Rattle.std.proofs.Common.{◌≡◌, Bool, false, List, [], ◌∷◌, Option, Some, None, map, refl, ap, sym, ◌∙◌, subst}
use Rattle.std.specs.Option.{option_map_or}
use Rattle.cf_tree.specs.declared.source.Source.{Source}
use Rattle.cf_desired.specs.Kept.{IsShape}
use Rattle.cf_desired.specs.Plan.{plan_by}
use Rattle.cf_desired.specs.Seeing.{Seen}
use Rattle.cf_desired.specs.Shape.{shape_of}
use Rattle.cf_desired.specs.Valued.{nestings_in}
use Rattle.cf_desired.specs.Work.{Body}
use Rattle.cf_desired.specs.declared.shape.Shape as kept
use Rattle.cf_effect.specs.Ahead.{nestings_of}
use Rattle.cf_effect.specs.Begin.{seen_in}
use Rattle.cf_effect.specs.End.{seen_now}
use Rattle.cf_effect.specs.Outset.{Outset}
use Rattle.cf_effect.specs.World.{StackState}
use Rattle.cf_rests.proofs.Viewed.{by_paths}
use Rattle.cf_plan.specs.Forward.{plan_in, plan_now}

none_mapped : {A B : Type 0} (f : A → B) (xs : List A) → map f xs ≡ [] → xs ≡ []
none_mapped f [] e = refl
none_mapped f (x ∷ xs) e = let no : ⊥ = cc in absurd no

none_in : (source : Source) (before seen : Seen) → nestings_in (shape_of source before) ≡ [] → (plan_by source (shape_of source before) seen).nested ≡ []
none_in source before seen e =
    none_mapped (λ n. n.path) (plan_by source (shape_of source before) seen).nested
    ((by_paths source (shape_of source before) seen).stacks ∙ ap (map (λ n. n.path)) e)

-- where the stack set out with a source, by what is told of its shape
pub none_here :
    (s : StackState) (o : Outset) (shape : kept.Shape) (r : Bool) → IsShape shape (shape_of o.source (seen_in o.before)) → Some o.source ≡ s.going → o.before ≡ s.before
    → ((b : Body) → IsShape shape b → r ≡ false → nestings_in b ≡ []) → r ≡ false → (plan_now s).nested ≡ []
none_here s o shape r is going before h e =
    ap (λ g. (plan_in g (seen_in s.before) (seen_now s)).nested) (sym going)
    ∙ none_in o.source (seen_in s.before) (seen_now s)
    (subst (λ hs. nestings_in (shape_of o.source (seen_in hs)) ≡ []) before (h (shape_of o.source (seen_in o.before)) is e))

-- where it set out with none
pub none_there : (s : StackState) → None ≡ s.going → (plan_now s).nested ≡ []
none_there s going = ap (λ g. (plan_in g (seen_in s.before) (seen_now s)).nested) (sym going)

pub none_by : (s : StackState) → nestings_of s ≡ [] → (plan_now s).nested ≡ []
none_by s e = by s.going e where
  by : (o : Option Source) → option_map_or (λ source. nestings_in (shape_of source (seen_in s.before))) o [] ≡ [] → (plan_in o (seen_in s.before) (seen_now s)).nested ≡ []
  by None h = refl
  by (Some source) h = none_in source (seen_in s.before) (seen_now s) h
