-- The members of a list that are compared, in the order in which the code takes them.
use Rattle.std.proofs.Common.{◌≡◌, List, [], ◌∷◌, ◌++◌, Option, Some, None, option_map, refl, ap, sym, ◌∙◌}
use Rattle.cf_tree.specs.Datum.{Data, Items, no_items, item, items_of}
use Rattle.cf_eval.specs.Conditions.{compared, compared_items, item_before}

abbrev pub then_more : Option Data → (Data → Option (List Data)) → Option (List Data)
then_more (Some d) f = f d
then_more None f = None

abbrev pub compared_after : List Data → Items → Option (List Data)
compared_after so_far no_items = Some so_far
compared_after so_far (item d ds) = then_more (compared d) (λ e. compared_after (so_far ++ e ∷ []) ds)

before : List Data → Items → Items
before [] ds = ds
before (a ∷ so_far) ds = item a (before so_far ds)

before_none : (so_far : List Data) → before so_far no_items ≡ items_of so_far
unfolding before
before_none [] = refl
before_none (a ∷ so_far) = ap (item a) (before_none so_far)

before_one : (so_far : List Data) (e : Data) (ds : Items) → before so_far (item e ds) ≡ before (so_far ++ e ∷ []) ds
unfolding before
before_one [] e ds = refl
before_one (a ∷ so_far) e ds = ap (item a) (before_one so_far e ds)

before_all : (so_far : List Data) (e : Data) (o : Option Items) → option_map (before so_far) (option_map (item e) o) ≡ option_map (before (so_far ++ e ∷ [])) o
before_all so_far e (Some ds) = ap Some (before_one so_far e ds)
before_all so_far e None = refl

after_first : (so_far : List Data) (o : Option Data) (ds : Items) → ((e : Data) → option_map (before (so_far ++ e ∷ [])) (compared_items ds) ≡ option_map items_of (compared_after (so_far ++ e ∷ []) ds))
    → option_map (before so_far) (item_before o (compared_items ds)) ≡ option_map items_of (then_more o (λ e. compared_after (so_far ++ e ∷ []) ds))
after_first so_far (Some e) ds rest = before_all so_far e (compared_items ds) ∙ rest e
after_first so_far None ds rest = refl

after_is : (so_far : List Data) (ds : Items) → option_map (before so_far) (compared_items ds) ≡ option_map items_of (compared_after so_far ds)
after_is so_far no_items = ap Some (before_none so_far)
after_is so_far (item d ds) = after_first so_far (compared d) ds (λ e. after_is (so_far ++ e ∷ []) ds)

nothing_before : (o : Option Items) → o ≡ option_map (before []) o
unfolding before
nothing_before (Some ds) = refl
nothing_before None = refl

pub compared_is : (ds : Items) → compared_items ds ≡ option_map items_of (compared_after [] ds)
compared_is ds = nothing_before (compared_items ds) ∙ after_is [] ds
