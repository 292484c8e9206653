-- Properties that are all known are a dictionary.
use Rattle.std.proofs.Common.{◌≡◌, ℕ, zero, suc, ◌<◌, List, [], ◌∷◌, length, get_or, map, Option, Some, None, option_map, refl, ap, arith}
use Rattle.cf_tree.specs.Datum.{Data}
use Rattle.cf_tree.specs.Keys.{ascends}
use Rattle.cf_tree.specs.Value.{datum_of}
use Rattle.cf_tree.proofs.Order.{ascends_map}
use Rattle.cf_desired.specs.declared.props.Prop.{Prop}
use Rattle.cf_desired.specs.Props.{prop_of}
use Rattle.cf_desired.specs.Whole.{known_props_from}

abbrev pub known_as : List ℕ × Data → List ℕ × Option Data
known_as p = (p.0, Some p.1)

pub all_known : (ds : List (List ℕ × Data)) → known_props_from (map known_as ds) ≡ Some ds
all_known [] = refl
all_known (d ∷ ds) = ap (option_map (λ (rest : List (List ℕ × Data)). d ∷ rest)) (all_known ds)

pub known_ascend : (ds : List (List ℕ × Data)) → ascends (map known_as ds) ≡ ascends ds
known_ascend ds = ascends_map known_as (λ d. refl) ds

rest_none : (name : List ℕ) (o : Option Data) (ps : List (List ℕ × Option Data)) → known_props_from ps ≡ None → known_props_from ((name, o) ∷ ps) ≡ None
rest_none name None ps h = refl
rest_none name (Some d) ps h = ap (option_map (λ (rest : List (List ℕ × Data)). (name, d) ∷ rest)) h

-- one that is not known
pub none_at : (ps : List Prop) (i : ℕ) (d : Prop) → i < length ps → (get_or ps i d).value ≡ None → known_props_from (map prop_of ps) ≡ None
none_at [] i d h e = absurd (omega (arith, h))
none_at (p ∷ ps) zero d h e = ap (λ v. known_props_from ((p.name, option_map datum_of v) ∷ map prop_of ps)) e
none_at (p ∷ ps) (suc i) d h e = rest_none p.name (option_map datum_of p.value) (map prop_of ps) (none_at ps i d (omega (arith, h)) e)
