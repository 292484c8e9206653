-- The members of a list of values.
use Rattle.std.proofs.Common.{◌≡◌, List, [], ◌∷◌, Some, refl, ap}
use Rattle.cf_tree.specs.Datum.{Data, items_of, list}
use Rattle.cf_eval.specs.Texts.{data_in, list_in}

data_in-items_of : (ds : List Data) → data_in (items_of ds) ≡ ds
data_in-items_of [] = refl
data_in-items_of (d ∷ ds) = ap (λ (es : List Data). d ∷ es) (data_in-items_of ds)

pub members_are : (ds : List Data) → list_in (list (items_of ds)) ≡ Some ds
members_are ds = ap Some (data_in-items_of ds)
