-- Lists of live resources are a set: two proofs that such lists are equal are one (this project's own).
use Rattle.std.specs.Prelude.{ℕ, List}
use Rattle.std.specs.Coded.{Coded, code_by, coded_ℕ, coded_list, coded×}
use Rattle.std.proofs.Common.{refl}
use Rattle.cf_tree.specs.Datum.{Data, data_code}
use Rattle.cf_handler.specs.Lane.{Live}

abbrev dict_code : Coded (List (List ℕ × Data))
dict_code = coded_list (coded× (coded_list coded_ℕ) data_code)

abbrev live_parts : Live → List ℕ × (List ℕ × (List (List ℕ × Data) × List (List ℕ × Data)))
live_parts r = (r.id, (r.kind, (r.props, r.attrs)))

abbrev live_from : List ℕ × (List ℕ × (List (List ℕ × Data) × List (List ℕ × Data))) → Live
live_from p = record { id = p.0; kind = p.1.0; props = p.1.1.0; attrs = p.1.1.1 }

abbrev pub live_code : Coded Live
live_code =
    code_by (List ℕ × (List ℕ × (List (List ℕ × Data) × List (List ℕ × Data))))
    (coded× (coded_list coded_ℕ) (coded× (coded_list coded_ℕ) (coded× dict_code dict_code))) live_parts live_from (λ r. refl)
