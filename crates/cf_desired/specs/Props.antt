-- A property as a name and its value, which is none while it is not known yet (template reference, Resources: Properties; that one
-- may not be known yet is this project's own).
use Rattle.std.specs.Prelude.{ℕ, List, Option, option_map}
use Rattle.cf_tree.specs.Datum.{Data}
use Rattle.cf_tree.specs.Value.{datum_of}
use Rattle.cf_desired.specs.declared.props.Prop.{Prop}

abbrev pub prop_of : Prop → List ℕ × Option Data
prop_of p = (p.name, option_map datum_of p.value)
