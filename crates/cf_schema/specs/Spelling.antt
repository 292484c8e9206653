-- How a list of a schema writes a property that it names (CloudFormation CLI guide: resource type schema).
use Rattle.std.specs.Prelude.{ℕ, List}
use Rattle.cf_schema.specs.declared.pointers.Spelling.{Spelling}
use Rattle.cf_schema.specs.declared.pointers.Spelling.TheVariants.{Name, Pointer}
use Rattle.cf_schema.specs.Reading.{pointer_to}

abbrev pub spelled_as : Spelling → List ℕ → List ℕ
spelled_as Name = λ property. property
spelled_as Pointer = pointer_to
