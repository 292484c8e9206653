-- No two resources of a shape have one path, nor two nested stacks, nor a resource and a nested stack (this project's own law).
use Rattle.std.specs.Prelude.{ℕ, List, ◌++◌, IsTrue, map}
use Rattle.std.specs.Str.{bytes_eq}
use Rattle.cf_tree.specs.Named.{all_differ}
use Rattle.cf_tree.specs.declared.source.Source.{Source}
use Rattle.cf_desired.specs.Seeing.{Seen}
use Rattle.cf_desired.specs.Shape.{shape_of}
use Rattle.cf_desired.specs.Valued.{nestings_in, resources_in}
use Rattle.cf_desired.specs.Work.{Shape}

abbrev pub shape_paths : Shape → List (List ℕ)
shape_paths shape = map (λ m. m.path) (resources_in shape) ++ map (λ n. n.path) (nestings_in shape)

abbrev pub PathsDiffer : Type 0
PathsDiffer = (source : Source) (seen : Seen) → IsTrue (all_differ bytes_eq (shape_paths (shape_of source seen)))
