-- A resource of a template by its place (this project's own).
use Rattle.std.specs.Prelude.{ℕ, List, [], None, slice_index_or}
use Rattle.cf_tree.specs.declared.template.Res.{Res}

abbrev pub no_resource : Res
no_resource = record { name = []; kind = []; props = []; depends = []; condition = None; deletion = None; replace = None }

abbrev pub resource_placed : ℕ → List Res → Res
resource_placed at rs = slice_index_or rs at no_resource
