-- What is bound, seen and stood for in a template, each name once, in byte order, where the definitions list all (this
-- project's own).
use Rattle.std.specs.Prelude.{ℕ, Bool, true, false, List, [], ◌∷◌, filter, fold, not, is_some, if◌then◌else◌}
use Rattle.cf_tree.specs.Keys.{value_at, put}
use Rattle.cf_tree.specs.declared.template.Param.{Param}
use Rattle.cf_tree.specs.declared.template.Res.{Res}
use Rattle.cf_tree.specs.declared.template.Template.{Template}
use Rattle.cf_eval.specs.Sights.{seen_through}
use Rattle.cf_graph.specs.Needs.{is_made}
use Rattle.cf_desired.specs.Given.{Given, setting_given}
use Rattle.cf_desired.specs.Names.{path_in}
use Rattle.cf_desired.specs.Seeing.{Seen}
use Rattle.cf_desired.specs.Shape.{StandsFor}
use Rattle.cf_desired.specs.Stack.{Stack, Verdicts, Settings, Sights}

-- what parameters are bound to; of those of one name the first counts
abbrev pub put_setting : Given → Settings → Param → Settings
put_setting g bound p = if is_some (value_at p.name bound) then bound else put p.name (setting_given g p) bound

abbrev pub settings_by : List Param → Given → Settings
settings_by params g = fold (put_setting g) [] params

-- whether each resource is made, those that are not first, and what is seen of them
abbrev pub Made : Type 0
Made = List (List ℕ × Bool)

abbrev pub put_unmade : Made → Res → Made
put_unmade made r = put r.name false made

abbrev pub not_made_by : Verdicts → Template → Made
not_made_by conds t = fold put_unmade [] (filter (λ r. not (is_made conds r)) t.resources)

abbrev pub put_made : Made → List ℕ → Made
put_made made id = put id true made

abbrev pub made_by : Verdicts → Template → List (List ℕ) → Made
made_by conds t ids = fold put_made (not_made_by conds t) ids

abbrev pub sights_by : Stack → Verdicts → Seen → List (List ℕ) → Sights
sights_by t conds seen ids = seen_through t.path seen (made_by conds t.template ids)

-- the paths that a template's own resources stand for
abbrev pub put_own : Stack → StandsFor → List ℕ → StandsFor
put_own t stands id = put id (path_in t.path id ∷ []) stands

abbrev pub stands_by : Stack → List (List ℕ) → StandsFor
stands_by t ids = fold (put_own t) [] ids
