-- What is found along the resources of a shape, each as its path with what is asked of it.
use Rattle.std.proofs.Common.{◌≡◌, ℕ, List, [], ◌∷◌, map, fold, refl}
use Rattle.std.specs.Option.{option_map_or}
use Rattle.cf_tree.specs.declared.source.Source.{Source}
use Rattle.cf_schema.specs.declared.described.Schema.{Schema}
use Rattle.cf_desired.specs.declared.shape.Terms.{Terms}
use Rattle.cf_desired.specs.declared.wanted.Evaluated.{Evaluated}
use Rattle.cf_desired.specs.declared.wanted.Wanted.{Wanted}
use Rattle.cf_desired.specs.Plan.{props_at}
use Rattle.cf_desired.specs.Turns.{pathed}
use Rattle.cf_desired.specs.Work.{Body, Member}
use Rattle.cf_change.specs.Changes.{RowsFound, HeldAt, found_next, found_with}

abbrev pub wanted_under : List ℕ × Terms → Evaluated → Wanted
wanted_under t v = record { path = t.0; kind = t.1.kind; deletion = t.1.deletion; replace = t.1.replace; needs = t.1.needs; props = v }

abbrev pub found_under : List Schema → List HeldAt → Source → Body → RowsFound → List ℕ × Terms → RowsFound
found_under schemas held source b f t = option_map_or (λ v. found_with schemas held f (wanted_under t v)) (props_at source b f.seen t.0) f

pub along_terms : (schemas : List Schema) (held : List HeldAt) (source : Source) (b : Body) (f : RowsFound) (ms : List Member)
    → fold (found_under schemas held source b) f (map pathed ms) ≡ fold (found_next schemas held source b) f ms
along_terms schemas held source b f [] = refl
along_terms schemas held source b f (m ∷ ms) = along_terms schemas held source b (found_next schemas held source b f m) ms
