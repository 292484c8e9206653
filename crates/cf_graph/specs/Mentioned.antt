-- What the names that the code collects stand for (this project's own).
use Rattle.std.specs.Prelude.{ℕ, Bool, true, List, Option, Some, None, map, filter, filter_map, ◌++◌, if◌then◌else◌}
use Rattle.cf_tree.specs.Forms.{fields_of}
use Rattle.cf_tree.specs.declared.bound.Verdict.{Verdict}
use Rattle.cf_tree.specs.declared.template.Res.{Res}
use Rattle.cf_tree.specs.Lists.{is_among}
use Rattle.cf_graph.specs.Mentions as means
use Rattle.cf_graph.specs.Needs.{holds_in, evaluated_props}
use Rattle.cf_graph.specs.declared.mentions.Mention.{Mention}
use Rattle.cf_graph.specs.declared.mentions.Mention.TheVariants.{ByRef, ByAttribute}

abbrev pub mention_in : Mention → means.Mention
mention_in (ByRef name) = means.by_ref name
mention_in (ByAttribute name) = means.by_attribute name

abbrev pub mentioned : List Mention → List means.Mention
mentioned ms = map mention_in ms

-- names as the keys of a map
abbrev pub as_keys : List (List ℕ) → List (List ℕ × Bool)
as_keys names = map (λ k. (k, true)) names

-- the resource that a name means, where a test tells the parameters, which hide resources from Ref
abbrev pub meant_by : (List ℕ → Bool) → means.Mention → Option (List ℕ)
meant_by is_param (means.by_ref name) = if is_param name then None else Some name
meant_by is_param (means.by_attribute name) = Some name

-- what a resource needs of those that are made, where a test tells the parameters
abbrev pub needs_mentioned : (List ℕ → Bool) → List (List ℕ) → List (List ℕ × Verdict) → Res → List (List ℕ)
needs_mentioned is_param made conds r =
    filter (λ n. is_among n (filter_map (meant_by is_param) (means.fields_mentions (holds_in conds) (fields_of (evaluated_props r)))
    ++ r.depends)) made
