-- What each resource of a template needs, the order of work, and the refusals (User Guide: DependsOn and references; how
-- the order and a cycle are told is this project's own).
use Rattle.std.specs.Prelude.{ℕ, zero, suc, Bool, true, false, ◌&&◌, ◌||◌, not, List, [], ◌∷◌, ◌++◌, Option, Some, None, Result, Ok, Err, find, filter, filter_map, flat_map, map, option_map, is_some, length, codes, if◌then◌else◌}
use Rattle.std.specs.List.{list_all}
use Rattle.std.specs.Option.{option_or, option_map_or, unwrap_or}
use Rattle.std.specs.Str.{bytes_eq}
use Rattle.cf_tree.specs.Keys.{value_at}
use Rattle.cf_tree.specs.Named.{found}
use Rattle.cf_tree.specs.Lists.{is_among, first_in}
use Rattle.cf_tree.specs.Forms.{Form, fields_of}
use Rattle.cf_tree.specs.declared.bound.Verdict.{Verdict}
use Rattle.cf_tree.specs.declared.bound.Verdict.TheVariants as verdict
use Rattle.cf_tree.specs.declared.template.Template.{Template}
use Rattle.cf_tree.specs.declared.template.Res.{Res}
use Rattle.cf_graph.specs.Mentions.{Mention, by_ref, by_attribute, fields_mentions}

-- a condition is true
abbrev pub is_true : Verdict → Bool
is_true verdict.True = true
is_true _ = false

-- conditions that are false; one that is not declared hinders nothing here
abbrev pub is_false : Option Verdict → Bool
is_false (Some verdict.False) = true
is_false _ = false

-- of a declared condition, whether it is true
abbrev pub holds_in : List (List ℕ × Verdict) → List ℕ → Option Bool
holds_in conds name = option_map is_true (value_at name conds)

-- a resource is made where it has no condition, or one that is not false
abbrev pub is_made : List (List ℕ × Verdict) → Res → Bool
is_made conds r = not (option_map_or (λ c. is_false (value_at c conds)) r.condition false)

abbrev pub resource_named : List ℕ → Template → Option Res
resource_named name t = found (λ r. r.name) name t.resources

abbrev pub is_parameter : List ℕ → Template → Bool
is_parameter name t = is_some (found (λ p. p.name) name t.params)

-- the resource that a name means: a parameter of the name hides it from Ref
abbrev pub meant : Template → Mention → Option (List ℕ)
meant t (by_ref name) = if is_parameter name t then None else Some name
meant t (by_attribute name) = Some name

-- the properties that are evaluated: of a nested stack, its template and its parameters alone
abbrev pub is_evaluated : List ℕ → List ℕ → Bool
is_evaluated kind name =
    not (bytes_eq kind (codes "AWS::CloudFormation::Stack")) || is_among name (codes "TemplateURL" ∷ codes "Parameters" ∷ [])

abbrev pub evaluated_props : Res → List (List ℕ × Form)
evaluated_props r = filter (λ p. is_evaluated r.kind p.0) r.props

-- the names that a resource refers to, and those that its DependsOn names
abbrev pub referred_to : Template → List (List ℕ × Verdict) → Res → List (List ℕ)
referred_to t conds r = filter_map (meant t) (fields_mentions (holds_in conds) (fields_of (evaluated_props r))) ++ r.depends

-- what a resource needs: each made resource that it names, in byte order
abbrev pub needs_in : Template → List (List ℕ × Verdict) → Res → List (List ℕ)
needs_in t conds r = map (λ m. m.name) (filter (λ m. is_made conds m && is_among m.name (referred_to t conds r)) t.resources)

-- all made resources with what each needs
abbrev pub all_needs : Template → List (List ℕ × Verdict) → List (List ℕ × List (List ℕ))
all_needs t conds = map (λ r. (r.name, needs_in t conds r)) (filter (is_made conds) t.resources)

-- A DependsOn of a name that is not declared, the first by resource and then in its list.
abbrev pub is_unknown : Template → List ℕ → Bool
is_unknown t name = not (is_some (resource_named name t))

abbrev pub unknown_of : Template → Res → List (List ℕ × List ℕ)
unknown_of t r = map (λ n. (r.name, n)) (filter (is_unknown t) r.depends)

abbrev pub unknown_dependency : Template → Option (List ℕ × List ℕ)
unknown_dependency t = first_in (flat_map (unknown_of t) t.resources)

-- A closed walk along the needs: those of a length that lead from a resource back to the first one, in byte order.
abbrev pub needs_listed : List (List ℕ × List (List ℕ)) → List ℕ → List (List ℕ)
needs_listed all name = unwrap_or (value_at name all) []

abbrev pub walks : List (List ℕ × List (List ℕ)) → List ℕ → ℕ → List ℕ → List (List (List ℕ))
walks all start zero name = []
walks all start (suc zero) name = if is_among start (needs_listed all name) then (name ∷ []) ∷ [] else []
walks all start (suc (suc n)) name = flat_map (λ q. map (λ w. name ∷ w) (walks all start (suc n) q)) (needs_listed all name)

-- the shortest from a resource, of at most so many steps
abbrev pub shortest_walk : List (List ℕ × List (List ℕ)) → List ℕ → ℕ → Option (List (List ℕ))
shortest_walk all start zero = None
shortest_walk all start (suc n) = option_or (shortest_walk all start n) (first_in (walks all start (suc n) start))

-- a cycle starts at the least resource that lies on one, is the shortest from there, and the least in byte order among these
abbrev pub cycle_of : List (List ℕ × List (List ℕ)) → Option (List (List ℕ))
cycle_of all = first_in (filter_map (λ r. shortest_walk all r.0 (length all)) all)

-- The order of work: next comes the least, in byte order, of those whose needs have all come.
abbrev pub is_next : List (List ℕ × List (List ℕ)) → List ℕ × List (List ℕ) → Bool
is_next placed r = not (is_some (value_at r.0 placed)) && list_all (λ n. is_some (value_at n placed)) r.1

abbrev pub ordered : ℕ → List (List ℕ × List (List ℕ)) → List (List ℕ × List (List ℕ)) → List (List ℕ × List (List ℕ))
ordered zero all placed = placed
ordered (suc left) all placed = option_map_or (λ r. ordered left all (placed ++ r ∷ [])) (find (is_next placed) all) placed

-- why a template has no order
pub data OrderFault : Type 0 where
  unknown : (from name : List ℕ) → OrderFault
  circular : (cycle : List (List ℕ)) → OrderFault

abbrev pub order_of : List (List ℕ × List (List ℕ)) → Option (List (List ℕ)) → Result (List (List ℕ × List (List ℕ))) OrderFault
order_of all None = Ok (ordered (length all) all [])
order_of all (Some cycle) = Err (circular cycle)

abbrev pub unless_unknown :
    Option (List ℕ × List ℕ) → Result (List (List ℕ × List (List ℕ))) OrderFault → Result (List (List ℕ × List (List ℕ))) OrderFault
unless_unknown None r = r
unless_unknown (Some u) r = Err (unknown u.0 u.1)

-- each made resource with what it needs, in the order of work, or the first refusal
abbrev pub needs_of : Template → List (List ℕ × Verdict) → Result (List (List ℕ × List (List ℕ))) OrderFault
needs_of t conds = unless_unknown (unknown_dependency t) (order_of (all_needs t conds) (cycle_of (all_needs t conds)))
