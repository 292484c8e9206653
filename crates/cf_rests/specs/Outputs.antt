-- Outputs and exports rest on what is seen of the paths that their expressions mention, directly or through nested stacks, and on
-- nothing else that is seen (this project's own laws).
use Rattle.std.specs.Prelude.{◌≡◌, ℕ, List, [], ◌∷◌, ◌++◌, ⊤, Option, find, filter, filter_map, flat_map, map}
use Rattle.std.specs.Option.{option_map_or}
use Rattle.std.specs.Str.{bytes_eq}
use Rattle.cf_tree.specs.Keys.{put}
use Rattle.cf_tree.specs.declared.source.Source.{Source}
use Rattle.cf_tree.specs.declared.template.Out.{Out}
use Rattle.cf_tree.specs.declared.template.Template.{Template}
use Rattle.cf_graph.specs.Mentions.{Mention, mentions_of}
use Rattle.cf_graph.specs.Needs.{holds_in, meant}
use Rattle.cf_desired.specs.Met.{Met, an_output, met_in}
use Rattle.cf_desired.specs.Plan.{exported, plan_by}
use Rattle.cf_desired.specs.Rests.{maybe_mentions}
use Rattle.cf_desired.specs.Seeing.{Seen, is_output_made, own_ids}
use Rattle.cf_desired.specs.Shape.{StandsFor, first_stands, given_root, in_order, paths_inside, shape_of, stood_for}
use Rattle.cf_desired.specs.Stack.{Stack, Verdicts}
use Rattle.cf_desired.specs.Stays.{AgreeAt}
use Rattle.cf_desired.specs.Work.{Work, Inside, Body, Shape, no_work, resource, nested, shut, barred, halted, opened}
use Rattle.cf_desired.specs.Work as inside
use Rattle.cf_desired.specs.declared.wanted.WantedOutput.{WantedOutput}

-- an output, and the paths that it rests on
pub record Resting : Type 0 where
  pub name : List ℕ
  pub needs : List (List ℕ)

-- the paths that ids stand for once some work is done
abbrev pub stands_after : StandsFor → Work → StandsFor
stands_after stands no_work = stands
stands_after stands (resource m w) = stands_after stands w
stands_after stands (nested n i w) = stands_after (put n.id (paths_inside i ++ n.needs) stands) w

-- What an output rests on: what the ids stand for that its value and the name of its export mention, and what the template
-- around it needs.
abbrev pub output_mentions : Verdicts → Out → List Mention
output_mentions conds o = mentions_of (holds_in conds) o.value ++ maybe_mentions conds o.export

abbrev pub ids_mentioned : Template → Verdicts → Out → List (List ℕ)
ids_mentioned t conds o = filter_map (meant t) (output_mentions conds o)

abbrev pub resting : Stack → Verdicts → List (List ℕ) → StandsFor → Out → Resting
resting t conds around stands o = record { name = o.name; needs = in_order (stood_for stands (ids_mentioned t.template conds o) ++ around) }

-- the outputs of a template that are made
abbrev pub outputs_resting : Stack → Verdicts → List (List ℕ) → Work → List Resting
outputs_resting t conds around w =
    map (resting t conds around (stands_after (first_stands t (own_ids w)) w)) (filter (is_output_made conds) t.template.outputs)

-- All outputs of a shape in the order in which they are met: those of a nested stack in its place, those of the root last.
abbrev mutual
  pub resting_along : Work → List Resting
  resting_along no_work = []
  resting_along (resource m w) = resting_along w
  resting_along (nested n i w) = resting_inside n.needs i ++ resting_along w

  pub resting_inside : List (List ℕ) → Inside → List Resting
  resting_inside around (shut f) = []
  resting_inside around (inside.given_by form b) = resting_in around b

  pub resting_in : List (List ℕ) → Body → List Resting
  resting_in around (barred f) = []
  resting_in around (halted t f) = []
  resting_in around (opened t conds w) = resting_along w ++ outputs_resting t conds around w

-- the outputs of the root alone, and the paths that one of them rests on
abbrev pub root_resting : Shape → List Resting
root_resting (opened t conds w) = outputs_resting t conds [] w
root_resting _ = []

abbrev pub output_needs : Shape → List ℕ → List (List ℕ)
output_needs shape name = option_map_or (λ r. r.needs) (find (λ r. bytes_eq name r.name) (root_resting shape)) []

-- all outputs as they are met over what is seen
abbrev pub output_met : Met → List WantedOutput
output_met (an_output o) = o ∷ []
output_met _ = []

abbrev pub all_outputs : Source → Shape → Seen → List WantedOutput
all_outputs source shape seen = flat_map output_met (met_in source seen (given_root source) shape)

-- two lists of outputs are of the same outputs, one by one, each equal where a and b agree on what it rests on
abbrev pub SameEach : Seen → Seen → List Resting → List WantedOutput → List WantedOutput → Type 0
SameEach a b [] [] [] = ⊤
SameEach a b (r ∷ rs) (x ∷ xs) (y ∷ ys) = ((x.name ≡ r.name) × (y.name ≡ r.name) × (AgreeAt r.needs a b → y ≡ x)) × SameEach a b rs xs ys
SameEach a b _ _ _ = ⊥

-- an output of the root, by its name
abbrev pub output_named : List ℕ → List WantedOutput → Option WantedOutput
output_named name os = find (λ o. bytes_eq name o.name) os

abbrev pub OutputsMatter : Type 0
OutputsMatter =
    (source : Source) (before a b : Seen) (name : List ℕ) → AgreeAt (output_needs (shape_of source before) name) a b
    → output_named name (plan_by source (shape_of source before) b).outputs
    ≡ output_named name (plan_by source (shape_of source before) a).outputs

-- All outputs, nested ones as well; and the exports of a plan are theirs, one after another. So an entry of the exports is the
-- same where a and b agree on what its output rests on.
abbrev pub ExportsMatter : Type 0
ExportsMatter =
    (source : Source) (before a b : Seen)
    → SameEach a b (resting_in [] (shape_of source before)) (all_outputs source (shape_of source before) a)
    (all_outputs source (shape_of source before) b)

abbrev pub ExportsAreOutputs : Type 0
ExportsAreOutputs =
    (source : Source) (shape : Shape) (seen : Seen) → (plan_by source shape seen).exports
    ≡ flat_map exported (all_outputs source shape seen)
