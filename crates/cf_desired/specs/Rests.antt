-- What an expression comes to, and so an output, rests on what is seen of the names that it mentions alone (this project's own
-- law).
use Rattle.std.specs.Prelude.{◌≡◌, ℕ, List, [], ◌∷◌, Option, Some, None, ⊤}
use Rattle.cf_tree.specs.Datum.{Data}
use Rattle.cf_tree.specs.Forms.{Form}
use Rattle.cf_tree.specs.Keys.{value_at}
use Rattle.cf_tree.specs.declared.source.Source.{Source}
use Rattle.cf_tree.specs.declared.template.Out.{Out}
use Rattle.cf_tree.specs.declared.template.Template.{Template}
use Rattle.cf_graph.specs.Mentions.{Mention, by_ref, by_attribute, mentions_of}
use Rattle.cf_graph.specs.Needs.{holds_in}
use Rattle.cf_desired.specs.Met.{output_at}
use Rattle.cf_desired.specs.Stack.{Stack, Settings, Verdicts, Sights, scoping}
use Rattle.cf_eval.specs.Scope.{resource_scope}
use Rattle.cf_eval.specs.Value.{value_of}

-- the same is seen of a mentioned name; a parameter hides resources from Ref
abbrev pub SeesSame : Settings → Sights → Sights → Mention → Type 0
SeesSame bound m n (by_ref name) = value_at name bound ≡ None → value_at name n ≡ value_at name m
SeesSame bound m n (by_attribute name) = value_at name n ≡ value_at name m

abbrev pub SeesAllSame : Settings → Sights → Sights → List Mention → Type 0
SeesAllSame bound m n [] = ⊤
SeesAllSame bound m n (x ∷ xs) = SeesSame bound m n x × SeesAllSame bound m n xs

-- a value rests on what its expression mentions
abbrev pub ValueRests : Type 0
ValueRests =
    (t : Template) (bound : Settings) (conds : Verdicts) (pseudo : List (List ℕ × Data)) (imports : List (List ℕ × List ℕ)) (m n : Sights)
    (e : Form)
    → SeesAllSame bound m n (mentions_of (holds_in conds) e)
    → value_of (resource_scope t.mappings bound conds pseudo n imports) e
    ≡ value_of (resource_scope t.mappings bound conds pseudo m imports) e

-- an output, its fault and the name of its export rest on what its two expressions mention
abbrev pub maybe_mentions : Verdicts → Option Form → List Mention
maybe_mentions conds None = []
maybe_mentions conds (Some e) = mentions_of (holds_in conds) e

abbrev pub OutputRests : Type 0
OutputRests =
    (source : Source) (t : Stack) (conds : Verdicts) (bound : Settings) (m n : Sights) (o : Out)
    → SeesAllSame bound m n (mentions_of (holds_in conds) o.value) → SeesAllSame bound m n (maybe_mentions conds o.export)
    → output_at t.path conds (scoping source t conds bound n) o ≡ output_at t.path conds (scoping source t conds bound m) o
