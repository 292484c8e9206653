-- Knowing more never changes what was known: what it is to know more, and what stays (this project's own law).
use Rattle.std.specs.Prelude.{◌≡◌, ℕ, List, Bool, true, false, ◌&&◌, not, Option, Some, None, IsTrue, ⊤}
use Rattle.cf_tree.specs.Datum.{Data}
use Rattle.cf_tree.specs.Forms.{Form, Node, Forms, Fields, expr, lit, ref, get_att, sub, join, select, split, choice, find_in_map, import_value, base64, no_forms, form, no_fields, field}
use Rattle.cf_tree.specs.Forms as node
use Rattle.cf_tree.specs.Keys.{value_at}
use Rattle.cf_eval.specs.declared.env.Sight.{Sight}
use Rattle.cf_eval.specs.declared.env.Sight.TheVariants as sight
use Rattle.cf_eval.specs.declared.env.OutputSight.{OutputSight}
use Rattle.cf_eval.specs.declared.env.OutputSight.TheVariants as output
use Rattle.cf_eval.specs.Outcome.{Outcome, got, later, bad}
use Rattle.cf_eval.specs.Scope.{Scope, Beyond, open_to, closed_to}
use Rattle.cf_eval.specs.Texts.{Found}
use Rattle.cf_eval.specs.Value.{form_found, value_of}

-- what was known stays so; what was not may be anything
abbrev pub StaysKnown : {A : Type 0} → Option A → Option A → Type 0
StaysKnown (Some a) o = o ≡ Some a
StaysKnown None o = ⊤

-- the same name is there, and what it was bound to stays so
abbrev pub KeepsSetting : Option (Option Data) → Option (Option Data) → Type 0
KeepsSetting None o = o ≡ None
KeepsSetting (Some v) None = ⊥
KeepsSetting (Some v) (Some w) = StaysKnown v w

-- what is known of an output stays; one that is not known yet or at fault may become anything, since an import's name that is
-- Later is a fault that goes
abbrev pub KeepsOutput : Option OutputSight → Option OutputSight → Type 0
KeepsOutput (Some (output.Made (Some v))) o = o ≡ Some (output.Made (Some v))
KeepsOutput (Some (output.Made None)) o = ⊤
KeepsOutput (Some (output.Broken why stack at)) o = ⊤
KeepsOutput (Some output.NotMade) o = o ≡ Some output.NotMade
KeepsOutput None o = o ≡ None

abbrev pub KeepsSight : Option Sight → Option Sight → Type 0
KeepsSight (Some (sight.Made p a)) (Some (sight.Made q b)) = StaysKnown p q × StaysKnown a b
KeepsSight (Some (sight.Made p a)) o = ⊥
KeepsSight (Some (sight.Nested i outs)) (Some (sight.Nested j others)) =
    (j ≡ i) × ((name : List ℕ) → KeepsOutput (value_at name outs) (value_at name others))
KeepsSight (Some (sight.Nested i outs)) o = ⊥
KeepsSight (Some sight.NotMade) o = o ≡ Some sight.NotMade
KeepsSight None o = o ≡ None

abbrev pub KeepsBeyond : Beyond → Beyond → Type 0
KeepsBeyond (open_to seen imports) (open_to others more) =
    ((id : List ℕ) → KeepsSight (value_at id seen) (value_at id others)) × (more ≡ imports)
KeepsBeyond (open_to seen imports) b = ⊥
KeepsBeyond (closed_to names) b = b ≡ closed_to names

-- a condition that was decided stays so; a fault may become another one, that of a part that was not known yet
abbrev pub KeepsOutcome : {A : Type 0} → Outcome A → Outcome A → Type 0
KeepsOutcome (got a) o = o ≡ got a
KeepsOutcome later o = ⊤
KeepsOutcome (bad w) o = ⊤

-- t agrees with s, and may know what is Later or at fault in s
pub record KnowsMore (s t : Scope) : Type 0 where
  pub params : (name : List ℕ) → KeepsSetting (s.params name) (t.params name)
  pub mapping : (name : List ℕ) → t.mapping name ≡ s.mapping name
  pub pseudo : t.pseudo ≡ s.pseudo
  pub decided : (at name : List ℕ) → KeepsOutcome (s.decided at name) (t.decided at name)
  pub beyond : KeepsBeyond s.beyond t.beyond

-- an outcome is a fault
abbrev pub is_fault : {A : Type 0} → Outcome A → Bool
is_fault (got a) = false
is_fault later = false
is_fault (bad w) = true

abbrev pub is_later : {A : Type 0} → Outcome A → Bool
is_later (got a) = false
is_later later = true
is_later (bad w) = false

-- an output is at fault
abbrev pub is_broken : Option OutputSight → Bool
is_broken (Some (output.Broken why stack at)) = true
is_broken _ = false

-- the outputs of a nested stack that were at fault are so
abbrev pub BrokenStay : Option Sight → Option Sight → Type 0
BrokenStay (Some (sight.Nested i outs)) (Some (sight.Nested j others)) =
    (name : List ℕ) → IsTrue (is_broken (value_at name outs)) → IsTrue (is_broken (value_at name others))
BrokenStay _ _ = ⊤

abbrev pub BrokenBeyond : Beyond → Beyond → Type 0
BrokenBeyond (open_to seen imports) (open_to others more) = (id : List ℕ) → BrokenStay (value_at id seen) (value_at id others)
BrokenBeyond _ _ = ⊤

-- conditions and outputs that were at fault in s are so in t
pub record KeepsFaults (s t : Scope) : Type 0 where
  pub decided : (at name : List ℕ) → IsTrue (is_fault (s.decided at name)) → IsTrue (is_fault (t.decided at name))
  pub beyond : BrokenBeyond s.beyond t.beyond

-- Whether no import's name is Later. One that is Later is a fault, and the only fault that may go when more is known and what
-- was at fault stays so.
abbrev mutual
  pub names_imports : Scope → Form → Bool
  names_imports s (expr at n) = node_names_imports s at n

  pub node_names_imports : Scope → List ℕ → Node → Bool
  node_names_imports s at (import_value e) = not (is_later (form_found s (Some at) e)) && names_imports s e
  node_names_imports s at (node.list es) = all_name_imports s es
  node_names_imports s at (node.dict ps) = fields_name_imports s ps
  node_names_imports s at (lit d) = true
  node_names_imports s at (ref name) = true
  node_names_imports s at (get_att id a) = names_imports s a
  node_names_imports s at (sub parts own) = fields_name_imports s own
  node_names_imports s at (join d e) = names_imports s e
  node_names_imports s at (select i e) = names_imports s i && names_imports s e
  node_names_imports s at (split d e) = names_imports s e
  node_names_imports s at (choice name y n) = names_imports s y && names_imports s n
  node_names_imports s at (find_in_map m k l) = names_imports s m && (names_imports s k && names_imports s l)
  node_names_imports s at (base64 e) = names_imports s e

  pub all_name_imports : Scope → Forms → Bool
  all_name_imports s no_forms = true
  all_name_imports s (form e es) = names_imports s e && all_name_imports s es

  pub fields_name_imports : Scope → Fields → Bool
  fields_name_imports s no_fields = true
  fields_name_imports s (field name e ps) = names_imports s e && fields_name_imports s ps

-- what stays of x where y is what more knowledge makes of it: a value or NoValue; and a fault, where that is kept
pub record Stays (x y : Found) (kept : Type 0) : Type 0 where
  pub value : (v : Option Data) → x ≡ got v → y ≡ got v
  pub fault : kept → IsTrue (is_fault x) → IsTrue (is_fault y)

-- knowing more never changes what was known; a fault stays one where those of conditions and outputs do, and no import's name
-- is Later
abbrev pub ValuesStay : Type 0
ValuesStay =
    (s t : Scope) → KnowsMore s t → (e : Form)
    → Stays (value_of s e) (value_of t e) (KeepsFaults s t × IsTrue (names_imports s e))
