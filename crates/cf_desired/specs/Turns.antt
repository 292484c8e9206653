-- A shape as a list of turns, one after another in the order of work, and what taking them gives: which templates are open, and
-- the plan (this project's own).
use Rattle.std.specs.Prelude.{ℕ, Bool, true, false, List, [], ◌∷◌, ◌++◌, Option, Some, None, find, flat_map, map, not, filter, option_map}
use Rattle.std.specs.Option.{option_or}
use Rattle.std.specs.Str.{bytes_eq}
use Rattle.cf_tree.specs.Datum.{Data}
use Rattle.cf_tree.specs.Forms.{Form}
use Rattle.cf_tree.specs.declared.source.Source.{Source}
use Rattle.cf_eval.specs.declared.env.OutputSight.{OutputSight}
use Rattle.cf_eval.specs.Scope.{Scope, resource_scope}
use Rattle.cf_desired.specs.declared.flaw.Flaw.{Flaw}
use Rattle.cf_desired.specs.declared.shape.Terms.{Terms}
use Rattle.cf_desired.specs.declared.wanted.Evaluated.{Evaluated}
use Rattle.cf_desired.specs.declared.wanted.Evaluated.TheVariants.{Flawed as flawed, Known as evaluated}
use Rattle.cf_desired.specs.declared.wanted.Plan.{Plan}
use Rattle.cf_desired.specs.declared.wanted.WantedOutput.{WantedOutput}
use Rattle.cf_desired.specs.Given.{Given, given_in, unknown}
use Rattle.cf_eval.specs.Sights.{seen_through}
use Rattle.cf_desired.specs.Listed.{Made, made_by, settings_by}
use Rattle.cf_desired.specs.Met.{bind_flaw, offers_flaw, outputs_wanted}
use Rattle.cf_desired.specs.Names.{pseudo_of}
use Rattle.cf_desired.specs.Plan.{exported, output_flaws, wanted_of}
use Rattle.cf_desired.specs.Seeing.{Seen, by_names, is_output_made, output_sights, own_ids, seen_nested}
use Rattle.cf_desired.specs.Shape.{given_root}
use Rattle.cf_desired.specs.Stack.{Stack, Verdicts, Settings, Sights}
use Rattle.cf_desired.specs.Valued.{member_props}
use Rattle.cf_desired.specs.Work.{Member, Nesting, Work, Inside, Body, no_work, resource, nested, shut, barred, halted, opened}
use Rattle.cf_desired.specs.Work as inside

-- how a template comes to be entered: as the root; or as a nested stack, with what its parameters are given
pub data Entry : Type 0 where
  the_root : Entry
  through : Nesting → Option Form → Entry

-- A resource; a nested stack with a flaw; a template that can't be entered, or that can't be worked on; a template that is opened,
-- with its own resources, each with whether it is made; and the end of the template that was opened last.
pub data Turn : Type 0 where
  a_resource : Member → Turn
  a_shut : Nesting → Flaw → Turn
  a_barred : Entry → Flaw → Turn
  a_halted : Entry → Stack → Flaw → Turn
  an_opened : Entry → Stack → Verdicts → Made → Turn
  a_closed : Turn

-- the turns of a shape
abbrev mutual
  pub turns_along : Work → List Turn
  turns_along no_work = []
  turns_along (resource m w) = a_resource m ∷ turns_along w
  turns_along (nested n i w) = turns_inside n i ++ turns_along w

  pub turns_inside : Nesting → Inside → List Turn
  turns_inside n (shut f) = a_shut n f ∷ []
  turns_inside n (inside.given_by form b) = turns_in (through n form) b

  pub turns_in : Entry → Body → List Turn
  turns_in e (barred f) = a_barred e f ∷ []
  turns_in e (halted t f) = a_halted e t f ∷ []
  turns_in e (opened t conds w) = an_opened e t conds (made_by conds t.template (own_ids w)) ∷ (turns_along w ++ a_closed ∷ [])

-- a turn of a nested stack
abbrev pub is_below : Entry → Bool
is_below the_root = false
is_below (through n form) = true

abbrev pub is_nested : Turn → Bool
is_nested (a_shut n f) = true
is_nested (a_barred e f) = is_below e
is_nested (a_halted e t f) = is_below e
is_nested (an_opened e t conds made) = is_below e
is_nested _ = false

-- the resources among turns, and what is asked of a path
abbrev pub member_on : Turn → List Member
member_on (a_resource m) = m ∷ []
member_on _ = []

abbrev pub member_terms : Member → Terms
member_terms m = record { kind = m.kind; needs = m.needs; deletion = m.deletion; replace = m.replace }

abbrev pub terms_among : List Turn → List ℕ → Option Terms
terms_among ts path = option_map member_terms (find (λ m. bytes_eq path m.path) (flat_map member_on ts))

abbrev pub pathed : Member → List ℕ × Terms
pathed m = (m.path, member_terms m)

abbrev pub all_terms : List Turn → List (List ℕ × Terms)
all_terms ts = map pathed (flat_map member_on ts)

-- a template that is open: how it was entered, what its parameters are bound to, and what is seen of its resources
pub record Frame : Type 0 where
  pub entry : Entry
  pub stack : Stack
  pub conds : Verdicts
  pub bound : Settings
  pub pseudo : List (List ℕ × Data)
  pub sights : Sights

abbrev pub scope_on : Source → Frame → Scope
scope_on source f = resource_scope f.stack.template.mappings f.bound f.conds f.pseudo f.sights source.imports

abbrev pub frame_of : Source → Seen → Given → Entry → Stack → Verdicts → Made → Frame
frame_of source seen g e t conds made = record {
  entry = e;
  stack = t;
  conds = conds;
  bound = settings_by t.template.params g;
  pseudo = pseudo_of t.name source.number;
  sights = seen_through t.path seen made;
}

-- what a template is given that a turn enters, in the one that was opened last; and the flaw of that
abbrev pub given_through : Source → List Frame → Entry → Given
given_through source fs the_root = given_root source
given_through source [] (through n form) = unknown
given_through source (f ∷ fs) (through n form) = given_in (scope_on source f) form

abbrev pub flaw_through : Source → List Frame → Entry → Option Flaw
flaw_through source fs the_root = None
flaw_through source [] (through n form) = None
flaw_through source (f ∷ fs) (through n form) = offers_flaw f.stack.path (scope_on source f) form

abbrev pub given_at : Source → List Frame → Turn → Given
given_at source fs (a_barred e f) = given_through source fs e
given_at source fs (a_halted e t f) = given_through source fs e
given_at source fs (an_opened e t conds made) = given_through source fs e
given_at source fs (a_resource m) = unknown
given_at source fs (a_shut n f) = unknown
given_at source fs a_closed = unknown

abbrev pub flaw_at_turn : Source → List Frame → Turn → Option Flaw
flaw_at_turn source fs (a_barred e f) = flaw_through source fs e
flaw_at_turn source fs (a_halted e t f) = flaw_through source fs e
flaw_at_turn source fs (an_opened e t conds made) = flaw_through source fs e
flaw_at_turn source fs (a_resource m) = None
flaw_at_turn source fs (a_shut n f) = None
flaw_at_turn source fs a_closed = None

-- a nested stack has come, and is seen in the template around it
abbrev pub come : Source → Nesting → List (List ℕ × OutputSight) → List Frame → List Frame
come source n outputs [] = []
come source n outputs (f ∷ fs) = record f { sights = seen_nested source n outputs f.sights } ∷ fs

abbrev pub come_through : Source → Entry → List (List ℕ × OutputSight) → List Frame → List Frame
come_through source the_root outputs fs = fs
come_through source (through n form) outputs fs = come source n outputs fs

abbrev pub close : Source → List Frame → List Frame
close source [] = []
close source (f ∷ fs) = come_through source f.entry (by_names (output_sights f.stack f.conds (scope_on source f))) fs

-- the open templates after a turn, where the template that it enters is given this
abbrev pub frames_after : Source → Seen → Given → List Frame → Turn → List Frame
frames_after source seen g fs (a_resource m) = fs
frames_after source seen g fs (a_shut n f) = come source n [] fs
frames_after source seen g fs (a_barred e f) = come_through source e [] fs
frames_after source seen g fs (a_halted e t f) = come_through source e [] fs
frames_after source seen g fs (an_opened e t conds made) = frame_of source seen g e t conds made ∷ fs
frames_after source seen g fs a_closed = close source fs

abbrev pub frames_behind : Source → Seen → List Frame → Turn → List Frame
frames_behind source seen fs turn = frames_after source seen (given_at source fs turn) fs turn

-- the open templates after turns
abbrev pub frames_run : Source → Seen → List Frame → List Turn → List Frame
frames_run source seen fs [] = fs
frames_run source seen fs (turn ∷ ts) = frames_run source seen (frames_behind source seen fs turn) ts

-- a resource with its properties
abbrev pub valued_at : Source → List Frame → Turn → List (Member × Evaluated)
valued_at source [] turn = []
valued_at source (f ∷ fs) (a_resource m) = (m, member_props f.stack.path (scope_on source f) m) ∷ []
valued_at source (f ∷ fs) _ = []

-- the plan with a flaw, a nested stack, a template that was entered, a resource, and outputs
abbrev pub with_flaw : Plan → Flaw → Plan
with_flaw p f = record p { flaws = p.flaws ++ f ∷ [] }

abbrev pub with_some_flaw : Plan → Option Flaw → Plan
with_some_flaw p None = p
with_some_flaw p (Some f) = with_flaw p f

abbrev pub with_stack : Plan → Nesting → Option Flaw → Plan
with_stack p n f = record p { nested = p.nested ++ record { path = n.path; needs = n.needs; fault = f } ∷ [] }

abbrev pub entered : Plan → Entry → Option Flaw → Option Flaw → Plan
entered p the_root offers bind = with_some_flaw p bind
entered p (through n form) offers bind = with_some_flaw (with_some_flaw (with_stack p n (option_or offers bind)) offers) bind

abbrev pub with_flaw_of : Plan → Evaluated → Plan
with_flaw_of p (flawed f) = with_flaw p f
with_flaw_of p (evaluated ps) = p

abbrev pub with_wanted : Plan → Member → Evaluated → Plan
with_wanted p m v = record p { wanted = p.wanted ++ wanted_of (m, v) ∷ [] }

abbrev pub with_resource : Plan → Member → Evaluated → Plan
with_resource p m v = with_wanted (with_flaw_of p v) m v

abbrev pub unmade_of : Stack → Verdicts → List (List ℕ)
unmade_of t conds = map (λ o. o.name) (filter (λ o. not (is_output_made conds o)) t.template.outputs)

abbrev pub with_unmade : Plan → Entry → Stack → Verdicts → Plan
with_unmade p the_root t conds = record p { unmade = unmade_of t conds }
with_unmade p (through n form) t conds = p

abbrev pub with_roots : Plan → Entry → List WantedOutput → Plan
with_roots p the_root os = record p { outputs = os }
with_roots p (through n form) os = p

abbrev pub with_exports : Plan → List WantedOutput → Plan
with_exports p os = record p { exports = p.exports ++ flat_map exported os; flaws = p.flaws ++ flat_map output_flaws os }

abbrev pub with_outputs : Plan → Entry → List WantedOutput → Plan
with_outputs p e os = with_roots (with_exports p os) e os

abbrev pub outputs_on : Source → Plan → Frame → Plan
outputs_on source p f = with_outputs p f.entry (outputs_wanted f.stack f.conds (scope_on source f))

-- the plan after a turn, where the template that it enters is given this, with this flaw
abbrev pub plan_after : Source → Given → Option Flaw → List Frame → Plan → Turn → Plan
plan_after source g o [] p (a_resource m) = p
plan_after source g o (f ∷ fs) p (a_resource m) = with_resource p m (member_props f.stack.path (scope_on source f) m)
plan_after source g o fs p (a_shut n f) = with_flaw (with_stack p n None) f
plan_after source g o fs p (a_barred e f) = with_flaw (entered p e o None) f
plan_after source g o fs p (a_halted e t f) = with_flaw (entered p e o (bind_flaw t g)) f
plan_after source g o fs p (an_opened e t conds made) = with_unmade (entered p e o (bind_flaw t g)) e t conds
plan_after source g o [] p a_closed = p
plan_after source g o (f ∷ fs) p a_closed = outputs_on source p f

abbrev pub plan_behind : Source → List Frame → Plan → Turn → Plan
plan_behind source fs p turn = plan_after source (given_at source fs turn) (flaw_at_turn source fs turn) fs p turn

-- all turns one after another
abbrev pub plan_run : Source → Seen → List Frame → Plan → List Turn → Plan
plan_run source seen fs p [] = p
plan_run source seen fs p (turn ∷ ts) = plan_run source seen (frames_behind source seen fs turn) (plan_behind source fs p turn) ts

abbrev pub valued_run : Source → Seen → List Frame → List Turn → List (Member × Evaluated)
valued_run source seen fs [] = []
valued_run source seen fs (turn ∷ ts) = valued_at source fs turn ++ valued_run source seen (frames_behind source seen fs turn) ts
