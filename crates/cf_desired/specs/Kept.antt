-- What the code keeps: what its types stand for, and how its answers are those of the definitions (this project's own).
use Rattle.std.specs.Prelude.{◌≡◌, ℕ, ◌+◌, ◌-◌, length, Bool, true, false, List, [], ◌∷◌, ◌++◌, Option, Some, None, Result, Ok, Err, codes}
use Rattle.std.specs.Prelude.{map, option_map}
use Rattle.std.specs.Option.{option_or}
use Rattle.cf_tree.specs.Datum.{Data}
use Rattle.cf_tree.specs.Keys.{put, value_at}
use Rattle.cf_tree.specs.Value.{datum_of}
use Rattle.cf_tree.specs.declared.source.Source.{Source}
use Rattle.cf_eval.specs.declared.env.OutputSight.{OutputSight}
use Rattle.cf_eval.specs.declared.fault.EvalFault.{EvalFault}
use Rattle.cf_eval.specs.declared.fault.EvalFault.TheVariants as unvalued
use Rattle.cf_eval.specs.declared.got.Got.{Got}
use Rattle.cf_eval.specs.declared.got.Got.TheVariants as it
use Rattle.cf_eval.specs.Outcome.{Outcome, Stop, got, later, bad, stopped_at}
use Rattle.cf_eval.specs.Scope.{Scope, resource_scope}
use Rattle.cf_eval.specs.Texts.{Found}
use Rattle.cf_param.specs.declared.fault.BindFault.{BindFault}
use Rattle.cf_param.specs.declared.fault.BindFault.TheVariants as unbound
use Rattle.cf_param.specs.declared.offered.Piece.{Piece}
use Rattle.cf_param.specs.declared.offered.Piece.TheVariants.{Text}
use Rattle.cf_desired.specs.declared.decision.Decision.{Decision}
use Rattle.cf_desired.specs.declared.decision.Decision.TheVariants as decision
use Rattle.cf_desired.specs.declared.flaw.Flaw.{Flaw}
use Rattle.cf_desired.specs.declared.flaw.Flaw.TheVariants as flaw
use Rattle.cf_desired.specs.declared.frames.Frame as kept_frame
use Rattle.cf_desired.specs.declared.context.PlanContext.{PlanContext}
use Rattle.cf_desired.specs.declared.laying.Contents.{Contents}
use Rattle.cf_desired.specs.declared.laying.Count.{Count}
use Rattle.cf_desired.specs.declared.laying.LaidSoFar as kept_so_far
use Rattle.cf_desired.specs.declared.laying.Entering as kept_entering
use Rattle.cf_desired.specs.declared.laying.Laid.{Laid}
use Rattle.cf_desired.specs.declared.offers.Offer.{Offer}
use Rattle.cf_desired.specs.declared.offers.Offer.TheVariants as offer
use Rattle.cf_desired.specs.declared.offers.Offered as kept_offered
use Rattle.cf_desired.specs.declared.offers.Taken.{Taken}
use Rattle.cf_desired.specs.declared.shape.Entry as kept_entry
use Rattle.cf_desired.specs.declared.shape.Entry.TheVariants as entry
use Rattle.cf_desired.specs.declared.shape.Member as kept_member
use Rattle.cf_desired.specs.declared.shape.Nesting as kept_nesting
use Rattle.cf_desired.specs.declared.shape.Shape as kept_shape
use Rattle.cf_desired.specs.declared.shape.Stack as kept_stack
use Rattle.cf_desired.specs.declared.shape.Turn as kept_turn
use Rattle.cf_desired.specs.declared.shape.Turn.TheVariants as turn
use Rattle.cf_desired.specs.declared.evaluations.Blame.{Blame}
use Rattle.cf_desired.specs.declared.evaluations.TextFound.{TextFound}
use Rattle.cf_desired.specs.declared.evaluations.TextFound.TheVariants as told
use Rattle.cf_desired.specs.declared.template_name.TemplateName as kept_name
use Rattle.cf_desired.specs.declared.wanted.Evaluated.{Evaluated}
use Rattle.cf_desired.specs.declared.template_name.TemplateName.TheVariants as named
use Rattle.cf_desired.specs.Names.{path_in}
use Rattle.cf_desired.specs.Given.{Given, Offers, given_by, kind_stop, offers_stop, pieces, unknown, with_piece}
use Rattle.cf_desired.specs.Listed.{made_by}
use Rattle.cf_desired.specs.Laying.{LaidSoFar, Way, way_shut, way_barred, way_entered}
use Rattle.cf_desired.specs.declared.laying.Way as kept_way
use Rattle.cf_desired.specs.declared.laying.Way.TheVariants as way
use Rattle.cf_tree.specs.Forms.{Form}
use Rattle.cf_tree.specs.declared.template.Res.{Res}
use Rattle.cf_desired.specs.Seeing.{Seen, by_names, output_sights, outputs_inside, outputs_of, seen_nested}
use Rattle.cf_desired.specs.Shape.{Entering, entering_below, laid, members_in, members_inside, paths_in, paths_inside, templates_in}
use Rattle.cf_desired.specs.Shape.{templates_inside}
use Rattle.cf_desired.specs.Stack.{Scoping, Stack, Verdicts, Sights, flaw_at, stop_in}
use Rattle.cf_desired.specs.Turns.{Entry, Frame, Turn, the_root, through, a_resource, a_shut, a_barred, a_halted, an_opened, a_closed}
use Rattle.cf_desired.specs.Turns.{frames_behind, turns_in, turns_inside, valued_at}
use Rattle.cf_desired.specs.Work.{Member, Nesting, Inside, Body, barred, shut}

-- the given texts, as binding takes them
abbrev pub piece_of : List ℕ × List ℕ → List ℕ × Piece
piece_of g = (g.0, Text g.1)

-- want of memory, of which nothing is said
abbrev pub is_no_memory : BindFault → Bool
is_no_memory unbound.NoMemory = true
is_no_memory _ = false

-- why an evaluation stops in the stack at a path, in which stack and at which place; and as a flaw
abbrev pub blame_at : List ℕ → Stop → Blame
blame_at stack s = let w = stopped_at stack s in record { why = w.0; stack = w.1.0; at = w.1.1 }

abbrev pub flaw_of_blame : Blame → Flaw
flaw_of_blame b = flaw.Eval b.why b.stack b.at

abbrev pub IsBlameOf : EvalFault → Blame → Type 0
IsBlameOf (unvalued.Bad why stack at) b = b ≡ record { why = why; stack = stack; at = at }
IsBlameOf unvalued.NoMemory b = ⊥

-- what an evaluated property adds: nothing where it is left out
abbrev pub prop_taken : List ℕ → Got → List (List ℕ × Option Data)
prop_taken name (it.Value v) = (name, Some (datum_of v)) ∷ []
prop_taken name it.NoValue = []
prop_taken name it.Later = (name, None) ∷ []

-- what is wanted as a text
abbrev pub text_found_as : List ℕ → Outcome (List ℕ) → TextFound
text_found_as stack (got t) = told.Text t
text_found_as stack later = told.Later
text_found_as stack (bad s) = told.Bad (blame_at stack s)

-- what is given for parameters, its fault, and what one more member adds
abbrev pub offer_in : Offer → Given
offer_in (offer.Pieces ps) = pieces ps
offer_in offer.Unknown = unknown

pub record IsOffers (stack : List ℕ) (o : Outcome Offers) (r : kept_offered.Offered) : Type 0 where
  pub given : offer_in r.given ≡ given_by o
  pub flaw : r.flaw ≡ option_map (flaw_at stack) (offers_stop o)

pub record Takes (stack name at : List ℕ) (f : Found) (old new : Taken) : Type 0 where
  pub pieces : new.pieces.items ≡ old.pieces.items ++ with_piece name f []
  pub part : new.part ≡ option_or old.part (option_map (blame_at stack) (stop_in f))
  pub kind : new.kind ≡ option_or old.kind (option_map (blame_at stack) (kind_stop at f))

abbrev pub template_name_in : kept_name.TemplateName → Result (List ℕ) Flaw
template_name_in (named.Named name) = Ok name
template_name_in (named.Flawed f) = Err f

-- a stack, a template that is entered, a resource and a nested stack in the order of work, a turn
abbrev pub kept_stack_in : kept_stack.Stack → Stack
kept_stack_in s = record { path = s.path; name = s.name; template = s.template }

abbrev pub entering_in : kept_entering.Entering → Entering
entering_in e = record { stack = kept_stack_in e.stack; deletion = e.deletion; replace = e.replace; needs = e.needs }

abbrev pub member_in : kept_member.Member → Member
member_in m = record {
  path = m.path;
  id = m.resource.name;
  kind = m.resource.kind;
  deletion = m.deletion;
  replace = m.replace;
  needs = m.needs;
  props = m.resource.props;
  unnamed = m.unnamed;
}

abbrev pub nesting_in : kept_nesting.Nesting → Nesting
nesting_in n = record { path = n.path; id = n.id; name = n.name; needs = n.needs }

abbrev pub kept_entry_in : kept_entry.Entry → Entry
kept_entry_in entry.Root = the_root
kept_entry_in (entry.Nested n r) = through (nesting_in n) (value_at (codes "Parameters") r.props)

abbrev pub turn_in : kept_turn.Turn → Turn
turn_in (turn.Resource m) = a_resource (member_in m)
turn_in (turn.Shut n f) = a_shut (nesting_in n) f
turn_in (turn.Barred e f) = a_barred (kept_entry_in e) f
turn_in (turn.Halted e t f) = a_halted (kept_entry_in e) (kept_stack_in t) f
turn_in (turn.Opened e t conds made) = an_opened (kept_entry_in e) (kept_stack_in t) conds made
turn_in turn.Closed = a_closed

-- the shape is that of the definitions
pub record IsShape (s : kept_shape.Shape) (b : Body) : Type 0 where
  pub turns : map turn_in s.turns ≡ turns_in the_root b
  pub templates : s.templates ≡ templates_in b
  pub members : s.members ≡ members_in b

-- the shape of what was laid out
pub record IsShapeFrom (l : Laid) (s : kept_shape.Shape) : Type 0 where
  pub turns : s.turns ≡ l.turns
  pub templates : s.templates ≡ l.count.templates
  pub members : s.members ≡ l.count.members

-- the templates that are open, the last one first
abbrev pub frame_in : kept_frame.Frame → Frame
frame_in f = record {
  entry = kept_entry_in f.entry.now;
  stack = kept_stack_in f.stack.now;
  conds = f.conds.now;
  bound = f.bound;
  pseudo = f.pseudo;
  sights = f.sights;
}

abbrev pub frames_in : List kept_frame.Frame → List Frame
frames_in [] = []
frames_in (f ∷ fs) = frames_in fs ++ frame_in f ∷ []

-- the open templates after a turn, and a resource with its properties, where there is a turn
abbrev pub frames_past : Source → Seen → List Frame → Option kept_turn.Turn → List Frame
frames_past source seen fs None = fs
frames_past source seen fs (Some turn) = frames_behind source seen fs (turn_in turn)

abbrev pub valued_there : Source → List Frame → Option kept_turn.Turn → List (Member × Evaluated)
valued_there source fs None = []
valued_there source fs (Some turn) = valued_at source fs (turn_in turn)

-- what resources and outputs are evaluated over
abbrev pub scope_by : PlanContext → Sights → Scope
scope_by g sights = resource_scope g.stack.now.template.mappings g.bound.now g.conds.now g.pseudo.now sights g.source.now.imports

-- whether work on a template can begin
abbrev pub decision_in : Decision → Result (Verdicts × List (List ℕ × List (List ℕ))) Flaw
decision_in (decision.Halted f) = Err f
decision_in (decision.Opened conds order) = Ok (conds, order.entries)

-- what is known along the order of work
abbrev pub so_far_in : kept_so_far.LaidSoFar → LaidSoFar
so_far_in c = record {
  turns = map turn_in c.turns;
  sights = c.sights;
  stands = c.stands;
  paths = c.paths;
  templates = c.count.templates;
  members = c.count.members;
}

-- what was laid out: these turns, outputs, paths, and so many templates and resources
pub record IsLaidAs (ts : List Turn) (os : List (List ℕ × OutputSight)) (ps : List (List ℕ)) (n k : ℕ) (l : Laid) : Type 0 where
  pub turns : map turn_in l.turns ≡ ts
  pub outputs : l.outputs ≡ os
  pub paths : l.paths ≡ ps
  pub templates : l.count.templates ≡ n
  pub members : l.count.members ≡ k

-- a template that was entered where so many had been before, and what is in a nested stack
abbrev pub IsLaid : Source → Seen → Entry → Given → Count → Body → Laid → Type 0
IsLaid source seen e g c b l =
    IsLaidAs (turns_in e b) (by_names (outputs_of source seen g b)) (paths_in b) (c.templates + templates_in b) (c.members + members_in b) l

abbrev pub IsWithin : Source → Seen → Scope → Nesting → Count → Inside → Laid → Type 0
IsWithin source seen s n c i l =
    IsLaidAs (turns_inside n i) (by_names (outputs_inside source seen s i)) (paths_inside i) (c.templates + templates_inside i)
    (c.members + members_inside i) l

-- what is in a template that was opened, where its work came to this
abbrev pub IsLaidAlong : Stack → Verdicts → Scoping → List (List ℕ) → LaidSoFar → Laid → Type 0
IsLaidAlong t conds over ids p l =
    IsLaidAs p.turns (by_names (output_sights t conds (over p.sights))) (map (path_in t.path) ids ++ p.paths) p.templates p.members l

pub record IsContents (t : Stack) (conds : Verdicts) (over : Scoping) (ids : List (List ℕ)) (p : LaidSoFar) (k : Contents) : Type 0 where
  pub made : k.made ≡ made_by conds t.template ids
  pub laid : IsLaidAlong t conds over ids p k.laid

-- what is laid out after a nested stack that was laid out
pub record IsJoined (source : Source) (n : Nesting) (l : Laid) (old new : kept_so_far.LaidSoFar) : Type 0 where
  pub turns : map turn_in new.turns ≡ map turn_in old.turns ++ map turn_in l.turns
  pub sights : new.sights ≡ seen_nested source n l.outputs old.sights
  pub stands : new.stands ≡ put n.id (l.paths ++ n.needs) old.stands
  pub paths : new.paths ≡ old.paths ++ (l.paths ++ n.needs)
  pub count : new.count ≡ l.count

-- what becomes of a nested stack, and what is laid out then
abbrev pub way_in : kept_way.Way → Way
way_in (way.Shut f) = way_shut f
way_in (way.Barred f) = way_barred f
way_in (way.Entered t g) = way_entered t (offer_in g)

abbrev pub WayLaid : Source → Seen → Scope → Entering → Nesting → Option Form → Res → ℕ → Count → Way → Laid → Type 0
WayLaid source seen s e n form r left c (way_shut f) l = IsWithin source seen s n c (shut f) l
WayLaid source seen s e n form r left c (way_barred f) l = IsLaid source seen (through n form) unknown c (barred f) l
WayLaid source seen s e n form r left c (way_entered t g) l =
    IsLaid source seen (through n form) g c (laid (left - 1) source seen (entering_below e n r t) g (c.templates + 1)
    (c.members + length t.resources)) l
