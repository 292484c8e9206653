-- What a source comes to, from what was found of it.
use Rattle.std.proofs.Common.{◌≡◌, ℕ, ◌+◌, Bool, true, false, ◌&&◌, not, List, [], ◌∷◌, Option, Some, None, Result, Ok, Err, cond, option_map, refl, ap, sym, ◌∙◌, subst, true≢false}
use Rattle.std.specs.Prelude.{IfOk, ⊤, is_some}
use Rattle.std.specs.Cmp.{first_so, second_so}
use Rattle.std.specs.declared.alloc.AllocError.{AllocError}
use Rattle.cf_tree.specs.Lists.{first_in}
use Rattle.cf_tree.specs.declared.row.Row.{Row}
use Rattle.cf_tree.specs.declared.source.Source.{Source}
use Rattle.cf_schema.specs.declared.described.Schema.{Schema}
use Rattle.cf_change.specs.Changes.{Changed, Changes, RowsFound, changes_by, found_of, is_empty, is_unchanged, least_of, refusal_by, refusal_of}
use Rattle.cf_change.specs.declared.held.HeldMap.{HeldMap}
use Rattle.cf_change.specs.declared.set.ChangeFault.{ChangeFault}
use Rattle.cf_change.specs.declared.set.ChangeFault.TheVariants as change
use Rattle.cf_change.specs.declared.set.ChangeSet.{ChangeSet}
use Rattle.cf_desired.specs.Plan.{plan_of}
use Rattle.cf_desired.specs.declared.flaw.Flaw.{Flaw}
use Rattle.cf_desired.specs.declared.wanted.Plan.{Plan}
use Rattle.cf_entry.specs.declared.entry.Entry.TheVariants as entry
use Rattle.cf_entry.specs.declared.status.Status.{Status}
use Rattle.cf_effect.specs.declared.held.KeptSet.{KeptSet}
use Rattle.cf_effect.specs.Begin.{source_for}
use Rattle.cf_effect.specs.World.{StackState, World, known_stack}
use Rattle.cf_plan.specs.Accept.{creates_from, exports_by, held_by, with_imports}
use Rattle.cf_prepare.specs.Answer.{TestsAs, first_of}
use Rattle.cf_prepare.specs.Imports.{UsesJust}
use Rattle.cf_prepare.specs.Orders.{IsDeployment, IsReview, kind_by}
use Rattle.cf_prepare.specs.Prepare.{ExecutesAs, ExecutesFound, ExecutesSet}
use Rattle.cf_prepare.specs.Refusals.{deploy_refusal, execute_refusal, if_barred, if_flawed, if_in_use, if_missing, if_no_set, if_taken, if_type_changed, if_unchanged, if_unknown, proposal, proposed_changes, proposed_plan, refusals_by, review_refusal, set_of, set_refusal, source_refusals, unless_created}
use Rattle.cf_desired.specs.Whole.{export_names}
use Rattle.cf_plan.specs.Accept.{schema_kinds}
use Rattle.cf_plan.specs.Follow.{lane_kinds}
use Rattle.cf_plan.specs.Follow.{deploys_from}
use Rattle.cf_prepare.specs.Worked.{IsMild, IsWorked, WorksAs, WorksBy, changes_over, refusal_over, set_by}
use Rattle.cf_prepare.specs.declared.wish.Order.{Order}
use Rattle.cf_prepare.specs.declared.wish.Order.TheVariants as order
use Rattle.cf_prepare.specs.declared.wish.PrepareFault.{PrepareFault}
use Rattle.cf_prepare.specs.declared.wish.PrepareFault.TheVariants as fault
use Rattle.cf_prepare.specs.declared.wish.StackFault.TheVariants as stack
use Rattle.cf_prepare.specs.declared.work.Worked.{Worked}
use Rattle.cf_prepare.proofs.Answers.{alone, fails_first, last_of, passes_first, reworded}
use Rattle.cf_prepare.proofs.Follows.{flawless, none_behind, none_first, unmapped}

-- of a refusal it doesn't matter what would have held
same_err : {A C : Type 0} (P : A → Type 0) (Q : C → Type 0) (o : Option PrepareFault) (f : PrepareFault) → TestsAs o P (Err f) → TestsAs o Q (Err f)
same_err P Q o (fault.Stack g) h = h
same_err P Q o (fault.Plan g) h = h
same_err P Q o (fault.UnknownType path name) h = h
same_err P Q o fault.NoMemory h = tt

-- a change set without a flaw and without a path of another type
one_left : (b : Bool) (f : ChangeFault) → cond b (Some change.NoChanges) None ≡ Some f → (f ≡ change.NoChanges) × (b ≡ true)
one_left true f h = let e : f ≡ change.NoChanges = cc in (e, refl)
one_left false f h = let no : ⊥ = cc in absurd no

left_so : (c : Changes) (f : ChangeFault) → c.flaws ≡ [] → least_of c.clash ≡ None → refusal_of c ≡ Some f → (f ≡ change.NoChanges) × ((is_empty c.rows && not c.outputs_differ) ≡ true)
left_so c f none clash h =
    one_left (is_empty c.rows && not c.outputs_differ) f
    (by (is_empty c.rows && not c.outputs_differ) ∙ ap (λ (o : Option Flaw). refusal_by o None (is_empty c.rows && not c.outputs_differ)) (sym (ap first_in none))
    ∙ ap (λ (o : Option (List ℕ)). refusal_by (first_in c.flaws) o (is_empty c.rows && not c.outputs_differ)) (sym clash) ∙ h) where
      by : (b : Bool) → cond b (Some change.NoChanges) None ≡ refusal_by None None b
      by true = refl
      by false = refl

pub mild : (c : Changes) (f : ChangeFault) → c.flaws ≡ [] → least_of c.clash ≡ None → Changed c (Err f) → IsMild f
mild c change.NoMemory none clash h = tt
mild c change.NoChanges none clash h = tt
mild c (change.Plan g) none clash h = let e : change.Plan g ≡ change.NoChanges = (left_so c (change.Plan g) none clash h).0 in let no : ⊥ = cc in absurd no
mild c (change.TypeChanged p) none clash h = let e : change.TypeChanged p ≡ change.NoChanges = (left_so c (change.TypeChanged p) none clash h).0 in let no : ⊥ = cc in absurd no

nothing : (c : Changes) → (is_empty c.rows && not c.outputs_differ) ≡ true → record { rows = []; outputs_differ = false } ≡ set_by c
nothing c h = λ i. record { rows = rows i; outputs_differ = differ i } where
  empty : (rs : List Row) → is_empty rs ≡ true → [] ≡ rs
  empty [] e = refl
  empty (r ∷ rs) e = absurd (true≢false (sym e))

  same : (b : Bool) → not b ≡ true → false ≡ b
  same true e = absurd (true≢false (sym e))
  same false e = refl

  rows : [] ≡ c.rows
  rows = empty c.rows (first_so (is_empty c.rows) (not c.outputs_differ) h)

  differ : false ≡ c.outputs_differ
  differ = same c.outputs_differ (second_so (is_empty c.rows) (not c.outputs_differ) h)

pub set_left : (c : Changes) (f : ChangeFault) (r : Result ChangeSet AllocError) → c.flaws ≡ [] → least_of c.clash ≡ None → Changed c (Err f)
    → IfOk r (λ t. (f ≡ change.NoChanges) × (t ≡ record { rows = []; outputs_differ = false })) → IfOk r (λ t. t ≡ set_by c)
set_left c f (Err e) none clash h g = tt
set_left c f (Ok t) none clash h g =
    g.1 ∙ nothing c (left_so c change.NoChanges none clash (subst (λ (k : ChangeFault). Changed c (Err k)) g.0 h)).1

-- with the imports that it uses
pub finished : (held : HeldMap) (source : Source) (found : RowsFound) (plan : Plan) (imports : List (List ℕ × List ℕ)) (r : Result Worked AllocError) → UsesJust source found.seen imports
    → IfOk r (λ w. (w.imports ≡ imports) × (w.changes ≡ set_by (changes_by held.resources held.outputs held.exports found plan))) → IfOk r (WorksAs held source found plan)
finished held source found plan imports (Err e) u h = tt
finished held source found plan imports (Ok w) u h = (subst (λ (i : List (List ℕ × List ℕ)). UsesJust source found.seen i) (sym h.0) u, h.1)

-- by what was found
module _ (kinds : List (List ℕ)) (x : World) (name : List ℕ) (schemas : List Schema) (held : HeldMap) (source : Source) (found : RowsFound) (plan : Plan)
    (found_is : found ≡ found_of schemas held.resources source) (plan_is : plan ≡ plan_of source found.seen) where
  abbrev c : Changes
  c = changes_over schemas held source

  clash_is : c.clash ≡ found.clash
  clash_is = ap (λ (f : RowsFound). f.clash) (sym found_is)

  plan_found : plan ≡ plan_of source (found_of schemas held.resources source).seen
  plan_found = plan_is ∙ ap (λ (f : RowsFound). plan_of source f.seen) found_is

  abbrev Tests : {A : Type 0} → (A → Type 0) → Result A PrepareFault → Type 0
  Tests P r = (d : Changes) → d.clash ≡ found.clash → TestsAs (first_of (refusals_by kinds x name d plan)) P r

  told : {A : Type 0} (P : A → Type 0) (r : Result A PrepareFault) → Tests P r → TestsAs (refusal_over kinds x name schemas held source) P r
  told P r h = subst (λ (q : Plan). TestsAs (first_of (refusals_by kinds x name c q)) P r) plan_found (h c clash_is)

  pub work_err : (f : PrepareFault) → Tests {A = Unit {0}} (λ u. ⊤) (Err f) → TestsAs (refusal_over kinds x name schemas held source) (WorksBy schemas held source) (Err f)
  work_err f h =
      same_err {A = Unit {0}} {C = Worked} (λ u. ⊤) (WorksBy schemas held source) (refusal_over kinds x name schemas held source) f (told {A = Unit {0}} (λ u. ⊤) (Err f) h)

  pub work_none : (u : Unit {0}) → Tests {A = Unit {0}} (λ v. ⊤) (Ok u) → refusal_over kinds x name schemas held source ≡ None
  work_none u h = (told {A = Unit {0}} (λ v. ⊤) (Ok u) h).0

  module _ (none : refusal_over kinds x name schemas held source ≡ None) where
    abbrev p : Plan
    p = plan_of source (found_of schemas held.resources source).seen

    pub work_flawless : c.flaws ≡ []
    work_flawless = flawless p (none_first (if_flawed p) (if_unknown kinds p ∷ if_type_changed c ∷ if_taken name x p ∷ if_in_use name x (export_names p) ∷ []) none)

    pub plan_flawless : plan.flaws ≡ []
    plan_flawless = ap (λ (q : Plan). q.flaws) plan_found ∙ work_flawless

    unclashed : least_of c.clash ≡ None
    unclashed =
        unmapped (λ q. fault.Stack (stack.TypeChanged q)) (least_of c.clash)
        (none_first (if_type_changed c) (if_taken name x p ∷ if_in_use name x (export_names p) ∷ [])
        (none_behind (if_unknown kinds p) (if_type_changed c ∷ if_taken name x p ∷ if_in_use name x (export_names p) ∷ [])
        (none_behind (if_flawed p) (if_unknown kinds p ∷ if_type_changed c ∷ if_taken name x p ∷ if_in_use name x (export_names p) ∷ []) none)))

    pub work_clash : least_of found.clash ≡ None
    work_clash = ap least_of (sym clash_is) ∙ unclashed

  pub works_so : (w : Worked) → WorksAs held source found plan w → WorksBy schemas held source w
  works_so w h = (
    subst (λ (f : RowsFound). UsesJust source f.seen w.imports) found_is h.0,
    h.1 ∙ (λ j. set_by (changes_by held.resources held.outputs held.exports (found_is j) (plan_found j))),
  )

-- on a stack
pub worked_out : (kinds : List (List ℕ)) (x : World) (name : List ℕ) (schemas : List Schema) (source proposed : Source) (held : HeldMap) (r : Result Worked PrepareFault)
    → held ≡ record { resources = held_by (known_stack name x); outputs = (known_stack name x).outputs; exports = exports_by name x } → proposed ≡ proposal x name source
    → TestsAs (refusal_over kinds x name schemas held proposed) (WorksBy schemas held proposed) r
    → TestsAs (first_of (source_refusals kinds schemas x name source)) (IsWorked schemas x name source) r
worked_out kinds x name schemas source proposed held r h p t =
    subst (λ (q : Source). TestsAs (refusal_over kinds x name schemas (record { resources = held_by (known_stack name x); outputs = (known_stack name x).outputs; exports = exports_by name x }) q)
    (WorksBy schemas (record { resources = held_by (known_stack name x); outputs = (known_stack name x).outputs; exports = exports_by name x }) q) r) p
    (subst (λ (m : HeldMap). TestsAs (refusal_over kinds x name schemas m proposed) (WorksBy schemas m proposed) r) h t)

-- nothing changes on a stack that is not created
pub updates_so : (s : StackState) (st : Status) (b : Bool) (c : Changes) (r : Result (Unit {0}) PrepareFault) → st ≡ s.status → b ≡ creates_from st → b ≡ false
    → TestsAs (if_unchanged c) (λ u. ⊤) r → TestsAs (unless_created s (if_unchanged c)) (λ u. ⊤) r
updates_so s st b c r e f g h =
    subst (λ (k : Bool). TestsAs (cond k None (if_unchanged c)) (λ u. ⊤) r) (sym g ∙ f ∙ ap creates_from e) h

-- The orders of a source that is not refused.
module _ (schemas : List Schema) (x : World) (name : List ℕ) (source : Source) where
  abbrev s : StackState
  s = known_stack name x

  abbrev d : Changes
  d = proposed_changes schemas x name source

  abbrev src : List (List ℕ) → Option PrepareFault
  src kinds = first_of (source_refusals kinds schemas x name source)

  abbrev begun : Worked → Order
  begun t = order.Begin (entry.Begin (x.operation + 1) name (kind_by s (with_imports (source_for name 0 source) t.imports)))

  deployed : (t : Worked) → IsWorked schemas x name source t → (o : Order) → o ≡ begun t → IsDeployment schemas x name source o
  deployed t h o e = (with_imports (source_for name 0 source) t.imports, record { rest = refl; uses = h.0 }, e)

  pub deploy_err : (kinds : List (List ℕ)) (f : PrepareFault) → if_barred deploys_from s ≡ None → kinds ≡ lane_kinds x
      → TestsAs (src kinds) (IsWorked schemas x name source) (Err f) → TestsAs (deploy_refusal schemas x name source) (IsDeployment schemas x name source) (Err f)
  deploy_err kinds f may is h =
      passes_first (IsDeployment schemas x name source) (if_barred deploys_from s) (src (lane_kinds x) ∷ unless_created s (if_unchanged d) ∷ []) (Err f) may
      (fails_first (IsWorked schemas x name source) (IsDeployment schemas x name source) (src (lane_kinds x)) (unless_created s (if_unchanged d) ∷ []) f (subst (λ ks. TestsAs (src ks) (IsWorked schemas x name source) (Err f)) is h))

  pub deploy_ok : (kinds : List (List ℕ)) (t : Worked) (r : Result Order PrepareFault) → if_barred deploys_from s ≡ None → kinds ≡ lane_kinds x
      → TestsAs (src kinds) (IsWorked schemas x name source) (Ok t)
      → ((c : Changes) → t.changes ≡ set_by c → TestsAs (unless_created s (if_unchanged c)) (λ o. o ≡ begun t) r)
      → TestsAs (deploy_refusal schemas x name source) (IsDeployment schemas x name source) r
  deploy_ok kinds t r may is h g =
      passes_first (IsDeployment schemas x name source) (if_barred deploys_from s) (src (lane_kinds x) ∷ unless_created s (if_unchanged d) ∷ []) r may
      (passes_first (IsDeployment schemas x name source) (src (lane_kinds x)) (unless_created s (if_unchanged d) ∷ []) r (ap src (sym is) ∙ h.0)
      (alone (IsDeployment schemas x name source) (unless_created s (if_unchanged d)) r (reworded (λ o. o ≡ begun t) (IsDeployment schemas x name source) (unless_created s (if_unchanged d)) r (λ o n e. deployed t h.1 o e) (g d h.1.1))))

  pub review_err : (kinds : List (List ℕ)) (f : PrepareFault) → if_barred deploys_from s ≡ None → kinds ≡ schema_kinds schemas
      → TestsAs (src kinds) (IsWorked schemas x name source) (Err f) → TestsAs (review_refusal schemas x name source) (IsReview schemas x name source) (Err f)
  review_err kinds f may is h =
      passes_first (IsReview schemas x name source) (if_barred deploys_from s) (src (schema_kinds schemas) ∷ if_unchanged d ∷ []) (Err f) may
      (fails_first (IsWorked schemas x name source) (IsReview schemas x name source) (src (schema_kinds schemas)) (if_unchanged d ∷ []) f (subst (λ ks. TestsAs (src ks) (IsWorked schemas x name source) (Err f)) is h))

  pub review_ok : (kinds : List (List ℕ)) (t : Worked) (r : Result Order PrepareFault) → if_barred deploys_from s ≡ None → kinds ≡ schema_kinds schemas
      → TestsAs (src kinds) (IsWorked schemas x name source) (Ok t)
      → ((c : Changes) → t.changes ≡ set_by c → TestsAs (if_unchanged c) (λ o. o ≡ order.Review (entry.ChangeSet (x.set + 1) name (with_imports (source_for name 0 source) t.imports) c.rows c.outputs_differ)) r)
      → TestsAs (review_refusal schemas x name source) (IsReview schemas x name source) r
  review_ok kinds t r may is h g =
      passes_first (IsReview schemas x name source) (if_barred deploys_from s) (src (schema_kinds schemas) ∷ if_unchanged d ∷ []) r may
      (passes_first (IsReview schemas x name source) (src (schema_kinds schemas)) (if_unchanged d ∷ []) r (ap src (sym is) ∙ h.0)
      (alone (IsReview schemas x name source) (if_unchanged d) r (reworded (λ o. o ≡ order.Review (entry.ChangeSet (x.set + 1) name (with_imports (source_for name 0 source) t.imports) d.rows d.outputs_differ)) (IsReview schemas x name source) (if_unchanged d) r (λ o n e. (with_imports (source_for name 0 source) t.imports, record { rest = refl; uses = h.1.0 }, e)) (g d h.1.1))))

-- Executing a change set: no other test says that it is outdated.
abbrev NotOutdated : Option PrepareFault → Type 0
NotOutdated o = (n : ℕ) → o ≡ Some (fault.Stack (stack.Outdated n)) → ⊥

pub executes_err : {A : Type 0} (P : A → Type 0) (Q : Order → Type 0) (o : Option PrepareFault) (number : ℕ) (now kept : List Row) (f : PrepareFault) → NotOutdated o
    → TestsAs o P (Err f) → ExecutesSet o number now kept Q (Err f)
executes_err P Q o number now kept (fault.Stack (stack.Outdated n)) not h = absurd (not n h)
executes_err P Q o number now kept (fault.Stack stack.NoStack) not h = h
executes_err P Q o number now kept (fault.Stack (stack.WrongStatus st)) not h = h
executes_err P Q o number now kept (fault.Stack (stack.NoChangeSet n)) not h = h
executes_err P Q o number now kept (fault.Stack (stack.NotFailed p)) not h = h
executes_err P Q o number now kept (fault.Stack (stack.TypeChanged p)) not h = h
executes_err P Q o number now kept (fault.Stack (stack.ExportTaken p)) not h = h
executes_err P Q o number now kept (fault.Stack (stack.ExportInUse p)) not h = h
executes_err P Q o number now kept (fault.Stack stack.NoChanges) not h = h
executes_err P Q o number now kept (fault.Plan g) not h = h
executes_err P Q o number now kept (fault.UnknownType path name) not h = h
executes_err P Q o number now kept fault.NoMemory not h = tt

mapped_not : {A : Type 0} (f : A → PrepareFault) → ((a : A) (n : ℕ) → f a ≡ fault.Stack (stack.Outdated n) → ⊥) → (o : Option A) → NotOutdated (option_map f o)
mapped_not f not None n h = let no : ⊥ = cc in absurd no
mapped_not f not (Some a) n h = not a n (let e : f a ≡ fault.Stack (stack.Outdated n) = cc in e)

first_not : (o : Option PrepareFault) (rest : List (Option PrepareFault)) → NotOutdated o → NotOutdated (first_of rest) → NotOutdated (first_of (o ∷ rest))
first_not None rest a b n h = b n h
first_not (Some f) rest a b n h = a n h

none_not : NotOutdated (first_of [])
none_not n h = let no : ⊥ = cc in absurd no

pub unchanged_not : (c : Changes) → NotOutdated (if_unchanged c)
unchanged_not c n h = by (is_unchanged c) h where
  by : (b : Bool) → cond b (Some (fault.Stack stack.NoChanges)) None ≡ Some (fault.Stack (stack.Outdated n)) → ⊥
  by true g = cc
  by false g = cc

source_not : (kinds : List (List ℕ)) (x : World) (name : List ℕ) (c : Changes) (p : Plan) → NotOutdated (first_of (refusals_by kinds x name c p))
source_not kinds x name c p =
    first_not (if_flawed p) _ (mapped_not (λ f. fault.Plan f) (λ f n h. let no : ⊥ = cc in no) (first_in p.flaws))
    (first_not (if_unknown kinds p) _ (mapped_not (λ w. fault.UnknownType w.path w.kind) (λ w n h. let no : ⊥ = cc in no) _)
    (first_not (if_type_changed c) _ (mapped_not (λ q. fault.Stack (stack.TypeChanged q)) (λ q n h. let no : ⊥ = cc in no) (least_of c.clash))
    (first_not (if_taken name x p) _ (mapped_not (λ q. fault.Stack (stack.ExportTaken q)) (λ q n h. let no : ⊥ = cc in no) _)
    (first_not (if_in_use name x (export_names p)) _ (mapped_not (λ q. fault.Stack (stack.ExportInUse q)) (λ q n h. let no : ⊥ = cc in no) _) none_not))))

executes_later : (a b : Option PrepareFault) (number : ℕ) (now kept : List Row) (P Q : Order → Type 0) (r : Result Order PrepareFault) → a ≡ None → ((o : Order) → P o → Q o)
    → ExecutesSet b number now kept P r → ExecutesSet (first_of (a ∷ b ∷ [])) number now kept Q r
executes_later a b number now kept P Q r e f h =
    subst (λ (k : Option PrepareFault). ExecutesSet (first_of (k ∷ b ∷ [])) number now kept Q r) (sym e)
    (subst (λ (k : Option PrepareFault). ExecutesSet k number now kept Q r) (sym (last_of b)) (by r h)) where
      by : (t : Result Order PrepareFault) → ExecutesSet b number now kept P t → ExecutesSet b number now kept Q t
      by (Ok o) g = (g.0, g.1, f o g.2)
      by (Err (fault.Stack (stack.Outdated n))) g = g
      by (Err (fault.Stack stack.NoStack)) g = g
      by (Err (fault.Stack (stack.WrongStatus st))) g = g
      by (Err (fault.Stack (stack.NoChangeSet n))) g = g
      by (Err (fault.Stack (stack.NotFailed p))) g = g
      by (Err (fault.Stack (stack.TypeChanged p))) g = g
      by (Err (fault.Stack (stack.ExportTaken p))) g = g
      by (Err (fault.Stack (stack.ExportInUse p))) g = g
      by (Err (fault.Stack stack.NoChanges)) g = g
      by (Err (fault.Plan x)) g = g
      by (Err (fault.UnknownType path name)) g = g
      by (Err fault.NoMemory) g = tt

module _ (schemas : List Schema) (x : World) (name : List ℕ) (source : Source) (number : ℕ) (kept : List Row) where
  abbrev e : Changes
  e = proposed_changes schemas x name source

  abbrev before : Option PrepareFault
  before = first_of (source_refusals (lane_kinds x) schemas x name source)

  pub execute_err : (kinds : List (List ℕ)) (f : PrepareFault) → kinds ≡ lane_kinds x
      → TestsAs (first_of (source_refusals kinds schemas x name source)) (IsWorked schemas x name source) (Err f)
      → ExecutesSet (execute_refusal schemas x name source) number e.rows kept (IsDeployment schemas x name source) (Err f)
  execute_err kinds f is h =
      executes_err (IsDeployment schemas x name source) (IsDeployment schemas x name source) (execute_refusal schemas x name source) number e.rows kept f
      (first_not before (if_unchanged e ∷ []) (source_not (lane_kinds x) x name e (proposed_plan schemas x name source)) (first_not (if_unchanged e) [] (unchanged_not e) none_not))
      (fails_first (IsWorked schemas x name source) (IsDeployment schemas x name source) before (if_unchanged e ∷ []) f
      (subst (λ ks. TestsAs (first_of (source_refusals ks schemas x name source)) (IsWorked schemas x name source) (Err f)) is h))

  pub execute_ok : (kinds : List (List ℕ)) (t : Worked) (r : Result Order PrepareFault) → kinds ≡ lane_kinds x
      → TestsAs (first_of (source_refusals kinds schemas x name source)) (IsWorked schemas x name source) (Ok t)
      → ((c : Changes) → t.changes ≡ set_by c → ExecutesSet (if_unchanged c) number c.rows kept
      (λ o. o ≡ order.Begin (entry.Begin (x.operation + 1) name (kind_by (known_stack name x) (with_imports (source_for name 0 source) t.imports)))) r)
      → ExecutesSet (execute_refusal schemas x name source) number e.rows kept (IsDeployment schemas x name source) r
  execute_ok kinds t r is h g =
      executes_later before (if_unchanged e) number e.rows kept _ (IsDeployment schemas x name source) r
      (ap (λ ks. first_of (source_refusals ks schemas x name source)) (sym is) ∙ h.0)
      (λ o k. (with_imports (source_for name 0 source) t.imports, record { rest = refl; uses = h.1.0 }, k)) (g e h.1.1)

-- a change set that is there
pub executes_found : (schemas : List Schema) (x : World) (name : List ℕ) (number : ℕ) (k : KeptSet) (r : Result Order PrepareFault)
    → if_missing name x ≡ None → if_barred deploys_from (known_stack name x) ≡ None → Some k ≡ set_of number (known_stack name x)
    → ExecutesFound schemas x name number (Some k) r → ExecutesAs (set_refusal x name number) schemas x name number r
executes_found schemas x name number k r there may found h =
    subst (λ (o : Option PrepareFault). ExecutesAs o schemas x name number r) (sym none)
    (subst (λ (o : Option KeptSet). ExecutesFound schemas x name number o r) found h) where
      none : set_refusal x name number ≡ None
      none =
          ap (λ (o : Option PrepareFault). first_of (o ∷ if_barred deploys_from (known_stack name x) ∷ if_no_set number (known_stack name x) ∷ [])) there
          ∙ ap (λ (o : Option PrepareFault). first_of (o ∷ if_no_set number (known_stack name x) ∷ [])) may
          ∙ ap (λ (o : Option KeptSet). first_of (cond (is_some o) None (Some (fault.Stack (stack.NoChangeSet number))) ∷ [])) (sym found)
