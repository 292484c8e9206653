-- What is ordered may follow.
use Rattle.std.proofs.Common.{◌≡◌, ◌⊎◌, inl, inr, ℕ, ◌+◌, Bool, true, false, ◌&&◌, ◌||◌, not, List, [], ◌∷◌, ◌++◌, Option, Some, None, Result, Ok, Err, cond, option_map, refl, ap, sym, ◌∙◌, subst, true≢false}
use Rattle.std.specs.Prelude.{IfOk, IsTrue, filter, find, fold, is_some, map}
use Rattle.std.specs.Cmp.{first_so, second_so}
use Rattle.std.specs.List.{list_all, list_any}
use Rattle.std.specs.Str.{bytes_eq}
use Rattle.std.proofs.lemmas.Slice.Eq.{bytes_eq-Decides}
use Rattle.cf_tree.specs.Lists.{first_in, here, is_among, least_by}
use Rattle.cf_tree.specs.Named.{all_differ}
use Rattle.cf_tree.specs.declared.source.Source.{Source}
use Rattle.cf_export.specs.declared.Export.{Export}
use Rattle.cf_schema.specs.declared.described.Schema.{Schema}
use Rattle.cf_desired.specs.Plan.{plan_of}
use Rattle.cf_desired.specs.Seeing.{Seen}
use Rattle.cf_desired.specs.declared.wanted.Plan.{Plan}
use Rattle.cf_desired.specs.declared.wanted.Wanted.{Wanted}
use Rattle.cf_change.specs.Changes.{Changes, RowsFound, changes_by, found_of, is_empty, is_unchanged, least_of}
use Rattle.cf_change.proofs.Shown.{held_shows_more}
use Rattle.cf_entry.specs.declared.entry.Begun.TheVariants as begin
use Rattle.cf_entry.specs.declared.status.Status.{Status}
use Rattle.cf_entry.specs.declared.status.Status.TheVariants as status
use Rattle.cf_effect.specs.declared.held.KeptSet.{KeptSet}
use Rattle.cf_effect.specs.Begin.{source_for}
use Rattle.cf_effect.specs.Status.{is_in_progress}
use Rattle.cf_effect.specs.Words.{is_pinned}
use Rattle.cf_effect.specs.World.{StackState, World, known_stack}
use Rattle.cf_plan.proofs.Least.{least_none, none_least}
use Rattle.cf_plan.specs.Accept.{ImportsWhatItUses, IsAccepted, IsReviewed, are_free, changes_on, creates_from, exports_by, held_by, is_exported_elsewhere, is_taken_away, seen_before, with_imports}
use Rattle.cf_plan.specs.Follow.{MayBegin, are_among, continues_from, deletes_from, failed_of, is_pinned_export, may_retain, set_number, updates_from}
use Rattle.cf_prepare.specs.Answer.{first_of}
use Rattle.cf_prepare.specs.Imports.{UsesJust}
use Rattle.cf_prepare.specs.Orders.{IsContinuation, IsDeletion, IsDeployment, IsReview, IsSorted, IsWritten, kind_by}
use Rattle.cf_prepare.specs.Prepare.{ExecutesAs, ExecutesFound, OrderFollows, PreparesAs}
use Rattle.cf_prepare.specs.Refusals.{continue_refusal, delete_refusal, deploy_refusal, execute_refusal, first_unknown, if_barred, if_flawed, if_in_use, if_missing, if_no_set, if_not_failed, if_taken, if_type_changed, if_unchanged, if_unknown, is_unknown_type, lost_names, may_keep, proposal, proposed_changes, proposed_plan, review_refusal, seen_proposed, set_of, set_refusal, source_refusals, taken_names, twice_in, unless_created}
use Rattle.cf_desired.specs.Whole.{export_names}
use Rattle.cf_plan.specs.Accept.{schema_kinds}
use Rattle.cf_plan.specs.Follow.{lane_kinds}
use Rattle.cf_plan.specs.Follow.{deploys_from}
use Rattle.cf_prepare.specs.declared.wish.Order.{Order}
use Rattle.cf_prepare.specs.declared.wish.PrepareFault.{PrepareFault}
use Rattle.cf_prepare.specs.declared.wish.PrepareFault.TheVariants as fault
use Rattle.cf_prepare.specs.declared.wish.StackFault.TheVariants as stack
use Rattle.cf_prepare.specs.declared.wish.Wish.{Wish}
use Rattle.cf_prepare.specs.declared.wish.Wish.TheVariants as wish
use Rattle.cf_prepare.proofs.Suffice.{used_suffice}

some_none : {A B : Type 0} (a : A) → Some a ≡ None → B
some_none a e = absurd cc

-- where no test refuses, each passes
pub none_first : {A : Type 0} (o : Option A) (rest : List (Option A)) → first_of (o ∷ rest) ≡ None → o ≡ None
none_first None rest h = refl
none_first (Some a) rest h = h

pub none_behind : {A : Type 0} (o : Option A) (rest : List (Option A)) → first_of (o ∷ rest) ≡ None → first_of rest ≡ None
none_behind None rest h = h
none_behind (Some a) rest h = some_none a h

pub unmapped : {A B : Type 0} (f : A → B) (o : Option A) → option_map f o ≡ None → o ≡ None
unmapped f None e = refl
unmapped f (Some a) e = some_none (f a) e

-- what each test that passes says
pub lets : (may : Status → Bool) (s : StackState) → if_barred may s ≡ None → may s.status ≡ true
lets may s h = by (may s.status) h where
  by : (b : Bool) → cond b None (Some (fault.Stack (stack.WrongStatus s.status))) ≡ None → b ≡ true
  by true g = refl
  by false g = some_none (fault.Stack (stack.WrongStatus s.status)) g

none_in : {A : Type 0} (xs : List A) → first_in xs ≡ None → xs ≡ []
none_in [] e = refl
none_in (x ∷ xs) e = some_none x e

pub flawless : (p : Plan) → if_flawed p ≡ None → p.flaws ≡ []
flawless p h = none_in p.flaws (unmapped (λ f. fault.Plan f) (first_in p.flaws) h)

all_known : (kinds : List (List ℕ)) (ws : List Wanted) → first_unknown kinds ws ≡ None → list_all (λ w. is_among w.kind kinds) ws ≡ true
all_known kinds [] e = refl
all_known kinds (w ∷ ws) e = by (all_known kinds ws) (is_among w.kind kinds) e where
  by : (first_unknown kinds ws ≡ None → list_all (λ v. is_among v.kind kinds) ws ≡ true) → (b : Bool)
      → fold (least_by (λ w. w.path)) None (cond (not b) (w ∷ filter (is_unknown_type kinds) ws) (filter (is_unknown_type kinds) ws)) ≡ None
      → (b && list_all (λ v. is_among v.kind kinds) ws) ≡ true
  by rest true h = rest h
  by rest false h = absurd (least_none (λ w. w.path) (w ∷ filter (is_unknown_type kinds) ws) h w here)

known : (kinds : List (List ℕ)) (p : Plan) → if_unknown kinds p ≡ None → list_all (λ w. is_among w.kind kinds) p.wanted ≡ true
known kinds p h = all_known kinds p.wanted (unmapped (λ w. fault.UnknownType w.path w.kind) (first_unknown kinds p.wanted) h)

same_types : (c : Changes) → if_type_changed c ≡ None → c.clash ≡ []
same_types c h = none_least (λ p. p) c.clash (unmapped (λ p. fault.Stack (stack.TypeChanged p)) (least_of c.clash) h)

-- exports
none_both : {A : Type 0} (xs ys : List A) → xs ++ ys ≡ [] → (xs ≡ []) × (ys ≡ [])
none_both [] ys h = (refl, h)
none_both (x ∷ xs) ys h = let no : ⊥ = cc in absurd no

none_passes : {A : Type 0} (test : A → Bool) (xs : List A) → filter test xs ≡ [] → list_any test xs ≡ false
none_passes test [] h = refl
none_passes test (x ∷ xs) h = by (test x) h (none_passes test xs) where
  by : (b : Bool) → cond b (x ∷ filter test xs) (filter test xs) ≡ [] → (filter test xs ≡ [] → list_any test xs ≡ false) → (b || list_any test xs) ≡ false
  by true g ih = let no : ⊥ = cc in absurd no
  by false g ih = ih g

none_twice : (ns : List (List ℕ)) → twice_in ns ≡ [] → all_differ bytes_eq ns ≡ true
none_twice [] h = refl
none_twice (n ∷ ns) h = by (is_among n ns) h (none_twice ns) where
  by : (b : Bool) → cond b (n ∷ twice_in ns) (twice_in ns) ≡ [] → (twice_in ns ≡ [] → all_differ bytes_eq ns ≡ true) → (not b && all_differ bytes_eq ns) ≡ true
  by true g ih = let no : ⊥ = cc in absurd no
  by false g ih = ih g

free : (name : List ℕ) (x : World) (p : Plan) → if_taken name x p ≡ None → are_free name x (export_names p) ≡ true
free name x p h =
    let none = none_both (twice_in (export_names p)) (filter (is_exported_elsewhere name x) (export_names p))
    (none_least (λ n. n) (taken_names name x (export_names p)) (unmapped (λ n. fault.Stack (stack.ExportTaken n)) (least_of (taken_names name x (export_names p))) h)) in
    λ i. none_twice (export_names p) none.0 i && not (none_passes (is_exported_elsewhere name x) (export_names p) none.1 i)

unmapped_list : {A B : Type 0} (f : A → B) (xs : List A) → map f xs ≡ [] → xs ≡ []
unmapped_list f [] h = refl
unmapped_list f (x ∷ xs) h = let no : ⊥ = cc in absurd no

not_in_use : (name : List ℕ) (x : World) (kept : List (List ℕ)) → if_in_use name x kept ≡ None → list_any (is_taken_away name x kept) x.exports ≡ false
not_in_use name x kept h =
    none_passes (is_taken_away name x kept) x.exports
    (unmapped_list (λ e. e.name) (filter (is_taken_away name x kept) x.exports)
    (none_least (λ n. n) (lost_names name x kept) (unmapped (λ n. fault.Stack (stack.ExportInUse n)) (least_of (lost_names name x kept)) h)))

changing : (c : Changes) → if_unchanged c ≡ None → is_unchanged c ≡ false
changing c h = by (is_unchanged c) refl h where
  by : (b : Bool) → is_unchanged c ≡ b → cond b (Some (fault.Stack stack.NoChanges)) None ≡ None → is_unchanged c ≡ false
  by false e k = e
  by true e k = some_none (fault.Stack stack.NoChanges) k

-- a source that is not refused is accepted with the imports that it uses
module _ (kinds : List (List ℕ)) (schemas : List Schema) (x : World) (name : List ℕ) (source : Source) (imports : List (List ℕ × List ℕ))
    (none : first_of (source_refusals kinds schemas x name source) ≡ None)
    (uses : UsesJust (proposal x name source) (seen_proposed schemas x name source) imports) where
  abbrev s : StackState
  s = known_stack name x

  abbrev all : Source
  all = proposal x name source

  abbrev some : Source
  some = with_imports all imports

  abbrev seen : Seen
  seen = seen_proposed schemas x name source

  abbrev p : Plan
  p = proposed_plan schemas x name source

  abbrev c : Changes
  c = proposed_changes schemas x name source

  none_2 : first_of (if_unknown kinds p ∷ if_type_changed c ∷ if_taken name x p ∷ if_in_use name x (export_names p) ∷ []) ≡ None
  none_2 = none_behind (if_flawed p) _ none

  none_3 : first_of (if_type_changed c ∷ if_taken name x p ∷ if_in_use name x (export_names p) ∷ []) ≡ None
  none_3 = none_behind (if_unknown kinds p) _ none_2

  none_4 : first_of (if_taken name x p ∷ if_in_use name x (export_names p) ∷ []) ≡ None
  none_4 = none_behind (if_type_changed c) _ none_3

  no_flaw : p.flaws ≡ []
  no_flaw = flawless p (none_first (if_flawed p) _ none)

  found_same : found_of schemas (held_by s) some ≡ found_of schemas (held_by s) all
  found_same = used_suffice held_shows_more schemas (held_by s) all imports no_flaw uses.enough

  plan_same : plan_of some (seen_before schemas s some) ≡ p
  plan_same = ap (λ (f : RowsFound). plan_of some f.seen) found_same ∙ uses.enough

  pub changes_same : changes_on schemas name x s some ≡ c
  changes_same =
      ap (λ (f : RowsFound). changes_by (held_by s) s.outputs (exports_by name x) f (plan_of some f.seen)) found_same
      ∙ ap (changes_by (held_by s) s.outputs (exports_by name x) (found_of schemas (held_by s) all)) uses.enough

  imports_used : ImportsWhatItUses name x some (seen_before schemas s some)
  imports_used =
      subst (λ (f : RowsFound). ImportsWhatItUses name x some f.seen) (sym found_same)
      (record { are_exports = uses.part; enough = uses.enough; all_used = uses.all_used })

  pub accepted : IsTrue (creates_from s.status) ⊎ (is_unchanged c ≡ false) → IsAccepted schemas kinds name x s some
  accepted h = record {
    no_flaw = ap (λ (d : Changes). d.flaws) changes_same ∙ no_flaw;
    known_types = ap (λ (q : Plan). list_all (λ w. is_among w.kind kinds) q.wanted) plan_same ∙ known kinds p (none_first (if_unknown kinds p) _ none_2);
    same_types = ap (λ (d : Changes). d.clash) changes_same ∙ same_types c (none_first (if_type_changed c) _ none_3);
    imports = imports_used;
    free = ap (λ (q : Plan). are_free name x (export_names q)) plan_same ∙ free name x p (none_first (if_taken name x p) _ none_4);
    not_in_use = ap (λ (q : Plan). list_any (is_taken_away name x (export_names q)) x.exports) plan_same ∙ not_in_use name x (export_names p) (none_first (if_in_use name x (export_names p)) [] (none_behind (if_taken name x p) _ none_4));
    changing = subst (λ (d : Changes). IsTrue (creates_from s.status) ⊎ (is_unchanged d ≡ false)) (sym changes_same) h;
  }

-- a written source, as the stack works by it
written_as : (x : World) (name : List ℕ) (source written : Source) (n : ℕ) → written ≡ with_imports (source_for name 0 source) written.imports
    → source_for name n written ≡ with_imports (source_for name n source) written.imports
written_as x name source written n e = ap (λ (w : Source). source_for name n w) e

update_so : (st : Status) → deploys_from st ≡ true → creates_from st ≡ false → updates_from st ≡ true
update_so st h e = by (creates_from st) e h where
  by : (b : Bool) → b ≡ false → (b || updates_from st) ≡ true → updates_from st ≡ true
  by false k g = g
  by true k g = absurd (true≢false k)

module _ (schemas : List Schema) (x : World) (name : List ℕ) (source : Source) where
  abbrev t : StackState
  t = known_stack name x

  abbrev d : Changes
  d = proposed_changes schemas x name source

  worked : (written : Source) → IsWritten schemas x name source written → source_for name (set_number x t) written ≡ with_imports (proposal x name source) written.imports
  worked written w = written_as x name source written (set_number x t) w.rest

  begins : (written : Source) → IsWritten schemas x name source written → deploys_from t.status ≡ true
      → first_of (source_refusals (lane_kinds x) schemas x name source) ≡ None → IsTrue (creates_from t.status) ⊎ (is_unchanged d ≡ false)
      → MayBegin schemas x (x.operation + 1) name (kind_by t written)
  begins written w may none h = by (creates_from t.status) refl where
    accepts : IsAccepted schemas (lane_kinds x) name x t (source_for name (set_number x t) written)
    accepts = subst (IsAccepted schemas (lane_kinds x) name x t) (sym (worked written w)) (accepted (lane_kinds x) schemas x name source written.imports none w.uses h)

    numbered : (b : Bool) → creates_from t.status ≡ b → IsAccepted schemas (lane_kinds x) name x t (source_for name (cond b (x.operation + 1) t.number) written)
    numbered b e = subst (λ (n : ℕ). IsAccepted schemas (lane_kinds x) name x t (source_for name n written)) (ap (λ k. cond k (x.operation + 1) t.number) e) accepts

    by : (b : Bool) → creates_from t.status ≡ b → MayBegin schemas x (x.operation + 1) name (cond b (begin.Create written) (begin.Update written))
    by true e = (refl, e, numbered true e)
    by false e = (refl, update_so t.status may e, numbered false e)

  deployment_follows : (o : Order) → deploys_from t.status ≡ true → first_of (source_refusals (lane_kinds x) schemas x name source) ≡ None
      → IsTrue (creates_from t.status) ⊎ (is_unchanged d ≡ false) → IsDeployment schemas x name source o → (w : Wish) → OrderFollows schemas x w o
  deployment_follows o may none h (written, is, e) w = subst (OrderFollows schemas x w) (sym e) (λ opened out. begins written is may none h)

  review_follows : (o : Order) → review_refusal schemas x name source ≡ None → IsReview schemas x name source o → (w : Wish) → OrderFollows schemas x w o
  review_follows o none (written, is, e) w = subst (OrderFollows schemas x w) (sym e) (λ out. (refl, may, reviewed)) where
    may : deploys_from t.status ≡ true
    may = lets deploys_from t (none_first (if_barred deploys_from t) _ none)

    none_2 : first_of (first_of (source_refusals (schema_kinds schemas) schemas x name source) ∷ if_unchanged d ∷ []) ≡ None
    none_2 = none_behind (if_barred deploys_from t) _ none

    none_source : first_of (source_refusals (schema_kinds schemas) schemas x name source) ≡ None
    none_source = none_first (first_of (source_refusals (schema_kinds schemas) schemas x name source)) _ none_2

    changes : is_unchanged d ≡ false
    changes = changing d (none_first (if_unchanged d) [] (none_behind (first_of (source_refusals (schema_kinds schemas) schemas x name source)) _ none_2))

    same : changes_on schemas name x t (with_imports (proposal x name source) written.imports) ≡ d
    same = changes_same (schema_kinds schemas) schemas x name source written.imports none_source is.uses

    reviewed : IsReviewed schemas name x t (source_for name (set_number x t) written) d.rows d.outputs_differ
    reviewed = subst (λ (q : Source). IsReviewed schemas name x t q d.rows d.outputs_differ) (sym (worked written is)) (record {
      accepted = accepted (schema_kinds schemas) schemas x name source written.imports none_source is.uses (inr changes);
      changing = subst (λ (q : Changes). is_unchanged q ≡ false) (sym same) changes;
      rows_are = ap (λ (q : Changes). q.rows) (sym same);
      outputs_are = ap (λ (q : Changes). q.outputs_differ) (sym same);
    })

  deploy_follows : (o : Order) → deploy_refusal schemas x name source ≡ None → IsDeployment schemas x name source o → (w : Wish) → OrderFollows schemas x w o
  deploy_follows o none is w = deployment_follows o may none_source (by (creates_from t.status) refl) is w where
    may : deploys_from t.status ≡ true
    may = lets deploys_from t (none_first (if_barred deploys_from t) _ none)

    none_2 : first_of (first_of (source_refusals (lane_kinds x) schemas x name source) ∷ unless_created t (if_unchanged d) ∷ []) ≡ None
    none_2 = none_behind (if_barred deploys_from t) _ none

    none_source : first_of (source_refusals (lane_kinds x) schemas x name source) ≡ None
    none_source = none_first (first_of (source_refusals (lane_kinds x) schemas x name source)) _ none_2

    none_3 : unless_created t (if_unchanged d) ≡ None
    none_3 = none_first (unless_created t (if_unchanged d)) [] (none_behind (first_of (source_refusals (lane_kinds x) schemas x name source)) _ none_2)

    by : (b : Bool) → creates_from t.status ≡ b → IsTrue (creates_from t.status) ⊎ (is_unchanged d ≡ false)
    by true e = inl e
    by false e = inr (changing d (ap (λ b. cond b None (if_unchanged d)) (sym e) ∙ none_3))

  execute_follows : (o : Order) → deploys_from t.status ≡ true → execute_refusal schemas x name source ≡ None → IsDeployment schemas x name source o → (w : Wish) → OrderFollows schemas x w o
  execute_follows o may none is w =
      deployment_follows o may (none_first (first_of (source_refusals (lane_kinds x) schemas x name source)) _ none)
      (inr (changing d (none_first (if_unchanged d) [] (none_behind (first_of (source_refusals (lane_kinds x) schemas x name source)) _ none)))) is w

-- paths that are named
none_found : {A : Type 0} (test : A → Bool) (xs : List A) → find test xs ≡ None → list_all (λ a. not (test a)) xs ≡ true
none_found test [] h = refl
none_found test (a ∷ xs) h = by (test a) h (none_found test xs) where
  by : (b : Bool) → cond b (Some a) (find test xs) ≡ None → (find test xs ≡ None → list_all (λ c. not (test c)) xs ≡ true) → (not b && list_all (λ c. not (test c)) xs) ≡ true
  by true g ih = some_none a g
  by false g ih = ih g

not_not : (b : Bool) → not (not b) ≡ b
not_not true = refl
not_not false = refl

abbrev In : List (List ℕ) → List (List ℕ) → Type 0
In all paths = (p : List ℕ) → is_among p paths ≡ true → is_among p all ≡ true

all_in : (names paths : List (List ℕ)) → list_all (λ q. not (not (is_among q names))) paths ≡ true → In names paths
all_in names [] h p among = absurd (true≢false (sym among))
all_in names (q ∷ paths) h p among = by (bytes_eq p q) refl among (all_in names paths (second_so (not (not (is_among q names))) _ h) p) where
  by : (b : Bool) → bytes_eq p q ≡ b → (b || is_among p paths) ≡ true → (is_among p paths ≡ true → is_among p names ≡ true) → is_among p names ≡ true
  by true e g ih = ap (λ r. is_among r names) ((bytes_eq-Decides p q).0 e) ∙ sym (not_not (is_among q names)) ∙ first_so (not (not (is_among q names))) _ h
  by false e g ih = ih g

in_all : (names paths : List (List ℕ)) → In names paths → list_all (λ q. is_among q names) paths ≡ true
in_all names [] h = refl
in_all names (q ∷ paths) h = λ i. head i && in_all names paths (λ p among. h p (later p among)) i where
  head : is_among q names ≡ true
  head = h q (ap (λ b. b || is_among q paths) ((bytes_eq-Decides q q).1 refl))

  later : (p : List ℕ) → is_among p paths ≡ true → is_among p (q ∷ paths) ≡ true
  later p among = by (bytes_eq p q) where
    by : (b : Bool) → (b || is_among p paths) ≡ true
    by true = refl
    by false = among

named_in : (failed paths sorted : List (List ℕ)) → if_not_failed failed paths ≡ None → IsSorted paths sorted → list_all (λ q. is_among q failed) sorted ≡ true
named_in failed paths sorted h is =
    in_all failed sorted (λ p among. all_in failed paths
    (none_found (λ p. not (is_among p failed)) paths (unmapped (λ p. fault.Stack (stack.NotFailed p)) (find (λ p. not (is_among p failed)) paths) h))
    p (sym (is.same p) ∙ among))

none_named : (paths : List (List ℕ)) → list_all (λ q. is_among q []) paths ≡ true → is_empty paths ≡ true
none_named [] h = refl
none_named (p ∷ paths) h = h

retains : (st : Status) (s : StackState) (paths : List (List ℕ)) → list_all (λ q. is_among q (may_keep st s)) paths ≡ true → may_retain st s paths ≡ true
retains status.DeleteFailed s paths h = h
retains status.CreateInProgress s paths h = none_named paths h
retains status.CreateComplete s paths h = none_named paths h
retains status.RollbackInProgress s paths h = none_named paths h
retains status.RollbackComplete s paths h = none_named paths h
retains status.RollbackFailed s paths h = none_named paths h
retains status.UpdateInProgress s paths h = none_named paths h
retains status.UpdateCompleteCleanupInProgress s paths h = none_named paths h
retains status.UpdateComplete s paths h = none_named paths h
retains status.UpdateRollbackInProgress s paths h = none_named paths h
retains status.UpdateRollbackCompleteCleanupInProgress s paths h = none_named paths h
retains status.UpdateRollbackComplete s paths h = none_named paths h
retains status.UpdateRollbackFailed s paths h = none_named paths h
retains status.DeleteInProgress s paths h = none_named paths h
retains status.DeleteComplete s paths h = none_named paths h
retains status.ReviewInProgress s paths h = none_named paths h

and_true : (b : Bool) → (b && true) ≡ b
and_true true = refl
and_true false = refl

any_pinned : (name : List ℕ) (x : World) (es : List Export) → list_any (is_taken_away name x []) es ≡ list_any (is_pinned name x) es
any_pinned name x [] = refl
any_pinned name x (e ∷ es) = λ i. and_true (is_pinned name x e) i || any_pinned name x es i

module _ (schemas : List Schema) (x : World) (name : List ℕ) (paths : List (List ℕ)) where
  abbrev u : StackState
  u = known_stack name x

  delete_follows : (o : Order) → delete_refusal x name paths ≡ None → IsDeletion x name paths o → (w : Wish) → OrderFollows schemas x w o
  delete_follows o none (sorted, is, e) w = subst (OrderFollows schemas x w) (sym e) (λ opened out. (refl, may, (is.ascend, retain, unpinned))) where
    none_2 : first_of (if_barred deletes_from u ∷ if_not_failed (may_keep u.status u) paths ∷ if_in_use name x [] ∷ []) ≡ None
    none_2 = none_behind (if_missing name x) _ none

    none_3 : first_of (if_not_failed (may_keep u.status u) paths ∷ if_in_use name x [] ∷ []) ≡ None
    none_3 = none_behind (if_barred deletes_from u) _ none_2

    may : deletes_from u.status ≡ true
    may = lets deletes_from u (none_first (if_barred deletes_from u) _ none_2)

    retain : may_retain u.status u sorted ≡ true
    retain = retains u.status u sorted (named_in (may_keep u.status u) paths sorted (none_first (if_not_failed (may_keep u.status u) paths) _ none_3) is)

    unpinned : is_pinned_export name x ≡ false
    unpinned =
        sym (any_pinned name x x.exports)
        ∙ not_in_use name x [] (none_first (if_in_use name x []) [] (none_behind (if_not_failed (may_keep u.status u) paths) _ none_3))

  continue_follows : (o : Order) → continue_refusal x name paths ≡ None → IsContinuation x name paths o → OrderFollows schemas x (wish.Continue name paths) o
  continue_follows o none (sorted, is, e) =
      subst (OrderFollows schemas x (wish.Continue name paths)) (sym e) (λ opened out. (refl, may, (is.ascend, skipped, opened))) where
        none_2 : first_of (if_barred continues_from u ∷ if_not_failed (failed_of u) paths ∷ []) ≡ None
        none_2 = none_behind (if_missing name x) _ none

        may : continues_from u.status ≡ true
        may = lets continues_from u (none_first (if_barred continues_from u) _ none_2)

        skipped : are_among sorted (failed_of u) ≡ true
        skipped = named_in (failed_of u) paths sorted (none_first (if_not_failed (failed_of u) paths) [] (none_behind (if_barred continues_from u) _ none_2)) is

-- a change set that is executed is there
set_there : (number : ℕ) (s : StackState) → if_no_set number s ≡ None → is_some (set_of number s) ≡ true
set_there number s h = by (is_some (set_of number s)) h where
  by : (b : Bool) → cond b None (Some (fault.Stack (stack.NoChangeSet number))) ≡ None → b ≡ true
  by true g = refl
  by false g = some_none (fault.Stack (stack.NoChangeSet number)) g

set_follows : (schemas : List Schema) (x : World) (name : List ℕ) (number : ℕ) (o : Order) → ExecutesAs (set_refusal x name number) schemas x name number (Ok o) → OrderFollows schemas x (wish.Execute name number) o
set_follows schemas x name number o h = by (set_refusal x name number) refl h where
  found : deploys_from (known_stack name x).status ≡ true → (k : Option KeptSet) → is_some k ≡ true → ExecutesFound schemas x name number k (Ok o) → OrderFollows schemas x (wish.Execute name number) o
  found may None there g = absurd (true≢false (sym there))
  found may (Some k) there g = execute_follows schemas x name k.source o may g.0 g.2 (wish.Execute name number)

  by : (r : Option PrepareFault) → set_refusal x name number ≡ r → ExecutesAs r schemas x name number (Ok o) → OrderFollows schemas x (wish.Execute name number) o
  by (Some f) e g = some_none f g.0
  by None e g =
      let none_2 = none_behind (if_missing name x) (if_barred deploys_from (known_stack name x) ∷ if_no_set number (known_stack name x) ∷ []) e in
      found (lets deploys_from (known_stack name x) (none_first (if_barred deploys_from (known_stack name x)) (if_no_set number (known_stack name x) ∷ []) none_2)) (set_of number (known_stack name x))
      (set_there number (known_stack name x) (none_first (if_no_set number (known_stack name x)) [] (none_behind (if_barred deploys_from (known_stack name x)) (if_no_set number (known_stack name x) ∷ []) none_2))) g

-- the order of a wish may follow
pub order_follows : (schemas : List Schema) (x : World) (w : Wish) (r : Result Order PrepareFault) → PreparesAs schemas x w r → IfOk r (OrderFollows schemas x w)
order_follows schemas x w (Err f) h = tt
order_follows schemas x (wish.Deploy name source) (Ok o) h = deploy_follows schemas x name source o h.0 h.1 (wish.Deploy name source)
order_follows schemas x (wish.Review name source) (Ok o) h = review_follows schemas x name source o h.0 h.1 (wish.Review name source)
order_follows schemas x (wish.Execute name number) (Ok o) h = set_follows schemas x name number o h
order_follows schemas x (wish.Delete name paths) (Ok o) h = delete_follows schemas x name paths o h.0 h.1 (wish.Delete name paths)
order_follows schemas x (wish.Continue name paths) (Ok o) h = continue_follows schemas x name paths o h.0 h.1
order_follows schemas x (wish.Resume name) (Ok o) h =
    subst (OrderFollows schemas x (wish.Resume name)) (sym h.2)
    (refl, lets is_in_progress (known_stack name x) (none_first (if_barred is_in_progress (known_stack name x)) [] (none_behind (if_missing name x) (if_barred is_in_progress (known_stack name x) ∷ []) h.0)))
