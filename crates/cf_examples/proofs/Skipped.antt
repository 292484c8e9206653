-- An update breaks off each time that it is called: the rollback fails, and a continued one skips it.
use Rattle.std.proofs.Common.{◌≡◌, refl, List, [], ◌∷◌, ◌++◌, true, false, ℕ, inl, inr, sym, ap, lit≤, true≢false}
use Rattle.std.specs.Prelude.{codes, take, drop}
use Rattle.cf_effect.specs.declared.held.Held.{Held}
use Rattle.cf_effect.specs.World.{World, StackState, empty_world}
use Rattle.cf_effect.specs.Status.{Back, BackClean}
use Rattle.cf_tree.specs.Lists.{here}
use Rattle.cf_tree.specs.Lists.{In}
use Rattle.cf_plan.specs.Follow.{MayFollow, IsNamedLane, IsLaneFor}
use Rattle.cf_effect.specs.declared.held.Pending.{Pending}
use Rattle.cf_examples.specs.Given.{schemas, file, file_props, file_attrs, lane_pair, report_of}
use Rattle.cf_examples.proofs.Computing.{computing}
use Rattle.cf_examples.proofs.Lists.{only, not_empty}
use Rattle.cf_examples.proofs.Ending.{end_of_back_clean, end_of_undoing, nothing_to_restore}
use Rattle.cf_tree.specs.declared.template.Deletion.TheVariants as deletion
use Rattle.cf_tree.specs.declared.template.Replace.TheVariants as replace
use Rattle.cf_entry.specs.declared.entry.Entry.TheVariants as entry
use Rattle.cf_entry.specs.declared.entry.Begun.TheVariants as begin
use Rattle.cf_entry.specs.declared.status.Status.TheVariants as status
use Rattle.cf_effect.specs.declared.held.HeldStatus.TheVariants as held
use Rattle.cf_examples.proofs.Refusing.{are_failed, refused_at, IsRun, ended, step, joined, followed}
use Rattle.cf_examples.proofs.Beginning.{no_imports, opens_one}
use Rattle.cf_examples.specs.Skipped.{broken_back_once, broken_back_twice, broken_back_thrice, failed, opened_again, continued, cleaning, rolled_back, until_opened_again, run, rows, reviewed, ReviewIsLegal, Legal, Fails, Shows, SkipsAnother, ContinuedAtOnce, UnsureLeftOut}
use Rattle.cf_examples.proofs.LateEffect.{until_11, stack_11_s, world_11, call_2}

pub may_broken_back_once : MayFollow schemas world_11 (2 ∷ []) broken_back_once
unfolding computing
may_broken_back_once = ((codes "s"), stack_11_s, Back, refl, refl, (refl, refl, (lit≤ tt, λ _. lit≤ tt)))

abbrev pub stack_12_s : StackState
stack_12_s = record stack_11_s { events = stack_11_s.events ++ (codes "event 12 A UPDATE_FAILED Fault") ∷ []; entries = stack_11_s.entries ++ broken_back_once ∷ []; ledger = (record call_2 { fresh = false; doubts = 1 } ∷ []) }

abbrev pub world_12 : World
world_12 = record world_11 { stacks = (((codes "s"), stack_12_s) ∷ []); place = 12 }

pub may_broken_back_twice : MayFollow schemas world_12 (2 ∷ []) broken_back_twice
unfolding computing
may_broken_back_twice = ((codes "s"), stack_12_s, Back, refl, refl, (refl, refl, (lit≤ tt, λ _. lit≤ tt)))

abbrev pub stack_13_s : StackState
stack_13_s = record stack_12_s { events = stack_12_s.events ++ (codes "event 13 A UPDATE_FAILED Fault") ∷ []; entries = stack_12_s.entries ++ broken_back_twice ∷ []; ledger = (record call_2 { fresh = false; doubts = 2 } ∷ []) }

abbrev pub world_13 : World
world_13 = record world_12 { stacks = (((codes "s"), stack_13_s) ∷ []); place = 13 }

pub may_broken_back_thrice : MayFollow schemas world_13 (2 ∷ []) broken_back_thrice
unfolding computing
may_broken_back_thrice = ((codes "s"), stack_13_s, Back, refl, refl, (refl, refl, (lit≤ tt, λ _. lit≤ tt)))

abbrev pub stack_14_s : StackState
stack_14_s = record stack_13_s { events = stack_13_s.events ++ (codes "event 14 A UPDATE_FAILED Fault") ∷ []; entries = stack_13_s.entries ++ broken_back_thrice ∷ []; ledger = (record call_2 { fresh = false; doubts = 3 } ∷ []) }

abbrev pub world_14 : World
world_14 = record world_13 { stacks = (((codes "s"), stack_14_s) ∷ []); place = 14 }

pub may_failed : MayFollow schemas world_14 [] failed
unfolding computing
may_failed = ((codes "s"), stack_14_s, Back, refl, refl, (refl, end_of_undoing schemas (codes "s") world_14 stack_14_s refl refl (λ e f. not_empty stack_14_s.tokens refl e) refl, tt, (refl, are_failed stack_14_s ((codes "A") ∷ []) refl refl)))

abbrev a_2 : Held
a_2 = record { path = (codes "A"); kind = file; physical = (codes "f1:1"); props = (file_props (codes "a") (codes "x")); attrs = (file_attrs (codes "f1:1") 1 (codes "a") (codes "x")); needs = []; deletion = deletion.Delete; replace = replace.Delete; status = held.UpdateFailed; unsure = false; superseded = false }

abbrev pub stack_15_s : StackState
stack_15_s = record stack_14_s { status = status.UpdateRollbackFailed; held = (a_2 ∷ []); events = stack_14_s.events ++ (codes "event 15 - UPDATE_ROLLBACK_FAILED") ∷ []; entries = stack_14_s.entries ++ failed ∷ [] }

abbrev pub world_15 : World
world_15 = record world_14 { stacks = (((codes "s"), stack_15_s) ∷ []); place = 15 }

pub may_opened_again : MayFollow schemas world_15 [] opened_again
unfolding computing
may_opened_again = (refl, refl, opens_one _ world_15 (codes "s") stack_15_s refl ((λ h i. only (λ (g : Held). IsNamedLane (lane_pair (codes "f1") file ∷ []) g.physical g.kind) (lane_pair (codes "f1") file, here, (codes "1", refl), refl) h i), (λ p i. only (λ (q : Pending). (l : List ℕ × List ℕ) × In l (lane_pair (codes "f1") file ∷ []) × IsLaneFor q l) (lane_pair (codes "f1") file, here, (refl, tt)) p i)))

abbrev pub stack_16_s : StackState
stack_16_s = record stack_15_s { entries = stack_15_s.entries ++ opened_again ∷ []; ledger = (record call_2 { fresh = false } ∷ []) }

abbrev pub world_16 : World
world_16 = record world_15 { stacks = (((codes "s"), stack_16_s) ∷ []); epoch = 2; place = 16 }

pub may_continued : MayFollow schemas world_16 [] continued
unfolding computing
may_continued = (refl, refl, (refl, refl, refl))

abbrev pub a_3 : Held
a_3 = record { path = (codes "A"); kind = file; physical = (codes "f1:1"); props = (file_props (codes "a") (codes "x")); attrs = (file_attrs (codes "f1:1") 1 (codes "a") (codes "x")); needs = []; deletion = deletion.Delete; replace = replace.Delete; status = held.UpdateComplete; unsure = true; superseded = false }

abbrev pub stack_17_s : StackState
stack_17_s = record stack_16_s { status = status.UpdateRollbackInProgress; operation = 3; held = (a_3 ∷ []); tokens = []; events = stack_16_s.events ++ (codes "event 17 - UPDATE_ROLLBACK_IN_PROGRESS") ∷ []; entries = stack_16_s.entries ++ continued ∷ [] }

abbrev pub world_17 : World
world_17 = record world_16 { stacks = (((codes "s"), stack_17_s) ∷ []); operation = 3; place = 17 }

pub may_cleaning : MayFollow schemas world_17 [] cleaning
unfolding computing
may_cleaning = ((codes "s"), stack_17_s, Back, refl, refl, (refl, (refl, refl, nothing_to_restore stack_17_s refl, refl)))

abbrev pub stack_18_s : StackState
stack_18_s = record stack_17_s { status = status.UpdateRollbackCompleteCleanupInProgress; events = stack_17_s.events ++ (codes "event 18 - UPDATE_ROLLBACK_COMPLETE_CLEANUP_IN_PROGRESS") ∷ []; entries = stack_17_s.entries ++ cleaning ∷ [] }

abbrev pub world_18 : World
world_18 = record world_17 { stacks = (((codes "s"), stack_18_s) ∷ []); place = 18 }

pub may_rolled_back : MayFollow schemas world_18 [] rolled_back
unfolding computing
may_rolled_back = ((codes "s"), stack_18_s, BackClean, refl, refl, (refl, end_of_back_clean schemas (codes "s") world_18 stack_18_s refl refl refl, tt, refl))

abbrev pub stack_19_s : StackState
stack_19_s = record stack_18_s { status = status.UpdateRollbackComplete; events = stack_18_s.events ++ (codes "event 19 - UPDATE_ROLLBACK_COMPLETE") ∷ []; entries = stack_18_s.entries ++ rolled_back ∷ [] }

abbrev pub world_19 : World
world_19 = record world_18 { stacks = (((codes "s"), stack_19_s) ∷ []); place = 19 }

pub until_15 : IsRun empty_world (take 15 run) world_15
unfolding computing
until_15 =
    joined (take 4 (drop 11 run)) until_11
    (step world_12 (2 ∷ []) may_broken_back_once refl
    (step world_13 (2 ∷ []) may_broken_back_twice refl
    (step world_14 (2 ∷ []) may_broken_back_thrice refl
    (step world_15 [] may_failed refl ended))))

pub until_16 : IsRun empty_world (take 16 run) world_16
unfolding computing
until_16 =
    joined (take 1 (drop 15 run)) until_15
    (step world_16 [] may_opened_again refl ended)

pub until_19 : IsRun empty_world run world_19
unfolding computing
until_19 =
    joined (drop 16 run) until_16
    (step world_17 [] may_continued refl
    (step world_18 [] may_cleaning refl
    (step world_19 [] may_rolled_back refl ended)))

pub legal : Legal
legal = until_19.legal

pub report_0 : Fails
report_0 = ap (report_of (codes "s")) until_15.arrives

pub report_1 : Shows
report_1 = ap (report_of (codes "s")) until_19.arrives

may_not_0 : (out : List ℕ) → MayFollow schemas world_16 out (entry.Begin 3 (codes "s") (begin.Continue (codes "B" ∷ []))) → ⊥
unfolding computing
may_not_0 = λ out may. (let z : false ≡ true = may.2.1 in true≢false (sym z))

pub refused_0 : SkipsAnother
refused_0 = refused_at world_16 until_opened_again (entry.Begin 3 (codes "s") (begin.Continue (codes "B" ∷ []))) until_16.arrives may_not_0

may_not_1 : (out : List ℕ) → MayFollow schemas world_15 out continued → ⊥
unfolding computing
may_not_1 = λ out may. (let z : false ≡ true = may.2.2 in true≢false (sym z))

pub refused_1 : ContinuedAtOnce
refused_1 = refused_at world_15 (take 15 run) continued until_15.arrives may_not_1

may_reviewed : MayFollow schemas world_19 [] (reviewed rows)
unfolding computing
may_reviewed = (refl, refl, record { accepted = record { no_flaw = refl; known_types = refl; same_types = refl; imports = no_imports _ _ _ _ refl refl; free = refl; not_in_use = refl; changing = inr refl }; changing = refl; rows_are = refl; outputs_are = refl })

pub review_is_legal : ReviewIsLegal
review_is_legal = followed (reviewed rows) until_19 [] may_reviewed

may_not_2 : (out : List ℕ) → MayFollow schemas world_19 out (reviewed []) → ⊥
unfolding computing
may_not_2 = λ out may. not_empty rows refl (sym may.2.rows_are)

pub refused_2 : UnsureLeftOut
refused_2 = refused_at world_19 run (reviewed []) until_19.arrives may_not_2
