-- A file is moved onto the name of another one: the handler refuses, and the update is taken back.
use Rattle.std.proofs.Common.{refl, List, [], ◌∷◌, ◌++◌, Some, false, ℕ, inl, inr, ap, lit≤, None, true}
use Rattle.std.specs.Prelude.{codes, take, drop}
use Rattle.cf_tree.specs.declared.request.Request.TheVariants as request
use Rattle.cf_tree.specs.declared.code.Code.TheVariants as code
use Rattle.cf_entry.specs.declared.turn.Reason.TheVariants as reason
use Rattle.cf_effect.specs.declared.call.Call.{Call}
use Rattle.cf_effect.specs.declared.call.Settled.TheVariants as settled
use Rattle.cf_effect.specs.declared.held.Held.{Held}
use Rattle.cf_effect.specs.World.{World, StackState, empty_world, no_stack}
use Rattle.cf_effect.specs.Begin.{source_for}
use Rattle.cf_effect.specs.Status.{Forward, Back, BackClean}
use Rattle.cf_plan.specs.Forward.{HasFailed, IsReady, AllDone, IsDone, is_made}
use Rattle.cf_tree.specs.Lists.{there}
use Rattle.cf_tree.specs.Lists.{here}
use Rattle.cf_plan.specs.Follow.{MayFollow}
use Rattle.cf_examples.specs.Given.{schemas, file, file_props, file_attrs, lane_pair, report_of}
use Rattle.cf_examples.proofs.Computing.{computing}
use Rattle.cf_examples.proofs.Lists.{in_none, either}
use Rattle.cf_examples.proofs.Failing.{not_failed, not_done_new, not_done_other, same_at}
use Rattle.cf_examples.proofs.Ending.{end_of_create, end_of_back_clean, nothing_to_restore}
use Rattle.cf_tree.specs.declared.template.Deletion.TheVariants as deletion
use Rattle.cf_tree.specs.declared.template.Replace.TheVariants as replace
use Rattle.cf_entry.specs.declared.entry.Entry.TheVariants as entry
use Rattle.cf_entry.specs.declared.status.Status.TheVariants as status
use Rattle.cf_effect.specs.declared.held.HeldStatus.TheVariants as held
use Rattle.cf_examples.proofs.Refusing.{follows_on, refused_at, IsRun, ended, step, joined}
use Rattle.cf_examples.proofs.Beginning.{no_imports}
use Rattle.cf_examples.specs.TakenName.{first, second, opened, begun, intended_a, made_a, intended_b, made_b, created, updating, intended_move, refused, turned, cleaning, rolled_back, Legal, Shows, MadeAnew, run}

abbrev world_0 : World
world_0 = empty_world

may_opened : MayFollow schemas world_0 [] opened
unfolding computing
may_opened = (refl, refl, λ name s e. absurd (cc))

abbrev world_1 : World
world_1 = record world_0 { lanes = (lane_pair (codes "f1") file ∷ []); epoch = 1; place = 1 }

may_begun : MayFollow schemas world_1 [] begun
unfolding computing
may_begun = (refl, refl, record { no_flaw = refl; known_types = refl; same_types = refl; imports = no_imports _ _ _ _ refl refl; free = refl; not_in_use = refl; changing = inl refl })

abbrev stack_2_two : StackState
stack_2_two = record no_stack { status = status.CreateInProgress; number = 1; operation = 1; going = Some (source_for (codes "two") 1 first); events = ((codes "event 2 - CREATE_IN_PROGRESS") ∷ []); entries = (begun ∷ []) }

abbrev world_2 : World
world_2 = record world_1 { stacks = (((codes "two"), stack_2_two) ∷ []); operation = 1; place = 2 }

sound_2 : ¬ HasFailed schemas (codes "two") world_2 stack_2_two
unfolding computing
sound_2 = not_failed schemas (codes "two") world_2 stack_2_two (record { calls = refl; paths = refl; inner = refl; flaws = refl; exports = refl })

ready_2_A : IsReady stack_2_two (codes "A")
unfolding computing
ready_2_A = (here, λ q i. absurd (in_none i))

may_intended_a : MayFollow schemas world_2 [] intended_a
unfolding computing
may_intended_a = ((codes "two"), stack_2_two, Forward, refl, refl, record { next = refl; free = refl; home = refl; fits = refl; no_repeat = refl; chosen = (sound_2, ready_2_A, not_done_new (codes "A") stack_2_two refl refl refl, (refl, tt)) })

abbrev pub call_1 : Call
call_1 = record { number = 1; token = 1; lane = (codes "f1"); path = (codes "A"); request = (request.Create file (file_props (codes "a") (codes "x"))); status = status.CreateInProgress; fresh = true; doubts = 0; answer = None }

abbrev stack_3_two : StackState
stack_3_two = record stack_2_two { tokens = (record { token = 1; path = (codes "A"); lane = (codes "f1"); request = (request.Create file (file_props (codes "a") (codes "x"))) } ∷ []); events = stack_2_two.events ++ (codes "event 3 A CREATE_IN_PROGRESS") ∷ []; entries = stack_2_two.entries ++ intended_a ∷ []; ledger = (call_1 ∷ []) }

abbrev world_3 : World
world_3 = record world_2 { stacks = (((codes "two"), stack_3_two) ∷ []); token = 1; place = 3 }

may_made_a : MayFollow schemas world_3 (1 ∷ []) made_a
unfolding computing
may_made_a = ((codes "two"), stack_3_two, Forward, refl, refl, (refl, refl, lit≤ tt))

abbrev a_1 : Held
a_1 = record { path = (codes "A"); kind = file; physical = (codes "f1:1"); props = (file_props (codes "a") (codes "x")); attrs = (file_attrs (codes "f1:1") 1 (codes "a") (codes "x")); needs = []; deletion = deletion.Delete; replace = replace.Delete; status = held.CreateComplete; unsure = false; superseded = false }

abbrev stack_4_two : StackState
stack_4_two = record stack_3_two { made = (a_1 ∷ []); tokens = []; events = stack_3_two.events ++ (codes "event 4 A CREATE_COMPLETE") ∷ []; entries = stack_3_two.entries ++ made_a ∷ []; ledger = (record call_1 { answer = Some settled.Success } ∷ []) }

abbrev world_4 : World
world_4 = record world_3 { stacks = (((codes "two"), stack_4_two) ∷ []); place = 4 }

sound_4 : ¬ HasFailed schemas (codes "two") world_4 stack_4_two
unfolding computing
sound_4 = not_failed schemas (codes "two") world_4 stack_4_two (record { calls = refl; paths = refl; inner = refl; flaws = refl; exports = refl })

ready_4_B : IsReady stack_4_two (codes "B")
unfolding computing
ready_4_B = (there here, λ q i. absurd (in_none i))

may_intended_b : MayFollow schemas world_4 [] intended_b
unfolding computing
may_intended_b = ((codes "two"), stack_4_two, Forward, refl, refl, record { next = refl; free = refl; home = refl; fits = refl; no_repeat = refl; chosen = (sound_4, ready_4_B, not_done_new (codes "B") stack_4_two refl refl refl, (refl, tt)) })

abbrev pub call_2 : Call
call_2 = record { number = 1; token = 2; lane = (codes "f1"); path = (codes "B"); request = (request.Create file (file_props (codes "b") (codes "y"))); status = status.CreateInProgress; fresh = true; doubts = 0; answer = None }

abbrev stack_5_two : StackState
stack_5_two = record stack_4_two { tokens = (record { token = 2; path = (codes "B"); lane = (codes "f1"); request = (request.Create file (file_props (codes "b") (codes "y"))) } ∷ []); events = stack_4_two.events ++ (codes "event 5 B CREATE_IN_PROGRESS") ∷ []; entries = stack_4_two.entries ++ intended_b ∷ []; ledger = (record call_1 { answer = Some settled.Success } ∷ call_2 ∷ []) }

abbrev world_5 : World
world_5 = record world_4 { stacks = (((codes "two"), stack_5_two) ∷ []); token = 2; place = 5 }

may_made_b : MayFollow schemas world_5 (2 ∷ []) made_b
unfolding computing
may_made_b = ((codes "two"), stack_5_two, Forward, refl, refl, (refl, refl, lit≤ tt))

abbrev b_1 : Held
b_1 = record { path = (codes "B"); kind = file; physical = (codes "f1:2"); props = (file_props (codes "b") (codes "y")); attrs = (file_attrs (codes "f1:2") 1 (codes "b") (codes "y")); needs = []; deletion = deletion.Delete; replace = replace.Delete; status = held.CreateComplete; unsure = false; superseded = false }

abbrev stack_6_two : StackState
stack_6_two = record stack_5_two { made = (a_1 ∷ b_1 ∷ []); tokens = []; events = stack_5_two.events ++ (codes "event 6 B CREATE_COMPLETE") ∷ []; entries = stack_5_two.entries ++ made_b ∷ []; ledger = (record call_1 { answer = Some settled.Success } ∷ record call_2 { answer = Some settled.Success } ∷ []) }

abbrev world_6 : World
world_6 = record world_5 { stacks = (((codes "two"), stack_6_two) ∷ []); place = 6 }

all_done_6 : AllDone stack_6_two
unfolding computing
all_done_6 = λ p i. either (IsDone stack_6_two) (is_made _ refl) (is_made _ refl) p i

sound_6 : ¬ HasFailed schemas (codes "two") world_6 stack_6_two
unfolding computing
sound_6 = not_failed schemas (codes "two") world_6 stack_6_two (record { calls = refl; paths = refl; inner = refl; flaws = refl; exports = refl })

may_created : MayFollow schemas world_6 [] created
unfolding computing
may_created = ((codes "two"), stack_6_two, Forward, refl, refl, (refl, end_of_create schemas (codes "two") world_6 stack_6_two refl all_done_6 sound_6 refl, (sound_6, all_done_6), refl))

abbrev stack_7_two : StackState
stack_7_two = record stack_6_two { status = status.CreateComplete; held = (a_1 ∷ b_1 ∷ []); made = []; source = Some (source_for (codes "two") 1 first); events = stack_6_two.events ++ (codes "event 7 - CREATE_COMPLETE") ∷ []; entries = stack_6_two.entries ++ created ∷ [] }

abbrev world_7 : World
world_7 = record world_6 { stacks = (((codes "two"), stack_7_two) ∷ []); place = 7 }

may_updating : MayFollow schemas world_7 [] updating
unfolding computing
may_updating = (refl, refl, record { no_flaw = refl; known_types = refl; same_types = refl; imports = no_imports _ _ _ _ refl refl; free = refl; not_in_use = refl; changing = inr refl })

abbrev stack_8_two : StackState
stack_8_two = record stack_7_two { status = status.UpdateInProgress; operation = 2; before = (a_1 ∷ b_1 ∷ []); going = Some (source_for (codes "two") 1 second); events = stack_7_two.events ++ (codes "event 8 - UPDATE_IN_PROGRESS") ∷ []; entries = (updating ∷ []); ledger = [] }

abbrev world_8 : World
world_8 = record world_7 { stacks = (((codes "two"), stack_8_two) ∷ []); operation = 2; place = 8 }

sound_8 : ¬ HasFailed schemas (codes "two") world_8 stack_8_two
unfolding computing
sound_8 = not_failed schemas (codes "two") world_8 stack_8_two (record { calls = refl; paths = refl; inner = refl; flaws = refl; exports = refl })

ready_8_A : IsReady stack_8_two (codes "A")
unfolding computing
ready_8_A = (here, λ q i. absurd (in_none i))

may_intended_move : MayFollow schemas world_8 [] intended_move
unfolding computing
may_intended_move = ((codes "two"), stack_8_two, Forward, refl, refl, record { next = refl; free = refl; home = refl; fits = refl; no_repeat = refl; chosen = (sound_8, ready_8_A, not_done_other (codes "A") stack_8_two (same_at (codes "Path") (codes "a")) _ _ _ refl refl refl refl refl refl, (refl, inl refl)) })

abbrev pub call_3 : Call
call_3 = record { number = 2; token = 3; lane = (codes "f1"); path = (codes "A"); request = (request.Create file (file_props (codes "b") (codes "x"))); status = status.UpdateInProgress; fresh = true; doubts = 0; answer = None }

abbrev stack_9_two : StackState
stack_9_two = record stack_8_two { tokens = (record { token = 3; path = (codes "A"); lane = (codes "f1"); request = (request.Create file (file_props (codes "b") (codes "x"))) } ∷ []); events = stack_8_two.events ++ (codes "event 9 A CREATE_IN_PROGRESS") ∷ []; entries = stack_8_two.entries ++ intended_move ∷ []; ledger = (call_3 ∷ []) }

abbrev world_9 : World
world_9 = record world_8 { stacks = (((codes "two"), stack_9_two) ∷ []); token = 3; place = 9 }

may_refused : MayFollow schemas world_9 (3 ∷ []) refused
unfolding computing
may_refused = ((codes "two"), stack_9_two, Forward, refl, refl, (refl, refl, (lit≤ tt, λ _. lit≤ tt)))

abbrev stack_10_two : StackState
stack_10_two = record stack_9_two { tokens = []; events = stack_9_two.events ++ (codes "event 10 A CREATE_FAILED AlreadyExists") ∷ []; entries = stack_9_two.entries ++ refused ∷ []; ledger = (record call_3 { answer = Some (settled.Failed code.AlreadyExists) } ∷ []) }

abbrev world_10 : World
world_10 = record world_9 { stacks = (((codes "two"), stack_10_two) ∷ []); place = 10 }

may_turned : MayFollow schemas world_10 [] turned
unfolding computing
may_turned = ((codes "two"), stack_10_two, Forward, refl, refl, (refl, (refl, (inl ((3, (reason.Code code.AlreadyExists)), refl)), (3, refl, refl))))

abbrev stack_11_two : StackState
stack_11_two = record stack_10_two { status = status.UpdateRollbackInProgress; events = stack_10_two.events ++ (codes "event 11 - UPDATE_ROLLBACK_IN_PROGRESS") ∷ []; entries = stack_10_two.entries ++ turned ∷ []; ledger = (record call_3 { fresh = false; answer = Some (settled.Failed code.AlreadyExists) } ∷ []) }

abbrev world_11 : World
world_11 = record world_10 { stacks = (((codes "two"), stack_11_two) ∷ []); place = 11 }

may_cleaning : MayFollow schemas world_11 [] cleaning
unfolding computing
may_cleaning = ((codes "two"), stack_11_two, Back, refl, refl, (refl, (refl, refl, nothing_to_restore stack_11_two refl, refl)))

abbrev stack_12_two : StackState
stack_12_two = record stack_11_two { status = status.UpdateRollbackCompleteCleanupInProgress; events = stack_11_two.events ++ (codes "event 12 - UPDATE_ROLLBACK_COMPLETE_CLEANUP_IN_PROGRESS") ∷ []; entries = stack_11_two.entries ++ cleaning ∷ [] }

abbrev world_12 : World
world_12 = record world_11 { stacks = (((codes "two"), stack_12_two) ∷ []); place = 12 }

may_rolled_back : MayFollow schemas world_12 [] rolled_back
unfolding computing
may_rolled_back = ((codes "two"), stack_12_two, BackClean, refl, refl, (refl, end_of_back_clean schemas (codes "two") world_12 stack_12_two refl refl refl, tt, refl))

abbrev stack_13_two : StackState
stack_13_two = record stack_12_two { status = status.UpdateRollbackComplete; events = stack_12_two.events ++ (codes "event 13 - UPDATE_ROLLBACK_COMPLETE") ∷ []; entries = stack_12_two.entries ++ rolled_back ∷ [] }

abbrev world_13 : World
world_13 = record world_12 { stacks = (((codes "two"), stack_13_two) ∷ []); place = 13 }

pub until_11 : IsRun empty_world (take 11 run) world_11
unfolding computing
until_11 =
    step world_1 [] may_opened refl
    (step world_2 [] may_begun refl
    (step world_3 [] may_intended_a refl
    (step world_4 (1 ∷ []) may_made_a refl
    (step world_5 [] may_intended_b refl
    (step world_6 (2 ∷ []) may_made_b refl
    (step world_7 [] may_created refl
    (step world_8 [] may_updating refl
    (step world_9 [] may_intended_move refl
    (step world_10 (3 ∷ []) may_refused refl
    (step world_11 [] may_turned refl ended))))))))))

pub until_13 : IsRun empty_world run world_13
unfolding computing
until_13 =
    joined (drop 11 run) until_11
    (step world_12 [] may_cleaning refl
    (step world_13 [] may_rolled_back refl ended))

pub legal : Legal
legal = until_13.legal

pub report_0 : Shows
report_0 = ap (report_of (codes "two")) until_13.arrives

may_not_0 : (out : List ℕ) → MayFollow schemas world_11 out (entry.Intent 2 4 (codes "f1") (codes "A") (request.Create file (file_props (codes "a") (codes "x")))) → ⊥
unfolding computing
may_not_0 = λ out may. let m = follows_on schemas 2 world_11 out (entry.Intent 2 4 (codes "f1") (codes "A") (request.Create file (file_props (codes "a") (codes "x")))) ((codes "two"), stack_11_two) Back refl refl may in (elim m.chosen [ inl n ↦ n | inr n ↦ n ])

pub refused_0 : MadeAnew
refused_0 = refused_at world_11 (take 11 run) (entry.Intent 2 4 (codes "f1") (codes "A") (request.Create file (file_props (codes "a") (codes "x")))) until_11.arrives may_not_0
