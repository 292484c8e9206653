-- A nested stack gets the length of a file of the stack around it as its parameter.
use Rattle.std.proofs.Common.{◌≡◌, refl, List, [], ◌∷◌, ◌++◌, Some, false, inl, ap, lit≤, ℕ, None, true}
use Rattle.std.specs.Prelude.{codes, take, drop}
use Rattle.cf_tree.specs.declared.request.Request.TheVariants as request
use Rattle.cf_effect.specs.declared.call.Call.{Call}
use Rattle.cf_effect.specs.declared.call.Settled.TheVariants as settled
use Rattle.cf_effect.specs.declared.held.Held.{Held}
use Rattle.cf_effect.specs.World.{World, StackState, empty_world, no_stack}
use Rattle.cf_effect.specs.Begin.{source_for}
use Rattle.cf_effect.specs.Status.{Forward}
use Rattle.cf_plan.specs.Forward.{HasFailed, IsReady, AllDone, IsDone, is_made}
use Rattle.cf_tree.specs.Lists.{there}
use Rattle.cf_tree.specs.Lists.{here}
use Rattle.cf_plan.specs.Follow.{MayFollow}
use Rattle.cf_examples.specs.Given.{schemas, file, note, file_props, note_props, file_attrs, note_attrs, lane_pair, report_of}
use Rattle.cf_examples.proofs.Computing.{computing}
use Rattle.cf_examples.proofs.Lists.{in_none, only, either}
use Rattle.cf_examples.proofs.Failing.{not_failed, not_done_new}
use Rattle.cf_examples.proofs.Ending.{end_of_create}
use Rattle.cf_tree.specs.declared.template.Deletion.TheVariants as deletion
use Rattle.cf_tree.specs.declared.template.Replace.TheVariants as replace
use Rattle.cf_entry.specs.declared.entry.Entry.TheVariants as entry
use Rattle.cf_entry.specs.declared.entry.Begun.TheVariants as begin
use Rattle.cf_entry.specs.declared.status.Status.TheVariants as status
use Rattle.cf_effect.specs.declared.held.HeldStatus.TheVariants as held
use Rattle.cf_examples.proofs.Refusing.{refused_at, IsRun, ended, step, joined}
use Rattle.cf_examples.proofs.Beginning.{no_imports}
use Rattle.cf_examples.specs.Nested.{FirstNamedIsTold, FlawIsTold, ConditionalIsRefused, conditional, first, opened, begun, intended_file, made_file, intended_record, made_record, created, Legal, Shows, TooDeepIsTold, run}

abbrev world_0 : World
world_0 = empty_world

may_opened : MayFollow schemas world_0 [] opened
unfolding computing
may_opened = (refl, refl, λ name s e. absurd (cc))

abbrev world_1 : World
world_1 = record world_0 { lanes = (lane_pair (codes "f1") file ∷ lane_pair (codes "r1") note ∷ []); epoch = 1; place = 1 }

may_begun : MayFollow schemas world_1 [] begun
unfolding computing
may_begun = (refl, refl, record { no_flaw = refl; known_types = refl; same_types = refl; imports = no_imports _ _ _ _ refl refl; free = refl; not_in_use = refl; changing = inl refl })

abbrev stack_2_top : StackState
stack_2_top = record no_stack { status = status.CreateInProgress; number = 1; operation = 1; going = Some (source_for (codes "top") 1 first); events = ((codes "event 2 - CREATE_IN_PROGRESS") ∷ []); entries = (begun ∷ []) }

abbrev world_2 : World
world_2 = record world_1 { stacks = (((codes "top"), stack_2_top) ∷ []); operation = 1; place = 2 }

sound_2 : ¬ HasFailed schemas (codes "top") world_2 stack_2_top
unfolding computing
sound_2 = not_failed schemas (codes "top") world_2 stack_2_top (record { calls = refl; paths = refl; inner = refl; flaws = refl; exports = refl })

ready_2_Src : IsReady stack_2_top (codes "Src")
unfolding computing
ready_2_Src = (here, λ q i. absurd (in_none i))

may_intended_file : MayFollow schemas world_2 [] intended_file
unfolding computing
may_intended_file = ((codes "top"), stack_2_top, Forward, refl, refl, record { next = refl; free = refl; home = refl; fits = refl; no_repeat = refl; chosen = (sound_2, ready_2_Src, not_done_new (codes "Src") stack_2_top refl refl refl, (refl, tt)) })

abbrev pub call_1 : Call
call_1 = record { number = 1; token = 1; lane = (codes "f1"); path = (codes "Src"); request = (request.Create file (file_props (codes "s") (codes "12"))); status = status.CreateInProgress; fresh = true; doubts = 0; answer = None }

abbrev stack_3_top : StackState
stack_3_top = record stack_2_top { tokens = (record { token = 1; path = (codes "Src"); lane = (codes "f1"); request = (request.Create file (file_props (codes "s") (codes "12"))) } ∷ []); events = stack_2_top.events ++ (codes "event 3 Src CREATE_IN_PROGRESS") ∷ []; entries = stack_2_top.entries ++ intended_file ∷ []; ledger = (call_1 ∷ []) }

abbrev world_3 : World
world_3 = record world_2 { stacks = (((codes "top"), stack_3_top) ∷ []); token = 1; place = 3 }

may_made_file : MayFollow schemas world_3 (1 ∷ []) made_file
unfolding computing
may_made_file = ((codes "top"), stack_3_top, Forward, refl, refl, (refl, refl, lit≤ tt))

abbrev src_1 : Held
src_1 = record { path = (codes "Src"); kind = file; physical = (codes "f1:1"); props = (file_props (codes "s") (codes "12")); attrs = (file_attrs (codes "f1:1") 2 (codes "s") (codes "12")); needs = []; deletion = deletion.Delete; replace = replace.Delete; status = held.CreateComplete; unsure = false; superseded = false }

abbrev stack_4_top : StackState
stack_4_top = record stack_3_top { made = (src_1 ∷ []); tokens = []; events = stack_3_top.events ++ (codes "event 4 Src CREATE_COMPLETE") ∷ []; entries = stack_3_top.entries ++ made_file ∷ []; ledger = (record call_1 { answer = Some settled.Success } ∷ []) }

abbrev world_4 : World
world_4 = record world_3 { stacks = (((codes "top"), stack_4_top) ∷ []); place = 4 }

sound_4 : ¬ HasFailed schemas (codes "top") world_4 stack_4_top
unfolding computing
sound_4 = not_failed schemas (codes "top") world_4 stack_4_top (record { calls = refl; paths = refl; inner = refl; flaws = refl; exports = refl })

ready_4_Child_Rec : IsReady stack_4_top (codes "Child/Rec")
unfolding computing
ready_4_Child_Rec = (there here, λ q i. only (IsDone stack_4_top) (is_made _ refl) q i)

may_intended_record : MayFollow schemas world_4 [] intended_record
unfolding computing
may_intended_record = ((codes "top"), stack_4_top, Forward, refl, refl, record { next = refl; free = refl; home = refl; fits = refl; no_repeat = refl; chosen = (sound_4, ready_4_Child_Rec, not_done_new (codes "Child/Rec") stack_4_top refl refl refl, (refl, tt)) })

abbrev pub call_2 : Call
call_2 = record { number = 1; token = 2; lane = (codes "r1"); path = (codes "Child/Rec"); request = (request.Create note (note_props (codes "k") (codes "2"))); status = status.CreateInProgress; fresh = true; doubts = 0; answer = None }

abbrev stack_5_top : StackState
stack_5_top = record stack_4_top { tokens = (record { token = 2; path = (codes "Child/Rec"); lane = (codes "r1"); request = (request.Create note (note_props (codes "k") (codes "2"))) } ∷ []); events = stack_4_top.events ++ (codes "event 5 Child/Rec CREATE_IN_PROGRESS") ∷ []; entries = stack_4_top.entries ++ intended_record ∷ []; ledger = (record call_1 { answer = Some settled.Success } ∷ call_2 ∷ []) }

abbrev world_5 : World
world_5 = record world_4 { stacks = (((codes "top"), stack_5_top) ∷ []); token = 2; place = 5 }

may_made_record : MayFollow schemas world_5 (2 ∷ []) made_record
unfolding computing
may_made_record = ((codes "top"), stack_5_top, Forward, refl, refl, (refl, refl, lit≤ tt))

abbrev child_rec_1 : Held
child_rec_1 = record { path = (codes "Child/Rec"); kind = note; physical = (codes "r1:2"); props = (note_props (codes "k") (codes "2")); attrs = (note_attrs (codes "r1:2") 1 (codes "k") (codes "2")); needs = ((codes "Src") ∷ []); deletion = deletion.Delete; replace = replace.Delete; status = held.CreateComplete; unsure = false; superseded = false }

abbrev stack_6_top : StackState
stack_6_top = record stack_5_top { made = (src_1 ∷ child_rec_1 ∷ []); tokens = []; events = stack_5_top.events ++ (codes "event 6 Child/Rec CREATE_COMPLETE") ∷ []; entries = stack_5_top.entries ++ made_record ∷ []; ledger = (record call_1 { answer = Some settled.Success } ∷ record call_2 { answer = Some settled.Success } ∷ []) }

abbrev world_6 : World
world_6 = record world_5 { stacks = (((codes "top"), stack_6_top) ∷ []); place = 6 }

all_done_6 : AllDone stack_6_top
unfolding computing
all_done_6 = λ p i. either (IsDone stack_6_top) (is_made _ refl) (is_made _ refl) p i

sound_6 : ¬ HasFailed schemas (codes "top") world_6 stack_6_top
unfolding computing
sound_6 = not_failed schemas (codes "top") world_6 stack_6_top (record { calls = refl; paths = refl; inner = refl; flaws = refl; exports = refl })

may_created : MayFollow schemas world_6 [] created
unfolding computing
may_created = ((codes "top"), stack_6_top, Forward, refl, refl, (refl, end_of_create schemas (codes "top") world_6 stack_6_top refl all_done_6 sound_6 refl, (sound_6, all_done_6), refl))

abbrev stack_7_top : StackState
stack_7_top = record stack_6_top { status = status.CreateComplete; held = (src_1 ∷ child_rec_1 ∷ []); made = []; source = Some (source_for (codes "top") 1 first); events = stack_6_top.events ++ (codes "event 7 - CREATE_COMPLETE") ∷ []; entries = stack_6_top.entries ++ created ∷ [] }

abbrev world_7 : World
world_7 = record world_6 { stacks = (((codes "top"), stack_7_top) ∷ []); place = 7 }

pub until_1 : IsRun empty_world (take 1 run) world_1
unfolding computing
until_1 =
    step world_1 [] may_opened refl ended

pub until_7 : IsRun empty_world run world_7
unfolding computing
until_7 =
    joined (drop 1 run) until_1
    (step world_2 [] may_begun refl
    (step world_3 [] may_intended_file refl
    (step world_4 (1 ∷ []) may_made_file refl
    (step world_5 [] may_intended_record refl
    (step world_6 (2 ∷ []) may_made_record refl
    (step world_7 [] may_created refl ended))))))

pub legal : Legal
legal = until_7.legal

pub report_0 : Shows
report_0 = ap (report_of (codes "top")) until_7.arrives

pub first_named : FirstNamedIsTold
unfolding computing
first_named = refl

pub flaw_is_told : FlawIsTold
unfolding computing
flaw_is_told = refl

may_not_0 : (out : List ℕ) → MayFollow schemas world_1 out (entry.Begin 1 (codes "top") (begin.Create conditional)) → ⊥
unfolding computing
may_not_0 = λ out may. not_nothing may.2.no_flaw
  where
    not_nothing : {A : Type 0} {a : A} {rest : List A} → a ∷ rest ≡ [] → ⊥
    not_nothing e = cc

pub refused_0 : ConditionalIsRefused
refused_0 = refused_at world_1 (take 1 run) (entry.Begin 1 (codes "top") (begin.Create conditional)) until_1.arrives may_not_0

pub too_deep_is_told : TooDeepIsTold
unfolding computing
too_deep_is_told = refl
