-- A site, a stack that imports its value, and their deletion.
use Rattle.std.proofs.Common.{◌≡◌, refl, List, [], ◌∷◌, ◌++◌, Some, None, false, ℕ, inl, ap, lit≤, true≢false, true}
use Rattle.std.specs.Prelude.{codes, length, take, drop}
use Rattle.std.specs.Str.{bytes_eq}
use Rattle.cf_tree.specs.declared.request.Request.TheVariants as request
use Rattle.cf_tree.specs.declared.template.Deletion.TheVariants as deletion
use Rattle.cf_tree.specs.declared.template.Replace.TheVariants as replace
use Rattle.cf_entry.specs.declared.entry.Entry.TheVariants as entry
use Rattle.cf_entry.specs.declared.entry.Begun.TheVariants as begin
use Rattle.cf_entry.specs.declared.status.Status.TheVariants as status
use Rattle.cf_entry.specs.declared.turn.Why.TheVariants as why
use Rattle.cf_desired.specs.declared.wanted.Plan.{Plan}
use Rattle.cf_effect.specs.declared.call.Call.{Call}
use Rattle.cf_effect.specs.declared.call.Settled.TheVariants as settled
use Rattle.cf_effect.specs.declared.held.Held.{Held}
use Rattle.cf_effect.specs.declared.held.HeldStatus.TheVariants as held
use Rattle.cf_effect.specs.World.{World, StackState, empty_world, no_stack}
use Rattle.cf_effect.specs.Begin.{source_for}
use Rattle.cf_effect.specs.Status.{Forward, Gone}
use Rattle.cf_plan.specs.Between.{is_needed_by_held}
use Rattle.cf_plan.specs.Forward.{HasFailed, IsReady, AllDone, IsDone, is_made}
use Rattle.cf_tree.specs.Lists.{there}
use Rattle.cf_tree.specs.Lists.{here}
use Rattle.cf_plan.specs.Follow.{MayFollow, keeps}
use Rattle.cf_examples.specs.Given.{schemas, file, note, file_props, note_props, file_attrs, note_attrs, lane_pair, report_of}
use Rattle.cf_examples.proofs.Computing.{computing}
use Rattle.cf_examples.proofs.Lists.{in_none, only, either, none, more}
use Rattle.cf_examples.proofs.Failing.{not_failed, not_done_new}
use Rattle.cf_examples.proofs.Ending.{end_of_create, end_of_deletion}
use Rattle.cf_examples.proofs.Refusing.{follows_on, refused_at, IsRun, ended, step, joined}
use Rattle.cf_examples.proofs.Beginning.{no_imports, one_import}
use Rattle.cf_examples.specs.Site.{real, importing, opened, begun, intended_audit, made_audit, intended_conf, made_conf, intended_home, made_home, intended_main, made_main, intended_size, made_size, created, begun_user, intended_use, made_use, created_user, deleting_user, intended_use_gone, use_gone, user_gone, deleting_site, kept_audit, intended_main_gone, main_gone, intended_size_gone, size_gone, intended_home_gone, home_gone, intended_conf_gone, conf_gone, site_gone, until_used, until_going, Legal, ShowsSite, ShowsUser, ShowsSiteGone, ShowsUserGone, DeletedWhileUsed, NeededDeletedFirst, RetainedDeleted, run}

abbrev world_0 : World
world_0 = empty_world

may_opened : MayFollow schemas world_0 [] opened
unfolding computing
may_opened = (refl, refl, λ name s e. absurd (cc))

abbrev world_1 : World
world_1 = record world_0 { stacks = ([]); lanes = (lane_pair (codes "f1") file ∷ lane_pair (codes "r1") note ∷ []); epoch = 1; place = 1 }

may_begun : MayFollow schemas world_1 [] begun
unfolding computing
may_begun = (refl, refl, record { no_flaw = refl; known_types = refl; same_types = refl; imports = no_imports (codes "site") world_1 (source_for (codes "site") 1 real) _ refl refl; free = refl; not_in_use = refl; changing = inl refl })

abbrev stack_2_site : StackState
stack_2_site = record no_stack { status = status.CreateInProgress; number = 1; operation = 1; going = Some (source_for (codes "site") 1 real); entries = (begun ∷ []); events = ((codes "event 2 - CREATE_IN_PROGRESS") ∷ []) }

abbrev world_2 : World
world_2 = record world_1 { stacks = (((codes "site"), stack_2_site) ∷ []); claims = (record { stack = (codes "site"); name = (codes "site-total") } ∷ []); operation = 1; place = 2 }

sound_2 : ¬ HasFailed schemas (codes "site") world_2 stack_2_site
unfolding computing
sound_2 = not_failed schemas (codes "site") world_2 stack_2_site (record { calls = refl; paths = refl; inner = refl; flaws = refl; exports = refl })

ready_2_Audit : IsReady stack_2_site (codes "Audit")
unfolding computing
ready_2_Audit = (here, λ q i. absurd (in_none i))

may_intended_audit : MayFollow schemas world_2 [] intended_audit
unfolding computing
may_intended_audit = ((codes "site"), stack_2_site, Forward, refl, refl, record { next = refl; free = refl; home = refl; fits = refl; no_repeat = refl; chosen = (sound_2, ready_2_Audit, not_done_new (codes "Audit") stack_2_site refl refl refl, (refl, tt)) })

abbrev pub call_1 : Call
call_1 = record { number = 1; token = 1; lane = (codes "f1"); path = (codes "Audit"); request = (request.Create file (file_props (codes "audit.txt") (codes "on"))); status = status.CreateInProgress; fresh = true; doubts = 0; answer = None }

abbrev stack_3_site : StackState
stack_3_site = record stack_2_site { tokens = (record { token = 1; path = (codes "Audit"); lane = (codes "f1"); request = (request.Create file (file_props (codes "audit.txt") (codes "on"))) } ∷ []); events = stack_2_site.events ++ (codes "event 3 Audit CREATE_IN_PROGRESS") ∷ []; entries = stack_2_site.entries ++ intended_audit ∷ []; ledger = (call_1 ∷ []) }

abbrev world_3 : World
world_3 = record world_2 { stacks = (((codes "site"), stack_3_site) ∷ []); token = 1; place = 3 }

abbrev pub audit_1 : Held
audit_1 = record { path = (codes "Audit"); kind = file; physical = (codes "f1:1"); props = (file_props (codes "audit.txt") (codes "on")); attrs = (file_attrs (codes "f1:1") 2 (codes "audit.txt") (codes "on")); needs = []; deletion = deletion.Retain; replace = replace.Delete; status = held.CreateComplete; unsure = false; superseded = false }

may_made_audit : MayFollow schemas world_3 (1 ∷ []) made_audit
unfolding computing
may_made_audit = ((codes "site"), stack_3_site, Forward, refl, refl, (refl, refl, lit≤ tt))

abbrev stack_4_site : StackState
stack_4_site = record stack_3_site { made = (audit_1 ∷ []); tokens = []; events = stack_3_site.events ++ (codes "event 4 Audit CREATE_COMPLETE") ∷ []; entries = stack_3_site.entries ++ made_audit ∷ []; ledger = (record call_1 { answer = Some settled.Success } ∷ []) }

abbrev world_4 : World
world_4 = record world_3 { stacks = (((codes "site"), stack_4_site) ∷ []); place = 4 }

sound_4 : ¬ HasFailed schemas (codes "site") world_4 stack_4_site
unfolding computing
sound_4 = not_failed schemas (codes "site") world_4 stack_4_site (record { calls = refl; paths = refl; inner = refl; flaws = refl; exports = refl })

ready_4_Conf : IsReady stack_4_site (codes "Conf")
unfolding computing
ready_4_Conf = (there (here), λ q i. absurd (in_none i))

may_intended_conf : MayFollow schemas world_4 [] intended_conf
unfolding computing
may_intended_conf = ((codes "site"), stack_4_site, Forward, refl, refl, record { next = refl; free = refl; home = refl; fits = refl; no_repeat = refl; chosen = (sound_4, ready_4_Conf, not_done_new (codes "Conf") stack_4_site refl refl refl, (refl, tt)) })

abbrev pub call_2 : Call
call_2 = record { number = 1; token = 2; lane = (codes "f1"); path = (codes "Conf"); request = (request.Create file (file_props (codes "site.conf") (codes "stage=prod\ndepth=8"))); status = status.CreateInProgress; fresh = true; doubts = 0; answer = None }

abbrev stack_5_site : StackState
stack_5_site = record stack_4_site { tokens = (record { token = 2; path = (codes "Conf"); lane = (codes "f1"); request = (request.Create file (file_props (codes "site.conf") (codes "stage=prod\ndepth=8"))) } ∷ []); events = stack_4_site.events ++ (codes "event 5 Conf CREATE_IN_PROGRESS") ∷ []; entries = stack_4_site.entries ++ intended_conf ∷ []; ledger = (record call_1 { answer = Some settled.Success } ∷ call_2 ∷ []) }

abbrev world_5 : World
world_5 = record world_4 { stacks = (((codes "site"), stack_5_site) ∷ []); token = 2; place = 5 }

abbrev pub conf_1 : Held
conf_1 = record { path = (codes "Conf"); kind = file; physical = (codes "f1:2"); props = (file_props (codes "site.conf") (codes "stage=prod\ndepth=8")); attrs = (file_attrs (codes "f1:2") 18 (codes "site.conf") (codes "stage=prod\ndepth=8")); needs = []; deletion = deletion.Delete; replace = replace.Delete; status = held.CreateComplete; unsure = false; superseded = false }

may_made_conf : MayFollow schemas world_5 (2 ∷ []) made_conf
unfolding computing
may_made_conf = ((codes "site"), stack_5_site, Forward, refl, refl, (refl, refl, lit≤ tt))

abbrev stack_6_site : StackState
stack_6_site = record stack_5_site { made = (audit_1 ∷ conf_1 ∷ []); tokens = []; events = stack_5_site.events ++ (codes "event 6 Conf CREATE_COMPLETE") ∷ []; entries = stack_5_site.entries ++ made_conf ∷ []; ledger = (record call_1 { answer = Some settled.Success } ∷ record call_2 { answer = Some settled.Success } ∷ []) }

abbrev world_6 : World
world_6 = record world_5 { stacks = (((codes "site"), stack_6_site) ∷ []); place = 6 }

sound_6 : ¬ HasFailed schemas (codes "site") world_6 stack_6_site
unfolding computing
sound_6 = not_failed schemas (codes "site") world_6 stack_6_site (record { calls = refl; paths = refl; inner = refl; flaws = refl; exports = refl })

ready_6_Home : IsReady stack_6_site (codes "Home")
unfolding computing
ready_6_Home = (there (there (here)), λ q i. only (IsDone stack_6_site) (is_made _ refl) q i)

may_intended_home : MayFollow schemas world_6 [] intended_home
unfolding computing
may_intended_home = ((codes "site"), stack_6_site, Forward, refl, refl, record { next = refl; free = refl; home = refl; fits = refl; no_repeat = refl; chosen = (sound_6, ready_6_Home, not_done_new (codes "Home") stack_6_site refl refl refl, (refl, tt)) })

abbrev pub call_3 : Call
call_3 = record { number = 1; token = 3; lane = (codes "f1"); path = (codes "Home"); request = (request.Create file (file_props (codes "home.txt") (codes "beta"))); status = status.CreateInProgress; fresh = true; doubts = 0; answer = None }

abbrev stack_7_site : StackState
stack_7_site = record stack_6_site { tokens = (record { token = 3; path = (codes "Home"); lane = (codes "f1"); request = (request.Create file (file_props (codes "home.txt") (codes "beta"))) } ∷ []); events = stack_6_site.events ++ (codes "event 7 Home CREATE_IN_PROGRESS") ∷ []; entries = stack_6_site.entries ++ intended_home ∷ []; ledger = (record call_1 { answer = Some settled.Success } ∷ record call_2 { answer = Some settled.Success } ∷ call_3 ∷ []) }

abbrev world_7 : World
world_7 = record world_6 { stacks = (((codes "site"), stack_7_site) ∷ []); token = 3; place = 7 }

abbrev pub home_1 : Held
home_1 = record { path = (codes "Home"); kind = file; physical = (codes "f1:3"); props = (file_props (codes "home.txt") (codes "beta")); attrs = (file_attrs (codes "f1:3") 4 (codes "home.txt") (codes "beta")); needs = ((codes "Conf") ∷ []); deletion = deletion.Delete; replace = replace.Delete; status = held.CreateComplete; unsure = false; superseded = false }

may_made_home : MayFollow schemas world_7 (3 ∷ []) made_home
unfolding computing
may_made_home = ((codes "site"), stack_7_site, Forward, refl, refl, (refl, refl, lit≤ tt))

abbrev stack_8_site : StackState
stack_8_site = record stack_7_site { made = (audit_1 ∷ conf_1 ∷ home_1 ∷ []); tokens = []; events = stack_7_site.events ++ (codes "event 8 Home CREATE_COMPLETE") ∷ []; entries = stack_7_site.entries ++ made_home ∷ []; ledger = (record call_1 { answer = Some settled.Success } ∷ record call_2 { answer = Some settled.Success } ∷ record call_3 { answer = Some settled.Success } ∷ []) }

abbrev world_8 : World
world_8 = record world_7 { stacks = (((codes "site"), stack_8_site) ∷ []); place = 8 }

sound_8 : ¬ HasFailed schemas (codes "site") world_8 stack_8_site
unfolding computing
sound_8 = not_failed schemas (codes "site") world_8 stack_8_site (record { calls = refl; paths = refl; inner = refl; flaws = refl; exports = refl })

ready_8_Main : IsReady stack_8_site (codes "Main")
unfolding computing
ready_8_Main = (there (there (there (here))), λ q i. only (IsDone stack_8_site) (is_made _ refl) q i)

may_intended_main : MayFollow schemas world_8 [] intended_main
unfolding computing
may_intended_main = ((codes "site"), stack_8_site, Forward, refl, refl, record { next = refl; free = refl; home = refl; fits = refl; no_repeat = refl; chosen = (sound_8, ready_8_Main, not_done_new (codes "Main") stack_8_site refl refl refl, (refl, tt)) })

abbrev pub call_4 : Call
call_4 = record { number = 1; token = 4; lane = (codes "r1"); path = (codes "Main"); request = (request.Create note (note_props (codes "main") (codes "f1:2"))); status = status.CreateInProgress; fresh = true; doubts = 0; answer = None }

abbrev stack_9_site : StackState
stack_9_site = record stack_8_site { tokens = (record { token = 4; path = (codes "Main"); lane = (codes "r1"); request = (request.Create note (note_props (codes "main") (codes "f1:2"))) } ∷ []); events = stack_8_site.events ++ (codes "event 9 Main CREATE_IN_PROGRESS") ∷ []; entries = stack_8_site.entries ++ intended_main ∷ []; ledger = (record call_1 { answer = Some settled.Success } ∷ record call_2 { answer = Some settled.Success } ∷ record call_3 { answer = Some settled.Success } ∷ call_4 ∷ []) }

abbrev world_9 : World
world_9 = record world_8 { stacks = (((codes "site"), stack_9_site) ∷ []); token = 4; place = 9 }

abbrev pub main_1 : Held
main_1 = record { path = (codes "Main"); kind = note; physical = (codes "r1:4"); props = (note_props (codes "main") (codes "f1:2")); attrs = (note_attrs (codes "r1:4") 4 (codes "main") (codes "f1:2")); needs = ((codes "Conf") ∷ []); deletion = deletion.Delete; replace = replace.Delete; status = held.CreateComplete; unsure = false; superseded = false }

may_made_main : MayFollow schemas world_9 (4 ∷ []) made_main
unfolding computing
may_made_main = ((codes "site"), stack_9_site, Forward, refl, refl, (refl, refl, lit≤ tt))

abbrev stack_10_site : StackState
stack_10_site = record stack_9_site { made = (audit_1 ∷ conf_1 ∷ home_1 ∷ main_1 ∷ []); tokens = []; events = stack_9_site.events ++ (codes "event 10 Main CREATE_COMPLETE") ∷ []; entries = stack_9_site.entries ++ made_main ∷ []; ledger = (record call_1 { answer = Some settled.Success } ∷ record call_2 { answer = Some settled.Success } ∷ record call_3 { answer = Some settled.Success } ∷ record call_4 { answer = Some settled.Success } ∷ []) }

abbrev world_10 : World
world_10 = record world_9 { stacks = (((codes "site"), stack_10_site) ∷ []); place = 10 }

sound_10 : ¬ HasFailed schemas (codes "site") world_10 stack_10_site
unfolding computing
sound_10 = not_failed schemas (codes "site") world_10 stack_10_site (record { calls = refl; paths = refl; inner = refl; flaws = refl; exports = refl })

ready_10_Size : IsReady stack_10_site (codes "Size")
unfolding computing
ready_10_Size = (there (there (there (there (here)))), λ q i. either (IsDone stack_10_site) (is_made _ refl) (is_made _ refl) q i)

may_intended_size : MayFollow schemas world_10 [] intended_size
unfolding computing
may_intended_size = ((codes "site"), stack_10_site, Forward, refl, refl, record { next = refl; free = refl; home = refl; fits = refl; no_repeat = refl; chosen = (sound_10, ready_10_Size, not_done_new (codes "Size") stack_10_site refl refl refl, (refl, tt)) })

abbrev pub call_5 : Call
call_5 = record { number = 1; token = 5; lane = (codes "r1"); path = (codes "Size"); request = (request.Create note (note_props (codes "size") (codes "18/4"))); status = status.CreateInProgress; fresh = true; doubts = 0; answer = None }

abbrev stack_11_site : StackState
stack_11_site = record stack_10_site { tokens = (record { token = 5; path = (codes "Size"); lane = (codes "r1"); request = (request.Create note (note_props (codes "size") (codes "18/4"))) } ∷ []); events = stack_10_site.events ++ (codes "event 11 Size CREATE_IN_PROGRESS") ∷ []; entries = stack_10_site.entries ++ intended_size ∷ []; ledger = (record call_1 { answer = Some settled.Success } ∷ record call_2 { answer = Some settled.Success } ∷ record call_3 { answer = Some settled.Success } ∷ record call_4 { answer = Some settled.Success } ∷ call_5 ∷ []) }

abbrev world_11 : World
world_11 = record world_10 { stacks = (((codes "site"), stack_11_site) ∷ []); token = 5; place = 11 }

abbrev pub size_1 : Held
size_1 = record { path = (codes "Size"); kind = note; physical = (codes "r1:5"); props = (note_props (codes "size") (codes "18/4")); attrs = (note_attrs (codes "r1:5") 4 (codes "size") (codes "18/4")); needs = ((codes "Conf") ∷ (codes "Home") ∷ []); deletion = deletion.Delete; replace = replace.Delete; status = held.CreateComplete; unsure = false; superseded = false }

may_made_size : MayFollow schemas world_11 (5 ∷ []) made_size
unfolding computing
may_made_size = ((codes "site"), stack_11_site, Forward, refl, refl, (refl, refl, lit≤ tt))

abbrev stack_12_site : StackState
stack_12_site = record stack_11_site { made = (audit_1 ∷ conf_1 ∷ home_1 ∷ main_1 ∷ size_1 ∷ []); tokens = []; events = stack_11_site.events ++ (codes "event 12 Size CREATE_COMPLETE") ∷ []; entries = stack_11_site.entries ++ made_size ∷ []; ledger = (record call_1 { answer = Some settled.Success } ∷ record call_2 { answer = Some settled.Success } ∷ record call_3 { answer = Some settled.Success } ∷ record call_4 { answer = Some settled.Success } ∷ record call_5 { answer = Some settled.Success } ∷ []) }

abbrev world_12 : World
world_12 = record world_11 { stacks = (((codes "site"), stack_12_site) ∷ []); place = 12 }

sound_12 : ¬ HasFailed schemas (codes "site") world_12 stack_12_site
unfolding computing
sound_12 = not_failed schemas (codes "site") world_12 stack_12_site (record { calls = refl; paths = refl; inner = refl; flaws = refl; exports = refl })

all_done_12 : AllDone stack_12_site
unfolding computing
all_done_12 = λ p i. (more (IsDone stack_12_site) (is_made _ refl) (more (IsDone stack_12_site) (is_made _ refl) (more (IsDone stack_12_site) (is_made _ refl) (more (IsDone stack_12_site) (is_made _ refl) (more (IsDone stack_12_site) (is_made _ refl) (none (IsDone stack_12_site))))))) p i

may_created : MayFollow schemas world_12 [] created
unfolding computing
may_created = ((codes "site"), stack_12_site, Forward, refl, refl, (refl, end_of_create schemas (codes "site") world_12 stack_12_site refl all_done_12 sound_12 refl, (sound_12, all_done_12), refl))

abbrev pub stack_13_site : StackState
stack_13_site = record stack_12_site { status = status.CreateComplete; held = (audit_1 ∷ conf_1 ∷ home_1 ∷ main_1 ∷ size_1 ∷ []); made = []; source = Some (source_for (codes "site") 1 real); outputs = (record { name = (codes "Total"); value = (codes "18/4"); export = Some (codes "site-total") } ∷ []); events = stack_12_site.events ++ (codes "event 13 - CREATE_COMPLETE") ∷ []; entries = stack_12_site.entries ++ created ∷ [] }

abbrev world_13 : World
world_13 = record world_12 { stacks = (((codes "site"), stack_13_site) ∷ []); exports = (record { name = (codes "site-total"); value = (codes "18/4"); stack = (codes "site") } ∷ []); claims = []; place = 13 }

may_begun_user : MayFollow schemas world_13 [] begun_user
unfolding computing
may_begun_user = (refl, refl, record { no_flaw = refl; known_types = refl; same_types = refl; imports = one_import _ _ _ _ (codes "site-total") (codes "18/4") refl refl refl (λ e. let z : 1 ≡ 0 = ap (λ (p : Plan). length p.flaws) e in cc); free = refl; not_in_use = refl; changing = inl refl })

abbrev stack_14_user : StackState
stack_14_user = record no_stack { status = status.CreateInProgress; number = 2; operation = 2; going = Some (source_for (codes "user") 2 importing); entries = (begun_user ∷ []); events = ((codes "event 14 - CREATE_IN_PROGRESS") ∷ []) }

abbrev world_14 : World
world_14 = record world_13 { stacks = (((codes "site"), stack_13_site) ∷ ((codes "user"), stack_14_user) ∷ []); pins = (record { stack = (codes "user"); name = (codes "site-total") } ∷ []); operation = 2; place = 14 }

sound_14 : ¬ HasFailed schemas (codes "user") world_14 stack_14_user
unfolding computing
sound_14 = not_failed schemas (codes "user") world_14 stack_14_user (record { calls = refl; paths = refl; inner = refl; flaws = refl; exports = refl })

ready_14_Use : IsReady stack_14_user (codes "Use")
unfolding computing
ready_14_Use = (here, λ q i. absurd (in_none i))

may_intended_use : MayFollow schemas world_14 [] intended_use
unfolding computing
may_intended_use = ((codes "user"), stack_14_user, Forward, refl, refl, record { next = refl; free = refl; home = refl; fits = refl; no_repeat = refl; chosen = (sound_14, ready_14_Use, not_done_new (codes "Use") stack_14_user refl refl refl, (refl, tt)) })

abbrev pub call_6 : Call
call_6 = record { number = 2; token = 6; lane = (codes "r1"); path = (codes "Use"); request = (request.Create note (note_props (codes "u") (codes "18/4"))); status = status.CreateInProgress; fresh = true; doubts = 0; answer = None }

abbrev stack_15_user : StackState
stack_15_user = record stack_14_user { tokens = (record { token = 6; path = (codes "Use"); lane = (codes "r1"); request = (request.Create note (note_props (codes "u") (codes "18/4"))) } ∷ []); events = stack_14_user.events ++ (codes "event 15 Use CREATE_IN_PROGRESS") ∷ []; entries = stack_14_user.entries ++ intended_use ∷ []; ledger = (call_6 ∷ []) }

abbrev world_15 : World
world_15 = record world_14 { stacks = (((codes "site"), stack_13_site) ∷ ((codes "user"), stack_15_user) ∷ []); token = 6; place = 15 }

abbrev use_1 : Held
use_1 = record { path = (codes "Use"); kind = note; physical = (codes "r1:6"); props = (note_props (codes "u") (codes "18/4")); attrs = (note_attrs (codes "r1:6") 4 (codes "u") (codes "18/4")); needs = []; deletion = deletion.Delete; replace = replace.Delete; status = held.CreateComplete; unsure = false; superseded = false }

may_made_use : MayFollow schemas world_15 (6 ∷ []) made_use
unfolding computing
may_made_use = ((codes "user"), stack_15_user, Forward, refl, refl, (refl, refl, lit≤ tt))

abbrev stack_16_user : StackState
stack_16_user = record stack_15_user { made = (use_1 ∷ []); tokens = []; events = stack_15_user.events ++ (codes "event 16 Use CREATE_COMPLETE") ∷ []; entries = stack_15_user.entries ++ made_use ∷ []; ledger = (record call_6 { answer = Some settled.Success } ∷ []) }

abbrev world_16 : World
world_16 = record world_15 { stacks = (((codes "site"), stack_13_site) ∷ ((codes "user"), stack_16_user) ∷ []); place = 16 }

sound_16 : ¬ HasFailed schemas (codes "user") world_16 stack_16_user
unfolding computing
sound_16 = not_failed schemas (codes "user") world_16 stack_16_user (record { calls = refl; paths = refl; inner = refl; flaws = refl; exports = refl })

all_done_16 : AllDone stack_16_user
unfolding computing
all_done_16 = λ p i. only (IsDone stack_16_user) (is_made _ refl) p i

may_created_user : MayFollow schemas world_16 [] created_user
unfolding computing
may_created_user = ((codes "user"), stack_16_user, Forward, refl, refl, (refl, end_of_create schemas (codes "user") world_16 stack_16_user refl all_done_16 sound_16 refl, (sound_16, all_done_16), refl))

abbrev pub stack_17_user : StackState
stack_17_user = record stack_16_user { status = status.CreateComplete; held = (use_1 ∷ []); made = []; source = Some (source_for (codes "user") 2 importing); events = stack_16_user.events ++ (codes "event 17 - CREATE_COMPLETE") ∷ []; entries = stack_16_user.entries ++ created_user ∷ [] }

abbrev pub world_17 : World
world_17 = record world_16 { stacks = (((codes "site"), stack_13_site) ∷ ((codes "user"), stack_17_user) ∷ []); place = 17 }

may_deleting_user : MayFollow schemas world_17 [] deleting_user
unfolding computing
may_deleting_user = (refl, refl, (refl, refl, refl))

abbrev stack_18_user : StackState
stack_18_user = record stack_17_user { status = status.DeleteInProgress; operation = 3; entries = (deleting_user ∷ []); events = stack_17_user.events ++ (codes "event 18 - DELETE_IN_PROGRESS") ∷ []; ledger = [] }

abbrev world_18 : World
world_18 = record world_17 { stacks = (((codes "site"), stack_13_site) ∷ ((codes "user"), stack_18_user) ∷ []); operation = 3; place = 18 }

may_intended_use_gone : MayFollow schemas world_18 [] intended_use_gone
unfolding computing
may_intended_use_gone = ((codes "user"), stack_18_user, Gone, refl, refl, record { next = refl; free = refl; home = refl; fits = ((codes "6", refl), refl); no_repeat = refl; chosen = (_, (here, refl, refl, refl), refl, refl, refl) })

abbrev pub call_7 : Call
call_7 = record { number = 3; token = 7; lane = (codes "r1"); path = (codes "Use"); request = (request.Delete (codes "r1:6")); status = status.DeleteInProgress; fresh = true; doubts = 0; answer = None }

abbrev stack_19_user : StackState
stack_19_user = record stack_18_user { tokens = (record { token = 7; path = (codes "Use"); lane = (codes "r1"); request = (request.Delete (codes "r1:6")) } ∷ []); events = stack_18_user.events ++ (codes "event 19 Use DELETE_IN_PROGRESS") ∷ []; entries = stack_18_user.entries ++ intended_use_gone ∷ []; ledger = (call_7 ∷ []) }

abbrev world_19 : World
world_19 = record world_18 { stacks = (((codes "site"), stack_13_site) ∷ ((codes "user"), stack_19_user) ∷ []); token = 7; place = 19 }

may_use_gone : MayFollow schemas world_19 (7 ∷ []) use_gone
unfolding computing
may_use_gone = ((codes "user"), stack_19_user, Gone, refl, refl, (refl, refl, lit≤ tt))

abbrev stack_20_user : StackState
stack_20_user = record stack_19_user { held = []; tokens = []; events = stack_19_user.events ++ (codes "event 20 Use DELETE_COMPLETE") ∷ []; entries = stack_19_user.entries ++ use_gone ∷ []; ledger = (record call_7 { answer = Some settled.Success } ∷ []) }

abbrev world_20 : World
world_20 = record world_19 { stacks = (((codes "site"), stack_13_site) ∷ ((codes "user"), stack_20_user) ∷ []); place = 20 }

may_user_gone : MayFollow schemas world_20 [] user_gone
unfolding computing
may_user_gone = ((codes "user"), stack_20_user, Gone, refl, refl, (refl, end_of_deletion schemas (codes "user") world_20 stack_20_user refl refl refl, refl, refl))

abbrev stack_21_user : StackState
stack_21_user = record stack_20_user { status = status.DeleteComplete; events = stack_20_user.events ++ (codes "event 21 - DELETE_COMPLETE") ∷ []; entries = stack_20_user.entries ++ user_gone ∷ [] }

abbrev world_21 : World
world_21 = record world_20 { stacks = (((codes "site"), stack_13_site) ∷ ((codes "user"), stack_21_user) ∷ []); pins = []; place = 21 }

may_deleting_site : MayFollow schemas world_21 [] deleting_site
unfolding computing
may_deleting_site = (refl, refl, (refl, refl, refl))

abbrev stack_22_site : StackState
stack_22_site = record stack_13_site { status = status.DeleteInProgress; operation = 4; entries = (deleting_site ∷ []); outputs = []; events = stack_13_site.events ++ (codes "event 22 - DELETE_IN_PROGRESS") ∷ []; ledger = [] }

abbrev world_22 : World
world_22 = record world_21 { stacks = (((codes "site"), stack_22_site) ∷ ((codes "user"), stack_21_user) ∷ []); operation = 4; exports = []; place = 22 }

may_kept_audit : MayFollow schemas world_22 [] kept_audit
unfolding computing
may_kept_audit = ((codes "site"), stack_22_site, Gone, refl, refl, inl (_, (here, refl, refl, refl), refl, refl, refl, refl, inl refl))

abbrev stack_23_site : StackState
stack_23_site = record stack_22_site { held = (conf_1 ∷ home_1 ∷ main_1 ∷ size_1 ∷ []); leftovers = (record { path = (codes "Audit"); physical = (codes "f1:1"); why = why.Retained } ∷ []); events = stack_22_site.events ++ (codes "event 23 Audit DELETE_SKIPPED") ∷ []; entries = stack_22_site.entries ++ kept_audit ∷ [] }

abbrev world_23 : World
world_23 = record world_22 { stacks = (((codes "site"), stack_23_site) ∷ ((codes "user"), stack_21_user) ∷ []); place = 23 }

may_intended_main_gone : MayFollow schemas world_23 [] intended_main_gone
unfolding computing
may_intended_main_gone = ((codes "site"), stack_23_site, Gone, refl, refl, record { next = refl; free = refl; home = refl; fits = ((codes "4", refl), refl); no_repeat = refl; chosen = (_, (there (there here), refl, refl, refl), refl, refl, refl) })

abbrev pub call_8 : Call
call_8 = record { number = 4; token = 8; lane = (codes "r1"); path = (codes "Main"); request = (request.Delete (codes "r1:4")); status = status.DeleteInProgress; fresh = true; doubts = 0; answer = None }

abbrev stack_24_site : StackState
stack_24_site = record stack_23_site { tokens = (record { token = 8; path = (codes "Main"); lane = (codes "r1"); request = (request.Delete (codes "r1:4")) } ∷ []); events = stack_23_site.events ++ (codes "event 24 Main DELETE_IN_PROGRESS") ∷ []; entries = stack_23_site.entries ++ intended_main_gone ∷ []; ledger = (call_8 ∷ []) }

abbrev world_24 : World
world_24 = record world_23 { stacks = (((codes "site"), stack_24_site) ∷ ((codes "user"), stack_21_user) ∷ []); token = 8; place = 24 }

may_main_gone : MayFollow schemas world_24 (8 ∷ []) main_gone
unfolding computing
may_main_gone = ((codes "site"), stack_24_site, Gone, refl, refl, (refl, refl, lit≤ tt))

abbrev stack_25_site : StackState
stack_25_site = record stack_24_site { held = (conf_1 ∷ home_1 ∷ size_1 ∷ []); tokens = []; events = stack_24_site.events ++ (codes "event 25 Main DELETE_COMPLETE") ∷ []; entries = stack_24_site.entries ++ main_gone ∷ []; ledger = (record call_8 { answer = Some settled.Success } ∷ []) }

abbrev world_25 : World
world_25 = record world_24 { stacks = (((codes "site"), stack_25_site) ∷ ((codes "user"), stack_21_user) ∷ []); place = 25 }

may_intended_size_gone : MayFollow schemas world_25 [] intended_size_gone
unfolding computing
may_intended_size_gone = ((codes "site"), stack_25_site, Gone, refl, refl, record { next = refl; free = refl; home = refl; fits = ((codes "5", refl), refl); no_repeat = refl; chosen = (_, (there (there here), refl, refl, refl), refl, refl, refl) })

abbrev pub call_9 : Call
call_9 = record { number = 4; token = 9; lane = (codes "r1"); path = (codes "Size"); request = (request.Delete (codes "r1:5")); status = status.DeleteInProgress; fresh = true; doubts = 0; answer = None }

abbrev stack_26_site : StackState
stack_26_site = record stack_25_site { tokens = (record { token = 9; path = (codes "Size"); lane = (codes "r1"); request = (request.Delete (codes "r1:5")) } ∷ []); events = stack_25_site.events ++ (codes "event 26 Size DELETE_IN_PROGRESS") ∷ []; entries = stack_25_site.entries ++ intended_size_gone ∷ []; ledger = (record call_8 { answer = Some settled.Success } ∷ call_9 ∷ []) }

abbrev world_26 : World
world_26 = record world_25 { stacks = (((codes "site"), stack_26_site) ∷ ((codes "user"), stack_21_user) ∷ []); token = 9; place = 26 }

may_size_gone : MayFollow schemas world_26 (9 ∷ []) size_gone
unfolding computing
may_size_gone = ((codes "site"), stack_26_site, Gone, refl, refl, (refl, refl, lit≤ tt))

abbrev stack_27_site : StackState
stack_27_site = record stack_26_site { held = (conf_1 ∷ home_1 ∷ []); tokens = []; events = stack_26_site.events ++ (codes "event 27 Size DELETE_COMPLETE") ∷ []; entries = stack_26_site.entries ++ size_gone ∷ []; ledger = (record call_8 { answer = Some settled.Success } ∷ record call_9 { answer = Some settled.Success } ∷ []) }

abbrev world_27 : World
world_27 = record world_26 { stacks = (((codes "site"), stack_27_site) ∷ ((codes "user"), stack_21_user) ∷ []); place = 27 }

may_intended_home_gone : MayFollow schemas world_27 [] intended_home_gone
unfolding computing
may_intended_home_gone = ((codes "site"), stack_27_site, Gone, refl, refl, record { next = refl; free = refl; home = refl; fits = ((codes "3", refl), refl); no_repeat = refl; chosen = (_, (there here, refl, refl, refl), refl, refl, refl) })

abbrev pub call_10 : Call
call_10 = record { number = 4; token = 10; lane = (codes "f1"); path = (codes "Home"); request = (request.Delete (codes "f1:3")); status = status.DeleteInProgress; fresh = true; doubts = 0; answer = None }

abbrev stack_28_site : StackState
stack_28_site = record stack_27_site { tokens = (record { token = 10; path = (codes "Home"); lane = (codes "f1"); request = (request.Delete (codes "f1:3")) } ∷ []); events = stack_27_site.events ++ (codes "event 28 Home DELETE_IN_PROGRESS") ∷ []; entries = stack_27_site.entries ++ intended_home_gone ∷ []; ledger = (record call_8 { answer = Some settled.Success } ∷ record call_9 { answer = Some settled.Success } ∷ call_10 ∷ []) }

abbrev world_28 : World
world_28 = record world_27 { stacks = (((codes "site"), stack_28_site) ∷ ((codes "user"), stack_21_user) ∷ []); token = 10; place = 28 }

may_home_gone : MayFollow schemas world_28 (10 ∷ []) home_gone
unfolding computing
may_home_gone = ((codes "site"), stack_28_site, Gone, refl, refl, (refl, refl, lit≤ tt))

abbrev stack_29_site : StackState
stack_29_site = record stack_28_site { held = (conf_1 ∷ []); tokens = []; events = stack_28_site.events ++ (codes "event 29 Home DELETE_COMPLETE") ∷ []; entries = stack_28_site.entries ++ home_gone ∷ []; ledger = (record call_8 { answer = Some settled.Success } ∷ record call_9 { answer = Some settled.Success } ∷ record call_10 { answer = Some settled.Success } ∷ []) }

abbrev world_29 : World
world_29 = record world_28 { stacks = (((codes "site"), stack_29_site) ∷ ((codes "user"), stack_21_user) ∷ []); place = 29 }

may_intended_conf_gone : MayFollow schemas world_29 [] intended_conf_gone
unfolding computing
may_intended_conf_gone = ((codes "site"), stack_29_site, Gone, refl, refl, record { next = refl; free = refl; home = refl; fits = ((codes "2", refl), refl); no_repeat = refl; chosen = (_, (here, refl, refl, refl), refl, refl, refl) })

abbrev pub call_11 : Call
call_11 = record { number = 4; token = 11; lane = (codes "f1"); path = (codes "Conf"); request = (request.Delete (codes "f1:2")); status = status.DeleteInProgress; fresh = true; doubts = 0; answer = None }

abbrev stack_30_site : StackState
stack_30_site = record stack_29_site { tokens = (record { token = 11; path = (codes "Conf"); lane = (codes "f1"); request = (request.Delete (codes "f1:2")) } ∷ []); events = stack_29_site.events ++ (codes "event 30 Conf DELETE_IN_PROGRESS") ∷ []; entries = stack_29_site.entries ++ intended_conf_gone ∷ []; ledger = (record call_8 { answer = Some settled.Success } ∷ record call_9 { answer = Some settled.Success } ∷ record call_10 { answer = Some settled.Success } ∷ call_11 ∷ []) }

abbrev world_30 : World
world_30 = record world_29 { stacks = (((codes "site"), stack_30_site) ∷ ((codes "user"), stack_21_user) ∷ []); token = 11; place = 30 }

may_conf_gone : MayFollow schemas world_30 (11 ∷ []) conf_gone
unfolding computing
may_conf_gone = ((codes "site"), stack_30_site, Gone, refl, refl, (refl, refl, lit≤ tt))

abbrev stack_31_site : StackState
stack_31_site = record stack_30_site { held = []; tokens = []; events = stack_30_site.events ++ (codes "event 31 Conf DELETE_COMPLETE") ∷ []; entries = stack_30_site.entries ++ conf_gone ∷ []; ledger = (record call_8 { answer = Some settled.Success } ∷ record call_9 { answer = Some settled.Success } ∷ record call_10 { answer = Some settled.Success } ∷ record call_11 { answer = Some settled.Success } ∷ []) }

abbrev world_31 : World
world_31 = record world_30 { stacks = (((codes "site"), stack_31_site) ∷ ((codes "user"), stack_21_user) ∷ []); place = 31 }

may_site_gone : MayFollow schemas world_31 [] site_gone
unfolding computing
may_site_gone = ((codes "site"), stack_31_site, Gone, refl, refl, (refl, end_of_deletion schemas (codes "site") world_31 stack_31_site refl refl refl, refl, refl))

abbrev stack_32_site : StackState
stack_32_site = record stack_31_site { status = status.DeleteComplete; events = stack_31_site.events ++ (codes "event 32 - DELETE_COMPLETE") ∷ []; entries = stack_31_site.entries ++ site_gone ∷ [] }

abbrev world_32 : World
world_32 = record world_31 { stacks = (((codes "site"), stack_32_site) ∷ ((codes "user"), stack_21_user) ∷ []); place = 32 }

pub until_13 : IsRun empty_world (take 13 run) world_13
unfolding computing
until_13 =
    step world_1 [] may_opened refl
    (step world_2 [] may_begun refl
    (step world_3 [] may_intended_audit refl
    (step world_4 (1 ∷ []) may_made_audit refl
    (step world_5 [] may_intended_conf refl
    (step world_6 (2 ∷ []) may_made_conf refl
    (step world_7 [] may_intended_home refl
    (step world_8 (3 ∷ []) may_made_home refl
    (step world_9 [] may_intended_main refl
    (step world_10 (4 ∷ []) may_made_main refl
    (step world_11 [] may_intended_size refl
    (step world_12 (5 ∷ []) may_made_size refl
    (step world_13 [] may_created refl ended))))))))))))

pub until_17 : IsRun empty_world (take 17 run) world_17
unfolding computing
until_17 =
    joined (take 4 (drop 13 run)) until_13
    (step world_14 [] may_begun_user refl
    (step world_15 [] may_intended_use refl
    (step world_16 (6 ∷ []) may_made_use refl
    (step world_17 [] may_created_user refl ended))))

pub until_22 : IsRun empty_world (take 22 run) world_22
unfolding computing
until_22 =
    joined (take 5 (drop 17 run)) until_17
    (step world_18 [] may_deleting_user refl
    (step world_19 [] may_intended_use_gone refl
    (step world_20 (7 ∷ []) may_use_gone refl
    (step world_21 [] may_user_gone refl
    (step world_22 [] may_deleting_site refl ended)))))

pub until_23 : IsRun empty_world (take 23 run) world_23
unfolding computing
until_23 =
    joined (take 1 (drop 22 run)) until_22
    (step world_23 [] may_kept_audit refl ended)

pub until_32 : IsRun empty_world run world_32
unfolding computing
until_32 =
    joined (drop 23 run) until_23
    (step world_24 [] may_intended_main_gone refl
    (step world_25 (8 ∷ []) may_main_gone refl
    (step world_26 [] may_intended_size_gone refl
    (step world_27 (9 ∷ []) may_size_gone refl
    (step world_28 [] may_intended_home_gone refl
    (step world_29 (10 ∷ []) may_home_gone refl
    (step world_30 [] may_intended_conf_gone refl
    (step world_31 (11 ∷ []) may_conf_gone refl
    (step world_32 [] may_site_gone refl ended)))))))))

pub legal : Legal
legal = until_32.legal

pub shows_site : ShowsSite
shows_site = ap (report_of (codes "site")) until_13.arrives

pub shows_user : ShowsUser
shows_user = ap (report_of (codes "user")) until_17.arrives

pub shows_site_gone : ShowsSiteGone
shows_site_gone = ap (report_of (codes "site")) until_32.arrives

pub shows_user_gone : ShowsUserGone
shows_user_gone = ap (report_of (codes "user")) until_32.arrives

may_not_0 : (out : List ℕ) → MayFollow schemas world_17 out (entry.Begin 3 (codes "site") (begin.Delete [])) → ⊥
unfolding computing
may_not_0 = λ out may. true≢false may.2.2

pub refused_0 : DeletedWhileUsed
refused_0 = refused_at world_17 until_used (entry.Begin 3 (codes "site") (begin.Delete [])) until_17.arrives may_not_0

may_not_1 : (out : List ℕ) → MayFollow schemas world_23 out (entry.Intent 4 8 (codes "f1") (codes "Home") (request.Delete (codes "f1:3"))) → ⊥
unfolding computing
may_not_1 = λ out may. let m = follows_on schemas 4 world_23 out (entry.Intent 4 8 (codes "f1") (codes "Home") (request.Delete (codes "f1:3"))) ((codes "site"), stack_23_site) Gone refl refl may in let c = m.chosen in (more (λ (h : Held). codes "f1:3" ≡ h.physical → is_needed_by_held stack_23_site h ≡ false → ⊥) (λ e f. true≢false (ap (bytes_eq (codes "f1:3")) e)) (more (λ (h : Held). codes "f1:3" ≡ h.physical → is_needed_by_held stack_23_site h ≡ false → ⊥) (λ e f. true≢false f) (more (λ (h : Held). codes "f1:3" ≡ h.physical → is_needed_by_held stack_23_site h ≡ false → ⊥) (λ e f. true≢false (ap (bytes_eq (codes "f1:3")) e)) (more (λ (h : Held). codes "f1:3" ≡ h.physical → is_needed_by_held stack_23_site h ≡ false → ⊥) (λ e f. true≢false (ap (bytes_eq (codes "f1:3")) e)) (none (λ (h : Held). codes "f1:3" ≡ h.physical → is_needed_by_held stack_23_site h ≡ false → ⊥)))))) c.0 c.1.0 c.4 c.1.2

pub refused_1 : NeededDeletedFirst
refused_1 = refused_at world_23 until_going (entry.Intent 4 8 (codes "f1") (codes "Home") (request.Delete (codes "f1:3"))) until_23.arrives may_not_1

may_not_2 : (out : List ℕ) → MayFollow schemas world_22 out (entry.Intent 4 8 (codes "f1") (codes "Audit") (request.Delete (codes "f1:1"))) → ⊥
unfolding computing
may_not_2 = λ out may. let m = follows_on schemas 4 world_22 out (entry.Intent 4 8 (codes "f1") (codes "Audit") (request.Delete (codes "f1:1"))) ((codes "site"), stack_22_site) Gone refl refl may in let c = m.chosen in (more (λ (h : Held). codes "f1:1" ≡ h.physical → keeps Gone stack_22_site h ≡ false → ⊥) (λ e f. true≢false f) (more (λ (h : Held). codes "f1:1" ≡ h.physical → keeps Gone stack_22_site h ≡ false → ⊥) (λ e f. true≢false (ap (bytes_eq (codes "f1:1")) e)) (more (λ (h : Held). codes "f1:1" ≡ h.physical → keeps Gone stack_22_site h ≡ false → ⊥) (λ e f. true≢false (ap (bytes_eq (codes "f1:1")) e)) (more (λ (h : Held). codes "f1:1" ≡ h.physical → keeps Gone stack_22_site h ≡ false → ⊥) (λ e f. true≢false (ap (bytes_eq (codes "f1:1")) e)) (more (λ (h : Held). codes "f1:1" ≡ h.physical → keeps Gone stack_22_site h ≡ false → ⊥) (λ e f. true≢false (ap (bytes_eq (codes "f1:1")) e)) (none (λ (h : Held). codes "f1:1" ≡ h.physical → keeps Gone stack_22_site h ≡ false → ⊥))))))) c.0 c.1.0 c.4 c.2

pub refused_2 : RetainedDeleted
refused_2 = refused_at world_22 (take 22 run) (entry.Intent 4 8 (codes "f1") (codes "Audit") (request.Delete (codes "f1:1"))) until_22.arrives may_not_2
