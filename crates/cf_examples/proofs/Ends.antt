-- The ends of some runs.
use Rattle.std.proofs.Common.{◌≡◌, refl, List, [], ◌∷◌, Some, true, false, ℕ, Bool, sym, subst, ap, true≢false, lit≤}
use Rattle.std.specs.Prelude.{codes}
use Rattle.cf_tree.specs.declared.template.Deletion.TheVariants as deletion
use Rattle.cf_tree.specs.declared.template.Replace.TheVariants as replace
use Rattle.cf_tree.specs.declared.request.Request.TheVariants as request
use Rattle.cf_tree.specs.declared.code.Code.TheVariants as code
use Rattle.cf_entry.specs.declared.entry.Reply.TheVariants as reply
use Rattle.cf_effect.specs.declared.held.HeldStatus.TheVariants as held
use Rattle.cf_effect.specs.declared.call.Call.{Call}
use Rattle.cf_effect.specs.declared.call.Settled.TheVariants as settled
use Rattle.cf_entry.specs.declared.status.Status.TheVariants as status
use Rattle.cf_effect.specs.Operation.{Response}
use Rattle.cf_effect.specs.Words.{current_at}
use Rattle.cf_effect.specs.World.{StackState, empty_world, known_stack}
use Rattle.cf_effect.specs.Fold.{fold_of}
use Rattle.cf_effect.specs.Begin.{source_for}
use Rattle.cf_tree.specs.Lists.{there}
use Rattle.cf_tree.specs.Lists.{here}
use Rattle.cf_tree.specs.Lists.{In}
use Rattle.cf_plan.specs.Ends.{IsLive, IsComplete, IsRestored, IsCleared, IsBlamedFor, IsBlamed}
use Rattle.cf_examples.specs.RollbackFailed as unblamed
use Rattle.cf_examples.proofs.Retained as deleted
use Rattle.cf_examples.proofs.Skipped as unskipped
use Rattle.cf_examples.proofs.LostCreation as undeleted
use Rattle.cf_handler.specs.Lane.{Live}
use Rattle.cf_desired.specs.Seeing.{Seen}
use Rattle.cf_desired.specs.Whole.{Right, Whole}
use Rattle.cf_effect.specs.declared.held.Held.{Held}
use Rattle.cf_examples.specs.Given.{file, note, file_props, file_attrs, note_props, note_attrs}
use Rattle.cf_examples.specs.Replacement.{second}
use Rattle.cf_examples.specs.Ends.{files_replaced, notes_replaced, files_restored, lanes_replaced, lanes_restored, IsPromised, ReplacementIsComplete, LateEffectIsRestored, RollbackIsRestored, DeletionIsCleared, FailuresAreBlamed, FailedRollbackIsBlamed, FailedDeletionIsBlamed}
use Rattle.cf_examples.proofs.Computing.{computing}
use Rattle.cf_examples.proofs.Standing.{IsWell, complete_of}
use Rattle.cf_examples.proofs.Lists.{in_none, only, either}
use Rattle.cf_examples.proofs.Replacement.{until_16, world_16, stack_16_app}
use Rattle.cf_examples.proofs.LateEffect as late
use Rattle.cf_examples.specs.RolledBack as rolled

-- The replacement: what is seen, and the whole map.
abbrev seen : Seen
seen = (codes "Ptr", record { physical = Some (codes "r1:2"); attrs = Some (note_attrs (codes "r1:2") 4 (codes "p") (codes "f1:3")) }) ∷ (codes "Web", record { physical = Some (codes "f1:3"); attrs = Some (file_attrs (codes "f1:3") 1 (codes "new.txt") (codes "x")) }) ∷ []

abbrev web : Right
web = record { path = codes "Web"; kind = file; deletion = deletion.Delete; replace = replace.Delete; needs = []; props = file_props (codes "new.txt") (codes "x") }

abbrev ptr : Right
ptr = record { path = codes "Ptr"; kind = note; deletion = deletion.Delete; replace = replace.Delete; needs = codes "Web" ∷ []; props = note_props (codes "p") (codes "f1:3") }

abbrev whole : Whole
whole = record { wanted = web ∷ ptr ∷ []; outputs = []; exports = [] }

abbrev ptr_held : Held
ptr_held = record { path = codes "Ptr"; kind = note; physical = codes "r1:2"; props = note_props (codes "p") (codes "f1:3"); attrs = note_attrs (codes "r1:2") 4 (codes "p") (codes "f1:3"); needs = codes "Web" ∷ []; deletion = deletion.Delete; replace = replace.Delete; status = held.UpdateComplete; unsure = false; superseded = false }

abbrev web_held : Held
web_held = record { path = codes "Web"; kind = file; physical = codes "f1:3"; props = file_props (codes "new.txt") (codes "x"); attrs = file_attrs (codes "f1:3") 1 (codes "new.txt") (codes "x"); needs = []; deletion = deletion.Delete; replace = replace.Delete; status = held.UpdateComplete; unsure = false; superseded = false }

abbrev ptr_live : Live
ptr_live = record { id = codes "r1:2"; kind = note; props = note_props (codes "p") (codes "f1:3"); attrs = note_attrs (codes "r1:2") 4 (codes "p") (codes "f1:3") }

abbrev web_live : Live
web_live = record { id = codes "f1:3"; kind = file; props = file_props (codes "new.txt") (codes "x"); attrs = file_attrs (codes "f1:3") 1 (codes "new.txt") (codes "x") }

ptr_is_live : IsLive lanes_replaced ptr_held ptr_live
ptr_is_live = record { lane = notes_replaced; home = record { handed_in = refl; named = (codes "2", refl) }; live = refl }

web_is_live : IsLive lanes_replaced web_held web_live
web_is_live = record { lane = files_replaced; home = record { handed_in = refl; named = (codes "3", refl) }; live = refl }

abbrev IsWellReplaced : Held → Type 0
IsWellReplaced = IsWell lanes_replaced stack_16_app seen whole

well : (r : Held) → In r stack_16_app.held → IsWellReplaced r
well r i = either IsWellReplaced {a = ptr_held} {b = web_held}
    (record { right = ptr; live = ptr_live; is_right = refl; is_live = ptr_is_live; kind = refl; props = refl; is_seen = refl; alone = refl })
    (record { right = web; live = web_live; is_right = refl; is_live = web_is_live; kind = refl; props = refl; is_seen = refl; alone = refl }) r i

complete : IsComplete (codes "app") world_16 stack_16_app lanes_replaced
unfolding computing
complete = complete_of (codes "app") world_16 stack_16_app lanes_replaced (source_for (codes "app") 1 second) seen whole refl refl refl refl refl refl refl well (λ w i. either (λ (q : Right). (r : Held) × (current_at q.path stack_16_app.held ≡ Some r)) {a = web} {b = ptr} (web_held, refl) (ptr_held, refl) w i)

pub replacement_is_complete : ReplacementIsComplete
replacement_is_complete = subst (λ x. IsPromised (codes "app") x lanes_replaced) (sym until_16.arrives) complete

-- The late effect: what was there is back.
abbrev a_before : Held
a_before = record { path = codes "A"; kind = file; physical = codes "f1:1"; props = file_props (codes "a") (codes "x"); attrs = file_attrs (codes "f1:1") 1 (codes "a") (codes "x"); needs = []; deletion = deletion.Delete; replace = replace.Delete; status = held.CreateComplete; unsure = false; superseded = false }

abbrev a_held : Held
a_held = record { path = codes "A"; kind = file; physical = codes "f1:1"; props = file_props (codes "a") (codes "x"); attrs = file_attrs (codes "f1:1") 1 (codes "a") (codes "x"); needs = []; deletion = deletion.Delete; replace = replace.Delete; status = held.UpdateComplete; unsure = false; superseded = false }

abbrev a_live : Live
a_live = record { id = codes "f1:1"; kind = file; props = file_props (codes "a") (codes "x"); attrs = file_attrs (codes "f1:1") 1 (codes "a") (codes "x") }

restored : IsRestored late.stack_16_s lanes_restored
restored = record {
  settled = record { none_open = refl; none_made = refl };
  held = λ b i. only (λ (q : Held). (r : Held) × In r late.stack_16_s.held × (r.path ≡ q.path) × (r.physical ≡ q.physical) × (r.kind ≡ q.kind)) {a = a_before} (a_held, here, refl, refl, refl) b i;
  nothing_else = λ r i. only (λ (q : Held). (b : Held) × In b late.stack_16_s.before × (b.path ≡ q.path) × (b.physical ≡ q.physical)) {a = a_held} (a_before, here, refl, refl) r i;
  live = λ b r i j same. only (λ (q : Held). (v : Live) × IsLive lanes_restored r v × (v.kind ≡ q.kind) × (r.unsure ≡ false → v.props ≡ q.props)) {a = a_before} (only (λ (q : Held). (v : Live) × IsLive lanes_restored q v × (v.kind ≡ a_before.kind) × (q.unsure ≡ false → v.props ≡ a_before.props)) {a = a_held} (a_live, record { lane = files_restored; home = record { handed_in = refl; named = (codes "1", refl) }; live = refl }, refl, λ _. refl) r j) b i;
}

pub late_effect_is_restored : LateEffectIsRestored
late_effect_is_restored = subst (λ x. IsPromised (codes "s") x lanes_restored) (sym late.until_16.arrives) restored

-- what the creation made is gone, and nothing was there before
abbrev stack_rolled_back : StackState
stack_rolled_back = known_stack (codes "s") (fold_of empty_world rolled.run)

nothing_back : IsRestored stack_rolled_back []
unfolding computing
nothing_back = record {
  settled = record { none_open = refl; none_made = refl };
  held = λ b i. absurd (in_none i);
  nothing_else = λ r i. absurd (in_none i);
  live = λ b r i. absurd (in_none i);
}

pub rollback_is_restored : RollbackIsRestored
unfolding computing
rollback_is_restored = (nothing_back, refl)

cleared : IsCleared deleted.stack_12_s
cleared = record { settled = record { none_open = refl; none_made = refl }; none_held = refl }

pub deletion_is_cleared : DeletionIsCleared
deletion_is_cleared = subst (λ x. IsPromised (codes "s") x []) (sym deleted.until_12.arrives) cleared

abbrev is_none : List (List ℕ) → Bool
is_none [] = false
is_none (p ∷ ps) = true

abbrev reply_2 : Response
reply_2 = record { token = 2; answer = reply.Failed code.ServiceLimitExceeded; before = 0; after = 1 }

abbrev reply_3 : Response
reply_3 = record { token = 3; answer = reply.Failed code.AccessDenied; before = 0; after = 1 }

abbrev call_2 : Call
call_2 = record { number = 1; token = 2; lane = codes "r1"; path = codes "B"; request = request.Create note (note_props (codes "b") (codes "u")); status = status.CreateInProgress; fresh = false; doubts = 0; answer = Some (settled.Failed code.ServiceLimitExceeded) }

abbrev call_3 : Call
call_3 = record { number = 1; token = 3; lane = codes "f1"; path = codes "A"; request = request.Delete (codes "f1:1"); status = status.RollbackInProgress; fresh = true; doubts = 0; answer = Some (settled.Failed code.AccessDenied) }

-- who is blamed: each path has a refused call of the operation, and the count rose
abbrev stack_unblamed : StackState
stack_unblamed = known_stack (codes "s") (fold_of empty_world unblamed.run)

blamed : IsBlamed stack_unblamed (codes "A" ∷ codes "B" ∷ [])
unfolding computing
blamed = record {
  some = λ e. true≢false (ap is_none e);
  each = λ path i. either (IsBlamedFor stack_unblamed) {a = codes "A"} {b = codes "B"}
      (record { reply = reply_3; call = call_3; of_call = refl; at_path = refl; stands = there (there here); failed = refl; rose = λ _. lit≤ tt })
      (record { reply = reply_2; call = call_2; of_call = refl; at_path = refl; stands = there here; failed = refl; rose = λ _. lit≤ tt }) path i;
}

pub failures_are_blamed : FailuresAreBlamed
unfolding computing
failures_are_blamed = blamed

-- the update stayed in doubt, and so did the creation in the deletion of its stack
abbrev reply_doubted : Response
reply_doubted = record { token = 2; answer = reply.Doubt; before = 0; after = 1 }

abbrev call_doubted : Call
call_doubted = record late.call_2 { fresh = false; doubts = 3 }

pub doubted : IsBlamed unskipped.stack_15_s (codes "A" ∷ [])
doubted = record {
  some = λ e. true≢false (ap is_none e);
  each = λ path i. only (IsBlamedFor unskipped.stack_15_s) {a = codes "A"} (record { reply = reply_doubted; call = call_doubted; of_call = refl; at_path = refl; stands = here; failed = refl; rose = λ _. lit≤ tt }) path i;
}

pub failed_rollback_is_blamed : FailedRollbackIsBlamed
failed_rollback_is_blamed = subst (λ x. IsPromised (codes "s") x []) (sym unskipped.until_15.arrives) doubted

abbrev reply_lost : Response
reply_lost = record { token = 1; answer = reply.Doubt; before = 6; after = 7 }

abbrev call_lost : Call
call_lost = record late.call_1 { fresh = false; doubts = 3 }

lost : IsBlamed undeleted.stack_16_s (codes "A" ∷ [])
lost = record {
  some = λ e. true≢false (ap is_none e);
  each = λ path i. only (IsBlamedFor undeleted.stack_16_s) {a = codes "A"} (record { reply = reply_lost; call = call_lost; of_call = refl; at_path = refl; stands = here; failed = refl; rose = λ _. lit≤ tt }) path i;
}

pub failed_deletion_is_blamed : FailedDeletionIsBlamed
failed_deletion_is_blamed = subst (λ x. IsPromised (codes "s") x []) (sym undeleted.until_16.arrives) lost
