-- None of these is met.
use Rattle.std.proofs.Common.{◌≡◌, ℕ, List, [], ◌∷◌, Some, None, true, false, refl, sym, ◌∙◌, ap, subst, true≢false, arith, lit≤, ◌≢◌, inl, inr}
use Rattle.std.specs.Prelude.{codes, map}
use Rattle.std.specs.Str.{bytes_eq}
use Rattle.cf_tree.specs.Counts.{HasRisen}
use Rattle.cf_tree.specs.declared.source.Source.{Source}
use Rattle.cf_handler.specs.Fence.{live_at}
use Rattle.cf_handler.specs.Lane.{Live}
use Rattle.cf_export.specs.declared.Export.{Export}
use Rattle.cf_entry.specs.declared.entry.Reply.{Reply}
use Rattle.cf_desired.specs.Seeing.{Seen}
use Rattle.cf_desired.specs.Whole.{Right, Whole, whole_of}
use Rattle.cf_effect.specs.declared.call.Call.{Call}
use Rattle.cf_effect.specs.declared.held.Held.{Held}
use Rattle.cf_effect.specs.Begin.{source_for}
use Rattle.cf_effect.specs.Calls.{call_under as call_of, is_success}
use Rattle.cf_effect.specs.Listed.{export_by}
use Rattle.cf_effect.specs.Operation.{Response}
use Rattle.cf_effect.specs.World.{StackState, World, known_stack}
use Rattle.cf_plan.specs.Ends.{IsBlamedFor, IsComplete, IsLive, right_at}
use Rattle.cf_plan.specs.Follow.{may_repeat, settled_by}
use Rattle.cf_plan.specs.Forward.{evaluated_at, Finding, Known, is_made}
use Rattle.cf_tree.specs.Lists.{there}
use Rattle.cf_tree.specs.Lists.{here}
use Rattle.cf_tree.specs.Lists.{In}
use Rattle.cf_plan.specs.Lanes.{Lane, lane_at}
use Rattle.cf_plan.specs.Life.{world_of}
use Rattle.cf_plan.specs.Promise.{AreKept}
use Rattle.cf_examples.specs.FirstResource.{app, web}
use Rattle.cf_examples.specs.Given.{file, file_props, note}
use Rattle.cf_examples.proofs.BrokenAgreement.{content_in}
use Rattle.cf_examples.proofs.Computing.{computing}
use Rattle.cf_examples.proofs.Lists.{found_passes, in_none, only, some_is}
use Rattle.cf_examples.specs.BrokenStacks.{update, updating, restoring, url, other, exporting, deletion, failing, refused, wrong, NotComplete, NotRestored, NotBlamed, open_deletion, NoSuchWorlds, replaced, changed, NotAdvancing, NotBack, NotBooked, NotOpen}
use Rattle.cf_effect.specs.declared.held.Pending.{Pending}
use Rattle.cf_effect.specs.Status.{Gone, Stage, is_in_progress, stage_of}
use Rattle.cf_effect.specs.Words.{pending_of}
use Rattle.cf_core.specs.InFlight.{IsOpenCall}
use Rattle.cf_examples.proofs.Beginning.{one_stack}
use Rattle.cf_core.specs.Advancing.{AreSameThings}
use Rattle.cf_tree.specs.declared.template.Deletion.TheVariants as deletion
use Rattle.cf_tree.specs.declared.template.Replace.TheVariants as replace
use Rattle.cf_examples.specs.FirstResource as first

-- what the template wants, whatever is seen
abbrev pub right : Right
right = record { path = codes "Web"; kind = file; deletion = deletion.Delete; replace = replace.Delete; needs = []; props = file_props (codes "web.txt") (codes "hello") }

abbrev pub wants : Whole
wants = record { wanted = right ∷ []; outputs = []; exports = [] }

abbrev export : Export
export = record { name = codes "url"; value = codes "u"; stack = codes "app" }

pub evaluates : (seen : Seen) → whole_of (source_for (codes "app") 1 first.source) seen ≡ Some wants
unfolding computing
evaluates seen = refl

exports_one : (seen : Seen) → whole_of exporting seen ≡ Some (record { wanted = right ∷ []; outputs = url ∷ []; exports = (codes "url", codes "u") ∷ [] })
unfolding computing
exports_one seen = refl

-- over a source that is known the whole map is that one
pub is_whole : (one source : Source) (seen : Seen) (whole wanted : Whole) → Some one ≡ Some source → whole_of source seen ≡ Some whole → whole_of one seen ≡ Some wanted → whole ≡ wanted
is_whole one source seen whole wanted e f g = some_is (sym f ∙ ap (λ q. whole_of q seen) (sym (some_is e)) ∙ g)

-- what is live on the one lane
only_lane : (files l : Lane) → lane_at l.name (files ∷ []) ≡ Some l → files ≡ l
only_lane files l e = only (λ q. files ≡ q) refl l (found_passes (λ k. bytes_eq l.name k.name) (files ∷ []) l e).1

live_is : (files : Lane) (r : Held) (v : Live) → IsLive (files ∷ []) r v → live_at r.physical files.state ≡ Some v
live_is files r v h = subst (λ l. live_at r.physical l.state ≡ Some v) (sym (only_lane files h.lane h.home.handed_in)) h.live

-- the whole map of a stack whose template is the first one wants just the one file
wants_one : (x : World) (s : StackState) (ls : List Lane) → s.source ≡ app.source → (c : IsComplete (codes "app") x s ls) → c.evaluated.2 ≡ wants
wants_one x s ls same c = let e = c.evaluated in is_whole (source_for (codes "app") 1 first.source) e.0 e.1 e.2 wants (sym same ∙ e.3) e.5 (evaluates e.1)

-- Blamed: the one answer is this one.
abbrev response : Reply → ℕ → ℕ → Response
response a before after = record { token = 2; answer = a; before = before; after = after }

reply_is : (a : Reply) (n m : ℕ) (failed : List (List ℕ)) (path : List ℕ) (b : IsBlamedFor (failing 1 a n m failed) path) → b.reply ≡ response a n m
reply_is a n m failed path b = only (λ q. q ≡ response a n m) {a = response a n m} refl b.reply b.stands

uncalled : ¬ AreKept wrong
unfolding computing
uncalled k =
    let c : IsComplete (codes "app") (world_of wrong) (known_stack (codes "app") (world_of wrong)) wrong.lanes = k (codes "app") _ refl in
    let e = (c.evaluated.6.paths (codes "Web")).0 (right, ap (right_at (codes "Web")) (wants_one _ _ _ refl c)) in let z = e.1 in absurd (cc)

pub not_complete : NotComplete
not_complete = record {
  complete_though_a_call_is_open = λ c. let e = c.settled.none_open in absurd (cc);
  complete_though_something_is_made = λ c. let e = c.settled.none_made in absurd (cc);
  complete_without_a_template = λ c. let e = c.evaluated.3 in absurd (cc);
  complete_though_nothing_is_held = λ c. let e = (c.evaluated.6.paths (codes "Web")).0 (right, ap (right_at (codes "Web")) (wants_one _ _ _ refl c)) in let z = e.1 in absurd (cc);
  complete_though_more_is_held = λ c. let e = (c.evaluated.6.paths (codes "Other")).1 (other, refl) in let z : None ≡ Some e.0 = sym (ap (right_at (codes "Other")) (wants_one _ _ _ refl c)) ∙ e.1 in absurd (cc);
  complete_though_a_replaced_one_is_left = λ c. true≢false (sym (ap (λ (r : Held). r.superseded) (some_is (c.evaluated.6.nothing_else _ (there here)))));
  complete_though_outputs_differ = λ c. let z = c.evaluated.6.outputs ∙ ap (λ (w : Whole). w.outputs) (wants_one _ _ _ refl c) in absurd (cc);
  complete_though_gone = λ c. let z = c.evaluated.4 (codes "Web") web refl in let e = live_is _ web z.0 z.1 in absurd (cc);
  complete_though_live_with_other_properties = λ c.
      let z = c.evaluated.6.live (codes "Web") right web (ap (right_at (codes "Web")) (wants_one _ _ _ refl c)) refl in
      true≢false (ap (λ ps. bytes_eq (codes "bye") (content_in ps)) (ap (λ (v : Live). v.props) (some_is (live_is _ web z.0 z.1)) ∙ z.3));
  complete_with_an_export_missing = λ c.
      let e = c.evaluated in
      let w = is_whole exporting e.0 e.1 e.2 _ e.3 e.5 (exports_one e.1) in
      in_none ((e.7 export).1 (subst (λ (q : Whole). In export (map (export_by (codes "app")) q.exports)) (sym w) here));
  complete_with_an_export_of_no_template = λ c. in_none (subst (λ (q : Whole). In export (map (export_by (codes "app")) q.exports)) (wants_one _ _ _ refl c) ((c.evaluated.7 export).0 here));
  complete_though_nothing_was_called = uncalled;
}

pub not_restored : NotRestored
not_restored = record {
  restored_under_another_id = λ h. let z = h.held web here in only (λ (r : Held). r.physical ≡ codes "f1:1" → ⊥) (λ e. true≢false (sym (ap (bytes_eq (codes "f1:1")) e))) z.0 z.1 z.3;
  restored_at_another_path = λ h. let z = h.held web here in only (λ (r : Held). r.path ≡ codes "Web" → ⊥) (λ e. true≢false (sym (ap (bytes_eq (codes "Web")) e))) z.0 z.1 z.2;
  restored_as_another_type = λ h. let z = h.live _ _ here here refl in true≢false (sym (ap (bytes_eq note) (ap (λ (v : Live). v.kind) (some_is (live_is _ _ z.0 z.1)) ∙ z.2)));
  restored_with_less = λ h. in_none (h.held web here).1;
  restored_with_more = λ h. in_none (h.nothing_else web here).1;
  restored_with_other_properties_though_sure = λ h. let z = h.live web web here here refl in true≢false (ap (λ ps. bytes_eq (codes "bye") (content_in ps)) (ap (λ (v : Live). v.props) (some_is (live_is _ web z.0 z.1)) ∙ z.3 refl));
  restored_though_gone = λ h. let z = h.live web web here here refl in let e = live_is _ web z.0 z.1 in absurd (cc);
  restored_though_something_is_made = λ h. let e = h.settled.none_made in absurd (cc);
  creation_rolled_back_though_held = λ h. in_none (h.0.nothing_else web here).1;
  creation_rolled_back_to_something = λ h. let e = h.1 in absurd (cc);
  deleted_though_held = λ h. let e = h.none_held in absurd (cc);
  deleted_though_made = λ h. let e = h.settled.none_made in absurd (cc);
  reviewed_though_held = λ h. let e = h.none_held in absurd (cc);
}

pub not_blamed : NotBlamed
not_blamed = record {
  blames_nothing = λ b. b.some refl;
  blames_another_path = λ b.
      let z = b.each (codes "Other") (there here) in
      let c : Some deletion ≡ Some z.call = subst (λ (q : Response). call_of q.token (failing 1 refused 0 1 (codes "Web" ∷ codes "Other" ∷ [])) ≡ Some z.call) (reply_is refused 0 1 _ _ z) z.of_call in
      true≢false (ap (bytes_eq (codes "Web")) (ap (λ (d : Call). d.path) (some_is c) ∙ z.at_path));
  blames_a_success = λ b. let z = b.each (codes "Web") here in true≢false (subst (λ (q : Response). is_success (settled_by q.answer) ≡ false) (reply_is _ 0 1 _ _ z) z.failed);
  blames_though_the_count_stayed = λ b. let z = b.each (codes "Web") here in let r = subst (λ (q : Response). HasRisen q.before q.after) (reply_is refused 1 1 _ _ z) z.rose in let e = r (lit≤ tt) in absurd (omega arith);
  blames_for_an_earlier_operation = λ b. in_none (b.each (codes "Web") here).stands;
  blames_for_a_call_of_nobody = λ b. let e = (b.each (codes "Web") here).of_call in absurd (cc);
}

-- the two stacks have names that differ
two : codes "app" ≢ codes "web"
two e = true≢false (ap (bytes_eq (codes "app")) e)

pub no_such_worlds : NoSuchWorlds
no_such_worlds = record {
  names_out_of_order = λ a. true≢false (sym a.names);
  operation_above_the_last = λ a. let e = a.last (codes "app") app refl in absurd (omega arith);
  one_operation_on_two_stacks = λ a. two (a.apart (codes "app") (codes "web") app app refl refl refl (lit≤ tt));
  one_id_twice_on_a_stack = λ o. true≢false (sym (o.once _ here).ids);
  held_and_left_over = λ o. true≢false ((o.once _ here).left (codes "f1:1") web refl);
  one_token_open_twice = λ o. true≢false (sym (o.once _ here).tokens);
  one_id_on_two_stacks = λ o. let e = o.held _ _ (codes "f1:1") web here (there here) two refl in absurd (cc);
  held_here_and_left_over_there = λ o. let e = o.held _ _ (codes "f1:1") web here (there here) two refl in absurd (cc);
  one_token_open_on_two_stacks = λ o. let e = o.tokens _ _ 2 open_deletion here (there here) two refl in absurd (cc);
  one_lane_of_two_types = λ o. true≢false (ap (λ l. bytes_eq file l.1) (o _ _ here (there here) refl));
  two_calls_at_one_path = λ f. let e = ap (λ (p : Pending). p.token) (f.paths _ _ here (there here) refl) in absurd (cc);
  deletes_what_it_does_not_hold = λ f. in_none (f.named _ _ here refl).1;
  deletes_at_another_path = λ f. let z = f.named _ _ here refl in only (λ (r : Held). r.path ≡ codes "Other" → ⊥) (λ e. true≢false (ap (bytes_eq (codes "Web")) e)) z.0 z.1 z.3;
  open_without_a_row = λ f. let e = (f.rows _ here).1 in absurd (cc);
  open_though_answered = λ f. let z = f.rows _ here in let e = ap (λ (c : Call). c.answer) (some_is z.1) ∙ z.2.unanswered in absurd (cc);
  one_token_in_two_rows = λ f. true≢false (sym f.row_tokens);
  row_above_the_last_token = λ f. let e = f.last first.call here in absurd (omega arith);
  row_of_a_later_operation = λ f. let e = f.numbers first.call here in absurd (omega arith);
  lane_left_out = λ f. in_none (f.lanes.0 web here).1;
  row_that_was_never_written = λ w. let e = w (codes "app") app first.call refl here in absurd (cc);
  row_that_says_otherwise = λ w. true≢false (sym (ap (bytes_eq (codes "Web")) (ap (λ c. c.path) (some_is (w (codes "app") app first.call refl here)))));
  held_though_never_made = λ o. let e = (o.made (codes "app") app web refl here).3 in absurd (cc);
  deletes_what_was_never_made = λ o. let e = (o.named 1 _ _ refl refl).3 in absurd (cc);
  calls_a_lane_that_is_not_there = λ o. let e = (o.there 1 _ refl).1 in absurd (cc);
  leased_for_a_stack_that_rests = λ g. one_stack (λ s. is_in_progress s.status ≡ true → ⊥) g.name (codes "app") app g.stack (λ e. true≢false (sym e)) g.stands g.in_progress;
  ended_before_it_began = λ l. let e = l.0.1.3 in absurd (cc);
  begun_under_a_number_left_out = λ l. let e = l.0.1.0 in absurd (cc);
  two_lanes_of_one_name = λ a. true≢false (sym a.names_differ);
  colon_in_a_lane_name = λ a. true≢false (sym a.named);
  lane_without_a_schema = λ a. true≢false (sym a.described);
  two_schemas_of_one_type = λ a. true≢false (sym a.kinds_differ);
}

-- the content that is found for a path
abbrev content_of : Finding → List ℕ
content_of (Known k props) = content_in props
content_of _ = []

-- it is as the template says at its path
abbrev Said : Held → Type 0
Said r = evaluated_at r.path (record update { held = changed ∷ []; ledger = updating (codes "Web") ∷ [] }) ≡ Known r.kind r.props

not_lost : {b : Held} {bs : List Held} → AreSameThings (b ∷ bs) [] → ⊥
not_lost e = elim e [ ]

pub not_advancing : NotAdvancing
unfolding computing
not_advancing = record {
  without_a_source = λ (source, a, b). let e = a.going in absurd (cc);
  over_something = λ (source, a, b). let e = b in absurd (cc);
  made_with_other_properties = λ (source, a, b). true≢false (sym (ap (λ f. bytes_eq (codes "bye") (content_of f)) (a.made _ here).said));
  made_though_unsure = λ (source, a, b). true≢false (a.made _ here).sure;
  made_twice_at_a_path = λ (source, a, b). true≢false (ap (λ (r : Held). bytes_eq (codes "f1:1") r.physical) (some_is (a.single_made _ (there here))));
  asks_for_other_properties = λ (source, a, b). true≢false (sym (ap (λ f. bytes_eq (codes "bye") (content_of f)) (a.asked _ here)));
  asks_for_what_is_done = λ (source, a, b). a.not_done _ here (is_made web refl);
  deletes_before_the_cleanup = λ (source, a). a.asked _ here;
  call_of_another_operation = λ (source, a, b). let e = (a.calls _ here).0 in absurd (cc);
  call_of_another_phase = λ (source, a, b). true≢false (sym (a.calls _ here).1);
  holds_no_more = λ (source, a). not_lost a.held;
  two_before_at_a_path = λ (source, a). true≢false (ap (λ (r : Held). bytes_eq (codes "f1:1") r.physical) (some_is (a.single_before _ (there here))));
  updated_to_other_properties = λ (source, a). let z = a.updated (codes "Web") refl in true≢false (sym (ap (λ f. bytes_eq (codes "bye") (content_of f)) (subst (λ (r : Held). Said r) (sym (some_is z.1)) z.2.said)));
  updated_at_another_path = λ (source, a). true≢false (sym (ap (bytes_eq (codes "Web")) (a.at_path (updating (codes "Other")) web here here refl)));
  changed_though_not_updated = λ (source, a). true≢false (ap (λ ps. bytes_eq (codes "bye") (content_in ps)) (a.unchanged web changed here here refl refl).props);
}

pub not_back : NotBack
not_back = record {
  lost_in_the_rollback = λ g. not_lost g.held;
  not_given_back = λ g. true≢false (ap (λ ps. bytes_eq (codes "bye") (content_in ps)) (g.as_before web changed here here refl refl (inl refl)));
  sure_though_skipped = λ g. true≢false (sym (g.skipped web here refl));
  deletes_in_the_rollback = λ g. g.calls _ here;
  restores_other_properties = λ g. let u = g.calls _ here in elim u.gives [
    | inl f ↦ (let e = f.0.1 in absurd (cc))
    | inr e ↦ only (λ (b : Held). changed.props ≡ b.props → ⊥) (λ k. true≢false (ap (λ ps. bytes_eq (codes "bye") (content_in ps)) k)) u.was u.of_before e
  ];
  held_in_the_rollback_of_a_creation = λ g. let e = g.none_held in absurd (cc);
  cleans_up_before_it_is_whole = λ c. let h = c.whole in
      let w = is_whole _ h.source h.seen h.whole wants h.of_source h.evaluated (evaluates h.seen) in
      let z = (h.wanted (codes "Web") right (ap (right_at (codes "Web")) w)).1 in absurd (cc);
  cleans_up_what_is_wanted = λ c. let z = c.calls _ here in only (λ (r : Held). r.superseded ≡ true → ⊥) (λ e. true≢false (sym e)) z.0 z.1 z.2;
  deletes_twice_at_once = λ c. elim (c.tried replaced (there here) refl) [ inl e ↦ (let k = e in absurd (cc)) | inr z ↦ (let k = z.2 in absurd (cc)) ];
  cleans_up_what_was_before = λ c. in_none (c.calls _ here).1;
  whole_with_more = λ c. let h = c.0 in
      let w = is_whole _ h.source h.seen h.whole wants h.of_source h.evaluated (evaluates h.seen) in
      let z = (h.held other (there here) refl).1 in let e = sym (ap (right_at (codes "Other")) w) ∙ z in absurd (cc);
  whole_though_unsure = λ c. true≢false (c.0.sure _ here refl);
  rests_though_a_call_is_open = λ c. let e = c.1.none_open in absurd (cc);
  rests_with_two_at_a_path = λ c. true≢false (ap (λ (r : Held). bytes_eq (codes "f1:1") r.physical) (some_is (c.1.single _ (there here))));
}

pub not_booked : NotBooked
unfolding computing
not_booked = record {
  answer_without_a_row = λ b. let e = (b.books.called _ here).1 in absurd (cc);
  failure_without_a_fault = λ b. let e = b.books.counted _ here refl (lit≤ tt) in absurd (omega arith);
  refused_without_an_answer = λ b. in_none (b.books.refused _ here refl refl).1;
  doubted_without_an_answer = λ b. in_none (b.books.doubted _ here (lit≤ tt)).1;
  deleted_and_forgotten = λ b. elim (b.books.tried deletion web here refl here refl).1 [ inl o ↦ in_none o.1 | inr e ↦ true≢false (sym e) ];
  open_though_it_went_well = λ b. true≢false (sym (b.books.bad _ _ here here refl));
  given_back_and_forgotten = λ b. elim ((b.restoring refl).come_to restoring here refl refl) [
    | inl o ↦ in_none o.1
    | inr r ↦ elim r [ inl e ↦ true≢false (sym e) | inr g ↦ true≢false (sym g.refused) ]
  ];
  entry_of_a_later_operation = λ b. let e = b.numbered _ 2 here refl in absurd (omega arith);
  ended_though_in_progress = λ b. let e = b.none_failed refl in absurd (cc);
  deletes_what_it_retains = λ b. true≢false (b.unretained refl deletion (codes "f1:1") here refl refl);
  needs_more_than_its_template = λ b. let e = b.needs _ here in absurd (cc);
  needs_in_a_circle = λ b. let k = b.ranked in let u = k.lower _ _ here (there here) refl refl refl in let v = k.lower _ _ (there here) here refl refl refl in absurd (omega arith);
  out_of_order = λ s. true≢false (sym (s.ordered.held _ here));
  goes_forward_though_continued = λ s. let e = s.skips_none refl in absurd (cc);
  deleted_before_the_cleanup = λ s. true≢false (s.undeleted refl deletion here (codes "f1:1"));
  refused_three_times_and_open = λ s. let few = s.tries open_deletion (codes "f1:1") here refl in absurd (omega (arith, few));
  created_twice = λ s. let few = s.few.forward.creates (codes "Web") in absurd (omega (arith, few));
  deleted_four_times = λ s. let few = s.few.returns.deletions (codes "f1:1") in absurd (omega (arith, few));
  lane_of_no_schema = λ d. true≢false (sym (d _ here));
}

-- a call that may not be made again is not open
not_again : (s : StackState) (stage : Stage) (p : Pending) → stage_of s.status ≡ Some stage → pending_of 2 s ≡ Some p → may_repeat stage [] s p ≡ false
    → IsOpenCall s 2 → ⊥
not_again s stage p at found never h =
    let one : ◌≡◌ {A = Stage} h.stage stage = some_is (sym h.in_stage ∙ at) in
    let same : ◌≡◌ {A = Pending} h.pending p = some_is (sym h.found ∙ found) in
    true≢false (sym h.again ∙ ap (λ (k : Stage). may_repeat k [] s h.pending) one ∙ ap (λ (q : Pending). may_repeat stage [] s q) same ∙ never)

pub not_open : NotOpen
not_open = record {
  given_up = λ h. let e = h.found in absurd (cc);
  of_an_operation_that_ended = λ h. let e = h.in_stage in absurd (cc);
  in_doubt_three_times = not_again _ Gone open_deletion refl refl refl;
  at_a_path_that_is_retained = not_again _ Gone open_deletion refl refl refl;
}
