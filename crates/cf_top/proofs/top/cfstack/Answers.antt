use Rattle.std.proofs.Common.{◌≡◌, ◌∙◌, true, false, List, Option, Some, None, option_and_then, ap, inl, inr, map, refl, rules, subst, sym, true≢false}
use Rattle.cf_journal.specs.Record.{IsOldOrKept}
use Rattle.cf_schema.specs.declared.described.Schema.{Schema}
use Rattle.cf_journal.proofs.Moments.{started}
use Rattle.cf_face.specs.declared.words.Command.{Command}
use Rattle.cf_face.specs.declared.words.Command.TheVariants as command
use Rattle.cf_face.specs.Words.{command_of, question_of}
use Rattle.cf_workers.specs.Along.{IsOldOrAlong}
use Rattle.cf_workers.proofs.Along.{along_answered}
use Rattle.cf_top.specs.Answer.{AnswerTells, is_asking, is_review}
use Rattle.cf_top.specs.Lanes.{one_of_each}
use Rattle.cf_top.specs.Reviewing.{AddsOneSet, LeavesAtMostOneSet, none}
use Rattle.cf_top.proofs.Intended.{none_asked}
use Rattle.cf_top.proofs.Meeting.{printing, used}
use Rattle.cf_top.proofs.Sets.{keeps_set, set_survives}
use Rattle.cf_workers.proofs.Untouched.{keeps_untouched}
use Rattle.cf_top.proofs.top.cfstack.Goals as goal

-- a review drives no handlers
asks_review : (c : Option Command) → is_review (option_and_then question_of c) ≡ true → is_asking c ≡ true
asks_review None e = absurd (true≢false (sym e))
asks_review (Some (command.Deploy stack template given)) e = absurd (true≢false (sym e))
asks_review (Some (command.ContinueRollback stack paths)) e = absurd (true≢false (sym e))
asks_review (Some (command.Resume stack)) e = absurd (true≢false (sym e))
asks_review (Some (command.ExecuteSet stack number)) e = absurd (true≢false (sym e))
asks_review (Some (command.Load count)) e = absurd (true≢false (sym e))
asks_review (Some (command.Describe stack)) e = refl
asks_review (Some (command.Events stack)) e = refl
asks_review (Some command.List) e = refl
asks_review (Some (command.DescribeSet stack number)) e = refl
asks_review (Some (command.Validate template)) e = refl
asks_review (Some (command.CreateSet stack template given)) e = refl

pub returns-in-Ok-clause-any_moment : goal.returns-in-Ok-clause-any_moment
returns-in-Ok-clause-any_moment g c not told =
    along_answered g.D.Disk g.H.Handler c.args.disk c.answer-exit.new.disk c.args.lanes.items ((g.met.D.Disk g.world.𝓛 g.world.𝓜 g.world.𝓡 ((λ s x. x), (λ x. x), (λ x. x), λ x. x)).seen_may_stay c.args.disk told)
    (c.answer-exit.ensures.kept not told) (c.answer-exit.ensures.any_moment not told)

pub returns-in-Ok-clause-set_at_any_moment : goal.returns-in-Ok-clause-set_at_any_moment
returns-in-Ok-clause-set_at_any_moment g c is told =
    subst (λ (ss : List Schema). AddsOneSet g.D.Disk ss c.args.disk c.answer-exit.new.disk) (c.in-Ok.ensures ∙ ap (λ hs. one_of_each (map g.H.Handler.schema_of hs)) c.as_slice.ensures.value) (c.answer-exit.ensures.set_at_any_moment told)

pub returns-in-Ok-clause-leaves : goal.returns-in-Ok-clause-leaves
returns-in-Ok-clause-leaves g c told =
    set_survives c.in-Ok.schemas (g.D.Disk.seen c.args.disk) (g.D.Disk.seen c.answer-exit.new.disk) (g.D.Disk.may_leave c.args.disk) (g.D.Disk.may_leave c.answer-exit.new.disk) c.answer-exit.result
    (c.answer-exit.ensures.set_leaves told)

pub returns-in-Ok-clause-agree : goal.returns-in-Ok-clause-agree
returns-in-Ok-clause-agree g c =
    keeps_set g.D.Disk g.H.Handler c.args.disk c.answer-exit.new.disk c.args.lanes.items
    (λ d told. (g.met.D.Disk g.world.𝓛 g.world.𝓜 g.world.𝓡 ((λ s x. x), (λ x. x), (λ x. x), λ x. x)).seen_may_stay d told) c.answer-exit.result
    (λ told. subst (λ (ss : List Schema). LeavesAtMostOneSet ss (g.D.Disk.seen c.args.disk) (g.D.Disk.seen c.answer-exit.new.disk) (g.D.Disk.may_leave c.args.disk) (g.D.Disk.may_leave c.answer-exit.new.disk) c.answer-exit.result)
    (c.in-Ok.ensures ∙ ap (λ hs. one_of_each (map g.H.Handler.schema_of hs)) c.as_slice.ensures.value) (c.answer-exit.ensures.set_leaves told))

pub returns-in-Err-schemas_of-clause-any_moment : goal.returns-in-Err-schemas_of-clause-any_moment
returns-in-Err-schemas_of-clause-any_moment g c not told =
    started g.D.Disk.moment g.D.Disk.left_since c.args.disk (IsOldOrAlong g.D.Disk g.H.Handler c.args.disk c.args.disk c.args.lanes.items) (λ file left. inl ((g.met.D.Disk g.world.𝓛 g.world.𝓜 g.world.𝓡 ((λ s x. x), (λ x. x), (λ x. x), λ x. x)).only_now c.args.disk file told left))

pub returns-in-Err-schemas_of-clause-leaves : goal.returns-in-Err-schemas_of-clause-leaves
returns-in-Err-schemas_of-clause-leaves g c told = inl (record { kept = record { same = refl; bytes = inr refl }; each = λ file left. inl left })

pub returns-in-Err-schemas_of-clause-agree : goal.returns-in-Err-schemas_of-clause-agree
returns-in-Err-schemas_of-clause-agree g c =
    keeps_untouched g.D.Disk g.H.Handler c.args.disk c.args.disk c.args.lanes.items
    (λ d told. (g.met.D.Disk g.world.𝓛 g.world.𝓜 g.world.𝓡 ((λ s x. x), (λ x. x), (λ x. x), λ x. x)).seen_may_stay d told) (λ told file left. inl left)

pub returns-in-Err-clause-any_moment : goal.returns-in-Err-clause-any_moment
returns-in-Err-clause-any_moment g c not told =
    started g.D.Disk.moment g.D.Disk.left_since c.args.disk (IsOldOrAlong g.D.Disk g.H.Handler c.args.disk c.args.disk c.args.lanes.items) (λ file left. inl ((g.met.D.Disk g.world.𝓛 g.world.𝓜 g.world.𝓡 ((λ s x. x), (λ x. x), (λ x. x), λ x. x)).only_now c.args.disk file told left))

pub returns-in-Err-clause-leaves : goal.returns-in-Err-clause-leaves
returns-in-Err-clause-leaves g c told = inl (record { kept = record { same = refl; bytes = inr refl }; each = λ file left. inl left })

pub returns-in-Err-clause-agree : goal.returns-in-Err-clause-agree
returns-in-Err-clause-agree g c =
    keeps_untouched g.D.Disk g.H.Handler c.args.disk c.args.disk c.args.lanes.items
    (λ d told. (g.met.D.Disk g.world.𝓛 g.world.𝓜 g.world.𝓡 ((λ s x. x), (λ x. x), (λ x. x), λ x. x)).seen_may_stay d told) (λ told file left. inl left)

pub returns-in-Ok-clause-answered : goal.returns-in-Ok-clause-answered
returns-in-Ok-clause-answered g c =
    inl (
      search rules,
      (
        refl,
        (λ not told. record { kept = c.answer-exit.ensures.kept not told; each = c.answer-exit.ensures.leaves not told }),
        λ told. subst (λ (ss : List Schema). LeavesAtMostOneSet ss (g.D.Disk.seen c.args.disk) (g.D.Disk.seen c.answer-exit.new.disk) (g.D.Disk.may_leave c.args.disk) (g.D.Disk.may_leave c.answer-exit.new.disk) c.answer-exit.result)
            (c.in-Ok.ensures ∙ ap (λ hs. one_of_each (map g.H.Handler.schema_of hs)) c.as_slice.ensures.value) (c.answer-exit.ensures.set_leaves told),
      ),
      subst (λ (ss : List Schema). AnswerTells g.D.Disk (used g.L.Library c.args.library.now c.answer-exit.new.library) (printing g.K.Sink c.args.out.now c.answer-exit.new.out) ss c.args.disk c.answer-exit.new.disk c.args.words.now c.answer-exit.result)
          (c.in-Ok.ensures ∙ ap (λ hs. one_of_each (map g.H.Handler.schema_of hs)) c.as_slice.ensures.value) c.answer-exit.ensures.answered,
    )

pub returns-in-Ok-clause-intended : goal.returns-in-Ok-clause-intended
returns-in-Ok-clause-intended g c = none_asked g.D.Disk g.H.Handler c.args.disk c.answer-exit.new.disk c.args.lanes.items c.args.lanes.items c.args.words.now _ refl

pub returns-in-Err-schemas_of-clause-intended : goal.returns-in-Err-schemas_of-clause-intended
returns-in-Err-schemas_of-clause-intended g c = none_asked g.D.Disk g.H.Handler c.args.disk c.args.disk c.args.lanes.items c.args.lanes.items c.args.words.now _ refl

pub returns-in-Err-clause-intended : goal.returns-in-Err-clause-intended
returns-in-Err-clause-intended g c = none_asked g.D.Disk g.H.Handler c.args.disk c.args.disk c.args.lanes.items c.args.lanes.items c.args.words.now _ refl

pub returns-in-Err-schemas_of-clause-set_at_any_moment : goal.returns-in-Err-schemas_of-clause-set_at_any_moment
returns-in-Err-schemas_of-clause-set_at_any_moment g c is told =
    none (started g.D.Disk.moment g.D.Disk.left_since c.args.disk (IsOldOrKept (g.D.Disk.may_leave c.args.disk) (g.D.Disk.seen c.args.disk)) (λ file left. inl ((g.met.D.Disk g.world.𝓛 g.world.𝓜 g.world.𝓡 ((λ s x. x), (λ x. x), (λ x. x), λ x. x)).only_now c.args.disk file told left)))

pub returns-in-Err-clause-set_at_any_moment : goal.returns-in-Err-clause-set_at_any_moment
returns-in-Err-clause-set_at_any_moment g c is told =
    none (started g.D.Disk.moment g.D.Disk.left_since c.args.disk (IsOldOrKept (g.D.Disk.may_leave c.args.disk) (g.D.Disk.seen c.args.disk)) (λ file left. inl ((g.met.D.Disk g.world.𝓛 g.world.𝓜 g.world.𝓡 ((λ s x. x), (λ x. x), (λ x. x), λ x. x)).only_now c.args.disk file told left)))

pub returns-in-Ok-false-clause-any_moment : goal.returns-in-Ok-false-clause-any_moment
returns-in-Ok-false-clause-any_moment g c not = c.alone.ensures.any_moment

pub returns-in-Ok-false-clause-set_at_any_moment : goal.returns-in-Ok-false-clause-set_at_any_moment
returns-in-Ok-false-clause-set_at_any_moment g c is =
    let drives : is_asking (command_of c.args.words.now) ≡ false = search rules in
    absurd (true≢false (sym (asks_review (command_of c.args.words.now) is) ∙ drives))
