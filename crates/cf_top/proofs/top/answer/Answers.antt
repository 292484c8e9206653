use Rattle.std.proofs.Common.{◌≡◌, ◌∙◌, true, false, List, ℕ, Option, Some, None, option_and_then, refl, inl, inr, sym, ap, true≢false}
use Rattle.cf_face.specs.declared.words.Choice.{Choice}
use Rattle.cf_face.specs.declared.words.Command.{Command}
use Rattle.cf_face.specs.declared.words.Command.TheVariants as command
use Rattle.cf_face.specs.declared.words.Question.{Question}
use Rattle.cf_face.specs.declared.words.Question.TheVariants.{Review}
use Rattle.cf_face.specs.Words.{command_of, question_of}
use Rattle.cf_face.specs.declared.exit.Exit.TheVariants as exit
use Rattle.cf_top.specs.Answer.{asks_nothing, is_asking, is_review, question_words, reviews, tells, validates}
use Rattle.cf_top.specs.Reviewing.{none}
use Rattle.cf_journal.specs.Record.{IsOldOrKept}
use Rattle.cf_journal.proofs.Moments.{started}
use Rattle.cf_top.proofs.Meeting.{printing, used}
use Rattle.cf_top.proofs.Reviewed.{adds_one}
use Rattle.cf_top.proofs.top.answer.Goals as goal

-- a command that asks nothing drives handlers
no_question : (c : Option Command) → option_and_then question_of c ≡ None → is_asking c ≡ false
no_question None e = refl
no_question (Some (command.Deploy stack template given)) e = refl
no_question (Some (command.ContinueRollback stack paths)) e = refl
no_question (Some (command.Resume stack)) e = refl
no_question (Some (command.ExecuteSet stack number)) e = refl
no_question (Some (command.Load count)) e = refl
no_question (Some (command.Describe stack)) e = absurd (cc)
no_question (Some (command.Events stack)) e = absurd (cc)
no_question (Some command.List) e = absurd (cc)
no_question (Some (command.DescribeSet stack number)) e = absurd (cc)
no_question (Some (command.Validate template)) e = absurd (cc)
no_question (Some (command.CreateSet stack template given)) e = absurd (cc)

-- a review is one
is_reviewed : (q : Option Question) (stack : List ℕ) (choice : Choice) → q ≡ Some (Review stack choice) → is_review q ≡ false → ⊥
is_reviewed q stack choice is not = true≢false (sym (ap is_review is) ∙ not)

-- a template is validated
pub returns-in-Ok-Some-Validate-clause-answered : goal.returns-in-Ok-Some-Validate-clause-answered
returns-in-Ok-Some-Validate-clause-answered g c =
    validates c.in-Ok-Some-Validate.template c.validate-exit.result
    (sym c.in-Ok-Some-Validate.ensures ∙ c.in-Ok-Some-Validate.field-0-is ∙ ap (λ (q : Question). Some q) c.in-Ok-Some-Validate.field-0-0-is)
    c.validate-exit.ensures.validates refl c.print_exit.ensures.tells

pub returns-in-Ok-Some-Validate-clause-any_moment : goal.returns-in-Ok-Some-Validate-clause-any_moment
returns-in-Ok-Some-Validate-clause-any_moment g c not told =
    started g.D.Disk.moment g.D.Disk.left_since c.args.disk.now (IsOldOrKept (g.D.Disk.may_leave c.args.disk.now) (g.D.Disk.seen c.args.disk.now)) (λ file left. inl (g.met.D.Disk.only_now c.args.disk.now file told left))

pub returns-in-Ok-Some-Validate-clause-leaves : goal.returns-in-Ok-Some-Validate-clause-leaves
returns-in-Ok-Some-Validate-clause-leaves g c not told = λ file left. inl left

pub returns-in-Ok-Some-Validate-clause-set_at_any_moment : goal.returns-in-Ok-Some-Validate-clause-set_at_any_moment
returns-in-Ok-Some-Validate-clause-set_at_any_moment g c told =
    none (started g.D.Disk.moment g.D.Disk.left_since c.args.disk.now (IsOldOrKept (g.D.Disk.may_leave c.args.disk.now) (g.D.Disk.seen c.args.disk.now)) (λ file left. inl (g.met.D.Disk.only_now c.args.disk.now file told left)))

pub returns-in-Ok-Some-Validate-clause-set_leaves : goal.returns-in-Ok-Some-Validate-clause-set_leaves
returns-in-Ok-Some-Validate-clause-set_leaves g c told = inl (record { kept = record { same = refl; bytes = inr refl }; each = λ file left. inl left })

-- the journal tells
pub returns-in-Ok-Some-Tell-clause-answered : goal.returns-in-Ok-Some-Tell-clause-answered
returns-in-Ok-Some-Tell-clause-answered g c =
    tells c.in-Ok-Some-Tell.what (sym c.in-Ok-Some-Tell.ensures ∙ c.in-Ok-Some-Tell.field-0-is ∙ ap (λ (q : Question). Some q) c.in-Ok-Some-Tell.field-0-0-is) (refl, refl)
    c.tell_from.ensures.kept c.tell_from.ensures.tells

pub returns-in-Ok-Some-Tell-clause-any_moment : goal.returns-in-Ok-Some-Tell-clause-any_moment
returns-in-Ok-Some-Tell-clause-any_moment g c not told = c.tell_from.ensures.any_moment told

pub returns-in-Ok-Some-Tell-clause-leaves : goal.returns-in-Ok-Some-Tell-clause-leaves
returns-in-Ok-Some-Tell-clause-leaves g c not told =
    let all = c.tell_from.ensures.any_moment told in λ file left. all.each file (g.met.D.Disk.counts_now c.tell_from.new.disk (g.D.Disk.moment c.args.disk.now) file told all.later left)

pub returns-in-Ok-Some-Tell-clause-set_at_any_moment : goal.returns-in-Ok-Some-Tell-clause-set_at_any_moment
returns-in-Ok-Some-Tell-clause-set_at_any_moment g c told =
    none (c.tell_from.ensures.any_moment told)

pub returns-in-Ok-Some-Tell-clause-set_leaves : goal.returns-in-Ok-Some-Tell-clause-set_leaves
returns-in-Ok-Some-Tell-clause-set_leaves g c told =
    let all = c.tell_from.ensures.any_moment told in
    inl (record {
      kept = c.tell_from.ensures.kept told;
      each = λ file left. all.each file (g.met.D.Disk.counts_now c.tell_from.new.disk (g.D.Disk.moment c.args.disk.now) file told all.later left);
    })

-- a change set is kept
pub returns-in-Ok-Some-Review-clause-answered : goal.returns-in-Ok-Some-Review-clause-answered
returns-in-Ok-Some-Review-clause-answered g c =
    reviews c.in-Ok-Some-Review.stack c.in-Ok-Some-Review.choice
    (sym c.in-Ok-Some-Review.ensures ∙ c.in-Ok-Some-Review.field-0-is ∙ ap (λ (q : Question). Some q) c.in-Ok-Some-Review.field-0-0-is) c.review.ensures.reviews

pub returns-in-Ok-Some-Review-clause-set_at_any_moment : goal.returns-in-Ok-Some-Review-clause-set_at_any_moment
returns-in-Ok-Some-Review-clause-set_at_any_moment g c told =
    adds_one g.D.Disk (used g.L.Library c.args.library.now c.review.new.library) (printing g.K.Sink c.args.out.now c.review.new.out) c.args.schemas.now c.args.disk.now c.review.new.disk
    c.in-Ok-Some-Review.stack c.in-Ok-Some-Review.choice c.review.result told c.review.ensures.reviews

pub returns-in-Ok-Some-Review-clause-kept : goal.returns-in-Ok-Some-Review-clause-kept
returns-in-Ok-Some-Review-clause-kept g c not =
    absurd (is_reviewed (question_words c.args.words.now) c.in-Ok-Some-Review.stack c.in-Ok-Some-Review.choice
    (sym c.in-Ok-Some-Review.ensures ∙ c.in-Ok-Some-Review.field-0-is ∙ ap (λ (q : Question). Some q) c.in-Ok-Some-Review.field-0-0-is) not)

pub returns-in-Ok-Some-Review-clause-any_moment : goal.returns-in-Ok-Some-Review-clause-any_moment
returns-in-Ok-Some-Review-clause-any_moment g c not =
    absurd (is_reviewed (question_words c.args.words.now) c.in-Ok-Some-Review.stack c.in-Ok-Some-Review.choice
    (sym c.in-Ok-Some-Review.ensures ∙ c.in-Ok-Some-Review.field-0-is ∙ ap (λ (q : Question). Some q) c.in-Ok-Some-Review.field-0-0-is) not)

pub returns-in-Ok-Some-Review-clause-leaves : goal.returns-in-Ok-Some-Review-clause-leaves
returns-in-Ok-Some-Review-clause-leaves g c not =
    absurd (is_reviewed (question_words c.args.words.now) c.in-Ok-Some-Review.stack c.in-Ok-Some-Review.choice
    (sym c.in-Ok-Some-Review.ensures ∙ c.in-Ok-Some-Review.field-0-is ∙ ap (λ (q : Question). Some q) c.in-Ok-Some-Review.field-0-0-is) not)

-- nothing is asked, or there is no memory
pub returns-in-Ok-None-clause-answered : goal.returns-in-Ok-None-clause-answered
returns-in-Ok-None-clause-answered g c =
    let asks : is_asking (command_of c.args.words.now) ≡ false = no_question (command_of c.args.words.now) (sym c.in-Ok-None.ensures ∙ c.in-Ok-None.field-0-is) in
    asks_nothing exit.BadWords (inl (refl, asks)) (refl, refl) refl c.print_exit-in-Ok-None.ensures.tells

pub returns-in-Ok-None-clause-any_moment : goal.returns-in-Ok-None-clause-any_moment
returns-in-Ok-None-clause-any_moment g c not told =
    started g.D.Disk.moment g.D.Disk.left_since c.args.disk.now (IsOldOrKept (g.D.Disk.may_leave c.args.disk.now) (g.D.Disk.seen c.args.disk.now)) (λ file left. inl (g.met.D.Disk.only_now c.args.disk.now file told left))

pub returns-in-Ok-None-clause-leaves : goal.returns-in-Ok-None-clause-leaves
returns-in-Ok-None-clause-leaves g c not told = λ file left. inl left

pub returns-in-Ok-None-clause-set_at_any_moment : goal.returns-in-Ok-None-clause-set_at_any_moment
returns-in-Ok-None-clause-set_at_any_moment g c told =
    none (started g.D.Disk.moment g.D.Disk.left_since c.args.disk.now (IsOldOrKept (g.D.Disk.may_leave c.args.disk.now) (g.D.Disk.seen c.args.disk.now)) (λ file left. inl (g.met.D.Disk.only_now c.args.disk.now file told left)))

pub returns-in-Ok-None-clause-set_leaves : goal.returns-in-Ok-None-clause-set_leaves
returns-in-Ok-None-clause-set_leaves g c told = inl (record { kept = record { same = refl; bytes = inr refl }; each = λ file left. inl left })

pub returns-in-Err-clause-answered : goal.returns-in-Err-clause-answered
returns-in-Err-clause-answered g c = asks_nothing exit.NoMemory (inr refl) (refl, refl) refl c.print_exit-in-Err.ensures.tells

pub returns-in-Err-clause-any_moment : goal.returns-in-Err-clause-any_moment
returns-in-Err-clause-any_moment g c not told =
    started g.D.Disk.moment g.D.Disk.left_since c.args.disk.now (IsOldOrKept (g.D.Disk.may_leave c.args.disk.now) (g.D.Disk.seen c.args.disk.now)) (λ file left. inl (g.met.D.Disk.only_now c.args.disk.now file told left))

pub returns-in-Err-clause-leaves : goal.returns-in-Err-clause-leaves
returns-in-Err-clause-leaves g c not told = λ file left. inl left

pub returns-in-Err-clause-set_at_any_moment : goal.returns-in-Err-clause-set_at_any_moment
returns-in-Err-clause-set_at_any_moment g c told =
    none (started g.D.Disk.moment g.D.Disk.left_since c.args.disk.now (IsOldOrKept (g.D.Disk.may_leave c.args.disk.now) (g.D.Disk.seen c.args.disk.now)) (λ file left. inl (g.met.D.Disk.only_now c.args.disk.now file told left)))

pub returns-in-Err-clause-set_leaves : goal.returns-in-Err-clause-set_leaves
returns-in-Err-clause-set_leaves g c told = inl (record { kept = record { same = refl; bytes = inr refl }; each = λ file left. inl left })
