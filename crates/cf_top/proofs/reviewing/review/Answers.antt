use Rattle.std.proofs.Common.{inl, refl}
use Rattle.cf_top.specs.Reviewing.{closed}
use Rattle.cf_top.proofs.Meeting.{printing, used}
use Rattle.cf_top.proofs.Reviewed.{leaves_so, refused_so, reviewed_so, reviews_proper, reviews_set, wrote_none}
use Rattle.cf_top.proofs.reviewing.review.Goals as goal

pub keep_set-requires-clause-proper : goal.keep_set-requires-clause-proper
keep_set-requires-clause-proper g c = reviews_proper (used g.L.Library c.args.library.now c.order_review.new.library) c.args.schemas.now c.in-Ok.field-0.world.world c.args.stack.now c.args.choice.now c.in-Ok-order_review.set c.in-Ok-order_review.ensures.finds

pub keep_set-requires-clause-is_set : goal.keep_set-requires-clause-is_set
keep_set-requires-clause-is_set g c = reviews_set (used g.L.Library c.args.library.now c.order_review.new.library) c.args.schemas.now c.in-Ok.field-0.world.world c.args.stack.now c.args.choice.now c.in-Ok-order_review.set c.in-Ok-order_review.ensures.finds

-- the change set is kept, or could not be
pub returns-in-Ok-order_review-clause-reviews : goal.returns-in-Ok-order_review-clause-reviews
returns-in-Ok-order_review-clause-reviews g c = reviewed_so g.D.Disk (used g.L.Library c.args.library.now c.order_review.new.library) (printing g.K.Sink c.args.out.now c.keep_set.new.out) c.args.schemas.now c.args.disk.now c.journal_on.new.disk c.args.stack.now c.args.choice.now c.in-Ok.field-0.world.world c.in-Ok.ensures.found c.in-Ok.ensures.kept c.in-Ok.ensures.any_moment c.in-Ok.ensures.room c.keep_set.result c.keep_set.new.disk c.in-Ok-order_review.set c.in-Ok-order_review.ensures.finds c.keep_set.ensures.keeps c.keep_set.ensures.any_moment

pub returns-in-Ok-order_review-clause-leaves : goal.returns-in-Ok-order_review-clause-leaves
returns-in-Ok-order_review-clause-leaves g c told = leaves_so g.D.Disk (used g.L.Library c.args.library.now c.order_review.new.library) (printing g.K.Sink c.args.out.now c.keep_set.new.out) c.args.schemas.now c.args.disk.now c.journal_on.new.disk c.args.stack.now c.args.choice.now c.in-Ok.field-0.world.world c.in-Ok.ensures.found c.in-Ok.ensures.kept c.in-Ok.ensures.any_moment c.in-Ok.ensures.room c.keep_set.result c.keep_set.new.disk c.in-Ok-order_review.set c.in-Ok-order_review.ensures.finds told (wrote_none g.D.Disk c.args.disk.now c.journal_on.new.disk (c.in-Ok.ensures.kept told) (c.in-Ok.ensures.any_moment told) (λ file left. g.met.D.Disk.counts_now c.journal_on.new.disk (g.D.Disk.moment c.args.disk.now) file told (c.in-Ok.ensures.any_moment told).later left)) c.keep_set.ensures.keeps

-- there is none
pub returns-in-Err-order_review-clause-reviews : goal.returns-in-Err-order_review-clause-reviews
returns-in-Err-order_review-clause-reviews g c =
    refused_so g.D.Disk (used g.L.Library c.args.library.now c.order_review.new.library) (printing g.K.Sink c.args.out.now c.print_exit.new.out) c.args.schemas.now c.args.disk.now c.journal_on.new.disk c.args.stack.now c.args.choice.now c.in-Ok.field-0.world.world c.in-Ok.ensures.found c.in-Ok.ensures.kept c.in-Ok.ensures.any_moment c.in-Ok.ensures.room c.print_exit.result
    c.in-Err-order_review.exit c.in-Err-order_review.ensures.finds c.print_exit.ensures.tells

pub returns-in-Err-order_review-clause-leaves : goal.returns-in-Err-order_review-clause-leaves
returns-in-Err-order_review-clause-leaves g c told = inl (wrote_none g.D.Disk c.args.disk.now c.journal_on.new.disk (c.in-Ok.ensures.kept told) (c.in-Ok.ensures.any_moment told) (λ file left. g.met.D.Disk.counts_now c.journal_on.new.disk (g.D.Disk.moment c.args.disk.now) file told (c.in-Ok.ensures.any_moment told).later left))

-- the journal could not be opened
pub returns-in-Err-clause-reviews : goal.returns-in-Err-clause-reviews
returns-in-Err-clause-reviews g c = closed c.in-Err.exit c.in-Err.ensures.cause (refl, refl) c.in-Err.ensures.kept c.in-Err.ensures.any_moment c.print_exit-in-Err.ensures.tells

pub returns-in-Err-clause-leaves : goal.returns-in-Err-clause-leaves
returns-in-Err-clause-leaves g c told = inl (wrote_none g.D.Disk c.args.disk.now c.journal_on.new.disk (c.in-Err.ensures.kept told) (c.in-Err.ensures.any_moment told) (λ file left. g.met.D.Disk.counts_now c.journal_on.new.disk (g.D.Disk.moment c.args.disk.now) file told (c.in-Err.ensures.any_moment told).later left))
