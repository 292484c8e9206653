use Rattle.cf_top.proofs.Meeting.{outside, printing, used}
use Rattle.cf_top.proofs.Kept.{kept_alone, labels_same, schemas_given}
use Rattle.cf_top.proofs.Intended.{intended_alone}
use Rattle.cf_top.proofs.Lines.{answers_of, lasts_alone}
use Rattle.cf_top.proofs.top.alone.Goals as goal

pub returns-clause-names : goal.returns-clause-names
returns-clause-names g c =
    labels_same g.H.Handler c.args.lanes.items c.run_words.result.lanes.items (kept_alone g.D.Disk g.H.Handler (outside (used g.L.Library c.args.library.now c.run_words.new.library) c.args.disk c.run_words.result.disk c.args.lanes.items c.run_words.result.lanes.items) (printing g.K.Sink c.args.out.now c.run_words.new.out) c.args.words.now c.run_words.result.exit c.run_words.ensures.tells).same

pub returns-clause-schemas : goal.returns-clause-schemas
returns-clause-schemas g c =
    schemas_given g.H.Handler c.args.lanes.items c.run_words.result.lanes.items (kept_alone g.D.Disk g.H.Handler (outside (used g.L.Library c.args.library.now c.run_words.new.library) c.args.disk c.run_words.result.disk c.args.lanes.items c.run_words.result.lanes.items) (printing g.K.Sink c.args.out.now c.run_words.new.out) c.args.words.now c.run_words.result.exit c.run_words.ensures.tells).same

pub returns-clause-lasts : goal.returns-clause-lasts
returns-clause-lasts g c = lasts_alone g.D.Disk g.H.Handler (outside (used g.L.Library c.args.library.now c.run_words.new.library) c.args.disk c.run_words.result.disk c.args.lanes.items c.run_words.result.lanes.items) (printing g.K.Sink c.args.out.now c.run_words.new.out) c.args.words.now c.run_words.result.exit c.run_words.ensures.tells

pub returns-clause-leaves : goal.returns-clause-leaves
returns-clause-leaves g c told = (kept_alone g.D.Disk g.H.Handler (outside (used g.L.Library c.args.library.now c.run_words.new.library) c.args.disk c.run_words.result.disk c.args.lanes.items c.run_words.result.lanes.items) (printing g.K.Sink c.args.out.now c.run_words.new.out) c.args.words.now c.run_words.result.exit c.run_words.ensures.tells).leaves told

pub returns-clause-agree : goal.returns-clause-agree
returns-clause-agree g c = (kept_alone g.D.Disk g.H.Handler (outside (used g.L.Library c.args.library.now c.run_words.new.library) c.args.disk c.run_words.result.disk c.args.lanes.items c.run_words.result.lanes.items) (printing g.K.Sink c.args.out.now c.run_words.new.out) c.args.words.now c.run_words.result.exit c.run_words.ensures.tells).agrees (λ d told. g.met.D.Disk.seen_may_stay d told)

pub returns-clause-intended : goal.returns-clause-intended
returns-clause-intended g c = intended_alone g.D.Disk g.H.Handler (λ d told. g.met.D.Disk.seen_may_stay d told) (outside (used g.L.Library c.args.library.now c.run_words.new.library) c.args.disk c.run_words.result.disk c.args.lanes.items c.run_words.result.lanes.items) c.args.words.now (printing g.K.Sink c.args.out.now c.run_words.new.out) c.run_words.result.exit c.run_words.ensures.tells

pub returns-clause-answered : goal.returns-clause-answered
returns-clause-answered g c =
    answers_of g.D.Disk g.H.Handler (λ d told. g.met.D.Disk.seen_may_stay d told) (outside (used g.L.Library c.args.library.now c.run_words.new.library) c.args.disk c.run_words.result.disk c.args.lanes.items c.run_words.result.lanes.items) (printing g.K.Sink c.args.out.now c.run_words.new.out) c.args.words.now c.run_words.result.exit c.run_words.ensures.tells
