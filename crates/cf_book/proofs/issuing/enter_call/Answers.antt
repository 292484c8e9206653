use Rattle.std.proofs.Common.{arith, false, true, sym, subst}
use Rattle.cf_book.specs.Lending.{AwaitsAs, EntersIn}
use Rattle.std.proofs.Common.{OnOk}
use Rattle.cf_book.proofs.Again.{ok_so}
use Rattle.cf_book.proofs.issuing.enter_call.Goals as goal

pub returns-then-repeated-clause-enters : goal.returns-then-repeated-clause-enters
returns-then-repeated-clause-enters g c =
    subst (λ t. EntersIn g.D.Disk c.args.record.now c.enter_again.new.record t c.args.intent c.enter_again.result) (sym c.if-repeated.true) c.enter_again.ensures.enters

pub returns-then-repeated-clause-opened : goal.returns-then-repeated-clause-opened
returns-then-repeated-clause-opened g c = ok_so c.enter_again.result c.enter_again.ensures.opened

pub returns-then-repeated-clause-awaits : goal.returns-then-repeated-clause-awaits
returns-then-repeated-clause-awaits g c =
    subst (λ t. OnOk c.enter_again.result (AwaitsAs t c.args.record.now.world c.args.intent c.enter_again.new.record.world)) (sym c.if-repeated.true) c.enter_again.ensures.awaits

pub returns-then-repeated-clause-spare : goal.returns-then-repeated-clause-spare
returns-then-repeated-clause-spare g c = let same = c.enter_again.ensures.spare in omega (arith, same)

pub returns-else-repeated-clause-enters : goal.returns-else-repeated-clause-enters
returns-else-repeated-clause-enters g c =
    subst (λ t. EntersIn g.D.Disk c.args.record.now c.write.new.record t c.args.intent c.write.result) (sym c.if-repeated.false) c.write.ensures.writes

pub returns-else-repeated-clause-awaits : goal.returns-else-repeated-clause-awaits
returns-else-repeated-clause-awaits g c =
    subst (λ t. OnOk c.write.result (AwaitsAs t c.args.record.now.world c.args.intent c.write.new.record.world)) (sym c.if-repeated.false) c.write.ensures.steps
