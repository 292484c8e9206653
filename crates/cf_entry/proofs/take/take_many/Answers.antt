use Rattle.cf_entry.specs.Reading.{many_at}
use Rattle.cf_entry.proofs.Many.{begins, goes_on, ends, is_done}
use Rattle.cf_entry.proofs.take.take_many.Goals as goal

pub loop-init : goal.loop-init
loop-init g c =
    begins g.T.Member.read_at c.args.count c.args.bytes.now c.new-members.result.items c.new-members.ensures.items

pub returns-in-Err : goal.returns-in-Err
returns-in-Err g c =
    ends g.T.Member.read_at c.in-Err.refused c.loop.members.items c.args.count c.loop.counter c.loop.rest.now (many_at g.T.Member.read_at c.args.count c.args.bytes.now) c.loop-test.true c.in-Err.ensures c.loop.invariant

pub loop-preserved : goal.loop-preserved
loop-preserved g c =
    rw c.in_ok-push-in-Ok.ensures.items (goes_on g.T.Member.read_at c.loop.members.items c.args.count c.loop.counter c.loop.rest.now c.in-Ok.member c.in-Ok.after.now (many_at g.T.Member.read_at c.args.count c.args.bytes.now) c.loop-test.true c.in-Ok.ensures c.loop.invariant)

pub returns : goal.returns
returns g c =
    is_done g.T.Member.read_at c.loop.members.items c.args.count c.loop.counter c.loop.rest.now (many_at g.T.Member.read_at c.args.count c.args.bytes.now) c.loop-test.false c.loop.invariant
