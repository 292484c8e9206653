use Rattle.std.proofs.Common.{◌≡◌, ◌-◌}
use Rattle.cf_entry.specs.Reading.{many_at}
use Rattle.cf_entry.proofs.Many.{with_front}
use Rattle.cf_entry.proofs.take.take_many.Given as goal

abbrev pub invariant-loop : goal.invariant-loop
invariant-loop g l = with_front l.members.items (many_at g.T.Member.read_at (l.count - l.counter) l.rest) ≡ many_at g.T.Member.read_at l.count l.bytes
