use Rattle.std.proofs.Common.{arith}
use Rattle.cf_effect.proofs.state.State.settle.Goals as goal

pub returns-in-Some-clause-spare : goal.returns-in-Some-clause-spare
returns-in-Some-clause-spare c = λ n h. c.respond.ensures.spare n (record {
  made = h.made;
  tokens = omega (arith, h.tokens, c.take_call.ensures.len, c.take_call.ensures.capacity);
  events = h.events;
  entries = h.entries;
  ledger = omega (arith, h.ledger, c.answer_call.ensures.len, c.answer_call.ensures.capacity);
})
