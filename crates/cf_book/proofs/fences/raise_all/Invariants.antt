use Rattle.std.proofs.Common.{◌≡◌, drop, take}
use Rattle.cf_book.specs.Fences.{EachRaised, handed_in}
use Rattle.cf_book.proofs.fences.raise_all.Given as goal

-- the fences of those before this place are raised, and the others are as they were
abbrev pub invariant-loop-at : goal.invariant-loop-at
invariant-loop-at g l = record {
  raised : EachRaised (take l.at (handed_in g.H.Handler l.fn.lanes.items)) (take l.at (handed_in g.H.Handler l.lanes.items)) l.epoch;
  rest : drop l.at (handed_in g.H.Handler l.lanes.items) ≡ drop l.at (handed_in g.H.Handler l.fn.lanes.items);
}
