use Rattle.std.proofs.Common.{◌≡◌, ℕ, ◌+◌, take, get_or, vec_len, ◌&&◌, ◌||◌, nat_lt, nat_eq}
use Rattle.std.specs.BTreeSet.{contains}
use Rattle.std.specs.Ordering.{nat_cmp}
use Rattle.cf_graph.specs.Waiting.{copies}
use Rattle.cf_graph.proofs.sequence.release.Given as goal

abbrev pub invariant-loop-at : goal.invariant-loop-at
invariant-loop-at l = record {
  long : vec_len l.missing ≡ vec_len l.initial.missing;
  counted : (p : ℕ) → get_or l.missing.items p 0 + copies p (take l.at-index l.behind) ≡ get_or l.initial.missing.items p 0;
  listed : (p : ℕ) → contains nat_cmp l.ready p ≡ (contains nat_cmp l.initial.ready p || (nat_eq (get_or l.missing.items p 0) 0 && nat_lt 0 (copies p (take l.at-index l.behind))));
}
