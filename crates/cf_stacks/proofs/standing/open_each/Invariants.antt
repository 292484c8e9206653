use Rattle.std.proofs.Common.{◌≡◌, ◌≤◌, ◌+◌, drop, length, map}
use Rattle.std.specs.List.{AllByRecursion}
use Rattle.cf_tree.proofs.Changed.{half_changed}
use Rattle.cf_stacks.specs.Standing.{HasOne, NamedStanding, opened_as}
use Rattle.cf_stacks.proofs.standing.open_each.Given as goal

abbrev pub invariant-loop-pair : goal.invariant-loop-pair
invariant-loop-pair l =
    let f : NamedStanding → NamedStanding = λ s. (s.0, opened_as l.place l.entry s.1) in
    record {
      changed : half_changed f l.pair-index l.pair-items ≡ map f l.fn.pairs.items;
      copies : AllByRecursion (λ e. e ≡ l.entry) l.copies.items;
      enough : length l.pair-items ≤ length l.copies.items + l.pair-index;
      spare : AllByRecursion HasOne (drop l.pair-index l.pair-items);
    }
