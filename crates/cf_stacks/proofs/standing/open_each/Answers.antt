use Rattle.std.proofs.Common.{◌≡◌, ℕ, ◌<◌, List, [], ◌∷◌, ◌++◌, Option, arith, add-one, ap, get_or, length, length-append, length-set, subst, ◌∙◌}
use Rattle.std.specs.List.{AllByRecursion}
use Rattle.std.specs.Option.{option_to_list}
use Rattle.cf_tree.proofs.Changed.{changed_next}
use Rattle.cf_entry.specs.declared.entry.Entry.{Entry}
use Rattle.cf_stacks.specs.Room.{StackStanding}
use Rattle.cf_stacks.specs.Standing.{HasOne, NamedStanding, opened_as}
use Rattle.cf_stacks.proofs.Places.{all_behind, all_last}
use Rattle.cf_stacks.proofs.standing.open_each.Goals as goal

pub loop-pair-preserved : goal.loop-pair-preserved
loop-pair-preserved c =
    let xs : List NamedStanding = c.loop-pair.pair-items in
    let i : ℕ = c.loop-pair.pair-index in
    let d : NamedStanding = c.pair-item.result in
    let l : i < length xs = omega (arith, c.loop-pair-test.true, c.loop-pair.auto.pair-items) in
    let f : NamedStanding → NamedStanding = λ s. (s.0, opened_as c.args.place c.args.entry.now s.1) in
    let y : NamedStanding = ((get_or xs i d).0, c.open.new.self) in
    let split : c.loop-pair.copies.items ≡ c.pop.new.self.items ++ c.in-Some.copy ∷ [] =
    c.pop.ensures.items ∙ ap (λ (o : Option Entry). c.pop.new.self.items ++ option_to_list o) c.in-Some.is in
    let copies = all_last (λ (e : Entry). e ≡ c.args.entry.now) c.pop.new.self.items c.in-Some.copy (subst (AllByRecursion (λ (e : Entry). e ≡ c.args.entry.now)) split c.loop-pair.invariant.copies) in
    let so : y ≡ f (get_or xs i d) =
    ap (λ (v : StackStanding). ((get_or xs i d).0, v))
    (c.open.ensures ∙ ap (λ (e : Entry). opened_as c.args.place e (get_or xs i d).1) copies.0) in
    let fewer = ap (λ (es : List Entry). length es) split in
    record {
      changed = rw add-one (changed_next f xs i d y l so ∙ c.loop-pair.invariant.changed);
      copies = copies.1;
      enough = omega (arith, c.loop-pair.invariant.enough, fewer, length-append c.pop.new.self.items (c.in-Some.copy ∷ []), length-set xs i y);
      spare = rw add-one (all_behind HasOne xs i y l c.loop-pair.invariant.spare);
    }
