use Rattle.std.proofs.Common.{◌≡◌, ℕ, ◌<◌, List, add-one, ap, arith, drop, get_or, length, length-set, map, set, ◌∙◌}
use Rattle.cf_stacks.specs.Room.{StackStanding}
use Rattle.cf_stacks.specs.Standing.{HasOne, NamedStanding, calls_in, stack_in}
use Rattle.cf_stacks.proofs.Places.{all_before, same_at, written}
use Rattle.cf_stacks.proofs.ready.reserve_each.Goals as goal

pub returns-in_err-reserve-clause-stacks : goal.returns-in_err-reserve-clause-stacks
returns-in_err-reserve-clause-stacks c =
    let xs : List NamedStanding = c.loop-pair.pair-items in
    let i : ℕ = c.loop-pair.pair-index in
    let d : NamedStanding = c.pair-item.result in
    let l : i < length xs = omega (arith, c.loop-pair-test.true, c.loop-pair.auto.pair-items) in
    let ys : List NamedStanding = set xs i ((get_or xs i d).0, c.reserve.new.self) in
    let long : length ys ≡ c.args.pairs.now.len =
    omega (arith, length-set xs i ((get_or xs i d).0, c.reserve.new.self), c.loop-pair.auto.pair-items, c.deref_mut-pair-items.ensures.len, ap (λ (zs : List NamedStanding). length zs) c.deref_mut-pair-items.ensures.value, c.args.pairs.now.ok.0) in
    ap (map stack_in) (written c.args.pairs.now.len ys (drop (length ys) c.args.pairs.now.items) long)
    ∙ same_at stack_in xs i d ((get_or xs i d).0, c.reserve.new.self) l (ap (λ (v : StackStanding). ((get_or xs i d).0, v.stack)) c.reserve.ensures.same) ∙ c.loop-pair.invariant.stacks

pub returns-in_err-reserve-clause-calls : goal.returns-in_err-reserve-clause-calls
returns-in_err-reserve-clause-calls c =
    let xs : List NamedStanding = c.loop-pair.pair-items in
    let i : ℕ = c.loop-pair.pair-index in
    let d : NamedStanding = c.pair-item.result in
    let l : i < length xs = omega (arith, c.loop-pair-test.true, c.loop-pair.auto.pair-items) in
    let ys : List NamedStanding = set xs i ((get_or xs i d).0, c.reserve.new.self) in
    let long : length ys ≡ c.args.pairs.now.len =
    omega (arith, length-set xs i ((get_or xs i d).0, c.reserve.new.self), c.loop-pair.auto.pair-items, c.deref_mut-pair-items.ensures.len, ap (λ (zs : List NamedStanding). length zs) c.deref_mut-pair-items.ensures.value, c.args.pairs.now.ok.0) in
    ap (map calls_in) (written c.args.pairs.now.len ys (drop (length ys) c.args.pairs.now.items) long)
    ∙ same_at calls_in xs i d ((get_or xs i d).0, c.reserve.new.self) l (ap (λ (v : StackStanding). ((get_or xs i d).0, v.awaited)) c.reserve.ensures.same) ∙ c.loop-pair.invariant.calls

pub loop-pair-preserved : goal.loop-pair-preserved
loop-pair-preserved c =
    let xs : List NamedStanding = c.loop-pair.pair-items in
    let i : ℕ = c.loop-pair.pair-index in
    let d : NamedStanding = c.pair-item.result in
    let l : i < length xs = omega (arith, c.loop-pair-test.true, c.loop-pair.auto.pair-items) in
    let y : NamedStanding = ((get_or xs i d).0, c.reserve.new.self) in
    record {
      stacks = same_at stack_in xs i d y l (ap (λ (v : StackStanding). ((get_or xs i d).0, v.stack)) c.reserve.ensures.same) ∙ c.loop-pair.invariant.stacks;
      calls = same_at calls_in xs i d y l (ap (λ (v : StackStanding). ((get_or xs i d).0, v.awaited)) c.reserve.ensures.same) ∙ c.loop-pair.invariant.calls;
      done = rw add-one (all_before HasOne xs i y l c.in_ok-reserve.ensures.ok c.loop-pair.invariant.done);
    }
