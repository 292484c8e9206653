use Rattle.std.proofs.Common.{◌≡◌, ◌++◌, ◌∷◌, []}
use Rattle.std.proofs.lemmas.List.{map_push}
use Rattle.cf_tree.specs.Value.{datum_of, data_of, pairs_of}
use Rattle.cf_entry.specs.Reading.{many_at, datum_at, then_at, text_at}
use Rattle.cf_entry.proofs.Many.{goes_on, ends, is_done}
use Rattle.cf_entry.proofs.take.value.+take_value.Goals as goal

pub take_many_values-returns-in-Err : goal.take_many_values-returns-in-Err
take_many_values-returns-in-Err t c =
    let one = datum_at c.args.depth in
    ends one c.in-Err.refused (data_of c.loop.values.items) c.args.count c.loop.counter c.loop.rest.now (many_at one c.args.count c.args.bytes.now) c.loop-test.true c.in-Err.ensures c.loop.invariant

pub take_many_values-loop-preserved : goal.take_many_values-loop-preserved
take_many_values-loop-preserved t c =
    let one = datum_at c.args.depth in
    let v = c.in-Ok.value in
    let e : data_of c.push.new.self.items ≡ data_of c.loop.values.items ++ datum_of v ∷ [] = rw c.in_ok-push-in-Ok.ensures.items (map_push datum_of c.loop.values.items v) in
    rw e (goes_on one (data_of c.loop.values.items) c.args.count c.loop.counter c.loop.rest.now (datum_of v) c.in-Ok.after.now (many_at one c.args.count c.args.bytes.now) c.loop-test.true c.in-Ok.ensures c.loop.invariant)

pub take_many_values-returns : goal.take_many_values-returns
take_many_values-returns t c =
    let one = datum_at c.args.depth in
    is_done one (data_of c.loop.values.items) c.args.count c.loop.counter c.loop.rest.now (many_at one c.args.count c.args.bytes.now) c.loop-test.false c.loop.invariant

pub take_many_pairs-returns-in-Err : goal.take_many_pairs-returns-in-Err
take_many_pairs-returns-in-Err t c =
    let one = then_at text_at (datum_at c.args.depth) in
    ends one c.in-Err.refused (pairs_of c.loop.pairs.items) c.args.count c.loop.counter c.loop.rest.now (many_at one c.args.count c.args.bytes.now) c.loop-test.true c.in-Err.ensures c.loop.invariant

pub take_many_pairs-loop-preserved : goal.take_many_pairs-loop-preserved
take_many_pairs-loop-preserved t c =
    let one = then_at text_at (datum_at c.args.depth) in
    let p = c.in-Ok.pair in
    let e : pairs_of c.push.new.self.items ≡ pairs_of c.loop.pairs.items ++ (p.name, datum_of p.value) ∷ [] = rw c.in_ok-push-in-Ok.ensures.items (map_push (λ q. (q.name, datum_of q.value)) c.loop.pairs.items p) in
    rw e (goes_on one (pairs_of c.loop.pairs.items) c.args.count c.loop.counter c.loop.rest.now (p.name, datum_of p.value) c.in-Ok.after.now (many_at one c.args.count c.args.bytes.now) c.loop-test.true c.in-Ok.ensures c.loop.invariant)

pub take_many_pairs-returns : goal.take_many_pairs-returns
take_many_pairs-returns t c =
    let one = then_at text_at (datum_at c.args.depth) in
    is_done one (pairs_of c.loop.pairs.items) c.args.count c.loop.counter c.loop.rest.now (many_at one c.args.count c.args.bytes.now) c.loop-test.false c.loop.invariant
