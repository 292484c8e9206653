use Rattle.std.proofs.Common.{◌≡◌, ◌+◌, ◌<◌, ◌++◌, length, drop, arith, length-append, append_assoc, refl}
use Rattle.cf_tree.proofs.Falls.{item_falls, pair_falls}
use Rattle.cf_tree.specs.Datum.{items_of, members_of, parts_of, parts_of_items, parts_of_members}
use Rattle.cf_tree.specs.Value.{datum_of, data_of, pairs_of}
use Rattle.cf_entry.specs.Bytes.{four_bytes, text_bytes}
use Rattle.cf_entry.specs.Value.{items_bytes, members_bytes, value_bytes, number_of_items, number_of_members}
use Rattle.cf_entry.proofs.Counts.{items_are, members_are, pairs_are, few_items, few_members, next_item, next_member, no_item_left, no_member_left}
use Rattle.cf_entry.proofs.put.value.+put_value.Goals as goal

pub put_dict-loop-pair-init : goal.put_dict-loop-pair-init
put_dict-loop-pair-init t c =
    let xs = c.as_slice-all.result.now in
    let e = members_are xs in
    let small = c.requires.small in
    let room = c.requires.room in
    let s = c.as_slice-all.ensures.value in
    let n : length (members_bytes (members_of (pairs_of xs))) ≡ length (members_bytes (members_of c.args.pairs.now)) = rw s refl in
    record {
      small = omega arith;
      room = omega arith;
      so_far = rw (e, c.put_four.ensures.0) (append_assoc c.args.to.now.items (four_bytes (length xs)) (members_bytes (members_of (pairs_of xs))));
      so_long = omega arith;
      capacity = c.put_four.ensures.2;
      fits = λ h. h;
    }

pub put_dict-put_value-requires : goal.put_dict-put_value-requires
put_dict-put_value-requires t c =
    let xs = c.as_slice-all.result.now in
    let i = c.loop-pair.pair-index in
    let r = c.pair-item.result in
    let a : parts_of (datum_of r.value) < parts_of_members (members_of (pairs_of xs)) = rw c.pair-item.is (pair_falls xs i r c.loop-pair-test.true) in
    let b : length (members_bytes (members_of (pairs_of (drop i xs)))) ≡ length (text_bytes r.name ++ (value_bytes (datum_of r.value) ++ members_bytes (members_of (pairs_of (drop (i + 1) xs))))) = rw (next_member xs i r c.loop-pair-test.true c.pair-item.is) refl in
    let l = length-append (text_bytes r.name) (value_bytes (datum_of r.value) ++ members_bytes (members_of (pairs_of (drop (i + 1) xs)))) in
    let m = length-append (value_bytes (datum_of r.value)) (members_bytes (members_of (pairs_of (drop (i + 1) xs)))) in
    let small = c.loop-pair.invariant.small in
    let room = c.loop-pair.invariant.room in
    let long = c.put_text.ensures.added.1 in
    let kept = c.put_text.ensures.added.2 in
    (rw (← c.decreases, ← c.as_slice-all.ensures.value) a, (omega arith, omega arith))

pub put_dict-returns-clause-fits : goal.put_dict-returns-clause-fits
put_dict-returns-clause-fits t c =
    let xs = c.as_slice-all.result.now in
    let s = c.as_slice-all.ensures.value in
    let n : number_of_members (members_of c.args.pairs.now) ≡ length xs = rw (← s) (members_are xs) in
    let few = few_members xs c.args.pairs.now s c.requires.small in
    (omega arith, rw (pairs_are c.args.pairs.now, ← s) c.as_slice-all.ensures.in_order, rw (← s) (c.loop-pair.invariant.fits (no_member_left xs c.loop-pair.pair-index c.loop-pair-test.false)))

pub put_values-loop-value-init : goal.put_values-loop-value-init
put_values-loop-value-init t c =
    let xs = c.as_slice-all.result.now in
    let e = items_are xs in
    let small = c.requires.small in
    let room = c.requires.room in
    let s = c.as_slice-all.ensures in
    let n : length (items_bytes (items_of (data_of xs))) ≡ length (items_bytes (items_of c.args.values.now)) = rw s refl in
    record {
      small = omega arith;
      room = omega arith;
      so_far = rw (e, c.put_four.ensures.0) (append_assoc c.args.to.now.items (four_bytes (length xs)) (items_bytes (items_of (data_of xs))));
      so_long = omega arith;
      capacity = c.put_four.ensures.2;
      fits = λ h. h;
    }

pub put_values-put_value-requires : goal.put_values-put_value-requires
put_values-put_value-requires t c =
    let xs = c.as_slice-all.result.now in
    let i = c.loop-value.value-index in
    let r = c.value-item.result in
    let a : parts_of (datum_of r) < parts_of_items (items_of (data_of xs)) = rw c.value-item.is (item_falls xs i r c.loop-value-test.true) in
    let b : length (items_bytes (items_of (data_of (drop i xs)))) ≡ length (value_bytes (datum_of r) ++ items_bytes (items_of (data_of (drop (i + 1) xs)))) = rw (next_item xs i r c.loop-value-test.true c.value-item.is) refl in
    let l = length-append (value_bytes (datum_of r)) (items_bytes (items_of (data_of (drop (i + 1) xs)))) in
    let small = c.loop-value.invariant.small in
    let room = c.loop-value.invariant.room in
    (rw (← c.decreases, ← c.as_slice-all.ensures) a, (omega arith, omega arith))

pub put_values-returns-clause-fits : goal.put_values-returns-clause-fits
put_values-returns-clause-fits t c =
    let xs = c.as_slice-all.result.now in
    let s = c.as_slice-all.ensures in
    let n : number_of_items (items_of c.args.values.now) ≡ length xs = rw (← s) (items_are xs) in
    let few = few_items xs c.args.values.now s c.requires.small in
    (omega arith, rw (← s) (c.loop-value.invariant.fits (no_item_left xs c.loop-value.value-index c.loop-value-test.false)))
