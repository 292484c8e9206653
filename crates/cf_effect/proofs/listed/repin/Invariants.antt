use Rattle.std.proofs.Common.{◌≡◌, fold, filter, map, take}
use Rattle.cf_tree.specs.Lists.{insert_by}
use Rattle.cf_effect.specs.Listed.{is_before, not_pin_of, pin_of}
use Rattle.cf_effect.proofs.listed.repin.Given as goal

abbrev pub invariant-loop-name : goal.invariant-loop-name
invariant-loop-name l = l.pins ≡ fold (insert_by is_before) (filter (not_pin_of l.stack) l.fn.pins) (map (pin_of l.stack) (take l.name-index l.names))
