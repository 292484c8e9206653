use Rattle.std.proofs.Common.{◌≡◌, take}
use Rattle.cf_effect.specs.Listed.{pinned_also}
use Rattle.cf_effect.proofs.listed.pin_names.Given as goal

abbrev pub invariant-loop-name : goal.invariant-loop-name
invariant-loop-name l = l.pins ≡ pinned_also l.stack (take l.name-index l.names) l.fn.pins
