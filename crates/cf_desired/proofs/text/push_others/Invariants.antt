use Rattle.std.proofs.Common.{◌≡◌, ◌++◌, codes, flat_map, string_bytes, take}
use Rattle.json.specs.Print.{quoted}
use Rattle.cf_desired.proofs.text.push_others.Given as goal

abbrev pub invariant-loop-name : goal.invariant-loop-name
invariant-loop-name l = string_bytes l.list ≡ string_bytes l.fn.list ++ flat_map (λ n. codes "," ++ quoted n) (take l.name-index l.names)
