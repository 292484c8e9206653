use Rattle.std.proofs.Common.{◌≡◌, drop}
use Rattle.cf_tree.specs.Named.{found}
use Rattle.cf_tree.proofs.list.Listing.find.Given as goal

abbrev pub invariant-loop-item : goal.invariant-loop-item
invariant-loop-item g l = found g.T.Named.name_of l.name l.item-items ≡ found g.T.Named.name_of l.name (drop l.item-index l.item-items)
