use Rattle.std.proofs.Common.{◌≡◌, fold, take}
use Rattle.cf_desired.specs.Kept.{IsShape}
use Rattle.cf_desired.specs.Work.{Body}
use Rattle.cf_change.proofs.Along.{found_under}
use Rattle.cf_change.proofs.found.find_all.Given as goal

abbrev pub invariant-loop-member : goal.invariant-loop-member
invariant-loop-member l =
    (b : Body) → IsShape l.shape b → l.found ≡ fold (found_under l.schemas l.held l.source b) l.fn.found (take l.member-index l.members)
