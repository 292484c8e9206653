use Rattle.std.proofs.Common.{◌≡◌, ◌&&◌, ◌==◌, take}
use Rattle.std.specs.Prelude.{count_by}
use Rattle.cf_effect.specs.Operation.{is_doubt}
use Rattle.cf_plan.specs.Called.{reply_passes}
use Rattle.cf_plan.proofs.calls.doubts_in.Given as goal

abbrev pub invariant-loop-heard : goal.invariant-loop-heard
invariant-loop-heard l = l.count ≡ count_by (λ e. reply_passes (λ r. l.token == r.token && is_doubt r.answer) e) (take l.heard-index l.entries)
