use Rattle.std.proofs.Common.{rules, ◌≡◌, ◌+◌, ◌-◌, ◌≤◌, length, take, drop, arith, subst, length-take, length-drop}
use Rattle.cf_journal.proofs.Moments.{still_unchanged}
use Rattle.cf_journal.proofs.Pieces.{piece}
use Rattle.cf_journal.proofs.calls.fill.Goals as goal
use borrow.Rule.Slice.PartMut.{put_mid}

pub loop-at-preserved : goal.loop-at-preserved
loop-at-preserved g c =
    let disk = g.D.Disk in
    let low : c.min.result + c.loop-at.at ≤ length c.loop-at.bytes = search rules in
    record {
      within = search rules;
      filled = λ told.
          let file = g.D.Disk.seen c.args.disk.now in
          let got : c.read.new.buf ≡ take (length (take (c.loop-at.at + c.min.result - c.loop-at.at) (drop c.loop-at.at c.loop-at.bytes))) (drop c.loop-at.at file) =
          subst (λ f. c.read.new.buf ≡ take (length (take (c.loop-at.at + c.min.result - c.loop-at.at) (drop c.loop-at.at c.loop-at.bytes))) (drop c.loop-at.at f)) (c.loop-at.invariant.unchanged told).same (c.in_ok-read.ensures.bytes told) in
          let same : length (take (c.loop-at.at + c.min.result - c.loop-at.at) (drop c.loop-at.at c.loop-at.bytes)) ≡ c.loop-at.at + c.min.result - c.loop-at.at =
          omega (arith, length-take (c.loop-at.at + c.min.result - c.loop-at.at) (drop c.loop-at.at c.loop-at.bytes), length-drop c.loop-at.at c.loop-at.bytes) in
          let long : length c.read.new.buf ≡ c.loop-at.at + c.min.result - c.loop-at.at = omega (arith, c.read.auto.buf) in
          subst (λ n. take n (put_mid c.loop-at.at (c.loop-at.at + c.min.result - c.loop-at.at) c.loop-at.bytes c.read.new.buf) ≡ take n file) (omega arith)
          (piece file c.loop-at.bytes c.read.new.buf c.loop-at.at (c.loop-at.at + c.min.result - c.loop-at.at) _ (c.loop-at.invariant.filled told) (omega arith) got long same);
      unchanged = λ told. still_unchanged disk.moment disk.left_since disk.seen disk.may_leave (λ d f left. g.met.D.Disk.only_now d f told left) c.args.disk.now c.loop-at.disk c.read.new.self
          (c.loop-at.invariant.unchanged told) (c.read.ensures.seen told) (c.read.ensures.crash told) (c.read.ensures.time told);
      room = search rules;
      count = search rules;
    }
