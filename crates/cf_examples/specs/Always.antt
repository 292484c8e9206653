-- The theorem, of the worked lives: what always holds is met at their ends, and midway: before an answer is written down, while a call
-- flies, as a late effect has acted of which nobody knows, and as a resource is gone of which nobody knows (this project's own).
use Rattle.cf_plan.specs.Life.{Life}
use Rattle.cf_plan.specs.Promise.{AreKept}
use Rattle.cf_core.specs.Theorem.{HoldsAlways}
use Rattle.cf_examples.specs.CrashedLife as broken
use Rattle.cf_examples.specs.FirstLife as first
use Rattle.cf_examples.specs.Given.{schemas}
use Rattle.cf_examples.specs.LateLife as late
use Rattle.cf_examples.specs.DeletedLife as deleted
use Rattle.cf_examples.specs.LeftOutLife as left_out

abbrev pub IsMet : Life → Type 0
IsMet life = HoldsAlways schemas life × AreKept life

pub record MetInLives : Type 0 where
  pub before_it_is_written : IsMet first.unwritten
  pub first_life : IsMet first.end
  pub while_it_flies : IsMet broken.crashed
  pub crashed_life : IsMet broken.end
  pub as_it_has_acted : IsMet late.acted
  pub late_life : IsMet late.end
  pub as_it_is_gone : IsMet deleted.unknown
  pub deleted_life : IsMet deleted.end
  pub left_out_life : IsMet left_out.end
