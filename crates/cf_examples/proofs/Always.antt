-- Each of these lives is one, so it is as the theorem says.
use Rattle.std.proofs.Common.{List, [], ◌∷◌, subst}
use Rattle.std.specs.Prelude.{◌++◌}
use Rattle.cf_schema.specs.declared.described.Schema.{Schema}
use Rattle.cf_plan.specs.Life.{Event, IsLife, Life, life_after}
use Rattle.cf_core.proofs.Always.{lives_keep_promises}
use Rattle.cf_examples.specs.CrashedLife as broken
use Rattle.cf_examples.specs.FirstLife as first
use Rattle.cf_examples.specs.Given.{schemas}
use Rattle.cf_examples.specs.LateLife as late
use Rattle.cf_examples.specs.DeletedLife as deleted
use Rattle.cf_examples.specs.LeftOutLife as left_out
use Rattle.cf_examples.proofs.CrashedLife as broken_life
use Rattle.cf_examples.proofs.FirstLife as first_life
use Rattle.cf_examples.proofs.LateLife as late_life
use Rattle.cf_examples.proofs.DeletedLife as deleted_life
use Rattle.cf_examples.proofs.LeftOutLife as left_out_life
use Rattle.cf_examples.specs.Always.{IsMet, MetInLives}

-- a life that goes on is one
goes_on : (ss : List Schema) (a b c : Life) (es fs : List Event) → IsLife ss a es b → IsLife ss b fs c → IsLife ss a (es ++ fs) c
goes_on ss a b c [] fs l m = subst (λ x. IsLife ss x fs c) l m
goes_on ss a b c (e ∷ es) fs (may, l) m = (may, goes_on ss (life_after a e) b c es fs l m)

-- the first life, and the deletion of what it made
abbrev until_gone : List Event
until_gone = first.events ++ deleted.until_crashed

gone : IsLife schemas first.start until_gone deleted.unknown
gone = goes_on schemas first.start first.end deleted.unknown first.events deleted.until_crashed first_life.lives deleted_life.crashes

pub met_in_lives : MetInLives
met_in_lives = record {
  before_it_is_written = lives_keep_promises schemas first.start first.unwritten first.until_written first_life.starts first_life.acts;
  first_life = lives_keep_promises schemas first.start first.end first.events first_life.starts first_life.lives;
  while_it_flies = lives_keep_promises schemas first.start broken.crashed broken.until_the_crash first_life.starts broken_life.crashes;
  crashed_life = lives_keep_promises schemas first.start broken.end (broken.until_the_crash ++ broken.after_the_crash) first_life.starts (goes_on schemas first.start broken.crashed broken.end broken.until_the_crash broken.after_the_crash broken_life.crashes broken_life.goes_on);
  as_it_has_acted = lives_keep_promises schemas first.start late.acted late.until_it_acts first_life.starts late_life.acts;
  late_life = lives_keep_promises schemas first.start late.end (late.until_it_acts ++ late.from_then_on) first_life.starts (goes_on schemas first.start late.acted late.end late.until_it_acts late.from_then_on late_life.acts late_life.goes_on);
  as_it_is_gone = lives_keep_promises schemas first.start deleted.unknown until_gone first_life.starts gone;
  deleted_life = lives_keep_promises schemas first.start deleted.end (until_gone ++ deleted.from_then_on) first_life.starts (goes_on schemas first.start deleted.unknown deleted.end until_gone deleted.from_then_on gone deleted_life.goes_on);
  left_out_life = lives_keep_promises schemas left_out.start left_out.end (left_out.until_deleted ++ left_out.from_then_on) left_out_life.starts (goes_on schemas left_out.start left_out.gone left_out.end left_out.until_deleted left_out.from_then_on left_out_life.deletes left_out_life.goes_on);
}
