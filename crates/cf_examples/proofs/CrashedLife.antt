-- The life with a crash.
use Rattle.std.proofs.Common.{refl, List, [], ◌∷◌, ℕ, inr, lit≤}
use Rattle.std.specs.Prelude.{codes}
use Rattle.cf_effect.specs.declared.held.Pending.{Pending}
use Rattle.cf_effect.specs.World.{StackState, World, empty_world, known_stack}
use Rattle.cf_effect.specs.Status.{Forward}
use Rattle.cf_effect.specs.Fold.{world_after}
use Rattle.cf_plan.specs.Forward.{AllDone, IsDone, is_made}
use Rattle.cf_tree.specs.Lists.{here}
use Rattle.cf_tree.specs.Lists.{In}
use Rattle.cf_plan.specs.Follow.{MayFollow, MayRepeat, IsLaneFor}
use Rattle.cf_examples.specs.Given.{file, schemas}
use Rattle.cf_examples.specs.FirstResource.{done, web}
use Rattle.cf_examples.specs.FirstLife.{start}
use Rattle.cf_examples.specs.CrashedLife.{late, opened_again, answered_later, until_the_crash, after_the_crash, crashed, end, Crashes, GoesOn}
use Rattle.cf_examples.proofs.Computing.{computing}
use Rattle.cf_examples.proofs.Lists.{in_none, only}
use Rattle.cf_examples.proofs.Failing.{sound}
use Rattle.cf_examples.proofs.Ending.{end_of_create}
use Rattle.cf_examples.proofs.Beginning.{opens_one}
use Rattle.cf_examples.proofs.Living as step
use Rattle.cf_examples.proofs.Living.{IsLived}
use Rattle.cf_examples.proofs.FirstResource.{world_1, world_2, world_3, opens, begins, intends}

-- The worlds behind the crash.
abbrev pub world_4 : World
world_4 = world_after world_3 opened_again

abbrev world_5 : World
world_5 = world_after world_4 answered_later

abbrev pub app_in : World → StackState
app_in x = known_stack (codes "app") x

abbrev pub pending : Pending
pending = record { token = 1; path = codes "Web"; lane = codes "f1"; request = late.request }

pub opens_again : MayFollow schemas world_3 [] opened_again
unfolding computing
opens_again = (refl, refl, opens_one ((codes "f1", file) ∷ []) world_3 (codes "app") (app_in world_3) refl ((λ h i. absurd (in_none i)), (λ p i. only (λ (q : Pending). (l : List ℕ × List ℕ) × In l ((codes "f1", file) ∷ []) × IsLaneFor q l) {a = pending} ((codes "f1", file), here, (refl, refl)) p i)))

repeats : MayRepeat schemas (codes "app") world_4 [] (app_in world_4) Forward pending
unfolding computing
repeats = ((sound schemas (codes "app") world_4 (app_in world_4) refl refl refl refl refl), here, refl)

answers_later : MayFollow schemas world_4 (1 ∷ []) answered_later
unfolding computing
answers_later = (codes "app", app_in world_4, Forward, refl, refl, (refl, refl, lit≤ tt))

all_done : AllDone (app_in world_5)
unfolding computing
all_done p i = only (IsDone (app_in world_5)) (is_made web refl) p i

ends_later : MayFollow schemas world_5 [] done
unfolding computing
ends_later = (codes "app", app_in world_5, Forward, refl, refl, (refl, end_of_create schemas (codes "app") world_5 (app_in world_5) refl all_done (sound schemas (codes "app") world_5 (app_in world_5) refl refl refl refl refl) refl, ((sound schemas (codes "app") world_5 (app_in world_5) refl refl refl refl refl), all_done), refl))

until : IsLived start empty_world until_the_crash crashed
unfolding computing
until =
    step.opens world_1 refl opens refl refl refl
    (step.raises refl refl refl here (lit≤ tt) (lit≤ tt, refl)
    (step.begins world_2 refl refl tt begins refl
    (step.grants world_3 refl tt intends refl refl
    (step.acts refl refl refl ((lit≤ tt, λ _. lit≤ tt), (lit≤ tt, inr (refl, refl)))
    (step.crashes step.ended)))))

pub crashes : Crashes
crashes = until.lives refl

behind : IsLived crashed world_3 after_the_crash end
unfolding computing
behind =
    step.opens world_4 refl opens_again refl refl refl
    (step.raises refl refl refl here (lit≤ tt) (lit≤ tt, refl)
    (step.repeats (codes "app") (app_in world_4) Forward pending refl refl refl refl refl repeats refl
    (step.acts refl refl refl ((lit≤ tt, tt), (lit≤ tt, (_, (((codes "1", refl), lit≤ tt, refl, lit≤ tt), refl), refl)))
    (step.settles world_5 refl refl refl refl answers_later refl
    (step.grants (world_after world_5 done) refl tt ends_later refl refl
    (step.closes refl refl step.ended))))))

pub goes_on : GoesOn
goes_on = behind.lives refl
