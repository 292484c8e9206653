-- The first resource.
use Rattle.std.proofs.Common.{List, ℕ, refl, [], ◌∷◌, inl, inr, sym, lit≤, true≢false}
use Rattle.std.specs.Prelude.{codes}
use Rattle.cf_effect.specs.World.{World, StackState, empty_world, known_stack}
use Rattle.cf_effect.specs.Fold.{world_after}
use Rattle.cf_effect.specs.Status.{Forward}
use Rattle.cf_plan.specs.Forward.{HasFailed, IsReady, AllDone, IsDone, is_made}
use Rattle.cf_tree.specs.Lists.{here}
use Rattle.cf_plan.specs.Follow.{MayFollow}
use Rattle.cf_examples.specs.Given.{schemas}
use Rattle.cf_examples.specs.FirstResource.{opened, begun, intended, answered, done, web, Leaves, Legal, run, world, same_again, UpdatedThoughTheSame}
use Rattle.cf_examples.proofs.Computing.{computing}
use Rattle.cf_examples.proofs.Lists.{in_none, only}
use Rattle.cf_examples.proofs.Failing.{not_failed, not_done_new}
use Rattle.cf_examples.proofs.Ending.{end_of_create}
use Rattle.cf_examples.proofs.Refusing.{refused_at}
use Rattle.cf_examples.proofs.Beginning.{no_imports}

pub leaves : Leaves
unfolding computing
leaves = refl

abbrev pub world_1 : World
world_1 = world_after empty_world opened

abbrev pub world_2 : World
world_2 = world_after world_1 begun

abbrev pub world_3 : World
world_3 = world_after world_2 intended

abbrev pub world_4 : World
world_4 = world_after world_3 answered

abbrev app_at : World → StackState
app_at x = known_stack (codes "app") x

pub opens : MayFollow schemas empty_world [] opened
opens = (refl, refl, λ name s e. absurd (cc))

pub begins : MayFollow schemas world_1 [] begun
unfolding computing
begins = (
  refl,
  refl,
  record {
    no_flaw = refl;
    known_types = refl;
    same_types = refl;
    imports = no_imports _ _ _ _ refl refl;
    free = refl;
    not_in_use = refl;
    changing = inl refl;
  },
)

sound_2 : ¬ HasFailed schemas (codes "app") world_2 (app_at world_2)
unfolding computing
sound_2 = not_failed schemas (codes "app") world_2 (app_at world_2) (record { calls = refl; paths = refl; inner = refl; flaws = refl; exports = refl })

ready_2 : IsReady (app_at world_2) (codes "Web")
unfolding computing
ready_2 = (here, λ q i. absurd (in_none i))

pub intends : MayFollow schemas world_2 [] intended
unfolding computing
intends = (
  codes "app",
  app_at world_2,
  Forward,
  refl,
  refl,
  record {
    next = refl;
    free = refl;
    home = refl;
    fits = refl;
    no_repeat = refl;
    chosen = (sound_2, ready_2, not_done_new (codes "Web") (app_at world_2) refl refl refl, (refl, tt));
  },
)

pub answers : MayFollow schemas world_3 (1 ∷ []) answered
unfolding computing
answers = (codes "app", app_at world_3, Forward, refl, refl, (refl, refl, lit≤ tt))

all_done : AllDone (app_at world_4)
unfolding computing
all_done p i = only (IsDone (app_at world_4)) (is_made web refl) p i

sound_4 : ¬ HasFailed schemas (codes "app") world_4 (app_at world_4)
unfolding computing
sound_4 = not_failed schemas (codes "app") world_4 (app_at world_4) (record { calls = refl; paths = refl; inner = refl; flaws = refl; exports = refl })

pub ends : MayFollow schemas world_4 [] done
unfolding computing
ends = (codes "app", app_at world_4, Forward, refl, refl, (refl, end_of_create schemas (codes "app") world_4 (app_at world_4) refl all_done sound_4 refl, (sound_4, all_done), refl))

pub legal : Legal
unfolding computing
legal = (([], opens), (([], begins), (([], intends), ((1 ∷ [], answers), (([], ends), tt)))))

may_not_update : (out : List ℕ) → MayFollow schemas world out same_again → ⊥
unfolding computing
may_not_update out may = elim may.2.changing [ inl created ↦ true≢false (sym created) | inr same ↦ true≢false same ]

pub updated_though_the_same : UpdatedThoughTheSame
updated_though_the_same = refused_at world run same_again leaves may_not_update
