-- The life of a journal that was put back.
use Rattle.std.proofs.Common.{refl, List, [], ◌∷◌, ℕ, true, lit≤, arith, ◌<◌, ◌≤◌, subst}
use Rattle.std.specs.Prelude.{codes, drop, ◌++◌, take}
use Rattle.std.specs.Option.{option_map_or}
use Rattle.std.specs.Str.{bytes_eq}
use Rattle.cf_effect.specs.declared.held.Pending.{Pending}
use Rattle.cf_effect.specs.World.{World}
use Rattle.cf_effect.specs.Fold.{fold_of}
use Rattle.cf_effect.specs.Status.{Forward}
use Rattle.cf_agree.specs.Lanes.{no_lane}
use Rattle.cf_plan.specs.Forward.{AllDone, IsDone, is_made}
use Rattle.cf_tree.specs.Lists.{here}
use Rattle.cf_tree.specs.Lists.{In}
use Rattle.cf_plan.specs.Follow.{MayFollow, IsLaneFor}
use Rattle.cf_plan.specs.Lanes.{Lane}
use Rattle.cf_plan.specs.Life.{Life, world_of}
use Rattle.cf_examples.specs.Given.{schemas, file}
use Rattle.cf_examples.specs.FirstResource.{answered, done}
use Rattle.cf_examples.specs.CrashedLife.{opened_again}
use Rattle.cf_examples.specs.PutBackLife.{put_back, opened_once_more, events, end, CatchesUp, NeverStale}
use Rattle.cf_examples.proofs.Computing.{computing}
use Rattle.cf_examples.proofs.Lists.{only, in_none, found_passes}
use Rattle.cf_examples.proofs.Failing.{sound}
use Rattle.cf_examples.proofs.Ending.{end_of_create}
use Rattle.cf_examples.proofs.Beginning.{opens_one}
use Rattle.cf_examples.proofs.FirstResource.{world_3}
use Rattle.cf_examples.proofs.CrashedLife.{world_4, app_in, pending, opens_again}
use Rattle.cf_examples.proofs.Living.{IsLived, ended, opens, raises, grants, acts, settles, repeats, parks, closes}

-- the world of so many entries behind that one
abbrev behind : ℕ → World
behind n = fold_of world_4 (take n (drop 4 end.entries))

may_opened : MayFollow schemas world_4 [] opened_once_more
unfolding computing
may_opened = (refl, refl, opens_one ((codes "f1", file) ∷ []) world_4 (codes "app") (app_in world_4) refl ((λ h i. absurd (in_none i)), (λ p i. only (λ (q : Pending). (l : List ℕ × List ℕ) × In l ((codes "f1", file) ∷ []) × IsLaneFor q l) {a = pending} ((codes "f1", file), here, (refl, refl)) p i)))

may_answered : MayFollow schemas (behind 1) (1 ∷ []) answered
unfolding computing
may_answered = (codes "app", app_in (behind 1), Forward, refl, refl, (refl, refl, lit≤ tt))

all_done : AllDone (app_in (behind 2))
unfolding computing
all_done p i = only (IsDone (app_in (behind 2))) (is_made _ refl) p i

may_done : MayFollow schemas (behind 2) [] done
unfolding computing
may_done = (codes "app", app_in (behind 2), Forward, refl, refl, (refl, end_of_create schemas (codes "app") (behind 2) (app_in (behind 2)) refl all_done (sound schemas (codes "app") (behind 2) (app_in (behind 2)) refl refl refl refl refl) refl, ((sound schemas (codes "app") (behind 2) (app_in (behind 2)) refl refl refl refl refl), all_done), refl))

abbrev life_6 : Life
life_6 = record put_back { entries = put_back.entries ++ opened_again ∷ []; has_granted = true }

going : IsLived life_6 world_4 (drop 6 events) end
unfolding computing
going =
    opens (behind 1) refl may_opened refl refl refl
    (raises refl refl refl here (lit≤ tt) (lit≤ tt, refl, refl)
    (repeats (codes "app") (app_in (behind 1)) Forward pending refl refl refl refl refl ((sound schemas (codes "app") (behind 1) (app_in (behind 1)) refl refl refl refl refl), here, refl) refl
    (acts refl refl refl ((lit≤ tt, tt), (lit≤ tt, (_, (refl, refl), refl)))
    (settles (behind 2) refl refl refl refl may_answered refl
    (grants (behind 3) refl tt may_done refl refl
    (closes refl refl ended))))))

catching : IsLived put_back world_3 events end
unfolding computing
catching =
    opens world_4 refl opens_again refl refl refl
    (raises refl refl refl here (lit≤ tt) (lit≤ tt, refl, refl)
    (repeats (codes "app") (app_in world_4) Forward pending refl refl refl refl refl ((sound schemas (codes "app") world_4 (app_in world_4) refl refl refl refl refl), here, refl) refl
    (acts refl refl refl ((lit≤ tt, tt), (lit≤ tt, refl, refl))
    (parks refl refl
    (closes refl refl going)))))

pub catches_up : CatchesUp
catches_up = catching.lives refl

pub never_stale : NeverStale
never_stale given life token fence before after left tied (lease, lane, at, none, home, stale) =
    let past : (world_of life).epoch < lane.state.fence = stale.1.0 in
    let kept : lane.state.fence ≤ (world_of life).epoch = subst (λ o. (option_map_or (λ (q : Lane). q.state) o no_lane).fence ≤ (world_of life).epoch) home (tied.ties.fences lease.lane) in
    omega arith
