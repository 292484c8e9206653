-- The life with a deletion that nobody knows of.
use Rattle.std.proofs.Common.{◌≡◌, refl, List, [], ◌∷◌, ℕ, sym, subst, lit≤}
use Rattle.std.specs.Prelude.{codes, take, drop}
use Rattle.cf_effect.specs.declared.held.Held.{Held}
use Rattle.cf_effect.specs.declared.held.Pending.{Pending}
use Rattle.cf_effect.specs.World.{World, StackState, empty_world, known_stack}
use Rattle.cf_effect.specs.Fold.{fold_of}
use Rattle.cf_effect.specs.Status.{Gone}
use Rattle.cf_tree.specs.Lists.{here}
use Rattle.cf_tree.specs.Lists.{In}
use Rattle.cf_plan.specs.Follow.{MayFollow, IsNamedLane, IsLaneFor}
use Rattle.cf_examples.specs.Given.{schemas, file}
use Rattle.cf_examples.specs.FirstResource.{run, world, app, web}
use Rattle.cf_examples.specs.FirstLife as first
use Rattle.cf_examples.specs.CrashedLife.{opened_again}
use Rattle.cf_examples.specs.PutBackLife.{opened_once_more}
use Rattle.cf_examples.specs.Ends.{IsPromised}
use Rattle.cf_examples.specs.DeletedLife.{deleting, intended_gone, gone, deleted, removed, until_crashed, unknown, Crashes, from_then_on, end, GoesOn, EndsAsPromised}
use Rattle.cf_examples.proofs.Computing.{computing}
use Rattle.cf_examples.proofs.Lists.{in_none, only}
use Rattle.cf_examples.proofs.Ending.{end_of_deletion}
use Rattle.cf_examples.proofs.Refusing.{fold_joined}
use Rattle.cf_examples.proofs.Beginning.{opens_one}
use Rattle.cf_examples.proofs.FirstResource.{leaves}
use Rattle.cf_examples.proofs.Living as step
use Rattle.cf_examples.proofs.Living.{IsLived}

-- The worlds, and what may follow in them.
-- the world of so many entries behind that one
abbrev behind : ℕ → World
behind n = fold_of world (take n (drop 5 end.entries))

abbrev app_in : World → StackState
app_in x = known_stack (codes "app") x

abbrev pending : Pending
pending = record { token = 2; path = codes "Web"; lane = codes "f1"; request = removed.request }

abbrev the_lane : List (List ℕ × List ℕ)
the_lane = (codes "f1", file) ∷ []

abbrev HasLane : Held → Type 0
HasLane g = IsNamedLane the_lane g.physical g.kind

may_open : MayFollow schemas world [] opened_again
unfolding computing
may_open = (refl, refl, opens_one the_lane world (codes "app") app refl ((λ h i. only HasLane {a = web} ((codes "f1", file), here, (codes "1", refl), refl) h i), (λ p i. absurd (in_none i))))

may_delete : MayFollow schemas (behind 1) [] deleting
unfolding computing
may_delete = (refl, refl, (refl, refl, refl))

may_intend : MayFollow schemas (behind 2) [] intended_gone
unfolding computing
may_intend = (codes "app", app_in (behind 2), Gone, refl, refl, record { next = refl; free = refl; home = refl; fits = ((codes "1", refl), refl); no_repeat = refl; chosen = (_, (here, refl, refl, refl), refl, refl, refl) })

may_open_again : MayFollow schemas (behind 3) [] opened_once_more
unfolding computing
may_open_again = (refl, refl, opens_one the_lane (behind 3) (codes "app") (app_in (behind 3)) refl ((λ h i. only HasLane {a = web} ((codes "f1", file), here, (codes "1", refl), refl) h i), (λ p i. only (λ (q : Pending). (l : List ℕ × List ℕ) × In l the_lane × IsLaneFor q l) {a = pending} ((codes "f1", file), here, (refl, tt)) p i)))

may_answer : MayFollow schemas (behind 4) (2 ∷ []) gone
unfolding computing
may_answer = (codes "app", app_in (behind 4), Gone, refl, refl, (refl, refl, lit≤ tt))

may_end : MayFollow schemas (behind 5) [] deleted
unfolding computing
may_end = (codes "app", app_in (behind 5), Gone, refl, refl, (refl, end_of_deletion schemas (codes "app") (behind 5) (app_in (behind 5)) refl refl refl, refl, refl))

-- The life, in its two parts.
crashing : IsLived first.end world until_crashed unknown
unfolding computing
crashing =
    step.opens (behind 1) refl may_open refl refl refl
    (step.raises refl refl refl here (lit≤ tt) (lit≤ tt, refl)
    (step.begins (behind 2) refl refl tt may_delete refl
    (step.grants (behind 3) refl tt may_intend refl refl
    (step.acts refl refl refl ((lit≤ tt, tt), (lit≤ tt, (_, ((refl, refl, lit≤ tt), refl), refl)))
    (step.crashes step.ended)))))

pub crashes : Crashes
crashes = crashing.lives leaves

arrives : fold_of empty_world unknown.entries ≡ (behind 3)
arrives = fold_joined empty_world run (opened_again ∷ deleting ∷ intended_gone ∷ []) leaves refl

going : IsLived unknown (behind 3) from_then_on end
unfolding computing
going =
    step.opens (behind 4) refl may_open_again refl refl refl
    (step.raises refl refl refl here (lit≤ tt) (lit≤ tt, refl)
    (step.repeats (codes "app") (app_in (behind 4)) Gone pending refl refl refl refl refl (here, refl) refl
    (step.acts refl refl refl ((lit≤ tt, tt), (lit≤ tt, (_, (refl, refl), refl)))
    (step.settles (behind 5) refl refl refl refl may_answer refl
    (step.grants (behind 6) refl tt may_end refl refl
    (step.closes refl refl step.ended))))))

pub goes_on : GoesOn
goes_on = going.lives arrives

pub ends_as_promised : EndsAsPromised
unfolding computing
ends_as_promised = subst (λ x. IsPromised (codes "app") x end.lanes) (sym (fold_joined empty_world unknown.entries (opened_once_more ∷ gone ∷ deleted ∷ []) arrives refl)) (record { settled = record { none_open = refl; none_made = refl }; none_held = refl })
