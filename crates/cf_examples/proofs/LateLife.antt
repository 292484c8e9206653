-- The life with a late effect.
use Rattle.std.proofs.Common.{refl, List, [], ◌∷◌, ◌++◌, inl, inr, lit≤}
use Rattle.std.specs.Prelude.{codes, take, drop}
use Rattle.cf_handler.specs.Lane.{Live}
use Rattle.cf_effect.specs.declared.held.Pending.{Pending}
use Rattle.cf_effect.specs.World.{empty_world}
use Rattle.cf_effect.specs.Status.{Forward, Back}
use Rattle.cf_tree.specs.Lists.{here}
use Rattle.cf_plan.specs.Life.{Life, Event}
use Rattle.cf_examples.specs.Given.{file, file_props, file_attrs, schemas}
use Rattle.cf_examples.specs.FirstLife.{start, files_with}
use Rattle.cf_examples.specs.LateLife.{creation, change, flying, until_turned, until_it_acts, from_then_on, acted, end, Acts, GoesOn}
use Rattle.cf_examples.proofs.Computing.{computing}
use Rattle.cf_examples.proofs.Failing.{sound}
use Rattle.cf_examples.proofs.Living.{IsLived, ended, opens, raises, begins, grants, acts as calls, settles, repeats, moves_late, closes}
use Rattle.cf_examples.proofs.LateEffect.{until_11, may_opened, may_begun, may_intended, may_made, may_created, may_updating, may_intended_change, may_broken_once, may_broken_twice, may_broken_thrice, may_turned, may_repeated, may_intended_restore, may_restored, may_cleaning, may_rolled_back, world_1, world_2, world_3, world_4, world_5, world_6, world_7, world_8, world_9, world_10, world_11, world_12, world_13, world_14, world_15, world_16, stack_8_s, stack_9_s, stack_11_s}

abbrev pub pending : Pending
pending = record { token = 2; path = codes "A"; lane = codes "f1"; request = change.request }

-- The life until the forward phase has failed, whatever comes then: from its last part to its first.
abbrev pub life_18 : Life
life_18 = record acted { lanes = files_with (creation ∷ []) (flying ∷ []) 1 ∷ []; leases = [] }

abbrev life_14 : Life
life_14 = record life_18 { entries = take 9 until_turned }

abbrev life_8 : Life
life_8 = record life_14 { entries = take 6 until_turned; lanes = files_with (creation ∷ []) [] 1 ∷ [] }

from_14 : {es : List Event} {last : Life} → IsLived life_18 world_11 es last → IsLived life_14 world_9 (take 4 (drop 14 until_it_acts) ++ es) last
unfolding computing
from_14 rest =
    repeats (codes "s") stack_9_s Forward pending refl refl refl refl refl ((sound schemas (codes "s") world_9 stack_9_s refl refl refl refl refl), here, refl) refl
    (calls refl refl refl ((lit≤ tt, λ _. lit≤ tt), (lit≤ tt, inl (_, inl refl, refl)))
    (settles world_10 refl refl refl refl may_broken_thrice refl
    (grants world_11 refl tt may_turned refl refl rest)))

from_8 : {es : List Event} {last : Life} → IsLived life_18 world_11 es last → IsLived life_8 world_6 (take 10 (drop 8 until_it_acts) ++ es) last
unfolding computing
from_8 rest =
    grants world_7 refl tt may_intended_change refl refl
    (calls refl refl refl ((lit≤ tt, λ _. lit≤ tt), (lit≤ tt, inr (refl, refl)))
    (settles world_8 refl refl refl refl may_broken_once refl
    (repeats (codes "s") stack_8_s Forward pending refl refl refl refl refl ((sound schemas (codes "s") world_8 stack_8_s refl refl refl refl refl), here, refl) refl
    (calls refl refl refl ((lit≤ tt, λ _. lit≤ tt), (lit≤ tt, inl (_, inl refl, refl)))
    (settles world_9 refl refl refl refl may_broken_twice refl (from_14 rest))))))

pub until_18 : {es : List Event} {last : Life} → IsLived life_18 world_11 es last → IsLived start empty_world (take 18 until_it_acts ++ es) last
unfolding computing
until_18 rest =
    opens world_1 refl may_opened refl refl refl
    (raises refl refl refl here (lit≤ tt) (lit≤ tt, refl)
    (begins world_2 refl refl tt may_begun refl
    (grants world_3 refl tt may_intended refl refl
    (calls refl refl refl ((lit≤ tt, tt), (lit≤ tt, (_, (((codes "1", refl), lit≤ tt, refl, lit≤ tt), refl), refl)))
    (settles world_4 refl refl refl refl may_made refl
    (grants world_5 refl tt may_created refl refl
    (begins world_6 refl refl tt may_updating refl (from_8 rest))))))))

from_18 : IsLived life_18 world_11 (drop 18 until_it_acts) acted
from_18 =
    repeats (codes "s") stack_11_s Back pending refl refl refl refl refl (here, refl) refl
    (moves_late refl (record { flying = flying; stands = refl; passes = lit≤ tt; is_new = refl; fits = (refl, refl, lit≤ tt); leaves = refl }) ended)

pub acts : Acts
acts = (until_18 from_18).lives refl

going : IsLived acted world_11 from_then_on end
unfolding computing
going =
    calls refl refl refl ((lit≤ tt, tt), (lit≤ tt, (_, (refl, refl), refl)))
    (settles world_12 refl refl refl refl may_repeated refl
    (grants world_13 refl tt may_intended_restore refl refl
    (calls refl refl refl ((lit≤ tt, tt), (lit≤ tt, (_, ((refl, refl, lit≤ tt), refl), refl)))
    (settles world_14 refl refl refl refl may_restored refl
    (grants world_15 refl tt may_cleaning refl refl
    (grants world_16 refl tt may_rolled_back refl refl
    (closes refl refl ended)))))))

pub goes_on : GoesOn
goes_on = going.lives until_11.arrives

-- the file as the late effect leaves it
abbrev pub live_y : Live
live_y = record { id = codes "f1:1"; kind = file; props = file_props (codes "a") (codes "y"); attrs = file_attrs (codes "f1:1") 1 (codes "a") (codes "y") }
