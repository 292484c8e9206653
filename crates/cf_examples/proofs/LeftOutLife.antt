-- The life with a lane that is left out.
use Rattle.std.proofs.Common.{◌≡◌, refl, [], ◌∷◌, ◌++◌, Some, true, false, ℕ, sym, subst, inl, inr, lit≤}
use Rattle.std.specs.Prelude.{codes, take, drop}
use Rattle.cf_effect.specs.declared.held.HeldStatus.TheVariants as held
use Rattle.cf_tree.specs.declared.template.Deletion.TheVariants as deletion
use Rattle.cf_tree.specs.declared.template.Replace.TheVariants as replace
use Rattle.cf_desired.specs.Seeing.{Seen}
use Rattle.cf_desired.specs.Whole.{Right, Whole}
use Rattle.cf_handler.specs.Lane.{live_of}
use Rattle.cf_effect.specs.declared.held.Held.{Held}
use Rattle.cf_effect.specs.declared.held.Pending.{Pending}
use Rattle.cf_effect.specs.World.{World, StackState, empty_world, known_stack}
use Rattle.cf_effect.specs.Fold.{fold_of}
use Rattle.cf_effect.specs.Begin.{source_for}
use Rattle.cf_effect.specs.Words.{current_at}
use Rattle.cf_effect.specs.Status.{Forward, Back, Gone}
use Rattle.cf_plan.specs.Forward.{AllDone, IsDone, is_made}
use Rattle.cf_tree.specs.Lists.{here}
use Rattle.cf_tree.specs.Lists.{In}
use Rattle.cf_plan.specs.Follow.{MayFollow}
use Rattle.cf_plan.specs.Lanes.{Lane}
use Rattle.cf_plan.specs.Ends.{IsComplete, IsCleared}
use Rattle.cf_plan.specs.Life.{Life}
use Rattle.cf_examples.specs.Given.{schemas, file, file_props, file_attrs}
use Rattle.cf_examples.specs.LostCreation.{first, run}
use Rattle.cf_examples.specs.Ends.{IsPromised}
use Rattle.cf_examples.specs.LateLife.{creation}
use Rattle.cf_examples.specs.FirstLife.{files_with}
use Rattle.cf_examples.specs.LeftOutLife.{start, StartIsOne, others_with, until_deleted, flying, gone, Deletes, ClearsAsPromised, opened_again, begun_again, intended_again, made_again, created_again, creation_again, from_then_on, end, GoesOn, EndsAsPromised}
use Rattle.cf_examples.proofs.Computing.{computing}
use Rattle.cf_examples.proofs.Lists.{only, either, in_none}
use Rattle.cf_examples.proofs.Standing.{IsWell, complete_of}
use Rattle.cf_examples.proofs.Failing.{sound, not_done_new}
use Rattle.cf_examples.proofs.Ending.{end_of_create}
use Rattle.cf_examples.proofs.Beginning.{no_imports, opens_one}
use Rattle.cf_examples.proofs.Refusing.{fold_joined}
use Rattle.cf_examples.proofs.Living.{IsLived, ended, opens, raises, begins, grants, acts, settles, repeats, moves_late, closes}
use Rattle.cf_examples.proofs.LateEffect.{may_opened, may_begun, may_intended, world_1, world_2, world_3}
use Rattle.cf_examples.proofs.LostCreation as lost

pub starts : StartIsOne
starts = record {
  no_entries = refl;
  closed = refl;
  no_leases = refl;
  named = record { named = refl; names_differ = refl };
  described = record { kinds_differ = refl; described = refl };
  untouched = λ l i. either (λ (q : Lane). (q.state.state.settled ≡ []) × (q.state.flying ≡ []) × (q.state.fence ≡ 0) × (live_of q.state.state ≡ [])) {a = files_with [] [] 0} {b = others_with [] 0} (refl, refl, refl, refl) (refl, refl, refl, refl) l i;
}

-- the open call
abbrev pending : Pending
pending = record { token = 1; path = codes "A"; lane = codes "f1"; request = creation.request }

-- while the engine is open: nothing is settled, and the call flies
abbrev open_with : ℕ → Life
open_with n = record gone { entries = take n run; is_open = true }

from_30 : IsLived (open_with 14) lost.world_14 (drop 30 until_deleted) gone
unfolding computing
from_30 =
    repeats (codes "s") lost.stack_14_s Gone pending refl refl refl refl refl (here, refl) refl
    (acts refl refl refl ((lit≤ tt, λ _. lit≤ tt), (lit≤ tt, inl (_, inl refl, refl)))
    (settles lost.world_15 refl refl refl refl lost.may_broken_gone_thrice refl
    (grants lost.world_16 refl tt lost.may_undeleted refl refl
    (begins lost.world_17 refl refl tt lost.may_deleting_without refl
    (grants lost.world_18 refl tt lost.may_kept refl refl
    (grants lost.world_19 refl tt lost.may_deleted refl refl
    (closes refl refl ended)))))))

from_24 : IsLived (open_with 12) lost.world_12 (drop 24 until_deleted) gone
unfolding computing
from_24 =
    repeats (codes "s") lost.stack_12_s Gone pending refl refl refl refl refl (here, refl) refl
    (acts refl refl refl ((lit≤ tt, λ _. lit≤ tt), (lit≤ tt, inl (_, inl refl, refl)))
    (settles lost.world_13 refl refl refl refl lost.may_broken_gone_once refl
    (repeats (codes "s") lost.stack_13_s Gone pending refl refl refl refl refl (here, refl) refl
    (acts refl refl refl ((lit≤ tt, λ _. lit≤ tt), (lit≤ tt, inl (_, inl refl, refl)))
    (settles lost.world_14 refl refl refl refl lost.may_broken_gone_twice refl from_30)))))

from_19 : IsLived (open_with 9) lost.world_9 (drop 19 until_deleted) gone
unfolding computing
from_19 =
    repeats (codes "s") lost.stack_9_s Back pending refl refl refl refl refl (here, refl) refl
    (acts refl refl refl ((lit≤ tt, λ _. lit≤ tt), (lit≤ tt, inl (_, inl refl, refl)))
    (settles lost.world_10 refl refl refl refl lost.may_broken_back_thrice refl
    (grants lost.world_11 refl tt lost.may_failed refl refl
    (begins lost.world_12 refl refl tt lost.may_deleting refl from_24))))

from_13 : IsLived (open_with 7) lost.world_7 (drop 13 until_deleted) gone
unfolding computing
from_13 =
    repeats (codes "s") lost.stack_7_s Back pending refl refl refl refl refl (here, refl) refl
    (acts refl refl refl ((lit≤ tt, λ _. lit≤ tt), (lit≤ tt, inl (_, inl refl, refl)))
    (settles lost.world_8 refl refl refl refl lost.may_broken_back_once refl
    (repeats (codes "s") lost.stack_8_s Back pending refl refl refl refl refl (here, refl) refl
    (acts refl refl refl ((lit≤ tt, λ _. lit≤ tt), (lit≤ tt, inl (_, inl refl, refl)))
    (settles lost.world_9 refl refl refl refl lost.may_broken_back_twice refl from_19)))))

from_6 : IsLived (open_with 4) lost.world_4 (drop 6 until_deleted) gone
unfolding computing
from_6 =
    repeats (codes "s") lost.stack_4_s Forward pending refl refl refl refl refl ((sound schemas (codes "s") lost.world_4 lost.stack_4_s refl refl refl refl refl), here, refl) refl
    (acts refl refl refl ((lit≤ tt, λ _. lit≤ tt), (lit≤ tt, inl (_, inl refl, refl)))
    (settles lost.world_5 refl refl refl refl lost.may_broken_twice refl
    (repeats (codes "s") lost.stack_5_s Forward pending refl refl refl refl refl ((sound schemas (codes "s") lost.world_5 lost.stack_5_s refl refl refl refl refl), here, refl) refl
    (acts refl refl refl ((lit≤ tt, λ _. lit≤ tt), (lit≤ tt, inl (_, inl refl, refl)))
    (settles lost.world_6 refl refl refl refl lost.may_broken_thrice refl
    (grants lost.world_7 refl tt lost.may_turned refl refl from_13))))))

deleting_it : IsLived start empty_world until_deleted gone
unfolding computing
deleting_it =
    opens world_1 refl may_opened refl refl refl
    (raises refl refl refl here (lit≤ tt) (lit≤ tt, refl)
    (begins world_2 refl refl tt may_begun refl
    (grants world_3 refl tt may_intended refl refl
    (acts refl refl refl ((lit≤ tt, λ _. lit≤ tt), (lit≤ tt, inr (refl, refl)))
    (settles lost.world_4 refl refl refl refl lost.may_broken_once refl from_6)))))

pub deletes : Deletes
deletes = deleting_it.lives refl

cleared : IsCleared lost.stack_19_s
cleared = record { settled = record { none_open = refl; none_made = refl }; none_held = refl }

pub clears_as_promised : ClearsAsPromised
clears_as_promised = subst (λ x. IsPromised (codes "s") x gone.lanes) (sym lost.until_19.arrives) cleared

-- Behind it: the worlds, and what may follow in them.
-- the world of so many entries behind that one
abbrev behind : ℕ → World
behind n = fold_of lost.world_19 (take n (drop 19 end.entries))

abbrev s_in : World → StackState
s_in x = known_stack (codes "s") x

may_opened_again : MayFollow schemas lost.world_19 [] opened_again
unfolding computing
may_opened_again = (refl, refl, opens_one _ lost.world_19 (codes "s") lost.stack_19_s refl ((λ h i. absurd (in_none i)), (λ p i. absurd (in_none i))))

may_begun_again : MayFollow schemas (behind 1) [] begun_again
unfolding computing
may_begun_again = (refl, refl, record { no_flaw = refl; known_types = refl; same_types = refl; imports = no_imports _ _ _ _ refl refl; free = refl; not_in_use = refl; changing = inl refl })

may_intended_again : MayFollow schemas (behind 2) [] intended_again
unfolding computing
may_intended_again = (codes "s", s_in (behind 2), Forward, refl, refl, record { next = refl; free = refl; home = refl; fits = refl; no_repeat = refl; chosen = ((sound schemas (codes "s") (behind 2) (s_in (behind 2)) refl refl refl refl refl), (here, λ q i. absurd (in_none i)), not_done_new (codes "A") (s_in (behind 2)) refl refl refl, (refl, tt)) })

may_made_again : MayFollow schemas (behind 3) (2 ∷ []) made_again
unfolding computing
may_made_again = (codes "s", s_in (behind 3), Forward, refl, refl, (refl, refl, lit≤ tt))

all_done_23 : AllDone (s_in (behind 4))
unfolding computing
all_done_23 p i = only (IsDone (s_in (behind 4))) (is_made _ refl) p i

may_created_again : MayFollow schemas (behind 4) [] created_again
unfolding computing
may_created_again = (codes "s", s_in (behind 4), Forward, refl, refl, (refl, end_of_create schemas (codes "s") (behind 4) (s_in (behind 4)) refl all_done_23 (sound schemas (codes "s") (behind 4) (s_in (behind 4)) refl refl refl refl refl) refl, ((sound schemas (codes "s") (behind 4) (s_in (behind 4)) refl refl refl refl refl), all_done_23), refl))

abbrev life_25 : Life
life_25 = record gone { entries = run ++ opened_again ∷ []; lanes = files_with [] (flying ∷ []) 1 ∷ others_with [] 2 ∷ []; is_open = true; has_granted = false }

from_there : IsLived life_25 (behind 1) (drop 4 from_then_on) end
unfolding computing
from_there =
    begins (behind 2) refl refl tt may_begun_again refl
    (grants (behind 3) refl tt may_intended_again refl refl
    (moves_late refl (record { flying = flying; stands = refl; passes = lit≤ tt; is_new = refl; fits = ((codes "1", refl), lit≤ tt, refl, lit≤ tt); leaves = refl })
    (acts refl refl refl ((lit≤ tt, tt), (lit≤ tt, (_, (((codes "2", refl), lit≤ tt, refl, lit≤ tt), refl), refl)))
    (settles (behind 4) refl refl refl refl may_made_again refl
    (grants (behind 5) refl tt may_created_again refl refl
    (closes refl refl ended))))))

going : IsLived gone lost.world_19 from_then_on end
unfolding computing
going =
    opens (behind 1) refl may_opened_again refl refl refl
    (raises refl refl refl here (lit≤ tt) ((λ _. lit≤ tt), lit≤ tt, inl refl)
    (raises refl refl refl here (lit≤ tt) ((λ _. lit≤ tt), lit≤ tt, inr refl)
    (raises refl refl refl here (lit≤ tt) (lit≤ tt, refl, refl) from_there)))

pub goes_on : GoesOn
goes_on = going.lives lost.until_19.arrives

-- The stack that was made anew.
abbrev seen : Seen
seen = (codes "A", record { physical = Some (codes "f2:2"); attrs = Some (file_attrs (codes "f2:2") 1 (codes "a") (codes "x")) }) ∷ []

abbrev right : Right
right = record { path = codes "A"; kind = file; deletion = deletion.Delete; replace = replace.Delete; needs = []; props = file_props (codes "a") (codes "x") }

abbrev whole : Whole
whole = record { wanted = right ∷ []; outputs = []; exports = [] }

well : (r : Held) → In r (s_in (behind 5)).held → IsWell end.lanes (s_in (behind 5)) seen whole r
unfolding computing
well r i = only (IsWell end.lanes (s_in (behind 5)) seen whole) (record { right = right; live = record { id = codes "f2:2"; kind = file; props = right.props; attrs = file_attrs (codes "f2:2") 1 (codes "a") (codes "x") }; is_right = refl; is_live = record { lane = others_with (creation_again ∷ []) 2; home = record { handed_in = refl; named = (codes "2", refl) }; live = refl }; kind = refl; props = refl; is_seen = refl; alone = refl }) r i

complete : IsComplete (codes "s") (behind 5) (s_in (behind 5)) end.lanes
unfolding computing
complete = complete_of (codes "s") (behind 5) (s_in (behind 5)) end.lanes (source_for (codes "s") 4 first) seen whole refl refl refl refl refl refl refl well (λ w i. only (λ (q : Right). (r : Held) × (current_at q.path (s_in (behind 5)).held ≡ Some r)) (_, refl) w i)

-- the entries of the end lead to the last world
arrives : fold_of empty_world end.entries ≡ (behind 5)
arrives = fold_joined empty_world run (opened_again ∷ begun_again ∷ intended_again ∷ made_again ∷ created_again ∷ []) lost.until_19.arrives refl

pub ends_as_promised : EndsAsPromised
unfolding computing
ends_as_promised = subst (λ x. IsPromised (codes "s") x end.lanes) (sym arrives) complete
