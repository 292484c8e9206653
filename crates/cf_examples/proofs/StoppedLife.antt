-- The life with two calls at once and a stopped book.
use Rattle.std.proofs.Common.{◌≡◌, refl, List, [], ◌∷◌, Some, true, false, ℕ, inl, lit≤}
use Rattle.std.specs.Prelude.{codes, take, drop, ◌++◌}
use Rattle.cf_tree.specs.declared.template.Deletion.TheVariants as deletion
use Rattle.cf_tree.specs.declared.template.Replace.TheVariants as replace
use Rattle.cf_desired.specs.Seeing.{Seen}
use Rattle.cf_desired.specs.Whole.{Right, Whole}
use Rattle.cf_handler.specs.Lane.{live_of}
use Rattle.cf_effect.specs.declared.held.Held.{Held}
use Rattle.cf_effect.specs.declared.held.Pending.{Pending}
use Rattle.cf_effect.specs.World.{World, StackState, empty_world, known_stack}
use Rattle.cf_effect.specs.Fold.{fold_of}
use Rattle.cf_effect.specs.Begin.{source_for}
use Rattle.cf_effect.specs.Words.{current_at}
use Rattle.cf_effect.specs.Status.{Forward}
use Rattle.cf_plan.specs.Forward.{AllDone, IsDone, is_made}
use Rattle.cf_tree.specs.Lists.{there}
use Rattle.cf_tree.specs.Lists.{here}
use Rattle.cf_tree.specs.Lists.{In}
use Rattle.cf_plan.specs.Follow.{MayFollow, IsNamedLane, IsLaneFor}
use Rattle.cf_plan.specs.Lanes.{Lane}
use Rattle.cf_plan.specs.Life.{Life, Lease, lease_for}
use Rattle.cf_examples.specs.Given.{schemas, file, note, file_props, file_attrs, note_props, note_attrs}
use Rattle.cf_examples.specs.FirstLife.{files_with}
use Rattle.cf_examples.specs.StoppedLife.{source, opened, begun, create_a, create_b, intended_a, intended_b, opened_again, made_a, opened_once_more, made_b, created, settled_a, settled_b, notes_with, start, StartIsOne, until_closed, closed, Stops, until_crashed, crashed, StopsAgain, from_then_on, end, GoesOn, EndsAsPromised}
use Rattle.cf_examples.proofs.Computing.{computing}
use Rattle.cf_examples.proofs.Lists.{only, either, in_none}
use Rattle.cf_examples.proofs.Standing.{IsWell, complete_of}
use Rattle.cf_examples.proofs.Failing.{sound, not_done_new}
use Rattle.cf_examples.proofs.Ending.{end_of_create}
use Rattle.cf_examples.proofs.Beginning.{no_imports, opens_one}
use Rattle.cf_examples.proofs.Living as living
use Rattle.cf_examples.proofs.Living.{IsLived, ended, opens, raises, begins, grants, acts, settles, repeats, parks, closes}

-- The worlds, and what may follow in them.
abbrev world : ℕ → World
world n = fold_of empty_world (take n end.entries)

abbrev s_in : World → StackState
s_in x = known_stack (codes "s") x

may_opened : MayFollow schemas empty_world [] opened
may_opened = (refl, refl, λ name s e. absurd (cc))

may_begun : MayFollow schemas (world 1) [] begun
unfolding computing
may_begun = (refl, refl, record { no_flaw = refl; known_types = refl; same_types = refl; imports = no_imports _ _ _ _ refl refl; free = refl; not_in_use = refl; changing = inl refl })

may_intended_a : MayFollow schemas (world 2) [] intended_a
unfolding computing
may_intended_a = (codes "s", s_in (world 2), Forward, refl, refl, record { next = refl; free = refl; home = refl; fits = refl; no_repeat = refl; chosen = ((sound schemas (codes "s") (world 2) (s_in (world 2)) refl refl refl refl refl), (here, λ q i. absurd (in_none i)), not_done_new (codes "A") (s_in (world 2)) refl refl refl, (refl, tt)) })

may_intended_b : MayFollow schemas (world 3) (1 ∷ []) intended_b
unfolding computing
may_intended_b = (codes "s", s_in (world 3), Forward, refl, refl, record { next = refl; free = refl; home = refl; fits = refl; no_repeat = refl; chosen = ((sound schemas (codes "s") (world 3) (s_in (world 3)) refl refl refl refl refl), (there here, λ q i. absurd (in_none i)), not_done_new (codes "B") (s_in (world 3)) refl refl refl, (refl, tt)) })

may_made_b_first : MayFollow schemas (world 4) (1 ∷ 2 ∷ []) made_b
unfolding computing
may_made_b_first = (codes "s", s_in (world 4), Forward, refl, refl, (refl, refl, lit≤ tt))

-- the two lanes of an opening, and the open calls
abbrev both : List (List ℕ × List ℕ)
both = (codes "f1", file) ∷ (codes "r1", note) ∷ []

abbrev HasLane : Pending → Type 0
HasLane q = (l : List ℕ × List ℕ) × In l both × IsLaneFor q l

abbrev pending_a : Pending
pending_a = record { token = 1; path = codes "A"; lane = codes "f1"; request = create_a }

abbrev pending_b : Pending
pending_b = record { token = 2; path = codes "B"; lane = codes "r1"; request = create_b }

lane_b : HasLane pending_b
lane_b = ((codes "r1", note), there here, (refl, refl))

may_opened_again : MayFollow schemas (world 4) [] opened_again
unfolding computing
may_opened_again = (refl, refl, opens_one _ (world 4) (codes "s") (s_in (world 4)) refl ((λ h i. absurd (in_none i)), (λ p i. either HasLane {a = pending_a} {b = pending_b} ((codes "f1", file), here, (refl, refl)) lane_b p i)))

may_made_a : MayFollow schemas (world 5) (1 ∷ 2 ∷ []) made_a
unfolding computing
may_made_a = (codes "s", s_in (world 5), Forward, refl, refl, (refl, refl, lit≤ tt))

may_opened_once_more : MayFollow schemas (world 6) [] opened_once_more
unfolding computing
may_opened_once_more = (refl, refl, opens_one _ (world 6) (codes "s") (s_in (world 6)) refl ((λ h i. only (λ (g : Held). IsNamedLane both g.physical g.kind) ((codes "f1", file), here, (codes "1", refl), refl) h i), (λ p i. only HasLane {a = pending_b} lane_b p i)))

may_made_b : MayFollow schemas (world 7) (2 ∷ []) made_b
unfolding computing
may_made_b = (codes "s", s_in (world 7), Forward, refl, refl, (refl, refl, lit≤ tt))

all_done_8 : AllDone (s_in (world 8))
unfolding computing
all_done_8 p i = either (IsDone (s_in (world 8))) (is_made _ refl) (is_made _ refl) p i

may_created : MayFollow schemas (world 8) [] created
unfolding computing
may_created = (codes "s", s_in (world 8), Forward, refl, refl, (refl, end_of_create schemas (codes "s") (world 8) (s_in (world 8)) refl all_done_8 (sound schemas (codes "s") (world 8) (s_in (world 8)) refl refl refl refl refl) refl, ((sound schemas (codes "s") (world 8) (s_in (world 8)) refl refl refl refl refl), all_done_8), refl))

-- The life, in its three parts.
pub starts : StartIsOne
starts = record {
  no_entries = refl;
  closed = refl;
  no_leases = refl;
  named = record { named = refl; names_differ = refl };
  described = record { kinds_differ = refl; described = refl };
  untouched = λ l i. either (λ (q : Lane). (q.state.state.settled ≡ []) × (q.state.flying ≡ []) × (q.state.fence ≡ 0) × (live_of q.state.state ≡ [])) {a = files_with [] [] 0} {b = notes_with [] 0} (refl, refl, refl, refl) (refl, refl, refl, refl) l i;
}

abbrev lease_a : Lease
lease_a = lease_for 1 pending_a

abbrev lease_b : Lease
lease_b = lease_for 1 pending_b

abbrev life_6 : Life
life_6 = record { entries = closed.entries; lanes = files_with [] [] 1 ∷ notes_with [] 1 ∷ []; leases = lease_a ∷ lease_b ∷ []; is_open = true; has_granted = true; is_stopped = false }

stopping_6 : IsLived life_6 (world 4) (drop 6 until_closed) closed
unfolding computing
stopping_6 =
    acts refl refl refl ((lit≤ tt, tt), (lit≤ tt, (_, (((codes "2", refl), lit≤ tt, refl, lit≤ tt), refl), refl)))
    (settles (world 4) refl refl refl refl may_made_b_first refl
    (acts refl refl refl ((lit≤ tt, tt), (lit≤ tt, (_, (((codes "1", refl), lit≤ tt, refl, lit≤ tt), refl), refl)))
    (parks refl refl
    (closes refl refl ended))))

stopping : IsLived start empty_world until_closed closed
unfolding computing
stopping =
    opens (world 1) refl may_opened refl refl refl
    (raises refl refl refl here (lit≤ tt) (lit≤ tt, refl)
    (raises refl refl refl (there here) (lit≤ tt) (lit≤ tt, refl)
    (begins (world 2) refl refl tt may_begun refl
    (grants (world 3) refl tt may_intended_a refl refl
    (grants (world 4) refl tt may_intended_b refl refl stopping_6)))))

pub stops : Stops
stops = stopping.lives refl

abbrev life_16 : Life
life_16 = record closed { entries = closed.entries ++ opened_again ∷ []; lanes = crashed.lanes; is_open = true; has_granted = false }

crashing_16 : IsLived life_16 (world 5) (drop 5 until_crashed) crashed
unfolding computing
crashing_16 =
    repeats (codes "s") (s_in (world 5)) Forward pending_a refl refl refl refl refl ((sound schemas (codes "s") (world 5) (s_in (world 5)) refl refl refl refl refl), here, refl) refl
    (repeats (codes "s") (s_in (world 5)) Forward pending_b refl refl refl refl refl ((sound schemas (codes "s") (world 5) (s_in (world 5)) refl refl refl refl refl), there here, refl) refl
    (acts refl refl refl ((lit≤ tt, tt), (lit≤ tt, (_, (refl, refl), refl)))
    (settles (world 6) refl refl refl refl may_made_a refl
    (living.crashes ended))))

crashing : IsLived closed (world 4) until_crashed crashed
unfolding computing
crashing =
    opens (world 4) refl may_opened_again refl refl refl
    (closes refl refl
    (opens (world 5) refl may_opened_again refl refl refl
    (raises refl refl refl here (lit≤ tt) (lit≤ tt, refl)
    (raises refl refl refl (there here) (lit≤ tt) (lit≤ tt, refl) crashing_16))))

pub stops_again : StopsAgain
unfolding computing
stops_again = crashing.lives refl

abbrev life_24 : Life
life_24 = record crashed { entries = crashed.entries ++ opened_once_more ∷ []; lanes = end.lanes; is_open = true; has_granted = true }

going_6 : IsLived life_24 (world 7) (drop 6 from_then_on) end
unfolding computing
going_6 =
    repeats (codes "s") (s_in (world 7)) Forward pending_b refl refl refl refl refl ((sound schemas (codes "s") (world 7) (s_in (world 7)) refl refl refl refl refl), here, refl) refl
    (acts refl refl refl ((lit≤ tt, tt), (lit≤ tt, (_, (refl, refl), refl)))
    (settles (world 8) refl refl refl refl may_made_b refl
    (grants (world 9) refl tt may_created refl refl
    (closes refl refl ended))))

going : IsLived crashed (world 6) from_then_on end
unfolding computing
going =
    opens (world 7) refl may_opened_once_more refl refl refl
    (raises refl refl refl here (lit≤ tt) (lit≤ tt, refl)
    (raises refl refl refl (there here) (lit≤ tt) (lit≤ tt, refl)
    (repeats (codes "s") (s_in (world 7)) Forward pending_b refl refl refl refl refl ((sound schemas (codes "s") (world 7) (s_in (world 7)) refl refl refl refl refl), here, refl) refl
    (acts refl refl refl ((lit≤ tt, tt), refl)
    (parks refl refl going_6)))))

pub goes_on : GoesOn
unfolding computing
goes_on = going.lives refl

-- Both resources are live as the template wants them.
abbrev seen : Seen
seen = (codes "A", record { physical = Some (codes "f1:1"); attrs = Some (file_attrs (codes "f1:1") 1 (codes "a") (codes "x")) }) ∷ (codes "B", record { physical = Some (codes "r1:2"); attrs = Some (note_attrs (codes "r1:2") 1 (codes "b") (codes "u")) }) ∷ []

abbrev right_a : Right
right_a = record { path = codes "A"; kind = file; deletion = deletion.Delete; replace = replace.Delete; needs = []; props = file_props (codes "a") (codes "x") }

abbrev right_b : Right
right_b = record { path = codes "B"; kind = note; deletion = deletion.Delete; replace = replace.Delete; needs = []; props = note_props (codes "b") (codes "u") }

abbrev whole : Whole
whole = record { wanted = right_a ∷ right_b ∷ []; outputs = []; exports = [] }

well : (r : Held) → In r (s_in (world 9)).held → IsWell end.lanes (s_in (world 9)) seen whole r
unfolding computing
well r i = either (IsWell end.lanes (s_in (world 9)) seen whole)
    (record { right = right_a; live = record { id = codes "f1:1"; kind = file; props = right_a.props; attrs = file_attrs (codes "f1:1") 1 (codes "a") (codes "x") }; is_right = refl; is_live = record { lane = files_with (settled_a ∷ []) [] 3; home = record { handed_in = refl; named = (codes "1", refl) }; live = refl }; kind = refl; props = refl; is_seen = refl; alone = refl })
    (record { right = right_b; live = record { id = codes "r1:2"; kind = note; props = right_b.props; attrs = note_attrs (codes "r1:2") 1 (codes "b") (codes "u") }; is_right = refl; is_live = record { lane = notes_with (settled_b ∷ []) 3; home = record { handed_in = refl; named = (codes "2", refl) }; live = refl }; kind = refl; props = refl; is_seen = refl; alone = refl }) r i

pub ends_as_promised : EndsAsPromised
unfolding computing
ends_as_promised = complete_of (codes "s") (world 9) (s_in (world 9)) end.lanes (source_for (codes "s") 1 source) seen whole refl refl refl refl refl refl refl well (λ w i. either (λ (q : Right). (r : Held) × (current_at q.path (s_in (world 9)).held ≡ Some r)) {a = right_a} {b = right_b} (_, refl) (_, refl) w i)
