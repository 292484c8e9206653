-- The life of two stacks.
use Rattle.std.proofs.Common.{◌≡◌, refl, List, [], ◌∷◌, ◌++◌, Some, None, true, false, ℕ, inl, inr, lit≤, sym, subst}
use Rattle.std.specs.Prelude.{codes, drop, take}
use Rattle.cf_tree.specs.declared.template.Deletion.TheVariants as deletion
use Rattle.cf_tree.specs.declared.template.Replace.TheVariants as replace
use Rattle.cf_schema.specs.declared.changed.Difference.TheVariants.{Same, Update, Replace}
use Rattle.cf_desired.specs.Seeing.{Seen}
use Rattle.cf_desired.specs.Whole.{Right, Whole}
use Rattle.cf_entry.specs.declared.entry.Entry.{Entry}
use Rattle.cf_effect.specs.declared.held.Held.{Held}
use Rattle.cf_effect.specs.World.{World, StackState, empty_world, known_stack}
use Rattle.cf_effect.specs.Fold.{fold_of}
use Rattle.cf_effect.specs.Begin.{source_for}
use Rattle.cf_effect.specs.Words.{current_at}
use Rattle.cf_effect.specs.Status.{Forward, Clean}
use Rattle.cf_plan.specs.Forward.{AllDone, IsDone, is_made, is_updated}
use Rattle.cf_tree.specs.Lists.{there}
use Rattle.cf_tree.specs.Lists.{here}
use Rattle.cf_tree.specs.Lists.{In}
use Rattle.cf_plan.specs.Follow.{MayFollow, IsNamedLane}
use Rattle.cf_plan.specs.Ends.{IsComplete}
use Rattle.cf_plan.specs.Life.{Life, Lease}
use Rattle.cf_examples.specs.Given.{schemas, file, note, file_props, file_attrs, note_props, note_attrs}
use Rattle.cf_examples.specs.Ends.{IsPromised}
use Rattle.cf_examples.specs.FirstLife.{files_with}
use Rattle.cf_examples.specs.LateEffect.{second, opened, begun, intended, made, created}
use Rattle.cf_examples.specs.LateLife.{creation}
use Rattle.cf_examples.specs.StoppedLife.{start, notes_with, create_b, settled_b}
use Rattle.cf_examples.specs.PairedLife.{other, reviewed, opened_again, creating, intended_b, updating, update_a, intended_a, changed_a, cleaning, made_b, updated, created_other, settled_a, until_reviewed, kept, Reviews, ReviewsAsPromised, from_then_on, end, GoesOn, UpdatesAsPromised, CreatesAsPromised}
use Rattle.cf_examples.proofs.Computing.{computing}
use Rattle.cf_examples.proofs.Lists.{only, in_none}
use Rattle.cf_examples.proofs.Standing.{IsWell, complete_of}
use Rattle.cf_examples.proofs.Failing.{sound, not_done_new, not_done_other, same_at}
use Rattle.cf_examples.proofs.Ending.{end_of_create, end_of_clean}
use Rattle.cf_examples.proofs.Refusing.{fold_joined}
use Rattle.cf_examples.proofs.Beginning.{no_imports, opens_two}
use Rattle.cf_examples.proofs.LateEffect.{may_opened, may_begun, may_intended, may_made, may_created, world_1, world_2, world_3, world_4, world_5}
use Rattle.cf_examples.proofs.Living.{IsLived, ended, opens, reviews, raises, begins, grants, acts, settles, closes}

-- The worlds, and what may follow in them.
-- the world of so many entries behind that one
abbrev behind : ℕ → World
behind n = fold_of world_5 (take n (drop 5 end.entries))

abbrev s_in : World → StackState
s_in x = known_stack (codes "s") x

abbrev t_in : World → StackState
t_in x = known_stack (codes "t") x

may_reviewed : MayFollow schemas world_5 [] reviewed
unfolding computing
may_reviewed = (refl, refl, record { accepted = record { no_flaw = refl; known_types = refl; same_types = refl; imports = no_imports _ _ _ _ refl refl; free = refl; not_in_use = refl; changing = inl refl }; changing = refl; rows_are = refl; outputs_are = refl })

abbrev both : List (List ℕ × List ℕ)
both = (codes "f1", file) ∷ (codes "r1", note) ∷ []

may_opened_again : MayFollow schemas (behind 1) [] opened_again
unfolding computing
may_opened_again = (refl, refl, opens_two both (behind 1) (codes "s") (codes "t") (s_in (behind 1)) (t_in (behind 1)) refl ((λ h i. only (λ (g : Held). IsNamedLane both g.physical g.kind) ((codes "f1", file), here, (codes "1", refl), refl) h i), (λ p i. absurd (in_none i))) ((λ h i. absurd (in_none i)), (λ p i. absurd (in_none i))))

may_creating : MayFollow schemas (behind 2) [] creating
unfolding computing
may_creating = (refl, refl, record { no_flaw = refl; known_types = refl; same_types = refl; imports = no_imports _ _ _ _ refl refl; free = refl; not_in_use = refl; changing = inl refl })

may_intended_b : MayFollow schemas (behind 3) [] intended_b
unfolding computing
may_intended_b = (codes "t", t_in (behind 3), Forward, refl, refl, record { next = refl; free = refl; home = refl; fits = refl; no_repeat = refl; chosen = ((sound schemas (codes "t") (behind 3) (t_in (behind 3)) refl refl refl refl refl), (here, λ q i. absurd (in_none i)), not_done_new (codes "B") (t_in (behind 3)) refl refl refl, (refl, tt)) })

may_updating : MayFollow schemas (behind 4) (2 ∷ []) updating
unfolding computing
may_updating = (refl, refl, record { no_flaw = refl; known_types = refl; same_types = refl; imports = no_imports _ _ _ _ refl refl; free = refl; not_in_use = refl; changing = inr refl })

may_intended_a : MayFollow schemas (behind 5) (2 ∷ []) intended_a
unfolding computing
may_intended_a = (codes "s", s_in (behind 5), Forward, refl, refl, record { next = refl; free = refl; home = refl; fits = ((codes "1", refl), refl); no_repeat = refl; chosen = ((sound schemas (codes "s") (behind 5) (s_in (behind 5)) refl refl refl refl refl), (here, λ q i. absurd (in_none i)), not_done_other (codes "A") (s_in (behind 5)) (same_at (codes "Content") (codes "x")) _ _ _ refl refl refl refl refl refl, (_, refl, refl, refl, ((λ e. let z : Update ≡ Replace = e in cc), inr (λ e. let z : Update ≡ Same = e in cc)), refl)) })

may_changed_a : MayFollow schemas (behind 6) (2 ∷ 3 ∷ []) changed_a
unfolding computing
may_changed_a = (codes "s", s_in (behind 6), Forward, refl, refl, (refl, refl, lit≤ tt))

all_done_12_s : AllDone (s_in (behind 7))
unfolding computing
all_done_12_s p i = only (IsDone (s_in (behind 7))) (is_updated refl) p i

may_cleaning : MayFollow schemas (behind 7) (2 ∷ []) cleaning
unfolding computing
may_cleaning = (codes "s", s_in (behind 7), Forward, refl, refl, (refl, (refl, (sound schemas (codes "s") (behind 7) (s_in (behind 7)) refl refl refl refl refl), all_done_12_s)))

may_made_b : MayFollow schemas (behind 8) (2 ∷ []) made_b
unfolding computing
may_made_b = (codes "t", t_in (behind 8), Forward, refl, refl, (refl, refl, lit≤ tt))

may_updated : MayFollow schemas (behind 9) [] updated
unfolding computing
may_updated = (codes "s", s_in (behind 9), Clean, refl, refl, (refl, end_of_clean schemas (codes "s") (behind 9) (s_in (behind 9)) refl refl refl refl, tt, refl))

all_done_15_t : AllDone (t_in (behind 10))
unfolding computing
all_done_15_t p i = only (IsDone (t_in (behind 10))) (is_made _ refl) p i

may_created_other : MayFollow schemas (behind 10) [] created_other
unfolding computing
may_created_other = (codes "t", t_in (behind 10), Forward, refl, refl, (refl, end_of_create schemas (codes "t") (behind 10) (t_in (behind 10)) refl all_done_15_t (sound schemas (codes "t") (behind 10) (t_in (behind 10)) refl refl refl refl refl) refl, ((sound schemas (codes "t") (behind 10) (t_in (behind 10)) refl refl refl refl refl), all_done_15_t), refl))

-- The life, in its two parts.
abbrev entries_5 : List Entry
entries_5 = opened ∷ begun ∷ intended ∷ made ∷ created ∷ []

arrives_5 : fold_of empty_world entries_5 ≡ world_5
unfolding computing
arrives_5 = refl

abbrev life_7 : Life
life_7 = record kept { entries = entries_5; is_open = true }

reviewing_7 : IsLived life_7 world_5 (drop 7 until_reviewed) kept
unfolding computing
reviewing_7 =
    closes refl refl
    (reviews world_5 refl tt may_reviewed refl
    (reviews (behind 1) refl tt may_reviewed refl ended))

reviewing : IsLived start empty_world until_reviewed kept
unfolding computing
reviewing =
    opens world_1 refl may_opened refl refl refl
    (raises refl refl refl here (lit≤ tt) (lit≤ tt, refl)
    (begins world_2 refl refl tt may_begun refl
    (grants world_3 refl tt may_intended refl refl
    (acts refl refl refl ((lit≤ tt, tt), (lit≤ tt, (_, (((codes "1", refl), lit≤ tt, refl, lit≤ tt), refl), refl)))
    (settles world_4 refl refl refl refl may_made refl
    (grants world_5 refl tt may_created refl refl reviewing_7))))))

pub does_review : Reviews
does_review = reviewing.lives refl

-- the leases of both stacks
abbrev lease_b : Lease
lease_b = record { number = 2; token = 2; lane = codes "r1"; request = create_b; reply = None }

abbrev lease_a : Lease
lease_a = record { number = 3; token = 3; lane = codes "f1"; request = update_a; reply = None }

abbrev life_17 : Life
life_17 = record { entries = kept.entries ++ opened_again ∷ creating ∷ intended_b ∷ updating ∷ intended_a ∷ []; lanes = files_with (creation ∷ []) [] 2 ∷ notes_with [] 2 ∷ []; leases = lease_b ∷ lease_a ∷ []; is_open = true; has_granted = true; is_stopped = false }

going_7 : IsLived life_17 (behind 6) (drop 7 from_then_on) end
unfolding computing
going_7 =
    acts refl refl refl ((lit≤ tt, tt), (lit≤ tt, (_, ((refl, refl, lit≤ tt), refl), refl)))
    (settles (behind 7) refl refl refl refl may_changed_a refl
    (grants (behind 8) refl tt may_cleaning refl refl
    (acts refl refl refl ((lit≤ tt, tt), (lit≤ tt, (_, (((codes "2", refl), lit≤ tt, refl, lit≤ tt), refl), refl)))
    (settles (behind 9) refl refl refl refl may_made_b refl
    (grants (behind 10) refl tt may_updated refl refl
    (grants (behind 11) refl tt may_created_other refl refl
    (closes refl refl ended)))))))

going : IsLived kept (behind 1) from_then_on end
unfolding computing
going =
    opens (behind 2) refl may_opened_again refl refl refl
    (raises refl refl refl (there here) (lit≤ tt) (lit≤ tt, refl)
    (raises refl refl refl here (lit≤ tt) (lit≤ tt, refl)
    (begins (behind 3) refl refl tt may_creating refl
    (grants (behind 4) refl tt may_intended_b refl refl
    (begins (behind 5) refl refl tt may_updating refl
    (grants (behind 6) refl tt may_intended_a refl refl going_7))))))

arrives_6 : fold_of empty_world kept.entries ≡ (behind 1)
arrives_6 = fold_joined empty_world entries_5 (reviewed ∷ []) arrives_5 refl

pub goes_on : GoesOn
goes_on = going.lives arrives_6

arrives_16 : fold_of empty_world end.entries ≡ (behind 11)
arrives_16 = fold_joined empty_world kept.entries (drop 6 end.entries) arrives_6 refl

pub reviews_as_promised : ReviewsAsPromised
unfolding computing
reviews_as_promised = subst (λ x. IsPromised (codes "t") x kept.lanes) (sym arrives_6) (record { settled = record { none_open = refl; none_made = refl }; none_held = refl })

-- What each stack has in the end is live as its template wants it.
abbrev right_a : Right
right_a = record { path = codes "A"; kind = file; deletion = deletion.Delete; replace = replace.Delete; needs = []; props = file_props (codes "a") (codes "y") }

abbrev right_b : Right
right_b = record { path = codes "B"; kind = note; deletion = deletion.Delete; replace = replace.Delete; needs = []; props = note_props (codes "b") (codes "u") }

abbrev whole_of_one : Right → Whole
whole_of_one w = record { wanted = w ∷ []; outputs = []; exports = [] }

abbrev seen_s : Seen
seen_s = (codes "A", record { physical = Some (codes "f1:1"); attrs = Some (file_attrs (codes "f1:1") 1 (codes "a") (codes "y")) }) ∷ []

abbrev seen_t : Seen
seen_t = (codes "B", record { physical = Some (codes "r1:2"); attrs = Some (note_attrs (codes "r1:2") 1 (codes "b") (codes "u")) }) ∷ []

well_s : (r : Held) → In r (s_in (behind 11)).held → IsWell end.lanes (s_in (behind 11)) seen_s (whole_of_one right_a) r
unfolding computing
well_s r i = only (IsWell end.lanes (s_in (behind 11)) seen_s (whole_of_one right_a)) (record { right = right_a; live = record { id = codes "f1:1"; kind = file; props = right_a.props; attrs = file_attrs (codes "f1:1") 1 (codes "a") (codes "y") }; is_right = refl; is_live = record { lane = files_with (creation ∷ settled_a ∷ []) [] 2; home = record { handed_in = refl; named = (codes "1", refl) }; live = refl }; kind = refl; props = refl; is_seen = refl; alone = refl }) r i

well_t : (r : Held) → In r (t_in (behind 11)).held → IsWell end.lanes (t_in (behind 11)) seen_t (whole_of_one right_b) r
unfolding computing
well_t r i = only (IsWell end.lanes (t_in (behind 11)) seen_t (whole_of_one right_b)) (record { right = right_b; live = record { id = codes "r1:2"; kind = note; props = right_b.props; attrs = note_attrs (codes "r1:2") 1 (codes "b") (codes "u") }; is_right = refl; is_live = record { lane = notes_with (settled_b ∷ []) 2; home = record { handed_in = refl; named = (codes "2", refl) }; live = refl }; kind = refl; props = refl; is_seen = refl; alone = refl }) r i

complete_s : IsComplete (codes "s") (behind 11) (s_in (behind 11)) end.lanes
unfolding computing
complete_s = complete_of (codes "s") (behind 11) (s_in (behind 11)) end.lanes (source_for (codes "s") 1 second) seen_s (whole_of_one right_a) refl refl refl refl refl refl refl well_s (λ w i. only (λ (q : Right). (r : Held) × (current_at q.path (s_in (behind 11)).held ≡ Some r)) (_, refl) w i)

complete_t : IsComplete (codes "t") (behind 11) (t_in (behind 11)) end.lanes
unfolding computing
complete_t = complete_of (codes "t") (behind 11) (t_in (behind 11)) end.lanes (source_for (codes "t") 2 other) seen_t (whole_of_one right_b) refl refl refl refl refl refl refl well_t (λ w i. only (λ (q : Right). (r : Held) × (current_at q.path (t_in (behind 11)).held ≡ Some r)) (_, refl) w i)

pub updates_as_promised : UpdatesAsPromised
unfolding computing
updates_as_promised = subst (λ x. IsPromised (codes "s") x end.lanes) (sym arrives_16) complete_s

pub creates_as_promised : CreatesAsPromised
unfolding computing
creates_as_promised = subst (λ x. IsPromised (codes "t") x end.lanes) (sym arrives_16) complete_t
