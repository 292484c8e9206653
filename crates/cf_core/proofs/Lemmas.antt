-- The lemmas of the crates below that several proofs use: each proof takes them from here.
pub use Rattle.cf_agree.proofs.Words.{at_other, at_same, bytes_or, if_other, if_same, number_or, one_lane, other_bytes}
pub use Rattle.cf_change.proofs.{Leaving.changes_hide, Leaving.stays_forward, Shown.held_there, Shown.shape_is_held}
pub use Rattle.cf_desired.proofs.{Apart.paths_apart, NeedsMatter.needs_suffice, Puts.kept_self}
pub use Rattle.cf_desired.proofs.Termed.{Valued, member_of, members_in, terms_by, wanted_terms}
pub use Rattle.cf_entry.proofs.Codec.{some_is}
pub use Rattle.cf_plan.proofs.{BlameMade.answered_left, BlameRows.into_mapped, BlameRows.none_below, BlameRows.refusal_fails}
pub use Rattle.cf_plan.proofs.{Causing.map_in, CreatedEnd.in_changed, CreatedEnd.none_first}
pub use Rattle.cf_plan.proofs.CreatedRight.{in_filter, none_kept, none_of, not_so, second_not}
pub use Rattle.cf_effect.proofs.Shown.{shown, shown_at}
pub use Rattle.cf_plan.proofs.CreatedStays.{found_in, found_in_more, found_one, found_still, in_more, is_found}
pub use Rattle.cf_plan.proofs.Differ.{differ_apart, differ_end, differ_less, differ_one, differ_rest, none_passes, one_id, one_number}
pub use Rattle.cf_plan.proofs.FailedFound.{doubts_both, excused, failed_or, none_failing, not_thrice}
pub use Rattle.cf_plan.proofs.Frame.{found_passes, own_framed, token_after}
pub use Rattle.cf_plan.proofs.Going.{end_status, like_intended, like_kept, like_replied}
pub use Rattle.cf_plan.proofs.Listed.{bytes_same, in_cons, in_map, in_none, same_bytes}
pub use Rattle.cf_plan.proofs.Members.{all_in, any_in, false_from, in_any, in_first, same_in}
pub use Rattle.cf_plan.proofs.{OneShape.root_bound, Told.any_filtered, Told.any_mapped}
pub use Rattle.cf_plan.proofs.ChangedLists.{and_no, any_no_more, each_map, either_way, find_mapped, found_changed, found_else, found_no_more, keys_mapped, no_and, none_if}
pub use Rattle.cf_plan.proofs.DoneFound.{all_found, all_pass, differ_behind, each_passes, first_of, first_or_all, needs_are, never_later, paths_are, seen_of, value_left}
pub use Rattle.cf_plan.proofs.PropsStay.{Becomes, Ordered, Props, PropsBecome, find_on, flawless, had_before, known_is, known_ordered, no_change, no_detail, no_replacement, unmapped, valued_become, valued_ordered}
pub use Rattle.cf_plan.proofs.RunLists.{Passes, any_of, found_same, greatest, in_back, in_either, in_end, in_front, in_kept, in_mapped, in_one, in_reversed, is_found_in, none_any, none_false, one_counted, or_true, reversed_more, some_counted, some_of, to_mapped}
pub use Rattle.cf_rests.proofs.Viewed.{by_paths}
pub use Rattle.cf_stacks.proofs.Worlds.{found_stands, tail_ascends, value_under}
pub use Rattle.cf_tree.proofs.{Lookups.put_else, Lookups.put_here, Lookups.value_below, Order.ascends_put}
pub use Rattle.std.proofs.lemmas.Bool.{and_from, and_left, and_right, cases_Bool, eq-eqb, eqb-true, ltb-false, ne_eqb, not-true, or_cases, or_left, or_right}
pub use Rattle.std.proofs.{lemmas.Bool.Decides.nat_tests, lemmas.Grind.flat_map-append}
pub use Rattle.std.proofs.lemmas.List.{append-nil, append_assoc, map-append, map-id}
pub use Rattle.std.proofs.lemmas.List.Elements.{filter-append, filter_map-append}
pub use Rattle.std.proofs.{lemmas.List.Folds.find-append, lemmas.List.Folds.list_any-append, lemmas.Slice.Eq.bytes_eq-Decides}
pub use Rattle.cf_plan.proofs.{Cleared.empty_list, Cleared.empty_parts}
