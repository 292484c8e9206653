-- The properties that a template says of a path stand in the order of their names, as those of its resources do.
use Rattle.std.proofs.Common.{◌≡◌, ◌∙◌, ℕ, List, true, refl, sym, ap, subst, arith}
use Rattle.cf_core.proofs.Words.{Body, In, Known, SaidIsInOrder, Seen, Source, Wanted, ascends, at_path, attrs_seen, bytes_eq, given_root, id_seen, is_wanted_at, known_of, plan_by, shape_of, valued_in, wanted_at, wanted_of}
use Rattle.cf_core.proofs.Lemmas.{Ordered, Valued, find_on, found_in, found_one, had_before, in_map, is_found, kept_self, known_is, known_ordered, member_of as valued_member, members_in, unmapped, valued_ordered}
use Rattle.cf_tree.specs.Datum as tree
use Rattle.cf_rests.proofs.Sorted.{Sorted, shape_sorted}

by_shape : (source : Source) (before seen : Seen) (path k : List ℕ) (ps : List (List ℕ × tree.Data))
    → found_in (wanted_at path (plan_by source (shape_of source before) seen)) ≡ Known k ps → ascends ps ≡ true
by_shape source before seen path k ps e =
    let shape : Body = shape_of source before in
    let all : List Valued = valued_in source seen (given_root source) shape in
    let w = is_found k ps (wanted_at path (plan_by source shape seen)) e in
    let y = unmapped wanted_of (at_path path all) w.wanted (sym (find_on wanted_of (is_wanted_at path) all) ∙ w.there) in
    let i = (found_one (λ (r : Valued). bytes_eq path r.0.path) all y.0 y.1).0 in
    let sorted : Sorted y.0.0.props =
    shape_sorted source before y.0.0 (subst (λ ms. In y.0.0 ms) (members_in source seen (given_root source) shape) (in_map valued_member y.0 all i)) in
    let xs = known_is y.0.1 ps (ap (λ (v : Wanted). known_of v.props) y.2 ∙ w.props) in
    let was = had_before source shape seen seen (λ q. (kept_self (id_seen q seen), kept_self (attrs_seen q seen))) path y.0 y.1 in
    known_ordered xs.0 ps xs.2 (subst Ordered xs.1 (valued_ordered was.one y.0 was.valued sorted))

pub said_in_order : SaidIsInOrder
said_in_order s path k ps e = grind (arith, found_in, by_shape)
