use Rattle.std.proofs.Common.{sym, arith, [], ◌∷◌, map, string_bytes}
use Rattle.std.proofs.Common.{rules}
use Rattle.cf_funcs.specs.Pieces.{without_spaces}
use Rattle.cf_funcs.proofs.Parts.{cut_shorter, member_more}
use Rattle.cf_funcs.proofs.cuts.comma_list.Goals as goal

pub loop-member-smaller : goal.loop-member-smaller
loop-member-smaller c =
    cut_shorter (44 ∷ []) c.loop-member.rest.now (c.in-Some.member.now, c.in-Some.after.now) (omega arith) (sym c.in-Some.ensures)

pub loop-member-preserved : goal.loop-member-preserved
loop-member-preserved c = record {
  is_text = search rules;
  so_far = member_more (44 ∷ []) c.loop-member.rest.now _ (map string_bytes c.loop-member.members.items) _ without_spaces (c.in-Some.member.now, c.in-Some.after.now) _ (omega arith) c.in-Some.ensures c.loop-member.invariant.so_far c.without_spaces.ensures c.in_ok-push_text.ensures;
}
