use Rattle.std.proofs.Common.{◌≡◌, List, Option, None, find, position, sym, ap, ◌∙◌}
use Rattle.std.specs.Option.{option_map_or}
use Rattle.cf_tree.specs.Keys.{put}
use Rattle.cf_stacks.specs.Standing.{NamedStanding, answered_at}
use Rattle.cf_effect.specs.World.{is_going}
use Rattle.cf_stacks.proofs.Places.{answers_none}
use Rattle.cf_stacks.proofs.Worlds.{answered_ascend}
use Rattle.cf_stacks.proofs.standing.answer_going.Goals.{in-Some-going_at, in-None-going_at}
use Rattle.cf_stacks.proofs.standing.answer_going.Goals as goal

pub from_vec-requires : goal.from_vec-requires
from_vec-requires c =
    let items : List NamedStanding = c.into_vec-pairs.result.items in
    elim c.match-going_at.branch [
      | in-Some-going_at w ↦ rw (w.pairs-is, w.answer_at.ensures) (answered_ascend (answered_at c.args.place c.args.entry) (find (λ s. is_going c.args.number s.1.stack) items) items c.into_vec-pairs.ensures.in_order)
      | in-None-going_at w ↦ rw w.pairs-is c.into_vec-pairs.ensures.in_order
    ]

pub returns : goal.returns
returns c =
    let items : List NamedStanding = c.into_vec-pairs.result.items in
    let was : items ≡ c.args.stacks.now = c.into_vec-pairs.ensures.value ∙ c.replace.ensures.value in
    let so = ap (λ (ss : List NamedStanding). option_map_or (λ (s : NamedStanding). put s.0 (answered_at c.args.place c.args.entry s.1) ss) (find (λ s. is_going c.args.number s.1.stack) ss) ss) was in
    elim c.match-going_at.branch [
      | in-Some-going_at w ↦ c.from_vec.ensures ∙ ap (λ v. v.items) w.pairs-is ∙ w.answer_at.ensures ∙ so
      | in-None-going_at w ↦
          let none : position (λ (s : NamedStanding). is_going c.args.number s.1.stack) items ≡ None =
          ap (position (λ (s : NamedStanding). is_going c.args.number s.1.stack)) (sym c.as_slice-2.ensures.value) ∙ sym c.going_at.ensures ∙ w.in-None-going_at.is in
          c.from_vec.ensures ∙ ap (λ v. v.items) w.pairs-is
          ∙ answers_none (answered_at c.args.place c.args.entry) (λ (s : NamedStanding). is_going c.args.number s.1.stack) items none ∙ so
    ]
