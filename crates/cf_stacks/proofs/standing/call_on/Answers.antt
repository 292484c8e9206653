use Rattle.std.proofs.Common.{◌≡◌, ℕ, List, Option, Err, sym, ap, ◌∙◌}
use Rattle.std.specs.Option.{option_map_or}
use Rattle.cf_tree.specs.Keys.{place, put, value_at}
use Rattle.cf_tree.proofs.Lookups.{entry_missed}
use Rattle.cf_stacks.specs.Room.{StackStanding}
use Rattle.cf_stacks.specs.Standing.{NamedStanding, stack_called}
use Rattle.cf_stacks.proofs.Worlds.{called_ascend, none_called}
use Rattle.cf_stacks.proofs.standing.call_on.Goals.{in-Ok, in-Err}
use Rattle.cf_stacks.proofs.standing.call_on.Goals as goal

pub from_vec-requires : goal.from_vec-requires
from_vec-requires c =
    let items : List NamedStanding = c.into_vec-pairs.result.items in
    elim c.match-place_of.branch [
      | in-Ok w ↦ rw (w.pairs-is, w.call_at.ensures) (called_ascend c.args.name.now (stack_called c.args.parts c.args.entry) (value_at c.args.name.now items) items c.into_vec-pairs.ensures.in_order)
      | in-Err w ↦ rw w.pairs-is c.into_vec-pairs.ensures.in_order
    ]

pub returns : goal.returns
returns c =
    let items : List NamedStanding = c.into_vec-pairs.result.items in
    let was : items ≡ c.args.stacks.now = c.into_vec-pairs.ensures.value ∙ c.replace.ensures.value in
    let so = ap (λ (ss : List NamedStanding). option_map_or (λ (s : StackStanding). put c.args.name.now (stack_called c.args.parts c.args.entry s) ss) (value_at c.args.name.now ss) ss) was in
    elim c.match-place_of.branch [
      | in-Ok w ↦ c.from_vec.ensures ∙ ap (λ v. v.items) w.pairs-is ∙ w.call_at.ensures ∙ so
      | in-Err w ↦
          let at : place c.args.name.now items ≡ Err w.in-Err.field-0 =
          ap (λ (k : List ℕ). place k items) (sym c.as_str.ensures) ∙ ap (place c.as_str.result.now) (sym c.as_slice.ensures.value) ∙ sym c.place_of.ensures ∙ w.in-Err.is in
          c.from_vec.ensures ∙ ap (λ v. v.items) w.pairs-is
          ∙ none_called c.args.name.now (stack_called c.args.parts c.args.entry) (value_at c.args.name.now items) items (entry_missed c.args.name.now items w.in-Err.field-0 c.into_vec-pairs.ensures.in_order at) ∙ so
    ]
