use Rattle.std.proofs.Common.{◌≡◌, ℕ, List, [], Option, None, Ok, Err, length, vec_capacity, sym, ap, subst, ◌∙◌}
use Rattle.cf_tree.specs.Keys.{place, put, value_at}
use Rattle.cf_tree.proofs.Lookups.{entry_missed}
use Rattle.cf_stacks.specs.Room.{StackStanding}
use Rattle.cf_stacks.specs.Standing.{LeftFits, NamedStanding, left_as}
use Rattle.cf_effect.specs.State.{state_of}
use Rattle.cf_stacks.proofs.Places.{fits_new, fits_there}
use Rattle.cf_stacks.proofs.Worlds.{none_after}
use Rattle.cf_stacks.proofs.standing.put_left.Goals as goal

pub leave_at-requires-clause-fits : goal.leave_at-requires-clause-fits
leave_at-requires-clause-fits c =
    let items : List NamedStanding = c.into_vec-pairs.result.items in
    let was : items ≡ c.args.stacks.now = c.into_vec-pairs.ensures.value ∙ c.replace.ensures.value in
    let at : place c.args.name items ≡ Ok c.in-Ok.at =
    ap (λ (k : List ℕ). place k items) (sym c.as_str.ensures) ∙ ap (place c.as_str.result.now) (sym c.as_slice.ensures.value) ∙ sym c.place_of.ensures ∙ c.in-Ok.is in
    fits_there c.args.name items c.into_vec-pairs.ensures.in_order c.args.entry.now c.args.state (vec_capacity c.args.more) (length items) c.in-Ok.at at
    (subst (λ (ss : List NamedStanding). LeftFits c.args.entry.now c.args.state (vec_capacity c.args.more) (length ss) (value_at c.args.name ss)) (sym was) c.requires.fits)

pub insert_at-pairs-requires-clause-room : goal.insert_at-pairs-requires-clause-room
insert_at-pairs-requires-clause-room c =
    let items : List NamedStanding = c.into_vec-pairs.result.items in
    let was : items ≡ c.args.stacks.now = c.into_vec-pairs.ensures.value ∙ c.replace.ensures.value in
    let at : place c.args.name items ≡ Err c.in-Err.at =
    ap (λ (k : List ℕ). place k items) (sym c.as_str.ensures) ∙ ap (place c.as_str.result.now) (sym c.as_slice.ensures.value) ∙ sym c.place_of.ensures ∙ c.in-Err.is in
    fits_new c.args.name items c.into_vec-pairs.ensures.in_order c.args.entry.now c.args.state (vec_capacity c.args.more) (length items) c.in-Err.at at
    (subst (λ (ss : List NamedStanding). LeftFits c.args.entry.now c.args.state (vec_capacity c.args.more) (length ss) (value_at c.args.name ss)) (sym was) c.requires.fits)

pub returns-in-Err : goal.returns-in-Err
returns-in-Err c =
    let items : List NamedStanding = c.into_vec-pairs.result.items in
    let was : items ≡ c.args.stacks.now = c.into_vec-pairs.ensures.value ∙ c.replace.ensures.value in
    let at : place c.args.name items ≡ Err c.in-Err.at =
    ap (λ (k : List ℕ). place k items) (sym c.as_str.ensures) ∙ ap (place c.as_str.result.now) (sym c.as_slice.ensures.value) ∙ sym c.place_of.ensures ∙ c.in-Err.is in
    c.from_vec-in-Err.ensures ∙ c.insert_at-pairs.ensures
    ∙ ap (λ (v : StackStanding). put c.args.name v items)
    (c.of.ensures ∙ ap (λ (ts : List ℕ). record { stack = state_of c.args.state; awaited = ts; spare = 0 }) (sym (none_after c.args.entry.now c.requires.entry)))
    ∙ ap (λ (o : Option StackStanding). put c.args.name (left_as c.args.entry.now c.args.state o) items) (sym (entry_missed c.args.name items c.in-Err.at c.into_vec-pairs.ensures.in_order at))
    ∙ ap (λ (ss : List NamedStanding). put c.args.name (left_as c.args.entry.now c.args.state (value_at c.args.name ss)) ss) was
