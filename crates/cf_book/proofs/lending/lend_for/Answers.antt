use Rattle.std.proofs.Common.{arith, ◌≡◌, List, Ok, Some, length, map, slice_get, slice_set, sym, ◌∙◌, ap, subst}
use Rattle.std.proofs.lemmas.List.{length-map}
use Rattle.std.proofs.lemmas.Option.{slice_get_within}
use Rattle.cf_tree.specs.declared.memory.NoMemory.{NoMemory}
use Rattle.cf_next.specs.declared.home.Home.{Home}
use Rattle.cf_book.specs.Inside.{places_now}
use Rattle.cf_book.specs.Lending.{LendsAt, call_for, place_for}
use Rattle.cf_book.specs.State.{home_of}
use Rattle.cf_book.proofs.Lent.{free_there, lent_to, marked_out, placed}
use Rattle.cf_book.proofs.lending.lend_for.Goals as goal

pub lend_from-requires : goal.lend_from-requires
lend_from-requires g c =
    let (b, f) = free_there (places_now g.H.Handler c.args.places.now.items) c.args.asked.lane c.args.asked.token c.args.homes.now c.in-Some.at c.requires.homes (placed c.args.number c.args.world.now.world c.args.homes.now c.args.asked c.in-Some.at (ap (λ hs. place_for c.args.number c.args.world.now.world hs c.args.asked) (sym c.as_slice.ensures) ∙ sym c.place_for.ensures ∙ c.in-Some.is)).1 in
    record { home = (b, f.stands, f.free) }

pub mark_out-requires : goal.mark_out-requires
mark_out-requires g c =
    let (b, f) = free_there (places_now g.H.Handler c.args.places.now.items) c.args.asked.lane c.args.asked.token c.args.homes.now c.in-Some.at c.requires.homes (placed c.args.number c.args.world.now.world c.args.homes.now c.args.asked c.in-Some.at (ap (λ hs. place_for c.args.number c.args.world.now.world hs c.args.asked) (sym c.as_slice.ensures) ∙ sym c.place_for.ensures ∙ c.in-Some.is)).1 in
    let within = slice_get_within (places_now g.H.Handler c.args.places.now.items) c.in-Some.at b f.stands in
    let same = ap length (c.as_mut_slice.ensures.value ∙ c.requires.homes) in
    omega (arith, within, same, length-map (places_now g.H.Handler c.args.places.now.items) home_of)

pub returns-in-Ok-clause-lends : goal.returns-in-Ok-clause-lends
returns-in-Ok-clause-lends g c =
    let (b, f) = free_there (places_now g.H.Handler c.args.places.now.items) c.args.asked.lane c.args.asked.token c.args.homes.now c.in-Some.at c.requires.homes (placed c.args.number c.args.world.now.world c.args.homes.now c.args.asked c.in-Some.at (ap (λ hs. place_for c.args.number c.args.world.now.world hs c.args.asked) (sym c.as_slice.ensures) ∙ sym c.place_for.ensures ∙ c.in-Some.is)).1 in
    lent_to NoMemory g.H.Handler (places_now g.H.Handler c.args.places.now.items) (places_now g.H.Handler c.lend_from.new.places.items) c.args.asked.lane
    c.args.asked.token c.args.homes.now c.in-Some.at (call_for c.args.world.now.world.epoch c.args.number c.args.asked) c.in-Ok.lent.0 b f c.requires.differ
    (subst (λ n. LendsAt {E = NoMemory} g.H.Handler (places_now g.H.Handler c.args.places.now.items) (places_now g.H.Handler c.lend_from.new.places.items) c.in-Some.at
    (call_for n c.args.number c.args.asked) (Ok c.in-Ok.lent.0)) c.epoch.ensures c.in-Ok.ensures.lends)

pub returns-in-Ok-clause-homes : goal.returns-in-Ok-clause-homes
returns-in-Ok-clause-homes g c =
    let (b, stands, free, lent, granted, owns) = c.in-Ok.ensures.lends in
    let (h, got, left) = c.mark_out.ensures in
    let same = c.as_mut_slice.ensures.value in
    marked_out (places_now g.H.Handler c.args.places.now.items) (places_now g.H.Handler c.lend_from.new.places.items) b
    (call_for c.epoch.result c.args.number c.args.asked) c.args.homes.now c.mark_out.new.homes c.in-Some.at h c.requires.homes
    (subst (λ (hs : List Home). slice_get hs c.in-Some.at ≡ Some h) same got)
    (left ∙ ap (λ (hs : List Home). slice_set hs c.in-Some.at (record h { out = Some c.args.asked.token })) same) stands lent

pub returns-in-Ok-clause-expected : goal.returns-in-Ok-clause-expected
returns-in-Ok-clause-expected g c =
    let found = (placed c.args.number c.args.world.now.world c.args.homes.now c.args.asked c.in-Some.at (ap (λ hs. place_for c.args.number c.args.world.now.world hs c.args.asked) (sym c.as_slice.ensures) ∙ sym c.place_for.ensures ∙ c.in-Some.is)) in
    let (b, f) = free_there (places_now g.H.Handler c.args.places.now.items) c.args.asked.lane c.args.asked.token c.args.homes.now c.in-Some.at c.requires.homes found.1 in
    record { expected = found.0; unused = f.unused }

pub returns-in-Err-clause-homes : goal.returns-in-Err-clause-homes
returns-in-Err-clause-homes g c = c.requires.homes ∙ ap (map home_of) (sym c.in-Err.ensures.lends)
