use Rattle.std.proofs.Common.{arith, ◌≡◌, List, Ok, Err, OnOk, length, map, sym, ◌∙◌, ap, subst, refl}
use Rattle.std.proofs.lemmas.List.{length-map}
use Rattle.std.specs.Str.{bytes_eq}
use Rattle.cf_tree.specs.Named.{all_differ}
use Rattle.cf_entry.specs.Entry.{IsProper}
use Rattle.cf_entry.specs.declared.entry.Entry.{Entry}
use Rattle.cf_lane.specs.Calling.{leased_lane}
use Rattle.cf_lane.specs.Lanes.{lane_now}
use Rattle.cf_lane.specs.declared.lane.Lane.{Lane}
use Rattle.cf_lane.specs.declared.lease.Lease.{Lease}
use Rattle.cf_book.specs.Inside.{MayComeHome, doubt_in, entries_in, name_of, place_now, places_now}
use Rattle.cf_book.specs.Lending.{AwaitsAs, EntersIn, call_for, intent_for}
use Rattle.cf_book.specs.State.{BookLane, lent_for, with_lane}
use Rattle.cf_book.proofs.Again.{enters_err, enters_ok, unentered}
use Rattle.cf_book.proofs.Appended.{known_open, same_room, unmoved}
use Rattle.cf_book.proofs.Lent.{may_return, names_lent, returned}
use Rattle.cf_book.proofs.issuing.issue.Goals as goal

pub enter_call-requires-clause-proper : goal.enter_call-requires-clause-proper
enter_call-requires-clause-proper g c = subst IsProper (sym c.in-Ok.ensures.intent) tt

pub take_home-requires-clause-homes : goal.take_home-requires-clause-homes
take_home-requires-clause-homes g c = c.in-Ok.ensures.homes

pub take_home-requires-clause-differ : goal.take_home-requires-clause-differ
take_home-requires-clause-differ g c =
    ap (λ (ls : List BookLane). all_differ bytes_eq (map name_of ls)) c.in-Ok.ensures.lends.1.lent ∙ ap (all_differ bytes_eq) (names_lent (call_for c.args.record.now.world.world.epoch c.args.number c.args.asked) c.in-Ok.ensures.lends.0.lane (places_now g.H.Handler c.args.places.now.items)) ∙ c.requires.differ

pub take_home-requires-clause-out : goal.take_home-requires-clause-out
take_home-requires-clause-out g c =
    subst (λ (z : Lane g.row.H.Denot). MayComeHome g.H.Handler (places_now g.H.Handler c.lend_for.new.places.items) z) (sym c.back.ensures)
    (may_return g.H.Handler (places_now g.H.Handler c.args.places.now.items) (places_now g.H.Handler c.lend_for.new.places.items) c.in-Ok.ensures.lends.0 (call_for c.args.record.now.world.world.epoch c.args.number c.args.asked) (leased_lane c.in-Ok.lease) c.in-Ok.ensures.lends.1.home c.in-Ok.ensures.lends.1.lent c.in-Ok.ensures.lends.1.owns)

pub returns-in-Err-enter_call-clause-lends : goal.returns-in-Err-enter_call-clause-lends
returns-in-Err-enter_call-clause-lends g c =
    returned (places_now g.H.Handler c.args.places.now.items) (places_now g.H.Handler c.lend_for.new.places.items) _ c.in-Ok.ensures.lends.0 (call_for c.args.record.now.world.world.epoch c.args.number c.args.asked) (lane_now g.H.Handler c.back.result) c.in-Ok.ensures.lends.1.home c.in-Ok.ensures.lends.1.free c.requires.differ c.in-Ok.ensures.lends.1.lent
    (ap (λ (z : Lane g.row.H.Denot). lane_now g.H.Handler z) c.back.ensures ∙ c.in-Ok.ensures.lends.1.owns) c.take_home.ensures.places

pub returns-in-Err-enter_call-clause-enters : goal.returns-in-Err-enter_call-clause-enters
returns-in-Err-enter_call-clause-enters g c =
    subst (λ (e : Entry). EntersIn {T = Lease g.row.H.Denot} g.D.Disk c.args.record.now c.enter_call.new.record c.args.asked.repeated e (Err c.in-Err-enter_call.fault)) c.in-Ok.ensures.intent
    (enters_err (Unit {0}) (Lease g.row.H.Denot) g.D.Disk c.args.record.now c.enter_call.new.record c.args.asked.repeated c.in-Ok.intent c.in-Err-enter_call.fault c.in-Err-enter_call.ensures.enters)

pub returns-in-Ok-enter_call-clause-enters : goal.returns-in-Ok-enter_call-clause-enters
returns-in-Ok-enter_call-clause-enters g c =
    subst (λ (e : Entry). EntersIn {T = Lease g.row.H.Denot} g.D.Disk c.args.record.now c.enter_call.new.record c.args.asked.repeated e (Ok c.in-Ok.lease)) c.in-Ok.ensures.intent
    (enters_ok {T = Unit {0}} g.D.Disk c.args.record.now c.enter_call.new.record c.args.asked.repeated c.in-Ok.intent tt c.in-Ok.lease c.in-Ok-enter_call.ensures.enters)

pub returns-in-Ok-enter_call-clause-awaits : goal.returns-in-Ok-enter_call-clause-awaits
returns-in-Ok-enter_call-clause-awaits g c =
    subst (λ (e : Entry). AwaitsAs c.args.asked.repeated c.args.record.now.world e c.enter_call.new.record.world) c.in-Ok.ensures.intent c.in-Ok-enter_call.ensures.awaits

pub returns-in-Ok-enter_call-clause-places : goal.returns-in-Ok-enter_call-clause-places
returns-in-Ok-enter_call-clause-places g c =
    let p = c.in-Ok-enter_call.ensures.places in
    let same = ap length c.in-Ok.ensures.lends.1.lent in
    omega (arith, p, same, length-map c.lend_for.new.places.items (place_now g.H.Handler), length-map (places_now g.H.Handler c.args.places.now.items) (with_lane c.in-Ok.ensures.lends.0.lane.name (lent_for (call_for c.args.record.now.world.world.epoch c.args.number c.args.asked) c.in-Ok.ensures.lends.0.lane)))

pub returns-in-Err-clause-enters : goal.returns-in-Err-clause-enters
returns-in-Err-clause-enters g c =
    unentered (Lease g.row.H.Denot) g.D.Disk c.args.record.now c.args.asked.repeated (intent_for c.args.number c.args.asked)

pub returns-in-Err-clause-known : goal.returns-in-Err-clause-known
returns-in-Err-clause-known g c = known_open g.D.Disk c.args.record.now c.requires.opened

pub returns-in-Err-clause-moments : goal.returns-in-Err-clause-moments
returns-in-Err-clause-moments g c told =
    unmoved g.D.Disk c.args.record.now.disk (entries_in c.args.record.now) (doubt_in c.args.record.now) told
    (λ bytes left. g.met.D.Disk.only_now c.args.record.now.disk bytes told left) (known_open g.D.Disk c.args.record.now c.requires.opened)

pub returns-in-Err-clause-keeps : goal.returns-in-Err-clause-keeps
returns-in-Err-clause-keeps g c = same_room g.D.Disk c.args.record.now.disk
