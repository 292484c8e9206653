use Rattle.std.proofs.Common.{Ok, refl, sym, subst}
use Rattle.cf_entry.specs.declared.entry.Entry.TheVariants.{Done, Kept, Phase}
use Rattle.cf_book.specs.Granting.{ComesNext, Follows, StepsIn, TakesStep}
use Rattle.cf_book.specs.declared.granting.Grant.{Grant}
use Rattle.cf_book.specs.declared.granting.Grant.TheVariants.{Idle}
use Rattle.cf_book.proofs.Appended.{same_room, unmoved}
use Rattle.cf_book.proofs.book.Book.take.Goals as goal

pub call_out-requires-clause-next : goal.call_out-requires-clause-next
call_out-requires-clause-next g c = subst (ComesNext c.args.self.now.lanes c.args.self.now.entries c.args.number) c.in-Step.is c.requires.next

pub call_out-requires-clause-follows : goal.call_out-requires-clause-follows
call_out-requires-clause-follows g c = subst (Follows c.args.self.now.lanes c.args.self.now.entries c.args.number) c.in-Step.is c.requires.follows

pub move_on-requires-clause-follows : goal.move_on-requires-clause-follows
move_on-requires-clause-follows g c =
    subst (Follows c.args.self.now.lanes c.args.self.now.entries c.args.number) c.in-Keep.is c.requires.follows
    (Kept c.args.number c.in-Keep.path c.in-Keep.physical c.in-Keep.why) refl

pub move_on-requires-in-Turn-clause-follows : goal.move_on-requires-in-Turn-clause-follows
move_on-requires-in-Turn-clause-follows g c =
    subst (Follows c.args.self.now.lanes c.args.self.now.entries c.args.number) c.in-Turn.is c.requires.follows
    (Phase c.args.number c.in-Turn.phase c.in-Turn.cause) refl

pub end-requires-clause-follows : goal.end-requires-clause-follows
end-requires-clause-follows g c =
    subst (Follows c.args.self.now.lanes c.args.self.now.entries c.args.number) c.in-End.is c.requires.follows
    (Done c.args.number c.in-End.status c.in-End.failed) refl

pub returns-in-Step-clause-takes : goal.returns-in-Step-clause-takes
returns-in-Step-clause-takes g c =
    subst (λ n. TakesStep g.D.Disk g.H.Handler c.args.self.now c.call_out.new.self c.args.number n c.call_out.result) (sym c.in-Step.is) c.call_out.ensures.takes

pub returns-in-Step-clause-moves : goal.returns-in-Step-clause-moves
returns-in-Step-clause-moves g c schemas life =
    subst (λ n. StepsIn schemas life c.args.self.now c.call_out.new.self c.args.number n c.call_out.result) (sym c.in-Step.is) (c.call_out.ensures.moves schemas life)

pub returns-in-Keep-clause-takes : goal.returns-in-Keep-clause-takes
returns-in-Keep-clause-takes g c =
    subst (λ n. TakesStep g.D.Disk g.H.Handler c.args.self.now c.move_on.new.self c.args.number n c.move_on.result) (sym c.in-Keep.is) c.move_on.ensures.moves_on

pub returns-in-Keep-clause-moves : goal.returns-in-Keep-clause-moves
returns-in-Keep-clause-moves g c schemas life =
    subst (λ n. StepsIn schemas life c.args.self.now c.move_on.new.self c.args.number n c.move_on.result) (sym c.in-Keep.is) (c.move_on.ensures.moves schemas life)

pub returns-in-Turn-clause-takes : goal.returns-in-Turn-clause-takes
returns-in-Turn-clause-takes g c =
    subst (λ n. TakesStep g.D.Disk g.H.Handler c.args.self.now c.move_on-in-Turn.new.self c.args.number n c.move_on-in-Turn.result) (sym c.in-Turn.is) c.move_on-in-Turn.ensures.moves_on

pub returns-in-Turn-clause-moves : goal.returns-in-Turn-clause-moves
returns-in-Turn-clause-moves g c schemas life =
    subst (λ n. StepsIn schemas life c.args.self.now c.move_on-in-Turn.new.self c.args.number n c.move_on-in-Turn.result) (sym c.in-Turn.is) (c.move_on-in-Turn.ensures.moves schemas life)

pub returns-in-End-clause-takes : goal.returns-in-End-clause-takes
returns-in-End-clause-takes g c =
    subst (λ n. TakesStep g.D.Disk g.H.Handler c.args.self.now c.end.new.self c.args.number n c.end.result) (sym c.in-End.is) c.end.ensures.moves_on

pub returns-in-End-clause-moves : goal.returns-in-End-clause-moves
returns-in-End-clause-moves g c schemas life =
    subst (λ n. StepsIn schemas life c.args.self.now c.end.new.self c.args.number n c.end.result) (sym c.in-End.is) (c.end.ensures.moves schemas life)

pub returns-in-Wait-clause-takes : goal.returns-in-Wait-clause-takes
returns-in-Wait-clause-takes g c =
    subst (λ n. TakesStep g.D.Disk g.H.Handler c.args.self.now c.args.self.now c.args.number n (Ok Idle)) (sym c.in-Wait.is)
    (refl, (record { disk = refl; entries = refl; doubt = refl }, record { lanes = refl; granted = refl }))

pub returns-in-Wait-clause-moves : goal.returns-in-Wait-clause-moves
returns-in-Wait-clause-moves g c schemas life =
    subst (λ n. StepsIn {T = Grant g.row.H.Denot} schemas life c.args.self.now c.args.self.now c.args.number n (Ok Idle)) (sym c.in-Wait.is)
    (λ described stands holds. (record { disk = refl; entries = refl; doubt = refl }, record { after = life; happen = refl; stands = stands }))

pub returns-in-Wait-clause-stopped : goal.returns-in-Wait-clause-stopped
returns-in-Wait-clause-stopped g c = c.requires.running

pub returns-in-Wait-clause-moments : goal.returns-in-Wait-clause-moments
returns-in-Wait-clause-moments g c told =
    unmoved g.D.Disk c.args.self.now.disk c.args.self.now.entries c.args.self.now.doubt told
    (λ bytes left. g.met.D.Disk.only_now c.args.self.now.disk bytes told left) c.requires.known

pub returns-in-Wait-clause-known : goal.returns-in-Wait-clause-known
returns-in-Wait-clause-known g c = c.requires.known

pub returns-in-Wait-clause-disk : goal.returns-in-Wait-clause-disk
returns-in-Wait-clause-disk g c = same_room g.D.Disk c.args.self.now.disk
