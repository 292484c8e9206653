-- In a history disk and lanes agree at each moment.
use Rattle.std.proofs.Common.{◌≡◌, inl, inr, List, [], ◌∷◌, Ok, map, sym, subst}
use Rattle.std.specs.Bool.{IsTrue}
use Rattle.cf_tree.specs.Lists.{In}
use Rattle.cf_disk.specs.declared.disk.Disk.{Ghosts as DiskGhosts}
use Rattle.cf_handler.specs.declared.handler.Handler.{Ghosts as HandlerGhosts}
use Rattle.cf_handler.specs.Fence.{late_by}
use Rattle.cf_entry.specs.declared.entry.Entry.{Entry}
use Rattle.cf_journal.specs.Record.{record_of}
use Rattle.cf_schema.specs.declared.described.Schema.{Schema}
use Rattle.cf_plan.proofs.Listed.{in_cons, in_none}
use Rattle.cf_plan.specs.Lanes.{Lane}
use Rattle.cf_plan.specs.Life.{Late, changed}
use Rattle.cf_core.specs.Theorem.{HoldsAlways}
use Rattle.cf_core.proofs.Always.{event_holds, holds_keeps_promises, starts_hold}
use Rattle.cf_workers.specs.Agreement.{AgreeOn, EachAgrees, KeepsAgreement, at_rest}
use Rattle.cf_top.proofs.Kept.{command_agrees}
use Rattle.cf_top.specs.History.{HistoriesAgree, IsHistory, Moment, NewAgrees, Passes}

-- where what always holds does, the promises are kept
agreed : (schemas : List Schema) (es : List Entry) (all : List Lane) → HoldsAlways schemas (at_rest es all) → AgreeOn schemas es all
agreed schemas es all h = record { holds = h; kept = holds_keeps_promises schemas (at_rest es all) h }

module _ {D H : Type 0} (g : DiskGhosts D) (h : HandlerGhosts H) (stay : (d : D) → IsTrue g.tells → g.may_leave d (g.seen d)) (tells : IsTrue g.tells) (schemas : List Schema) where
  abbrev AgreesAt : Moment D → Type 0
  AgreesAt m = EachAgrees schemas (g.may_leave m.disk) m.all

  passes : (m n : Moment D) → AgreesAt m → Passes g h schemas m n → AgreesAt n
  passes m n a (Passes.command handlers handlers' among command all) file left =
      let keeps : KeepsAgreement g h m.disk handlers n.disk handlers' = command_agrees g h stay m.disk n.disk handlers handlers' command in
      let (es, q, agree) = (keeps tells schemas m.all (record { among = among; each = a })).each file left in
      (es, q, subst (AgreeOn schemas es) (sym all) agree)
  passes m n a (Passes.crash c all) file left =
      let (es, q, agree) = a c.file c.left in
      (es, subst (λ f. record_of f ≡ Ok es) (sym (c.stays file left)) q, subst (AgreeOn schemas es) (sym all) agree)
  passes m n a (Passes.late lane place settlement at move same all) file left =
      let (es, q, agree) = a file (subst (λ d. g.may_leave d file) same left) in
      let held : HoldsAlways schemas (at_rest es (map (changed lane.name (late_by place settlement)) m.all)) =
      event_holds schemas (at_rest es m.all) (Late lane.name place settlement) agree.holds (lane, at, move) in
      (es, q, subst (AgreeOn schemas es) (sym all) (agreed schemas es (map (changed lane.name (late_by place settlement)) m.all) held))

  goes : (first : Moment D) (later : List (Moment D)) → AgreesAt first → IsHistory g h schemas first later → (m : Moment D) → In m later → AgreesAt m
  goes first [] a his m i = absurd (in_none i)
  goes first (n ∷ later) a (p, ps) m i = elim (in_cons i) [ inl e ↦ subst AgreesAt e (passes first n a p) | inr j ↦ goes n later (passes first n a p) ps m j ]

pub histories_agree : {D H : Type 0} (g : DiskGhosts D) (h : HandlerGhosts H) → ((d : D) → IsTrue g.tells → g.may_leave d (g.seen d)) → HistoriesAgree g h
histories_agree g h stay tells schemas first later a his m i = goes g h stay tells schemas first later a his m i

pub new_agrees : {D : Type 0} (g : DiskGhosts D) → NewAgrees g
new_agrees g schemas m new file left = ([], new.empty file left, agreed schemas [] m.all (starts_hold schemas (at_rest [] m.all) new.start))
