-- Each call that comes next is at a path of its stack.
use Rattle.std.proofs.Common.{inl, inr, ℕ, Bool, true, false, List, map, refl, sym, subst}
use Rattle.cf_tree.specs.declared.request.Request.{Request}
use Rattle.cf_tree.specs.declared.request.Request.TheVariants as request
use Rattle.cf_schema.specs.declared.described.Schema.{Schema}
use Rattle.cf_entry.specs.declared.entry.Entry.{Entry}
use Rattle.cf_effect.specs.Status.{Stage, Forward, Clean, Back, BackClean, Gone}
use Rattle.cf_effect.specs.World.{StackState, World}
use Rattle.cf_effect.specs.declared.held.Held.{Held}
use Rattle.cf_plan.proofs.RunLists.{in_back, in_front}
use Rattle.cf_plan.specs.Follow.{IntendsDeletion, IntendsIn, IntendsRestore, MayDelete}
use Rattle.cf_next.specs.Chosen.{leases_of, schemas_of}
use Rattle.cf_next.specs.declared.step.Next.TheVariants as next
use Rattle.cf_book.proofs.Called.{repeat_listed}
use Rattle.cf_book.specs.Granting.{ComesNext}
use Rattle.cf_book.specs.Record.{world_left}
use Rattle.cf_book.specs.State.{BookLane, home_of}
use Rattle.cf_workers.specs.Driving.{CallMade, IsPathOf, is_open, there_is, there_was, wanted}

module _ (s : StackState) where
  held_or_made : (stage : Stage) (h : Held) → MayDelete stage s h → IsPathOf s h.path
  held_or_made Forward h may = absurd may
  held_or_made Clean h may = there_is h (in_front h s.held s.made may.0) refl
  held_or_made Back h may = there_is h (in_back h s.held s.made may.1) refl
  held_or_made BackClean h may = there_is h (in_back h s.held s.made may.0) refl
  held_or_made Gone h may = there_is h may.0 refl

  deleted : (stage : Stage) (path : List ℕ) (r : Request) → IntendsDeletion stage s path r → IsPathOf s path
  deleted stage path (request.Delete physical) (h, may, keeps, at, same) = subst (IsPathOf s) (sym at) (held_or_made stage h may)
  deleted stage path (request.Create kind props) may = absurd may
  deleted stage path (request.Update physical props) may = absurd may

  restored : (path : List ℕ) (r : Request) → IntendsRestore s path r → IsPathOf s path
  restored path (request.Update physical props) (back, h, to_restore, at, same, with_props, none) = there_was h to_restore.0 (sym at)
  restored path (request.Create kind props) may = absurd may
  restored path (request.Delete physical) may = absurd may

  intended_there : (schemas : List Schema) (name : List ℕ) (x : World) (stage : Stage) (path : List ℕ) (r : Request) → IntendsIn stage schemas name x s path r
      → IsPathOf s path
  intended_there schemas name x Forward path r may = wanted may.1.0
  intended_there schemas name x Clean path r may = deleted Clean path r may
  intended_there schemas name x Back path r (inl may) = deleted Back path r may
  intended_there schemas name x Back path r (inr may) = restored path r may
  intended_there schemas name x BackClean path r may = deleted BackClean path r may
  intended_there schemas name x Gone path r may = deleted Gone path r may

called_there : (number : ℕ) (es : List Entry) (lanes : List BookLane) (path lane : List ℕ) (token : ℕ) (r : Request) (repeated : Bool)
    (c : ComesNext lanes es number (next.Step path lane token r repeated)) → IsPathOf c.1 path
called_there number es lanes path lane token r true (name, s, stage, on, is, c) =
    is_open (record { token = token; path = path; lane = lane; request = r })
    (repeat_listed (schemas_of (map home_of lanes)) name (world_left es) (leases_of (map home_of lanes)) s stage _ c.may.repeats) refl
called_there number es lanes path lane token r false (name, s, stage, on, is, c) =
    intended_there s (schemas_of (map home_of lanes)) name (world_left es) stage path r c.may.chosen

pub of_stack : (number : ℕ) (es : List Entry) (lanes : List BookLane) (made : CallMade number es lanes) → IsPathOf made.chosen.1 made.path
of_stack number es lanes made =
    called_there number es lanes made.path made.lane.name made.token made.request made.repeated made.chosen
