use Rattle.std.proofs.Common.{◌≡◌, ℕ, ◌-◌, List, [], ◌∷◌, ◌++◌, IfSome, arith, ap, sym, ◌∙◌, map, refl, subst}
use Rattle.cf_effect.specs.Ahead.{AreKept}
use Rattle.cf_effect.specs.Restoring.{IsRestoring}
use Rattle.cf_effect.specs.Undoing.{IsUndoing}
use Rattle.cf_effect.specs.Reply.{intending}
use Rattle.cf_stacks.specs.Room.{StackStanding, with_awaited}
use Rattle.cf_stacks.specs.Spare.{HaveOwnTokens, IsRoomFor}
use Rattle.cf_stacks.specs.Stacked.{token_of_room}
use Rattle.cf_effect.specs.State.{state_of}
use Rattle.cf_effect.specs.World.{StackState}
use Rattle.cf_stacks.proofs.Calling.{calling_apart, calling_rooms, heard_so, keeps_like, standing_same}
use Rattle.cf_stacks.proofs.Kindred.{calls_with, rooms_keep}
use Rattle.cf_effect.proofs.Spares.{spare_fewer}
use Rattle.cf_stacks.proofs.stack.StackState.call.Goals as goal

pub hear-requires : goal.hear-requires
hear-requires c =
    let spare = ap (λ (v : StackStanding). v.spare) c.self.view_is in
    c.intend.ensures.spare 1 (spare_fewer 2 _ c.self.inside.state (omega (arith, spare, c.requires.spare)) c.self.invariant.lists)

pub invariant_of-self : goal.invariant_of-self
invariant_of-self c =
    let s : StackState = state_of c.self.inside.state in
    let was : s ≡ c.args.self.now.stack = ap (λ (v : StackStanding). v.stack) c.self.view_is in
    let spare = ap (λ (v : StackStanding). v.spare) c.self.view_is in
    let called : StackState = intending c.args.parts.call.number c.args.parts.pending s in
    let room : IsRoomFor called c.args.parts.room = subst (λ (t : StackState). IsRoomFor (intending c.args.parts.call.number c.args.parts.pending t) c.args.parts.room) (sym was) c.requires.room in
    let rooms = calling_rooms c.args.parts.call.number c.args.parts.pending s c.self.inside.rooms.items c.args.parts.room c.requires.token c.self.invariant.rooms room in
    let going = ap (λ (t : StackState). t.going) c.hear.ensures.state ∙ ap (λ (t : StackState). t.going) c.intend.ensures.state in
    let before = ap (λ (t : StackState). t.before) c.hear.ensures.state ∙ ap (λ (t : StackState). t.before) c.intend.ensures.state in
    let tokens = ap (λ (t : StackState). t.tokens) c.hear.ensures.state ∙ ap (λ (t : StackState). t.tokens) c.intend.ensures.state in
    record {
      lists = c.hear.ensures.spare _ (c.intend.ensures.spare _ (spare_fewer _ _ c.self.inside.state (omega (arith, spare, c.requires.spare, c.put_room.ensures.len)) c.self.invariant.lists));
      room = omega (arith, spare, c.requires.spare, c.put_room.ensures.len, c.put_room.ensures.capacity, c.self.invariant.room);
      rooms = rw c.put_room.ensures.items (rooms_keep called (state_of c.hear.new.self) _ (keeps_like called (state_of c.hear.new.self) going before tokens) rooms);
      apart = subst HaveOwnTokens (sym tokens) (calling_apart c.args.parts.call.number c.args.parts.pending s c.self.invariant.apart);
      findings =
          subst (λ (t : StackState). IfSome c.follow_call.new.findings (AreKept t))
          (sym (heard_so _ _ c.args.parts.call.number c.args.parts.pending s c.args.entry c.new.result c.args.parts.line c.intend.ensures.state c.hear.ensures.state c.new.ensures))
          (c.follow_call.ensures s c.args.parts.call.number (c.args.parts.line ∷ []) c.self.invariant.findings);
      undoing =
          subst (λ (t : StackState). IfSome c.follow_try.new.undoing (IsUndoing t))
          (sym (heard_so _ _ c.args.parts.call.number c.args.parts.pending s c.args.entry c.new.result c.args.parts.line c.intend.ensures.state c.hear.ensures.state c.new.ensures))
          (c.follow_try.ensures c.args.entry (c.args.parts.line ∷ []));
      restoring =
          subst (λ (t : StackState). IfSome c.follow_restore.new.restoring (IsRestoring t))
          (sym (heard_so _ _ c.args.parts.call.number c.args.parts.pending s c.args.entry c.new.result c.args.parts.line c.intend.ensures.state c.hear.ensures.state c.new.ensures))
          (c.follow_restore.ensures (c.args.parts.line ∷ []));
    }

pub returns : goal.returns
returns c =
    standing_same _ _ _ _ _ _
    (heard_so _ _ c.args.parts.call.number c.args.parts.pending (state_of c.self.inside.state) c.args.entry c.new.result c.args.parts.line c.intend.ensures.state c.hear.ensures.state c.new.ensures
    ∙ ap (λ (v : StackStanding). record (intending c.args.parts.call.number c.args.parts.pending v.stack) { entries = v.stack.entries ++ c.args.entry ∷ []; events = v.stack.events ++ c.args.parts.line ∷ [] }) c.self.view_is)
    (ap (map token_of_room) c.put_room.ensures.items ∙ calls_with c.self.inside.rooms.items c.args.parts.room ∙ ap (λ (t : ℕ). with_awaited t (map token_of_room c.self.inside.rooms.items)) c.requires.token
    ∙ ap (λ (v : StackStanding). with_awaited c.args.parts.pending.token v.awaited) c.self.view_is)
    (ap (λ (v : StackStanding). v.spare - 2) c.self.view_is)
