-- A call that was asked for has room for its outcome.
use Rattle.std.proofs.Common.{◌≡◌, ℕ, Bool, true, false, List, [], ◌∷◌, ◌++◌, Option, Some, None, codes, refl, sym, ap, ◌∙◌, subst}
use Rattle.std.proofs.lemmas.Slice.Eq.{bytes_eq-Decides}
use Rattle.std.specs.Option.{option_map_or}
use Rattle.std.specs.Str.{bytes_eq}
use Rattle.cf_tree.specs.declared.request.Request.{Request}
use Rattle.cf_entry.specs.declared.entry.Entry.{Entry}
use Rattle.cf_entry.specs.declared.entry.Entry.TheVariants as entry
use Rattle.cf_entry.specs.declared.entry.Reply.{Reply}
use Rattle.cf_effect.specs.World.{StackState, stack_of_operation}
use Rattle.cf_stacks.specs.Room.{HasRoom, Standing, stepped, with_room}
use Rattle.cf_effect.specs.Bounds.{IsShortReply}
use Rattle.cf_stacks.specs.RoomStays.{RoomAct, MakesRoom, Steps, RoomStays, Spare, room_acted, all_acted, spares}
use Rattle.cf_trials.specs.Asked.{WasAsked, intent_of, is_on_s}

all_more : (x : Standing) (acts more : List RoomAct) → all_acted x (acts ++ more) ≡ all_acted (all_acted x acts) more
all_more x [] more = refl
all_more x (a ∷ acts) more = all_more (room_acted x a) acts more

spare_more : (name : List ℕ) (token : ℕ) (acts more : List RoomAct) → Spare name token acts → Spare name token more → Spare name token (acts ++ more)
spare_more name token [] more h k = k
spare_more name token (MakesRoom e ∷ acts) more h k = spare_more name token acts more h k
spare_more name token (Steps e ∷ acts) more h k = (h.0, spare_more name token acts more h.1 k)

-- what is done besides takes no room
asked_more : (token : ℕ) (x : Standing) (more : List RoomAct) → Spare (codes "s") token more → WasAsked token x → WasAsked token (all_acted x more)
asked_more token x more h w = record {
  before = w.before;
  path = w.path;
  request = w.request;
  acts = w.acts ++ more;
  on_s = w.on_s;
  spare = spare_more (codes "s") token w.acts more w.spare h;
  since = ap (λ y. all_acted y more) w.since ∙ sym (all_more (stepped w.before (intent_of token w.path w.request)) w.acts more);
}

pub asked_still : (token : ℕ) (x : Standing) (e : Entry) → spares (codes "s") token e ≡ true → WasAsked token x → WasAsked token (stepped (with_room e x) e)
asked_still token x e h w = asked_more token x (MakesRoom e ∷ Steps e ∷ []) (h, record {}) w

pub intent_still : (token number : ℕ) (lane path : List ℕ) (r : Request) (x : Standing) → WasAsked token x
    → WasAsked token (stepped (with_room (entry.Intent 1 number lane path r) x) (entry.Intent 1 number lane path r))
intent_still token number lane path r x w = asked_still token x (entry.Intent 1 number lane path r) refl w

pub asked_yet : (token : ℕ) (x : Standing) (e : Entry) → spares (codes "s") token e ≡ true → WasAsked token x → WasAsked token (stepped x e)
asked_yet token x e h w = asked_more token x (Steps e ∷ []) (h, record {}) w

pub asked_now : (token : ℕ) (path : List ℕ) (r : Request) (x : Standing) → is_on_s x.world ≡ true → WasAsked token (stepped (with_room (intent_of token path r) x) (intent_of token path r))
asked_now token path r x h = record {
  before = with_room (intent_of token path r) x;
  path = path;
  request = r;
  acts = [];
  on_s = h;
  spare = record {};
  since = refl;
}

-- the stack `s` is the one that was found
found_s : (o : Option (List ℕ × StackState)) → option_map_or (λ (s : List ℕ × StackState). bytes_eq (codes "s") s.0) o false ≡ true → (s : StackState) × (o ≡ Some (codes "s", s))
found_s None e = absurd (cc)
found_s (Some s) e = (s.1, ap (λ (n : List ℕ). Some (n, s.1)) (sym ((bytes_eq-Decides (codes "s") s.0).0 e)))

pub asked_has_room : RoomStays → (token : ℕ) (x : Standing) (answer : Reply) → WasAsked token x → is_on_s x.world ≡ true → IsShortReply answer → HasRoom x (entry.Outcome 1 token answer 0 0)
asked_has_room stays token x answer w h short =
    let then = found_s (stack_of_operation 1 w.before.world) w.on_s in
    let y = all_acted (stepped w.before (intent_of token w.path w.request)) w.acts in
    let now = found_s (stack_of_operation 1 y.world) (subst (λ (z : Standing). is_on_s z.world ≡ true) w.since h) in
    subst (λ (z : Standing). HasRoom z (entry.Outcome 1 token answer 0 0)) (sym w.since)
    (stays w.before 1 token [] w.path (codes "s") w.request w.acts 1 0 0 answer then.0 now.0 then.1 w.spare now.1 short)
