-- A step over an entry, by what it changes of the fields of a world.
use Rattle.std.proofs.Common.{◌≡◌, ℕ, ◌+◌, Bool, true, false, List, [], ◌∷◌, ◌++◌, Option, Some, None, find, map, option_map, is_some, refl, sym, ap, ◌∙◌, subst, cond}
use Rattle.std.specs.List.{list_any}
use Rattle.std.specs.Option.{option_map_or, unwrap_or}
use Rattle.cf_tree.specs.Keys.{ascends, put, value_at}
use Rattle.cf_export.specs.declared.Export.{Export}
use Rattle.cf_export.specs.declared.Pin.{Pin}
use Rattle.cf_entry.specs.declared.entry.Entry.{Entry}
use Rattle.cf_entry.specs.declared.entry.Entry.TheVariants as entry
use Rattle.cf_effect.specs.declared.held.Pending.{Pending}
use Rattle.cf_stacks.specs.declared.stack.CallParts.{CallParts}
use Rattle.cf_stacks.specs.declared.standing.Fields.{Fields}
use Rattle.cf_effect.specs.Calls.{new_call}
use Rattle.cf_effect.specs.Effect.{leaving}
use Rattle.cf_effect.specs.Fold.{changed_by, effect_at, is_opening, numbered, opening_heard, stack_for, world_after}
use Rattle.cf_effect.specs.Event.{lines_of}
use Rattle.cf_effect.specs.Listed.{NamesAfter, Same, exports_after, pins_after}
use Rattle.cf_effect.specs.Reply.{intending}
use Rattle.cf_stacks.specs.Room.{Standing, StackStanding, awaited_after, calls_after, with_awaited}
use Rattle.cf_stacks.specs.Standing.{IsPartsOf, NamedStanding, StepsOver, awaited_in, awaited_known, stack_called, calls_in, stack_in, stack_known, standing_in, world_in}
use Rattle.cf_effect.specs.Words.{has_token}
use Rattle.cf_effect.specs.World.{StackState, World}
use Rattle.cf_stacks.proofs.Worlds.{put_under, value_under}

pub after : (x m y : World) (e : Entry) → m ≡ changed_by (x.place + 1) e x → y ≡ record (numbered e m) { place = x.place + 1 } → y ≡ world_after x e
after x m y e h k = k ∙ ap (λ (w : World). record (numbered e w) { place = x.place + 1 }) h

-- the world in which the entry's stack is left so
changed_on : (place : ℕ) (e : Entry) (x : World) (o : Option (List ℕ × StackState)) → is_opening e ≡ false → stack_for e x ≡ o
    → changed_by place e x ≡ option_map_or (λ (s : List ℕ × StackState). leaving s.0 (effect_at place e s.1) x) o x
changed_on place (entry.Opened epoch lanes) x o n h = absurd cc
changed_on place (entry.Begin number name k) x o n h = ap (λ (p : Option (List ℕ × StackState)). option_map_or (λ (s : List ℕ × StackState). leaving s.0 (effect_at place (entry.Begin number name k) s.1) x) p x) h
changed_on place (entry.Kept number path physical w) x o n h = ap (λ (p : Option (List ℕ × StackState)). option_map_or (λ (s : List ℕ × StackState). leaving s.0 (effect_at place (entry.Kept number path physical w) s.1) x) p x) h
changed_on place (entry.Intent number token lane path r) x o n h = ap (λ (p : Option (List ℕ × StackState)). option_map_or (λ (s : List ℕ × StackState). leaving s.0 (effect_at place (entry.Intent number token lane path r) s.1) x) p x) h
changed_on place (entry.Outcome number token answer before after) x o n h = ap (λ (p : Option (List ℕ × StackState)). option_map_or (λ (s : List ℕ × StackState). leaving s.0 (effect_at place (entry.Outcome number token answer before after) s.1) x) p x) h
changed_on place (entry.Phase number p cause) x o n h = ap (λ (q : Option (List ℕ × StackState)). option_map_or (λ (s : List ℕ × StackState). leaving s.0 (effect_at place (entry.Phase number p cause) s.1) x) q x) h
changed_on place (entry.Done number state failed) x o n h = ap (λ (p : Option (List ℕ × StackState)). option_map_or (λ (s : List ℕ × StackState). leaving s.0 (effect_at place (entry.Done number state failed) s.1) x) p x) h
changed_on place (entry.ChangeSet number name source rows outputs) x o n h = ap (λ (p : Option (List ℕ × StackState)). option_map_or (λ (s : List ℕ × StackState). leaving s.0 (effect_at place (entry.ChangeSet number name source rows outputs) s.1) x) p x) h

pub changed_not : (x : Fields) (e : Entry) → is_opening e ≡ false → stack_for e (world_in x) ≡ None → world_in x ≡ changed_by (x.place + 1) e (world_in x)
changed_not x e n h = sym (changed_on (x.place + 1) e (world_in x) None n h)

pub awaited_not : (x : Fields) (e : Entry) (s : Standing) → s.world ≡ world_in x → s.awaited ≡ awaited_in x → stack_for e (world_in x) ≡ None → awaited_in x ≡ awaited_after e s
awaited_not x e s w a h =
    sym (ap (λ (p : Option (List ℕ × StackState)). option_map_or (λ (t : List ℕ × StackState). put t.0 (calls_after e (unwrap_or (value_at t.0 s.awaited) [])) s.awaited) p s.awaited) (ap (stack_for e) w ∙ h) ∙ a)

module _ (x mid : Fields) (e : Entry) (name : List ℕ) (s : StackState) (v : StackStanding) (es : List Export) (ps cs : List Pin)
    (of_it : stack_for e (world_in x) ≡ Some (name, s)) (is_mid : mid ≡ record x { stacks = put name v x.stacks; exports = es; pins = ps; claims = cs }) where
  pub changed_put : is_opening e ≡ false → v.stack ≡ (effect_at (x.place + 1) e s).stack
      → es ≡ exports_after name (effect_at (x.place + 1) e s).exports x.exports → ps ≡ pins_after name (effect_at (x.place + 1) e s).pins x.pins → cs ≡ pins_after name (effect_at (x.place + 1) e s).claims x.claims
      → world_in mid ≡ changed_by (x.place + 1) e (world_in x)
  changed_put n vs he hp hc =
      ap world_in is_mid
      ∙ ap (λ (stacks : List (List ℕ × StackState)). record (world_in x) { stacks = stacks; exports = es; pins = ps; claims = cs }) (put_under (λ (t : StackStanding). t.stack) name v x.stacks)
      ∙ rw (vs, he, hp, hc) refl
      ∙ sym (changed_on (x.place + 1) e (world_in x) (Some (name, s)) n of_it)

  pub awaited_put : v.awaited ≡ calls_after e (awaited_known (value_at name x.stacks)) → awaited_in mid ≡ awaited_after e (record { world = world_in x; ready = None; awaited = awaited_in x })
  awaited_put h =
      ap awaited_in is_mid ∙ put_under (λ (t : StackStanding). t.awaited) name v x.stacks
      ∙ ap (λ (ts : List ℕ). put name ts (awaited_in x)) (h ∙ ap (calls_after e) (known (value_at name x.stacks) (value_at name (awaited_in x)) (value_under (λ (t : StackStanding). t.awaited) name x.stacks)))
      ∙ ap (λ (p : Option (List ℕ × StackState)). option_map_or (λ (t : List ℕ × StackState). put t.0 (calls_after e (unwrap_or (value_at t.0 (awaited_in x)) [])) (awaited_in x)) p (awaited_in x)) (sym of_it)
    where
      known : (o : Option StackStanding) (p : Option (List ℕ)) → p ≡ option_map (λ (t : StackStanding). t.awaited) o → awaited_known o ≡ unwrap_or p []
      known None p h = rw h refl
      known (Some t) p h = rw h refl

-- an opening is of every stack
pub changed_all : (x mid : Fields) (e : Entry) (change : StackStanding → StackStanding) → is_opening e ≡ true → ((s : StackStanding) → (change s).stack ≡ (effect_at (x.place + 1) e s.stack).stack)
    → mid ≡ record x { stacks = map (λ (s : NamedStanding). (s.0, change s.1)) x.stacks } → world_in mid ≡ changed_by (x.place + 1) e (world_in x)
changed_all x mid e change o h is_mid = ap world_in is_mid ∙ ap (λ (stacks : List (List ℕ × StackState)). record (world_in x) { stacks = stacks }) (each x.stacks) ∙ by e o
  where
    each : (ss : List NamedStanding) → map stack_in (map (λ (s : NamedStanding). (s.0, change s.1)) ss) ≡ map (opening_heard (x.place + 1) e) (map stack_in ss)
    each [] = refl
    each (s ∷ ss) = rw (h s.1) (ap (λ (l : List (List ℕ × StackState)). (s.0, (effect_at (x.place + 1) e s.1.stack).stack) ∷ l) (each ss))

    by : (f : Entry) → is_opening f ≡ true → record (world_in x) { stacks = map (opening_heard (x.place + 1) f) (map stack_in x.stacks) } ≡ changed_by (x.place + 1) f (world_in x)
    by (entry.Opened epoch lanes) n = refl
    by (entry.Begin number name k) n = absurd cc
    by (entry.Kept number path physical w) n = absurd cc
    by (entry.Intent number token lane path r) n = absurd cc
    by (entry.Outcome number token answer before after) n = absurd cc
    by (entry.Phase number p cause) n = absurd cc
    by (entry.Done number state failed) n = absurd cc
    by (entry.ChangeSet number name source rows outputs) n = absurd cc

-- an intent adds its call and its row, and nothing else
pub intending_rest : (n : ℕ) (p : Pending) (s : StackState) → ((intending n p s).entries ≡ s.entries) × ((intending n p s).events ≡ s.events)
intending_rest n p s = by (list_any (has_token p.token) s.tokens)
  where
    by : (b : Bool) → ((cond b s (record s { tokens = s.tokens ++ p ∷ []; ledger = s.ledger ++ new_call n s.status p ∷ [] })).entries ≡ s.entries)
        × ((cond b s (record s { tokens = s.tokens ++ p ∷ []; ledger = s.ledger ++ new_call n s.status p ∷ [] })).events ≡ s.events)
    by true = (refl, refl)
    by false = (refl, refl)

pub awaited_all : (x : Fields) (e : Entry) (change : StackStanding → StackStanding) → is_opening e ≡ true → ((s : StackStanding) → (change s).awaited ≡ s.awaited)
    → map calls_in (map (λ (s : NamedStanding). (s.0, change s.1)) x.stacks) ≡ awaited_after e (standing_in x)
awaited_all x e change o h = each x.stacks ∙ sym (by e o)
  where
    each : (ss : List NamedStanding) → map calls_in (map (λ (s : NamedStanding). (s.0, change s.1)) ss) ≡ map calls_in ss
    each [] = refl
    each (s ∷ ss) = rw (h s.1) (ap (λ (l : List (List ℕ × List ℕ)). (s.0, s.1.awaited) ∷ l) (each ss))

    by : (f : Entry) → is_opening f ≡ true → awaited_after f (standing_in x) ≡ awaited_in x
    by (entry.Opened epoch lanes) n = refl
    by (entry.Begin number name k) n = absurd cc
    by (entry.Kept number path physical w) n = absurd cc
    by (entry.Intent number token lane path r) n = absurd cc
    by (entry.Outcome number token answer before after) n = absurd cc
    by (entry.Phase number p cause) n = absurd cc
    by (entry.Done number state failed) n = absurd cc
    by (entry.ChangeSet number name source rows outputs) n = absurd cc

-- an intent with its parts leaves its stack so
pub called_so : (place : ℕ) (e : Entry) (parts : CallParts) (s : StackStanding) → IsPartsOf e parts place s.stack
    → ((stack_called parts e s).stack ≡ (effect_at place e s.stack).stack) × ((stack_called parts e s).awaited ≡ calls_after e s.awaited)
called_so place (entry.Opened epoch lanes) parts s h = absurd h
called_so place (entry.Begin number name k) parts s h = absurd h
called_so place (entry.Kept number path physical w) parts s h = absurd h
called_so place (entry.Intent number token lane path r) parts s h =
    let e : Entry = entry.Intent number token lane path r in
    let p : Pending = record { token = token; path = path; lane = lane; request = r } in
    let rest = intending_rest number p s.stack in (
      ap (λ (n : ℕ). record (intending n parts.pending s.stack) { entries = s.stack.entries ++ e ∷ []; events = s.stack.events ++ parts.line ∷ [] }) h.0
          ∙ ap (λ (q : Pending). record (intending number q s.stack) { entries = s.stack.entries ++ e ∷ []; events = s.stack.events ++ parts.line ∷ [] }) h.1
          ∙ ap (λ (ls : List (List ℕ)). record (intending number p s.stack) { entries = s.stack.entries ++ e ∷ []; events = s.stack.events ++ ls }) h.2
          ∙ ap (λ (es : List Entry). record (intending number p s.stack) { entries = es ++ e ∷ []; events = s.stack.events ++ lines_of place e s.stack }) (sym rest.0)
          ∙ ap (λ (ls : List (List ℕ)). record (intending number p s.stack) { entries = (intending number p s.stack).entries ++ e ∷ []; events = ls ++ lines_of place e s.stack }) (sym rest.1),
      ap (λ (q : Pending). with_awaited q.token s.awaited) h.1,
    )
called_so place (entry.Outcome number token answer before after) parts s h = absurd h
called_so place (entry.Phase number p cause) parts s h = absurd h
called_so place (entry.Done number state failed) parts s h = absurd h
called_so place (entry.ChangeSet number name source rows outputs) parts s h = absurd h

-- an intent, and an outcome, leave what all stacks list
pub parts_lists : (place : ℕ) (e : Entry) (parts : CallParts) (s : StackState) → IsPartsOf e parts place s → (is_opening e ≡ false) × ((effect_at place e s).exports ≡ None) × ((effect_at place e s).pins ≡ Same) × ((effect_at place e s).claims ≡ Same)
parts_lists place (entry.Opened epoch lanes) parts s h = absurd h
parts_lists place (entry.Begin number name k) parts s h = absurd h
parts_lists place (entry.Kept number path physical w) parts s h = absurd h
parts_lists place (entry.Intent number token lane path r) parts s h = (refl, refl, refl, refl)
parts_lists place (entry.Outcome number token answer before after) parts s h = absurd h
parts_lists place (entry.Phase number p cause) parts s h = absurd h
parts_lists place (entry.Done number state failed) parts s h = absurd h
parts_lists place (entry.ChangeSet number name source rows outputs) parts s h = absurd h

pub there : (o : Option StackStanding) → is_some o ≡ true → (s : StackStanding) × (o ≡ Some s)
there None h = absurd cc
there (Some s) h = (s, refl)

module _ (x : Fields) (stacks : List NamedStanding) (y : Fields) (e : Entry) (name : List ℕ) (s v : StackStanding) (order : ascends x.stacks ≡ true) (stands : value_at name x.stacks ≡ Some s)
    (of_it : stack_for e (world_in x) ≡ Some (name, stack_known (value_at name x.stacks))) (is_put : stacks ≡ put name v x.stacks) where
  -- a stack that is left with what it lists
  pub stepped_on : is_opening e ≡ false → v.stack ≡ (effect_at (x.place + 1) e s.stack).stack → v.awaited ≡ calls_after e s.awaited
      → (effect_at (x.place + 1) e s.stack).exports ≡ None → (effect_at (x.place + 1) e s.stack).pins ≡ Same → (effect_at (x.place + 1) e s.stack).claims ≡ Same
      → world_in y ≡ record (numbered e (world_in (record x { stacks = stacks }))) { place = x.place + 1 } → map calls_in y.stacks ≡ map calls_in stacks → StepsOver x e y
  stepped_on n vs va he hp hc w a =
      let known : stack_known (value_at name x.stacks) ≡ s.stack = ap stack_known stands in
      let calls : awaited_known (value_at name x.stacks) ≡ s.awaited = ap awaited_known stands in
      let is_mid : record x { stacks = stacks } ≡ record x { stacks = put name v x.stacks } = ap (λ (ss : List NamedStanding). record x { stacks = ss }) is_put in
      record {
        world = after (world_in x) (world_in (record x { stacks = stacks })) (world_in y) e
            (changed_put x (record x { stacks = stacks }) e name s.stack v x.exports x.pins x.claims (of_it ∙ ap (λ (t : StackState). Some (name, t)) known) is_mid n vs
            (ap (λ (o : Option (List (List ℕ × List ℕ))). exports_after name o x.exports) (sym he)) (ap (λ (l : NamesAfter). pins_after name l x.pins) (sym hp)) (ap (λ (l : NamesAfter). pins_after name l x.claims) (sym hc))) w;
        awaited = a ∙ awaited_put x (record x { stacks = stacks }) e name s.stack v x.exports x.pins x.claims (of_it ∙ ap (λ (t : StackState). Some (name, t)) known) is_mid (va ∙ ap (calls_after e) (sym calls));
      }
