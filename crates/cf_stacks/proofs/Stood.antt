-- A world's record after a step, and once there is room for an entry.
use Rattle.std.proofs.Common.{◌≡◌, ℕ, ◌+◌, ◌<◌, ◌≤◌, ◌^◌, true, List, Option, Some, None, map, option_map, refl, sym, ap, ◌∙◌, inl, inr, subst, arith}
use Rattle.cf_entry.specs.declared.entry.Entry.{Entry}
use Rattle.cf_entry.specs.declared.entry.Entry.TheVariants as entry
use Rattle.cf_stacks.specs.declared.ready.Ready.{Ready}
use Rattle.cf_stacks.specs.declared.standing.Fields.{Fields}
use Rattle.cf_effect.specs.Fold.{world_after}
use Rattle.cf_stacks.specs.Ready.{IsAnswer, IsPrepared}
use Rattle.cf_stacks.specs.Room.{HasRoom, KeepsRooms, StackStanding, Standing, awaited_after, awaited_with, has_call, stepped, with_room, without_awaited}
use Rattle.cf_stacks.specs.Standing.{KeepsStacks, StepsOver, awaited_in, awaited_known, awaits_on, calls_in, calls_total, stack_in, standing_in, world_in}
use Rattle.cf_effect.specs.World.{World}
use Rattle.cf_stacks.specs.Worlds.{IsPreparedIn, IsStanding, entry_ready, places_ready}
use Rattle.cf_stacks.specs.declared.world.World.TheInside.{Inside}
use Rattle.cf_stacks.proofs.Answering.{is_outcome, stands_there, waits}
use Rattle.cf_stacks.proofs.Totals.{total_answered}
use Rattle.cf_tree.specs.Keys.{ascends, value_at}
use Rattle.cf_tree.specs.declared.request.Request.{Request}
use Rattle.cf_stacks.proofs.Awaiting.{awaited_bare, awaits_with, kept_world}

abbrev stands : World → Option Entry → List (List ℕ × List ℕ) → Standing
stands w r a = record { world = w; ready = r; awaited = a }

pub stands_same : (w v : World) (r q : Option Entry) (a b : List (List ℕ × List ℕ)) → w ≡ v → r ≡ q → a ≡ b → stands w r a ≡ stands v q b
stands_same w v r q a b e f g = rw (e, f, g) refl

-- after a step
pub stepped_so : (x y : Fields) (e : Entry) (r : Option Entry) (was : Standing) → StepsOver x e y → stands (world_in x) r (awaited_in x) ≡ was → stands (world_in y) None (awaited_in y) ≡ stepped was e
stepped_so x y e r was h is =
    stands_same (world_in y) (world_after (world_in x) e) None None (awaited_in y) (awaited_after e (stands (world_in x) r (awaited_in x))) h.world refl h.awaited
    ∙ ap (λ (s : Standing). stepped s e) is

-- once memory is laid by
pub kept_so : (x y : Fields) (r q : Option Entry) (was : Standing) → KeepsStacks x y → stands (world_in x) q (awaited_in x) ≡ was → stands (world_in y) r (awaited_in y) ≡ record was { ready = r }
kept_so x y r q was h is =
    stands_same (world_in y) (world_in x) r r (awaited_in y) (awaited_in x) (kept_world x y h.rest h.stacks) refl h.calls ∙ ap (λ (s : Standing). record s { ready = r }) is

-- the entry that there is room for
pub made_ready : (e : Entry) (x y z : Standing) → y ≡ record x { ready = None } → z ≡ record y { awaited = awaited_with e y } → record z { ready = Some e } ≡ with_room e x
made_ready e x y z h k =
    ap (λ (s : Standing). record s { ready = Some e }) (k ∙ ap (λ (s : Standing). record s { awaited = awaited_with e s }) h)
    ∙ ap (λ (a : List (List ℕ × List ℕ)). record x { ready = Some e; awaited = a }) (awaited_bare e x)

pub kept_before : (e : Entry) (x y z : Standing) → y ≡ record x { ready = None } → z ≡ y → KeepsRooms x e z
kept_before e x y z h k = inl (k ∙ h)

pub kept_after : (e : Entry) (x y z w : Standing) → y ≡ record x { ready = None } → z ≡ record y { awaited = awaited_with e y } → w ≡ z → KeepsRooms x e w
kept_after e x y z w h k m =
    inr (m ∙ k ∙ ap (λ (s : Standing). record s { awaited = awaited_with e s }) h ∙ ap (λ (a : List (List ℕ × List ℕ)). record x { ready = None; awaited = a }) (awaited_bare e x))

-- a call less is awaited after an answer
pub no_entry : (r : Option Ready) → entry_ready r ≡ None → r ≡ None
no_entry None h = refl
no_entry (Some r) h = absurd cc

pub one_entry : (r : Ready) (e : Entry) → entry_ready (Some r) ≡ Some e → r.entry ≡ e
one_entry r e h = cc

-- once room is made for the next outcome of a call that is open already
pub awaits_so : (x y : Fields) (r : Option Entry) (was : Standing) (number token : ℕ) (lane path : List ℕ) (q : Request) (e : Entry) → ascends x.stacks ≡ true
    → y ≡ record x { stacks = y.stacks } → map stack_in y.stacks ≡ map stack_in x.stacks → map calls_in y.stacks ≡ awaits_on token x.stacks → stands (world_in x) r (awaited_in x) ≡ was
    → e ≡ entry.Intent number token lane path q → stands (world_in y) r (awaited_in y) ≡ record was { awaited = awaited_with e was }
awaits_so x y r was number token lane path q e order rest same h is k =
    stands_same (world_in y) (world_in x) r r (awaited_in y) (awaited_with (entry.Intent number token lane path q) (stands (world_in x) r (awaited_in x))) (kept_world x y rest same) refl (h ∙ awaits_with x order token)
    ∙ ap (λ (v : Standing). record v { awaited = awaited_with (entry.Intent number token lane path q) v }) is
    ∙ ap (λ (f : Entry). record was { awaited = awaited_with f was }) (sym k)

-- an answer is of a call that counts
pub answer_counts : (x : Fields) → ascends x.stacks ≡ true → (number token : ℕ) (e : Entry) → IsAnswer number token e x → 1 ≤ calls_total x.stacks
answer_counts x order number token e h =
    let o = is_outcome number token e x h in
    let w = waits x order number token o.awaited in
    let stands : value_at w.0.0 x.stacks ≡ Some w.0.1 = stands_there x order number token o.awaited in
    let v : StackStanding = record w.0.1 { awaited = without_awaited token w.0.1.awaited } in
    let less = total_answered x.stacks order w.0.0 v token (ap (λ (q : Option StackStanding). has_call token (awaited_known q)) stands ∙ w.2) (ap (without_awaited token) (sym (ap awaited_known stands))) in
    omega (arith, less)

-- what a step over an entry that was prepared rests on
pub ready_for : (i : Inside) → IsStanding i → (r : Ready) → i.ready ≡ Some r → (e : Entry) → entry_ready i.ready ≡ Some e
    → (r.entry ≡ e) × IsPrepared e i.fields r.work × (i.fields.place + i.calls + 2 < 2 ^ 64)
ready_for i h r k e g =
    let same : r.entry ≡ e = one_entry r e (ap entry_ready (sym k) ∙ g) in
    let prepared : IsPrepared r.entry i.fields r.work = subst (λ (o : Option Ready). IsPreparedIn i o) k h.ready in
    let counts : i.fields.place + i.calls + 2 < 2 ^ 64 = subst (λ (o : Option Ready). i.fields.place + i.calls + places_ready o < 2 ^ 64) k h.counts in
    (same, subst (λ (f : Entry). IsPrepared f i.fields r.work) same prepared, counts)
