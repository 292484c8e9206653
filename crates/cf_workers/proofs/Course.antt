-- The course of an operation from where a command begins it, or finds it, to its end.
use Rattle.std.proofs.Common.{◌≡◌, ℕ, ◌+◌, true, false, List, [], ◌∷◌, ◌++◌, Option, Some, Ok, filter, refl, sym, ◌∙◌, ap, subst, append-nil, true≢false}
use Rattle.std.specs.Bool.{IsTrue}
use Rattle.std.specs.Prelude.{flat_map, unwrap_or}
use Rattle.cf_disk.specs.declared.disk.Disk.{Ghosts}
use Rattle.cf_schema.specs.declared.described.Schema.{Schema}
use Rattle.cf_entry.specs.declared.entry.Begun.{Begun}
use Rattle.cf_entry.specs.declared.entry.Begun.TheVariants as begin
use Rattle.cf_entry.specs.declared.entry.Entry.{Entry}
use Rattle.cf_entry.specs.declared.entry.Entry.TheVariants as entry
use Rattle.cf_entry.specs.declared.status.Status.{Status}
use Rattle.cf_effect.specs.Fold.{effect_at, fold_of, world_after}
use Rattle.cf_effect.specs.Operation.{is_of}
use Rattle.cf_effect.specs.Status.{begun}
use Rattle.cf_effect.specs.World.{StackState, World, empty_world, known_stack, no_stack, stack_at}
use Rattle.cf_stacks.specs.Apart.{AreApart}
use Rattle.cf_stacks.proofs.Folded.{folded_more}
use Rattle.cf_plan.specs.Follow.{begins_from, failed_in, is_done_entry}
use Rattle.cf_plan.proofs.Frame.{IsOn, here_of}
use Rattle.cf_core.proofs.Failing.{some_same}
use Rattle.cf_core.proofs.Statuses.{begun_status}
use Rattle.cf_prepare.specs.declared.wish.Order.{Order}
use Rattle.cf_prepare.specs.declared.wish.Order.TheVariants as order
use Rattle.cf_book.specs.Beginning.{BeginsOrder, IsPrepared}
use Rattle.cf_book.specs.Record.{world_left}
use Rattle.cf_book.specs.State.{BookNow}
use Rattle.cf_workers.specs.Driving.{EndsWith}
use Rattle.cf_workers.specs.Ordering.{IsJustOpened, IsOrderOn, before_by, going_by, number_of, with_order}
use Rattle.cf_workers.proofs.Ending.{begins_on}
use Rattle.cf_workers.proofs.Carried.{is_true}
use Rattle.cf_workers.proofs.Wrote.{AreSteps}
use Rattle.cf_workers.specs.Ordering.{IsJustOpened, IsOrderOn, before_by, going_by, number_of, with_order}
use Rattle.cf_workers.proofs.Turns.{IsRun, is_end, last_from, run, run_ends, run_fails}

-- the entries behind a beginning
pub entries_are : {D : Type 0} (g : Ghosts D) (old begun : BookNow D) (ordered : Order) (number : ℕ) → BeginsOrder g old begun ordered (Ok number) → begun.entries ≡ with_order old.entries ordered
entries_are g old begun (order.Begin e) number w = w.0.0
entries_are g old begun (order.Review e) number w = absurd w
entries_are g old begun (order.Resume n) number w = w.1.entries

-- what the stack has heard where the run begins: a continued rollback goes on in the entries of its update, every other operation that
-- begins has its beginning alone
abbrev pub heard_by : List Entry → Order → List Entry
heard_by es (order.Begin (entry.Begin number stack (begin.Continue paths))) = es ++ entry.Begin number stack (begin.Continue paths) ∷ []
heard_by es (order.Begin e) = e ∷ []
heard_by es ordered = es

-- the status with which an operation begins
abbrev pub HasBegun : Order → Status → Type 0
HasBegun (order.Begin (entry.Begin number stack k)) state = state ≡ begun k
HasBegun ordered state = Unit {0}

-- The stack where the run begins.
pub record IsStart (x : World) (name : List ℕ) (ordered : Order) (y : World) (s : StackState) : Type 0 where
  pub on : IsOn (number_of ordered) name y s
  pub going : s.going ≡ going_by name (known_stack name x) ordered
  pub before : s.before ≡ before_by (known_stack name x) ordered
  pub entries : s.entries ≡ heard_by (known_stack name x).entries ordered
  pub status : HasBegun ordered s.status

module _ (x : World) (apart : AreApart x) (name : List ℕ) where
  abbrev begins_with : Begun → Entry
  begins_with k = entry.Begin (x.operation + 1) name k

  abbrev left_by : Begun → StackState
  left_by k = (effect_at (x.place + 1) (begins_with k) (known_stack name x)).stack

  status_of : (k : Begun) → (left_by k).status ≡ begun k
  status_of k = begun_status (x.place + 1) name (x.operation + 1) k (known_stack name x)

  begun_start : (k : Begun) → begins_from k (known_stack name x).status ≡ true → IsStart x name (order.Begin (begins_with k)) (world_after x (begins_with k)) (left_by k)
  begun_start (begin.Create source) from = record {
    on = begins_on x apart name (begin.Create source) from;
    going = refl;
    before = refl;
    entries = refl;
    status = status_of (begin.Create source);
  }
  begun_start (begin.Update source) from = record {
    on = begins_on x apart name (begin.Update source) from;
    going = refl;
    before = refl;
    entries = refl;
    status = status_of (begin.Update source);
  }
  begun_start (begin.Delete paths) from = record {
    on = begins_on x apart name (begin.Delete paths) from;
    going = refl;
    before = refl;
    entries = refl;
    status = status_of (begin.Delete paths);
  }
  begun_start (begin.Continue paths) from = record {
    on = begins_on x apart name (begin.Continue paths) from;
    going = refl;
    before = refl;
    entries = refl;
    status = status_of (begin.Continue paths);
  }

pub starts : (schemas : List Schema) (es : List Entry) (name : List ℕ) (ordered : Order) → AreApart (world_left es) → IsPrepared schemas (world_left es) ordered
    → IsOrderOn name (world_left es) ordered → (s : StackState) × IsStart (world_left es) name ordered (world_left (with_order es ordered)) s
starts schemas es name (order.Begin (entry.Begin n stack k)) apart p on =
    let x : World = world_left es in
    let next : n ≡ x.operation + 1 = p.2.0 in
    let from : begins_from k (known_stack name x).status ≡ true =
    is_true (begins_from k (known_stack name x).status) (subst (λ (s : List ℕ). IsTrue (begins_from k (known_stack s x).status)) on p.2.1) in
    let s : StackState = (effect_at (x.place + 1) (entry.Begin (x.operation + 1) name k) (known_stack name x)).stack in (
      s,
      subst (λ (m : ℕ). IsStart x name (order.Begin (entry.Begin m stack k)) (world_left (es ++ entry.Begin m stack k ∷ [])) s) (sym next)
          (subst (λ (z : List ℕ). IsStart x name (order.Begin (entry.Begin (x.operation + 1) z k)) (world_left (es ++ entry.Begin (x.operation + 1) z k ∷ [])) s) (sym on)
          (subst (λ (y : World). IsStart x name (order.Begin (entry.Begin (x.operation + 1) name k)) y s) (folded_more empty_world es (entry.Begin (x.operation + 1) name k))
          (begun_start x apart name k from))),
    )
starts schemas es name (order.Resume n) apart p (above, s, found) =
    let x : World = world_left es in
    let on : IsOn n name x s = record { apart = apart; numbered = above; going = found } in
    let known : known_stack name x ≡ s = ap (λ (o : Option StackState). unwrap_or o no_stack) (here_of n name x s on) in (
      s,
      record {
        on = on;
        going = ap (λ (z : StackState). z.going) (sym known);
        before = ap (λ (z : StackState). z.before) (sym known);
        entries = ap (λ (z : StackState). z.entries) (sym known);
        status = tt;
      },
    )
starts schemas es name (order.Review e) apart p on = absurd p
starts schemas es name (order.Begin (entry.Opened epoch lanes)) apart p on = absurd on
starts schemas es name (order.Begin (entry.ChangeSet n stack source rows outputs)) apart p on = absurd on
starts schemas es name (order.Begin (entry.Kept n path physical why)) apart p on = absurd on
starts schemas es name (order.Begin (entry.Intent n token lane path request)) apart p on = absurd on
starts schemas es name (order.Begin (entry.Outcome n token answer before after)) apart p on = absurd on
starts schemas es name (order.Begin (entry.Phase n phase cause)) apart p on = absurd on
starts schemas es name (order.Begin (entry.Done n status failed)) apart p on = absurd on

-- lists that end so
last_snoc : (x : Entry) (xs : List Entry) (e : Entry) → last_from x (xs ++ e ∷ []) ≡ e
last_snoc x [] e = refl
last_snoc x (y ∷ ys) e = last_snoc y ys e

last_both : (x : Entry) (xs : List Entry) (y : Entry) (ys : List Entry) → last_from x (xs ++ y ∷ ys) ≡ last_from y ys
last_both x [] y ys = refl
last_both x (z ∷ zs) y ys = last_both z zs y ys

abbrev last_or : Entry → List Entry → Entry
last_or e [] = e
last_or e (x ∷ xs) = last_from x xs

last_of_snoc : (d : Entry) (xs : List Entry) (e : Entry) → last_or d (xs ++ e ∷ []) ≡ e
last_of_snoc d [] e = refl
last_of_snoc d (x ∷ xs) e = last_snoc x xs e

last_behind : (d : Entry) (xs : List Entry) (y : Entry) (ys : List Entry) → last_or d (xs ++ y ∷ ys) ≡ last_from y ys
last_behind d [] y ys = refl
last_behind d (x ∷ xs) y ys = last_both x xs y ys

abbrev front_from : Entry → List Entry → List Entry
front_from x [] = []
front_from x (y ∷ ys) = x ∷ front_from y ys

split_last : (x : Entry) (xs : List Entry) → x ∷ xs ≡ front_from x xs ++ last_from x xs ∷ []
split_last x [] = refl
split_last x (y ∷ ys) = ap (λ (l : List Entry). x ∷ l) (split_last y ys)

-- entries whose last is no end
pub record HasLast (es : List Entry) : Type 0 where
  pub earlier : List Entry
  pub last : Entry
  pub is : es ≡ earlier ++ last ∷ []
  pub other : is_done_entry last ≡ false

pub last_of : (name : List ℕ) (x : World) (es : List Entry) (ordered : Order) → IsJustOpened es → IsOrderOn name x ordered → HasLast (with_order es ordered)
last_of name x es (order.Begin (entry.Begin n stack k)) opened on = record { earlier = es; last = entry.Begin n stack k; is = refl; other = refl }
last_of name x es (order.Resume n) (front, epoch, lanes, q) on = record { earlier = front; last = entry.Opened epoch lanes; is = q; other = refl }
last_of name x es (order.Review e) opened on = absurd on
last_of name x es (order.Begin (entry.Opened epoch lanes)) opened on = absurd on
last_of name x es (order.Begin (entry.ChangeSet n stack source rows outputs)) opened on = absurd on
last_of name x es (order.Begin (entry.Kept n path physical why)) opened on = absurd on
last_of name x es (order.Begin (entry.Intent n token lane path request)) opened on = absurd on
last_of name x es (order.Begin (entry.Outcome n token answer before after)) opened on = absurd on
last_of name x es (order.Begin (entry.Phase n phase cause)) opened on = absurd on
last_of name x es (order.Begin (entry.Done n status failed)) opened on = absurd on

-- an end behind them is the end of what follows them
pub ends_behind : (number : ℕ) (state : Status) (first es all : List Entry) → HasLast first → all ≡ first ++ es → EndsWith all number state → EndsWith es number state
ends_behind number state first [] all l q k =
    let done : Entry = entry.Done number state k.failed in
    let same : l.last ≡ done =
    sym (last_of_snoc l.last l.earlier l.last) ∙ ap (last_or l.last) (sym l.is ∙ sym (append-nil first) ∙ sym q ∙ k.last) ∙ last_of_snoc l.last k.front done in
    let never : false ≡ true = sym l.other ∙ ap is_done_entry same in absurd (true≢false (sym never))
ends_behind number state first (e ∷ es) all l q k =
    let done : Entry = entry.Done number state k.failed in
    let same : last_from e es ≡ done = sym (last_behind e first e es) ∙ ap (last_or e) (sym q ∙ k.last) ∙ last_of_snoc e k.front done in
    record {
      front = front_from e es;
      failed = k.failed;
      last = split_last e es ∙ ap (λ (d : Entry). front_from e es ++ d ∷ []) same;
    }

none_snoc : (xs : List Entry) (e : Entry) → [] ≡ xs ++ e ∷ [] → ⊥
none_snoc [] e q = cc
none_snoc (x ∷ xs) e q = cc

-- All of it: where it starts, what it leaves, and how it ends.
pub record HasCourse (schemas : List Schema) (number : ℕ) (name : List ℕ) (y : World) (s : StackState) (es : List Entry) (state : Status) (t : StackState) : Type 0 where
  pub run : IsRun schemas number name y s es t
  pub over : EndsWith es number state
  pub ends : is_end t.status ≡ true
  pub fails : flat_map failed_in (filter (is_of number) es) ≡ over.failed

pub course : (schemas : List Schema) (number : ℕ) (name : List ℕ) (y : World) (s : StackState) (es : List Entry) (state : Status) (t : StackState) → IsOn number name y s
    → AreSteps schemas number y es → EndsWith es number state → stack_at name (fold_of y es) ≡ Some t → HasCourse schemas number name y s es state t
course schemas number name y s [] state t on steps over found = absurd (none_snoc over.front (entry.Done number state over.failed) over.last)
course schemas number name y s (e ∷ es) state t on steps over found =
    let done : Entry = entry.Done number state over.failed in
    let last : last_from e es ≡ done = ap (last_or e) over.last ∙ last_of_snoc e over.front done in
    let (u, r) = run schemas number name e es y s on steps in
    record {
      run = subst (λ (z : StackState). IsRun schemas number name y s (e ∷ es) z) (some_same (sym r.here ∙ found)) r;
      over = over;
      ends = run_ends schemas number name e es y s on steps (ap is_done_entry last) t found;
      fails = run_fails schemas number name e es y s on steps state over.failed last;
    }
