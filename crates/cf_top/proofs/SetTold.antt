-- Each call by which a change set is executed is told by it.
use Rattle.std.proofs.Common.{◌≡◌, ◌⊎◌, inl, inr, ℕ, ◌+◌, ◌≤◌, ◌==◌, Bool, true, false, cond, List, [], ◌∷◌, ◌++◌, Some, None, Result, Ok, Err, find, map, refl, sym, ◌∙◌, ap, subst, unwrap_or, arith}
use Rattle.std.specs.Bool.{IsTrue}
use Rattle.std.specs.Str.{bytes_eq}
use Rattle.std.proofs.lemmas.List.{append-nil, append_assoc}
use Rattle.cf_tree.specs.Keys.{value_at}
use Rattle.cf_tree.specs.Lists.{In}
use Rattle.cf_disk.specs.declared.disk.Disk.{Ghosts as DiskGhosts}
use Rattle.cf_schema.specs.declared.described.Schema.{Schema}
use Rattle.cf_entry.proofs.Codec.{some_is}
use Rattle.cf_entry.specs.declared.entry.Entry.{Entry}
use Rattle.cf_entry.specs.declared.entry.Entry.TheVariants as entry
use Rattle.cf_entry.specs.declared.status.Status.{Status}
use Rattle.cf_effect.specs.Fold.{opening_heard}
use Rattle.cf_effect.specs.Status.{goes_forward}
use Rattle.cf_effect.specs.World.{StackState, World, empty_world, is_going, known_stack, no_stack}
use Rattle.cf_effect.specs.declared.held.KeptSet.{KeptSet}
use Rattle.cf_stacks.proofs.Folded.{folded_more}
use Rattle.cf_stacks.proofs.Worlds.{found_stands}
use Rattle.cf_plan.specs.Follow.{IsLegal}
use Rattle.cf_plan.specs.Life.{Life}
use Rattle.cf_core.proofs.Moving.{numbered_so}
use Rattle.cf_core.specs.Foretold.{IsTold, row_at}
use Rattle.cf_core.specs.Theorem.{HoldsAlways}
use Rattle.cf_lane.specs.Calling.{granted_in}
use Rattle.cf_lane.specs.declared.told.Told.{Told}
use Rattle.cf_prepare.specs.Orders.{IsDeployment, kind_by}
use Rattle.cf_prepare.specs.Refusals.{set_of}
use Rattle.cf_prepare.specs.declared.wish.Order.{Order}
use Rattle.cf_prepare.specs.declared.wish.Order.TheVariants as order
use Rattle.cf_book.specs.Beginning.{BeginsOrder}
use Rattle.cf_book.specs.Granting.{IsOpenCall}
use Rattle.cf_book.specs.Lives.{AreEntriesOf, DescribeLanes, StandsFor}
use Rattle.cf_book.specs.Record.{with_doubt, world_left}
use Rattle.cf_book.specs.State.{BookLane, BookNow}
use Rattle.cf_face.specs.declared.exit.Exit.{Exit}
use Rattle.cf_face.specs.declared.words.Task.TheVariants as task
use Rattle.cf_workers.specs.Driving.{CallAt}
use Rattle.cf_workers.specs.Growing.{Extends}
use Rattle.cf_workers.specs.Intending.{HasIntent}
use Rattle.cf_workers.specs.Leading.{LeadsOn, LeadsWith}
use Rattle.cf_workers.specs.Ordering.{schemas_in}
use Rattle.cf_workers.proofs.Along.{all_or_less}
use Rattle.cf_top.specs.Performed.{DoesTask}
use Rattle.cf_top.specs.Refusals.{LibraryUse}
use Rattle.cf_top.specs.Tasks.{ExecutesBy}
use Rattle.cf_top.proofs.Foretold.{AreToldOver, apart_before, call_told, rows_begun, told_begun, told_behind}
use Rattle.cf_top.proofs.Moments.{AreWrittenBehind, IsMoment, are_written, first_written, moment_at, written_further}
use Rattle.cf_top.proofs.OfRun.{IsOfRun, none_called, of_run}

-- an opening leaves the change sets of each stack
sets_stay : (place epoch : ℕ) (lanes : List (List ℕ × List ℕ)) (name : List ℕ) (stacks : List (List ℕ × StackState))
    → (unwrap_or (value_at name (map (opening_heard place (entry.Opened epoch lanes)) stacks)) no_stack).sets ≡ (unwrap_or (value_at name stacks) no_stack).sets
sets_stay place epoch lanes name [] = refl
sets_stay place epoch lanes name (s ∷ stacks) = by (bytes_eq name s.0) (sets_stay place epoch lanes name stacks) where
  by : (b : Bool) → (unwrap_or (value_at name (map (opening_heard place (entry.Opened epoch lanes)) stacks)) no_stack).sets ≡ (unwrap_or (value_at name stacks) no_stack).sets
      → (unwrap_or (cond b (Some (opening_heard place (entry.Opened epoch lanes) s).1) (value_at name (map (opening_heard place (entry.Opened epoch lanes)) stacks))) no_stack).sets
      ≡ (unwrap_or (cond b (Some s.1) (value_at name stacks)) no_stack).sets
  by true ih = refl
  by false ih = ih

pub kept_opened : (es : List Entry) (epoch : ℕ) (lanes : List (List ℕ × List ℕ)) (name : List ℕ) (number : ℕ) (set : KeptSet) → set_of number (known_stack name (world_left es)) ≡ Some set
    → set_of number (known_stack name (world_left (es ++ entry.Opened epoch lanes ∷ []))) ≡ Some set
kept_opened es epoch lanes name number set kept =
    ap (λ (x : World). set_of number (known_stack name x)) (sym (folded_more empty_world es (entry.Opened epoch lanes)))
    ∙ ap (λ (sets : List KeptSet). find (λ k. number == k.number) sets) (sets_stay ((world_left es).place + 1) epoch lanes name (world_left es).stacks) ∙ kept

-- of two beginnings of a list one begins with the other
one_further : (a b xs ys : List Entry) → a ++ xs ≡ b ++ ys → Extends b a ⊎ Extends a b
one_further [] b xs ys q = inr (b, refl)
one_further (e ∷ a) [] xs ys q = inl (e ∷ a, refl)
one_further (e ∷ a) (d ∷ b) xs ys q =
    let first : e ≡ d = cc in
    let rest : a ++ xs ≡ b ++ ys = cc in
    elim (one_further a b xs ys rest) [
      | inl k ↦ inl (k.0, ap (λ es. e ∷ es) k.1 ∙ ap (λ f. f ∷ (b ++ k.0)) first)
      | inr k ↦ inr (k.0, ap (λ es. d ∷ es) k.1 ∙ ap (λ f. f ∷ (a ++ k.0)) (sym first))
    ]

-- A book that was entered, of a life in which what always holds holds, and what came of it.
module _ {D : Type 0} (g : DiskGhosts D) (o : LibraryUse) (entered ended : BookNow D) (name : List ℕ) (number : ℕ) (schemas : List Schema) (life : Life)
    (described : DescribeLanes schemas entered.lanes) (stands : StandsFor entered life) (holds : HoldsAlways schemas life) (certain : entered.doubt ≡ None)
    (leads : LeadsOn entered ended) (silent : (b : BookLane) → In b entered.lanes → b.lane.log ≡ []) where
  same_entries : (es : List Entry) → AreEntriesOf entered es → es ≡ entered.entries
  same_entries es (inl q) = q
  same_entries es (inr q) = q ∙ ap (with_doubt entered.entries) certain

  abbrev first : List Entry
  first = life.entries

  at_first : first ≡ entered.entries
  at_first = same_entries first stands.entries

  abbrev x : World
  x = world_left first

  to_end : LeadsWith schemas life ended ended.entries
  to_end = leads schemas life described stands holds ended.entries (inl refl)

  are_behind : AreWrittenBehind schemas ended.entries first
  are_behind = subst (λ es. AreWrittenBehind schemas es first) to_end.record_is (are_written schemas to_end.events life to_end.after holds to_end.happen)

  moment : (between more : List Entry) → ended.entries ≡ first ++ (between ++ more) → IsMoment schemas (first ++ between)
  moment between more q = moment_at schemas to_end.events life to_end.after holds to_end.happen between more (to_end.record_is ∙ q)

  -- no operation had the next number before
  not_before : (es more : List Entry) → first ≡ es ++ more → (lane : List ℕ) (t : Told) → IsOpenCall es lane (granted_in t) → t.number ≡ x.operation + 1 → ⊥
  not_before es more q lane t opens mine =
      let (apart, low) = apart_before schemas es more (subst (IsLegal schemas empty_world) q holds.sound.legal) in
      let here = found_stands (λ (p : List ℕ × StackState). is_going t.number p.1) (world_left es).stacks (opens.name, opens.stack) apart.names opens.going in
      let last = apart.last opens.name opens.stack here in
      let its = numbered_so schemas (world_left es) [] opens.name opens.stack t.number opens.going in
      let same : x.operation ≡ (world_left (es ++ more)).operation = ap (λ ds. (world_left ds).operation) q in
      omega (arith, low, last, its, same, mine)

  -- A call that is open in a record up to which the operation goes forward.
  module _ (set : KeptSet) (kept : set_of number (known_stack name (world_left entered.entries)) ≡ Some set) (c : CallAt) (b : BookLane) (i : In b ended.lanes)
      (j : In c.told b.lane.log) (es : List Entry) (intent : HasIntent es c) (opens : IsOpenCall es c.lane (granted_in c.told))
      (stays : Extends es ended.entries) (on : IsTrue (goes_forward opens.stack.status)) where
    abbrev IsSo : Type 0
    IsSo = IsTold (row_at c.path set.rows) c.told.request

    abbrev next : ℕ
    next = x.operation + 1

    -- behind the beginning of the operation
    behind : (e : Entry) (more between : List Entry) → AreToldOver schemas next set.rows (first ++ e ∷ []) → next ≤ (world_left (first ++ e ∷ [])).operation
        → c.told.number ≡ next → es ≡ (first ++ e ∷ []) ++ between → IsSo
    behind e more between told above mine l =
        let (rest, k) = stays in
        let all : ended.entries ≡ (first ++ e ∷ []) ++ (between ++ rest) =
        k ∙ ap (λ ds. ds ++ rest) l ∙ append_assoc (first ++ e ∷ []) between rest in
        let told_then : AreToldOver schemas next set.rows es =
        subst (AreToldOver schemas next set.rows) (sym l)
        (told_behind schemas next set.rows ended.entries between rest (first ++ e ∷ []) (written_further schemas ended.entries first e are_behind) all above told) in
        let moment_then : IsMoment schemas es =
        subst (IsMoment schemas) (sym (append_assoc first (e ∷ []) between) ∙ sym l)
        (moment (e ∷ between) rest (all ∙ append_assoc first (e ∷ []) (between ++ rest))) in
        call_told schemas next set.rows es moment_then told_then c.lane (granted_in c.told) opens mine on intent.0 c.path intent.1

    of_begun : (e : Entry) (more : List Entry) → AreToldOver schemas next set.rows (first ++ e ∷ []) → next ≤ (world_left (first ++ e ∷ [])).operation → c.told.number ≡ next
        → ended.entries ≡ (first ++ e ∷ []) ++ more → IsSo
    of_begun e more told above mine all =
        elim (one_further es (first ++ e ∷ []) stays.0 more (sym stays.1 ∙ all)) [
          | inl k ↦ behind e more k.0 told above mine k.1
          | inr k ↦ elim (all_or_less es first k.0 e k.1) [
            | inl l ↦ absurd (not_before es l.0 l.1 c.lane c.told opens mine)
            | inr same ↦ behind e more [] told above mine (same ∙ sym (append-nil (first ++ e ∷ [])))
          ]
        ]

    of_set : (ordered : Order) → ExecutesBy (schemas_in entered.lanes) x name number ordered → IsOfRun g entered ended ordered c.told → IsSo
    of_set ordered by_set run = by by_set.deploys where
      same_set : by_set.set ≡ set
      same_set = some_is by_set.set set (sym by_set.kept ∙ subst (λ ds. set_of number (known_stack name (world_left ds)) ≡ Some set) (sym at_first) kept)

      by : IsDeployment (schemas_in entered.lanes) x name by_set.set.source ordered → IsSo
      by (written, given, q) =
          let e : Entry = entry.Begin next name (kind_by (known_stack name x) written) in
          let begins : BeginsOrder g entered run.begun (order.Begin e) (Ok run.number) =
          subst (λ (r : Order). BeginsOrder g entered run.begun r (Ok run.number)) q run.begins.0 in
          let wrote : run.begun.entries ≡ first ++ e ∷ [] = begins.0.0 ∙ ap (λ ds. ds ++ e ∷ []) (sym at_first) in
          let all : ended.entries ≡ (first ++ e ∷ []) ++ run.grown.0 = run.grown.1 ∙ ap (λ ds. ds ++ run.grown.0) wrote in
          let one = first_written schemas ended.entries first e run.grown.0 are_behind (all ∙ append_assoc first (e ∷ []) run.grown.0) in
          let told = told_begun schemas next set.rows first name (kind_by (known_stack name x) written) one refl
          (rows_begun schemas entered.lanes life described stands.named holds name by_set.set.source written set.rows by_set.sound
          (by_set.same_rows ∙ ap (λ (k : KeptSet). k.rows) same_set) given) in
          let same : next ≡ (world_left (first ++ e ∷ [])).operation = ap (λ (y : World). y.operation) (folded_more empty_world first e) in
          of_begun e run.grown.0 told (omega (arith, same)) (run.of_it ∙ begins.1) all

    -- so it is told
    pub told_done : (result : Result Status Exit) → DoesTask g o entered ended name (task.Execute number) result → IsTold (row_at c.path set.rows) c.told.request
    told_done (Ok status) (ordered, is, runs) =
        of_set ordered (subst (λ ds. ExecutesBy (schemas_in entered.lanes) (world_left ds) name number ordered) (sym at_first) is.orders.0)
        (of_run g entered ended silent b i c.told j ordered (Ok status) runs)
    told_done (Err e) (inl (refused, still)) = absurd (none_called g entered ended silent b i c.told j still.1.lanes)
    told_done (Err e) (inr (ordered, is, (f, exits, runs))) =
        of_set ordered (subst (λ ds. ExecutesBy (schemas_in entered.lanes) (world_left ds) name number ordered) (sym at_first) is.orders.0)
        (of_run g entered ended silent b i c.told j ordered (Err f) runs)
