-- What a change set that a command wrote leaves: disk and lanes agree, a crash leaves it or not, and it can be written.
use Rattle.std.proofs.Common.{◌≡◌, ◌⊎◌, inl, inr, ℕ, Bool, true, false, cond, ◌||◌, List, [], ◌∷◌, ◌++◌, Option, Some, None, Result, Ok, map, fold, refl, sym, ◌∙◌, ap, subst, true≢false}
use Rattle.std.specs.Bool.{IsTrue}
use Rattle.std.specs.Str.{bytes_eq}
use Rattle.std.proofs.lemmas.List.{append-nil}
use Rattle.cf_tree.specs.Lists.{In, is_among}
use Rattle.cf_tree.specs.Lists.In.{here, there}
use Rattle.cf_tree.specs.declared.source.Source.{Source}
use Rattle.cf_disk.specs.declared.disk.Disk.{Ghosts as DiskGhosts}
use Rattle.cf_handler.specs.declared.handler.Handler.{Ghosts as HandlerGhosts}
use Rattle.cf_schema.specs.declared.described.Schema.{Schema}
use Rattle.cf_schema.specs.Kinds.{found, with_kind}
use Rattle.cf_entry.specs.Entry.{IsProper}
use Rattle.cf_entry.specs.declared.entry.Entry.{Entry}
use Rattle.cf_entry.specs.declared.entry.Entry.TheVariants as entry
use Rattle.cf_journal.specs.Record.{record_of}
use Rattle.cf_effect.specs.Begin.{source_for}
use Rattle.cf_effect.specs.World.{World, known_stack}
use Rattle.cf_next.specs.declared.home.Home.{Home}
use Rattle.cf_plan.proofs.Causing.{map_in}
use Rattle.cf_plan.proofs.Listed.{bytes_same}
use Rattle.cf_plan.proofs.SameAccepted.{same_reviewed}
use Rattle.cf_plan.specs.Accept.{exports_by, held_by, schema_kinds}
use Rattle.cf_plan.specs.Follow.{MayFollow, set_number}
use Rattle.cf_plan.specs.Lanes.{Lane}
use Rattle.cf_plan.specs.Life.{ChangeSet, IsChangeSet, Whole}
use Rattle.cf_core.specs.Theorem.{HoldsAlways}
use Rattle.cf_core.proofs.Always.{event_holds, holds_keeps_promises}
use Rattle.cf_prepare.specs.Orders.{IsReview}
use Rattle.cf_prepare.specs.Refusals.{proposal}
use Rattle.cf_prepare.specs.declared.wish.Order.{Order}
use Rattle.cf_prepare.specs.declared.wish.Order.TheVariants as order
use Rattle.cf_book.proofs.Told.{kind_told}
use Rattle.cf_book.specs.Fences.{handed_in}
use Rattle.cf_book.specs.Record.{HasKnown, world_left}
use Rattle.cf_book.specs.State.{at_home, home_of}
use Rattle.cf_face.specs.declared.exit.Exit.{Exit}
use Rattle.cf_workers.specs.Agreement.{Agree, AgreeOn, KeepsAgreement, all_as_told, at_rest}
use Rattle.cf_workers.specs.Growing.{Extends}
use Rattle.cf_workers.proofs.Untouched.{keeps_untouched, told_same}
use Rattle.cf_top.specs.Answer.{schemas_handed}
use Rattle.cf_top.specs.Crash.{CrashLeaves, MayDoubt}
use Rattle.cf_top.specs.Lanes.{with_each}
use Rattle.cf_top.specs.Reviewing.{IsWrittenOrDoubted, LeavesAtMostOneSet, LeavesSet}
use Rattle.cf_plan.proofs.NamedRows.{named_rows}

same_set : (a b : Entry) → order.Review a ≡ order.Review b → a ≡ b
same_set a b e = cc

-- a review's change set can be written
pub review_is_proper : (schemas : List Schema) (x : World) (name : List ℕ) (source : Source) (set : Entry) → IsReview schemas x name source (order.Review set) → IsProper set
review_is_proper schemas x name source set (written, w, q) =
    subst IsProper (sym (same_set set _ q)) (
      (ap (λ (s : Source). s.stack) w.rest, ap (λ (s : Source). s.number) w.rest),
      named_rows schemas (held_by (known_stack name x)) (proposal x name source) (known_stack name x).outputs (exports_by name x),
    )

-- and it is one
pub review_is_set : (schemas : List Schema) (x : World) (name : List ℕ) (source : Source) (set : Entry) → IsReview schemas x name source (order.Review set) → IsChangeSet set
review_is_set schemas x name source set (written, w, q) = subst IsChangeSet (sym (same_set set _ q)) tt

-- what is left of the journal is what a command may leave
module _ (old known : List Entry) (set : Entry) (doubt : Option Entry) (e : Exit) where
  grows : IsWrittenOrDoubted old set known doubt e → Extends old known
  grows (inl (k, none)) = (set ∷ [], k)
  grows (inr (k, some, may)) = ([], k ∙ sym (append-nil old))

  sure : IsWrittenOrDoubted old set known doubt e → MayDoubt e ⊎ (doubt ≡ None)
  sure (inl (k, none)) = inr none
  sure (inr (k, some, may)) = inl may

  -- a file has the old entries, or these and the change set
  has_old_or_set : (file : List ℕ) → IsWrittenOrDoubted old set known doubt e → HasKnown known doubt file → (record_of file ≡ Ok old) ⊎ (record_of file ≡ Ok (old ++ set ∷ []))
  has_old_or_set file (inl (k, none)) has = inr (whole (subst (λ (o : Option Entry). HasKnown known o file) none has) ∙ ap one_record k) where
    one_record : List Entry → Result (List Entry) ℕ
    one_record es = Ok es

    whole : HasKnown known None file → record_of file ≡ Ok known
    whole (inl q) = q
    whole (inr q) = q
  has_old_or_set file (inr (k, some, may)) has = subst (λ (o : Option Entry). HasKnown old o file) some (subst (λ (es : List Entry). HasKnown es doubt file) k has)

pub set_survives : (schemas : List Schema) (bytes bytes' : List ℕ) (before may_leave : List ℕ → Type 0) (e : Exit) → LeavesAtMostOneSet schemas bytes bytes' before may_leave e
    → CrashLeaves bytes bytes' before may_leave e
set_survives schemas bytes bytes' before may_leave e (inl w) = inl w
set_survives schemas bytes bytes' before may_leave e (inr s) = inr (record {
  old = s.old;
  known = s.known;
  doubt = s.doubt;
  was = s.was;
  grown = grows s.old s.known s.set s.doubt e s.which;
  certain = sure s.old s.known s.set s.doubt e s.which;
  stays = s.stays;
  each = s.each;
})

-- The types that some schemas have.
among_found : (k : List ℕ) (ss : List Schema) (t : Schema) → found k ss ≡ Some t → is_among k (schema_kinds ss) ≡ true
among_found k [] t e = let no : ⊥ = cc in absurd no
among_found k (s ∷ ss) t e = by (bytes_eq k s.kind) e (among_found k ss t) where
  by : (b : Bool) → cond b (Some s) (found k ss) ≡ Some t → (found k ss ≡ Some t → is_among k (schema_kinds ss) ≡ true) → (b || is_among k (schema_kinds ss)) ≡ true
  by true q rest = refl
  by false q rest = rest q

among_end : (ss : List Schema) (g : Schema) (k : List ℕ) → is_among k (schema_kinds (ss ++ g ∷ [])) ≡ true → (is_among k (schema_kinds ss) ≡ true) ⊎ (g.kind ≡ k)
among_end [] g k = by (bytes_eq k g.kind) refl where
  by : (b : Bool) → bytes_eq k g.kind ≡ b → (b || false) ≡ true → (false ≡ true) ⊎ (g.kind ≡ k)
  by true e q = inr (sym (bytes_same k g.kind e))
  by false e q = inl q
among_end (s ∷ ss) g k = by (bytes_eq k s.kind) (among_end ss g k) where
  by : (b : Bool) → (is_among k (schema_kinds (ss ++ g ∷ [])) ≡ true → (is_among k (schema_kinds ss) ≡ true) ⊎ (g.kind ≡ k))
      → (b || is_among k (schema_kinds (ss ++ g ∷ []))) ≡ true → ((b || is_among k (schema_kinds ss)) ≡ true) ⊎ (g.kind ≡ k)
  by true rest q = inl refl
  by false rest q = rest q

among_put : (g : Schema) (ss : List Schema) (k : List ℕ) → is_among k (schema_kinds (with_kind g ss)) ≡ true → (is_among k (schema_kinds ss) ≡ true) ⊎ (g.kind ≡ k)
among_put g ss k = by (found g.kind ss) refl where
  by : (o : Option Schema) → found g.kind ss ≡ o → is_among k (schema_kinds (with_kind g ss)) ≡ true → (is_among k (schema_kinds ss) ≡ true) ⊎ (g.kind ≡ k)
  by (Some t) is = rw is (λ q. inl q)
  by None is = rw is (among_end ss g k)

abbrev with_homes : List Home → List Schema → List Schema
with_homes homes ss = fold (λ schemas (o : Home). with_kind o.schema schemas) ss homes

among_homes : (homes : List Home) (ss : List Schema) (k : List ℕ) → is_among k (schema_kinds (with_homes homes ss)) ≡ true
    → (is_among k (schema_kinds ss) ≡ true) ⊎ ((o : Home) × In o homes × (o.schema.kind ≡ k))
among_homes [] ss k q = inl q
among_homes (o ∷ homes) ss k q = by (among_homes homes (with_kind o.schema ss) k q) where
  first : (is_among k (schema_kinds ss) ≡ true) ⊎ (o.schema.kind ≡ k) → (is_among k (schema_kinds ss) ≡ true) ⊎ ((p : Home) × In p (o ∷ homes) × (p.schema.kind ≡ k))
  first (inl a) = inl a
  first (inr e) = inr (o, here, e)

  by : (is_among k (schema_kinds (with_kind o.schema ss)) ≡ true) ⊎ ((p : Home) × In p homes × (p.schema.kind ≡ k))
      → (is_among k (schema_kinds ss) ≡ true) ⊎ ((p : Home) × In p (o ∷ homes) × (p.schema.kind ≡ k))
  by (inl a) = first (among_put o.schema ss k a)
  by (inr (p, i, e)) = inr (p, there i, e)

module _ {H : Type 0} (h : HandlerGhosts H) where
  abbrev homes_of : List H → List Home
  homes_of handlers = map home_of (map at_home (handed_in h handlers))

  -- the schemas that are handed in are those of the lanes at home
  each_same : (handlers : List H) (ss : List Schema) → with_homes (homes_of handlers) ss ≡ with_each ss (map h.schema_of handlers)
  each_same [] ss = refl
  each_same (x ∷ handlers) ss = each_same handlers (with_kind (h.schema_of x) ss)

module _ {D H : Type 0} (g : DiskGhosts D) (h : HandlerGhosts H) (disk disk' : D) (handlers : List H) (stay : (d : D) → IsTrue g.tells → g.may_leave d (g.seen d)) (e : Exit) where
  abbrev schemas : List Schema
  schemas = schemas_handed h handlers

  -- a change set that is written keeps the agreement
  module _ (tells : IsTrue g.tells) (all_schemas : List Schema) (all : List Lane) (agree : Agree g h all_schemas disk handlers all) where
    abbrev homes : List Home
    homes = homes_of h handlers

    home_described : (o : Home) → In o homes → found o.schema.kind all_schemas ≡ Some o.schema
    home_described o i =
        let (b, j, q) = map_in home_of o (map at_home (handed_in h handlers)) i in
        subst (λ (p : Home). found p.schema.kind all_schemas ≡ Some p.schema) q (agree.among.described b j)

    -- a type of the schemas that were handed in is that of a lane
    has_home : (k : List ℕ) → IsTrue (is_among k (schema_kinds schemas)) → (o : Home) × In o homes × (o.schema.kind ≡ k)
    has_home k known = by (among_homes homes [] k (subst (λ (ss : List Schema). is_among k (schema_kinds ss) ≡ true) (sym (each_same h handlers [])) known)) where
      by : (false ≡ true) ⊎ ((o : Home) × In o homes × (o.schema.kind ≡ k)) → (o : Home) × In o homes × (o.schema.kind ≡ k)
      by (inl q) = absurd (true≢false (sym q))
      by (inr o) = o

    has : (k : List ℕ) → IsTrue (is_among k (schema_kinds schemas)) → found k schemas ≡ found k all_schemas
    has k known =
        let (o, i, q) = has_home k known in
        ap (found k) (sym (each_same h handlers [])) ∙ subst (λ (j : List ℕ). found j (with_homes homes []) ≡ found j all_schemas) q (kind_told all_schemas homes home_described o i)

    more : (k : List ℕ) → IsTrue (is_among k (schema_kinds schemas)) → IsTrue (is_among k (schema_kinds all_schemas))
    more k known =
        let (o, i, q) = has_home k known in
        subst (λ (j : List ℕ). is_among j (schema_kinds all_schemas) ≡ true) q (among_found o.schema.kind all_schemas o.schema (home_described o i))

    -- what was kept by the schemas that were handed in is by those of all lanes
    follows : (x : World) (set : Entry) → IsChangeSet set → MayFollow schemas x [] set → MayFollow all_schemas x [] set
    follows x (entry.ChangeSet number name source rows outputs) is may = (
      may.0,
      may.1,
      same_reviewed schemas all_schemas has more name x (known_stack name x) (source_for name (set_number x (known_stack name x)) source) rows outputs may.2,
    )
    follows x (entry.Opened epoch lanes) is may = absurd is
    follows x (entry.Begin number name k) is may = absurd is
    follows x (entry.Kept number path physical w) is may = absurd is
    follows x (entry.Intent number token lane path r) is may = absurd is
    follows x (entry.Outcome number token answer before after) is may = absurd is
    follows x (entry.Phase number p c) is may = absurd is
    follows x (entry.Done number state failed) is may = absurd is

    same_old : (a b : List Entry) → record_of (g.seen disk) ≡ Ok a → record_of (g.seen disk) ≡ Ok b → a ≡ b
    same_old a b p q = one (sym p ∙ q) where
      one : ◌≡◌ {A = Result (List Entry) ℕ} (Ok a) (Ok b) → a ≡ b
      one r = cc

    on_old : (old : List Entry) → record_of (g.seen disk) ≡ Ok old → AgreeOn all_schemas old all
    on_old old q = let (es, p, a) = agree.each (g.seen disk) (stay disk tells) in subst (λ (l : List Entry). AgreeOn all_schemas l all) (same_old es old p q) a

    on_set : (old : List Entry) (set : Entry) → record_of (g.seen disk) ≡ Ok old → IsChangeSet set → MayFollow schemas (world_left old) [] set
        → AgreeOn all_schemas (old ++ set ∷ []) all
    on_set old set q is may =
        let held : HoldsAlways all_schemas (at_rest (old ++ set ∷ []) all) =
        event_holds all_schemas (at_rest old all) (ChangeSet set Whole) (on_old old q).holds (refl, is, follows (world_left old) set is may) in
        record { holds = held; kept = holds_keeps_promises all_schemas (at_rest (old ++ set ∷ []) all) held }

    agree_after : LeavesSet schemas (g.seen disk) (g.seen disk') (g.may_leave disk') e → Agree g h all_schemas disk' handlers (all_as_told (handed_in h handlers) all)
    agree_after s =
        subst (Agree g h all_schemas disk' handlers) (sym (told_same all (on_old s.old s.was).holds.sound.named.names_differ (handed_in h handlers) agree.among.lanes)) (record {
          among = agree.among;
          each = λ file left. by file (has_old_or_set s.old s.known s.set s.doubt e file s.which (s.each file left));
        })
      where
        by : (file : List ℕ) → (record_of file ≡ Ok s.old) ⊎ (record_of file ≡ Ok (s.old ++ s.set ∷ [])) → (es : List Entry) × (record_of file ≡ Ok es) × AgreeOn all_schemas es all
        by file (inl q) = (s.old, q, on_old s.old s.was)
        by file (inr q) = (s.old ++ s.set ∷ [], q, on_set s.old s.set s.was s.is_set s.may)

  pub keeps_set : (IsTrue g.tells → LeavesAtMostOneSet schemas (g.seen disk) (g.seen disk') (g.may_leave disk) (g.may_leave disk') e)
      → KeepsAgreement g h disk handlers disk' handlers
  keeps_set left tells all_schemas all agree = by (left tells) where
    by : LeavesAtMostOneSet schemas (g.seen disk) (g.seen disk') (g.may_leave disk) (g.may_leave disk') e → Agree g h all_schemas disk' handlers (all_as_told (handed_in h handlers) all)
    by (inl w) = keeps_untouched g h disk disk' handlers stay (λ told. w.each) tells all_schemas all agree
    by (inr s) = agree_after tells all_schemas all agree s
