-- The moments of a life: there was one at each of its entries, at which what always holds held, and at which the entry was written.
use Rattle.std.proofs.Common.{◌≡◌, ◌⊎◌, inl, inr, List, [], ◌∷◌, ◌++◌, ℕ, Some, refl, sym, ◌∙◌, ap, subst}
use Rattle.std.proofs.lemmas.List.{append-nil, append_assoc, append_cancel_left}
use Rattle.cf_schema.specs.declared.described.Schema.{Schema}
use Rattle.cf_entry.specs.declared.entry.Entry.{Entry}
use Rattle.cf_effect.specs.Fold.{world_after}
use Rattle.cf_effect.specs.World.{StackState, known_stack, stack_at}
use Rattle.cf_plan.specs.Follow.{MayFollow}
use Rattle.cf_plan.specs.Life.{Event, Happens, IsLife, Life, life_after, world_of}
use Rattle.cf_core.specs.Fits.{IsWritten}
use Rattle.cf_core.specs.SoundLife.{Appends}
use Rattle.cf_core.specs.SoundLife as sound
use Rattle.cf_core.specs.Theorem.{HoldsAlways}
use Rattle.cf_core.proofs.Always.{entries_after, event_holds, events_hold, steady}
use Rattle.cf_core.proofs.KeepSound.{event_writes}
use Rattle.cf_book.specs.Record.{world_left}
use Rattle.cf_workers.specs.Growing.{Extends}
use Rattle.cf_workers.proofs.Crashes.{extends_itself, extends_on}

-- what an event appends could follow
follows : (schemas : List Schema) {l : Life} {ev : Event} {e : Entry} {out : List ℕ} → Appends l ev e out → Happens schemas l ev → MayFollow schemas (world_of l) out e
follows schemas sound.opened may = may.1
follows schemas sound.set may = may.2
follows schemas sound.begun may = may.3
follows schemas sound.granted may = may.2
follows schemas sound.settled (running, lease, reply, found, replied, is, may) = may

-- what an event leaves of the entries: those that there were, or these and one that it appends
abbrev Leaves : Life → Event → List Entry → Type 0
Leaves l ev es = (es ≡ l.entries) ⊎ ((e : Entry) × (out : List ℕ) × Appends l ev e out × (es ≡ l.entries ++ e ∷ []))

left_by : (l : Life) (ev : Event) → Leaves l ev (life_after l ev).entries
left_by l ev = entries_after l (Leaves l ev) (inl refl) ev (λ e out a. inr (e, out, a, refl))

none_between : (between more : List Entry) (e : Entry) → between ++ e ∷ more ≡ [] → ⊥
none_between [] more e q = let no : ⊥ = cc in no
none_between (d ∷ between) more e q = let no : ⊥ = cc in no

module _ (schemas : List Schema) where
  -- a moment at which these were the entries
  pub record IsMoment (es : List Entry) : Type 0 where
    pub life : Life
    pub entries : life.entries ≡ es
    pub holds : HoldsAlways schemas life

  -- the entry was written behind these, for each stack that is there then
  pub record IsWrittenBehind (es : List Entry) (e : Entry) : Type 0 where
    pub moment : IsMoment es
    pub out : List ℕ
    pub may : MayFollow schemas (world_left es) out e
    pub written : (name : List ℕ) (t : StackState) → stack_at name (world_after (world_left es) e) ≡ Some t
        → IsWritten schemas (world_left es) out e name (known_stack name (world_left es)) t

  -- so is each entry of all of them that stands behind the first ones
  abbrev pub AreWrittenBehind : List Entry → List Entry → Type 0
  AreWrittenBehind all es = (between : List Entry) (e : Entry) (more : List Entry) → all ≡ es ++ (between ++ e ∷ more) → IsWrittenBehind (es ++ between) e

  pub written_further : (all es : List Entry) (e : Entry) → AreWrittenBehind all es → AreWrittenBehind all (es ++ e ∷ [])
  written_further all es e w between d more q =
      subst (λ fs. IsWrittenBehind fs d) (sym (append_assoc es (e ∷ []) between)) (w (e ∷ between) d more (q ∙ append_assoc es (e ∷ []) (between ++ d ∷ more)))

  pub first_written : (all es : List Entry) (e : Entry) (more : List Entry) → AreWrittenBehind all es → all ≡ es ++ e ∷ more → IsWrittenBehind es e
  first_written all es e more w q = subst (λ fs. IsWrittenBehind fs e) (append-nil es) (w [] e more q)

  -- the entries of a life begin with those of each moment before
  grown : (events : List Event) (l after : Life) → IsLife schemas l events after → Extends l.entries after.entries
  grown [] l after same = subst (λ (z : Life). Extends l.entries z.entries) (sym same) (extends_itself l.entries)
  grown (ev ∷ events) l after (may, rest) =
      extends_on l.entries (life_after l ev).entries after.entries (first (left_by l ev)) (grown events (life_after l ev) after rest) where
        first : Leaves l ev (life_after l ev).entries → Extends l.entries (life_after l ev).entries
        first (inl q) = ([], q ∙ sym (append-nil l.entries))
        first (inr (e, out, a, q)) = (e ∷ [], q)

  -- an event that appends an entry
  appends : (l : Life) (ev : Event) (e : Entry) (out : List ℕ) → HoldsAlways schemas l → Happens schemas l ev → Appends l ev e out → IsWrittenBehind l.entries e
  appends l ev e out h may a = record {
    moment = record { life = l; entries = refl; holds = h };
    out = out;
    may = follows schemas a may;
    written = event_writes schemas l ev e out a may (λ name s at. steady schemas name (world_of l) s (h.way name s at).course.stage) h.sound;
  }

  pub are_written : (events : List Event) (l after : Life) → HoldsAlways schemas l → IsLife schemas l events after → AreWrittenBehind after.entries l.entries
  are_written [] l after h same between e more q =
      absurd (none_between between more e (append_cancel_left l.entries (between ++ e ∷ more) []
      (sym q ∙ ap (λ (z : Life). z.entries) same ∙ sym (append-nil l.entries))))
  are_written (ev ∷ events) l after h (may, rest) between e more q =
      by (left_by l ev) (grown events (life_after l ev) after rest) (are_written events (life_after l ev) after (event_holds schemas l ev h may) rest) where
        next : List Entry
        next = (life_after l ev).entries

        by : Leaves l ev next → Extends next after.entries → AreWrittenBehind after.entries next → IsWrittenBehind (l.entries ++ between) e
        by (inl same) g ih = subst (λ es. IsWrittenBehind (es ++ between) e) same (ih between e more (q ∙ ap (λ es. es ++ (between ++ e ∷ more)) (sym same)))
        by (inr (d, out, a, is)) (behind, g) ih =
            on between (append_cancel_left l.entries (d ∷ behind) (between ++ e ∷ more)
            (sym (append_assoc l.entries (d ∷ []) behind) ∙ ap (λ es. es ++ behind) (sym is) ∙ sym g ∙ q)) where
              on : (es : List Entry) → d ∷ behind ≡ es ++ e ∷ more → IsWrittenBehind (l.entries ++ es) e
              on [] k =
                  let first : d ≡ e = cc in
                  subst (λ es. IsWrittenBehind es e) (sym (append-nil l.entries)) (subst (IsWrittenBehind l.entries) first (appends l ev d out h may a))
              on (f ∷ es) k =
                  let first : d ≡ f = cc in
                  let others : behind ≡ es ++ e ∷ more = cc in
                  subst (λ fs. IsWrittenBehind fs e) (ap (λ fs. fs ++ es) is ∙ append_assoc l.entries (d ∷ []) es ∙ ap (λ x. l.entries ++ x ∷ es) first)
                  (ih es e more (g ∙ ap (λ fs. next ++ fs) others))

  -- there was a moment at each number of them
  pub moment_at : (events : List Event) (l after : Life) → HoldsAlways schemas l → IsLife schemas l events after → (between more : List Entry)
      → after.entries ≡ l.entries ++ (between ++ more) → IsMoment (l.entries ++ between)
  moment_at events l after h is between [] q =
      record { life = after; entries = q ∙ ap (λ es. l.entries ++ es) (append-nil between); holds = (events_hold schemas l after events h is).0 }
  moment_at events l after h is between (e ∷ more) q = (are_written events l after h is between e more q).moment
