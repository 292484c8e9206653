-- What a crash may leave while entries are appended: how one stretch of a run goes on from another.
use Rattle.std.proofs.Common.{◌≡◌, inl, inr, ⊎_elim, ℕ, List, [], ◌∷◌, ◌++◌, Option, Some, None, Ok, refl, sym, ◌∙◌, ap, subst, append_assoc, append-nil, arith}
use Rattle.cf_disk.specs.Disk.{LeavesOnly}
use Rattle.cf_disk.specs.declared.disk.Disk.{Ghosts}
use Rattle.cf_entry.specs.declared.entry.Entry.{Entry}
use Rattle.cf_journal.specs.Record.{record_of}
use Rattle.cf_book.specs.Record.{with_doubt}
use Rattle.cf_book.specs.State.{BookNow}
use Rattle.cf_workers.specs.Growing.{Extends, IsBetween}
use Rattle.cf_workers.specs.Driving.{Grows}

pub extends_itself : (es : List Entry) → Extends es es
extends_itself es = ([], sym (append-nil es))

pub extends_on : (a b c : List Entry) → Extends a b → Extends b c → Extends a c
extends_on a b c p q = (p.0 ++ q.0, q.1 ∙ ap (λ l. l ++ q.0) p.1 ∙ append_assoc a p.0 q.0)

pub extends_doubt : (es : List Entry) (doubt : Option Entry) → Extends es (with_doubt es doubt)
extends_doubt es None = extends_itself es
extends_doubt es (Some e) = (e ∷ [], refl)

-- between less is between more
pub further : (a b c d : List Entry) (file : List ℕ) → Extends a b → Extends c d → IsBetween b c file → IsBetween a d file
further a b c d file p q i = record {
  now = i.now;
  record_is = i.record_is;
  no_shorter = extends_on a b i.now p i.no_shorter;
  no_longer = extends_on i.now c d i.no_longer q;
}

pub is_at : (es : List Entry) (file : List ℕ) → record_of file ≡ Ok es → IsBetween es es file
is_at es file q = record { now = es; record_is = q; no_shorter = extends_itself es; no_longer = extends_itself es }

module _ {D : Type 0} (moment : D → ℕ) (left_since : D → ℕ → List ℕ → Type 0) where
  -- two stretches, one behind the other
  pub joined :
      (old mid new : D) (P Q R : List ℕ → Type 0) → LeavesOnly moment left_since old mid P → LeavesOnly moment left_since mid new Q
      → ((c : List ℕ) → P c → R c) → ((c : List ℕ) → Q c → R c) → LeavesOnly moment left_since old new R
  joined old mid new P Q R a b f g = record {
    later = omega (arith, a.later, b.later);
    each = λ c left. ⊎_elim (λ past. f c (a.each c past)) (λ q. g c q) (b.before (moment old) c a.later left);
    before = λ t c le left.
        ⊎_elim (λ past. ⊎_elim (λ earlier. inl earlier) (λ p. inr (f c p)) (a.before t c le past)) (λ q. inr (g c q))
        (b.before t c (omega (arith, le, a.later)) left);
  }

-- Nothing is in doubt between them.
pub grows_on : {D : Type 0} (g : Ghosts D) (a b c : BookNow D) → b.doubt ≡ None → Extends a.entries b.entries → Extends b.entries (with_doubt c.entries c.doubt) → Grows g a b
    → Grows g b c → Grows g a c
grows_on g a b c none p q h k told =
    joined g.moment g.left_since a.disk b.disk c.disk (IsBetween a.entries (with_doubt b.entries b.doubt)) (IsBetween b.entries (with_doubt c.entries c.doubt))
    (IsBetween a.entries (with_doubt c.entries c.doubt)) (h told) (k told) (λ file i.
    let certain : with_doubt b.entries b.doubt ≡ b.entries = ap (with_doubt b.entries) none in
    further a.entries a.entries b.entries (with_doubt c.entries c.doubt) file (extends_itself a.entries) q
    (subst (λ es. IsBetween a.entries es file) certain i)) (λ file i.
    further a.entries b.entries (with_doubt c.entries c.doubt) (with_doubt c.entries c.doubt) file p (extends_itself (with_doubt c.entries c.doubt)) i)
