use Rattle.std.proofs.Common.{rules, ◌≡◌, ◌+◌, ◌-◌, ◌∷◌, ℕ, List, true, Some, length, take, drop, get_or, ap, sym, ◌∙◌, subst, arith}
use Rattle.std.proofs.lemmas.List.{take_rest, drop_more}
use Rattle.cf_entry.specs.EntryReading.{entry_of}
use Rattle.cf_entry.specs.declared.entry.Entry.{Entry}
use Rattle.cf_journal.specs.Frames.{frames_of, with_front, is_whole, body_of, next_of}
use Rattle.cf_journal.proofs.Bodies.{front_step, frame_parts}
use Rattle.cf_journal.proofs.reading.read_frames.Goals as goal

pub loop-rest-preserved : goal.loop-rest-preserved
loop-rest-preserved c =
    let rest = c.loop-rest.rest.now in
    let behind = drop 1 rest in
    let same : take (length rest - 1) (drop 1 rest) ≡ behind = take_rest rest 1 in
    let gate : get_or rest 0 0 ≡ 1 = search rules in
    let first : rest ≡ 1 ∷ behind = drop_more rest 0 0 (omega arith) ∙ ap (λ (g : ℕ). g ∷ behind) gate in
    let is : is_whole behind ≡ true = subst (λ (l : List ℕ). is_whole l ≡ true) same c.in-Some.ensures.whole in
    let body : c.in-Some.body.now ≡ body_of behind = subst (λ (l : List ℕ). c.in-Some.body.now ≡ body_of l) same c.in-Some.ensures.body in
    let next : c.in-Some.next.now ≡ next_of behind = subst (λ (l : List ℕ). c.in-Some.next.now ≡ next_of l) same c.in-Some.ensures.next in
    let entry : Some c.in-Some-2.entry ≡ entry_of c.in-Some.body.now = search rules in
    let step = front_step entry_of c.loop-rest.at c.loop-rest.entries c.in-Some-2.entry behind c.in-Some.body.now c.in-Some.next.now is body next entry in
    record {
      read = ap (λ (es : List Entry). with_front es (frames_of entry_of (c.loop-rest.at + (5 + length c.in-Some.body.now)) c.in-Some.next.now)) c.in_ok-push.ensures.ok
          ∙ step ∙ ap (λ (l : List ℕ). with_front c.loop-rest.entries (frames_of entry_of c.loop-rest.at l)) (sym first) ∙ c.loop-rest.invariant.read;
      place = omega (arith, frame_parts behind is, ap length body, ap length next, ap length first, c.loop-rest.invariant.place);
      low = omega (arith, c.loop-rest.invariant.low);
    }
