-- What follows of the calls on a file, one after another (this project's own).
use Rattle.std.proofs.Common.{◌⊎◌, ◌≤◌, ℕ, List, refl, ◌∙◌, inl, inr, arith}
use Rattle.cf_disk.specs.Disk.{Torn, Shortened, Follows, LeavesHalfDone, Elapses}
use Rattle.cf_disk.specs.Stays.{torn_not, cut_not}
use Rattle.cf_file.specs.File.{IsSame}

-- a write or a cut that was not made leaves what might be left before
pub none_torn : (at n : ℕ) (left : List ℕ → Type 0) → Follows (Torn at n) left left
none_torn at n left c now = (c, now, torn_not at n c)

pub none_shortened : (n : ℕ) (left : List ℕ → Type 0) → Follows (Shortened n) left left
none_shortened n left c now = (c, now, cut_not n c)

-- a step that was not made leaves nothing half done
pub not_reached : (step : List ℕ → List ℕ → Type 0) (reached : Type 0) (left : List ℕ → Type 0) → (reached → ⊥)
    → LeavesHalfDone step reached left left
not_reached step reached left never = record { kept = λ c now. now; half_done = λ r c d now made. absurd (never r) }

-- nor does it leave more where more has to be so that it is made
pub less_reached : (step : List ℕ → List ℕ → Type 0) (reached fewer : Type 0) (old new : List ℕ → Type 0) → (fewer → reached)
    → LeavesHalfDone step reached old new → LeavesHalfDone step fewer old new
less_reached step reached fewer old new f half =
    record { kept = half.kept; half_done = λ r c d now made. half.half_done (f r) c d now made }

-- no time passes where nothing is done
pub no_time : (now : ℕ) (since : ℕ → List ℕ → Type 0) (left : List ℕ → Type 0) → Elapses now now since since left
no_time now since left = record { later = omega arith; nothing_else = λ t c early was. inl was; keeps = λ t c early was. was }

before_or : {P Q R : Type 0} → (P → Q) → P ⊎ R → Q ⊎ R
before_or back (inl was) = inl (back was)
before_or back (inr now) = inr now

module _ {F : Type 0} (seen : F → List ℕ) (may_leave : F → List ℕ → Type 0) (moment : F → ℕ) (left_since : F → ℕ → List ℕ → Type 0)
  where
    pub same_itself : (f : F) → IsSame seen may_leave moment left_since f f
    same_itself f =
        record { same_seen = refl; same_moment = refl; none_new = λ c x. x; none_lost = λ c x. x; no_other = λ t c x. x; no_fewer = λ t c x. x }

    pub same_on : (a b c : F) → IsSame seen may_leave moment left_since a b → IsSame seen may_leave moment left_since b c
        → IsSame seen may_leave moment left_since a c
    same_on a b c first second =
        record {
          same_seen = second.same_seen ∙ first.same_seen;
          same_moment = second.same_moment ∙ first.same_moment;
          none_new = λ x now. first.none_new x (second.none_new x now);
          none_lost = λ x now. second.none_lost x (first.none_lost x now);
          no_other = λ t x now. first.no_other t x (second.no_other t x now);
          no_fewer = λ t x now. second.no_fewer t x (first.no_fewer t x now);
        }

    -- the time of a call goes on from before the calls that did nothing
    pub elapses_on : (a b c : F) → IsSame seen may_leave moment left_since a b
        → Elapses (moment b) (moment c) (left_since b) (left_since c) (may_leave c)
        → Elapses (moment a) (moment c) (left_since a) (left_since c) (may_leave c)
    elapses_on a b c same time =
        let later = time.later in
        let at_b = same.same_moment in
        let none_else : (t : ℕ) (x : List ℕ) → t ≤ moment a → left_since c t x → left_since a t x ⊎ may_leave c x =
        λ t x early now. before_or (same.no_other t x) (time.nothing_else t x (omega (arith, at_b)) now) in
        record {
          later = omega (arith, later, at_b);
          nothing_else = none_else;
          keeps = λ t x early was. time.keeps t x (omega (arith, at_b)) (same.no_fewer t x was);
        }
