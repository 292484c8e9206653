-- A condition that is noted is right, whatever else is under way.
use Rattle.std.proofs.Common.{◌≡◌, ◌≢◌, ℕ, zero, suc, ◌+◌, ◌<◌, ◌≤◌, List, [], ◌∷◌, ◌++◌, length, Bool, true, false, ◌||◌, Option, Some, None, refl, sym, ap, subst, ◌∙◌, true≢false, arith}
use Rattle.std.specs.Prelude.{cond, option_map, is_some, IsSome}
use Rattle.std.specs.Str.{bytes_eq}
use Rattle.std.proofs.lemmas.Slice.Eq.{bytes_eq-Decides}
use Rattle.cf_tree.specs.Keys.{value_at, put}
use Rattle.cf_tree.specs.Lists.{is_among}
use Rattle.cf_tree.specs.Tests.{Test}
use Rattle.cf_tree.proofs.Lookups.{put_here, put_else}
use Rattle.cf_tree.specs.declared.bound.Verdict.{Verdict}
use Rattle.cf_tree.specs.declared.bound.Verdict.TheVariants as verdict
use Rattle.cf_eval.specs.declared.fault.EvalWhy.TheVariants.{UnknownName, CircularCondition}
use Rattle.cf_eval.specs.Outcome.{Outcome, Stop, fault, below, undecided, got, later, bad, on_got}
use Rattle.cf_eval.specs.Scope.{Scope, decided_at}
use Rattle.cf_eval.specs.Scope.{verdict_among, verdict_of}
use Rattle.cf_eval.specs.Functions.{or_fault}
use Rattle.cf_eval.specs.Conditions.{test_found, condition_found, decided_by}
use Rattle.cf_eval.specs.Gives.{part_of, Stops}
use Rattle.cf_eval.specs.declared.fault.Stop as broken
use Rattle.cf_eval.specs.declared.fault.Stop.TheVariants as stop
use Rattle.cf_eval.specs.declared.fault.EvalWhy.{EvalWhy}
use Rattle.cf_eval.specs.Deciding.{left_of, open_of, Apart, AreNotedRight, IsDecided, IsNoted, Extends}
use Rattle.cf_eval.proofs.Agreeing.{Agrees, Asks, asks_test, test_agrees}

-- one more name that is under way
or_first : (a b : Bool) → a ≡ true → (a || b) ≡ true
or_first true b h = refl
or_first false b h = absurd (true≢false (sym h))

or_second : (a b : Bool) → b ≡ true → (a || b) ≡ true
or_second true b h = refl
or_second false b h = h

either : (a b : Bool) (P : Type 0) → (a || b) ≡ true → (a ≡ true → P) → (b ≡ true → P) → P
either true b P h f g = f refl
either false b P h f g = g h

pub entered : (m n : List ℕ) (under : List (List ℕ)) → is_among m (under ++ n ∷ []) ≡ (is_among m under || bytes_eq m n)
entered m n [] = or_false (bytes_eq m n) where
  or_false : (b : Bool) → (b || false) ≡ b
  or_false true = refl
  or_false false = refl
entered m n (u ∷ us) = ap (λ b. bytes_eq m u || b) (entered m n us) ∙ sym (or_assoc (bytes_eq m u) (is_among m us) (bytes_eq m n)) where
  or_assoc : (a b c : Bool) → ((a || b) || c) ≡ (a || (b || c))
  or_assoc true b c = refl
  or_assoc false b c = refl

-- fewer are left once a condition is entered
branch : (b : Bool) (m n : ℕ) → ℕ
branch b m n = cond b m n

no_more : (b c : Bool) (m n : ℕ) → (b ≡ true → c ≡ true) → m ≤ n → cond c m (suc m) ≤ cond b n (suc n)
no_more true c m n h l = subst (λ d. cond d m (suc m) ≤ n) (sym (h refl)) l
no_more false true m n h l = omega arith
no_more false false m n h l = omega arith

stays_entered : (m n : List ℕ) (under : List (List ℕ)) → is_among m under ≡ true → is_among m (under ++ n ∷ []) ≡ true
stays_entered m n under h = entered m n under ∙ or_first _ _ h

fewer_left : (n : List ℕ) (under : List (List ℕ)) (cs : List (List ℕ × Test)) → left_of (under ++ n ∷ []) cs ≤ left_of under cs
fewer_left n under [] = omega arith
fewer_left n under (c ∷ cs) = no_more (is_among c.0 under) (is_among c.0 (under ++ n ∷ [])) _ _ (stays_entered c.0 n under) (fewer_left n under cs)

one_less_by : (n : List ℕ) (under : List (List ℕ)) (c : List ℕ × Test) (cs : List (List ℕ × Test)) (b : Bool) → bytes_eq n c.0 ≡ b → is_among n under ≡ false → (b ≡ false → left_of (under ++ n ∷ []) cs < left_of under cs)
    → left_of (under ++ n ∷ []) (c ∷ cs) < left_of under (c ∷ cs)
one_less_by n under c cs true e out less =
    let same : n ≡ c.0 = (bytes_eq-Decides n c.0).0 e in
    let before : is_among c.0 under ≡ false = subst (λ m. is_among m under ≡ false) same out in
    let after : is_among c.0 (under ++ n ∷ []) ≡ true = entered c.0 n under ∙ or_second (is_among c.0 under) _ ((bytes_eq-Decides c.0 n).1 (sym same)) in
    let fewer = fewer_left n under cs in
    rw (before, after) (omega arith)
one_less_by n under c cs false e out less = step (is_among c.0 under) (is_among c.0 (under ++ n ∷ [])) (stays_entered c.0 n under) (less refl) where
  step : (b d : Bool) → (b ≡ true → d ≡ true) → left_of (under ++ n ∷ []) cs < left_of under cs → cond d (left_of (under ++ n ∷ []) cs) (suc (left_of (under ++ n ∷ []) cs)) < cond b (left_of under cs) (suc (left_of under cs))
  step true d h l = subst (λ f. cond f (left_of (under ++ n ∷ []) cs) (suc (left_of (under ++ n ∷ []) cs)) < left_of under cs) (sym (h refl)) l
  step false true h l = omega arith
  step false false h l = omega arith

declared_after : (n : List ℕ) (c : List ℕ × Test) (cs : List (List ℕ × Test)) (d : Test) → bytes_eq n c.0 ≡ false → value_at n (c ∷ cs) ≡ Some d → value_at n cs ≡ Some d
declared_after n c cs d e h = rw e at h

pub one_less : (n : List ℕ) (under : List (List ℕ)) (cs : List (List ℕ × Test)) (d : Test) → value_at n cs ≡ Some d → is_among n under ≡ false → left_of (under ++ n ∷ []) cs < left_of under cs
one_less n under [] d h out = let no : ⊥ = cc in absurd no
one_less n under (c ∷ cs) d h out = one_less_by n under c cs (bytes_eq n c.0) refl out (λ e. one_less n under cs d (declared_after n c cs d e h) out)

pub all_left : (cs : List (List ℕ × Test)) → left_of [] cs ≡ length cs
all_left [] = refl
all_left (c ∷ cs) = ap suc (all_left cs)

-- over what is noted, and over all
module _ (s : Scope) (conds : List (List ℕ × Test)) (done : List (List ℕ × Verdict)) (right : AreNotedRight s conds done) where
  agree_at : (left : ℕ) (under : List (List ℕ)) (at name : List ℕ) → Apart under done → left_of under conds ≤ left → (o : Option Verdict) → value_at name done ≡ o
      → Agrees (condition_found left s conds under) (decided_at at name (option_map verdict_of o)) (condition_found left s conds under at name)
  agree_at left under at name apart enough (Some verdict.True) e = right name _ e left under at apart enough
  agree_at left under at name apart enough (Some verdict.False) e = right name _ e left under at apart enough
  agree_at left under at name apart enough (Some verdict.Later) e = right name _ e left under at apart enough
  agree_at left under at name apart enough None e = λ w h. h

  pub looked_at : (left : ℕ) (under : List (List ℕ)) (c : Test) → Apart under done → left_of under conds ≤ left
      → Agrees (condition_found left s conds under) (test_found (decided_by (verdict_among done) s) None c) (test_found (decided_by (condition_found left s conds under) s) None c)
  looked_at left under c apart enough =
      test_agrees (condition_found left s conds under) (verdict_among done) s (λ at name. agree_at left under at name apart enough (value_at name done) refl) None c

-- what the code reads off a condition that it looked at
module _ (s : Scope) (conds : List (List ℕ × Test)) where
  plain_part : (g : List ℕ → List ℕ → Outcome Bool) (v : Verdict) (x y : Outcome Bool) → x ≡ part_of (verdict_of v) → Agrees g x y → y ≡ part_of (verdict_of v)
  plain_part g verdict.True x y e a = let b : Agrees g (got true) y = subst (λ z. Agrees g z y) e a in b
  plain_part g verdict.False x y e a = let b : Agrees g (got false) y = subst (λ z. Agrees g z y) e a in b
  plain_part g verdict.Later x y e a = let b : Agrees g later y = subst (λ z. Agrees g z y) e a in b

  some_no : (v : Verdict) (o : Option Verdict) → o ≡ Some v → o ≡ None → ⊥
  some_no v o h k = cc

  declared : (left : ℕ) (under : List (List ℕ)) (at name : List ℕ) (c : Test) → is_among name under ≡ false → value_at name conds ≡ Some c
      → condition_found (suc left) s conds under at name ≡ test_found (decided_by (condition_found left s conds (under ++ name ∷ [])) s) None c
  declared left under at name c out h = rw (out, h) refl

  -- one condition more is noted
  noted_one : (done : List (List ℕ × Verdict)) (name : List ℕ) (v : Verdict) (c : Test) → AreNotedRight s conds done → value_at name done ≡ None → value_at name conds ≡ Some c
      → test_found (decided_by (verdict_among done) s) None c ≡ part_of (verdict_of v)
      → (left : ℕ) (under : List (List ℕ)) (at : List ℕ) → Apart under (put name v done) → left_of under conds ≤ left → condition_found left s conds under at name ≡ part_of (verdict_of v)
  noted_one done name v c right fresh is verdict left under at apart enough =
      by_left left enough where
        out_by : (b : Bool) → is_among name under ≡ b → b ≡ false
        out_by true e = absurd (some_no v (value_at name (put name v done)) (put_here name v done) (apart name e))
        out_by false e = refl

        out : is_among name under ≡ false
        out = out_by (is_among name under) refl

        older : (m : List ℕ) (b : Bool) → bytes_eq m name ≡ b → is_among m under ≡ true → value_at m done ≡ None
        older m true e h = subst (λ k. value_at k done ≡ None) (sym ((bytes_eq-Decides m name).0 e)) fresh
        older m false e h = sym (put_else m name v done e) ∙ apart m h

        apart_now : Apart (under ++ name ∷ []) done
        apart_now m h = either (is_among m under) (bytes_eq m name) (value_at m done ≡ None) (sym (entered m name under) ∙ h) (older m (bytes_eq m name) refl)
            (λ e. subst (λ k. value_at k done ≡ None) (sym ((bytes_eq-Decides m name).0 e)) fresh)

        less : left_of (under ++ name ∷ []) conds < left_of under conds
        less = one_less name under conds c is out

        by_left : (l : ℕ) → left_of under conds ≤ l → condition_found l s conds under at name ≡ part_of (verdict_of v)
        by_left zero g = absurd (omega (arith, less))
        by_left (suc l) g =
            declared l under at name c out is
            ∙ plain_part (condition_found l s conds (under ++ name ∷ [])) v _ _ verdict (looked_at s conds done right l (under ++ name ∷ []) c apart_now (omega (arith, less)))

  pub right_put : (done : List (List ℕ × Verdict)) (name : List ℕ) (v : Verdict) (c : Test) → AreNotedRight s conds done → value_at name done ≡ None → value_at name conds ≡ Some c
      → test_found (decided_by (verdict_among done) s) None c ≡ part_of (verdict_of v) → AreNotedRight s conds (put name v done)
  right_put done name v c right fresh is verdict m w h left under at apart enough = by_name (bytes_eq m name) refl where
    by_name : (b : Bool) → bytes_eq m name ≡ b → condition_found left s conds under at m ≡ part_of (verdict_of w)
    by_name true e =
        let same : m ≡ name = (bytes_eq-Decides m name).0 e in
        let value : value_at name (put name v done) ≡ Some w = subst (λ k. value_at k (put name v done) ≡ Some w) same h in
        let vw : v ≡ w = cc (put_here name v done) in
        subst (λ k. condition_found left s conds under at k ≡ part_of (verdict_of w)) (sym same)
        (subst (λ x. condition_found left s conds under at name ≡ part_of (verdict_of x)) vw (noted_one done name v c right fresh is verdict left under at apart enough))
    by_name false e = right m w (sym (put_else m name v done e) ∙ h) left under at older enough where
      older : Apart under done
      older k g = by_key (bytes_eq k name) refl where
        by_key : (b : Bool) → bytes_eq k name ≡ b → value_at k done ≡ None
        by_key true i = subst (λ l. value_at l done ≡ None) (sym ((bytes_eq-Decides k name).0 i)) fresh
        by_key false i = sym (put_else k name v done i) ∙ apart k g

  pub extends_put : (old done : List (List ℕ × Verdict)) (name : List ℕ) (v : Verdict) → Extends old done → value_at name done ≡ None → Extends old (put name v done)
  extends_put old done name v ext fresh m w h = by_name (bytes_eq m name) refl where
    by_name : (b : Bool) → bytes_eq m name ≡ b → value_at m (put name v done) ≡ Some w
    by_name true e = absurd (some_no w (value_at m done) (ext m w h) (subst (λ k. value_at k done ≡ None) (sym ((bytes_eq-Decides m name).0 e)) fresh))
    by_name false e = put_else m name v done e ∙ ext m w h

  pub apart_put : (under : List (List ℕ)) (done : List (List ℕ × Verdict)) (name : List ℕ) (v : Verdict) → Apart under done → is_among name under ≡ false → Apart under (put name v done)
  apart_put under done name v apart out m h = by_name (bytes_eq m name) refl where
    by_name : (b : Bool) → bytes_eq m name ≡ b → value_at m (put name v done) ≡ None
    by_name true e = absurd (true≢false (sym h ∙ ap (λ k. is_among k under) ((bytes_eq-Decides m name).0 e) ∙ out))
    by_name false e = put_else m name v done e ∙ apart m h

  pub apart_enter : (under : List (List ℕ)) (done : List (List ℕ × Verdict)) (name : List ℕ) → Apart under done → value_at name done ≡ None → Apart (under ++ name ∷ []) done
  apart_enter under done name apart fresh m h =
      either (is_among m under) (bytes_eq m name) (value_at m done ≡ None) (sym (entered m name under) ∙ h) (apart m)
      (λ e. subst (λ k. value_at k done ≡ None) (sym ((bytes_eq-Decides m name).0 e)) fresh)

  pub apart_leave : (under : List (List ℕ)) (done : List (List ℕ × Verdict)) (name : List ℕ) → Apart (under ++ name ∷ []) done → Apart under done
  apart_leave under done name apart m h = apart m (stays_entered m name under h)

  pub entered_fresh : (under : List (List ℕ)) (done : List (List ℕ × Verdict)) (name : List ℕ) → Apart (under ++ name ∷ []) done → value_at name done ≡ None
  entered_fresh under done name apart = apart name (entered name name under ∙ or_second (is_among name under) _ ((bytes_eq-Decides name name).1 refl))

  pub right_nothing : AreNotedRight s conds []
  right_nothing m v h = let no : ⊥ = cc in absurd no

-- a condition that is asked for is not decided
asked_at : (done : List (List ℕ × Verdict)) (at name : List ℕ) (o : Option Verdict) → value_at name done ≡ o → Asks (λ place m. value_at m done ≡ None) (decided_at at name (option_map verdict_of o))
asked_at done at name (Some verdict.True) e = tt
asked_at done at name (Some verdict.False) e = tt
asked_at done at name (Some verdict.Later) e = tt
asked_at done at name None e = e

pub asked_fresh : (s : Scope) (done : List (List ℕ × Verdict)) (c : Test) (name at : List ℕ) → test_found (decided_by (verdict_among done) s) None c ≡ bad (undecided name at) → value_at name done ≡ None
asked_fresh s done c name at e =
    let open' : Asks (λ place m. value_at m done ≡ None) (test_found (decided_by (verdict_among done) s) None c) =
    asks_test (λ place m. value_at m done ≡ None) (decided_by (verdict_among done) s) (λ place m. asked_at done place m (value_at m done) refl) None c in
    let open'' : Asks (λ place m. value_at m done ≡ None) {A = Bool} (bad (undecided name at)) = subst (Asks (λ place m. value_at m done ≡ None) {A = Bool}) e open' in
    open''

-- each condition that is decided leaves fewer
fewer_open_by : (b c : Bool) (m n : ℕ) → (b ≡ true → c ≡ true) → m ≤ n → cond c m (suc m) ≤ cond b n (suc n)
fewer_open_by b c m n h l = no_more b c m n h l

still_there : (old new : List (List ℕ × Verdict)) (m : List ℕ) → Extends old new → (o : Option Verdict) → value_at m old ≡ o → is_some o ≡ true → is_some (value_at m new) ≡ true
still_there old new m ext (Some v) e h = ap is_some (ext m v e)
still_there old new m ext None e h = absurd (true≢false (sym h))

open_stays : (old new : List (List ℕ × Verdict)) (cs : List (List ℕ × Test)) → Extends old new → open_of new cs ≤ open_of old cs
open_stays old new [] ext = omega arith
open_stays old new (c ∷ cs) ext = no_more (is_some (value_at c.0 old)) (is_some (value_at c.0 new)) _ _ (still_there old new c.0 ext (value_at c.0 old) refl) (open_stays old new cs ext)

open_less_by : (old new : List (List ℕ × Verdict)) (name : List ℕ) (v : Verdict) (c : List ℕ × Test) (cs : List (List ℕ × Test)) → Extends old new → value_at name old ≡ None → value_at name new ≡ Some v
    → (b : Bool) → bytes_eq name c.0 ≡ b → (b ≡ false → open_of new cs < open_of old cs) → open_of new (c ∷ cs) < open_of old (c ∷ cs)
open_less_by old new name v c cs ext fresh noted true e less =
    let same : name ≡ c.0 = (bytes_eq-Decides name c.0).0 e in
    let before : value_at c.0 old ≡ None = subst (λ m. value_at m old ≡ None) same fresh in
    let after : value_at c.0 new ≡ Some v = subst (λ m. value_at m new ≡ Some v) same noted in
    let fewer = open_stays old new cs ext in
    rw (before, after) (omega arith)
open_less_by old new name v c cs ext fresh noted false e less =
    step (is_some (value_at c.0 old)) (is_some (value_at c.0 new)) (still_there old new c.0 ext (value_at c.0 old) refl) (less refl) where
      step : (b d : Bool) → (b ≡ true → d ≡ true) → open_of new cs < open_of old cs → cond d (open_of new cs) (suc (open_of new cs)) < cond b (open_of old cs) (suc (open_of old cs))
      step true d h l = subst (λ f. cond f (open_of new cs) (suc (open_of new cs)) < open_of old cs) (sym (h refl)) l
      step false true h l = omega arith
      step false false h l = omega arith

pub open_less : (old new : List (List ℕ × Verdict)) (name : List ℕ) (v : Verdict) (cs : List (List ℕ × Test)) → Extends old new → value_at name old ≡ None → value_at name new ≡ Some v → IsSome (value_at name cs) → open_of new cs < open_of old cs
open_less old new name v [] ext fresh noted h = absurd (true≢false (sym h))
open_less old new name v (c ∷ cs) ext fresh noted h =
    open_less_by old new name v c cs ext fresh noted (bytes_eq name c.0) refl (λ e. open_less old new name v cs ext fresh noted (subst (λ b. IsSome (cond b (Some c.1) (value_at name cs))) e h))

-- what the loop of `decide` keeps
pub record IsDeciding (s : Scope) (conds : List (List ℕ × Test)) (under : List (List ℕ)) (old now : List (List ℕ × Verdict)) : Type 0 where
  pub right : AreNotedRight s conds now
  pub apart : Apart under now
  pub extends : Extends old now

pub extends_itself : (done : List (List ℕ × Verdict)) → Extends done done
extends_itself done m v h = h

pub extends_further : (a b c : List (List ℕ × Verdict)) → Extends a b → Extends b c → Extends a c
extends_further a b c f g m v h = g m v (f m v h)

-- what the calls that decide conditions answer
pub stop_asked : (g : List ℕ → List ℕ → Outcome Bool) (x y : Outcome Bool) (name at : List ℕ) (s : broken.Stop) → x ≡ bad (undecided name at) → Agrees g x y → Stops (g at name) s → Stops y s
stop_asked g x y name at (stop.Bad why place) e a h = let b : Agrees g {A = Bool} (bad (undecided name at)) y = subst (λ z. Agrees g z y) e a in b (fault why place) h
stop_asked g x y name at (stop.Below why stack place) e a h = let b : Agrees g {A = Bool} (bad (undecided name at)) y = subst (λ z. Agrees g z y) e a in b (below why stack place) h
stop_asked g x y name at (stop.Undecided n place) e a h = let b : Agrees g {A = Bool} (bad (undecided name at)) y = subst (λ z. Agrees g z y) e a in b (undecided n place) h
stop_asked g x y name at stop.NoMemory e a h = tt

pub stop_bad : (g : List ℕ → List ℕ → Outcome Bool) (x y : Outcome Bool) (why : EvalWhy) (at : List ℕ) → x ≡ bad (fault why at) → Agrees g x y → y ≡ bad (fault why at)
stop_bad g x y why at e a = let b : Agrees g {A = Bool} (bad (fault why at)) y = subst (λ z. Agrees g z y) e a in b

pub stop_below : (g : List ℕ → List ℕ → Outcome Bool) (x y : Outcome Bool) (why : EvalWhy) (stack at : List ℕ) → x ≡ bad (below why stack at) → Agrees g x y → y ≡ bad (below why stack at)
stop_below g x y why stack at e a = let b : Agrees g {A = Bool} (bad (below why stack at)) y = subst (λ z. Agrees g z y) e a in b

pub noted_all : (s : Scope) (conds : List (List ℕ × Test)) (under : List (List ℕ)) (old done : List (List ℕ × Verdict)) (name : List ℕ) (v : Verdict) (c : Test) → IsDecided s conds (under ++ name ∷ []) old done c v → value_at name conds ≡ Some c → is_among name under ≡ false
    → IsNoted s conds under old (put name v done) name v
noted_all s conds under old done name v c settled is out =
    let fresh = entered_fresh s conds under done name settled.apart in
    record {
      right = right_put s conds done name v c settled.right fresh is settled.verdict;
      extends = extends_put s conds old done name v settled.extends fresh;
      apart = apart_put s conds under done name v (apart_leave s conds under done name settled.apart) out;
      noted = put_here name v done;
      declared = ap is_some is;
    }

pub one_at_least : (under : List (List ℕ)) (conds : List (List ℕ × Test)) (name : List ℕ) (c : Test) (left : ℕ) → value_at name conds ≡ Some c → is_among name under ≡ false → left_of under conds ≤ left → left_of (under ++ name ∷ []) conds + 1 ≤ left
one_at_least under conds name c left is out enough = omega (arith, one_less name under conds c is out)

pub descended : (s : Scope) (conds : List (List ℕ × Test)) (under : List (List ℕ)) (name : List ℕ) (c : Test) (l left : ℕ) (w : broken.Stop) → left ≡ suc l → value_at name conds ≡ Some c → is_among name under ≡ false
    → Stops (test_found (decided_by (condition_found l s conds (under ++ name ∷ [])) s) None c) w → (at : List ℕ) → Stops (condition_found left s conds under at name) w
descended s conds under name c l left w e is out h at =
    subst (λ n. Stops (condition_found n s conds under at name) w) (sym e) (subst (λ o. Stops o w) (sym (declared s conds l under at name c out is)) h)

pub pushed : {new : List (List ℕ)} (old : List (List ℕ)) {a b : List ℕ} → new ≡ old ++ a ∷ [] → a ≡ b → new ≡ old ++ b ∷ []
pushed old e h = e ∙ ap (λ x. old ++ x ∷ []) h
