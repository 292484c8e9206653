-- What an entry leaves of the operations that are in progress, and that each is of one stack.
use Rattle.std.proofs.Common.{◌≡◌, ℕ, ◌+◌, ◌<◌, ◌==◌, Bool, true, false, ◌&&◌, List, [], ◌∷◌, Option, Some, None, find, refl, sym, ap, subst, ◌∙◌, cond, true≢false, unwrap_or, arith}
use Rattle.std.proofs.lemmas.Bool.{and_from, eq-eqb, eqb-true}
use Rattle.std.specs.Cmp.{first_so}
use Rattle.std.specs.Cmp.Lexicographic.{slice_cmp, texts_ties}
use Rattle.std.specs.Ordering.{nat_cmp, match_ordering}
use Rattle.std.specs.Prelude.{is_some}
use Rattle.std.specs.Str.{bytes_eq}
use Rattle.std.specs.declared.cmp.Ordering.{Ordering}
use Rattle.std.specs.declared.cmp.Ordering.TheVariants.{Less, Equal, Greater}
use Rattle.cf_tree.specs.Keys.{put, value_at}
use Rattle.cf_entry.proofs.Codec.{some_is}
use Rattle.cf_entry.specs.declared.entry.Begun.{Begun}
use Rattle.cf_entry.specs.declared.entry.Entry.{Entry}
use Rattle.cf_schema.specs.declared.described.Schema.{Schema}
use Rattle.cf_effect.specs.Fold.{effect_at, fold_of, is_opening, stack_for, world_after}
use Rattle.cf_effect.specs.Status.{is_in_progress}
use Rattle.cf_effect.specs.Words.{pending_of}
use Rattle.cf_effect.specs.World.{StackState, World, empty_world, is_going, no_stack, stack_at, stack_of_operation}
use Rattle.cf_stacks.specs.Apart.{AreApart}
use Rattle.cf_stacks.proofs.Worlds.{found_stands}
use Rattle.cf_plan.proofs.Frame.{find_put, found_passes, own_framed}
use Rattle.cf_plan.proofs.Going.{IsLike, end_operation, like_intended, like_kept, like_replied}
use Rattle.cf_plan.proofs.Members.{false_from}
use Rattle.cf_plan.proofs.RunLists.{is_found_in}
use Rattle.cf_plan.specs.Follow.{IsLegal}
use Rattle.cf_plan.specs.Run.{IsOwn}
use Rattle.cf_core.proofs.Each.{legal_all}
use Rattle.cf_core.proofs.FitKept.{after_stacks}
use Rattle.cf_core.proofs.KeepSound.{stands_in}
use Rattle.cf_core.proofs.Stacks.{known_for, put_by}
use Rattle.cf_core.specs.Written.{IsTo, begins, opened, other as elsewhere, reviewed, step}

-- where neither the one that is put in nor the one before it passes, the same is found
module _ (test : StackState → Bool) (name : List ℕ) (v : StackState) (fails : test v ≡ false) where
  abbrev passing : List ℕ × StackState → Bool
  passing p = test p.1

  pub find_else : (ps : List (List ℕ × StackState)) → ((s : StackState) → value_at name ps ≡ Some s → test s ≡ false)
      → find passing (put name v ps) ≡ find passing ps
  find_else [] h = ap (λ b. cond b (Some (name, v)) None) fails
  find_else (p ∷ ps) h = by (slice_cmp nat_cmp name p.0) refl (find_else ps)
    where
      by : (o : Ordering) → slice_cmp nat_cmp name p.0 ≡ o
          → (((s : StackState) → value_at name ps ≡ Some s → test s ≡ false) → find passing (put name v ps) ≡ find passing ps)
          → find passing (match_ordering o ((name, v) ∷ p ∷ ps) ((p.0, v) ∷ ps) (p ∷ put name v ps)) ≡ find passing (p ∷ ps)
      by Less is_o ih = ap (λ b. cond b (Some (name, v)) (find passing (p ∷ ps))) fails
      by Equal is_o ih =
          let same : bytes_eq name p.0 ≡ true = texts_ties name p.0 ∙ rw is_o refl in
          let was : test p.1 ≡ false = h p.1 (ap (λ b. cond b (Some p.1) (value_at name ps)) same) in
          ap (λ b. cond b (Some (p.0, v)) (find passing ps)) fails ∙ sym (ap (λ b. cond b (Some p) (find passing ps)) was)
      by Greater is_o ih =
          let other : bytes_eq name p.0 ≡ false = texts_ties name p.0 ∙ rw is_o refl in
          ap (λ o. cond (test p.1) (Some p) o) (ih (λ s e. h s (ap (λ b. cond b (Some p.1) (value_at name ps)) other ∙ e)))

module _ (x : World) (n : ℕ) (name : List ℕ) (s : StackState) (at : stack_of_operation n x ≡ Some (name, s)) (e : Entry) (own : IsOwn n e) where
  abbrev pub left : StackState
  left = (effect_at (x.place + 1) e s).stack

  on : is_going n s ≡ true
  on = found_passes (λ (p : List ℕ × StackState). is_going n p.1) x.stacks (name, s) at

  pub like_goes : IsLike s left → is_going n left ≡ true
  like_goes like =
      ap (λ m. m == n && is_in_progress left.status) like.operation ∙ ap (λ z. s.operation == n && is_in_progress z) like.status ∙ on

  -- the operation, where it goes on
  pub at_it : is_going n left ≡ true → stack_of_operation n (world_after x e) ≡ Some (name, left)
  at_it goes = ap (find (λ (p : List ℕ × StackState). is_going n p.1)) (own_framed n name x s at e own).stacks
      ∙ find_put (is_going n) name left goes x.stacks s at

  -- and every other one
  pub at_other : AreApart x → left.operation ≡ s.operation → (m : ℕ) → (m == n) ≡ false → stack_of_operation m (world_after x e) ≡ stack_of_operation m x
  at_other apart same m other =
      ap (find (λ (p : List ℕ × StackState). is_going m p.1)) (own_framed n name x s at e own).stacks
      ∙ find_else (is_going m) name left (fails left same) x.stacks (λ z f. fails z (ap (λ (u : StackState). u.operation) (is_it z f)))
    where
      is_it : (z : StackState) → value_at name x.stacks ≡ Some z → z ≡ s
      is_it z f = some_is _ _ (sym f ∙ found_stands (λ (p : List ℕ × StackState). is_going n p.1) x.stacks (name, s) apart.names at)

      fails : (z : StackState) → z.operation ≡ s.operation → is_going m z ≡ false
      fails z f =
          let mine : s.operation ≡ n = eqb-true s.operation n (first_so (s.operation == n) (is_in_progress s.status) on) in
          let no : (z.operation == m) ≡ false = false_from (z.operation == m) (λ t.
          true≢false (sym (eq-eqb m n (sym (eqb-true z.operation m t) ∙ f ∙ mine)) ∙ other)) in
          ap (λ b. b && is_in_progress z.status) no

-- an entry of the operation leaves its number
pub own_operation : (place n : ℕ) (e : Entry) → IsOwn n e → (s : StackState) → (effect_at place e s).stack.operation ≡ s.operation
own_operation place n (Entry.Kept m path physical w) own s = (like_kept path physical w s).operation
own_operation place n (Entry.Intent m token lane path r) own s = (like_intended m (record { token = token; path = path; lane = lane; request = r }) s).operation
own_operation place n (Entry.Outcome m token a before after) own s = (like_replied token a (pending_of token s) s).operation
own_operation place n (Entry.Phase m p c) own s = grind arith
own_operation place n (Entry.Done m state failed) own s = end_operation state s
own_operation place n e own s = absurd own

-- an entry of a stack whose operation is not in progress leaves every operation in progress where it is
pub at_idle : (x : World) → AreApart x → (e : Entry) → is_opening e ≡ false → (m : ℕ)
    → ((name : List ℕ) (s : StackState) → stack_for e x ≡ Some (name, s)
    → (is_in_progress s.status ≡ false) × (is_going m (effect_at (x.place + 1) e s).stack ≡ false))
    → stack_of_operation m (world_after x e) ≡ stack_of_operation m x
at_idle x apart e new m idle = ap (find going) (after_stacks x e new) ∙ by (stack_for e x) refl
  where
    going : List ℕ × StackState → Bool
    going p = is_going m p.1

    fails : (s : StackState) → is_in_progress s.status ≡ false → is_going m s ≡ false
    fails s rests = grind arith

    by : (o : Option (List ℕ × StackState)) → stack_for e x ≡ o → find going (put_by x e o) ≡ find going x.stacks
    by None f = refl
    by (Some (name, s)) f =
        let (rests, other) = idle name s f in
        find_else (is_going m) name (effect_at (x.place + 1) e s).stack other x.stacks (λ z g.
        fails z (ap (λ (u : StackState). is_in_progress u.status) (ap (λ o. unwrap_or o no_stack) (sym g) ∙ known_for x apart.names name s e f) ∙ rests))

-- the operation that begins has the number that it began with
pub begun_operation : (place number : ℕ) (name : List ℕ) (k : Begun) (s : StackState) → (effect_at place (Entry.Begin number name k) s).stack.operation ≡ number
begun_operation place number name k s = grind arith

-- In every journal in which each entry could follow those before it, an operation in progress has a number above 0.
abbrev IsNumbered : StackState → Type 0
IsNumbered s = is_in_progress s.status ≡ true → 0 < s.operation

numbered_to : (schemas : List Schema) (x : World) (out name : List ℕ) (s : StackState) {e : Entry} {t : StackState} → IsTo schemas x out name s e t
    → IsNumbered s → IsNumbered t
numbered_to schemas x out name s (step {e = e} stage at own may) h goes =
    subst (λ n. 0 < n) (sym (own_operation (x.place + 1) s.operation e own s)) (h (ap is_some at))
numbered_to schemas x out name s (begins k from by) h goes =
    subst (λ n. 0 < n) (sym (begun_operation (x.place + 1) (x.operation + 1) name k s)) (omega arith)
numbered_to schemas x out name s (reviewed number source rows outputs from) h goes = h (grind arith)
numbered_to schemas x out name s (opened epoch lanes) h goes = h goes
numbered_to schemas x out name s elsewhere h goes = h goes

pub legal_numbered : (schemas : List Schema) (es : List Entry) → IsLegal schemas empty_world es → (name : List ℕ) (s : StackState)
    → stack_at name (fold_of empty_world es) ≡ Some s → is_in_progress s.status ≡ true → 0 < s.operation
legal_numbered schemas es legal =
    legal_all schemas (λ ds name s. IsNumbered s) (λ ds name e. absurd (true≢false (sym e)))
    (λ ds e out name s t l apart known to h. numbered_to schemas (fold_of empty_world ds) out name s to h) es legal

-- One with a number above 0 is found by its number, where operations are apart. Without a number, which no legal journal has, another stack
-- might be found.
pub going_here : (x : World) (name : List ℕ) (s : StackState) → AreApart x → 0 < s.operation → stack_at name x ≡ Some s → is_in_progress s.status ≡ true
    → stack_of_operation s.operation x ≡ Some (name, s)
going_here x name s apart above at works =
    let going : List ℕ × StackState → Bool = λ p. is_going s.operation p.1 in
    let (p, f) = is_found_in going x.stacks (name, s) (stands_in name s x.stacks at) (and_from (s.operation == s.operation) (is_in_progress s.status) (eq-eqb s.operation s.operation refl) works) in
    let there : stack_at p.0 x ≡ Some p.1 = found_stands going x.stacks p apart.names f in
    let same : p.1.operation ≡ s.operation = eqb-true p.1.operation s.operation (first_so (p.1.operation == s.operation) (is_in_progress p.1.status) (found_passes going x.stacks p f)) in
    let named : p.0 ≡ name = apart.apart p.0 name p.1 s there at same (subst (λ n. 0 < n) (sym same) above) in
    let it : p.1 ≡ s = some_is _ _ (sym there ∙ ap (λ n. stack_at n x) named ∙ at) in
    f ∙ (λ i. Some (named i, it i))

pub found_going : (schemas : List Schema) (es : List Entry) → AreApart (fold_of empty_world es) → IsLegal schemas empty_world es → (name : List ℕ) (s : StackState)
    → stack_at name (fold_of empty_world es) ≡ Some s → is_in_progress s.status ≡ true
    → stack_of_operation s.operation (fold_of empty_world es) ≡ Some (name, s)
found_going schemas es apart legal name s at works =
    going_here (fold_of empty_world es) name s apart (legal_numbered schemas es legal name s at works) at works
