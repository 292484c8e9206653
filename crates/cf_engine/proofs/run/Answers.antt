use Rattle.std.proofs.Common.{◌≡◌, ◌∷◌, ◌-◌, ◌∙◌, List, ℕ, Result, Ok, drop, take, length, subst, sym, ap, arith}
use Rattle.std.proofs.Math.Seq.{take-length}
use Rattle.cf_disk.specs.declared.disk.Disk.{Ghosts as DiskGhosts}
use Rattle.cf_handler.specs.declared.handler.Handler.{Ghosts as HandlerGhosts}
use Rattle.cf_face.specs.declared.exit.Exit.{Exit}
use Rattle.cf_top.specs.Refusals.{LibraryUse}
use Rattle.cf_top.specs.Outside.{Printing}
use Rattle.cf_top.specs.declared.top.Ended.{Ended}
use Rattle.cf_engine.specs.Program.{RunsAs}
use Rattle.cf_engine.proofs.run.Goals as goal

-- the words after the first two
after_two :
    (words : List (List ℕ)) (home workers : List ℕ) (rest : List (List ℕ)) → words ≡ home ∷ workers ∷ rest
    → take (length words - 2) (drop 2 words) ≡ rest
after_two words home workers rest e =
    let n : length (home ∷ workers ∷ rest) - 2 ≡ length rest = omega arith in
    subst (λ (ws : List (List ℕ)). take (length ws - 2) (drop 2 ws) ≡ rest) (sym e)
    (ap (λ (k : ℕ). take k rest) n ∙ take-length rest)

runs_rest :
    {D H : Type 0} (g : DiskGhosts D) (h : HandlerGhosts H) (o : LibraryUse) (p : Printing) (disk : D) (handlers : List H)
    (words : List (List ℕ)) (home workers : List ℕ) (rest : List (List ℕ)) (result : Result (Ended D H) Exit)
    → words ≡ home ∷ workers ∷ rest → RunsAs g h o p disk handlers (take (length words - 2) (drop 2 words)) result
    → RunsAs g h o p disk handlers rest result
runs_rest g h o p disk handlers words home workers rest result e runs =
    subst (λ (ws : List (List ℕ)). RunsAs g h o p disk handlers ws result) (after_two words home workers rest e) runs

pub returns-in-Some-clause-runs : goal.returns-in-Some-clause-runs
returns-in-Some-clause-runs g c home workers rest e f =
    runs_rest g.D.Disk g.H.Handler (record {
      texts = g.L.Library.texts c.args.library.now;
      faults = g.L.Library.count c.args.library.now;
      faults' = g.L.Library.count c.run_on.new.library;
      misses = g.L.Library.missed c.args.library.now;
      misses' = g.L.Library.missed c.run_on.new.library;
    }) (record {
      held = g.K.Sink.held c.args.out.now;
      held' = g.K.Sink.held c.run_on.new.out;
      faults = g.K.Sink.count c.args.out.now;
      faults' = g.K.Sink.count c.run_on.new.out;
    }) c.args.disk c.args.lanes.items c.args.words.now home workers rest (Ok c.run_on.result) e c.run_on.ensures.runs
