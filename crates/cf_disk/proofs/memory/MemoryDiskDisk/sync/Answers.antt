use Rattle.std.proofs.Common.{rules, ◌≡◌, ◌∷◌, sym, subst, List, ℕ, reverse}
use Rattle.cf_disk.specs.Calls.{seen_after, left_after}
use Rattle.cf_disk.specs.Stays.{seen_left}
use Rattle.cf_disk.specs.declared.step.Step.{Step}
use Rattle.cf_disk.specs.declared.step.Step.TheVariants.{Sync}
use Rattle.cf_disk.proofs.memory.MemoryDiskDisk.sync.Goals as goal

pub returns-clause-crash : goal.returns-clause-crash
returns-clause-crash c told f left =
    let m = c.args.self.now in
    let calls : reverse c.note.new.calls.items ≡ Sync ∷ reverse m.calls.items = search rules in
    let is : f ≡ seen_after m.first.items (reverse m.calls.items) m.log.items = subst (λ (cs : List Step). left_after m.first.items cs m.log.items f) calls left in
    subst (λ (g : List ℕ). left_after m.first.items (reverse m.calls.items) m.log.items g) (sym is) (seen_left m.first.items (reverse m.calls.items) m.log.items m.possible)
