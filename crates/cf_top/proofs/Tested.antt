-- What a refusal that was told comes to.
use Rattle.std.proofs.Common.{◌≡◌, ◌⊎◌, inl, inr, refl, ap}
use Rattle.cf_face.specs.declared.exit.Exit.{Exit}
use Rattle.cf_face.specs.declared.exit.Exit.TheVariants as exit
use Rattle.cf_face.specs.declared.exit.Refusal.{Refusal}
use Rattle.cf_top.specs.Refusals.{RefusesTemplate}

-- what is refused so is told, or memory is short
pub told_or_short : (f : Refusal) (e : Exit) → RefusesTemplate f e → (e ≡ exit.TemplateRefused f) ⊎ (e ≡ exit.NoMemory)
told_or_short f (exit.TemplateRefused fault) r = inl (ap exit.TemplateRefused r)
told_or_short f exit.NoMemory r = inr refl
told_or_short f exit.Done r = absurd r
told_or_short f exit.BadWords r = absurd r
told_or_short f (exit.StackRefused fault) r = absurd r
told_or_short f (exit.RolledBack cause) r = absurd r
told_or_short f (exit.Failed blamed) r = absurd r
told_or_short f exit.LibraryFault r = absurd r
told_or_short f exit.DiskFault r = absurd r
told_or_short f exit.SinkFault r = absurd r
told_or_short f (exit.NotAJournal offset) r = absurd r
told_or_short f (exit.LaneMissing lane) r = absurd r
told_or_short f (exit.LaneTwice lane) r = absurd r
told_or_short f (exit.LaneAhead lane fence epoch) r = absurd r
told_or_short f (exit.LaneFault lane) r = absurd r
told_or_short f (exit.Full long need room) r = absurd r
