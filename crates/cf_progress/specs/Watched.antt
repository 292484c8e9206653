-- The lane that a watched one passes on to (this project's own).
use Rattle.cf_progress.specs.declared.watched.Watched.{Watched}

abbrev pub within : {R H : Type 0} → Watched R H → H
within w = w.lane
