-- `doljurven::nmc_read_status` meets its contract. Assumes nothing.
use Rattle.std.proofs.Common.{ap, ◌∙◌}
use Rattle.host_rules.specs.Reading.{Answered}
use Rattle.api_rules.specs.Calls.{reading_bytes}
use Rattle.doljurven.proofs.nmc_read_status.Goals as goal
use Rattle.doljurven.proofs.nmc_read_status.Goals.{in-Ok, in-Err}

pub returns-clause-reading_after : goal.returns-clause-reading_after
unfolding reading_bytes
returns-clause-reading_after c =
    elim c.match-read.branch [
      | in-Ok w ↦ w.reading-is ∙ w.reading_bytes.ensures ∙ ap (λ (x : Answered). reading_bytes x.reading) w.in-Ok.ensures
      | in-Err w ↦ w.reading-is ∙ ap (λ (x : Answered). reading_bytes x.reading) w.in-Err.ensures
    ]
