-- Some lines as they are printed, computed. Assumes nothing.
use mathlib.Core.Path.{refl}
use Rattle.base_text.specs.Digits.{decimal}
use Rattle.replay_print.specs.Text.{line, bad_line}
use Rattle.replay_print.specs.Promises.{Examples}

pub examples : Examples
unfolding decimal line bad_line
examples = (refl, refl, refl, refl)
