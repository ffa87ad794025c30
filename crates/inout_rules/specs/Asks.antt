-- What a frame asks of an I/O module (document 01, "I/O module").
use Rattle.std.specs.Prelude.{ℕ, List, true, cond, get_or, eqb}
use Rattle.module_rules.specs.Rules.{Meaning, unknown, takes}
use Rattle.inout_rules.specs.declared.Command.{Command}
use Rattle.inout_rules.specs.declared.Command.TheVariants.{Direction, Pwm, SynchOutput, Output, SynchStore, Timer, SynchInput}
use Rattle.inout_rules.specs.Pins.{bits_of}

-- the type's own codes: 0 Set Direction (2), 4 Set PWM (2), 5 Synch Output (0), 6 Set Output (2), 7 Set Synch Output (4),
-- 8 Set Timer Mode (1), 12 Synch Input (0); every value is good; any other code is unknown
unfoldable pub own : ℕ → List ℕ → Meaning Command
own code ds =
    cond (eqb code 0) (takes 2 true (Direction (bits_of (get_or ds 0 0) (get_or ds 1 0))))
    (cond (eqb code 4) (takes 2 true (Pwm (get_or ds 0 0) (get_or ds 1 0)))
    (cond (eqb code 5) (takes 0 true SynchOutput)
    (cond (eqb code 6) (takes 2 true (Output (bits_of (get_or ds 0 0) (get_or ds 1 0))))
    (cond (eqb code 7) (takes 4 true (SynchStore (bits_of (get_or ds 0 0) (get_or ds 1 0)) (get_or ds 2 0) (get_or ds 3 0)))
    (cond (eqb code 8) (takes 1 true (Timer (get_or ds 0 0)))
    (cond (eqb code 12) (takes 0 true SynchInput)
    unknown))))))
