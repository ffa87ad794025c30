-- `stepper_slot::is_ok` meets its contract. Assumes nothing.
use native.Mathlib.Omega.{arith}
use Rattle.stepper_slot_rules.proofs.Tested.{ok_is}
use Rattle.stepper_slot.proofs.is_ok.Goals as goal

pub returns-then-is_front_ok : goal.returns-then-is_front_ok
returns-then-is_front_ok c = rw (← ok_is c.args.s.now (λ i. omega (arith, c.type_inv.s i)) c.is_front_ok.ensures, c.if-is_front_ok.true) c.is_run_ok.ensures

pub returns-else-is_front_ok : goal.returns-else-is_front_ok
returns-else-is_front_ok c = rw (← ok_is c.args.s.now (λ i. omega (arith, c.type_inv.s i)) c.is_front_ok.ensures, c.if-is_front_ok.false)
