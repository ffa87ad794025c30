-- `servo_slot_list::is_ok` meets its contract. Assumes nothing.
use Rattle.std.proofs.Common.{◌≡◌, true, ◌&&◌, ℕ, List, sym, ◌∙◌, arith, slice_index_or}
use Rattle.servo_motion.specs.Profile.{Ranged}
use Rattle.servo_slot_rules.specs.List.{sound_at}
use Rattle.servo_slot_rules.specs.Slot.{power_at, ok_of}
use Rattle.servo_slot_rules.proofs.Tested.{ok_is, unfit_in, ranged_in}
use Rattle.servo_slot_list.proofs.is_ok.Goals as goal
use Rattle.servo_slot_list.proofs.is_ok.Goals.{After-is_run_ok}

-- what is known when all but the last test is made
module _ (c : After-is_run_ok) where
  abbrev slot : List ℕ
  slot = c.args.s.now

  tests : ok_of slot ≡ (c.is_run_ok.result && sound_at (slice_index_or slot power_at 0) c.run_in-run.result)
  tests = ok_is slot c.rates_in-rates.ensures c.run_in-run.ensures
      c.is_front_ok-front.ensures c.is_load_ok-load.ensures c.is_run_ok.ensures
      (sym c.does_homing_fit.ensures ∙ c.if-not-does_homing_fit.false)

  ranged : c.is_run_ok.result ≡ true → Ranged c.run_in-run.result.profile
  ranged = ranged_in slot c.rates_in-rates.ensures c.run_in-run.ensures
      c.is_front_ok-front.ensures c.is_load_ok-load.ensures c.is_run_ok.ensures
      (λ i. omega (arith, c.type_inv.s i))

pub returns-then-not-does_homing_fit : goal.returns-then-not-does_homing_fit
returns-then-not-does_homing_fit c = sym (unfit_in c.args.s.now (sym c.does_homing_fit.ensures ∙ c.if-not-does_homing_fit.true))

pub is_sound-requires : goal.is_sound-requires
is_sound-requires c = ranged (goal.at.is_sound-requires c).After-is_run_ok c.if-is_run_ok.true

pub returns-then-is_run_ok : goal.returns-then-is_run_ok
returns-then-is_run_ok c = rw (tests (goal.at.returns-then-is_run_ok c).After-is_run_ok, c.if-is_run_ok.true) c.is_sound.ensures

pub returns-else-is_run_ok : goal.returns-else-is_run_ok
returns-else-is_run_ok c = rw (tests (goal.at.returns-else-is_run_ok c).After-is_run_ok, c.if-is_run_ok.false)
