-- Whatever happens, a servo stays such as its slot can hold, and such that all its answers are defined. Assumes nothing.
use Prim.Native.Nat.{ℕ}
use Rattle.module_rules.proofs.Kept.{preserves}
use Rattle.servo_rules.specs.declared.Run.{Run}
use Rattle.servo_rules.specs.Tick.{Steady}
use Rattle.servo_rules.specs.Answers.{servo}
use Rattle.servo_slot_rules.specs.Slot.{sample, slots}
use Rattle.servo_slot_rules.specs.Promises.{Kept, Defined}
use Rattle.servo_slot_rules.proofs.Good.{Sane, good}
use Rattle.servo_slot_rules.proofs.Owed.{owes}

pub kept : Kept
kept = record {
  power = owes.power;
  frame = (preserves servo slots sample.codec.fits owes).execute;
  tick = owes.tick;
}

-- what runs, whatever the power, is such that a tick's arithmetic is defined
pub steady : {power : ℕ} {r : Run} → Sane power r → Steady r
steady s = record {
  profile = s.profile;
  memory = s.memory;
  pulse = s.pulse;
  force = λ e. (rw e at s.mode).2.force;
}

pub defined : Defined
defined m t = steady (good m t).sane
