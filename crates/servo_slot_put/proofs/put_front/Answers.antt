-- `servo_slot_put::put_front` meets its contract. Its parts stand one after another. Assumes nothing.
use Rattle.std.proofs.Common.{refl, arith}
use Rattle.base_layout.proofs.Pasted.{put_four}
use Rattle.servo_slot_rules.specs.Slot.{latched_at, counts_at, tuning_at}
use Rattle.servo_slot_rules.specs.Parts.{front_of}
use Rattle.servo_slot_put.proofs.put_front.Goals as goal

pub returns : goal.returns
unfolding front_of
returns c =
    put_four _ _ _ _ c.args.s.now 0 latched_at counts_at tuning_at refl refl refl (omega (arith, c.requires))
    c.head_bytes-head.ensures
    c.sample_bytes-latched.ensures
    c.counts_bytes-counts.ensures
    c.tuning_bytes-tuning.ensures
    c.put_all.ensures
    c.put_all-2.ensures
    c.put_all-3.ensures
    c.put_all-4.ensures
