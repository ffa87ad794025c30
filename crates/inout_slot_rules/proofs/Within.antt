-- Whatever happens, a module's values stay such as its slot can hold. Assumes nothing.
use Rattle.module_rules.proofs.Kept.{preserves}
use Rattle.inout_rules.specs.Answers.{inout}
use Rattle.inout_slot_rules.specs.Slot.{sample, slots}
use Rattle.inout_slot_rules.specs.Promises.{Kept}
use Rattle.inout_slot_rules.proofs.Owed.{owes}

pub kept : Kept
kept =
    let p = preserves inout slots sample.codec.fits owes in
    record { power = owes.power; frame = p.execute; tick = p.tick }
