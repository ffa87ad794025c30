-- `servo_slot_put::put_back` meets its contract. Its parts stand one after another. Assumes nothing.
use Rattle.std.proofs.Common.{refl, ap, ◌∙◌, ◌++◌, arith}
use Rattle.base_layout.specs.Bytes.{pasted}
use Rattle.base_layout.proofs.Pasted.{put_next, put_five}
use Rattle.servo_slot_rules.specs.Slot.{rates, load, profile, memory, drive, homing, rates_at, load_at, profile_at, memory_at, drive_at, homing_at}
use Rattle.servo_slot_rules.specs.Parts.{back_of}
use Rattle.servo_slot_put.proofs.put_back.Goals as goal

pub returns : goal.returns
unfolding back_of
returns c =
    let m = c.args.m in
    let run = m.run in
    put_next
    (rates.codec.enc m.settings.rates ++ load.codec.enc m.settings.load ++ profile.codec.enc run.profile ++ memory.codec.enc run.memory ++ drive.codec.enc run.drive)
    (homing.codec.enc m.homing) c.args.s.now rates_at homing_at refl (omega (arith, c.requires))
    (put_five _ _ _ _ _ c.args.s.now rates_at load_at profile_at memory_at drive_at refl refl refl refl (omega (arith, c.requires))
    c.rates_bytes-rates.ensures
    c.load_bytes-load.ensures
    c.profile_bytes-profile.ensures
    c.memory_bytes-memory.ensures
    c.drive_bytes-drive.ensures
    c.put_all.ensures
    c.put_all-2.ensures
    c.put_all-3.ensures
    c.put_all-4.ensures
    c.put_all-5.ensures)
    (c.put_all-6.ensures ∙ ap (λ l. pasted homing_at l c.put_all-5.new.dst) c.homing_bytes-homing.ensures)
