-- `servo_slot_put::profile_bytes` meets its contract. Assumes nothing.
use Rattle.std.proofs.Common.{rules, ◌≡◌, ap, ◌∙◌, ℕ, w32}
use Rattle.std.specs.Int.{to_le_bytes}
use Rattle.base_integers.specs.Whole.{word}
use Rattle.base_layout.specs.Bytes.{le}
use Rattle.servo_slot_put.proofs.profile_bytes.Goals as goal

four : (x : ℕ) → to_le_bytes w32 x ≡ le 4 x
four x = search rules

pub returns : goal.returns
returns c =
    let p = c.args.p in
    let speed : c.word.result ≡ word p.speed = search rules in
    let aim : c.word-2.result ≡ word p.aim = search rules in
    rw (
      c.setpoint_bytes.ensures,
      c.to_le_bytes.ensures ∙ four c.word.result ∙ ap (le 4) speed,
      c.to_le_bytes-2.ensures ∙ four p.goal,
      c.to_le_bytes-3.ensures ∙ four c.word-2.result ∙ ap (le 4) aim,
      c.to_le_bytes-4.ensures ∙ four p.acceleration,
      c.to_le_bytes-5.ensures ∙ four p.top,
    )
