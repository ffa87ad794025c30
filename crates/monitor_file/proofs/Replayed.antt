-- The record of a byte of the line, in a replay. Assumes nothing.
use mathlib.Core.Path.{◌≡◌, refl}
use mathlib.Core.List.{List, [], ◌∷◌}
use mathlib.Core.Bool.{Bool, true, false}
use Prim.Native.Nat.{ℕ}
use Rattle.line_receiver.specs.Frames.{Byte}
use Rattle.chain_rules.specs.Chain.{Net, byte_step}
use Rattle.types_rules.specs.Types.{Module, kind}
use Rattle.replay_print.specs.Text.{lines}
use Rattle.replay_file.specs.Records.{running, goes, line_byte, net_record, record_step}
use Rattle.text_rules.specs.Records.{mark_of}
use Rattle.monitor_file.specs.Promises.{Replays}

pub replays : Replays
unfolding record_step net_record line_byte
replays n list b = go b.mark
  where
    go : (m : Bool)
        → record_step (running n list) 1 (mark_of m ∷ b.value ∷ [])
        ≡ goes (running (byte_step kind n (record { value = b.value; mark = m })).net list) (lines (byte_step kind n (record { value = b.value; mark = m })).replies)
    go true = refl
    go false = refl
