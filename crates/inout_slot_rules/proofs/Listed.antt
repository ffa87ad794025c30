-- A slot is valid exactly when it satisfies the written list. Assumes nothing.
use mathlib.Core.Path.{◌≡◌}
use mathlib.Core.List.{List}
use mathlib.Core.Bool.{true}
use Prim.Native.Nat.{ℕ, ◌+◌, ◌*◌, ◌<◌}
use native.Mathlib.Omega.{arith}
use lib.Dec.{leb}
use borrow.Author.Tests.{eqb-true, eq-eqb, leb-true, le-leb}
use Rattle.base_layout.specs.Bytes.{Bytes}
use Rattle.base_layout.proofs.Every.{every_hold, hold_every}
use Rattle.base_layout.proofs.Codec.{head_sound}
use Rattle.inout_slot_rules.specs.Slot.{slot, decode_of, ok_of}
use Rattle.inout_slot_rules.specs.Promises.{Lines, Listed}

there : (s : List ℕ) → Bytes s → ok_of s ≡ true → Lines s
unfolding ok_of decode_of
there s b v =
    let h = every_hold (slot.codec.tests 0 s) v in
    let t = (head_sound slot.lawful s b v).1.1 in
    record {
      type_byte = eqb-true _ _ h.0;
      leader = leb-true _ _ h.1.0;
      low = leb-true _ _ h.1.1.0;
      cause = leb-true _ _ h.1.1.1.0;
      latched_inputs = t.0.0.1;
      direction = t.1.0.0.1;
      register = t.1.0.1.0.1;
      synch_bits = t.1.1.0.0.1;
      captured_inputs = t.1.1.1.1.0.1;
    }

-- twelve bits have an upper byte of at most 15
top : (a b : ℕ) → a + 256 * (b + 256 * 0) < 4096 → leb b 15 ≡ true
top a b h = le-leb b 15 (omega arith)

back : (s : List ℕ) → Lines s → ok_of s ≡ true
unfolding ok_of decode_of
back s l =
    hold_every (slot.codec.tests 0 s) (
      eq-eqb _ _ l.type_byte,
      (
        le-leb _ _ l.leader,
        (
          le-leb _ _ l.low,
          (
            le-leb _ _ l.cause,
            (top _ _ l.latched_inputs, (top _ _ l.direction, (top _ _ l.register, (top _ _ l.synch_bits, (top _ _ l.captured_inputs, tt))))),
          ),
        ),
      ),
    )

pub listed : Listed
listed s b = (there s b, back s)
