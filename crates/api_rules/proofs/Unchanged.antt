-- A refused call changes nothing, and the byte call's number tells whether it was refused. Assumes nothing.
use mathlib.Core.Path.{◌≡◌, refl, sym, ap, subst⁻¹, ◌∙◌}
use mathlib.Core.List.{List}
use mathlib.Core.Bool.{Bool, true, false, cond, not}
use Prim.Native.Nat.{ℕ, ◌≤◌}
use native.Mathlib.Omega.{arith}
use lib.ListN.{length}
use Rattle.base_layout.specs.Bytes.{pasted}
use lib.Dec.{eqb, ltb}
use Rattle.std.specs.Prelude.{Some}
use Rattle.line_receiver.specs.Receive.{taken, number_of}
use Rattle.line_receiver.specs.Frames.{Byte}
use Rattle.line_receiver.specs.Promises.{Numbered}
use Rattle.chain_rules.specs.Chain.{Net, byte_step}
use Rattle.chain_rules.proofs.Bytes.{step_either, number_told}
use Rattle.types_rules.specs.Types.{Module, kind, slots}
use Rattle.net_rules.specs.Record.{room_size, net_in, stored, valid}
use Rattle.net_rules.specs.Calls.{byte_of, fresh, tick_step, samples_for, outputs_in, outputs_at, cause_in, cause_at}
use Rattle.base_layout.specs.First.{Line, first}
use Rattle.api_rules.specs.Table.{setup_table, byte_table, tick_table, place_table, import_out, export_out, import_table, export_table}
use Rattle.api_rules.specs.Calls.{unless, step_of, setup_record, byte_number, tick_record, outputs_bytes, cause_byte, reading_bytes, import_room, import_written, export_room, export_written}
use Rattle.api_rules.specs.Promises.{Refuses, Passes, Unchanged, Answers, OutputsTold, CauseTold, ReadingSpelled, OneOutcome}
use Rattle.api_rules.specs.TablePromises.{ByteNumbers}
use Rattle.api_rules.proofs.Refused.{refused, done, byte_refused, buffer_refused}

-- what is refused is as it was
same : {A : Type 0} (ls : List Line) (x y : A) → Refuses ls → unless ls x y ≡ x
same ls x y h = sym (refused ls x y refl h)

pub unchanged : Unchanged
unfolding setup_record tick_record outputs_bytes cause_byte import_room import_written export_room export_written
unchanged = record {
  setup = λ net types h. same (setup_table net types) net (fresh types) h;
  byte = λ net mark byte room h.
      let p = byte_refused net mark byte room refl h in
      record { number = sym p.0; net_kept = sym p.1.0; room_kept = sym p.1.1.0; written = sym p.1.1.1 };
  buffer = λ net bytes marks room h.
      let p = (buffer_refused net bytes marks room refl h).1 in
      record { net_kept = sym p.0; room_kept = sym p.1.0; written = sym p.1.1 };
  tick = λ net samples h. same (tick_table net samples) net (stored slots (tick_step (samples_for (net_in slots net) samples) (net_in slots net)) net) h;
  outputs = λ net place bytes h. same (place_table net place) bytes (outputs_at (net_in slots net) place) h;
  cause = λ net place byte h. same (place_table net place) byte (cause_at (net_in slots net) place) h;
  import = λ text room h. (same (import_table text room) room (pasted 0 (import_out text) room) h, same (import_table text room) 0 (length (import_out text)) h);
  export = λ rs room h. (same (export_table rs room) room (pasted 0 (export_out rs) room) h, same (export_table rs room) 0 (length (export_out rs)) h);
}

-- a byte's own number
ended_small : (d : Bool) → number_of (Some d) ≤ 2
ended_small true = omega arith
ended_small false = omega arith

pub step_small : (n : Net Module) (b : Byte) → (byte_step kind n b).number ≤ 2
step_small n b = step_either kind (λ s. s.number ≤ 2) n b (λ r e. omega arith) (λ r d e. ended_small d)

-- a byte call's number where it is not refused
pub number-done : (net : List ℕ) (mark byte : ℕ) (room : List ℕ) → Passes (byte_table net mark room) → byte_number net mark byte room ≡ (step_of net mark byte).number
unfolding byte_number
number-done net mark byte room p =
    sym (done (byte_table net mark room) (first (byte_table net mark room)) (step_of net mark byte).number refl p)

pub byte_numbers : ByteNumbers
byte_numbers net mark byte room p =
    subst⁻¹ (Numbered (taken (net_in slots net).receiver byte (eqb mark 1)).answer) (number-done net mark byte room p)
    (number_told kind (net_in slots net) (byte_of byte (eqb mark 1)))

-- the numbers of the byte call's table
refusal_big : (a b c : Bool) → (◌≡◌ {A = ℕ} (cond a 16 (cond b 14 (cond c 15 0))) 0 → ⊥) → 11 ≤ cond a 16 (cond b 14 (cond c 15 0))
refusal_big true b c h = omega arith
refusal_big false true c h = omega arith
refusal_big false false true h = omega arith
refusal_big false false false h = absurd (h refl)

pub answers : Answers
answers net mark byte room =
    let small : Passes (byte_table net mark room) → byte_number net mark byte room ≤ 2 =
    λ p. rw (number-done net mark byte room p) (step_small (net_in slots net) _) in
    record {
      done = small;
      refused = (
        λ g p. let s = small p in absurd (omega arith),
        λ h.
            let big = refusal_big (not (valid slots net)) (ltb 1 mark) (ltb (length room) room_size) h in
            let q = (unchanged.byte net mark byte room h).number in
            rw q big,
      );
    }

pub outputs_told : OutputsTold
unfolding outputs_bytes
outputs_told net place bytes t m p e =
    sym (done (place_table net place) bytes (outputs_at (net_in slots net) place) refl p) ∙ ap outputs_in e

pub cause_told : CauseTold
unfolding cause_byte
cause_told net place byte t m p e =
    sym (done (place_table net place) byte (cause_at (net_in slots net) place) refl p) ∙ ap cause_in e

pub reading_spelled : ReadingSpelled
unfolding reading_bytes
reading_spelled status a b c d e f g h = refl

pub one_outcome : OneOutcome
one_outcome I O outcome inputs x y e q = e ∙ sym q
