-- The bits of the status byte, and that every number fits into its bytes. Assumes nothing.
use mathlib.Core.Path.{◌≡◌, refl, ap, ◌∙◌}
use mathlib.Core.Bool.{Bool, true, false, cond, not}
use Prim.Native.Nat.{ℕ, ◌+◌, ◌*◌, ◌%◌, ◌<◌, ◌≤◌}
use native.Mathlib.Omega.{arith}
use lib.Dec.{eqb}
use Rattle.base_integers.specs.Bits.{bit}
use Rattle.servo_rules.specs.declared.Servo.{Servo}
use Rattle.servo_rules.specs.State.{powered}
use Rattle.servo_rules.specs.Homing.{in_progress}
use Rattle.servo_rules.specs.Answers.{done, bit_at, status_of, status, numbers_of}
use Rattle.servo_rules.specs.Promises.{StatusBits, NumbersFit}
use Rattle.servo_rules.proofs.Ranges.{bit_most}

-- a bit at n is n times a bit
times : (n : ℕ) (t : Bool) → bit_at n t ≡ n * bit_at 1 t
times n true = omega arith
times n false = omega arith

-- and one that is set where a test fails
otherwise : (t : Bool) → cond t 0 2 ≡ 2 * bit_at 1 (not t)
otherwise true = refl
otherwise false = refl

-- a bit between what is below it and what is above it
bit_0 : (b high : ℕ) → b ≤ 1 → bit 0 (b + 2 * high) ≡ b
bit_0 b high l = omega arith

bit_1 : (low b high : ℕ) → low < 2 → b ≤ 1 → bit 1 (low + 2 * b + 4 * high) ≡ b
bit_1 low b high h l = omega arith

bit_2 : (low b high : ℕ) → low < 4 → b ≤ 1 → bit 2 (low + 4 * b + 8 * high) ≡ b
bit_2 low b high h l = omega arith

bit_3 : (low b high : ℕ) → low < 8 → b ≤ 1 → bit 3 (low + 8 * b + 16 * high) ≡ b
bit_3 low b high h l = omega arith

bit_4 : (low b high : ℕ) → low < 16 → b ≤ 1 → bit 4 (low + 16 * b + 32 * high) ≡ b
bit_4 low b high h l = omega arith

bit_5 : (low b high : ℕ) → low < 32 → b ≤ 1 → bit 5 (low + 32 * b + 64 * high) ≡ b
bit_5 low b high h l = omega arith

bit_6 : (low b high : ℕ) → low < 64 → b ≤ 1 → bit 6 (low + 64 * b + 128 * high) ≡ b
bit_6 low b high h l = omega arith

bit_7 : (low b : ℕ) → low < 128 → b ≤ 1 → bit 7 (low + 128 * b) ≡ b
bit_7 low b h l = omega arith

-- the bits of such a sum
module _ (a b c d e i h : ℕ) (la : a ≤ 1) (lb : b ≤ 1) (lc : c ≤ 1) (ld : d ≤ 1) (le : e ≤ 1) (lh : h ≤ 1) where
  abbrev sum : ℕ
  sum = a + 2 * b + 4 * c + 8 * d + 16 * e + (32 * (i % 4) + 128 * h)

  abbrev above : ℕ
  above = e + 2 * (i % 4) + 8 * h

  sum_0 : bit 0 sum ≡ a
  sum_0 = ap (bit 0) split ∙ bit_0 a (b + 2 * c + 4 * d + 8 * above) la
    where
      split : sum ≡ a + 2 * (b + 2 * c + 4 * d + 8 * above)
      split = omega arith

  sum_1 : bit 1 sum ≡ b
  sum_1 = ap (bit 1) split ∙ bit_1 a b (c + 2 * d + 4 * above) (omega arith) lb
    where
      split : sum ≡ a + 2 * b + 4 * (c + 2 * d + 4 * above)
      split = omega arith

  sum_2 : bit 2 sum ≡ c
  sum_2 = ap (bit 2) split ∙ bit_2 (a + 2 * b) c (d + 2 * above) (omega arith) lc
    where
      split : sum ≡ a + 2 * b + 4 * c + 8 * (d + 2 * above)
      split = omega arith

  sum_3 : bit 3 sum ≡ d
  sum_3 = ap (bit 3) split ∙ bit_3 (a + 2 * b + 4 * c) d above (omega arith) ld
    where
      split : sum ≡ a + 2 * b + 4 * c + 8 * d + 16 * above
      split = omega arith

  abbrev under : ℕ
  under = a + 2 * b + 4 * c + 8 * d

  sum_4 : bit 4 sum ≡ e
  sum_4 = ap (bit 4) split ∙ bit_4 under e (i % 4 + 4 * h) (omega arith) le
    where
      split : sum ≡ under + 16 * e + 32 * (i % 4 + 4 * h)
      split = omega arith

  sum_5 : bit 5 sum ≡ bit 0 i
  sum_5 = ap (bit 5) split ∙ bit_5 (under + 16 * e) (bit 0 i) (bit 1 i + 2 * h) (omega arith) (omega arith)
    where
      split : sum ≡ under + 16 * e + 32 * bit 0 i + 64 * (bit 1 i + 2 * h)
      split = omega arith

  sum_6 : bit 6 sum ≡ bit 1 i
  sum_6 = ap (bit 6) split ∙ bit_6 (under + 16 * e + 32 * bit 0 i) (bit 1 i) h (omega arith) (omega arith)
    where
      split : sum ≡ under + 16 * e + 32 * bit 0 i + 64 * bit 1 i + 128 * h
      split = omega arith

  sum_7 : bit 7 sum ≡ h
  sum_7 = ap (bit 7) split ∙ bit_7 (under + 16 * e + 32 * (i % 4)) h (omega arith) lh
    where
      split : sum ≡ under + 16 * e + 32 * (i % 4) + 128 * h
      split = omega arith

  sum_small : sum < 256
  sum_small = omega arith

pub status_bits : StatusBits
unfolding status_of
status_bits m =
    let a : ℕ = bit_at 1 (done m.run) in
    let b : ℕ = bit_at 1 (not (eqb m.station.cause 0)) in
    let c : ℕ = bit_at 1 m.run.drive.cut in
    let d : ℕ = bit_at 1 (powered m) in
    let e : ℕ = bit_at 1 m.run.drive.error in
    let i : ℕ = m.latched.inputs in
    let h : ℕ = bit_at 1 (in_progress m.homing) in
    let la = bit_most 1 (done m.run) in
    let lb = bit_most 1 (not (eqb m.station.cause 0)) in
    let lc = bit_most 1 m.run.drive.cut in
    let ld = bit_most 1 (powered m) in
    let le = bit_most 1 m.run.drive.error in
    let lh = bit_most 1 (in_progress m.homing) in
    let s : status m ≡ a + 2 * b + 4 * c + 8 * d + 16 * e + (32 * (i % 4) + 128 * h) =
    summed m in
    record {
      finished = ap (bit 0) s ∙ sum_0 a b c d e i h la lb lc ld le lh;
      refused = ap (bit 1) s ∙ sum_1 a b c d e i h la lb lc ld le lh;
      cut = ap (bit 2) s ∙ sum_2 a b c d e i h la lb lc ld le lh;
      good = ap (bit 3) s ∙ sum_3 a b c d e i h la lb lc ld le lh;
      error = ap (bit 4) s ∙ sum_4 a b c d e i h la lb lc ld le lh;
      limit1 = ap (bit 5) s ∙ sum_5 a b c d e i h la lb lc ld le lh;
      limit2 = ap (bit 6) s ∙ sum_6 a b c d e i h la lb lc ld le lh;
      homing = ap (bit 7) s ∙ sum_7 a b c d e i h la lb lc ld le lh;
      small = let l = sum_small a b c d e i h la lb lc ld le lh in omega arith;
    }
  where
    summed : (m : Servo) → status m
        ≡ bit_at 1 (done m.run)
        + 2 * bit_at 1 (not (eqb m.station.cause 0))
        + 4 * bit_at 1 m.run.drive.cut
        + 8 * bit_at 1 (powered m)
        + 16 * bit_at 1 m.run.drive.error
        + (32 * (m.latched.inputs % 4) + 128 * bit_at 1 (in_progress m.homing))
    summed m =
        let x = otherwise (eqb m.station.cause 0) in
        let w = times 4 m.run.drive.cut in
        let y = times 8 (powered m) in
        let z = times 16 m.run.drive.error in
        let v = times 128 (in_progress m.homing) in
        omega arith

pub numbers_fit : NumbersFit
unfolding numbers_of
numbers_fit m h w =
    (omega arith, (omega arith, (omega arith, (omega arith, (omega arith, (omega arith, (omega arith, (omega arith, tt))))))))
