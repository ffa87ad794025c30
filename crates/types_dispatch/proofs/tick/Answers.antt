-- `types_dispatch::tick` meets its contract. Each type is one arm. Assumes nothing.
use mathlib.Core.Path.{◌≡◌, subst, subst⁻¹}
use mathlib.Core.List.{List}
use mathlib.Core.Bool.{true}
use Prim.Native.Nat.{ℕ}
use native.Mathlib.Omega.{arith}
use lib.ListN.{get_or}
use Rattle.base_layout.specs.Bytes.{pasted}
use Rattle.types_rules.specs.declared.Measured.{Measured}
use Rattle.types_rules.specs.Table.{ModuleType, servo, inout, stepper, slots_of, measured}
use Rattle.types_rules.specs.Types.{kind, slots}
use Rattle.types_rules.proofs.Dispatch.{type_at, ticked, unticked}
use Rattle.types_dispatch.proofs.tick.Goals as goal

-- a tick with a sample whose case is known
told : (s : List ℕ) {s' : List ℕ} (x : Measured) {y : Measured} → x ≡ y → s' ≡ pasted 0 (slots.enc (kind.tick (measured y) (slots.dec s))) s
    → s' ≡ pasted 0 (slots.enc (kind.tick (measured x) (slots.dec s))) s
told s {s'} x e p = subst⁻¹ (λ (z : Measured). s' ≡ pasted 0 (slots.enc (kind.tick (measured z) (slots.dec s))) s) e p

pub tick-requires : goal.tick-requires
tick-requires c =
    let s = c.args.s.now in
    (omega (arith, c.requires.0), subst (λ (t : ModuleType). (slots_of t).ok s ≡ true) (type_at (get_or s 0 0) servo c.if-s-eq-TYPE.true) c.requires.1)

pub returns-in-Servo : goal.returns-in-Servo
returns-in-Servo c =
    let s = c.args.s.now in
    told c.args.s.now c.args.x c.in-Servo.is (ticked s servo (type_at (get_or s 0 0) servo c.if-s-eq-TYPE.true) c.in-Servo.y c.tick.ensures)

pub returns-else-s-eq-TYPE : goal.returns-else-s-eq-TYPE
returns-else-s-eq-TYPE c =
    told c.args.s.now c.args.x c.in-Servo.is
    (unticked c.args.s.now (servo, c.in-Servo.y) c.if-s-eq-TYPE.false c.requires.0 (λ i. omega (arith, c.type_inv.s i)) c.requires.1)

pub tick-requires-in-Io : goal.tick-requires-in-Io
tick-requires-in-Io c =
    let s = c.args.s.now in
    (omega (arith, c.requires.0), subst (λ (t : ModuleType). (slots_of t).ok s ≡ true) (type_at (get_or s 0 0) inout c.if-s-eq-TYPE-2.true) c.requires.1)

pub returns-in-Io : goal.returns-in-Io
returns-in-Io c =
    let s = c.args.s.now in
    told c.args.s.now c.args.x c.in-Io.is (ticked s inout (type_at (get_or s 0 0) inout c.if-s-eq-TYPE-2.true) c.in-Io.y c.tick-in-Io.ensures)

pub returns-else-s-eq-TYPE-2 : goal.returns-else-s-eq-TYPE-2
returns-else-s-eq-TYPE-2 c =
    told c.args.s.now c.args.x c.in-Io.is
    (unticked c.args.s.now (inout, c.in-Io.y) c.if-s-eq-TYPE-2.false c.requires.0 (λ i. omega (arith, c.type_inv.s i)) c.requires.1)

pub tick-requires-in-Stepper : goal.tick-requires-in-Stepper
tick-requires-in-Stepper c =
    let s = c.args.s.now in
    (omega (arith, c.requires.0), subst (λ (t : ModuleType). (slots_of t).ok s ≡ true) (type_at (get_or s 0 0) stepper c.if-s-eq-TYPE-3.true) c.requires.1)

pub returns-in-Stepper : goal.returns-in-Stepper
returns-in-Stepper c =
    let s = c.args.s.now in
    told c.args.s.now c.args.x c.in-Stepper.is (ticked s stepper (type_at (get_or s 0 0) stepper c.if-s-eq-TYPE-3.true) c.in-Stepper.y c.tick-in-Stepper.ensures)

pub returns-else-s-eq-TYPE-3 : goal.returns-else-s-eq-TYPE-3
returns-else-s-eq-TYPE-3 c =
    told c.args.s.now c.args.x c.in-Stepper.is
    (unticked c.args.s.now (stepper, c.in-Stepper.y) c.if-s-eq-TYPE-3.false c.requires.0 (λ i. omega (arith, c.type_inv.s i)) c.requires.1)
