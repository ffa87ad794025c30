-- `types_dispatch::touch` meets its contract. Each type is one arm. Assumes nothing.
use mathlib.Core.Path.{◌≡◌, subst}
use mathlib.Core.Bool.{true}
use native.Mathlib.Omega.{arith}
use Rattle.module_rules.specs.Touch.{frame_of}
use lib.ListN.{get_or}
use Rattle.types_rules.specs.Table.{ModuleType, servo, inout, stepper, slots_of}
use Rattle.types_rules.proofs.Dispatch.{type_at, type_last, touched}
use Rattle.types_dispatch.proofs.touch.Goals as goal

pub touch-requires : goal.touch-requires
touch-requires c =
    let s = c.args.s.now in (
      omega (arith, c.requires.0),
      subst (λ (t : ModuleType). (slots_of t).ok s ≡ true) (type_at (get_or c.args.s.now 0 0) servo c.in-0.is) c.requires.1,
      c.requires.2,
    )

pub returns-in-0 : goal.returns-in-0
returns-in-0 c =
    let a = c.args in
    let e = c.touch.ensures in
    let r = touched a.s.now servo (type_at (get_or c.args.s.now 0 0) servo c.in-0.is) (frame_of a.f) a.room.now a.from (e.value, (e.s_after, e.room_after)) in
    record { value = r.0; s_after = r.1.0; room_after = r.1.1 }

pub touch-requires-in-2 : goal.touch-requires-in-2
touch-requires-in-2 c =
    let s = c.args.s.now in (
      omega (arith, c.requires.0),
      subst (λ (t : ModuleType). (slots_of t).ok s ≡ true) (type_at (get_or c.args.s.now 0 0) inout c.in-2.is) c.requires.1,
      c.requires.2,
    )

pub returns-in-2 : goal.returns-in-2
returns-in-2 c =
    let a = c.args in
    let e = c.touch-in-2.ensures in
    let r = touched a.s.now inout (type_at (get_or c.args.s.now 0 0) inout c.in-2.is) (frame_of a.f) a.room.now a.from (e.value, (e.s_after, e.room_after)) in
    record { value = r.0; s_after = r.1.0; room_after = r.1.1 }

pub touch-requires-in_default : goal.touch-requires-in_default
touch-requires-in_default c =
    let s = c.args.s.now in (
      omega (arith, c.requires.0),
      subst (λ (t : ModuleType). (slots_of t).ok s ≡ true) (type_last (get_or c.args.s.now 0 0) c.in_default.in_default-own.rest.0.1 c.in_default.in_default-own.rest.1) c.requires.1,
      c.requires.2,
    )

pub returns-in_default : goal.returns-in_default
returns-in_default c =
    let a = c.args in
    let e = c.touch-in_default.ensures in
    let r = touched a.s.now stepper (type_last (get_or c.args.s.now 0 0) c.in_default.in_default-own.rest.0.1 c.in_default.in_default-own.rest.1) (frame_of a.f) a.room.now a.from (e.value, (e.s_after, e.room_after)) in
    record { value = r.0; s_after = r.1.0; room_after = r.1.1 }
