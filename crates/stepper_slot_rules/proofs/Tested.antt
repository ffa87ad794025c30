-- The tests that the code makes are those of the list. Assumes nothing.
use mathlib.Core.Path.{◌≡◌, refl, sym, ap, ◌∙◌}
use mathlib.Core.Logic.{◌⊎◌, inl, inr}
use mathlib.Core.List.{List, [], ◌∷◌}
use mathlib.Core.Bool.{Bool, true, false, cond, ◌&&◌, ◌||◌}
use Prim.Native.Nat.{ℕ, ◌+◌, ◌≤◌}
use native.Mathlib.Omega.{arith}
use lib.ListN.{get_or}
use lib.Dec.{eqb}
use borrow.Author.Tests.{eqb-true, eqb-false, eq-eqb, ne_eqb, leb-true, le-leb, ltb-true, lt-ltb}
use Rattle.base_layout.specs.Bytes.{Bytes}
use Rattle.base_layout.specs.Every.{every}
use Rattle.base_layout.proofs.Every.{every_hold, hold_every}
use Rattle.stepper_rules.specs.declared.Motion.{Motion}
use Rattle.stepper_rules.specs.State.{rest}
use Rattle.stepper_rules.proofs.Frames.{item_bits}
use Rattle.stepper_slot_rules.specs.Slot.{settings_at, motion_at, decode_of, ok_of}
use Rattle.stepper_slot_rules.specs.Parts.{front_tests, rest_tests, move_tests, stop_in, run_test}
use Rattle.stepper_slot_rules.specs.Promises.{Moving, Lines}
use Rattle.stepper_slot_rules.proofs.Steady.{at_rest_lem}
use Rattle.stepper_slot_rules.proofs.Listed.{◌and◌, listed}

-- two tests, each true where the other is
same_test : (a b : Bool) → (a ≡ true → b ≡ true) → (b ≡ true → a ≡ true) → a ≡ b
same_test true b f g = sym (f refl)
same_test false true f g = g refl
same_test false false f g = refl

-- a flag that is 0 is not set, and one that is not set is 0
clear : (n : ℕ) → eqb n 0 ≡ true → eqb n 1 ≡ false
clear n z = ap (λ (k : ℕ). eqb k 1) (eqb-true n 0 z)

cleared : (n : ℕ) → n ≤ 1 → eqb n 1 ≡ false → eqb n 0 ≡ true
cleared n k z = let o = eqb-false n 1 z in eq-eqb n 0 (omega arith)

module _ (s : List ℕ) where
  abbrev minimum : ℕ
  minimum = get_or s (settings_at + 1) 0

  abbrev speed : ℕ
  speed = get_or s motion_at 0

  abbrev goal : ℕ
  goal = get_or s (motion_at + 2) 0

  abbrev stopping : ℕ
  stopping = get_or s (motion_at + 5) 0

  -- the tests of the code; those of what runs, by whether the speed is 0
  abbrev run_by : Bool → Bool
  run_by b = cond b (every (rest_tests s)) (every (move_tests s) && stop_in s)

  abbrev tested : Bool
  tested = every (front_tests s) && run_test s

  -- what the list asks of what runs
  abbrev Runs : Type 0
  Runs = (minimum ≤ 250) × ((stopping ≤ 1) × (((decode_of s).motion ≡ rest) ⊎ Moving (decode_of s).settings.minimum (decode_of s).motion))

  still : speed ≡ 0 → every (rest_tests s) ≡ true → Runs
  unfolding decode_of
  still v e =
      let h = every_hold (rest_tests s) e in
      let z = eqb-true stopping 0 h.1.1.1.1.1.0 in (
        leb-true _ _ h.0,
        (
          omega arith,
          inl
              (at_rest_lem v (clear (get_or s (motion_at + 1) 0) h.1.0) (eqb-true _ _ h.1.1.0) (eqb-true _ _ h.1.1.1.0) (eqb-true _ _ h.1.1.1.1.0)
              (clear stopping h.1.1.1.1.1.0)),
        ),
      )

  -- the flag of a smooth stop is one, and where it is set, the goal is the minimum
  slows : (b : Bool) → eqb stopping 0 ≡ b → (b || (eqb stopping 1 && eqb goal minimum)) ≡ true
      → (stopping ≤ 1) × (eqb stopping 1 ≡ true → goal ≡ minimum)
  slows true z e = let n = eqb-true stopping 0 z in (omega arith, λ w. let o = eqb-true stopping 1 w in absurd (omega arith))
  slows false z e =
      let h = every_hold (eqb stopping 1 ∷ eqb goal minimum ∷ []) e in
      let o = eqb-true stopping 1 h.0 in
      (omega arith, λ w. eqb-true _ _ h.1.0)

  moves : every (move_tests s) ≡ true → stop_in s ≡ true → Runs
  unfolding decode_of
  moves e t =
      let h = every_hold (move_tests s) e in
      let stop = slows (eqb stopping 0) refl t in
      let slow = leb-true minimum speed h.1.0 in
      let fast = leb-true speed 250 h.1.1.0 in (
        omega arith,
        (
          stop.0,
          inr
              (record {
                known = leb-true _ _ h.0;
                speed = slow;
                fastest = fast;
                goal = leb-true _ _ h.1.1.1.0;
                goal_most = leb-true _ _ h.1.1.1.1.0;
                counted = ltb-true _ _ h.1.1.1.1.1.0;
                slowing = stop.1;
              }),
        ),
      )

  there : tested ≡ true → Lines s
  unfolding decode_of
  there e =
      let h = every_hold (every (front_tests s) ∷ run_test s ∷ []) e in
      let f = every_hold (front_tests s) h.0 in
      let r = runs (eqb speed 0) refl h.1.0 in
      record {
        type_byte = eqb-true _ _ f.0;
        leader = leb-true _ _ f.1.0;
        low = leb-true _ _ f.1.1.0;
        cause = leb-true _ _ f.1.1.1.1.1.1.1.0;
        items = (item_bits _).0 f.1.1.1.1.1.1.1.1.1.0;
        amplifier = leb-true _ _ f.1.1.1.0;
        minimum = r.0;
        waits = leb-true _ _ f.1.1.1.1.0;
        load_backward = leb-true _ _ f.1.1.1.1.1.0;
        load_speed = leb-true _ _ f.1.1.1.1.1.1.1.1.0;
        backward = leb-true _ _ f.1.1.1.1.1.1.0;
        stopping = r.1.0;
        motion = r.1.1;
      }
    where
      runs : (b : Bool) → eqb speed 0 ≡ b → run_by b ≡ true → Runs
      runs true v e = still (eqb-true _ _ v) e
      runs false v e = let h = every_hold (every (move_tests s) ∷ stop_in s ∷ []) e in moves h.0 h.1.0

  stops : (b : Bool) → eqb stopping 0 ≡ b → stopping ≤ 1 → (eqb stopping 1 ≡ true → goal ≡ minimum) → (b || (eqb stopping 1 && eqb goal minimum)) ≡ true
  stops true z k h = refl
  stops false z k h =
      let n = eqb-false stopping 0 z in
      let o = eq-eqb stopping 1 (omega arith) in
      hold_every (eqb stopping 1 ∷ eqb goal minimum ∷ []) (o, (eq-eqb _ _ (h o), tt))

  back : Lines s → tested ≡ true
  unfolding decode_of
  back l = hold_every (every (front_tests s) ∷ run_test s ∷ []) (front, (runs l.motion, tt))
    where
      front : every (front_tests s) ≡ true
      front =
          hold_every (front_tests s)
          (eq-eqb _ _ l.type_byte
          and le-leb _ _ l.leader
          and le-leb _ _ l.low
          and le-leb _ _ l.amplifier
          and le-leb _ _ l.waits
          and le-leb _ _ l.load_backward
          and le-leb _ _ l.backward
          and le-leb _ _ l.cause
          and le-leb _ _ l.load_speed
          and (item_bits _).1 l.items
          and tt)

      runs : ((decode_of s).motion ≡ rest) ⊎ Moving (decode_of s).settings.minimum (decode_of s).motion → run_test s ≡ true
      runs (inl e) =
          ap run_by (eq-eqb speed 0 (ap (λ (p : Motion). p.speed) e))
          ∙ hold_every (rest_tests s)
          (le-leb _ _ l.minimum
          and cleared _ l.backward (ap (λ (p : Motion). p.backward) e)
          and eq-eqb _ _ (ap (λ (p : Motion). p.goal) e)
          and eq-eqb _ _ (ap (λ (p : Motion). p.time) e)
          and eq-eqb _ _ (ap (λ (p : Motion). p.ticks) e)
          and cleared _ l.stopping (ap (λ (p : Motion). p.stopping) e)
          and tt)
      runs (inr h) =
          ap run_by (ne_eqb speed 0 (λ z. omega (arith, h.known, h.speed)))
          ∙ hold_every (every (move_tests s) ∷ stop_in s ∷ [])
          (hold_every (move_tests s)
          (le-leb _ _ h.known
          and le-leb _ _ h.speed
          and le-leb _ _ h.fastest
          and le-leb _ _ h.goal
          and le-leb _ _ h.goal_most
          and lt-ltb _ _ h.counted
          and tt)
          and stops (eqb stopping 0) refl l.stopping h.slowing
          and tt)

  tested_is : Bytes s → tested ≡ ok_of s
  tested_is b = same_test tested (ok_of s) (λ e. (listed s b).1 (there e)) (λ e. back ((listed s b).0 e))

  -- as the code makes them, one part after another
  pub moving_is : {running : Bool} → (speed ≡ 0 → ⊥) → running ≡ every (move_tests s) → (running && stop_in s) ≡ run_test s
  moving_is n e = ap (λ (b : Bool). b && stop_in s) e ∙ sym (ap run_by (ne_eqb speed 0 n))

  pub ok_is : {front : Bool} → Bytes s → front ≡ every (front_tests s) → (front && run_test s) ≡ ok_of s
  ok_is b e = ap (λ (f : Bool). f && run_test s) e ∙ tested_is b
