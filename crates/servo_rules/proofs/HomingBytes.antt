-- The bytes of Set Homing, what it stores, and which frames change homing. Assumes nothing.
use mathlib.Core.Path.{◌≡◌, refl, sym, ap, ap₂, subst, ◌∙◌}
use mathlib.Core.Logic.{◌⊎◌, inl, inr}
use mathlib.Core.List.{[], ◌∷◌}
use mathlib.Core.Bool.{Bool, true, false}
use Prim.Native.Nat.{ℕ, zero, suc, ◌+◌, ◌*◌, ◌/◌, ◌≤◌, ◌<◌}
use native.Mathlib.Omega.{arith}
use borrow.Author.Tests.{eqb-true, eqb-false, eq-eqb, ne_eqb}
use lib.ListN.{length, get_or}
use lib.Dec.{eqb}
use Rattle.base_integers.specs.Bits.{bit, is_set}
use Rattle.line_receiver.specs.Frames.{Frame}
use Rattle.module_rules.specs.declared.Fault.TheVariants.{Count, Value}
use Rattle.module_rules.specs.Rules.{Request, malformed, reset, wants, ranged, asking, settled}
use Rattle.module_rules.proofs.Settled.{settles, cause}
use Rattle.servo_rules.specs.declared.Halt.{Halt}
use Rattle.servo_rules.specs.declared.Homing.{Homing}
use Rattle.servo_rules.specs.declared.Order.{Order}
use Rattle.servo_rules.specs.declared.Order.TheVariants.{ResetPosition, LoadTrajectory, Start, SetGain, Stop, SetHoming, ClearBits}
use Rattle.servo_rules.specs.declared.Servo.{Servo}
use Rattle.servo_rules.specs.State.{position, no_homing, with_run, amplified}
use Rattle.servo_rules.specs.Loads.{loaded, starts_now, start}
use Rattle.servo_rules.specs.Stops.{halted}
use Rattle.servo_rules.specs.Homing.{good_byte, homing_by, home_from, homing_halt}
use Rattle.servo_rules.specs.Asks.{homing_meant}
use Rattle.servo_rules.specs.Perform.{reset_position, stopped, can, perform}
use Rattle.servo_rules.specs.Answers.{servo, request, with_cause, execute}
use Rattle.servo_rules.specs.HomingPromises.{Among, GoodBits, GoodBytes, SetsHoming, OnlyByThese, HomingStops}
use Rattle.servo_rules.proofs.HomingBits.{good_bits}
use Rattle.servo_rules.proofs.Keeping.{either, halted_keeps}
use Rattle.servo_rules.proofs.Known.{Known, known}
use Rattle.servo_rules.proofs.Coding.{codes}
use Rattle.servo_rules.proofs.Apart.{apart}
use Rattle.servo_rules.proofs.Framed.{leaves}

-- ---- the good bytes

-- a byte below 64 is made of its bits
next_2 : (b : ℕ) → b / 2 ≡ bit 1 b + 2 * (b / 4)
next_2 b = omega arith

next_4 : (b : ℕ) → b / 4 ≡ bit 2 b + 2 * (b / 8)
next_4 b = omega arith

next_8 : (b : ℕ) → b / 8 ≡ bit 3 b + 2 * (b / 16)
next_8 b = omega arith

next_16 : (b : ℕ) → b / 16 ≡ bit 4 b + 2 * (b / 32)
next_16 b = omega arith

next_32 : (b : ℕ) → b < 64 → b / 32 ≡ bit 5 b
next_32 b h = omega arith

made_of : (b : ℕ) → b < 64 → b ≡ bit 0 b + 2 * bit 1 b + 4 * bit 2 b + 8 * bit 3 b + 16 * bit 4 b + 32 * bit 5 b
made_of b h =
    let e1 : b ≡ bit 0 b + 2 * (b / 2) = omega arith in
    e1
    ∙ ap (λ (n : ℕ). bit 0 b + 2 * n)
    (next_2 b ∙ ap (λ (n : ℕ). bit 1 b + 2 * n) (next_4 b ∙ ap (λ (n : ℕ). bit 2 b + 2 * n) (next_8 b ∙ ap (λ (n : ℕ). bit 3 b + 2 * n) (next_16 b ∙ ap (λ (n : ℕ). bit 4 b + 2 * n) (next_32 b h)))))
    ∙ spread (bit 0 b) (bit 1 b) (bit 2 b) (bit 3 b) (bit 4 b) (bit 5 b)
  where
    spread : (p q r s t u : ℕ) → p + 2 * (q + 2 * (r + 2 * (s + 2 * (t + 2 * u)))) ≡ p + 2 * q + 4 * r + 8 * s + 16 * t + 32 * u
    spread p q r s t u = omega arith

abbrev Good : ℕ → Type 0
Good = Among (0x01 ∷ 0x02 ∷ 0x03 ∷ 0x05 ∷ 0x06 ∷ 0x07 ∷ 0x11 ∷ 0x12 ∷ 0x13 ∷ 0x21 ∷ 0x22 ∷ 0x23 ∷ [])

-- the sum of the watch bits, and that of the stop bits
abbrev Watch : ℕ → Type 0
Watch n = (n ≡ 1) ⊎ ((n ≡ 2) ⊎ (n ≡ 3))

abbrev Stopping : ℕ → Type 0
Stopping n = (n ≡ 0) ⊎ ((n ≡ 4) ⊎ ((n ≡ 16) ⊎ (n ≡ 32)))

watch_sum : (p q : ℕ) → p ≤ 1 → q ≤ 1 → (p ≡ 1) ⊎ (q ≡ 1) → Watch (p + 2 * q)
watch_sum (suc zero) zero lp lq w = inl refl
watch_sum zero (suc zero) lp lq w = inr (inl refl)
watch_sum (suc zero) (suc zero) lp lq w = inr (inr refl)
watch_sum zero zero lp lq (inl e) = absurd (omega arith)
watch_sum zero zero lp lq (inr e) = absurd (omega arith)
watch_sum (suc (suc p)) q lp lq w = absurd (omega arith)
watch_sum (suc zero) (suc (suc q)) lp lq w = absurd (omega arith)
watch_sum zero (suc (suc q)) lp lq w = absurd (omega arith)

stop-sum : (r s t : ℕ) → r + s + t ≤ 1 → Stopping (4 * r + 16 * s + 32 * t)
stop-sum zero zero zero l = inl refl
stop-sum (suc zero) zero zero l = inr (inl refl)
stop-sum zero (suc zero) zero l = inr (inr (inl refl))
stop-sum zero zero (suc zero) l = inr (inr (inr refl))
stop-sum (suc r) (suc s) t l = absurd (omega arith)
stop-sum (suc r) zero (suc t) l = absurd (omega arith)
stop-sum zero (suc s) (suc t) l = absurd (omega arith)
stop-sum (suc (suc r)) zero zero l = absurd (omega arith)
stop-sum zero (suc (suc s)) zero l = absurd (omega arith)
stop-sum zero zero (suc (suc t)) l = absurd (omega arith)

bits_good : (b : ℕ) → GoodBits b → Good b
bits_good b g =
    put (bit 0 b + 2 * bit 1 b) (4 * bit 2 b + 16 * bit 4 b + 32 * bit 5 b)
    (watch_sum (bit 0 b) (bit 1 b) (omega arith) (omega arith) g.watches)
    (stop-sum (bit 2 b) (bit 4 b) (bit 5 b) g.stops)
    sum
  where
    sum : b ≡ bit 0 b + 2 * bit 1 b + (4 * bit 2 b + 16 * bit 4 b + 32 * bit 5 b)
    sum =
        made_of b g.others.1
        ∙ ap (λ (z : ℕ). bit 0 b + 2 * bit 1 b + 4 * bit 2 b + 8 * z + 16 * bit 4 b + 32 * bit 5 b) g.others.0
        ∙ spread (bit 0 b) (bit 1 b) (bit 2 b) (bit 4 b) (bit 5 b)
      where
        spread : (p q r s t : ℕ) → p + 2 * q + 4 * r + 8 * 0 + 16 * s + 32 * t ≡ p + 2 * q + (4 * r + 16 * s + 32 * t)
        spread p q r s t = omega arith

    put : (n k : ℕ) → Watch n → Stopping k → b ≡ n + k → Good b
    put n k (inl x) (inl y) e = inl (e ∙ ap₂ ◌+◌ x y)
    put n k (inr (inl x)) (inl y) e = inr (inl (e ∙ ap₂ ◌+◌ x y))
    put n k (inr (inr x)) (inl y) e = inr (inr (inl (e ∙ ap₂ ◌+◌ x y)))
    put n k (inl x) (inr (inl y)) e = inr (inr (inr (inl (e ∙ ap₂ ◌+◌ x y))))
    put n k (inr (inl x)) (inr (inl y)) e = inr (inr (inr (inr (inl (e ∙ ap₂ ◌+◌ x y)))))
    put n k (inr (inr x)) (inr (inl y)) e = inr (inr (inr (inr (inr (inl (e ∙ ap₂ ◌+◌ x y))))))
    put n k (inl x) (inr (inr (inl y))) e = inr (inr (inr (inr (inr (inr (inl (e ∙ ap₂ ◌+◌ x y)))))))
    put n k (inr (inl x)) (inr (inr (inl y))) e = inr (inr (inr (inr (inr (inr (inr (inl (e ∙ ap₂ ◌+◌ x y))))))))
    put n k (inr (inr x)) (inr (inr (inl y))) e = inr (inr (inr (inr (inr (inr (inr (inr (inl (e ∙ ap₂ ◌+◌ x y)))))))))
    put n k (inl x) (inr (inr (inr y))) e = inr (inr (inr (inr (inr (inr (inr (inr (inr (inl (e ∙ ap₂ ◌+◌ x y))))))))))
    put n k (inr (inl x)) (inr (inr (inr y))) e = inr (inr (inr (inr (inr (inr (inr (inr (inr (inr (inl (e ∙ ap₂ ◌+◌ x y)))))))))))
    put n k (inr (inr x)) (inr (inr (inr y))) e = inr (inr (inr (inr (inr (inr (inr (inr (inr (inr (inr (inl (e ∙ ap₂ ◌+◌ x y))))))))))))

-- each of the twelve is good, by computation
good-byte : (b : ℕ) → Good b → good_byte b ≡ true
unfolding good_byte
good-byte b g = at g
  where
    as_is : (k : ℕ) → b ≡ k → good_byte k ≡ true → good_byte b ≡ true
    as_is k e t = ap good_byte e ∙ t

    at : Good b → good_byte b ≡ true
    at (inl e) = as_is 1 e refl
    at (inr (inl e)) = as_is 2 e refl
    at (inr (inr (inl e))) = as_is 3 e refl
    at (inr (inr (inr (inl e)))) = as_is 5 e refl
    at (inr (inr (inr (inr (inl e))))) = as_is 6 e refl
    at (inr (inr (inr (inr (inr (inl e)))))) = as_is 7 e refl
    at (inr (inr (inr (inr (inr (inr (inl e))))))) = as_is 17 e refl
    at (inr (inr (inr (inr (inr (inr (inr (inl e)))))))) = as_is 18 e refl
    at (inr (inr (inr (inr (inr (inr (inr (inr (inl e))))))))) = as_is 19 e refl
    at (inr (inr (inr (inr (inr (inr (inr (inr (inr (inl e)))))))))) = as_is 33 e refl
    at (inr (inr (inr (inr (inr (inr (inr (inr (inr (inr (inl e))))))))))) = as_is 34 e refl
    at (inr (inr (inr (inr (inr (inr (inr (inr (inr (inr (inr (inl e)))))))))))) = as_is 35 e refl
    at (inr (inr (inr (inr (inr (inr (inr (inr (inr (inr (inr (inr e)))))))))))) = absurd e

-- and bits that are so make a good byte
pub good_bytes : GoodBytes
good_bytes = record {
  bits = λ b. (good_bits b, λ g. good-byte b (bits_good b g));
  twelve = λ b. (λ e. bits_good b (good_bits b e), good-byte b);
}

-- ---- its stop

stop_as_sent : (h : Halt) (x : ℕ) (m : Servo) → perform (Stop m.run.drive.amplifier h x) m ≡ halted h x m
unfolding stopped
stop_as_sent h x m =
    ap (λ (a : Bool). with_run (amplified a (halted h x m).run) (halted h x m)) (sym (halted_keeps h (position m) x m.run).amplifier)

pub homing_stops : HomingStops
unfolding homing_halt
homing_stops = record {
  command = stop_as_sent;
  release = λ b e. rw (eq-eqb _ _ e) refl;
  abrupt = λ b g e.
      let s = (good_bits b g).stops in
      rw (unset 2 b (omega arith), eq-eqb _ _ e) refl;
  smooth = λ b g e.
      let s = (good_bits b g).stops in
      rw (unset 2 b (omega arith), unset 4 b (omega arith), eq-eqb _ _ e) refl;
  none = λ b p q r. rw (unset 2 b p, unset 4 b q, unset 5 b r) refl;
}
  where
    unset : (k b : ℕ) → bit k b ≡ 0 → is_set k b ≡ false
    unset k b e = ap (λ (n : ℕ). eqb n 1) e

-- ---- the frames that change homing

pub sets_homing : SetsHoming
sets_homing f alone m d c = record {
  taken = λ b e g. (cause servo apart f alone m).executed (SetHoming b) d ((codes f alone).set_homing c ∙ ap (λ ds. asking ds (homing_meant ds)) e ∙ rw g refl) refl;
  value = λ b e g. (cause servo apart f alone m).malformed Value d ((codes f alone).set_homing c ∙ ap (λ ds. asking ds (homing_meant ds)) e ∙ rw g refl);
  count = λ n. (cause servo apart f alone m).malformed Count d ((codes f alone).set_homing c ∙ rw (ne_eqb _ _ n) refl);
}

module _ (f : Frame) (alone : Bool) (m : Servo) (d : f.damaged ≡ false) where
  abbrev Puts : Homing → Servo → Type 0
  Puts h k = k.station.cause ≡ 0 → k.homing ≡ h

  asked : (h : Homing) (q : Request Order) → request f alone ≡ q → Puts h (settled servo q m) → Puts h (execute f alone m)
  asked h q e p = subst (Puts h) (sym (settles servo f alone m d e)) p

  shifts : f.code ≡ 0 → Puts (home_from (position m) m.homing) (execute f alone m)
  unfolding reset_position
  shifts c = at (eqb (length f.content) 0) refl
    where
      h : Homing
      h = home_from (position m) m.homing

      at : (t : Bool) → eqb (length f.content) 0 ≡ t → Puts h (execute f alone m)
      at true e =
          asked h (wants ResetPosition) (((codes f alone).reset_position c).0 (eqb-true _ _ e))
          (either (Puts h) (can ResetPosition m) (with_cause 0 (reset_position m)) (with_cause 3 m) (λ z. refl) (λ z. absurd (omega arith)))
      at false e = asked h (malformed Count) (((codes f alone).reset_position c).1 (eqb-false _ _ e)) (λ z. absurd (omega arith))

  sets : f.code ≡ 9 → Puts (homing_by (get_or f.content 0 0) m.homing) (execute f alone m)
  sets c =
      let b : ℕ = get_or f.content 0 0 in
      let h : Homing = homing_by b m.homing in
      let P : Request Order → Type 0 = λ q. Puts h (settled servo q m) in
      asked h (asking f.content (homing_meant f.content)) ((codes f alone).set_homing c)
      (either P (eqb (length f.content) 1) (ranged (good_byte b) (wants (SetHoming b))) (malformed Count)
      (either P (good_byte b) (wants (SetHoming b)) (malformed Value) (λ z. refl) (λ z. absurd (omega arith)))
      (λ z. absurd (omega arith)))

  ends : f.code ≡ 15 → Puts no_homing (execute f alone m)
  ends c = at (eqb (length f.content) 0) refl
    where
      at : (t : Bool) → eqb (length f.content) 0 ≡ t → Puts no_homing (execute f alone m)
      at true e = asked no_homing reset (((codes f alone).hard_reset c).0 (eqb-true _ _ e)) (λ z. refl)
      at false e = asked no_homing (malformed Count) (((codes f alone).hard_reset c).1 (eqb-false _ _ e)) (λ z. absurd (omega arith))

  leave : ((execute f alone m).station.cause ≡ 0 → (f.code ≡ 0) ⊎ ((f.code ≡ 9) ⊎ (f.code ≡ 15)) → ⊥) → (execute f alone m).homing ≡ m.homing
  unfolding loaded start stopped
  leave n = leaves (λ (k : Servo). k.homing ≡ m.homing) f alone m (record {
    kept = λ s. refl;
    renewed = λ d q. absurd (n (done ((cause servo apart f alone m).renewed d q) refl) (inr (inr (subst (Known f) q (known f alone)))));
    performed = λ c d q t. by c (subst (Known f) q (known f alone)) (done ((cause servo apart f alone m).executed c d q t) refl);
  })
    where
      done : {k : Servo} → execute f alone m ≡ k → k.station.cause ≡ 0 → (execute f alone m).station.cause ≡ 0
      done e z = ap (λ (k : Servo). k.station.cause) e ∙ z

      by : (c : Order) → Known f (wants c) → (execute f alone m).station.cause ≡ 0 → (perform c m).homing ≡ m.homing
      by ResetPosition k z = absurd (n z (inl k))
      by (LoadTrajectory c) k z = either (λ (s : Servo). s.homing ≡ m.homing) (starts_now c) (start (loaded c m)) (loaded c m) refl refl
      by Start k z = refl
      by (SetGain t) k z = refl
      by (Stop a h x) k z = refl
      by (SetHoming b) k z = absurd (n z (inr (inl k.0)))
      by ClearBits k z = refl

pub only_by_these : OnlyByThese
only_by_these f alone m d = record { set = sets f alone m d; shift = shifts f alone m d; reset = ends f alone m d; others = leave f alone m d }
