-- The data bytes of Set Gain are stored as the parts that they are put together from. Assumes nothing.
use mathlib.Core.Path.{◌≡◌, refl, ap, ◌∙◌}
use mathlib.Core.List.{List, [], ◌∷◌}
use mathlib.Core.Bool.{true}
use Prim.Native.Nat.{ℕ}
use native.Mathlib.Omega.{arith}
use lib.ListN.{length, get_or}
use Rattle.base_layout.specs.Bytes.{of_le}
use Rattle.servo_rules.specs.declared.Tuning.{Tuning}
use Rattle.servo_rules.specs.declared.Servo.{Servo}
use Rattle.servo_rules.specs.Asks.{gains_in, tuning_in, gains_fit}
use Rattle.servo_rules.specs.BytePromises.{gain_bytes, GainBytes}
use Rattle.servo_rules.proofs.Bounds.{gain_range}
use Rattle.servo_rules.proofs.Shown.{gains}

of_two : (P : List ℕ → Type 0) → ((b c : ℕ) → P (b ∷ c ∷ [])) → (x : List ℕ) → length x ≡ 2 → P x
of_two P h [] q = absurd (omega arith)
of_two P h (b ∷ []) q = absurd (omega arith)
of_two P h (b ∷ c ∷ []) q = h b c
of_two P h (b ∷ c ∷ d ∷ x) q = absurd (omega arith)

-- what such bytes spell
abbrev spelt : List ℕ → List ℕ → List ℕ → List ℕ → ℕ → ℕ → List ℕ → ℕ → Tuning
spelt kp kd ki il ol cl el sm =
    record { gains = record { kp = of_le kp; kd = of_le kd; ki = of_le ki; il = of_le il; ol = ol; el = of_le el }; cl = cl; sm = sm }

record Parts (kp kd ki il : List ℕ) (ol cl : ℕ) (el : List ℕ) (sm : ℕ) : Type 0 where
  count : length (gain_bytes kp kd ki il ol cl el sm) ≡ 15
  tuning : tuning_in (gain_bytes kp kd ki il ol cl el sm) ≡ spelt kp kd ki il ol cl el sm
  rate : get_or (gain_bytes kp kd ki il ol cl el sm) 12 0 ≡ 1
  band : get_or (gain_bytes kp kd ki il ol cl el sm) 13 0 ≡ 0

parts : (kp kd ki il : List ℕ) (ol cl : ℕ) (el : List ℕ) (sm : ℕ)
    → length kp ≡ 2 → length kd ≡ 2 → length ki ≡ 2 → length il ≡ 2 → length el ≡ 2
    → Parts kp kd ki il ol cl el sm
unfolding gains_in
parts kp kd ki il ol cl el sm p q r s t =
    of_two (λ (kp : List ℕ). Parts kp kd ki il ol cl el sm) (λ a b.
    of_two (λ (kd : List ℕ). Parts (a ∷ b ∷ []) kd ki il ol cl el sm) (λ c d.
    of_two (λ (ki : List ℕ). Parts (a ∷ b ∷ []) (c ∷ d ∷ []) ki il ol cl el sm) (λ e f.
    of_two (λ (il : List ℕ). Parts (a ∷ b ∷ []) (c ∷ d ∷ []) (e ∷ f ∷ []) il ol cl el sm) (λ g h.
    of_two (λ (el : List ℕ). Parts (a ∷ b ∷ []) (c ∷ d ∷ []) (e ∷ f ∷ []) (g ∷ h ∷ []) ol cl el sm)
    (λ i j. record { count = refl; tuning = refl; rate = refl; band = refl })
    el t)
    il s)
    ki r)
    kd q)
    kp p

pub gain_bytes_lem : GainBytes
gain_bytes_lem kp kd ki il ol cl el sm f alone m g =
    let x = parts kp kd ki il ol cl el sm g.proportional.0 g.derivative.0 g.integral.0 g.limit.0 g.error.0 in
    let t : tuning_in f.content ≡ spelt kp kd ki il ol cl el sm = ap tuning_in g.content ∙ x.tuning in
    let fit : gains_fit (gains_in f.content) ≡ true =
    ap (λ (t : Tuning). gains_fit t.gains) t
    ∙ (gain_range (spelt kp kd ki il ol cl el sm).gains).1
    (record { kp = g.proportional.1; kd = g.derivative.1; ki = g.integral.1; il = g.limit.1; el = g.error.1 }) in
    let s = (gains f alone m).taken g.sound g.code
    (ap length g.content ∙ x.count) fit
    (ap (λ (ds : List ℕ). get_or ds 12 0) g.content ∙ x.rate)
    (ap (λ (ds : List ℕ). get_or ds 13 0) g.content ∙ x.band) in
    (ap (λ (n : Servo). n.station.cause) s, ap (λ (n : Servo). n.settings.tuning) s ∙ t)
