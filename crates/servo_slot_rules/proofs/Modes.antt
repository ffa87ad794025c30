-- What each mode needs of a servo that runs, in words. Assumes nothing.
use mathlib.Core.Path.{◌≡◌, ap}
use mathlib.Core.List.{[], ◌∷◌}
use mathlib.Core.Bool.{Bool, true, false, not}
use Prim.Native.Nat.{ℕ}
use borrow.Author.Tests.{eqb-false, ne_eqb, not-true}
use lib.Dec.{eqb}
use lib.IntN.{ℤ, pos}
use Rattle.base_integers.specs.Whole.{same}
use Rattle.base_integers.proofs.Same.{same_eq, eq_same}
use Rattle.base_layout.proofs.Every.{every_hold, hold_every}
use Rattle.servo_motion.specs.Profile.{running}
use Rattle.servo_motion.specs.Promises.{Running}
use Rattle.servo_motion.proofs.Tests.{tested}
use Rattle.servo_filter.specs.declared.Memory.{Memory}
use Rattle.servo_rules.specs.declared.Mode.{Mode}
use Rattle.servo_rules.specs.declared.Mode.TheVariants.{Off, Pwm, Hold, Velocity, Trapezoid}
use Rattle.servo_rules.specs.declared.Run.{Run}
use Rattle.servo_slot_rules.specs.List.{emptied, silent, unpulsed, uncut, still, live, mode_fits}
use Rattle.servo_slot_rules.specs.Slot.{profile, memory, drive}

-- no speed, the memory that off leaves, and no cut bit
pub record Idle (speed : ℤ) (y : Memory) (cut : Bool) : Type 0 where
  pub rest : speed ≡ pos 0
  pub integral : y.integral ≡ pos 0
  pub previous : y.previous ≡ pos 0
  pub uncut : cut ≡ false

-- what every mode but off needs
pub record Live (power : ℕ) (error : Bool) : Type 0 where
  pub clear : error ≡ false
  pub alive : power ≡ 0 → ⊥

abbrev pub InMode : Mode → ℕ → Run → Type 0
InMode Off power r = Idle r.profile.speed r.memory r.drive.cut × (r.drive.output ≡ pos 0) × (r.drive.pulse ≡ pos 0)
InMode Pwm power r = Idle r.profile.speed r.memory r.drive.cut × Live power r.drive.error
InMode Hold power r = (r.profile.speed ≡ pos 0) × (r.drive.pulse ≡ pos 0) × Live power r.drive.error
InMode Velocity power r = (r.drive.pulse ≡ pos 0) × Live power r.drive.error
InMode Trapezoid power r = (r.drive.pulse ≡ pos 0) × Live power r.drive.error × Running r.profile

module _ (power : ℕ) (r : Run) where
  idle-good : still r.profile ≡ true → emptied r.memory ≡ true → uncut r.drive ≡ true → Idle r.profile.speed r.memory r.drive.cut
  unfolding emptied
  idle-good s e c =
      let h = every_hold (same r.memory.integral (pos 0) ∷ same r.memory.previous (pos 0) ∷ []) e in
      record { rest = same_eq _ _ s; integral = same_eq _ _ h.0; previous = same_eq _ _ h.1.0; uncut = not-true _ c }

  live-good : live power r.drive ≡ true → Live power r.drive.error
  live-good e =
      let h = every_hold (not r.drive.error ∷ not (eqb power 0) ∷ []) e in
      record { clear = not-true _ h.0; alive = eqb-false _ _ (not-true _ h.1.0) }

  pub mode-good : (k : Mode) → mode_fits k power r ≡ true → InMode k power r
  mode-good Off e =
      let h = every_hold (still r.profile ∷ silent r.drive ∷ emptied r.memory ∷ unpulsed r.drive ∷ uncut r.drive ∷ []) e in
      (idle-good h.0 h.1.1.0 h.1.1.1.1.0, same_eq _ _ h.1.0, same_eq _ _ h.1.1.1.0)
  mode-good Pwm e =
      let h = every_hold (still r.profile ∷ emptied r.memory ∷ live power r.drive ∷ uncut r.drive ∷ []) e in
      (idle-good h.0 h.1.0 h.1.1.1.0, live-good h.1.1.0)
  mode-good Hold e =
      let h = every_hold (still r.profile ∷ unpulsed r.drive ∷ live power r.drive ∷ []) e in
      (same_eq _ _ h.0, same_eq _ _ h.1.0, live-good h.1.1.0)
  mode-good Velocity e =
      let h = every_hold (unpulsed r.drive ∷ live power r.drive ∷ []) e in
      (same_eq _ _ h.0, live-good h.1.0)
  mode-good Trapezoid e =
      let h = every_hold (unpulsed r.drive ∷ live power r.drive ∷ running r.profile ∷ []) e in
      (same_eq _ _ h.0, live-good h.1.0, (tested r.profile).0 h.1.1.0)

  emptied_fits : Idle r.profile.speed r.memory r.drive.cut → emptied r.memory ≡ true
  unfolding emptied
  emptied_fits i =
      hold_every (same r.memory.integral (pos 0) ∷ same r.memory.previous (pos 0) ∷ [])
      (eq_same _ _ i.integral, (eq_same _ _ i.previous, tt))

  live_fits : Live power r.drive.error → live power r.drive ≡ true
  live_fits l =
      hold_every (not r.drive.error ∷ not (eqb power 0) ∷ []) (ap not l.clear, (ap not (ne_eqb _ _ l.alive), tt))

  pub mode_fits_lem : (k : Mode) → InMode k power r → mode_fits k power r ≡ true
  mode_fits_lem Off t =
      hold_every (still r.profile ∷ silent r.drive ∷ emptied r.memory ∷ unpulsed r.drive ∷ uncut r.drive ∷ [])
      (eq_same _ _ t.0.rest, (eq_same _ _ t.1, (emptied_fits t.0, (eq_same _ _ t.2, (ap not t.0.uncut, tt)))))
  mode_fits_lem Pwm t =
      hold_every (still r.profile ∷ emptied r.memory ∷ live power r.drive ∷ uncut r.drive ∷ [])
      (eq_same _ _ t.0.rest, (emptied_fits t.0, (live_fits t.1, (ap not t.0.uncut, tt))))
  mode_fits_lem Hold t =
      hold_every (still r.profile ∷ unpulsed r.drive ∷ live power r.drive ∷ [])
      (eq_same _ _ t.0, (eq_same _ _ t.1, (live_fits t.2, tt)))
  mode_fits_lem Velocity t = hold_every (unpulsed r.drive ∷ live power r.drive ∷ []) (eq_same _ _ t.0, (live_fits t.1, tt))
  mode_fits_lem Trapezoid t =
      hold_every (unpulsed r.drive ∷ live power r.drive ∷ running r.profile ∷ [])
      (eq_same _ _ t.0, (live_fits t.1, ((tested r.profile).1 t.2, tt)))
