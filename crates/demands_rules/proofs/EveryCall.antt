-- Demand 1 through the exported calls. Assumes nothing.
use mathlib.Core.Path.{◌≡◌, refl, sym, subst, ◌∙◌}
use mathlib.Core.Logic.{◌⊎◌, inl, inr}
use mathlib.Core.List.{List}
use mathlib.Core.Bool.{Bool, true, false, true≢false}
use Prim.Native.Nat.{ℕ}
use Rattle.base_layout.specs.Bytes.{Bytes}
use Rattle.line_receiver.specs.Frames.{Frame}
use Rattle.servo_rules.specs.declared.Halt.TheVariants.{Abrupt}
use Rattle.servo_rules.specs.declared.Sample.{Sample}
use Rattle.servo_rules.specs.declared.Servo.{Servo}
use Rattle.servo_rules.specs.State.{servo_off, started}
use Rattle.servo_rules.specs.Tick.{ticked}
use Rattle.servo_rules.specs.Answers.{execute}
use Rattle.servo_rules.specs.RestPromises.{Resting, following}
use Rattle.servo_rules.specs.HomingPromises.{Acts, HeldHere}
use Rattle.servo_rules.proofs.FindingHome.{tick_turns_on}
use Rattle.servo_rules.proofs.AtRest.{stays_resting}
use Rattle.servo_slot_rules.specs.Promises.{Fits}
use Rattle.types_rules.specs.Table.{servo}
use Rattle.types_rules.specs.Types.{slots}
use Rattle.net_rules.specs.Record.{net_in}
use Rattle.api_rules.specs.Promises.{ValidRecord}
use Rattle.demands_history_rules.specs.Calls.{Call, tick, Handed, leaves}
use Rattle.demands_rules.specs.ServoPlace.{servo_sample_at, At}
use Rattle.demands_rules.specs.Motion.{Moves, Bound, SetsOut, Begins, out, AtRest, LoadStarts, by_start, by_load, Starts, of_load, by_stop_here, CallStarts, EveryCall, Never, NeverFromSetup}
use Rattle.demands_rules.specs.SettingOut.{SettingOut}
use Rattle.demands_rules.proofs.SettingOut as AnyType
use Rattle.demands_rules.proofs.SettingOut.{line_starts}
use Rattle.demands_rules.proofs.Making.{same_place, fits_at, Made, same, framed, timed, made, set_up_is}
use Rattle.demands_rules.proofs.Motion.{resting_rests, rests_resting, frame_sets_out, frame_starts, frame_rests, ticked_bound, ticked_moves, ticked_rests, nothing_begins}

-- ---- what begins motion

load-undamaged : (f : Frame) (alone : Bool) (m : Servo) → LoadStarts f alone m → f.damaged ≡ false
load-undamaged f alone m (by_start a s) = a.undamaged
load-undamaged f alone m (by_load c a e s) = a.undamaged

undamaged : (f : Frame) (alone : Bool) (m : Servo) → Starts f alone m → f.damaged ≡ false
undamaged f alone m (of_load s) = load-undamaged f alone m s
undamaged f alone m (by_stop_here h x a r) = a.undamaged

command : (net : List ℕ) (c : Call) (i : ℕ) (m k : Servo) → Handed c → ValidRecord net → At net i m → At (leaves net c) i k
    → ((samples : List ℕ) → c ≡ tick samples → ⊥) → (Begins m k → CallStarts Starts net i m c) × (SetsOut m k → CallStarts LoadStarts net i m c)
command net c i m k h v e q n =
    let (k', q', d) = made servo net c i m h v e in
    let z : k' ≡ k = same_place servo (net_in slots (leaves net c)).modules i k' k q' q in
    subst (λ (k : Servo). (Begins m k → CallStarts Starts net i m c) × (SetsOut m k → CallStarts LoadStarts net i m c)) z (by c k' d n)
  where
    none : (k : Servo) {A B : Type 0} → k.run ≡ m.run → following k ≡ following m → (Begins m k → A) × (SetsOut m k → B)
    none k r f = (λ b. absurd (nothing_begins m k r f b), λ b. absurd (nothing_begins m k r f (out b)))

    by : (c : Call) (k : Servo) → Made servo net i m c k → ((samples : List ℕ) → c ≡ tick samples → ⊥) → (Begins m k → CallStarts Starts net i m c) × (SetsOut m k → CallStarts LoadStarts net i m c)
    by _ _ (same c _ _) n = none m refl refl
    by _ _ (framed mark x room d goes a t) n = (
      λ b. (goes, line_starts servo Starts undamaged (net_in slots net) i m mark x d a t (frame_starts _ _ m (fits_at servo net i m v e) b)),
      λ b. (goes, line_starts servo LoadStarts load-undamaged (net_in slots net) i m mark x d a t (frame_sets_out _ _ m (fits_at servo net i m v e) b)),
    )
    by _ _ (timed samples _ _) n = absurd (n samples refl)

-- what a tick with the sample x can make of m
abbrev Onward : Sample → Servo → Servo → Type 0
Onward x m k =
    ((Moves m → ⊥) → Moves k → Bound m)
    × (Bound k → Bound m)
    × (servo_off m.run.drive.mode ≡ true → servo_off k.run.drive.mode ≡ false → Acts Abrupt x m × HeldHere k)

tick_call : (net samples : List ℕ) (i : ℕ) (m k : Servo) → Bytes samples → ValidRecord net → At net i m → At (leaves net (tick samples)) i k
    → Onward (servo_sample_at samples i) m k
tick_call net samples i m k b v e q =
    let (k', q', d) = made servo net (tick samples) i m b v e in
    let z : k' ≡ k = same_place servo (net_in slots (leaves net (tick samples))).modules i k' k q' q in
    subst (Onward (servo_sample_at samples i) m) z (by k' d)
  where
    t : Fits m
    t = fits_at servo net i m v e

    by : (k : Servo) → Made servo net i m (tick samples) k → Onward (servo_sample_at samples i) m k
    by _ (same c _ _) = (λ n z. absurd (n z), λ b. b, λ o n. absurd (true≢false (sym o ∙ n)))
    by _ (timed _ _ _) =
        let x : Sample = servo_sample_at samples i in
        (ticked_moves x m t, ticked_bound x m t, tick_turns_on x m)

pub every_call : EveryCall
every_call = record {
  command = command;
  tick = tick_call;
  setup = λ net types i k p e. resting_rests k (subst Resting (set_up_is servo net types i k p e) stays_resting.power);
}

-- ---- histories of calls

-- a servo at rest sets out by a load's start alone
pub sets_out : SettingOut servo AtRest LoadStarts
sets_out = record {
  undamaged = load-undamaged;
  frame = λ f alone m t r. at (execute f alone m) (frame_rests f alone m t (rests_resting m r));
  tick = λ x m t r. resting_rests (ticked x m) (ticked_rests x m t (rests_resting m r));
  power = resting_rests started stays_resting.power;
}
  where
    at : {A : Type 0} (k : Servo) → A ⊎ Resting k → A ⊎ AtRest k
    at k (inl s) = inl s
    at k (inr z) = inr (resting_rests k z)

pub never : Never
never = AnyType.never servo AtRest LoadStarts sets_out

pub never_from_setup : NeverFromSetup
never_from_setup = AnyType.never_from_setup servo AtRest LoadStarts sets_out
