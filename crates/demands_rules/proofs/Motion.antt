-- Demand 1 at one servo: what begins motion is one of the three starts. Assumes nothing.
use mathlib.Core.Path.{◌≡◌, refl, sym, ap, ap₂, subst, ◌∙◌}
use mathlib.Core.Logic.{◌⊎◌, inl, inr}
use mathlib.Core.Bool.{Bool, true, false, true≢false, false≢true}
use Prim.Native.Nat.{ℕ}
use native.Mathlib.Omega.{arith}
use lib.ListN.{length}
use lib.Dec.{eqb}
use lib.IntN.{ℤ, pos, nat_abs, ◌-ℤ◌}
use Rattle.base_integers.specs.Whole.{same}
use Rattle.base_integers.proofs.Same.{same_eq, eq_same}
use Rattle.line_receiver.specs.Frames.{Frame}
use Rattle.servo_motion.specs.declared.Profile.{Profile}
use Rattle.servo_motion.specs.Trapezoid.{next_speed}
use Rattle.servo_motion.specs.Profile.{Ranged, left, trapezoid, stepped, by_trapezoid, by_velocity}
use Rattle.servo_motion.specs.Promises.{CanStop, Running}
use Rattle.servo_motion.proofs.Speeds.{still_stops}
use Rattle.servo_motion.proofs.Runs.{taken}
use Rattle.module_rules.specs.declared.Station.{Station}
use Rattle.module_rules.specs.Rules.{Request, malformed, set, reset, wants}
use Rattle.servo_rules.specs.declared.Halt.{Halt}
use Rattle.servo_rules.specs.declared.Halt.TheVariants.{Keep, Release, Abrupt, Smooth, Here}
use Rattle.servo_rules.specs.declared.Order.{Order}
use Rattle.servo_rules.specs.declared.Order.TheVariants.{ResetPosition, LoadTrajectory, Start, SetGain, Stop, SetHoming, ClearBits}
use Rattle.servo_rules.specs.declared.Mode.{Mode}
use Rattle.servo_rules.specs.declared.Mode.TheVariants.{Off, Pwm, Hold, Velocity, Trapezoid}
use Rattle.servo_rules.specs.declared.Run.{Run}
use Rattle.servo_rules.specs.declared.Sample.{Sample}
use Rattle.servo_rules.specs.declared.Servo.{Servo}
use Rattle.servo_rules.specs.State.{position, servo_off, with_station, with_profile, idled, off}
use Rattle.servo_rules.specs.Loads.{loaded, starts_now, start, to_speed}
use Rattle.servo_rules.specs.Stops.{holding, smooth, halted_by}
use Rattle.servo_rules.specs.Perform.{reset_position, shifted, stopped, can, perform}
use Rattle.servo_rules.specs.Tick.{advanced_by, advanced, tripped, pulsed, met, ticked}
use Rattle.servo_rules.specs.Answers as Answers
use Rattle.servo_rules.specs.Answers.{request, with_cause, execute}
use Rattle.servo_rules.specs.LoadPromises.{Startable, Starting}
use Rattle.servo_rules.specs.StopPromises.{Counted}
use Rattle.servo_rules.specs.RestPromises.{Resting, following}
use Rattle.servo_rules.proofs.Known.{Known, known}
use Rattle.servo_rules.proofs.Keeping.{by_test, either, number, distinct}
use Rattle.servo_rules.proofs.Framed.{leaves}
use Rattle.servo_rules.proofs.Starting.{starts, start_now}
use Rattle.servo_rules.proofs.Stopping.{stops_now}
use Rattle.servo_rules.proofs.Shifting.{resets_position}
use Rattle.servo_rules.proofs.Ends.{tick_ends}
use Rattle.servo_rules.proofs.Ticking.{ticks}
use Rattle.servo_rules.proofs.FindingHome.{homing_ticks, Meeting, ran, ended, stands, slows, meeting}
use Rattle.servo_rules.proofs.AtRest.{stays_resting}
use Rattle.servo_rules.proofs.Placing.{only_here}
use Rattle.servo_rules.proofs.TurningOn.{turns_on_here}
use Rattle.servo_slot_rules.specs.Promises.{Fits}
use Rattle.servo_slot_rules.proofs.Modes.{InMode}
use Rattle.servo_slot_rules.proofs.Good.{good}
use Rattle.types_rules.specs.Table.{servo}
use Rattle.types_rules.proofs.Promised.{every_type}
use Rattle.demands_rules.specs.Motion.{Moves, Bound, AtRest, SetsOut, moving, bound, Begins, out, put, turned_on, Asks, LoadStarts, by_start, by_load, Starts, of_load, by_stop_here, StartsAreExecuted}
use Rattle.demands_rules.specs.Loaded.{control}
use Rattle.demands_rules.proofs.Reading.{here_five}

-- the servos that a slot can hold have counts within their bytes
pub counted : (m : Servo) → Fits m → Counted m
counted m t =
    let g = good m t in
    record { profile = g.sane.profile; raw = omega (arith, g.latched.1.1); last = omega (arith, g.counts.1) }

-- a number is 0 or not
pub zero? : (z : ℤ) → (z ≡ pos 0) ⊎ (z ≡ pos 0 → ⊥)
zero? z = at (same z (pos 0)) refl
  where
    at : (t : Bool) → same z (pos 0) ≡ t → (z ≡ pos 0) ⊎ (z ≡ pos 0 → ⊥)
    at true e = inl (same_eq z (pos 0) e)
    at false e = inr (λ q. false≢true (sym e ∙ eq_same z (pos 0) q))

stable : (z : ℤ) → ((z ≡ pos 0 → ⊥) → ⊥) → z ≡ pos 0
stable z h = at (zero? z)
  where
    at : (z ≡ pos 0) ⊎ (z ≡ pos 0 → ⊥) → z ≡ pos 0
    at (inl e) = e
    at (inr n) = absurd (h n)

-- moving and on the way to it, of what runs
abbrev Goes : Run → Type 0
Goes r = (r.profile.speed ≡ pos 0 → ⊥) ⊎ (r.drive.pulse ≡ pos 0 → ⊥)

abbrev Aims : Run → Type 0
Aims r =
    ((r.drive.mode ≡ Velocity) × (r.profile.aim ≡ pos 0 → ⊥))
    ⊎ ((r.drive.mode ≡ Trapezoid) × (left r.profile ≡ pos 0 → ⊥))

-- ---- at rest is neither moving nor on the way to it

rests_still : (m : Servo) → Resting m → Moves m → ⊥
rests_still m r (inl n) = n r.speed
rests_still m r (inr n) = n r.pulse

rests_unbound : (m : Servo) → Resting m → Bound m → ⊥
rests_unbound m r (inl b) = b.1 (r.aim b.0)
rests_unbound m r (inr b) = b.1 (r.goal b.0)

pub resting_rests : (m : Servo) → Resting m → AtRest m
resting_rests m r = (rests_still m r, rests_unbound m r)

pub rests_resting : (m : Servo) → AtRest m → Resting m
rests_resting m (n, b) = record {
  speed = stable _ (λ z. n (inl z));
  pulse = stable _ (λ z. n (inr z));
  aim = λ e. stable _ (λ z. b (inl (e, z)));
  goal = λ e. stable _ (λ z. b (inr (e, z)));
}

-- in any mode but the two no goal is gone to
mode_unbound : (k : Mode) → eqb (number k) 3 ≡ false → eqb (number k) 4 ≡ false → (r : Run) → r.drive.mode ≡ k → Aims r → ⊥
mode_unbound k x y r e (inl b) = distinct k Velocity x (sym e ∙ b.0)
mode_unbound k x y r e (inr b) = distinct k Trapezoid y (sym e ∙ b.0)

bound? : (m : Servo) → Bound m ⊎ (Bound m → ⊥)
bound? m = at m.run.drive.mode refl
  where
    fast : m.run.drive.mode ≡ Velocity → (m.run.profile.aim ≡ pos 0) ⊎ (m.run.profile.aim ≡ pos 0 → ⊥) → Bound m ⊎ (Bound m → ⊥)
    fast e (inr n) = inl (inl (e, n))
    fast e (inl z) = inr no
      where
        no : Bound m → ⊥
        no (inl b) = b.1 z
        no (inr b) = distinct Velocity Trapezoid refl (sym e ∙ b.0)

    far : m.run.drive.mode ≡ Trapezoid → (left m.run.profile ≡ pos 0) ⊎ (left m.run.profile ≡ pos 0 → ⊥) → Bound m ⊎ (Bound m → ⊥)
    far e (inr n) = inl (inr (e, n))
    far e (inl z) = inr no
      where
        no : Bound m → ⊥
        no (inl b) = distinct Trapezoid Velocity refl (sym e ∙ b.0)
        no (inr b) = b.1 z

    at : (k : Mode) → m.run.drive.mode ≡ k → Bound m ⊎ (Bound m → ⊥)
    at Off e = inr (mode_unbound Off refl refl m.run e)
    at Pwm e = inr (mode_unbound Pwm refl refl m.run e)
    at Hold e = inr (mode_unbound Hold refl refl m.run e)
    at Velocity e = fast e (zero? m.run.profile.aim)
    at Trapezoid e = far e (zero? (left m.run.profile))

-- ---- which frames are one of the three

abbrev is_here : Halt → Bool
is_here Keep = false
is_here Release = false
is_here Abrupt = false
is_here Smooth = false
is_here Here = true

abbrev StopsHere : Order → Type 0
StopsHere ResetPosition = ⊥
StopsHere (LoadTrajectory c) = ⊥
StopsHere Start = ⊥
StopsHere (SetGain t) = ⊥
StopsHere (Stop a h x) = is_here h ≡ true
StopsHere (SetHoming b) = ⊥
StopsHere ClearBits = ⊥

abbrev order_in : Request Order → Order
order_in (malformed x) = Start
order_in (set s) = Start
order_in reset = Start
order_in (wants c) = c

abbrev is_wanted : Request Order → Bool
is_wanted (malformed x) = false
is_wanted (set s) = false
is_wanted reset = false
is_wanted (wants c) = true

module _ (f : Frame) (alone : Bool) (m : Servo) where
  -- the frame is an order that is carried out
  abbrev Obeyed : Order → Type 0
  Obeyed c = (f.damaged ≡ false) × (request f alone ≡ wants c) × (can c m ≡ true)

  -- no order such as P is carried out
  abbrev None : (Order → Type 0) → Type 0
  None P = (c : Order) → Obeyed c → P c → ⊥

  -- what every order such as P brings, if it is carried out, or there is none
  found : (P : Order → Type 0) (S : Type 0) → ((c : Order) → Obeyed c → S ⊎ (P c → ⊥)) → S ⊎ None P
  found P S h = at f.damaged refl (request f alone) refl
    where
      known : (c : Order) → request f alone ≡ wants c → S ⊎ (P c → ⊥) → S ⊎ None P
      known c e (inl s) = inl s
      known c e (inr n) = inr (λ b o z. n (subst P (ap order_in (sym o.1 ∙ e)) z))

      able : (c : Order) → f.damaged ≡ false → request f alone ≡ wants c → (t : Bool) → can c m ≡ t → S ⊎ None P
      able c d e true t = known c e (h c (d, e, t))
      able c d e false t = inr (λ b o z. false≢true (sym t ∙ ap (λ (c : Order). can c m) (ap order_in (sym e ∙ o.1)) ∙ o.2))

      none : (q : Request Order) → request f alone ≡ q → is_wanted q ≡ false → S ⊎ None P
      none q e n = inr (λ c o z. false≢true (sym n ∙ ap is_wanted (sym e ∙ o.1)))

      at : (d : Bool) → f.damaged ≡ d → (q : Request Order) → request f alone ≡ q → S ⊎ None P
      at true d q e = inr (λ c o z. true≢false (sym d ∙ o.0))
      at false d (malformed x) e = none (malformed x) e refl
      at false d (set s) e = none (set s) e refl
      at false d reset e = none reset e refl
      at false d (wants c) e = able c d e (can c m) refl

  asks : {code count : ℕ} {c : Order} → f.damaged ≡ false → f.code ≡ code → length f.content ≡ count → request f alone ≡ wants c
      → Asks f alone code count c
  asks d k n q = record { undamaged = d; named = k; whole = n; order = q }

  load_starts? : LoadStarts f alone m ⊎ None Starting
  load_starts? = found Starting (LoadStarts f alone m) by
    where
      by : (c : Order) → Obeyed c → LoadStarts f alone m ⊎ (Starting c → ⊥)
      by ResetPosition o = inr (λ s. s)
      by (LoadTrajectory c) (d, q, t) = at (starts_now c) refl
        where
          at : (s : Bool) → starts_now c ≡ s → LoadStarts f alone m ⊎ (Starting (LoadTrajectory c) → ⊥)
          at true e =
              let v = subst (Known f) q (known f alone) in
              inl (by_load c (asks d v.0.0 v.0.1 q) e ((starts (loaded c m)).0 (sym ((start_now c m).now e) ∙ t)))
          at false e = inr (λ s. false≢true (sym e ∙ s))
      by Start (d, q, t) =
          let v = subst (Known f) q (known f alone) in
          inl (by_start (asks d v.0 v.1 q) ((starts m).0 t))
      by (SetGain g) o = inr (λ s. s)
      by (Stop a h x) o = inr (λ s. s)
      by (SetHoming b) o = inr (λ s. s)
      by ClearBits o = inr (λ s. s)

  stops_here? : Starts f alone m ⊎ None StopsHere
  stops_here? = found StopsHere (Starts f alone m) by
    where
      by : (c : Order) → Obeyed c → Starts f alone m ⊎ (StopsHere c → ⊥)
      by ResetPosition o = inr (λ s. s)
      by (LoadTrajectory c) o = inr (λ s. s)
      by Start o = inr (λ s. s)
      by (SetGain g) o = inr (λ s. s)
      by (Stop a Here x) (d, q, t) =
          let v = subst (Known f) q (known f alone) in
          inl (by_stop_here a x (asks d v.0 (v.3 ∙ here_five (control f) v.1) q) ((stops_now a x m).here.0 t))
      by (Stop a Keep x) o = inr false≢true
      by (Stop a Release x) o = inr false≢true
      by (Stop a Abrupt x) o = inr false≢true
      by (Stop a Smooth x) o = inr false≢true
      by (SetHoming b) o = inr (λ s. s)
      by ClearBits o = inr (λ s. s)

-- ---- what no other order begins

-- with no speed and no PWM value nothing moves
gone : (r n : Run) → n.profile.speed ≡ pos 0 → n.drive.pulse ≡ pos 0 → Goes n → Goes r
gone r n e q (inl z) = absurd (z e)
gone r n e q (inr z) = absurd (z q)

slow_moves : (r n : Run) → n.profile.speed ≡ r.profile.speed → n.drive.pulse ≡ pos 0 → Goes n → Goes r
slow_moves r n e q (inl z) = inl (λ s. z (e ∙ s))
slow_moves r n e q (inr z) = absurd (z q)

-- what a smooth stop makes of what runs with the servo on
abbrev slowed : Run → Run
slowed r = to_speed r.profile.setpoint (pos 0) r.profile.acceleration r

halted_moves : (h : Halt) (here x : ℕ) (r : Run) → Goes (halted_by h here x r) → Goes r
unfolding holding off idled smooth to_speed
halted_moves Keep here x r = λ z. z
halted_moves Release here x r = gone r (off r) refl refl
halted_moves Abrupt here x r = gone r (holding here r) refl refl
halted_moves Smooth here x r =
    either (λ (n : Run). Goes n → Goes r) (servo_off r.drive.mode) (off r) (slowed r) (gone r (off r) refl refl) (slow_moves r (slowed r) refl refl)
halted_moves Here here x r = gone r (holding x r) refl refl

halted_bound : (h : Halt) (here x : ℕ) (r : Run) → Aims (halted_by h here x r) → Aims r
unfolding holding off idled smooth to_speed
halted_bound Keep here x r = λ b. b
halted_bound Release here x r = λ b. absurd (mode_unbound Off refl refl (off r) refl b)
halted_bound Abrupt here x r = λ b. absurd (mode_unbound Hold refl refl (holding here r) refl b)
halted_bound Smooth here x r =
    either (λ (n : Run). Aims n → Aims r) (servo_off r.drive.mode) (off r) (slowed r)
    (λ b. absurd (mode_unbound Off refl refl (off r) refl b))
    no
  where
    no : Aims (slowed r) → Aims r
    no (inl b) = absurd (b.1 refl)
    no (inr b) = absurd (distinct Velocity Trapezoid refl b.0)
halted_bound Here here x r = λ b. absurd (mode_unbound Hold refl refl (holding x r) refl b)

order_moves : (c : Order) (m : Servo) → (Starting c → ⊥) → Moves (perform c m) → Moves m
unfolding reset_position shifted loaded stopped
order_moves ResetPosition m n = λ z. z
order_moves (LoadTrajectory c) m n =
    by_test (λ (k : Servo). Moves k → Moves m) (starts_now c) (start (loaded c m)) (loaded c m) (λ t. absurd (n t)) (λ t z. z)
order_moves Start m n = absurd (n tt)
order_moves (SetGain t) m n = λ z. z
order_moves (Stop a h x) m n = halted_moves h (position m) x m.run
order_moves (SetHoming b) m n = λ z. z
order_moves ClearBits m n = λ z. z

order_bound : (c : Order) (m : Servo) → Counted m → (Starting c → ⊥) → Bound (perform c m) → Bound m
unfolding reset_position shifted loaded stopped
order_bound ResetPosition m k n = back
  where
    back : Bound (reset_position m) → Bound m
    back (inl b) = inl b
    back (inr b) = inr (b.0, λ e. b.1 ((resets_position m k).far ∙ e))
order_bound (LoadTrajectory c) m k n =
    by_test (λ (k : Servo). Bound k → Bound m) (starts_now c) (start (loaded c m)) (loaded c m) (λ t. absurd (n t)) (λ t b. b)
order_bound Start m k n = absurd (n tt)
order_bound (SetGain t) m k n = λ b. b
order_bound (Stop a h x) m k n = halted_bound h (position m) x m.run
order_bound (SetHoming b) m k n = λ b. b
order_bound ClearBits m k n = λ b. b

-- what neither another station nor Hard Reset nor an order that does not start brings about no frame brings about, unless it starts
frame_back : (P : Servo → Type 0) (f : Frame) (alone : Bool) (m : Servo)
    → ((s : Station) → P (with_station s m) → P m)
    → (P (with_cause 0 ((Answers.servo).renewed m)) → P m)
    → ((c : Order) → (Starting c → ⊥) → P (with_cause 0 (perform c m)) → P m)
    → None f alone m Starting
    → P (execute f alone m) → P m
frame_back P f alone m w r o u =
    leaves (λ (k : Servo). P k → P m) f alone m (record { kept = w; renewed = λ d q. r; performed = λ c d q t. o c (u c (d, q, t)) })

frame_moves : (f : Frame) (alone : Bool) (m : Servo) → None f alone m Starting → Moves (execute f alone m) → Moves m
frame_moves f alone m u z =
    frame_back Moves f alone m (λ s z. z) (gone m.run ((Answers.servo).renewed m).run refl refl) (λ c s. order_moves c m s) u z

frame_bound : (f : Frame) (alone : Bool) (m : Servo) → Fits m → None f alone m Starting → Bound (execute f alone m) → Bound m
frame_bound f alone m t u b =
    frame_back Bound f alone m (λ s z. z)
    (λ z. absurd (mode_unbound Off refl refl ((Answers.servo).renewed m).run refl z))
    (λ c s. order_bound c m (counted m t) s) u b

-- a frame that sets a servo out starts a load
pub frame_sets_out : (f : Frame) (alone : Bool) (m : Servo) → Fits m → SetsOut m (execute f alone m) → LoadStarts f alone m
frame_sets_out f alone m t b = at (load_starts? f alone m)
  where
    none : None f alone m Starting → SetsOut m (execute f alone m) → ⊥
    none u (moving n z) = n (frame_moves f alone m u z)
    none u (bound n z) = n (frame_bound f alone m t u z)

    at : LoadStarts f alone m ⊎ None f alone m Starting → LoadStarts f alone m
    at (inl s) = s
    at (inr u) = absurd (none u b)

-- a frame that begins motion is one of the three
pub frame_starts : (f : Frame) (alone : Bool) (m : Servo) → Fits m → Begins m (execute f alone m) → Starts f alone m
frame_starts f alone m t (out b) = of_load (frame_sets_out f alone m t b)
frame_starts f alone m t (put a z) = at (stops_here? f alone m)
  where
    by : (following (execute f alone m) ≡ following m) ⊎ (following (execute f alone m) ≡ pos 0) → ⊥
    by (inl e) = a e
    by (inr e) = z e

    at : Starts f alone m ⊎ None f alone m StopsHere → Starts f alone m
    at (inl s) = s
    at (inr u) = absurd (by (only_here f alone m (counted m t) (λ h x d q k. u (Stop h Here x) (d, q, k) refl)))
frame_starts f alone m t (turned_on a b z) = at (stops_here? f alone m)
  where
    at : Starts f alone m ⊎ None f alone m StopsHere → Starts f alone m
    at (inl s) = s
    at (inr u) = absurd (z (turns_on_here f alone m (counted m t) (λ h x d q k. u (Stop h Here x) (d, q, k) refl) a b))

-- what either start of a load leaves: the servo started with the load that waited, or with the one that came
pub load-started : (f : Frame) (alone : Bool) (m : Servo) → LoadStarts f alone m
    → (b : Servo) × Startable b × (execute f alone m ≡ with_cause 0 (start b))
load-started f alone m (by_start a s) = (m, s, ((every_type servo).cause f alone m).executed Start a.undamaged a.order ((starts m).1 s))
load-started f alone m (by_load c a e s) = (
  loaded c m,
  s,
  ((every_type servo).cause f alone m).executed (LoadTrajectory c) a.undamaged a.order ((start_now c m).now e ∙ (starts (loaded c m)).1 s)
      ∙ ap (with_cause 0) ((start_now c m).does e),
)

pub starts_are_executed : StartsAreExecuted
starts_are_executed f alone m (of_load l) = ap (λ (k : Servo). k.station.cause) (load-started f alone m l).2
starts_are_executed f alone m (by_stop_here h x a r) =
    ap (λ (k : Servo). k.station.cause) (((every_type servo).cause f alone m).executed (Stop h Here x) a.undamaged a.order ((stops_now h x m).here.1 r))

-- ---- ticks

-- a trapezoid with no distance left has none after a tick
at_goal : (p : Profile) → Ranged p → Running p → left p ≡ pos 0 → left (by_trapezoid p) ≡ pos 0
unfolding by_trapezoid stepped trapezoid
at_goal p r s e =
    let c : CanStop p.acceleration p.top 0 (nat_abs p.speed) = subst (λ (z : ℤ). CanStop p.acceleration p.top (nat_abs z) (nat_abs p.speed)) e s.stops in
    let w : ℕ = next_speed p.acceleration p.top 0 (nat_abs p.speed) in
    let h : w ≡ 0 = omega (arith, (still_stops p.acceleration p.top 0 (nat_abs p.speed) s.force c).0) in
    let v : (by_trapezoid p).speed ≡ pos 0 = ap (λ (z : ℤ). trapezoid p.acceleration p.top z p.speed) e ∙ ap pos h in
    taken p r s ∙ ap₂ ◌-ℤ◌ e v

-- on its way to speed 0 by homing's smooth stop
slowed_unbound : (x : Sample) (m : Servo) → (met x m).run.drive.mode ≡ Velocity → (met x m).run.profile.aim ≡ pos 0 → Bound (ticked x m) → ⊥
unfolding pulsed tripped idled off advanced by_velocity stepped
slowed_unbound x m k a =
    tick_ends (λ (n : Run). Aims n → ⊥) x m (record {
      off = λ q b. distinct Velocity Off refl (sym k ∙ q);
      pwm = λ q b. distinct Velocity Pwm refl (sym k ∙ q);
      output = λ s t q b. by b;
      trip = λ q b. mode_unbound Off refl refl (tripped (advanced (met x m).run) (met x m).run) refl b;
    })
  where
    by : Aims (with_profile (advanced (met x m).run) (met x m).run) → ⊥
    by (inl b) = b.1 (ap (λ (k : Mode). (advanced_by k (met x m).run.profile).aim) k ∙ a)
    by (inr b) = distinct Velocity Trapezoid refl (sym k ∙ b.0)

module _ (x : Sample) (m : Servo) (t : Fits m) where
  advanced_bound : Aims (with_profile (advanced m.run) m.run) → Bound m
  unfolding advanced by_velocity stepped
  advanced_bound (inl b) = inl (b.0, λ e. b.1 (ap (λ (k : Mode). (advanced_by k m.run.profile).aim) b.0 ∙ e))
  advanced_bound (inr b) =
      let s = (good m t).sane in
      let i = subst (λ (k : Mode). InMode k m.latched.power m.run) b.0 s.mode in
      inr (b.0, λ e. b.1 (ap (λ (k : Mode). left (advanced_by k m.run.profile)) b.0 ∙ at_goal m.run.profile s.profile i.2 e))

  pub ticked_bound : Bound (ticked x m) → Bound m
  unfolding pulsed tripped idled off to_speed
  ticked_bound = by (meeting x m)
    where
      on : (r : Run) → (met x m).run ≡ r → r ≡ m.run → Bound (ticked x m) → Bound m
      on r e s = tick_ends (λ (n : Run). Aims n → Bound m) x m (record {
        off = λ q b. subst Aims (e ∙ s) b;
        pwm = λ q b. subst Aims (e ∙ s) b;
        output = λ s' t q b. advanced_bound (subst (λ (r : Run). Aims (with_profile (advanced r) r)) (e ∙ s) b);
        trip = λ q b. absurd (mode_unbound Off refl refl (tripped (advanced (met x m).run) (met x m).run) refl b);
      })

      by : Meeting x m → Bound (ticked x m) → Bound m
      by (ran u e) = on (met x m).run refl e
      by (ended e) = λ b. absurd (mode_unbound Off refl refl (ticked x m).run (ap (λ (n : Servo). n.run.drive.mode) ((ticks x m).off e) ∙ e) b)
      by (stands a) = λ b. absurd (mode_unbound Hold refl refl (ticked x m).run ((homing_ticks x m).holds a).mode b)
      by (slows a o e) = λ b. absurd (slowed_unbound x m (ap (λ (r : Run). r.drive.mode) e) (ap (λ (r : Run). r.profile.aim) e) b)

  pub ticked_rests : Resting m → Resting (ticked x m)
  ticked_rests r = (stays_resting.tick x m (good m t).sane.profile.setpoint r).0

  pub ticked_moves : (Moves m → ⊥) → Moves (ticked x m) → Bound m
  ticked_moves n z = at (bound? m)
    where
      at : Bound m ⊎ (Bound m → ⊥) → Bound m
      at (inl b) = b
      at (inr u) = absurd (rests_still (ticked x m) (ticked_rests (rests_resting m (n, u))) z)

-- what leaves all as it was begins nothing
pub nothing_begins : (m k : Servo) → k.run ≡ m.run → following k ≡ following m → Begins m k → ⊥
nothing_begins m k e q (out (moving n z)) = n (subst Goes e z)
nothing_begins m k e q (out (bound n z)) = n (subst Aims e z)
nothing_begins m k e q (put a z) = a q
nothing_begins m k e q (turned_on a b z) = true≢false (sym a ∙ ap (λ (r : Run). servo_off r.drive.mode) (sym e) ∙ b)

-- at rest a servo stays, whatever frame comes, unless it starts a load
pub frame_rests : (f : Frame) (alone : Bool) (m : Servo) → Fits m → Resting m → LoadStarts f alone m ⊎ Resting (execute f alone m)
frame_rests f alone m t r = at (load_starts? f alone m)
  where
    at : LoadStarts f alone m ⊎ None f alone m Starting → LoadStarts f alone m ⊎ Resting (execute f alone m)
    at (inl s) = inl s
    at (inr u) = inr (stays_resting.frame f alone m (counted m t) r (λ c d q k. u c (d, q, k)))
