-- What was sent, carried over one call more: a call that leaves what runs, a smooth Stop, a start, Set Parameters. Assumes nothing.
use mathlib.Core.Path.{◌≡◌, refl, sym, ap, ap₂, subst, ◌∙◌}
use mathlib.Core.Logic.{◌⊎◌, inl, inr}
use mathlib.Core.List.{List}
use mathlib.Core.Bool.{Bool, true, false, cond, not, ◌&&◌, true≢false, false≢true}
use Prim.Native.Nat.{ℕ, suc, ◌<◌, ◌≤◌}
use native.Mathlib.Omega.{arith}
use native.Mathlib.Nat.{le_refl}
use lib.Dec.{eqb}
use Rattle.base_integers.specs.Bits.{is_set}
use Rattle.line_receiver.specs.Frames.{Frame}
use Rattle.stepper_rules.specs.declared.Load.{Load}
use Rattle.stepper_rules.specs.declared.Motion.{Motion}
use Rattle.stepper_rules.specs.declared.Sample.{Sample}
use Rattle.stepper_rules.specs.declared.Stepper.{Stepper}
use Rattle.stepper_rules.specs.Carried.{needed, carried_in}
use Rattle.stepper_rules.specs.State.{rest, is_moving}
use Rattle.stepper_rules.specs.Ramp.{nearer, paced, changed, onward, ticked}
use Rattle.stepper_rules.specs.RampPromises.{greater}
use Rattle.stepper_rules.specs.Perform.{load_of, begun}
use Rattle.stepper_rules.specs.FramePromises.{Startable}
use Rattle.stepper_slot_rules.proofs.Steady.{by_test}
use Rattle.types_rules.specs.Table.{stepper}
use Rattle.demands_history_rules.specs.Calls.{Call}
use Rattle.demands_rules.specs.Place.{Stands, Executed}
use Rattle.demands_rules.specs.Loaded.{control, Has, Started}
use Rattle.demands_rules.proofs.Placing.{Only}
use Rattle.demands_rules.proofs.Since.{up_to, none_on, none_yet, since_on, since_first, began_on}
use Rattle.demands_stepper_rules.specs.Motion.{Moves}
use Rattle.demands_stepper_rules.specs.Sent.{speed_in, time_in, SetsMinimum, minimum_in, SlowsDown, Drops, Goes, Slowed, Stopping, MotionSent, MinimumSent}

-- ---- what a Load brings stands in its bytes

module _ (f : Frame) where
  abbrev pub brought : Load
  brought = load_of (carried_in f.content)

  -- a number that is carried, if it is not 0
  carries : (t : Bool) (x : ℕ) → 1 ≤ cond t x 0 → t ≡ true
  carries true x h = refl
  carries false x h = absurd (omega arith)

  has_speed : 1 ≤ brought.speed → Has 1 f
  unfolding load_of carried_in
  has_speed h = carries (is_set 1 (control f)) _ h

  has_time : 1 ≤ brought.time → Has 2 f
  unfolding load_of carried_in
  has_time h = carries (is_set 2 (control f)) _ h

  speed_is : Has 1 f → brought.speed ≡ speed_in f
  unfolding load_of carried_in
  speed_is h = ap (λ (t : Bool). cond t (speed_in f) 0) h

  time_is : Has 2 f → brought.time ≡ time_in f
  unfolding load_of carried_in
  time_is h = ap (λ (t : Bool). cond t (time_in f) 0) h

  way_is : brought.backward ≡ is_set 4 (control f)
  unfolding load_of carried_in
  way_is = refl

-- ---- what runs as before, if it runs

pub record Same (p q : Motion) : Type 0 where
  pub moves : p.speed ≡ 0 → ⊥
  pub way : q.backward ≡ p.backward
  pub time : q.time ≡ p.time
  pub goal : q.goal ≡ p.goal
  pub stopping : q.stopping ≡ p.stopping

pub same-motion : (p : Motion) → (p.speed ≡ 0 → ⊥) → Same p p
same-motion p z = record { moves = z; way = refl; time = refl; goal = refl; stopping = refl }

-- a tick leaves direction, acceleration time and goal of what still moves
onward-same : (p : Motion) → ((onward p).speed ≡ 0 → ⊥) → Same p (onward p)
unfolding onward changed
onward-same p =
    by_test P (is_moving p) _ p
    (λ e.
    by_test P (eqb (suc p.ticks) p.time) (changed p) (paced p.speed (suc p.ticks) p)
    (λ t.
    by_test P (p.stopping && eqb p.speed p.goal) rest (paced (nearer p.speed p.goal) 0 p)
    (λ s z. absurd (z refl))
    (λ s z. record { moves = moving e; way = refl; time = refl; goal = refl; stopping = refl }))
    (λ t z. record { moves = moving e; way = refl; time = refl; goal = refl; stopping = refl }))
    (λ e z. same-motion p z)
  where
    P : Motion → Type 0
    P q = (q.speed ≡ 0 → ⊥) → Same p q

    moving : is_moving p ≡ true → p.speed ≡ 0 → ⊥
    moving e z = false≢true (sym (ap (λ (n : ℕ). not (eqb n 0)) z) ∙ e)

pub tick_same : (x : Sample) (m : Stepper) → Moves (ticked x m) → Same m.motion (ticked x m).motion
unfolding ticked
tick_same x m =
    by_test (λ (q : Motion). (q.speed ≡ 0 → ⊥) → Same m.motion q) x.stop rest (onward m.motion) (λ e z. absurd (z refl)) (λ e. onward-same m.motion)

module _ (net : List ℕ) (cs : List Call) (i : ℕ) where
  -- one call more, from m to k
  module _ (n : ℕ) (m k : Stepper) (stands : Stands stepper net cs i n m) (only : Only stepper net cs i (suc n) k) where
    -- so it is after each call since a start, if it is after this one
    each_on : (s : ℕ) → ((j : ℕ) (m : Stepper) → s < j → j ≤ n → Stands stepper net cs i j m → Stopping net cs i s j m) → Stopping net cs i s (suc n) k
        → (j : ℕ) (m : Stepper) → s < j → j ≤ suc n → Stands stepper net cs i j m → Stopping net cs i s j m
    each_on s h p j r l q e = at (up_to j n q)
      where
        at : (j ≤ n) ⊎ (j ≡ suc n) → Stopping net cs i s j r
        at (inl q) = h j r l q e
        at (inr q) =
            subst (λ (j : ℕ). Stopping net cs i s j r) (sym q)
            (subst (Stopping net cs i s (suc n)) (sym (only r (subst (λ (j : ℕ). Stands stepper net cs i j r) q e))) p)

    -- the motion goes on
    goes_on_lem : (b : MotionSent net cs i n) → ((before : Stepper) (f : Frame) → Goes before f m → Goes before f k)
        → (Stopping net cs i b.by n m → Stopping net cs i b.by (suc n) k) → MotionSent net cs i (suc n)
    goes_on_lem b g h =
        let l : b.by < n = b.began.earlier in
        record {
          by = b.by;
          began = began_on stepper needed Drops net cs i b.by n k b.began only (λ f x. x) (λ before m f x. x) (λ before f x. g before f (x n m l (le_refl n) stands));
          stopping = each_on b.by b.stopping (h (b.stopping n m l (le_refl n) stands));
        }

    -- as before
    pub same_sent : k.settings.minimum ≡ m.settings.minimum → (Moves k → Same m.motion k.motion)
        → ((f : Frame) → Executed stepper net cs i n f → SlowsDown f → ⊥) → (Moves m → MotionSent net cs i n) → Moves k → MotionSent net cs i (suc n)
    same_sent e s none sent z =
        let a = s z in
        goes_on_lem (sent a.moves)
        (λ before f x. record {
          moves = z;
          way = a.way ∙ x.way;
          time = a.time ∙ x.time;
          minimum = e ∙ x.minimum;
          goal = λ q. a.goal ∙ x.goal (sym a.stopping ∙ q);
          slowing = λ q. a.goal ∙ x.slowing (sym a.stopping ∙ q);
        })
        (λ x. record {
          goes = λ q. none_on stepper net cs i SlowsDown _ n (x.goes (sym a.stopping ∙ q)) none;
          slows = λ q. later (x.slows (sym a.stopping ∙ q));
        })
      where
        later : {s : ℕ} → Slowed net cs i s n → Slowed net cs i s (suc n)
        later x = record { by = x.by; stop = x.stop; later = x.later; earlier = omega (arith, x.earlier); executed = x.executed; smooth = x.smooth }

    -- a smooth Stop of what moves
    pub slow-sent : (f : Frame) → Executed stepper net cs i n f → SlowsDown f → Moves k
        → k.motion.backward ≡ m.motion.backward → k.motion.time ≡ m.motion.time → k.motion.stopping ≡ true
        → k.motion.goal ≡ m.settings.minimum → k.settings.minimum ≡ m.settings.minimum
        → MotionSent net cs i n → MotionSent net cs i (suc n)
    slow-sent f exec slows z way time stopping goal minimum b =
        goes_on_lem b
        (λ before g x. record {
          moves = z;
          way = way ∙ x.way;
          time = time ∙ x.time;
          minimum = minimum ∙ x.minimum;
          goal = λ q. absurd (true≢false (sym stopping ∙ q));
          slowing = λ q. goal ∙ x.minimum;
        })
        (λ x. record {
          goes = λ q. absurd (true≢false (sym stopping ∙ q));
          slows = λ q. record { by = n; stop = f; later = b.began.earlier; earlier = le_refl (suc n); executed = exec; smooth = slows };
        })

    -- a start of the Load f, which l has loaded
    pub start-sent : (l : Stepper) (f : Frame) → Started stepper needed Drops net cs i f n → l.load ≡ brought f → Startable l
        → l.settings.minimum ≡ m.settings.minimum → k.settings.minimum ≡ m.settings.minimum
        → k.motion ≡ begun l.settings.minimum l.load l.motion → MotionSent net cs i (suc n)
    unfolding begun
    start-sent l f st is can lowest minimum run =
        let h1 : Has 1 f = has_speed f (subst (λ (l : Load). 1 ≤ l.speed) is can.speed) in
        let h2 : Has 2 f = has_time f (subst (λ (l : Load). 1 ≤ l.time) is can.time) in
        let begins : Goes m f k = record {
          moves = λ z. moving (sym (ap (λ (p : Motion). p.speed) run) ∙ z);
          way = ap (λ (p : Motion). p.backward) run ∙ ap (λ (l : Load). l.backward) is ∙ way_is f;
          time = ap (λ (p : Motion). p.time) run ∙ ap (λ (l : Load). l.time) is ∙ time_is f h2;
          minimum = minimum;
          goal = λ q. ap (λ (p : Motion). p.goal) run ∙ ap₂ greater (ap (λ (l : Load). l.speed) is ∙ speed_is f h1) lowest;
          slowing = λ q. absurd (false≢true (sym (ap (λ (p : Motion). p.stopping) run) ∙ q));
        } in
        record {
          by = n;
          began = record {
            load = f;
            started = st;
            bits = (h1, h2);
            before = m;
            stood = stands;
            earlier = le_refl (suc n);
            since = since_first stepper net cs i (Goes m f) n k only begins;
          };
          stopping = each_on n (λ j m l q e. absurd (omega arith)) (record {
            goes = λ q. none_yet stepper net cs i SlowsDown n;
            slows = λ q. absurd (false≢true (sym (ap (λ (p : Motion). p.stopping) run) ∙ q));
          });
        }
      where
        moving : cond (is_moving l.motion) l.motion.speed l.settings.minimum ≡ 0 → ⊥
        moving =
            by_test (λ (v : ℕ). v ≡ 0 → ⊥) (not (eqb l.motion.speed 0)) l.motion.speed l.settings.minimum
            (λ e z. false≢true (sym (ap (λ (v : ℕ). not (eqb v 0)) z) ∙ e)) (λ e z. omega (arith, can.known))

    -- a minimum as before
    pub minimum-sent : k.settings.minimum ≡ m.settings.minimum → ((m.settings.minimum ≡ 0 → ⊥) → MinimumSent net cs i n m.settings.minimum)
        → (k.settings.minimum ≡ 0 → ⊥) → MinimumSent net cs i (suc n) k.settings.minimum
    minimum-sent e sent z =
        let b = subst (MinimumSent net cs i n) (sym e) (sent (λ q. z (e ∙ q))) in
        record {
          by = b.by;
          parameters = b.parameters;
          executed = b.executed;
          sets = b.sets;
          byte = b.byte;
          earlier = omega (arith, b.earlier);
          since = since_on stepper net cs i _ b.by n k b.since only refl;
        }

    -- a minimum that the frame f has set
    pub parameters-sent : (f : Frame) → Executed stepper net cs i n f → SetsMinimum f → k.settings.minimum ≡ minimum_in f
        → MinimumSent net cs i (suc n) k.settings.minimum
    parameters-sent f exec sets e = record {
      by = n;
      parameters = f;
      executed = exec;
      sets = sets;
      byte = e;
      earlier = le_refl (suc n);
      since = since_first stepper net cs i _ n k only refl;
    }
