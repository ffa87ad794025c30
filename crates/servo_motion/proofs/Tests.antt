-- Tested and InRanges: the tests of a profile say all that its records do. Assumes nothing.
use mathlib.Core.Path.{◌≡◌, refl, sym, ap}
use mathlib.Core.Bool.{Bool, true, false, not, ◌&&◌, ◌||◌, false≢true}
use borrow.Author.Tests.{eqb-false, ne_eqb, leb-true, le-leb, ltb-true, lt-ltb, not-true}
use Rattle.servo_motion.specs.Profile.{in_range, heads, running}
use Rattle.servo_motion.specs.Promises.{Tested, InRanges}

both : (u v : Bool) → (u && v) ≡ true → (u ≡ true) × (v ≡ true)
both true v e = (refl, e)
both false v e = absurd (false≢true e)

join : {u v : Bool} → u ≡ true → v ≡ true → (u && v) ≡ true
join e f = rw (e, f) refl

-- an alternative as a condition
instead : (u v : Bool) → (u || v) ≡ true → u ≡ false → v ≡ true
instead true v e f = absurd (false≢true (sym f))
instead false v e f = e

unless : (u v : Bool) → (u ≡ false → v ≡ true) → (u || v) ≡ true
unless true v h = refl
unless false v h = h refl

pub tested : Tested
unfolding running heads
tested p = (
  λ e.
      let n = both _ _ e in
      let s = both _ _ n.0 in
      let h = both _ _ s.0 in
      let f = both _ _ h.0 in
      let w = both _ _ h.1 in
      record {
        force = ltb-true _ _ f.0;
        forth = instead _ _ w.0;
        back = instead _ _ w.1;
        stops = record { slow = leb-true _ _ f.1; room = leb-true _ _ s.1 };
        near = eqb-false _ _ (not-true _ n.1);
      },
  λ r.
      join
      (join
      (join (join (lt-ltb _ _ r.force) (le-leb _ _ r.stops.slow)) (join (unless _ _ r.forth) (unless _ _ r.back)))
      (le-leb _ _ r.stops.room))
      (ap not (ne_eqb _ _ r.near)),
)

pub in_ranges : InRanges
unfolding in_range
in_ranges p s g = (
  λ e.
      let t = both _ _ e in
      let a = both _ _ t.0 in
      let v = both _ _ a.0 in
      record {
        setpoint = s;
        speed = leb-true _ _ v.0;
        goal = g;
        aim = leb-true _ _ v.1;
        acceleration = leb-true _ _ a.1;
        top = leb-true _ _ t.1;
      },
  λ r. join (join (join (le-leb _ _ r.speed) (le-leb _ _ r.aim)) (le-leb _ _ r.acceleration)) (le-leb _ _ r.top),
)
