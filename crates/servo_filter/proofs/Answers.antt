-- What the answers say: Trips, Works, OnlyTheIntegral, WindsUpNoMore, Pushed, Lowered, Within and Keeps. Assumes nothing.
use mathlib.Core.Path.{◌≡◌, refl, ap, sym, ◌∙◌}
use mathlib.Core.Bool.{Bool, true, false, true≢false}
use mathlib.Core.List.{List, [], ◌∷◌}
use Prim.Native.Nat.{◌≤◌, ◌<◌}
use native.Mathlib.Omega.{arith}
use borrow.Author.Tests.{leb-true, leb-false, le-leb, lt-leb}
use lib.Dec.{leb}
use lib.IntN.{ℤ, nat_abs, ◌+ℤ◌}
use Rattle.servo_filter.specs.declared.Gains.{Gains}
use Rattle.servo_filter.specs.declared.Memory.{Memory}
use Rattle.servo_filter.specs.Filter.{Kept, held, drive, scaled, driven, summed, limited, filtered, Told, told, Tick, told_at, after}
use Rattle.servo_filter.specs.Promises.{Trips, Works, base, AsTheBase, OnlyTheIntegral, AllCut, WindsUpNoMore, wound_by, Pushed, Lowered, Within, Keeps}
use Rattle.servo_filter.proofs.Held.{held_most}
use Rattle.servo_filter.proofs.Limiting.{lies}
use Rattle.servo_filter.proofs.Telling.{said, plain-told, cut-told, answer_within}

pub trips : Trips
unfolding filtered
trips g m e h = rw (lt-leb (nat_abs e) g.el h) refl

pub works : Works
works g m e h =
    let q = ap told (answer_within g m e h) in
    record { plain = λ l. q ∙ plain-told g m e (lies g.ol _) l; cut = λ l. q ∙ cut-told g m e (lies g.ol _) l }

-- an error above EL, or a tick that is plain or cut
pub data Ends (g : Gains) (m : Memory) (e : ℤ) : Type 0 where
  tripped : g.el < nat_abs e → Ends g m e
  plain : nat_abs e ≤ g.el → nat_abs (scaled (driven g m e)) ≤ g.ol → Ends g m e
  cut : nat_abs e ≤ g.el → g.ol < nat_abs (scaled (driven g m e)) → Ends g m e

pub ends : (g : Gains) (m : Memory) (e : ℤ) → Ends g m e
ends g m e = at (leb (nat_abs e) g.el) refl (leb (nat_abs (scaled (driven g m e))) g.ol) refl
  where
    at : (s : Bool) → leb (nat_abs e) g.el ≡ s → (t : Bool) → leb (nat_abs (scaled (driven g m e))) g.ol ≡ t → Ends g m e
    at false h t k = tripped (leb-false _ _ h)
    at true h true k = plain (leb-true _ _ h) (leb-true _ _ k)
    at true h false k = cut (leb-true _ _ h) (leb-false _ _ k)

-- what is told of the output and of what trips, and all of it where nothing is cut, is what the base told
as_the_base : (t u : Told) → t.trips ≡ u.trips → t.output ≡ u.output → t.memory.previous ≡ u.memory.previous → (t.cut ≡ false → t ≡ u)
    → (g : Gains) (m : Memory) (e : ℤ) → told (filtered g m e) ≡ t → base g m e ≡ u → AsTheBase g m e
as_the_base t u x y z w g m e p q = record {
  trips = ap (λ (t : Told). t.trips) p ∙ x ∙ sym (ap (λ (t : Told). t.trips) q);
  output = ap (λ (t : Told). t.output) p ∙ y ∙ sym (ap (λ (t : Told). t.output) q);
  previous = ap (λ (t : Told). t.memory.previous) p ∙ z ∙ sym (ap (λ (t : Told). t.memory.previous) q);
  uncut = λ c. p ∙ w (sym (ap (λ (t : Told). t.cut) p) ∙ c) ∙ sym q;
}

pub only_the_integral : OnlyTheIntegral
only_the_integral g m e = at (ends g m e)
  where
    at : Ends g m e → AsTheBase g m e
    at (tripped h) = as_the_base _ _ refl refl refl (λ c. refl) g m e (trips g m e h) (rw (lt-leb (nat_abs e) g.el h) refl)
    at (plain h l) = as_the_base _ _ refl refl refl (λ c. refl) g m e ((works g m e h).plain l) (rw (le-leb (nat_abs e) g.el h) refl)
    at (cut h l) =
        as_the_base _ (said g m e (summed g m e) false) refl refl refl (λ c. absurd (true≢false c)) g m e ((works g m e h).cut l)
        (rw (le-leb (nat_abs e) g.el h) refl)

-- a cut tick leaves the integral
pub cut-leaves : (g : Gains) (m : Memory) (e : ℤ) → (told (filtered g m e)).cut ≡ true → (told (filtered g m e)).memory.integral ≡ m.integral
cut-leaves g m e c = at (ends g m e)
  where
    at : Ends g m e → (told (filtered g m e)).memory.integral ≡ m.integral
    at (tripped h) = absurd (true≢false (sym c ∙ ap (λ (t : Told). t.cut) (trips g m e h)))
    at (plain h l) = absurd (true≢false (sym c ∙ ap (λ (t : Told). t.cut) ((works g m e h).plain l)))
    at (cut h l) = ap (λ (t : Told). t.memory.integral) ((works g m e h).cut l)

cut-ticks_leave : (ts : List Tick) (m : Memory) → AllCut ts m → (after ts m).integral ≡ m.integral
unfolding after AllCut
cut-ticks_leave [] m h = refl
cut-ticks_leave (t ∷ ts) m h = cut-ticks_leave ts (told_at t m).memory h.1 ∙ cut-leaves t.gains m t.error h.0

pub winds_up_no_more : WindsUpNoMore
winds_up_no_more ts m h =
    let e = cut-ticks_leave ts m h in
    (e, λ t. ap (λ (z : ℤ). held t.gains.il (z +ℤ t.error)) e)

pub pushed : Pushed
unfolding filtered limited held drive after AllCut wound_by
pushed = record { cut = (refl, (refl, (refl, tt))); stays = refl; before = refl }

pub lowered : Lowered
unfolding filtered limited held drive
lowered = record { stays = refl; then = refl; held = refl }

pub within : Within
within g m e = at (ends g m e)
  where
    at : Ends g m e → nat_abs (told (filtered g m e)).output ≤ g.ol
    at (tripped h) = rw (trips g m e h) (omega arith)
    at (plain h l) = rw ((works g m e h).plain l) (held_most g.ol _)
    at (cut h l) = rw ((works g m e h).cut l) (held_most g.ol _)

pub keeps : Keeps
keeps g m e r k = at (ends g m e)
  where
    at : Ends g m e → Kept (told (filtered g m e)).memory
    at (tripped h) = rw (trips g m e h) (record { integral = omega arith; previous = omega arith })
    at (plain h l) =
        rw ((works g m e h).plain l)
        (record {
          integral = let l = r.il in omega (arith, held_most g.il (m.integral +ℤ e));
          previous = let l = r.el in omega arith;
        })
    at (cut h l) = rw ((works g m e h).cut l) (record { integral = k.integral; previous = let l = r.el in omega arith })
