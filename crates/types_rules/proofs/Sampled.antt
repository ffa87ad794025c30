-- The samples of a tick's list: by their bytes, and that those in range are good ones. Assumes nothing.
use mathlib.Core.Path.{◌≡◌, refl, ap, ap₂, ◌∙◌}
use mathlib.Core.List.{List, [], ◌∷◌}
use mathlib.Core.Bool.{true}
use mathlib.Core.Option.{Option}
use Prim.Native.Nat.{ℕ, ◌+◌, ◌*◌}
use native.Mathlib.Omega.{arith}
use lib.Dec.{leb}
use lib.ListN.{get_or}
use borrow.Author.Tests.{leb-true, le-leb}
use Rattle.base_layout.specs.Bytes.{Bytes}
use Rattle.base_layout.proofs.Every.{every_hold, hold_every}
use Rattle.module_rules.specs.Slots.{measured_at}
use Rattle.types_rules.specs.Table.{ModuleType, servo, inout, Of, SampleOf, rules_of, sample_of, own_of}
use Rattle.types_rules.specs.Types.{Module, AnySample, kind, given, type_of_slot, sample_for, sample_in, in_range, Good}
use Rattle.types_rules.specs.Promises.{SampleBytes}
use Rattle.types_rules.proofs.Given.{own_of_lem}
use Rattle.types_rules.proofs.Dispatch.{type_at}

-- four bytes as a number
spelled : (a b c d : ℕ) → a + 256 * (b + 256 * (c + 256 * (d + 256 * 0))) ≡ a + 256 * b + 65536 * c + 16777216 * d
spelled a b c d = omega arith

pub sample_bytes : SampleBytes
sample_bytes = record {
  servo = λ power ad r0 r1 r2 r3 limits a b.
      ap (λ (raw : ℕ). let x : AnySample = (servo, record { raw = raw; power = power; ad = ad; inputs = limits }) in x) (spelled r0 r1 r2 r3);
  inout = λ i0 i1 ad1 ad2 ad3 c0 c1 c2 c3.
      let two : i0 + 256 * (i1 + 256 * 0) ≡ i0 + 256 * i1 = omega arith in
      ap₂ (λ (i k : ℕ). let x : AnySample = (inout, record { inputs = i; ad1 = ad1; ad2 = ad2; ad3 = ad3; counter = k }) in x) two (spelled c0 c1 c2 c3);
  stepper = λ a b c d e f g h. (refl, refl);
  power = λ p ad r0 r1 r2 r3 limits rest. (
    λ e. let h = every_hold (leb p 2 ∷ leb limits 3 ∷ []) e in (leb-true p 2 h.0, leb-true limits 3 h.1.0),
    λ h. hold_every (leb p 2 ∷ leb limits 3 ∷ []) (le-leb p 2 h.0, (le-leb limits 3 h.1, tt)),
  );
  inputs = λ i0 i1 rest l. (
    λ e. let h = leb-true i1 15 (every_hold (leb i1 15 ∷ []) e).0 in omega arith,
    λ h. hold_every (leb i1 15 ∷ []) (le-leb i1 15 (omega arith), tt),
  );
  stop = λ s rest. (λ e. leb-true s 1 (every_hold (leb s 1 ∷ []) e).0, λ h. hold_every (leb s 1 ∷ []) (le-leb s 1 h, tt));
}

pub own_tick_lem : (s : List ℕ) (t : ModuleType) (m : Of t) → get_or s 0 0 ≡ (rules_of t).number → kind.tick (sample_in s) (t, m) ≡ (t, (rules_of t).tick (sample_for t s) m)
own_tick_lem s t m e =
    ap (λ (u : ModuleType). let n : Module = (t, given t (own_of t (u, sample_for u s)) m) in n) (type_at (get_or s 0 0) t e)
    ∙ ap (λ (o : Option (SampleOf t)). let n : Module = (t, given t o m) in n) (own_of_lem t (sample_for t s))

pub good_in : (s : List ℕ) → Bytes s → in_range s ≡ true → Good (sample_in s)
good_in s b e = (sample_of (type_of_slot s)).lawful.sound measured_at s b (every_hold ((sample_of (type_of_slot s)).codec.tests measured_at s) e)
