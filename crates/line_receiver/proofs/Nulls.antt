-- Nulls: sixteen unmarked zero bytes end whatever frame a receiver is in, since each brings the end nearer. Assumes nothing.
use Rattle.std.proofs.Common.{◌≡◌, ℕ, zero, suc, ◌+◌, ◌-◌, ◌≤◌, Bool, true, false, ltb, replicate, refl, arith, ltb-true}
use mathlib.Core.Path.{subst⁻¹}
use Rattle.line_receiver.specs.declared.Receiver.{Receiver}
use Rattle.line_receiver.specs.Receive.{idle, count, step, taken}
use Rattle.line_receiver.specs.Frames.{clean, after}
use Rattle.line_receiver.specs.Promises.{Sound, Nulls}
use Rattle.line_receiver.proofs.Kept.{kept}

-- how many nulls a receiver with n bytes of a frame is from idle, where c data bytes are announced
left : ℕ → ℕ → ℕ
left zero c = 0
left (suc zero) c = 3
left (suc (suc zero)) c = 2
left (suc (suc (suc k))) c = suc (c - k)

none_left : (r : Receiver) → Sound r → left r.fill (count r) ≤ 0 → r ≡ idle
unfolding left
none_left r s d = s.empty (go r.fill d)
  where
    go : (n : ℕ) → left n (count r) ≤ 0 → n ≡ 0
    go zero d = refl
    go (suc zero) d = omega arith
    go (suc (suc zero)) d = omega arith
    go (suc (suc (suc k))) d = omega arith

one_less : (k : ℕ) (r : Receiver) → left r.fill (count r) ≤ suc k → left (taken r 0 false).next.fill (count (taken r 0 false).next) ≤ k
unfolding left taken
one_less k r d = go r.fill refl d
  where
    carries : (j : ℕ) → r.fill ≡ suc (suc (suc j)) → suc (count r - j) ≤ suc k → (t : Bool) → ltb j (count r) ≡ t
        → left (step (suc (suc (suc j))) r 0 false).next.fill (count (step (suc (suc (suc j))) r 0 false).next) ≤ k
    carries j e d true t =
        let l = ltb-true j (count r) t in
        let f : r.fill + 1 ≡ suc (suc (suc (suc j))) = omega arith in
        rw t (subst⁻¹ (λ (n : ℕ). left n (count r) ≤ k) f (omega arith))
    carries j e d false t = rw t (omega arith)

    go : (n : ℕ) → r.fill ≡ n → left n (count r) ≤ suc k → left (step n r 0 false).next.fill (count (step n r 0 false).next) ≤ k
    go zero e d = rw e (omega arith)
    go (suc zero) e d = omega arith
    go (suc (suc zero)) e d = omega arith
    go (suc (suc (suc j))) e d = carries j e d (ltb j (count r)) refl

nulls_down : (k : ℕ) (r : Receiver) → Sound r → left r.fill (count r) ≤ k → after (clean (replicate k 0)) r ≡ idle
unfolding after
nulls_down zero r s d = none_left r s d
nulls_down (suc k) r s d = nulls_down k (taken r 0 false).next (kept r 0 false s (omega arith)) (one_less k r d)

pub nulls : Nulls
unfolding left
nulls r s = nulls_down 16 r s (at_most r.fill)
  where
    at_most : (n : ℕ) → left n (count r) ≤ 16
    at_most zero = omega arith
    at_most (suc zero) = omega arith
    at_most (suc (suc zero)) = omega arith
    at_most (suc (suc (suc k))) = omega (arith, s.command_small)
