-- MostEnd: a frame ends only with three bytes or more of it in, and each byte brings one more in. Assumes nothing.
use Rattle.std.proofs.Common.{◌≡◌, ℕ, zero, suc, ◌+◌, ◌*◌, ◌≤◌, Bool, true, false, ltb, List, [], ◌∷◌, length, refl, arith}
use Rattle.line_receiver.specs.declared.Receiver.{Receiver}
use Rattle.line_receiver.specs.Receive.{count, opens, step, taken}
use Rattle.line_receiver.specs.Frames.{Byte, ended_by, ends}
use Rattle.line_receiver.specs.Promises.{MostEnd}

-- how many of the three bytes that a frame has before its last are in, at least
inside : ℕ → ℕ
inside zero = 0
inside (suc zero) = 1
inside (suc (suc zero)) = 2
inside (suc (suc (suc k))) = 3

inside_most : (n : ℕ) → inside n ≤ 3
unfolding inside
inside_most zero = omega arith
inside_most (suc zero) = omega arith
inside_most (suc (suc zero)) = omega arith
inside_most (suc (suc (suc k))) = omega arith

-- a byte brings one in, or ends a frame that has all three
one_byte : (r : Receiver) (b : ℕ) (m : Bool) → 4 * ended_by (taken r b m).answer + inside (taken r b m).next.fill ≤ 1 + inside r.fill
unfolding inside taken
one_byte r b m = go r.fill refl
  where
    idles : (t : Bool) → opens b m ≡ t → r.fill ≡ 0 → 4 * ended_by (step 0 r b m).answer + inside (step 0 r b m).next.fill ≤ 1
    idles true t e = rw t (omega arith)
    idles false t e = rw (t, e) (omega arith)

    carries : (k : ℕ) (t : Bool) → ltb k (count r) ≡ t
        → 4 * ended_by (step (suc (suc (suc k))) r b m).answer + inside (step (suc (suc (suc k))) r b m).next.fill ≤ 4
    carries k true t = rw t (omega (arith, inside_most (r.fill + 1)))
    carries k false t = rw t (omega arith)

    go : (n : ℕ) → r.fill ≡ n → 4 * ended_by (step n r b m).answer + inside (step n r b m).next.fill ≤ 1 + inside n
    go zero e = idles (opens b m) refl e
    go (suc zero) e = omega arith
    go (suc (suc zero)) e = omega arith
    go (suc (suc (suc k))) e = carries k (ltb k (count r)) refl

most_from : (bs : List Byte) (r : Receiver) → 4 * ends bs r ≤ length bs + inside r.fill
unfolding ends
most_from [] r = omega arith
most_from (b ∷ bs) r =
    let ih = most_from bs (taken r b.value b.mark).next in
    omega (arith, one_byte r b.value b.mark)

pub most_end : MostEnd
most_end bs r = omega (arith, most_from bs r, inside_most r.fill)
