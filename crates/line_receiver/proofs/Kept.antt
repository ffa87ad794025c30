-- Fresh and Kept: the idle receiver is sound, and a byte keeps a receiver sound. Assumes nothing.
use Rattle.std.proofs.Common.{◌≡◌, ℕ, zero, suc, ◌+◌, ◌/◌, ◌<◌, ◌≤◌, Bool, true, false, ltb, List, [], ◌∷◌, length, get_or, set, replicate, refl, ◌∙◌, arith, length-set, ltb-true}
use Rattle.line_receiver.specs.declared.Receiver.{Receiver}
use Rattle.line_receiver.specs.Receive.{count, opens, opened, stored, step, taken}
use Rattle.line_receiver.specs.Promises.{Sound, Fresh, Kept}

zeros_small : (n i : ℕ) → get_or (replicate n 0) i 0 < 256
zeros_small zero i = omega arith
zeros_small (suc n) zero = omega arith
zeros_small (suc n) (suc i) = zeros_small n i

pub fresh : Fresh
fresh = record {
  long = refl;
  empty = λ e. refl;
  within = omega arith;
  fill_small = omega arith;
  address_small = omega arith;
  command_small = omega arith;
  bytes_small = zeros_small 15;
}

-- a receiver inside a frame
begun : (r : Receiver) → length r.bytes ≡ 15 → 1 ≤ r.fill → r.fill ≤ 3 + r.command / 16 → r.address < 256 → r.command < 256
    → ((i : ℕ) → get_or r.bytes i 0 < 256) → Sound r
begun r long some within address command bytes = record {
  long = long;
  empty = λ e. absurd (omega arith);
  within = within;
  fill_small = omega arith;
  address_small = address;
  command_small = command;
  bytes_small = bytes;
}

-- a byte among bytes leaves them bytes
set_small : (l : List ℕ) (k b : ℕ) → ((i : ℕ) → get_or l i 0 < 256) → b < 256 → (i : ℕ) → get_or (set l k b) i 0 < 256
set_small [] k b p h i = p i
set_small (x ∷ xs) zero b p h zero = h
set_small (x ∷ xs) zero b p h (suc i) = p (suc i)
set_small (x ∷ xs) (suc k) b p h zero = p zero
set_small (x ∷ xs) (suc k) b p h (suc i) = set_small xs k b (λ j. p (suc j)) h i

pub kept : Kept
unfolding taken
kept r b m s h = go r.fill refl
  where
    idles : (t : Bool) → opens b m ≡ t → Sound (step 0 r b m).next
    idles true t = rw t (begun (opened r).next s.long (omega arith) (omega arith) s.address_small s.command_small s.bytes_small)
    idles false t = rw t s

    carries : (k : ℕ) → r.fill ≡ suc (suc (suc k)) → (t : Bool) → ltb k (count r) ≡ t → Sound (step (suc (suc (suc k))) r b m).next
    carries k e true t =
        let l = ltb-true k (count r) t in
        rw t
        (begun (stored k r b m).next (length-set r.bytes k b ∙ s.long) (omega arith) (omega arith) s.address_small s.command_small
        (set_small r.bytes k b s.bytes_small h))
    carries k e false t = rw t fresh

    go : (n : ℕ) → r.fill ≡ n → Sound (step n r b m).next
    go zero e = idles (opens b m) refl
    go (suc zero) e = begun (step 1 r b m).next s.long (omega arith) (omega arith) h s.command_small s.bytes_small
    go (suc (suc zero)) e = begun (step 2 r b m).next s.long (omega arith) (omega arith) s.address_small h s.bytes_small
    go (suc (suc (suc k))) e = carries k e (ltb k (count r)) refl
