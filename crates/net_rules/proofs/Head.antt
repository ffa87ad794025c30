-- The receiver's bytes at the start of a record, there and back. Assumes nothing.
use mathlib.Core.Path.{◌≡◌, refl, sym, ap, ap₂, ◌∙◌}
use mathlib.Core.List.{List, [], ◌∷◌, ◌++◌}
use mathlib.Core.Bool.{Bool, true, false, cond, ◌&&◌}
use Prim.Native.Nat.{ℕ, zero, suc, ◌+◌, ◌/◌, ◌≤◌}
use native.Mathlib.Omega.{arith}
use lib.ListN.{length, get_or, take, replicate}
use lib.Dec.{eqb, leb}
use borrow.Author.Tests.{leb-true, le-leb, eqb-true, eq-eqb}
use Rattle.base_layout.specs.Bytes.{read_at, Bytes}
use Rattle.base_layout.specs.Codec.{bit}
use Rattle.base_layout.proofs.Laws.{bytes_read, bytes_append}
use Rattle.base_layout.proofs.Codec.{head_there, head_back}
use Rattle.line_receiver.specs.declared.Receiver.{Receiver}
use Rattle.line_receiver.specs.Receive.{idle}
use Rattle.line_receiver.specs.Promises.{Sound}
use Rattle.net_rules.specs.Record.{receiver, receiver_in, receiver_bytes, blank, ok_receiver, receiver_size, fill_at, command_at, marked_at}
use Rattle.net_rules.proofs.Tests.{and-true}

pub length-receiver : (r : Receiver) → length (receiver_bytes r) ≡ receiver_size
unfolding receiver_bytes
length-receiver r = refl

-- bytes that are all 0
blank_is : (l : List ℕ) → blank l ≡ true → l ≡ replicate (length l) 0
blank_is [] e = refl
blank_is (x ∷ l) e =
    let q = and-true (eqb x 0) (blank l) e in
    ap₂ (λ (a : ℕ) (b : List ℕ). a ∷ b) (eqb-true x 0 q.0) (blank_is l q.1)

blank-idle : (s : List ℕ) → blank (read_at receiver_size 0 s) ≡ true → receiver_in s ≡ idle
unfolding receiver_in
blank-idle s e = ap receiver_in (blank_is (read_at receiver_size 0 s) e)

-- what a valid receiver's bytes say
pub record Told (s : List ℕ) : Type 0 where
  pub empty : get_or s fill_at 0 ≡ 0 → receiver_in s ≡ idle
  pub within : get_or s fill_at 0 ≤ 3 + get_or s command_at 0 / 16
  pub flag : get_or s marked_at 0 ≤ 1

pub told : (s : List ℕ) → ok_receiver s ≡ true → Told s
unfolding ok_receiver
told s v = go (eqb (get_or s fill_at 0) 0) refl v
  where
    go : (t : Bool) → eqb (get_or s fill_at 0) 0 ≡ t
        → cond t (blank (read_at receiver_size 0 s)) (leb (get_or s fill_at 0) (3 + get_or s command_at 0 / 16) && leb (get_or s marked_at 0) 1) ≡ true → Told s
    go true e v =
        let z = eqb-true (get_or s fill_at 0) 0 e in
        let q : get_or s marked_at 0 ≡ 0 = ap (λ (l : List ℕ). get_or l marked_at 0) (blank_is (read_at receiver_size 0 s) v) in
        record { empty = λ h. blank-idle s v; within = omega arith; flag = omega arith }
    go false e v =
        let q = and-true (leb (get_or s fill_at 0) (3 + get_or s command_at 0 / 16)) (leb (get_or s marked_at 0) 1) v in
        record {
          empty = λ h. let z : true ≡ false = sym (eq-eqb (get_or s fill_at 0) 0 h) ∙ e in cc;
          within = leb-true _ _ q.0;
          flag = leb-true _ _ q.1;
        }

-- there
pub receiver_there : (s : List ℕ) → receiver_size ≤ length s → Bytes s → ok_receiver s ≡ true → receiver_bytes (receiver_in s) ≡ take receiver_size s
unfolding receiver_in receiver_bytes
receiver_there s h b v = head_there receiver.lawful s h b (le-leb (get_or s marked_at 0) 1 (told s v).flag)

pub receiver-sound : (s : List ℕ) → Bytes s → ok_receiver s ≡ true → Sound (receiver_in s)
unfolding receiver_in
receiver-sound s b v =
    let w = told s v in
    record {
      long = refl;
      empty = w.empty;
      within = w.within;
      fill_small = b 17;
      address_small = b 15;
      command_small = b 16;
      bytes_small = bytes_read 15 0 s b;
    }

-- back
fits : (r : Receiver) → Sound r → receiver.codec.fits r
fits r h = ((h.long, h.bytes_small), (h.address_small, (h.command_small, (h.fill_small, tt))))

pub receiver-back : (r : Receiver) (q : List ℕ) → Sound r → receiver_in (receiver_bytes r ++ q) ≡ r
unfolding receiver_in receiver_bytes
receiver-back r q h = head_back receiver.lawful r q (fits r h)

bit_small : (t : Bool) → bit t ≤ 1
bit_small true = omega arith
bit_small false = omega arith

pub receiver_ok : (r : Receiver) (q : List ℕ) → Sound r → ok_receiver (receiver_bytes r ++ q) ≡ true
unfolding ok_receiver receiver_bytes
receiver_ok r q h = go (eqb r.fill 0) refl
  where
    inside : (r : Receiver) → r ≡ idle → blank (read_at receiver_size 0 (receiver_bytes r ++ q)) ≡ true
    inside r e = ap (λ (r : Receiver). blank (read_at receiver_size 0 (receiver_bytes r ++ q))) e

    go : (t : Bool) → eqb r.fill 0 ≡ t
        → cond t (blank (read_at receiver_size 0 (receiver_bytes r ++ q))) (leb r.fill (3 + r.command / 16) && leb (bit r.marked) 1) ≡ true
    go true e = inside r (h.empty (eqb-true r.fill 0 e))
    go false e = rw (le-leb _ _ h.within) (le-leb _ _ (bit_small r.marked))

pub bytes_receiver : (r : Receiver) → Sound r → Bytes (receiver_bytes r)
unfolding receiver_bytes
bytes_receiver r h =
    bytes_append (read_at 15 0 r.bytes) (r.address ∷ r.command ∷ r.fill ∷ bit r.marked ∷ [])
    (bytes_read 15 0 r.bytes h.bytes_small)
    last
  where
    last : Bytes (r.address ∷ r.command ∷ r.fill ∷ bit r.marked ∷ [])
    last zero = h.address_small
    last (suc zero) = h.command_small
    last (suc (suc zero)) = h.fill_small
    last (suc (suc (suc zero))) = omega (arith, bit_small r.marked)
    last (suc (suc (suc (suc i)))) = omega arith
