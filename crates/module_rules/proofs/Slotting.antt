-- A layout that a slot has room for makes lawful slots, and what is put into them in parts. Assumes nothing.
use mathlib.Core.Path.{◌≡◌, sym, ap, ◌∙◌}
use mathlib.Core.List.{List, ◌++◌}
use mathlib.Core.Bool.{true}
use Prim.Native.Nat.{ℕ, ◌≤◌}
use native.Mathlib.Omega.{arith}
use lib.ListN.{length, take, drop, take-append-drop}
use lib.Seq.{length-take-le}
use Rattle.base_layout.specs.Bytes.{pasted, Bytes}
use Rattle.base_layout.specs.Codec.{ok_in}
use Rattle.base_layout.proofs.Codec.{head_there, head_sound, head_back, head_valid}
use Rattle.base_layout.proofs.Pasted.{pasted-start}
use Rattle.base_layout.proofs.Shape.{Shape}
use Rattle.module_rules.specs.Slots.{Slots, Lawful, slot_size}

-- a list's own beginning put at its start
put_back : (n : ℕ) (x s : List ℕ) → n ≤ length s → x ≡ take n s → pasted 0 x s ≡ s
put_back n x s h e = rw (pasted-start x s, e, length-take-le n s h) (take-append-drop n s)

abbrev pub slotted : {M : Type 0} → Shape M → Slots M
slotted a = record { enc = a.codec.enc; dec = a.codec.dec 0; ok = ok_in a.codec; fits = a.codec.fits }

-- a way to put what makes the module n of the one that stands in a valid slot is as good as n put there whole
pub put_over : {M : Type 0} (a : Shape M) (s : List ℕ) → a.codec.size ≤ length s → Bytes s → ok_in a.codec s ≡ true
    → (n : M) (put : List ℕ → List ℕ) → ((t : List ℕ) → put (a.codec.enc (a.codec.dec 0 s) ++ t) ≡ a.codec.enc n ++ t)
    → pasted 0 (a.codec.enc n) s ≡ put s
put_over a s h bytes ok n put e =
    let k : ℕ = a.codec.size in
    let whole : s ≡ a.codec.enc (a.codec.dec 0 s) ++ drop k s =
    sym (take-append-drop k s) ∙ ap (λ (l : List ℕ). l ++ drop k s) (sym (head_there a.lawful s h bytes ok)) in
    pasted-start (a.codec.enc n) s
    ∙ ap (λ (j : ℕ). a.codec.enc n ++ drop j s) (a.lawful.length_enc n)
    ∙ sym (e (drop k s))
    ∙ ap put (sym whole)

pub slotted_lawful : {M : Type 0} (a : Shape M) → a.codec.size ≤ slot_size → Lawful (slotted a)
slotted_lawful a room = record {
  short = λ m. omega (arith, a.lawful.length_enc m);
  bytes = λ m f. a.lawful.bytes m f;
  there = λ s e h v.
      put_back a.codec.size (a.codec.enc (a.codec.dec 0 s)) s (omega arith) (head_there a.lawful s (omega arith) h v);
  sound = λ s e h v. head_sound a.lawful s h v;
  back = λ m s e f. ap (a.codec.dec 0) (pasted-start (a.codec.enc m) s) ∙ head_back a.lawful m (drop (length (a.codec.enc m)) s) f;
  valid = λ m s e f. ap (ok_in a.codec) (pasted-start (a.codec.enc m) s) ∙ head_valid a.lawful m (drop (length (a.codec.enc m)) s) f;
}
