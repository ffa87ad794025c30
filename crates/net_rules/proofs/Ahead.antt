-- Slots whose turn has not come are as they were, and so still valid. Assumes nothing.
use mathlib.Core.Path.{◌≡◌, refl, sym, ap, ◌∙◌}
use mathlib.Core.List.{List}
use mathlib.Core.Bool.{Bool, true, false, cond}
use Prim.Native.Nat.{ℕ, zero, suc, ◌+◌, ◌*◌, ◌-◌, ◌<◌, ◌≤◌}
use native.Mathlib.Nat.{mul-suc, add-zero}
use native.Mathlib.Omega.{arith}
use lib.ListN.{length, take, drop}
use lib.Seq.{drop-drop}
use Rattle.base_layout.specs.Bytes.{pasted}
use Rattle.base_layout.proofs.Pasted.{drop-pasted}
use Rattle.line_receiver.specs.Frames.{Frame}
use Rattle.module_rules.specs.Kind.{Kind, executed}
use Rattle.module_rules.specs.Slots.{Slots, slot_size, Lawful}
use Rattle.net_rules.specs.Record.{ok_slots}
use Rattle.net_rules.specs.Walk.{module_at, touched_at, turned, changed_at}
use Rattle.net_rules.proofs.Slots.{first_ok, rest_ok}

-- bytes put before a place leave what follows it
pub drop-after : (z at : ℕ) (x s : List ℕ) → at ≤ length s → length x ≤ z → drop (at + z) (pasted at x s) ≡ drop (at + z) s
drop-after z at x s h l =
    let e : at + length x + (z - length x) ≡ at + z = omega arith in
    rw (← e) (sym (drop-drop (z - length x) (at + length x) (pasted at x s)) ∙ ap (drop (z - length x)) (drop-pasted at x s h) ∙ drop-drop (z - length x) (at + length x) s)

module _ {M : Type 0} {L : Slots M} (law : Lawful L) where
  -- the slot whose turn it is, and those after it
  pub turn_ok : (k at : ℕ) (s : List ℕ) → 0 < k → ok_slots L k (drop at s) ≡ true → L.ok (take slot_size (drop at s)) ≡ true
  turn_ok zero at s p v = absurd (omega arith)
  turn_ok (suc k) at s p v = first_ok law k (drop at s) v

  pub ahead_ok : (k at : ℕ) (s s' : List ℕ) → 0 < k → drop (at + slot_size) s' ≡ drop (at + slot_size) s → ok_slots L k (drop at s) ≡ true
      → ok_slots L (k - 1) (drop (at + slot_size) s') ≡ true
  ahead_ok zero at s s' p e v = absurd (omega arith)
  ahead_ok (suc k) at s s' p e v =
      let one : suc k - 1 ≡ k = omega arith in
      rw (one, e, ← drop-drop slot_size at s) (rest_ok law k (drop at s) v)

  -- the slot at a place of the chain
  pub place_ok : (i k at : ℕ) (s : List ℕ) → i < k → ok_slots L k (drop at s) ≡ true → L.ok (take slot_size (drop (at + slot_size * i) s)) ≡ true
  place_ok zero k at s h v = rw (add-zero at) (turn_ok k at s h v)
  place_ok (suc i) k at s h v =
      let e : at + slot_size + slot_size * i ≡ at + slot_size * suc i = omega (arith, mul-suc slot_size i) in
      rw (← e) (place_ok i (k - 1) (at + slot_size) s (omega arith) (ahead_ok k at s s (omega arith) refl v))

module _ {M S : Type 0} (K : Kind M S) {L : Slots M} (law : Lawful L) where
  pub changed-after : (g : M → M) (at : ℕ) (s : List ℕ) → at + slot_size ≤ length s → drop (at + slot_size) (changed_at K L g at s) ≡ drop (at + slot_size) s
  unfolding changed_at
  changed-after g at s h = drop-after slot_size at (L.enc (g (module_at K L at s))) s (omega arith) (law.short (g (module_at K L at s)))

  pub turned-after : (f : Frame) (enabled : Bool) (at : ℕ) (s : List ℕ) → at + slot_size ≤ length s
      → drop (at + slot_size) (turned K L f enabled at s) ≡ drop (at + slot_size) s
  unfolding turned
  turned-after f enabled at s h = go (touched_at K L f enabled at s)
    where
      go : (u : Bool) → drop (at + slot_size) (cond u (pasted at (L.enc (executed K f (module_at K L at s))) s) s) ≡ drop (at + slot_size) s
      go true = drop-after slot_size at (L.enc (executed K f (module_at K L at s))) s (omega arith) (law.short (executed K f (module_at K L at s)))
      go false = refl
