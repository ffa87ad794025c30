-- What the calls of a module's turn give, put together. Assumes nothing.
use mathlib.Core.Path.{◌≡◌, refl, sym, ap, ap₂, ◌∙◌}
use mathlib.Core.List.{List, [], ◌++◌, map}
use mathlib.Core.Bool.{Bool, true, false, cond, ◌&&◌}
use Prim.Native.Nat.{ℕ, zero, suc, ◌+◌, ◌-◌, ◌<◌, ◌≤◌}
use native.Mathlib.Numerals.{add-one}
use native.Mathlib.Omega.{arith}
use lib.ListN.{length, get_or, take, drop}
use lib.Seq.{drop-cons, drop-drop}
use Rattle.base_layout.specs.Bytes.{pasted}
use Rattle.base_layout.proofs.Pasted.{pasted_none, put_part}
use Rattle.line_receiver.specs.Frames.{Frame}
use Rattle.module_rules.specs.declared.Address.{Address}
use Rattle.module_rules.specs.Touch.{named}
use Rattle.module_rules.specs.Slot.{address}
use Rattle.module_rules.specs.Kind.{executed, replied}
use Rattle.module_rules.specs.Slots.{slot_size, sample_size}
use Rattle.types_rules.specs.Types.{kind, slots, powered, Module, AnySample, sample_in}
use Rattle.types_rules.proofs.Laws.{lawful, address_is}
use Rattle.net_rules.specs.declared.Turn.{Turn}
use Rattle.net_rules.specs.Walk.{module_at, touched_at, turned, words_at, low_at, changed_at, ticked, turn_of}
use Rattle.net_rules.specs.Record.{put_modules}
use Rattle.net_rules.specs.Calls.{samples_in}
use Rattle.net_rules.proofs.Turns.{ticked_none, ticked_turn}

-- a slot's bytes written where a slot was lent
pub slot-back : (at : ℕ) (m : Module) (s : List ℕ) {x : List ℕ} → at + slot_size ≤ length s → x ≡ pasted 0 (slots.enc m) (take (at + slot_size - at) (drop at s))
    → take at s ++ (x ++ drop (at + slot_size - at) (drop at s)) ≡ pasted at (slots.enc m) s
slot-back at m s h e =
    let n : at + slot_size - at ≡ slot_size = omega arith in
    rw (e, n) (put_part at slot_size (slots.enc m) s h (lawful.short m))

module _ (f : Frame) (enabled : Bool) (at from : ℕ) (s room : List ℕ) (fits : at + slot_size ≤ length s) {w : Address} {t : Bool}
    (ew : w ≡ address.codec.dec 1 (take (at + slot_size - at) (drop at s))) (et : t ≡ named f.address w) where
  part : take (at + slot_size - at) (drop at s) ≡ take slot_size (drop at s)
  part = let n : at + slot_size - at ≡ slot_size = omega arith in rw n

  who : w ≡ kind.address (module_at kind slots at s)
  unfolding module_at
  who = ew ∙ ap (address.codec.dec 1) part ∙ sym (address_is (take slot_size (drop at s)))

  low_is : w.low ≡ low_at kind slots at s
  unfolding low_at
  low_is = ap (λ (w : Address). w.low) who

  judged : (b : Bool) → (enabled && t) ≡ b → touched_at kind slots f enabled at s ≡ b
  unfolding touched_at
  judged b e = sym (ap (λ (u : Bool). enabled && u) (et ∙ ap (named f.address) who)) ∙ e

  module_is : slots.dec (take (at + slot_size - at) (drop at s)) ≡ module_at kind slots at s
  unfolding module_at
  module_is = ap slots.dec part

  words_by : (b : Bool) → (enabled && t) ≡ b → words_at kind slots f enabled at s ≡ cond b (replied kind f (module_at kind slots at s)) []
  unfolding words_at
  words_by b e = ap (λ (b : Bool). cond b (replied kind f (module_at kind slots at s)) []) (judged b e)

  turned_by_lem : (b : Bool) → (enabled && t) ≡ b → turned kind slots f enabled at s ≡ cond b (pasted at (slots.enc (executed kind f (module_at kind slots at s))) s) s
  unfolding turned
  turned_by_lem b e = ap (λ (b : Bool). cond b (pasted at (slots.enc (executed kind f (module_at kind slots at s))) s) s) (judged b e)

  turn_by : (n : ℕ) → n ≡ length (words_at kind slots f enabled at s) → ◌≡◌ {A = Turn} (record { low = w.low; said = n }) (turn_of f enabled at s)
  unfolding turn_of
  turn_by n e = ap₂ (λ (l : Bool) (n : ℕ). record { low = l; said = n }) low_is e

  pub touched_turn : (enabled && t) ≡ true → {n : ℕ} {slot room' : List ℕ}
      → (n ≡ length (replied kind f (slots.dec (take (at + slot_size - at) (drop at s)))))
      × ((slot ≡ pasted 0 (slots.enc (executed kind f (slots.dec (take (at + slot_size - at) (drop at s))))) (take (at + slot_size - at) (drop at s)))
      × (room' ≡ pasted from (replied kind f (slots.dec (take (at + slot_size - at) (drop at s)))) room))
      → (◌≡◌ {A = Turn} (record { low = w.low; said = n }) (turn_of f enabled at s))
      × ((take at s ++ (slot ++ drop (at + slot_size - at) (drop at s)) ≡ turned kind slots f enabled at s)
      × (room' ≡ pasted from (words_at kind slots f enabled at s) room))
  touched_turn e {n} {slot} {room'} p =
      let q : replied kind f (slots.dec (take (at + slot_size - at) (drop at s))) ≡ words_at kind slots f enabled at s =
      ap (replied kind f) module_is ∙ sym (words_by true e) in (
        turn_by n (p.0 ∙ ap length q),
        (
          slot-back at (executed kind f (slots.dec (take (at + slot_size - at) (drop at s)))) s fits p.1.0
              ∙ ap (λ (m : Module). pasted at (slots.enc (executed kind f m)) s) module_is
              ∙ sym (turned_by_lem true e),
          p.1.1 ∙ ap (λ (x : List ℕ). pasted from x room) q,
        ),
      )

  pub passed_turn : (enabled && t) ≡ false
      → (◌≡◌ {A = Turn} (record { low = w.low; said = 0 }) (turn_of f enabled at s))
      × ((s ≡ turned kind slots f enabled at s) × (room ≡ pasted from (words_at kind slots f enabled at s) room))
  passed_turn e =
      let q = words_by false e in
      (turn_by 0 (sym (ap length q)), (sym (turned_by_lem false e), sym (pasted_none from room) ∙ ap (λ (x : List ℕ). pasted from x room) (sym q)))

-- a module with another record, where its slot was lent
pub changed_turn : (g : Module → Module) (at : ℕ) (s : List ℕ) {x : List ℕ} → at + slot_size ≤ length s
    → x ≡ pasted 0 (slots.enc (g (slots.dec (take (at + slot_size - at) (drop at s))))) (take (at + slot_size - at) (drop at s))
    → take at s ++ (x ++ drop (at + slot_size - at) (drop at s)) ≡ changed_at kind slots g at s
unfolding changed_at module_at
changed_turn g at s h e =
    let n : at + slot_size - at ≡ slot_size = omega arith in
    slot-back at (g (slots.dec (take (at + slot_size - at) (drop at s)))) s h e
    ∙ ap (λ (n : ℕ). pasted at (slots.enc (g (slots.dec (take n (drop at s))))) s) n

-- a turn of the loop that ticks, with k modules to go before it and their samples in the list from a place on
pub tick_round : (k at from : ℕ) (s list : List ℕ) (y : AnySample) {x : List ℕ} → 0 < k → at + slot_size ≤ length s
    → y ≡ sample_in (take (from + sample_size - from) (drop from list))
    → x ≡ pasted 0 (slots.enc (kind.tick y (slots.dec (take (at + slot_size - at) (drop at s))))) (take (at + slot_size - at) (drop at s))
    → ticked kind slots (samples_in (k - 1) (drop (from + sample_size) list)) (at + slot_size) (take at s ++ (x ++ drop (at + slot_size - at) (drop at s)))
    ≡ ticked kind slots (samples_in k (drop from list)) at s
unfolding samples_in
tick_round zero at from s list y p h q e = absurd (omega arith)
tick_round (suc k) at from s list y p h q e =
    let one : suc k - 1 ≡ k = omega arith in
    let n : from + sample_size - from ≡ sample_size = omega arith in
    let own : y ≡ sample_in (take sample_size (drop from list)) = q ∙ ap (λ (n : ℕ). sample_in (take n (drop from list))) n in
    rw (one, changed_turn (kind.tick y) at s h e, ← drop-drop sample_size from list, own)
    (ticked_turn kind slots (sample_in (take sample_size (drop from list))) (samples_in k (drop sample_size (drop from list))) at s)

-- none to go
pub tick_over : (at : ℕ) (s l : List ℕ) → ticked kind slots (samples_in 0 l) at s ≡ s
unfolding samples_in
tick_over at s l = ticked_none kind slots at s

pub put_none : (at : ℕ) (s : List ℕ) → put_modules slots [] at s ≡ s
unfolding put_modules
put_none at s = refl

-- a turn of the loop that powers modules up
pub power_round : (ts : List ℕ) (i at : ℕ) (s : List ℕ) {x : List ℕ} → i < length ts → at + slot_size ≤ length s
    → x ≡ pasted 0 (slots.enc (powered (get_or ts i 0))) (take (at + slot_size - at) (drop at s))
    → put_modules slots (map powered (drop (i + 1) ts)) (at + slot_size) (take at s ++ (x ++ drop (at + slot_size - at) (drop at s)))
    ≡ put_modules slots (map powered (drop i ts)) at s
unfolding put_modules
power_round ts i at s l h e = rw (slot-back at (powered (get_or ts i 0)) s h e, add-one i, drop-cons ts i 0 l)
