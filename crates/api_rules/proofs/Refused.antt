-- Tables of refusals: what a call that was refused, or was not, may use. Assumes nothing.
use mathlib.Core.Path.{◌≡◌, refl, sym, ap, ◌∙◌}
use mathlib.Core.List.{List}
use mathlib.Core.Bool.{Bool, true, false, cond, not, ◌||◌}
use Prim.Native.Nat.{ℕ, zero, suc, ◌<◌, ◌≤◌}
use native.Mathlib.Omega.{arith}
use borrow.Author.Tests.{eq-eqb, ne_eqb, eqb-true, eqb-false, ltb-true, ltb-false, not-false}
use lib.ListN.{length}
use lib.Dec.{eqb, ltb}
use Rattle.base_layout.specs.Bytes.{pasted}
use Rattle.line_receiver.specs.Receive.{number_of}
use Rattle.chain_rules.specs.Chain.{Step, Outcome, flat}
use Rattle.chain_rules.proofs.Bytes.{number_is}
use Rattle.types_rules.specs.Types.{Module, kind, slots}
use Rattle.net_rules.specs.declared.Called.{Called}
use Rattle.net_rules.specs.Record.{chain_most, record_size, room_size, buffer_most, buffer_room_size, net_in, stored, valid}
use Rattle.net_rules.specs.Calls.{byte_of, called_by, all_marks, list_size, all_typed, all_in_range, samples_for, tick_step}
use Rattle.base_layout.specs.First.{Line, first}
use Rattle.api_rules.specs.Table.{setup_table, byte_table, buffer_table, tick_table, place_table}
use Rattle.api_rules.specs.Promises.{Passes}
use Rattle.api_rules.specs.Calls.{unless, step_of, tick_record, byte_number, byte_record, byte_room, byte_written, buffer_of, buffer_record, buffer_room, buffer_written}
use Rattle.base_layout.proofs.First.{none_applies}

-- by the number that a refusing function gave
pub refused : {A : Type 0} (ls : List Line) (x y : A) {n : ℕ} → n ≡ first ls → (n ≡ 0 → ⊥) → x ≡ unless ls x y
refused {A} ls x y e h = sym (ap (λ (t : Bool). cond t y x) (ne_eqb (first ls) 0 (λ z. h (e ∙ z))))

pub done : {A : Type 0} (ls : List Line) (x y : A) {n : ℕ} → n ≡ first ls → n ≡ 0 → y ≡ unless ls x y
done {A} ls x y e h = sym (ap (λ (t : Bool). cond t y x) (eq-eqb (first ls) 0 (sym e ∙ h)))

-- what holds of a thing refused, and of the thing done, holds of what a call gives
pub either_way : {A : Type 0} (P : A → Type 0) (ls : List Line) (x y : A) → P x → (Passes ls → P y) → P (unless ls x y)
either_way P ls x y p q = go (eqb (first ls) 0) refl
  where
    go : (t : Bool) → eqb (first ls) 0 ≡ t → P (cond t y x)
    go true e = q (eqb-true _ _ e)
    go false e = p

-- a table that refuses nothing
or-false : (a b : Bool) → (a || b) ≡ false → (a ≡ false) × (b ≡ false)
or-false false b e = (refl, e)
or-false true b e = let z : true ≡ false = e in (z, cc)

pub setup_passes : (net types : List ℕ) → first (setup_table net types) ≡ 0 → (length net ≡ record_size) × (length types ≤ chain_most)
setup_passes net types e =
    let n = none_applies (setup_table net types) (omega arith, (omega arith, (omega arith, tt))) e in
    (eqb-true _ _ (not-false _ n.0), ltb-false _ _ (or-false (eqb (length types) 0) (ltb chain_most (length types)) n.1.0).1)

pub setup_some : (net types : List ℕ) → first (setup_table net types) ≡ 0 → 1 ≤ length types
setup_some net types e =
    let n = none_applies (setup_table net types) (omega arith, (omega arith, (omega arith, tt))) e in
    let h = eqb-false _ _ (or-false (eqb (length types) 0) (ltb chain_most (length types)) n.1.0).0 in
    positive (length types) h
  where
    positive : (k : ℕ) → (k ≡ 0 → ⊥) → 1 ≤ k
    positive zero h = absurd (h refl)
    positive (suc k) h = omega arith

pub byte_passes : (net : List ℕ) (mark : ℕ) (room : List ℕ) → first (byte_table net mark room) ≡ 0 → (valid slots net ≡ true) × (room_size ≤ length room)
byte_passes net mark room e =
    let n = none_applies (byte_table net mark room) (omega arith, (omega arith, (omega arith, tt))) e in
    (not-false _ n.0, ltb-false _ _ n.1.1.0)

-- what a buffer that is done may use
pub record Buffers (net bytes marks room : List ℕ) : Type 0 where
  pub valid : valid slots net ≡ true
  pub same : length bytes ≡ length marks
  pub most : length bytes ≤ buffer_most
  pub good : all_marks marks ≡ true
  pub enough : buffer_room_size ≤ length room

pub buffer_passes : (net bytes marks room : List ℕ) → Passes (buffer_table net bytes marks room) → Buffers net bytes marks room
buffer_passes net bytes marks room e =
    let n = none_applies (buffer_table net bytes marks room) (omega arith, (omega arith, (omega arith, (omega arith, tt)))) e in
    let l = or-false (not (eqb (length bytes) (length marks))) (ltb buffer_most (length bytes)) n.1.0 in
    record {
      valid = not-false _ n.0;
      same = eqb-true _ _ (not-false _ l.0);
      most = ltb-false _ _ l.1;
      good = not-false _ n.1.1.0;
      enough = ltb-false _ _ n.1.1.1.0;
    }

-- the buffer, refused and done
module _ (net bytes marks room : List ℕ) {n : ℕ} (e : n ≡ first (buffer_table net bytes marks room)) where
  abbrev lines : List Line
  lines = buffer_table net bytes marks room

  abbrev outcome : Outcome Module
  outcome = buffer_of net bytes marks

  pub buffer_refused : (n ≡ 0 → ⊥)
      → (n ≡ first lines)
      × ((net ≡ buffer_record net bytes marks room) × ((room ≡ buffer_room net bytes marks room) × (0 ≡ buffer_written net bytes marks room)))
  unfolding buffer_record buffer_room buffer_written
  buffer_refused h = (
    e,
    (
      refused lines net (stored slots outcome.net net) e h,
      (refused lines room (pasted 0 (flat outcome.replies) room) e h, refused lines 0 (length (flat outcome.replies)) e h),
    ),
  )

  pub buffer_done : n ≡ 0 → {w : ℕ} {net' room' : List ℕ}
      → (w ≡ length (flat outcome.replies)) × ((net' ≡ stored slots outcome.net net) × (room' ≡ pasted 0 (flat outcome.replies) room))
      → (0 ≡ first lines)
      × ((net' ≡ buffer_record net bytes marks room) × ((room' ≡ buffer_room net bytes marks room) × (w ≡ buffer_written net bytes marks room)))
  unfolding buffer_record buffer_room buffer_written
  buffer_done z p = (
    sym z ∙ e,
    (
      p.1.0 ∙ done lines net (stored slots outcome.net net) e z,
      (p.1.1 ∙ done lines room (pasted 0 (flat outcome.replies) room) e z, p.0 ∙ done lines 0 (length (flat outcome.replies)) e z),
    ),
  )

-- what a tick that is done may use
pub record Ticks (net samples : List ℕ) : Type 0 where
  pub valid : valid slots net ≡ true
  pub long : length samples ≡ list_size (length (net_in slots net).modules)
  pub typed : all_typed (net_in slots net).modules samples ≡ true
  pub ranged : all_in_range (length (net_in slots net).modules) samples ≡ true

pub tick_passes : (net samples : List ℕ) → Passes (tick_table net samples) → Ticks net samples
tick_passes net samples e =
    let n = none_applies (tick_table net samples) (omega arith, (omega arith, (omega arith, (omega arith, tt)))) e in
    record {
      valid = not-false _ n.0;
      long = eqb-true _ _ (not-false _ n.1.0);
      typed = not-false _ n.1.1.0;
      ranged = not-false _ n.1.1.1.0;
    }

-- the tick, refused and done
module _ (net samples : List ℕ) {n : ℕ} (e : n ≡ first (tick_table net samples)) where
  abbrev ticks : List ℕ
  ticks = stored slots (tick_step (samples_for (net_in slots net) samples) (net_in slots net)) net

  pub tick_refused : (n ≡ 0 → ⊥) → (n ≡ first (tick_table net samples)) × (net ≡ tick_record net samples)
  unfolding tick_record
  tick_refused h = (e, refused (tick_table net samples) net ticks e h)

  pub tick_done : n ≡ 0 → {net' : List ℕ} → net' ≡ ticks → (0 ≡ first (tick_table net samples)) × (net' ≡ tick_record net samples)
  unfolding tick_record
  tick_done z p = (sym z ∙ e, p ∙ done (tick_table net samples) net ticks e z)

pub place_passes : (net : List ℕ) (place : ℕ) → first (place_table net place) ≡ 0 → (valid slots net ≡ true) × (place < length (net_in slots net).modules)
place_passes net place e =
    let n = none_applies (place_table net place) (omega arith, (omega arith, tt)) e in
    (not-false _ n.0, ltb-true _ _ (not-false _ n.1.0))

-- the byte call, refused and done
module _ (net : List ℕ) (mark byte : ℕ) (room : List ℕ) {n : ℕ} (e : n ≡ first (byte_table net mark room)) where
  pub byte_refused : (n ≡ 0 → ⊥)
      → (n ≡ byte_number net mark byte room)
      × ((net ≡ byte_record net mark byte room) × ((room ≡ byte_room net mark byte room) × (0 ≡ byte_written net mark byte room)))
  unfolding byte_number byte_record byte_room byte_written
  byte_refused h =
      let ls : List Line = byte_table net mark room in
      let t : Step Module = step_of net mark byte in (
        e ∙ refused ls (first ls) t.number e h,
        (
          refused ls net (stored slots t.net net) e h,
          (refused ls room (pasted 0 (flat t.replies) room) e h, refused ls 0 (length (flat t.replies)) e h),
        ),
      )

  pub byte-done : n ≡ 0 → {c : Called} {net' room' : List ℕ}
      → (c ≡ called_by (net_in slots net) (byte_of byte (eqb mark 1)))
      × ((net' ≡ stored slots (step_of net mark byte).net net) × (room' ≡ pasted 0 (flat (step_of net mark byte).replies) room))
      → (number_of c.ended ≡ byte_number net mark byte room)
      × ((net' ≡ byte_record net mark byte room) × ((room' ≡ byte_room net mark byte room) × (c.written ≡ byte_written net mark byte room)))
  unfolding byte_number byte_record byte_room byte_written called_by
  byte-done z p =
      let ls : List Line = byte_table net mark room in
      let t : Step Module = step_of net mark byte in (
        ap (λ (c : Called). number_of c.ended) p.0
            ∙ sym (number_is kind (net_in slots net) (byte_of byte (eqb mark 1)))
            ∙ done ls (first ls) t.number e z,
        (
          p.1.0 ∙ done ls net (stored slots t.net net) e z,
          (
            p.1.1 ∙ done ls room (pasted 0 (flat t.replies) room) e z,
            ap (λ (c : Called). c.written) p.0 ∙ done ls 0 (length (flat t.replies)) e z,
          ),
        ),
      )
