-- The walk along the slots of a valid record, and the network in it: a frame, a tick. Assumes nothing.
use mathlib.Core.Path.{◌≡◌, sym, ap, ◌∙◌}
use mathlib.Core.List.{List, ◌++◌}
use mathlib.Core.Bool.{true}
use mathlib.Core.Option.{some}
use Prim.Native.Nat.{ℕ, ◌+◌, ◌*◌, ◌<◌}
use lib.ListN.{length, get_or, drop, get_elem?}
use Rattle.base_layout.specs.Bytes.{pasted, Bytes}
use Rattle.line_receiver.specs.declared.Receiver.{Receiver}
use Rattle.line_receiver.specs.Frames.{Frame}
use Rattle.module_rules.specs.Kind.{Kind}
use Rattle.chain_rules.specs.Chain.{handed, said, timed}
use Rattle.chain_rules.proofs.Along.{length-handed}
use Rattle.chain_rules.proofs.Timing.{length-timed}
use Rattle.module_rules.specs.Slots.{Slots, slot_size, Lawful}
use Rattle.net_rules.specs.Record.{count_at, slots_at, receiver_in, receiver_bytes, modules_in, net_in, stored, valid}
use Rattle.net_rules.specs.Walk.{module_at, walked, speech, ticked}
use Rattle.base_layout.proofs.Laws.{bytes_drop}
use Rattle.net_rules.proofs.Slots as Slots
use Rattle.net_rules.proofs.Slots.{put_slots}
use Rattle.net_rules.proofs.Valid.{valid_is}
use Rattle.net_rules.proofs.Stored.{front, length_front, with_is, whole_is, stored_again, slots-long, modules-there, long-enough}
use Rattle.net_rules.proofs.Along.{walked_on, speech-on, ticked-on, module_on}

pub length-modules : {M : Type 0} (L : Slots M) (s : List ℕ) → length (net_in L s).modules ≡ get_or s count_at 0
unfolding net_in
length-modules L s = Slots.length-modules L (get_or s count_at 0) (drop slots_at s)

module _ {M : Type 0} {L : Slots M} (law : Lawful L) (s : List ℕ) (b : Bytes s) (v : valid L s ≡ true) where
  -- a byte that ends no frame
  pub waits : (r : Receiver) → pasted 0 (receiver_bytes r) s ≡ stored L (record { receiver = r; modules = (net_in L s).modules }) s
  unfolding net_in
  waits r =
      let w = valid_is L s v in
      with_is r s (long-enough law s b w)
      ∙ ap (λ (l : List ℕ). front r (get_or s count_at 0) ++ l) (sym (modules-there law s b w))
      ∙ stored_again law r (net_in L s).modules s w (length-modules L s)

module _ {M S : Type 0} (K : Kind M S) {L : Slots M} (law : Lawful L) (s : List ℕ) (b : Bytes s) (v : valid L s ≡ true) where
  -- a frame handed along the chain
  pub walked_is : (r : Receiver) (f : Frame)
      → walked K L f true (get_or s count_at 0) slots_at (pasted 0 (receiver_bytes r) s)
      ≡ stored L (record { receiver = r; modules = handed K f true (net_in L s).modules }) s
  unfolding net_in
  walked_is r f =
      let w = valid_is L s v in
      let n : ℕ = get_or s count_at 0 in
      ap (λ (l : List ℕ). walked K L f true n slots_at l) (with_is r s (long-enough law s b w))
      ∙ walked_on K law f n true slots_at (front r n) (drop slots_at s) (length_front r n) (slots-long law s b w) (bytes_drop slots_at s b) w.slots
      ∙ stored_again law r (handed K f true (net_in L s).modules) s w (length-handed K f true (net_in L s).modules ∙ length-modules L s)

  pub speech_is : (r : Receiver) (f : Frame)
      → speech K L f true (get_or s count_at 0) slots_at (pasted 0 (receiver_bytes r) s) ≡ said K f true (net_in L s).modules
  unfolding net_in
  speech_is r f =
      let w = valid_is L s v in
      let n : ℕ = get_or s count_at 0 in
      ap (λ (l : List ℕ). speech K L f true n slots_at l) (with_is r s (long-enough law s b w))
      ∙ speech-on K law f n true slots_at (front r n) (drop slots_at s) (length_front r n) (slots-long law s b w) (bytes_drop slots_at s b) w.slots

  -- a tick
  pub ticked_is : (xs : List S) → length xs ≡ get_or s count_at 0
      → ticked K L xs slots_at s ≡ stored L (record { receiver = (net_in L s).receiver; modules = timed K xs (net_in L s).modules }) s
  unfolding net_in
  ticked_is xs l =
      let w = valid_is L s v in
      let n : ℕ = get_or s count_at 0 in
      ap (λ (l : List ℕ). ticked K L xs slots_at l) (whole_is s (long-enough law s b w) b w.receiver)
      ∙ ticked-on K law xs slots_at (front (receiver_in s) n) (drop slots_at s) (length_front (receiver_in s) n) (rw l (slots-long law s b w))
      ∙ ap (λ (k : ℕ). front (receiver_in s) n ++ put_slots L (timed K xs (modules_in L k (drop slots_at s))) (drop slots_at s)) l
      ∙ stored_again law (receiver_in s) (timed K xs (net_in L s).modules) s w (length-timed K xs (net_in L s).modules ∙ length-modules L s)

  -- one place
  pub module_at_lem : (i : ℕ) → i < get_or s count_at 0 → get_elem? (net_in L s).modules i ≡ some (module_at K L (slots_at + slot_size * i) s)
  unfolding net_in
  module_at_lem i l =
      let w = valid_is L s v in
      let n : ℕ = get_or s count_at 0 in
      module_on K law i n slots_at (front (receiver_in s) n) (drop slots_at s) (length_front (receiver_in s) n) (slots-long law s b w) l
      ∙ ap (λ (x : List ℕ). some (module_at K L (slots_at + slot_size * i) x)) (sym (whole_is s (long-enough law s b w) b w.receiver))
