-- A round of the loops over the slots: the rest of the work, done to the record as it is, gives the whole. Assumes nothing.
use mathlib.Core.Path.{◌≡◌, sym, ◌∙◌}
use mathlib.Core.List.{List, ◌∷◌}
use mathlib.Core.Bool.{Bool}
use Prim.Native.Nat.{ℕ, zero, suc, ◌+◌, ◌*◌, ◌-◌, ◌<◌, ◌≤◌}
use native.Mathlib.Nat.{mul-suc, add-zero}
use native.Mathlib.Omega.{arith}
use lib.ListN.{length, set, length-append}
use Rattle.base_layout.specs.Bytes.{pasted}
use Rattle.base_layout.proofs.Pasted.{pasted_none, pasted_twice}
use Rattle.line_receiver.specs.Frames.{Frame}
use Rattle.chain_rules.specs.Chain.{join}
use Rattle.module_rules.specs.Slots.{slot_size}
use Rattle.types_rules.specs.Types.{kind, slots}
use Rattle.types_rules.proofs.Laws.{said_short}
use Rattle.net_rules.specs.Walk.{turned, words_at, low_at, walked, speech}
use Rattle.net_rules.specs.Calls.{noted}
use Rattle.net_rules.proofs.Lengths.{words_short, speech_short}
use Rattle.net_rules.proofs.Turns.{walked_none, walked_turn, speech_none, speech_turn, noted_none, noted_turn}
use Rattle.module_rules.specs.Owes.{reply_size}

module _ (f : Frame) where
  pub word_short : (enabled : Bool) (at : ℕ) (s : List ℕ) → length (words_at kind slots f enabled at s) ≤ reply_size
  word_short enabled at s = words_short kind slots f (said_short f) enabled at s

  -- what is left to be done after a turn, with k modules to go before it
  pub record Round (enabled : Bool) (k at place w : ℕ) (s room lengths : List ℕ) : Type 0 where
    pub net : walked kind slots f (low_at kind slots at s) (k - 1) (at + slot_size) (turned kind slots f enabled at s) ≡ walked kind slots f enabled k at s
    pub said :
        pasted (w + length (words_at kind slots f enabled at s))
        (join (speech kind slots f (low_at kind slots at s) (k - 1) (at + slot_size) (turned kind slots f enabled at s)))
        (pasted w (words_at kind slots f enabled at s) room)
        ≡ pasted w (join (speech kind slots f enabled k at s)) room
    pub total :
        w + length (words_at kind slots f enabled at s)
        + length (join (speech kind slots f (low_at kind slots at s) (k - 1) (at + slot_size) (turned kind slots f enabled at s)))
        ≡ w + length (join (speech kind slots f enabled k at s))
    pub each :
        noted (speech kind slots f (low_at kind slots at s) (k - 1) (at + slot_size) (turned kind slots f enabled at s)) (place + 1)
        (set lengths place (length (words_at kind slots f enabled at s)))
        ≡ noted (speech kind slots f enabled k at s) place lengths

  pub round : (enabled : Bool) (k at place w : ℕ) (s room lengths : List ℕ) → 0 < k → w + reply_size * k ≤ length room → Round enabled k at place w s room lengths
  round enabled zero at place w s room lengths p h = absurd (omega arith)
  round enabled (suc k) at place w s room lengths p h =
      let one : suc k - 1 ≡ k = omega arith in
      let x : List ℕ = words_at kind slots f enabled at s in
      let ws : List (List ℕ) = speech kind slots f (low_at kind slots at s) k (at + slot_size) (turned kind slots f enabled at s) in
      let lx = word_short enabled at s in
      let lw = speech_short kind slots f (said_short f) k (low_at kind slots at s) (at + slot_size) (turned kind slots f enabled at s) in
      let e : x ∷ ws ≡ speech kind slots f enabled (suc k) at s = speech_turn kind slots f enabled k at s in
      record {
        net = rw one (walked_turn kind slots f enabled k at s);
        said = rw (one, ← e) (pasted_twice w x (join ws) room (omega (arith, mul-suc reply_size k)));
        total = rw (one, ← e) (omega (arith, length-append x (join ws)));
        each = rw (one, ← e) (noted_turn x ws place lengths);
      }

  -- the loop's end
  pub done : (enabled : Bool) (k at place w : ℕ) (s room lengths : List ℕ) {N R E : List ℕ} {T : ℕ} → k ≡ 0
      → walked kind slots f enabled k at s ≡ N
      → pasted w (join (speech kind slots f enabled k at s)) room ≡ R
      → w + length (join (speech kind slots f enabled k at s)) ≡ T
      → noted (speech kind slots f enabled k at s) place lengths ≡ E
      → (s ≡ N) × (room ≡ R) × (w ≡ T) × (lengths ≡ E)
  done enabled k at place w s room lengths z n r t e =
      let q = speech_none kind slots f enabled at s in (
        sym (walked_none kind slots f enabled at s) ∙ rw z at n,
        sym (pasted_none w room) ∙ rw (z, q) at r,
        sym (add-zero w) ∙ rw (z, q) at t,
        sym (noted_none place lengths) ∙ rw (z, q) at e,
      )
