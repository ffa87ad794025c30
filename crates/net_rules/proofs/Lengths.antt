-- Lengths on the walk: the record keeps its length, what is said is short, and its lengths are noted. Assumes nothing.
use mathlib.Core.Path.{◌≡◌, refl, sym, ap, ◌∙◌}
use mathlib.Core.List.{List, [], ◌∷◌}
use mathlib.Core.Bool.{Bool, true, false, cond}
use Prim.Native.Nat.{ℕ, zero, suc, ◌+◌, ◌*◌, ◌<◌, ◌≤◌}
use native.Mathlib.Nat.{mul-suc}
use native.Mathlib.Omega.{arith}
use lib.ListN.{length, get_or, set, replicate, length-append, length-set}
use lib.Seq.{get_or-set_same, get_or-set_other}
use Rattle.base_layout.specs.Bytes.{pasted}
use Rattle.base_layout.proofs.Pasted.{length-pasted}
use Rattle.line_receiver.specs.Frames.{Frame}
use Rattle.module_rules.specs.Kind.{Kind, executed, replied}
use Rattle.chain_rules.specs.Chain.{join}
use Rattle.module_rules.specs.Slots.{Slots, slot_size, Lawful}
use Rattle.net_rules.specs.Walk.{module_at, touched_at, turned, words_at, low_at, walked, speech}
use Rattle.net_rules.specs.Calls.{noted}
use Rattle.net_rules.specs.Record.{chain_most}
use Rattle.module_rules.specs.Owes.{reply_size}

module _ {M S : Type 0} (K : Kind M S) {L : Slots M} (law : Lawful L) where
  pub turned-length : (f : Frame) (enabled : Bool) (at : ℕ) (s : List ℕ) → at + slot_size ≤ length s → length (turned K L f enabled at s) ≡ length s
  unfolding turned
  turned-length f enabled at s h = go (touched_at K L f enabled at s)
    where
      go : (u : Bool) → length (cond u (pasted at (L.enc (executed K f (module_at K L at s))) s) s) ≡ length s
      go true =
          let z = law.short (executed K f (module_at K L at s)) in
          length-pasted at (L.enc (executed K f (module_at K L at s))) s (omega arith)
      go false = refl

  pub walked-length : (k : ℕ) (f : Frame) (enabled : Bool) (at : ℕ) (s : List ℕ) → at + slot_size * k ≤ length s
      → length (walked K L f enabled k at s) ≡ length s
  unfolding walked
  walked-length zero f enabled at s h = refl
  walked-length (suc k) f enabled at s h =
      let m = mul-suc slot_size k in
      let t = turned-length f enabled at s (omega arith) in
      walked-length k f (low_at K L at s) (at + slot_size) (turned K L f enabled at s) (omega arith) ∙ t

module _ {M S : Type 0} (K : Kind M S) (L : Slots M) (f : Frame) where
  pub words_short : ((m : M) → length (replied K f m) ≤ reply_size) → (enabled : Bool) (at : ℕ) (s : List ℕ) → length (words_at K L f enabled at s) ≤ reply_size
  unfolding words_at
  words_short h enabled at s = go (touched_at K L f enabled at s)
    where
      go : (u : Bool) → length (cond u (replied K f (module_at K L at s)) []) ≤ reply_size
      go true = h (module_at K L at s)
      go false = omega arith

  pub speech_short : ((m : M) → length (replied K f m) ≤ reply_size) → (k : ℕ) (enabled : Bool) (at : ℕ) (s : List ℕ)
      → length (join (speech K L f enabled k at s)) ≤ reply_size * k
  unfolding speech
  speech_short h zero enabled at s = omega arith
  speech_short h (suc k) enabled at s =
      let w = words_short h enabled at s in
      let ih = speech_short h k (low_at K L at s) (at + slot_size) (turned K L f enabled at s) in
      rw (length-append, mul-suc) (omega arith)

  pub length-speech : (k : ℕ) (enabled : Bool) (at : ℕ) (s : List ℕ) → length (speech K L f enabled k at s) ≡ k
  unfolding speech
  length-speech zero enabled at s = refl
  length-speech (suc k) enabled at s = ap suc (length-speech k (low_at K L at s) (at + slot_size) (turned K L f enabled at s))

-- the lengths noted
pub length-noted : (ws : List (List ℕ)) (i : ℕ) (l : List ℕ) → length (noted ws i l) ≡ length l
unfolding noted
length-noted [] i l = refl
length-noted (w ∷ ws) i l = length-noted ws (i + 1) (set l i (length w)) ∙ length-set l i (length w)

noted-before : (ws : List (List ℕ)) (j : ℕ) (l : List ℕ) (i : ℕ) → i < j → get_or (noted ws j l) i 0 ≡ get_or l i 0
unfolding noted
noted-before [] j l i h = refl
noted-before (w ∷ ws) j l i h =
    noted-before ws (j + 1) (set l j (length w)) i (omega arith) ∙ get_or-set_other l j i (length w) 0 (λ e. omega arith)

noted_from : (ws : List (List ℕ)) (j : ℕ) (l : List ℕ) (i : ℕ) → j + length ws ≤ length l → ((k : ℕ) → j ≤ k → get_or l k 0 ≡ 0)
    → get_or (noted ws j l) (j + i) 0 ≡ length (get_or ws i [])
unfolding noted
noted_from [] j l i h z = z (j + i) (omega arith)
noted_from (w ∷ ws) j l zero h z =
    let e : j + 0 ≡ j = omega arith in
    ap (λ (n : ℕ). get_or (noted ws (j + 1) (set l j (length w))) n 0) e
    ∙ noted-before ws (j + 1) (set l j (length w)) j (omega arith) ∙ get_or-set_same l j (length w) 0 (omega arith)
noted_from (w ∷ ws) j l (suc i) h z =
    let e : j + suc i ≡ j + 1 + i = omega arith in
    let s = length-set l j (length w) in
    ap (λ (n : ℕ). get_or (noted ws (j + 1) (set l j (length w))) n 0) e
    ∙ noted_from ws (j + 1) (set l j (length w)) i (omega arith)
    (λ k g. get_or-set_other l j k (length w) 0 (λ q. omega arith) ∙ z k (omega arith))

zeros : (n i : ℕ) → ◌≡◌ {A = ℕ} (get_or (replicate n 0) i 0) 0
zeros zero i = refl
zeros (suc n) zero = refl
zeros (suc n) (suc i) = zeros n i

pub noted_at : (ws : List (List ℕ)) (i : ℕ) → length ws ≤ chain_most → get_or (noted ws 0 (replicate chain_most 0)) i 0 ≡ length (get_or ws i [])
noted_at ws i h =
    let e : 0 + i ≡ i = omega arith in
    ap (λ (n : ℕ). get_or (noted ws 0 (replicate chain_most 0)) n 0) (sym e)
    ∙ noted_from ws 0 (replicate chain_most 0) i (omega arith) (λ k g. zeros chain_most k)
