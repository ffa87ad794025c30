-- A turn of the walk: what is left to do from the next place gives what was left to do from here. Assumes nothing.
use mathlib.Core.Path.{◌≡◌, refl}
use mathlib.Core.List.{List, [], ◌∷◌}
use mathlib.Core.Bool.{Bool}
use Prim.Native.Nat.{ℕ, suc, ◌+◌}
use lib.ListN.{length, set}
use Rattle.line_receiver.specs.Frames.{Frame}
use Rattle.module_rules.specs.Kind.{Kind}
use Rattle.module_rules.specs.Slots.{Slots, slot_size}
use Rattle.net_rules.specs.Walk.{turned, words_at, low_at, walked, speech, changed_at, ticked}
use Rattle.net_rules.specs.Calls.{noted}

module _ {M S : Type 0} (K : Kind M S) (L : Slots M) where
  pub walked_none : (f : Frame) (enabled : Bool) (at : ℕ) (s : List ℕ) → walked K L f enabled 0 at s ≡ s
  unfolding walked
  walked_none f enabled at s = refl

  pub walked_turn : (f : Frame) (enabled : Bool) (k at : ℕ) (s : List ℕ)
      → walked K L f (low_at K L at s) k (at + slot_size) (turned K L f enabled at s) ≡ walked K L f enabled (suc k) at s
  unfolding walked
  walked_turn f enabled k at s = refl

  pub speech_none : (f : Frame) (enabled : Bool) (at : ℕ) (s : List ℕ) → speech K L f enabled 0 at s ≡ []
  unfolding speech
  speech_none f enabled at s = refl

  pub speech_turn : (f : Frame) (enabled : Bool) (k at : ℕ) (s : List ℕ)
      → words_at K L f enabled at s ∷ speech K L f (low_at K L at s) k (at + slot_size) (turned K L f enabled at s)
      ≡ speech K L f enabled (suc k) at s
  unfolding speech
  speech_turn f enabled k at s = refl

  pub ticked_none : (at : ℕ) (s : List ℕ) → ticked K L [] at s ≡ s
  unfolding ticked
  ticked_none at s = refl

  pub ticked_turn : (x : S) (xs : List S) (at : ℕ) (s : List ℕ) → ticked K L xs (at + slot_size) (changed_at K L (K.tick x) at s) ≡ ticked K L (x ∷ xs) at s
  unfolding ticked
  ticked_turn x xs at s = refl

pub noted_none : (i : ℕ) (l : List ℕ) → noted [] i l ≡ l
unfolding noted
noted_none i l = refl

pub noted_turn : (w : List ℕ) (ws : List (List ℕ)) (i : ℕ) (l : List ℕ) → noted ws (i + 1) (set l i (length w)) ≡ noted (w ∷ ws) i l
unfolding noted
noted_turn w ws i l = refl
