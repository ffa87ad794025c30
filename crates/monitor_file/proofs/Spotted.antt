-- The place behind a text: by its length, its newlines and what stands behind the last of them. Assumes nothing.
use mathlib.Core.Path.{◌≡◌, sym, ap, ◌∙◌}
use mathlib.Core.List.{List, ◌∷◌, ◌++◌}
use Prim.Native.Nat.{ℕ, suc, ◌+◌, ◌-◌, ◌<◌}
use native.Mathlib.Omega.{arith}
use lib.ListN.{length, get_or, take, drop, length-drop}
use lib.Seq.{drop-cons, split_at}
use lib.Dec.{eqb}
use Rattle.base_text.specs.Digits.{newline}
use Rattle.text_rules.specs.Records.{mark_of}
use Rattle.text_rules.specs.Promises.{occurs}
use Rattle.monitor_file.specs.declared.Spot.{Spot}
use Rattle.monitor_file.specs.Spots.{first_spot, spot_after}
use Rattle.monitor_file.specs.Promises.{Spots}
use Rattle.monitor_file.proofs.SpotParts.{spot_offset, spot_line, spot_none, spot_last}

pub spots : Spots
spots = record {
  offset = λ t. omega (arith, spot_offset first_spot t);
  line = λ t. spot_line first_spot t;
  first = λ q e. spot_none first_spot q e;
  column = λ p q e. spot_last first_spot p q e;
}

-- a turn of the loops: the character at a place, and those behind it
pub occurs_turn : (t : List ℕ) (i j : ℕ) → suc i ≡ j → i < length t → occurs newline (drop i t) ≡ mark_of (eqb (get_or t i 0) newline) + occurs newline (drop j t)
occurs_turn t i j e h = ap (occurs newline) (drop-cons t i 0 h) ∙ ap (λ (k : ℕ). mark_of (eqb (get_or t i 0) newline) + occurs newline (drop k t)) e

pub spot_found : (s : Spot) (t : List ℕ) (i j : ℕ) → suc i ≡ j → i < length t → get_or t i 0 ≡ newline → occurs newline (drop j t) ≡ 0
    → 1 + (length t - j) ≡ (spot_after s t).column
spot_found s t i j e h n z =
    ap (λ (k : ℕ). 1 + k) (sym (length-drop j t)) ∙ sym (spot_last s (take i t) (drop j t) z)
    ∙ ap (λ (l : List ℕ). (spot_after s l).column)
    (ap (λ (c : ℕ). take i t ++ c ∷ drop j t) (sym n) ∙ ap (λ (k : ℕ). take i t ++ get_or t i 0 ∷ drop k t) (sym e) ∙ sym (split_at t i 0 h))
