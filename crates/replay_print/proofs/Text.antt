-- A reply's bytes in hex, a line and the last line: their lengths, and a turn of the loop that puts the bytes. Assumes nothing.
use mathlib.Core.Path.{◌≡◌, refl, sym, ap, ◌∙◌}
use mathlib.Core.List.{List, [], ◌∷◌, ◌++◌, append_assoc}
use Prim.Native.Nat.{ℕ, ◌+◌, ◌*◌, ◌-◌, ◌^◌, ◌<◌, ◌≤◌}
use native.Mathlib.Numerals.{add-one}
use native.Mathlib.Omega.{arith}
use lib.ListN.{length, get_or, drop, set, length-append, length-drop}
use lib.Seq.{drop-cons}
use Rattle.base_layout.specs.Bytes.{pasted}
use Rattle.base_layout.proofs.Pasted.{pasted_one, pasted_twice, length-pasted}
use Rattle.base_text.specs.Digits.{space, newline, decimal, hex_pair}
use Rattle.base_text.proofs.Digits.{decimal_short}
use Rattle.replay_print.specs.Text.{hexes, line, bad_line}
use Rattle.net_rules.specs.Record.{chain_most}

-- bytes as digits
pub length-hexes : (bs : List ℕ) → length (hexes bs) ≡ 3 * length bs
length-hexes [] = refl
length-hexes (b ∷ bs) = omega (arith, length-hexes bs)

pub hexes_turn : (bs out : List ℕ) (at i : ℕ) → i < length bs → at + 3 * (length bs - i) ≤ length out
    → pasted (at + 3) (hexes (drop (i + 1) bs)) (pasted at (space ∷ hex_pair (get_or bs i 0)) out) ≡ pasted at (hexes (drop i bs)) out
hexes_turn bs out at i h l =
    let x : List ℕ = space ∷ hex_pair (get_or bs i 0) in
    let y : List ℕ = hexes (drop (i + 1) bs) in
    let e : hexes (drop i bs) ≡ x ++ y = rw (add-one i, drop-cons bs i 0 h) in
    let n = length-hexes (drop (i + 1) bs) in
    let m = length-drop (i + 1) bs in
    pasted_twice at x y out (omega arith) ∙ ap (λ (t : List ℕ). pasted at t out) (sym e)

-- two lists put one after the other, and a byte behind them
module _ (at b p q : ℕ) (d h out : List ℕ) {x y : List ℕ} (fits : at + (length d + length h) < length out)
    (ex : x ≡ pasted at d out) (eq : q ≡ at + length d) (ey : y ≡ pasted q h x) where
  both_put : y ≡ pasted at (d ++ h) out
  both_put = ey ∙ rw (ex, eq) (pasted_twice at d h out (omega arith))

  pub both_length : length y ≡ length out
  both_length = rw both_put (length-pasted at (d ++ h) out (omega (arith, length-append d h)))

  pub all_put : p ≡ at + (length d + length h) → set y p b ≡ pasted at (d ++ (h ++ b ∷ [])) out
  all_put ep =
      let l = length-append d h in
      let e : p ≡ at + length (d ++ h) = omega arith in
      pasted_one p b y (omega (arith, both_length))
      ∙ rw (e, both_put) (pasted_twice at (d ++ h) (b ∷ []) out (omega arith) ∙ ap (λ (t : List ℕ). pasted at t out) (append_assoc d h (b ∷ [])))

-- how long a line can be, and the last line
pub line-length : (place : ℕ) (bs : List ℕ) → length (line place bs) ≡ length (decimal place) + 3 * length bs + 1
unfolding line
line-length place bs =
    omega (arith, length-append (decimal place) (hexes bs ++ newline ∷ []), length-append (hexes bs) (newline ∷ []), length-hexes bs)

pub place_short : (place : ℕ) → place < chain_most → length (decimal place) ≤ 2
place_short place h = decimal_short 1 place (omega arith)

pub offset_short : (n : ℕ) → n < 2 ^ 64 → length (decimal n) ≤ 20
offset_short n h = decimal_short 19 n (omega arith)

pub bad_length : (n : ℕ) → length (bad_line n) ≡ length (decimal n) + 5
unfolding bad_line
bad_length n = omega (arith, length-append (decimal n) (newline ∷ []))
