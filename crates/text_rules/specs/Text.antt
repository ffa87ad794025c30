-- The line monitor's text, as its grammar: which texts there are, and which bytes of the line each of them is (document 02, P7). Characters are ASCII
-- codes: 48 is the digit 0, 65 the letter A, 97 the letter a, 33 the exclamation mark.
use Rattle.std.specs.Prelude.{◌≡◌, List, [], ◌∷◌, ◌++◌, Bool, true, false, ℕ, ◌+◌, ◌*◌, ◌-◌, ◌<◌, ◌≤◌}
use Rattle.base_text.specs.Digits.{space, newline}
use Rattle.line_receiver.specs.Frames.{Byte}

-- 02 P7: what stands straight after a byte that came with a framing error.
abbrev pub bang : ℕ
bang = 33

-- 02 P7: a character is the hex digit of this value, in either letter case.
pub data Hex (c d : ℕ) : Type 0 where
  figure : d < 10 → c ≡ 48 + d → Hex c d
  upper : 10 ≤ d → d < 16 → c ≡ 65 + (d - 10) → Hex c d
  lower : 10 ≤ d → d < 16 → c ≡ 97 + (d - 10) → Hex c d

-- 02 P7: a byte is two hex digits, the upper one first; with a mark behind them if it came with a framing error.
pub data OneByte : List ℕ → Byte → Type 0 where
  plain : {h l x y : ℕ} → Hex h x → Hex l y → OneByte (h ∷ l ∷ []) (record { value = 16 * x + y; mark = false })
  marked : {h l x y : ℕ} → Hex h x → Hex l y → OneByte (h ∷ l ∷ bang ∷ []) (record { value = 16 * x + y; mark = true })

-- 02 P7: a line has at least one byte, one space between bytes, and a newline at its end.
pub data OneLine : List ℕ → List Byte → Type 0 where
  last : {t : List ℕ} {b : Byte} → OneByte t b → OneLine (t ++ newline ∷ []) (b ∷ [])
  next : {t u : List ℕ} {b : Byte} {bs : List Byte} → OneByte t b → OneLine u bs → OneLine (t ++ space ∷ u) (b ∷ bs)

-- 02 P7: a text is any number of lines; the empty text has no bytes.
pub data Text : List ℕ → List Byte → Type 0 where
  empty : Text [] []
  lines : {t u : List ℕ} {bs cs : List Byte} → OneLine t bs → Text u cs → Text (t ++ u) (bs ++ cs)

-- 02 P7: some text begins with these characters.
pub record Begins (p : List ℕ) : Type 0 where
  pub rest : List ℕ
  pub bytes : List Byte
  pub text : Text (p ++ rest) bytes
