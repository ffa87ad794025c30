-- What the reader's step takes of one character, and what of a text by the grammar can be left behind it. Assumes nothing.
use mathlib.Core.Path.{◌≡◌, refl, subst}
use mathlib.Core.List.{List, [], ◌∷◌, ◌++◌, append_assoc}
use mathlib.Core.Bool.{Bool, true, false, cond}
use Prim.Native.Nat.{ℕ, ◌+◌, ◌*◌}
use borrow.Author.Tests.{lt-ltb, eqb-true, ltb-true}
use lib.Dec.{eqb, ltb}
use Rattle.base_text.specs.Digits.{space, newline}
use Rattle.line_receiver.specs.Frames.{Byte}
use Rattle.text_rules.specs.Text.{bang, Hex, OneByte, plain, marked, OneLine, last, next, Text, lines}
use Rattle.text_rules.specs.Fold.{Brought, more, gives, cannot}
use Rattle.text_rules.specs.Import.{Stage, Line, Space, Digit, Whole, Mark, value_of, step}
use Rattle.text_rules.proofs.Hexed.{value_hex, hex_small, hex_value}

-- a byte's digits and its mark, where a byte begins
abbrev pub Opens : Stage → Type 0
Opens s = (c d : ℕ) → Hex c d → step s c ≡ more (Digit d)

pub line-opens : Opens Line
unfolding step
line-opens c d h = rw (value_hex h, lt-ltb d 16 (hex_small h))

pub space-opens : Opens Space
unfolding step
space-opens c d h = rw (value_hex h, lt-ltb d 16 (hex_small h))

pub digit-on : (x c d : ℕ) → Hex c d → step (Digit x) c ≡ more (Whole (16 * x + d))
unfolding step
digit-on x c d h = rw (value_hex h, lt-ltb d 16 (hex_small h))

-- What can be left of a text by the grammar: behind a space, a line and a text;
pub data Lined : List ℕ → List Byte → Type 0 where
  lined : {t u : List ℕ} {bs cs : List Byte} → OneLine t bs → Text u cs → Lined (t ++ u) (bs ++ cs)

-- behind a byte, the line's end and a text, or a space and what is left there.
pub data Parted : List ℕ → List Byte → Type 0 where
  ended : {t : List ℕ} {bs : List Byte} → Text t bs → Parted (newline ∷ t) bs
  spaced : {t : List ℕ} {bs : List Byte} → Lined t bs → Parted (space ∷ t) bs

pub lined_text : {t : List ℕ} {bs : List Byte} → Lined t bs → Text t bs
lined_text (lined l t) = lines l t

lined_same : {t u : List ℕ} {bs : List Byte} → t ≡ u → Lined t bs → Lined u bs
lined_same {t} {u} {bs} e l = subst (λ (x : List ℕ). Lined x bs) e l

-- a byte before what parts it from the next
byte_lined : {t u : List ℕ} {b : Byte} {bs : List Byte} → OneByte t b → Parted u bs → Lined (t ++ u) (b ∷ bs)
byte_lined {t} b (ended {t = u} x) = lined_same (append_assoc t (newline ∷ []) u) (lined (last b) x)
byte_lined {t} b (spaced (lined {t = v} {u = w} l x)) = lined_same (append_assoc t (space ∷ v) w) (lined (next b l) x)

-- what is left where the reader stands at a stage
abbrev pub Left : Stage → List ℕ → List Byte → Type 0
Left Line t bs = Text t bs
Left Space t bs = Lined t bs
Left (Digit d) t bs = (h : ℕ) → Hex h d → Lined (h ∷ t) bs
Left (Whole v) t bs = (h l x y : ℕ) → Hex h x → Hex l y → v ≡ 16 * x + y → Lined (h ∷ l ∷ t) bs
Left Mark t bs = Parted t bs

-- what an answer says of the characters that follow it
abbrev pub Behind : Brought Stage → List ℕ → List Byte → Type 0
Behind (more n) t bs = Left n t bs
Behind (gives b n) t [] = ⊥
Behind (gives b n) t (x ∷ bs) = (x ≡ b) × Left n t bs
Behind cannot t bs = ⊥

-- a character that the step takes stands before it
pub first-left : (c : ℕ) (t : List ℕ) (bs : List Byte) → Behind (cond (ltb (value_of c) 16) (more (Digit (value_of c))) cannot) t bs → Lined (c ∷ t) bs
first-left c t bs = go (ltb (value_of c) 16) refl
  where
    go : (q : Bool) → ltb (value_of c) 16 ≡ q → Behind (cond q (more (Digit (value_of c))) cannot) t bs → Lined (c ∷ t) bs
    go true e h = h c (hex_value c (ltb-true _ _ e))
    go false e h = absurd h

pub second_left : (d c : ℕ) (t : List ℕ) (bs : List Byte)
    → Behind (cond (ltb (value_of c) 16) (more (Whole (16 * d + value_of c))) cannot) t bs → (h : ℕ) → Hex h d → Lined (h ∷ c ∷ t) bs
second_left d c t bs = go (ltb (value_of c) 16) refl
  where
    go : (q : Bool) → ltb (value_of c) 16 ≡ q → Behind (cond q (more (Whole (16 * d + value_of c))) cannot) t bs → (h : ℕ) → Hex h d → Lined (h ∷ c ∷ t) bs
    go true e k h x = k h c d (value_of c) x (hex_value c (ltb-true _ _ e)) refl
    go false e k h x = absurd k

-- a byte that has ended stands before what parts it from the next
module _ (v : ℕ) {t : List ℕ} {bs : List Byte} (h l x y : ℕ) (hx : Hex h x) (hl : Hex l y) (e : v ≡ 16 * x + y) where
  plain-left : Parted t bs → Lined (h ∷ l ∷ t) (record { value = v; mark = false } ∷ bs)
  plain-left p = rw e (byte_lined (plain hx hl) p)

  marked-left : Parted t bs → Lined (h ∷ l ∷ bang ∷ t) (record { value = v; mark = true } ∷ bs)
  marked-left p = rw e (byte_lined (marked hx hl) p)

pub behind-left : (v c : ℕ) (t : List ℕ) (bs : List Byte)
    → Behind (cond (eqb c bang) (gives (record { value = v; mark = true }) Mark) (cond (eqb c space) (gives (record { value = v; mark = false }) Space) (cond (eqb c newline) (gives (record { value = v; mark = false }) Line) cannot))) t bs
    → (h l x y : ℕ) → Hex h x → Hex l y → v ≡ 16 * x + y → Lined (h ∷ l ∷ c ∷ t) bs
behind-left v c t bs = go (eqb c bang) refl (eqb c space) refl (eqb c newline) refl bs
  where
    go : (p : Bool) → eqb c bang ≡ p → (q : Bool) → eqb c space ≡ q → (r : Bool) → eqb c newline ≡ r → (bs : List Byte)
        → Behind (cond p (gives (record { value = v; mark = true }) Mark) (cond q (gives (record { value = v; mark = false }) Space) (cond r (gives (record { value = v; mark = false }) Line) cannot))) t bs
        → (h l x y : ℕ) → Hex h x → Hex l y → v ≡ 16 * x + y → Lined (h ∷ l ∷ c ∷ t) bs
    go true e q f r g [] k h l x y hx hl z = absurd k
    go true e q f r g (b ∷ bs) k h l x y hx hl z = rw (eqb-true c bang e, k.0) (marked-left v h l x y hx hl z k.1)
    go false e true f r g [] k h l x y hx hl z = absurd k
    go false e true f r g (b ∷ bs) k h l x y hx hl z = rw (eqb-true c space f, k.0) (plain-left v h l x y hx hl z (spaced k.1))
    go false e false f true g [] k h l x y hx hl z = absurd k
    go false e false f true g (b ∷ bs) k h l x y hx hl z = rw (eqb-true c newline g, k.0) (plain-left v h l x y hx hl z (ended k.1))
    go false e false f false g bs k h l x y hx hl z = absurd k

pub mark_left : (c : ℕ) (t : List ℕ) (bs : List Byte) → Behind (cond (eqb c space) (more Space) (cond (eqb c newline) (more Line) cannot)) t bs → Parted (c ∷ t) bs
mark_left c t bs = go (eqb c space) refl (eqb c newline) refl
  where
    go : (q : Bool) → eqb c space ≡ q → (r : Bool) → eqb c newline ≡ r → Behind (cond q (more Space) (cond r (more Line) cannot)) t bs → Parted (c ∷ t) bs
    go true f r g k = rw (eqb-true c space f) (spaced k)
    go false f true g k = rw (eqb-true c newline g) (ended k)
    go false f false g k = absurd k
