-- Characters taken one after another by a step: what each brings, and what all of them come to, up to the first that can't stand where it does.
use Rattle.std.specs.Prelude.{List, [], ◌∷◌, ◌++◌, cond, ℕ, suc, ◌+◌, length, eqb}
use Rattle.line_receiver.specs.Frames.{Byte}

-- 02 P7: what a character brings where something stands at a stage: the next stage; a byte and the next stage; or it can't stand there.
pub data Brought (S : Type 0) : Type 0 where
  more : S → Brought S
  gives : Byte → S → Brought S
  cannot : Brought S

-- 02 P7: what characters come to: the stage then, the bytes that they gave, and how many of them were taken.
pub record Reading (S : Type 0) : Type 0 where
  pub stage : S
  pub bytes : List Byte
  pub count : ℕ

abbrev pub onward : {S : Type 0} → Reading S → Reading S
onward r = record { stage = r.stage; bytes = r.bytes; count = suc r.count }

abbrev pub onward_with : {S : Type 0} → Byte → Reading S → Reading S
onward_with b r = record { stage = r.stage; bytes = b ∷ r.bytes; count = suc r.count }

-- nothing was taken
abbrev pub still : {S : Type 0} → S → Reading S
still s = record { stage = s; bytes = []; count = 0 }

-- a character at stage s, and then what the rest comes to from the stage after it
abbrev pub goes_on : {S : Type 0} → S → (S → Reading S) → Brought S → Reading S
goes_on s rest (more n) = onward (rest n)
goes_on s rest (gives b n) = onward_with b (rest n)
goes_on s rest cannot = still s

unfoldable pub folded : {S : Type 0} → (S → ℕ → Brought S) → S → List ℕ → Reading S
folded f s [] = still s
folded f s (c ∷ cs) = goes_on s (λ n. folded f n cs) (f s c)

-- 02 P7: two pieces, the second from the stage that the first left.
abbrev pub joined : {S : Type 0} → Reading S → Reading S → Reading S
joined r q = record { stage = q.stage; bytes = r.bytes ++ q.bytes; count = r.count + q.count }

-- 02 P7: characters handed over in pieces, none after the piece that has one which can't stand there.
unfoldable pub in_pieces : {S : Type 0} → (S → ℕ → Brought S) → S → List (List ℕ) → Reading S
in_pieces f s [] = still s
in_pieces f s (p ∷ ps) =
    cond (eqb (folded f s p).count (length p)) (joined (folded f s p) (in_pieces f (folded f s p).stage ps)) (folded f s p)

-- all pieces as one
abbrev pub together : List (List ℕ) → List ℕ
together [] = []
together (p ∷ ps) = p ++ together ps
