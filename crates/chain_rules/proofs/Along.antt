-- Lengths along a chain: as many modules as before, and replies no longer than the module types allow. Assumes nothing.
use mathlib.Core.Path.{◌≡◌, refl, ap, subst⁻¹, ◌∙◌}
use mathlib.Core.List.{List, [], ◌∷◌, map}
use mathlib.Core.Bool.{Bool, true, false, cond, ◌&&◌}
use Prim.Native.Nat.{ℕ, suc, ◌+◌, ◌*◌, ◌≤◌}
use native.Mathlib.Omega.{arith}
use native.Mathlib.Nat.{mul-suc}
use lib.ListN.{length, length-append}
use Rattle.line_receiver.specs.Frames.{Byte, Frame, frame_in}
use Rattle.line_receiver.specs.Receive.{total}
use Rattle.module_rules.specs.Touch.{named, speaks}
use Rattle.module_rules.specs.Kind.{Kind, executed, replied}
use Rattle.chain_rules.specs.Chain.{Net, join, handed, said, byte_step}
use Rattle.module_rules.proofs.Speaking.{speaks_before}
use Rattle.chain_rules.proofs.Bytes.{step_either}

pub length-join : (ws : List (List ℕ)) → length (join ws) ≡ total (map (λ (w : List ℕ). length w) ws)
length-join [] = refl
length-join (w ∷ ws) = length-append w (join ws) ∙ ap (λ (n : ℕ). length w + n) (length-join ws)

at_most : (n : ℕ) (t : Bool) (w : List ℕ) → length w ≤ n → length (cond t w []) ≤ n
at_most n true w h = h
at_most n false w h = omega arith

module _ {M S : Type 0} (K : Kind M S) (f : Frame) where
  pub length-handed : (t : Bool) (ms : List M) → length (handed K f t ms) ≡ length ms
  length-handed t [] = refl
  length-handed t (m ∷ ms) = ap suc (length-handed (K.address m).low ms)

  pub length-said : (t : Bool) (ms : List M) → length (said K f t ms) ≡ length ms
  length-said t [] = refl
  length-said t (m ∷ ms) = ap suc (length-said (K.address m).low ms)

  -- a module's reply is no longer than its type's
  pub replied_short : (n : ℕ) → ((m : M) → length (K.reply f m) ≤ n) → (m : M) → length (replied K f m) ≤ n
  replied_short n h m = go (speaks f.address (K.address m)) refl
    where
      go : (t : Bool) → speaks f.address (K.address m) ≡ t → length (replied K f m) ≤ n
      go true e = subst⁻¹ (λ (w : List ℕ). length w ≤ n) ((speaks_before K).1 f m e) (h (executed K f m))
      go false e = subst⁻¹ (λ (w : List ℕ). length w ≤ n) ((speaks_before K).0 f m e) (omega arith)

  -- all replies together
  pub said_short : (n : ℕ) → ((m : M) → length (replied K f m) ≤ n) → (t : Bool) (ms : List M) → length (join (said K f t ms)) ≤ n * length ms
  said_short n h t [] = omega arith
  said_short n h t (m ∷ ms) =
      let one = at_most n (t && named f.address (K.address m)) (replied K f m) (h m) in
      let rest = said_short n h (K.address m).low ms in
      rw (length-append, mul-suc) (omega arith)

-- a byte leaves as many modules as before
pub length-stepped : {M S : Type 0} (K : Kind M S) (n : Net M) (b : Byte) → length (byte_step K n b).net.modules ≡ length n.modules
length-stepped K n b =
    step_either K (λ s. length s.net.modules ≡ length n.modules) n b
    (λ r e. refl)
    (λ r d e. length-handed K (frame_in n.receiver d) true n.modules)
