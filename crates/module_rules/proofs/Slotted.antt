-- What the calls of a touch give, put together, for a module of any type in a slot. Assumes nothing.
use mathlib.Core.Path.{◌≡◌, sym, ap, ap₂, ◌∙◌}
use mathlib.Core.List.{List, []}
use mathlib.Core.Bool.{Bool, true, false, cond}
use Prim.Native.Nat.{ℕ}
use lib.ListN.{length}
use Rattle.base_layout.specs.Bytes.{pasted}
use Rattle.base_layout.proofs.Pasted.{pasted_none}
use Rattle.line_receiver.specs.Frames.{Frame}
use Rattle.module_rules.specs.Touch.{individually, speaks}
use Rattle.module_rules.specs.Kind.{Kind, executed, replied}

module _ {M S : Type 0} (K : Kind M S) (enc : M → List ℕ) (dec : List ℕ → M) (f : Frame) (s room : List ℕ) (from : ℕ) {before after : M}
    {t u : Bool} {s' : List ℕ} (eb : before ≡ dec s) (et : t ≡ individually f.address (K.address before)) (ea : after ≡ K.execute f t before)
    (es : s' ≡ pasted 0 (enc after) s) (eu : u ≡ speaks f.address (K.address before)) where
  after_is : after ≡ executed K f (dec s)
  after_is = ea ∙ ap (λ (t : Bool). K.execute f t before) et ∙ ap (λ (m : M). executed K f m) eb

  slot_is : s' ≡ pasted 0 (enc (executed K f (dec s))) s
  slot_is = es ∙ ap (λ (m : M). pasted 0 (enc m) s) after_is

  said_is : (b : Bool) → u ≡ b → replied K f (dec s) ≡ cond b (K.reply f after) []
  said_is b e =
      ap₂ (λ (v : Bool) (m : M). cond v (K.reply f m) []) (ap (λ (m : M). speaks f.address (K.address m)) (sym eb) ∙ sym eu ∙ e) (sym after_is)

  pub spoken : u ≡ true → {r : ℕ} {room' : List ℕ} → (r ≡ length (K.reply f after)) × (room' ≡ pasted from (K.reply f after) room)
      → (r ≡ length (replied K f (dec s)))
      × ((s' ≡ pasted 0 (enc (executed K f (dec s))) s) × (room' ≡ pasted from (replied K f (dec s)) room))
  spoken e p = let q = sym (said_is true e) in (p.0 ∙ ap length q, (slot_is, p.1 ∙ ap (λ (x : List ℕ). pasted from x room) q))

  pub silent : u ≡ false
      → (0 ≡ length (replied K f (dec s)))
      × ((s' ≡ pasted 0 (enc (executed K f (dec s))) s) × (room ≡ pasted from (replied K f (dec s)) room))
  silent e =
      let q = sym (said_is false e) in
      (ap length q, (slot_is, sym (pasted_none from room) ∙ ap (λ (x : List ℕ). pasted from x room) q))
