-- What a frame drops, and what its bits say, by its code and its kind. Assumes nothing.
use mathlib.Core.Path.{◌≡◌, refl, sym, ap, subst, ◌∙◌}
use mathlib.Core.Logic.{inl, inr}
use mathlib.Core.Bool.{Bool, true, false, cond, false≢true, true≢false}
use Prim.Native.Nat.{ℕ}
use lib.ListN.{length, get_or}
use lib.Dec.{eqb}
use Rattle.base_integers.specs.Bits.{is_set}
use Rattle.line_receiver.specs.Frames.{Frame}
use Rattle.module_rules.specs.declared.Fault.TheVariants.{Count}
use Rattle.module_rules.specs.Rules.{malformed, wants}
use Rattle.servo_rules.specs.declared.Halt.{Halt}
use Rattle.servo_rules.specs.declared.Halt.TheVariants.{Keep, Release, Abrupt, Smooth, Here}
use Rattle.servo_rules.specs.declared.Order.TheVariants.{Start}
use Rattle.servo_rules.specs.declared.Way.{Way}
use Rattle.servo_rules.specs.declared.Way.TheVariants.{Pulse, Speed, Move}
use Rattle.servo_rules.specs.Carried.{needed}
use Rattle.servo_rules.specs.Asks.{halt_of, stop_count}
use Rattle.servo_rules.specs.Loads.{way_of}
use Rattle.servo_rules.specs.Answers.{request}
use Rattle.servo_rules.proofs.Known.{spared, BitOf, halt_bits, halt_bits_lem}
use Rattle.servo_rules.proofs.Coding.{codes}
use Rattle.servo_rules.proofs.Taken.{load_read}
use Rattle.demands_rules.specs.Loaded.{control, Has, Lacks}
use Rattle.demands_rules.specs.Sent.{Drops}

-- a code that is spared drops no waiting load
pub spares : (f : Frame) → spared f.code ≡ true → Drops f → ⊥
spares f e (inl z) = false≢true (sym (ap spared z) ∙ e)
spares f e (inr (inl z)) = false≢true (sym (ap spared z) ∙ e)
spares f e (inr (inr (inl z))) = false≢true (sym (ap spared z) ∙ e)
spares f e (inr (inr (inr (inl z)))) = false≢true (sym (ap spared z) ∙ e)
spares f e (inr (inr (inr (inr h)))) = false≢true (sym (ap spared h.0) ∙ e)

-- code 5 without data asks for a start; a load with another count than its control byte asks for has a wrong count
pub start_asks : (f : Frame) (alone : Bool) → f.code ≡ 5 → length f.content ≡ 0 → request f alone ≡ wants Start
start_asks f alone c n = ((codes f alone).start c).0 n

pub short_asks : (f : Frame) (alone : Bool) → f.code ≡ 4 → (length f.content ≡ needed (get_or f.content 0 0) → ⊥) → request f alone ≡ malformed Count
short_asks f alone c n = (codes f alone).load c ∙ (load_read f.content).count n

-- ---- bits by what they say

-- Stop Here has bit 4, so it has five data bytes
pub here_five : (control : ℕ) → Here ≡ halt_of control → stop_count control ≡ 5
here_five control e = ap (λ (t : Bool). cond t 5 1) (subst (λ (h : Halt). BitOf h (halt_bits control)) (sym e) (halt_bits_lem control))

-- the kind with none of bits 1 to 4, and no other
abbrev keeps : Halt → Bool
keeps Keep = true
keeps Release = false
keeps Abrupt = false
keeps Smooth = false
keeps Here = false

pub not_keep : (h : Halt) → keeps h ≡ false → h ≡ Keep → ⊥
not_keep h e q = false≢true (sym e ∙ ap keeps q)

-- a Stop with none of them drops nothing
pub keep_spares : (f : Frame) → f.code ≡ 7 → BitOf Keep (halt_bits (control f)) → Drops f → ⊥
keep_spares f c k (inl z) = let q : ◌≡◌ {A = Bool} true false = ap (eqb 7) (sym c ∙ z) in true≢false q
keep_spares f c k (inr (inl z)) = let q : ◌≡◌ {A = Bool} true false = ap (eqb 7) (sym c ∙ z) in true≢false q
keep_spares f c k (inr (inr (inl z))) = let q : ◌≡◌ {A = Bool} true false = ap (eqb 7) (sym c ∙ z) in true≢false q
keep_spares f c k (inr (inr (inr (inl z)))) = let q : ◌≡◌ {A = Bool} true false = ap (eqb 7) (sym c ∙ z) in true≢false q
keep_spares f c k (inr (inr (inr (inr (x, inl h))))) = false≢true (sym k.0 ∙ h)
keep_spares f c k (inr (inr (inr (inr (x, inr (inl h)))))) = false≢true (sym k.1 ∙ h)
keep_spares f c k (inr (inr (inr (inr (x, inr (inr (inl h))))))) = false≢true (sym k.2 ∙ h)
keep_spares f c k (inr (inr (inr (inr (x, inr (inr (inr h))))))) = false≢true (sym k.3 ∙ h)

-- the mode of a Load says bits 4 and 5
abbrev pub WayBits : Way → Frame → Type 0
WayBits Pulse f = Lacks 4 f
WayBits Speed f = Has 4 f × Has 5 f
WayBits Move f = Has 4 f × Lacks 5 f

pub way_bits : (f : Frame) → WayBits (way_of (control f)) f
unfolding way_of
way_bits f = at (is_set 4 (control f)) (is_set 5 (control f)) refl refl
  where
    at : (s v : Bool) → is_set 4 (control f) ≡ s → is_set 5 (control f) ≡ v → WayBits (cond s (cond v Speed Move) Pulse) f
    at true true p q = (p, q)
    at true false p q = (p, q)
    at false v p q = p
