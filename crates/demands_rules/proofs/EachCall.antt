-- What holds of a servo after each call, if each call that leaves it, a frame that it does not execute, one that it executes, and a tick keep it.
-- Assumes nothing.
use mathlib.Core.Path.{◌≡◌, refl, sym, ap, subst, ◌∙◌}
use mathlib.Core.List.{List}
use mathlib.Core.Bool.{Bool, true, false}
use mathlib.Core.Option.{some}
use Prim.Native.Nat.{ℕ, suc}
use native.Mathlib.Omega.{arith}
use borrow.Author.Tests.{eqb-true, eqb-false}
use lib.ListN.{get_elem?}
use lib.Dec.{eqb}
use Rattle.std.specs.Prelude.{Some}
use Rattle.line_receiver.specs.Receive.{taken}
use Rattle.line_receiver.specs.Frames.{Frame, frame_in}
use Rattle.chain_rules.specs.Chain.{addresses, touched}
use Rattle.servo_rules.specs.declared.Sample.{Sample}
use Rattle.servo_rules.specs.declared.Servo.{Servo}
use Rattle.servo_rules.specs.Tick.{ticked}
use Rattle.servo_rules.specs.Answers.{with_cause, execute}
use Rattle.servo_slot_rules.specs.Promises.{Fits}
use Rattle.types_rules.specs.Table.{servo}
use Rattle.types_rules.specs.Types.{kind, slots}
use Rattle.types_rules.proofs.Promised.{every_type}
use Rattle.net_rules.specs.Record.{net_in}
use Rattle.api_rules.specs.Table.{byte_table}
use Rattle.api_rules.specs.Promises.{Passes, ValidRecord}
use Rattle.demands_history_rules.specs.Calls.{Call, byte, tick, AllHanded}
use Rattle.demands_history_rules.proofs.Events.{below}
use Rattle.demands_rules.specs.Place.{after}
use Rattle.demands_rules.specs.ServoPlace.{servo_sample_at, Stands, Executed, Ticked}
use Rattle.demands_rules.proofs.Making.{fits_at, same, framed, timed}
use Rattle.demands_rules.proofs.Placing.{valid-after, untouched, Only, executed-by, Carries}

module _ (net : List ℕ) (cs : List Call) (i : ℕ) (v : ValidRecord net) (h : AllHanded cs) (P : ℕ → Servo → Type 0) where
  -- call n executes nothing here
  abbrev Idle : ℕ → Type 0
  Idle n = (f : Frame) → Executed net cs i n f → ⊥

  -- the frame that call n may end, damaged or not
  abbrev ending : ℕ → Bool → Frame
  ending n d = frame_in (net_in slots (after net cs i n)).receiver d

  pub record Each : Type 0 where
    pub same : (n : ℕ) (m : Servo) → Idle n → P n m → P (suc n) m
    pub refused : (n : ℕ) (m : Servo) (c : ℕ) → Idle n → P n m → P (suc n) (with_cause c m)
    pub done : (n : ℕ) (m : Servo) (f : Frame) (alone : Bool) → Fits m → f.damaged ≡ false → Executed net cs i n f → ((g : Frame) → Executed net cs i n g → g ≡ f)
        → (execute f alone m).station.cause ≡ 0 → P n m → P (suc n) (execute f alone m)
    pub tick : (n : ℕ) (m : Servo) (x : Sample) → Fits m → Fits (ticked x m) → Idle n → Stands net cs i n m → Ticked net cs i n x → Stands net cs i (suc n) (ticked x m)
        → Only servo net cs i (suc n) (ticked x m) → P n m → P (suc n) (ticked x m)

  module _ (each : Each) where
    ended : (n mark value : ℕ) (room : List ℕ) (d alone : Bool) (m : Servo) → Fits m
        → get_elem? cs n ≡ some (byte mark value room) → Passes (byte_table (after net cs i n) mark room)
        → touched true (net_in slots (after net cs i n)).receiver.address (addresses kind (net_in slots (after net cs i n)).modules) i ≡ true
        → (taken (net_in slots (after net cs i n)).receiver value (eqb mark 1)).answer ≡ Some d
        → Stands net cs i (suc n) (execute (ending n d) alone m)
        → Only servo net cs i (suc n) (execute (ending n d) alone m)
        → P n m → P (suc n) (execute (ending n d) alone m)
    ended n mark value room d alone m fits call goes t a st o p = by d refl
      where
        refused-by : (c : ℕ) → (c ≡ 0 → ⊥) → execute (ending n d) alone m ≡ with_cause c m
            → P (suc n) (execute (ending n d) alone m)
        refused-by c z e =
            subst (P (suc n)) (sym e) (each.refused n m c (λ f x. z (ap (λ (k : Servo). k.station.cause) (sym e) ∙ x.cause _ st)) p)

        whole : d ≡ false → (b : Bool) → eqb (execute (ending n d) alone m).station.cause 0 ≡ b
            → P (suc n) (execute (ending n d) alone m)
        whole z true e =
            let c = eqb-true _ 0 e in
            each.done n m (ending n d) alone fits z
            (subst (λ (d : Bool). Executed net cs i n (ending n d)) (sym z)
            (executed-by servo net cs i n mark value room call goes t (a ∙ ap Some z) _ o c))
            (λ g x. x.met.frame ∙ ap (ending n) (x.undamaged ∙ sym z)) c p
        whole z false e =
            let c = eqb-false _ 0 e in
            refused-by _ c (((every_type servo).cause (ending n d) alone m).kept c)

        by : (b : Bool) → d ≡ b → P (suc n) (execute (ending n d) alone m)
        by true z = refused-by 1 (λ q. omega arith) (((every_type servo).cause (ending n d) alone m).damaged z)
        by false z = whole z (eqb (execute (ending n d) alone m).station.cause 0) refl

    pub each-call : Carries servo net cs i P
    each-call n _ m _ g w st (same c s _) st' o p = each.same n m (λ f x. untouched net cs i n c g s f x.met) p
    each-call n _ m _ g w st (framed mark x room d goes a t) st' o p = ended n mark x room d _ m (fits_at servo (after net cs i n) i m w st) g goes t a st' o p
    each-call n _ m _ g w st (timed samples q _) st' o p =
        each.tick n m (servo_sample_at samples i) (fits_at servo (after net cs i n) i m w st)
        (fits_at servo (after net cs i (suc n)) i (ticked (servo_sample_at samples i) m)
        (valid-after net cs i (suc n) v h (below cs n (tick samples) g)) st')
        (λ f x. untouched net cs i n (tick samples) g tt f x.met) st
        (record { samples = samples; call = g; done = q; own = refl }) st' o p
