-- The mill's question in any time, of any type with loads. Assumes nothing.
use mathlib.Core.Path.{◌≡◌, refl, sym, ap, ap₂, subst, ◌∙◌}
use mathlib.Core.List.{List}
use mathlib.Core.Bool.{Bool, true, false, cond}
use mathlib.Core.Option.{some}
use Prim.Native.Nat.{ℕ, zero, suc, ◌<◌, ◌≤◌}
use native.Mathlib.Omega.{arith}
use lib.ListN.{length, get_elem?, take}
use lib.Dec.{eqb}
use Rattle.line_receiver.specs.declared.Receiver.{Receiver}
use Rattle.std.specs.Prelude.{Some}
use Rattle.line_receiver.specs.Receive.{taken}
use Rattle.line_receiver.specs.Frames.{Frame, frame_in}
use Rattle.module_rules.specs.Touch.{individually}
use Rattle.module_rules.specs.Rules.{with_cause, execute}
use Rattle.servo_rules.proofs.Keeping.{either}
use Rattle.types_rules.specs.Table.{ModuleType, Of, rules_of}
use Rattle.types_rules.specs.Types.{slots}
use Rattle.net_rules.specs.Record.{net_in}
use Rattle.base_layout.specs.First.{first}
use Rattle.api_rules.specs.Table.{tick_table}
use Rattle.api_rules.specs.Promises.{ValidRecord}
use Rattle.demands_history_rules.specs.Calls.{Call, byte, tick, AllHanded}
use Rattle.demands_history_rules.proofs.Events.{below}
use Rattle.demands_rules.specs.Place.{AtOf, sample_at, after, Touched, Stands, in_time, through_time}
use Rattle.demands_rules.specs.Question.{Missed, IsStart, QuestionInTime, Loading}
use Rattle.demands_rules.proofs.Making.{Made, same, framed, timed, made}
use Rattle.demands_rules.proofs.Placing.{call_at, time_at, valid-after, untouched}
use Rattle.demands_rules.proofs.Question.{ButCause, tick_but, missed_but, start_refused}

-- two names of one byte give one answer, and one damage
same_answer : (r : Receiver) (mark y mark' y' : ℕ) {room room' : List ℕ} → some (byte mark y room) ≡ some (byte mark' y' room')
    → (taken r y (eqb mark 1)).answer ≡ (taken r y' (eqb mark' 1)).answer
same_answer r mark y mark' y' e =
    let p : mark ≡ mark' = cc in
    let q : y ≡ y' = cc in
    ap₂ (λ (m v : ℕ). (taken r v (eqb m 1)).answer) p q

same_damage : (d b : Bool) → Some d ≡ Some b → d ≡ b
same_damage d b e = cc

module _ (t : ModuleType) where
  -- of two pairs that are the same but for the cause, one or the other
  either_but : (u : Bool) (m' m k' k : Of t) → ButCause t m' k' → ButCause t m k → ButCause t (cond u m' m) (cond u k' k)
  either_but true m' m k' k b' b = b'
  either_but false m' m k' k b' b = b

  -- time goes on whatever the cause is
  time_but : (net : List ℕ) (i : ℕ) (c : Call) (m k : Of t) → ButCause t m k → ButCause t (in_time t net i c m) (in_time t net i c k)
  time_but net i (byte mark x room) m k b = b
  time_but net i (tick samples) m k b =
      either_but (eqb (first (tick_table net samples)) 0) ((rules_of t).tick (sample_at t samples i) m) m ((rules_of t).tick (sample_at t samples i) k) k
      (tick_but t (sample_at t samples i) m k b) b

module _ (t : ModuleType) (needed : ℕ → ℕ) (NoneReady NoLoad : Of t → Type 0) (o : Loading t needed NoneReady NoLoad) where
  -- time brings no load
  time_empty : (net : List ℕ) (i : ℕ) (c : Call) (m : Of t) → NoLoad m → NoLoad (in_time t net i c m)
  time_empty net i (byte mark x room) m h = h
  time_empty net i (tick samples) m h =
      either NoLoad (eqb (first (tick_table net samples)) 0) ((rules_of t).tick (sample_at t samples i) m) m (o.tick (sample_at t samples i) m h) h

  module _ (net : List ℕ) (cs : List Call) (i : ℕ) (m : Of t) where
    -- what ticks alone make of it by the first n calls
    abbrev timely : ℕ → Of t
    timely n = through_time t net i (take n cs) m

    -- a call leaves what time makes of it, but for the cause, if what it may have ended is a missed load
    missed_by : (n : ℕ) (c : Call) (s k : Of t) → get_elem? cs n ≡ some c → ((f : Frame) → Touched net cs i n f → Missed needed true f)
        → ButCause t (timely n) s → Made t (after net cs i n) i s c k → ButCause t (timely (suc n)) k
    missed_by n _ s _ e q b (same c _ z) =
        subst (λ (x : Of t). ButCause t x s) (sym (time_at t cs net i n m c e))
        (subst (ButCause t (in_time t (after net cs i n) i c (timely n))) z (time_but t (after net cs i n) i c (timely n) s b))
    missed_by n _ s k e q b (framed mark x room d goes a u) =
        let f : Frame = frame_in (net_in slots (after net cs i n)).receiver d in
        subst (λ (x : Of t). ButCause t x k) (sym (time_at t cs net i n m (byte mark x room) e))
        (missed_but t needed NoneReady NoLoad o f _ (timely n) s b
        (q f (record { mark = mark; value = x; room = room; call = e; done = goes; ended = a; frame = refl; touches = u })))
    missed_by n _ s k e q b (timed samples _ z) =
        subst (λ (x : Of t). ButCause t x k) (sym (time_at t cs net i n m (tick samples) e))
        (subst (ButCause t (in_time t (after net cs i n) i (tick samples) (timely n))) z (time_but t (after net cs i n) i (tick samples) (timely n) s b))

    module _ (v : ValidRecord net) (h : AllHanded cs) (at : AtOf t net i m) (empty : NoLoad m) where
      stays-empty : (n : ℕ) → n ≤ length cs → NoLoad (timely n)
      stays-empty zero l = empty
      stays-empty (suc n) l =
          let (c, e, z, hc) = call_at cs net n (omega arith) h in
          subst NoLoad (sym (time_at t cs net i n m c e)) (time_empty (after net cs i n) i c (timely n) (stays-empty n (omega arith)))

      -- through missed loads, but for the cause
      missed-on : (n : ℕ) → n ≤ length cs → ((j : ℕ) (f : Frame) → j < n → Touched net cs i j f → Missed needed true f)
          → (s : Of t) × Stands t net cs i n s × ButCause t (timely n) s
      missed-on zero l q = (m, at, λ c. refl)
      missed-on (suc n) l q =
          let (s, st, b) = missed-on n (omega arith) (λ j f r x. q j f (omega arith) x) in
          let (c, e, z, hc) = call_at cs net n (omega arith) h in
          let (k, p, d) = made t (after net cs i n) c i s hc (valid-after net cs i n v h (omega arith)) st in
          (k, subst (λ (r : List ℕ). AtOf t r i k) (sym z) p, missed_by n c s k e (λ f x. q n f (omega arith) x) b d)

      in-time : (n : ℕ) (start : Frame) → Touched net cs i n start → IsStart start
          → ((j : ℕ) (load : Frame) → j < n → Touched net cs i j load → Missed needed true load)
          → Stands t net cs i (suc n) (with_cause (rules_of t) 3 (timely n))
      in-time n start x is q =
          let l : n < length cs = below cs n _ x.call in
          let (s, st, b) = missed-on n (omega arith) q in
          let (c, e, z, hc) = call_at cs net n l h in
          let (k, p, d) = made t (after net cs i n) c i s hc (valid-after net cs i n v h (omega arith)) st in
          by (omega arith) s b c k e d (subst (λ (r : List ℕ). AtOf t r i k) (sym z) p)
        where
          by : n ≤ length cs → (s : Of t) → ButCause t (timely n) s → (c : Call) (k : Of t) → get_elem? cs n ≡ some c → Made t (after net cs i n) i s c k
              → Stands t net cs i (suc n) k → Stands t net cs i (suc n) (with_cause (rules_of t) 3 (timely n))
          by l s b _ _ e (same c y _) st = absurd (untouched net cs i n c e y start x)
          by l s b _ _ e (timed samples _ _) st = absurd (untouched net cs i n (tick samples) e tt start x)
          by l s b _ _ e (framed mark y room d goes a u) st =
              let r : Receiver = (net_in slots (after net cs i n)).receiver in
              let alone : Bool = individually r.address ((rules_of t).station s).address in
              let g : some (byte mark y room) ≡ some (byte x.mark x.value x.room) = sym e ∙ x.call in
              let mine : Some d ≡ Some start.damaged = sym a ∙ same_answer r mark y x.mark x.value g ∙ x.ended in
              let is-start : frame_in r d ≡ start = ap (frame_in r) (same_damage d start.damaged mine) ∙ sym x.frame in
              subst (Stands t net cs i (suc n))
              (ap (λ (f : Frame). execute (rules_of t) f alone s) is-start
              ∙ start_refused t needed NoneReady NoLoad o (timely n) s start alone b (o.none (timely n) (stays-empty n l)) is)
              st

  pub question_in_time : QuestionInTime t needed NoLoad
  question_in_time net cs i n m start v h at empty x is q = in-time net cs i m v h at empty n start x is q
