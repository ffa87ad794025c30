-- Beside the quickest move on the line: two histories that meet what it asks for, computed. A servo is sent forth by a Start, at power 1, and back
-- through 0 by a Load that starts now, at power 2; between the ticks comes every frame that may. Assumes nothing.
use mathlib.Core.Path.{◌≡◌, refl, sym, ap, subst, ◌∙◌}
use mathlib.Core.Logic.{◌⊎◌, inl, inr}
use mathlib.Core.List.{List, [], ◌∷◌, ◌++◌}
use mathlib.Core.Bool.{Bool, true, false, not, cond, ◌&&◌, true≢false, false≢true}
use mathlib.Core.Option.{Option, some, none, map}
use Prim.Native.Nat.{ℕ, ◌-◌, ◌^◌, ◌<◌}
use native.Mathlib.Omega.{arith}
use borrow.Author.Tests.{eqb-true, leb-true, ltb-true}
use lib.Count.{ones}
use lib.IntN.{ℤ, pos, negsuc, nat_abs}
use lib.ListN.{length, get_elem?}
use lib.Dec.{eqb, leb, ltb}
use Rattle.base_integers.specs.Bits.{is_set}
use Rattle.base_integers.specs.Whole.{same, signed, difference}
use Rattle.line_receiver.specs.Receive.{taken}
use Rattle.line_receiver.specs.Frames.{Byte, Frame, clean, written, values, AreBytes}
use Rattle.module_rules.specs.Commands.{asked}
use Rattle.module_rules.specs.Rules as AnyType
use Rattle.chain_rules.specs.Chain.{Net, byte_step}
use Rattle.servo_motion.specs.Trapezoid.{terms, stop, pick, greatest, next_speed}
use Rattle.servo_motion.specs.Setpoint.{distance, moved}
use Rattle.servo_motion.specs.Profile.{left, trapezoid, stepped, by_trapezoid}
use Rattle.servo_filter.specs.Filter.{held, drive, limited, filtered}
use Rattle.servo_rules.specs.declared.Mode.TheVariants.{Off, Velocity, Trapezoid}
use Rattle.servo_rules.specs.declared.Sample.{Sample}
use Rattle.servo_rules.specs.declared.Servo.{Servo}
use Rattle.servo_rules.specs.Carried.{carried_in, in_range}
use Rattle.servo_rules.specs.Asks.{load_meant, gains_in, gains_fit, gain_meant, halt_of, stop_meant, own}
use Rattle.servo_rules.specs.Loads.{way_of, load_of, rates_of, loaded, beginning_at, movable, complete, startable, to_place, start}
use Rattle.servo_rules.specs.Perform.{stopped}
use Rattle.servo_rules.specs.Homing.{changed, homed}
use Rattle.servo_rules.specs.Tick.{advanced, servoed, by_power, ticked, met}
use Rattle.servo_rules.specs.TickPromises.{followed}
use Rattle.servo_rules.proofs.Keeping.{distinct}
use Rattle.types_rules.specs.Table.{ModuleType, servo, inout, stepper, Of}
use Rattle.types_rules.specs.Types.{Module, kind, slots}
use Rattle.net_rules.specs.Record.{net_in}
use Rattle.net_rules.specs.Calls.{set_up, samples_in}
use Rattle.net_rules.proofs.Tests.{and-true}
use Rattle.api_rules.specs.Promises.{ValidRecord}
use Rattle.demands_history_rules.specs.Events.{event, run}
use Rattle.demands_history_rules.specs.Calls.{Call, byte, tick, AllHanded, leaves, left_by, does}
use Rattle.demands_history_rules.proofs.Events.{below}
use Rattle.demands_history_rules.proofs.Calls.{call_kept, passed-leaves}
use Rattle.demands_rules.specs.Motion.{Bound, bound, LoadStarts, CallStarts}
use Rattle.demands_rules.specs.Loaded.{control, Has}
use Rattle.demands_rules.specs.Place.{after}
use Rattle.demands_rules.specs.ServoPlace.{At, servo_sample_at}
use Rattle.demands_rules.specs.Quickest.{Follows, Disturbs, Undisturbed, SetsOff, OnItsWay}
use Rattle.demands_rules.proofs.Examples.{lit, types, lent, room, valid, lone, enough, calls, happens, are_handed, ends_with}
use Rattle.demands_rules.proofs.OnTheLine.{are_small, small, byte_goes}
use Rattle.demands_rules.proofs.Calls.{any_calls}
use Rattle.demands_rules.proofs.EveryCall.{every_call}
use Rattle.demands_rules.proofs.OnTheWay.{quickest_on_the_line}
use Rattle.demands_rules.proofs.Computing.{Lone, lone_after, lone_on, AllOpen, through, net-after, all_pass, passes_at, ends_such, ends-such, spread, spread_open, spread_handed, all_tick}

-- the servo that a module is, if it is one: a line for each type
abbrev servo_of : (t : ModuleType) (m : Of t) → Option ((k : Servo) × ◌≡◌ {A = Module} (t, m) (servo, k))
servo_of servo m = some (m, refl)
servo_of inout m = none
servo_of stepper m = none

abbrev servo_in : (o : Option Module) → Option ((k : Servo) × (o ≡ some (servo, k)))
servo_in none = none
servo_in (some m) = map (λ s. (s.0, ap some s.1)) (servo_of m.0 m.1)

-- ---- a test that nothing disturbs, call by call

-- a frame, by its code and its control byte, that would disturb nothing even if it were executed
abbrev is_calm : ℕ → ℕ → Bool
is_calm code control =
    not (eqb code 0)
    && (not (eqb code 5)
    && (not (eqb code 15)
    && (not (eqb code 4 && is_set 7 control)
    && cond (eqb code 7) (not (is_set 1 control) && (not (is_set 2 control) && (not (is_set 3 control) && not (is_set 4 control)))) true)))

unset : (b : Bool) → not b ≡ true → b ≡ true → ⊥
unset true n e = false≢true n
unset false n e = false≢true e

is_calm_lem : (f : Frame) → is_calm f.code (control f) ≡ true → Disturbs f → ⊥
is_calm_lem f e d = by d
  where
    at : (k : ℕ) → f.code ≡ k → is_calm k (control f) ≡ true
    at k q = ap (λ (c : ℕ). is_calm c (control f)) (sym q) ∙ e

    by : Disturbs f → ⊥
    by (inl q) = false≢true (at 0 q)
    by (inr (inl (q, h))) = unset (is_set 7 (control f)) (and-true (not (is_set 7 (control f))) _ (at 4 q)).0 h
    by (inr (inr (inl q))) = false≢true (at 5 q)
    by (inr (inr (inr (inl q)))) = false≢true (at 15 q)
    by (inr (inr (inr (inr (q, h))))) =
        let (n1, e2) = and-true (not (is_set 1 (control f))) _ (at 7 q) in
        let (n2, e3) = and-true (not (is_set 2 (control f))) _ e2 in
        let (n3, n4) = and-true (not (is_set 3 (control f))) _ e3 in
        bit h n1 n2 n3 n4
      where
        bit : Has 1 f ⊎ (Has 2 f ⊎ (Has 3 f ⊎ Has 4 f)) → not (is_set 1 (control f)) ≡ true → not (is_set 2 (control f)) ≡ true
            → not (is_set 3 (control f)) ≡ true → not (is_set 4 (control f)) ≡ true → ⊥
        bit (inl h) n1 n2 n3 n4 = unset _ n1 h
        bit (inr (inl h)) n1 n2 n3 n4 = unset _ n2 h
        bit (inr (inr (inl h))) n1 n2 n3 n4 = unset _ n3 h
        bit (inr (inr (inr h))) n1 n2 n3 n4 = unset _ n4 h

-- a tick would find power, a small error and no homing
abbrev is_steady : Sample → Servo → Bool
is_steady x m = not (eqb x.power 0) && (leb (nat_abs (followed x m)) m.settings.tuning.gains.el && eqb m.homing.byte 0)

is_steady_lem : (x : Sample) (m : Servo) → is_steady x m ≡ true → Follows x m
unfolding changed
is_steady_lem x m e =
    let (p, o) = and-true (not (eqb x.power 0)) _ e in
    let (q, b) = and-true (leb (nat_abs (followed x m)) m.settings.tuning.gains.el) (eqb m.homing.byte 0) o in (
      λ z. false≢true (sym (ap (λ (x : ℕ). not (eqb x 0)) z) ∙ p),
      leb-true _ _ q,
      λ h a. false≢true (ap (λ (b : ℕ). changed b m.latched.inputs x.inputs) (sym (eqb-true m.homing.byte 0 b)) ∙ a.found),
    )

abbrev leaves_it : Net Module → Call → Bool
leaves_it n (byte mark x room) = ends_such (λ f. is_calm f.code (control f)) n mark x
leaves_it n (tick samples) = elim (servo_in (get_elem? n.modules 0)) [ none ↦ false | some s ↦ is_steady (servo_sample_at samples 0) s.0 ]

undisturbed : (net : List ℕ) (cs : List Call) → ValidRecord net → Lone net → AllHanded cs → AllOpen cs → all_pass leaves_it (length cs) cs (net_in slots net) ≡ true
    → Undisturbed net cs 0
undisturbed net cs v one h o e = record {
  frames = λ j f x.
      is_calm_lem f
      (ends-such (λ f. is_calm f.code (control f)) (net_in slots (after net cs 0 j)) x.met.mark x.met.value f (passed j _ x.met.call) x.met.ended x.met.frame);
  ticks = λ j x m t st.
      is_steady_lem x m
      (ap (λ (x : Sample). is_steady x m) t.own
      ∙ sym (ap (λ (y : Option Module). elim (servo_in y) [ none ↦ false | some s ↦ is_steady (servo_sample_at t.samples 0) s.0 ]) st)
      ∙ passed j (tick t.samples) t.call);
}
  where
    passed : (j : ℕ) (c : Call) → get_elem? cs j ≡ some c → leaves_it (net_in slots (after net cs 0 j)) c ≡ true
    passed j c g = passes_at leaves_it cs net (length cs) j c v one h o (below cs j c g) e g

-- ---- the two moves: with A 2 and V 5, in 65,536ths, a count forth and a count back

-- Set Gain with EL 1, which is the size of the error on the way back, and all gains 0; what a Load of a move to a position of these bytes carries
abbrev gain : List ℕ
gain = 0 ∷ 0 ∷ 0 ∷ 0 ∷ 0 ∷ 0 ∷ 0 ∷ 0 ∷ 0 ∷ 0 ∷ 1 ∷ 0 ∷ 1 ∷ 0 ∷ 1 ∷ []

abbrev move_to : ℕ → List ℕ → List ℕ
move_to control place = control ∷ place ++ 5 ∷ 0 ∷ 0 ∷ 0 ∷ 2 ∷ 0 ∷ 0 ∷ 0 ∷ []

-- Clear Bits and Set Gain, then: forth, a Load and a Start; back, a Load that starts now; each but for its last byte, which starts the move
abbrev forth : List Byte
forth = clean (written 0 11 [] ++ written 0 6 gain ++ written 0 4 (move_to 0x17 (1 ∷ 0 ∷ 0 ∷ 0 ∷ [])) ++ 0xAA ∷ 0 ∷ 5 ∷ [])

abbrev back : List Byte
back = clean (written 0 11 [] ++ written 0 6 gain ++ 0xAA ∷ 0 ∷ 0xD4 ∷ move_to 0x97 (0xFF ∷ 0xFF ∷ 0xFF ∷ 0xFF ∷ []))

abbrev start-byte : ℕ → Call
start-byte x = byte 0 x room

-- after it all that may come, with a tick behind each byte: No Op, Define Status, Read Status, Set Gain, Clear Bits, the amplifier bit, Set Baud by
-- group, a load that waits, Set Address
abbrev line : List Byte
line = clean (
    written 0 14 []
    ++ written 0 2 (1 ∷ [])
    ++ written 0 3 (0xFF ∷ [])
    ++ written 0 6 gain
    ++ written 0 11 []
    ++ written 0 7 (1 ∷ [])
    ++ written 255 10 (3 ∷ [])
    ++ written 0 4 (move_to 0x17 (9 ∷ 0 ∷ 0 ∷ 0 ∷ []))
    ++ written 0 1 (5 ∷ 0xFF ∷ []))

abbrev meanwhile : ℕ → List Call
meanwhile power = spread power room line

-- the servo at place 0 of a network, and whether there is one
abbrev servo_at : Net Module → Servo
servo_at n = elim (servo_in (get_elem? n.modules 0)) [ none ↦ lit | some s ↦ s.0 ]

abbrev is_there : Net Module → Bool
is_there n = elim (servo_in (get_elem? n.modules 0)) [ none ↦ false | some s ↦ true ]

is_there_lem : (n : Net Module) → is_there n ≡ true → get_elem? n.modules 0 ≡ some (servo, servo_at n)
is_there_lem n e = at (servo_in (get_elem? n.modules 0)) e
  where
    o : Option Module
    o = get_elem? n.modules 0

    at : (s : Option ((k : Servo) × (o ≡ some (servo, k)))) → elim s [ none ↦ false | some s ↦ true ] ≡ true → o ≡ some (servo, elim s [ none ↦ lit | some s ↦ s.0 ])
    at none e = absurd (false≢true e)
    at (some s) e = s.1

-- one history: what is sent, at which power it then ticks, and the byte that starts
module _ (orders : List Byte) (power x : ℕ) where
  -- the network after the orders, before the starting byte, and after it; the servo before it, after it, and after the calls that follow
  abbrev ordered : Net Module
  ordered = (run kind (happens orders) (set_up types)).net

  abbrev started : Net Module
  started = (event kind (does ordered (start-byte x)) ordered).net

  abbrev ready : Servo
  ready = servo_at ordered

  abbrev pub off : Servo
  off = servo_at started

  abbrev pub under-way : Servo
  under-way = servo_at (through (meanwhile power) started)

  -- what is computed of it, with where its setpoint is in the end and how fast it goes
  record Facts (setpoint : ℕ) (speed : ℤ) : Type 0 where
    bytes : are_small (values orders) ≡ true
    small_byte : ltb x 256 ≡ true
    fair : leb power 2 ≡ true
    first : is_there ordered ≡ true
    then : is_there started ≡ true
    last : is_there (through (meanwhile power) started) ≡ true
    calm : all_pass leaves_it (length (meanwhile power)) (meanwhile power) started ≡ true
    rests : ready.run.drive.mode ≡ Off
    runs : off.run.drive.mode ≡ Trapezoid
    far : nat_abs (left off.run.profile) ≡ 65536
    there : under-way.run.profile.setpoint ≡ setpoint
    goes : under-way.run.profile.speed ≡ speed

  module _ {setpoint : ℕ} {speed : ℤ} (f : Facts setpoint speed) where
    small-orders : AreBytes (values orders)
    small-orders = small (values orders) f.bytes

    is_byte : x < 256
    is_byte = ltb-true x 256 f.small_byte

    abbrev net : List ℕ
    net = left_by (calls orders) lent

    is_valid : ValidRecord net
    is_valid = (any_calls lent (calls orders) valid (are_handed orders small-orders)).valid

    net-is : net_in slots net ≡ ordered
    net-is = ends_with orders small-orders

    is-lone : Lone net
    is-lone = lone_on (calls orders) lent valid lone (are_handed orders small-orders)

    started-valid : ValidRecord (leaves net (start-byte x))
    started-valid = call_kept net (start-byte x) is_byte is_valid

    started-net : net_in slots (leaves net (start-byte x)) ≡ started
    started-net =
        passed-leaves net (start-byte x) is_byte is_valid (byte_goes net room (record { value = x; mark = false }) is_valid.0 enough)
        ∙ ap (λ (n : Net Module). (event kind (does n (start-byte x)) n).net) net-is

    at-start : At net 0 ready
    at-start = ap (λ (n : Net Module). get_elem? n.modules 0) net-is ∙ is_there_lem ordered f.first

    at-started : At (leaves net (start-byte x)) 0 off
    at-started = ap (λ (n : Net Module). get_elem? n.modules 0) started-net ∙ is_there_lem started f.then

    started-lone : Lone (leaves net (start-byte x))
    started-lone = lone_after net (start-byte x) is_byte is_valid is-lone

    handed : AllHanded (meanwhile power)
    handed = spread_handed power f.fair room line (small (values line) refl)

    at_end : At (left_by (meanwhile power) (leaves net (start-byte x))) 0 under-way
    at_end =
        ap (λ (n : Net Module). get_elem? n.modules 0)
        (net-after (meanwhile power) (leaves net (start-byte x)) started-valid started-lone handed (spread_open power f.fair room enough line) ∙ ap (through (meanwhile power)) started-net)
        ∙ is_there_lem (through (meanwhile power) started) f.last

    -- the byte starts the move
    starts-it : CallStarts LoadStarts net 0 ready (start-byte x)
    starts-it =
        (every_call.command net (start-byte x) 0 ready off is_byte is_valid at-start at-started no-tick).1
        (bound still (inr (f.runs, λ e. let z : ◌≡◌ {A = ℕ} 65536 0 = sym f.far ∙ ap nat_abs e in omega arith)))
      where
        no-tick : (samples : List ℕ) → start-byte x ≡ tick samples → ⊥
        no-tick samples e = let z : ◌≡◌ {A = Bool} true false = cc in true≢false z

        still : Bound ready → ⊥
        still (inl (e, n)) = distinct Off Velocity refl (sym f.rests ∙ e)
        still (inr (e, n)) = distinct Off Trapezoid refl (sym f.rests ∙ e)

    goes-its-way : SetsOff off.run.profile × OnItsWay off.run.profile 70 under-way
    goes-its-way =
        let (o, w) = quickest_on_the_line net (start-byte x) (meanwhile power) 0 ready off under-way is_valid is_byte handed at-start starts-it at-started f.runs
        (undisturbed (leaves net (start-byte x)) (meanwhile power) started-valid started-lone handed (spread_open power f.fair room enough line)
        (ap (all_pass leaves_it (length (meanwhile power)) (meanwhile power)) started-net ∙ f.calm))
        at_end in
        (o, subst (λ (n : ℕ). OnItsWay off.run.profile n under-way) (all_tick power f.fair room enough line (leaves net (start-byte x)) started-valid started-lone (small (values line) refl)) w)

-- 2, 4 and sixty-eight times 5 from 0, forth and back
forth_computed : Facts forth 1 0x05 346 (pos 5)
unfolding samples_in taken byte_step AnyType.execute AnyType.request asked own ticked load_meant gain_meant gains_in gains_fit stop_meant halt_of stopped ones in_range carried_in loaded load_of rates_of way_of startable complete movable same start beginning_at to_place distance difference signed servoed advanced by_trapezoid trapezoid stepped moved held drive limited filtered terms stop pick greatest next_speed by_power met homed changed
forth_computed = record {
  bytes = refl;
  small_byte = refl;
  fair = refl;
  first = refl;
  then = refl;
  last = refl;
  calm = refl;
  rests = refl;
  runs = refl;
  far = refl;
  there = refl;
  goes = refl;
}

back_computed : Facts back 2 0x6E (2 ^ 48 - 346) (negsuc 4)
unfolding samples_in taken byte_step AnyType.execute AnyType.request asked own ticked load_meant gain_meant gains_in gains_fit stop_meant halt_of stopped ones in_range carried_in loaded load_of rates_of way_of startable complete movable same start beginning_at to_place distance difference signed servoed advanced by_trapezoid trapezoid stepped moved held drive limited filtered terms stop pick greatest next_speed by_power met homed changed
back_computed = record {
  bytes = refl;
  small_byte = refl;
  fair = refl;
  first = refl;
  then = refl;
  last = refl;
  calm = refl;
  rests = refl;
  runs = refl;
  far = refl;
  there = refl;
  goes = refl;
}

-- So both are on their way as the theorem says.
pub goes_forth : SetsOff (off forth 1 0x05).run.profile × OnItsWay (off forth 1 0x05).run.profile 70 (under-way forth 1 0x05)
goes_forth = goes-its-way forth 1 0x05 forth_computed

pub goes_back : SetsOff (off back 2 0x6E).run.profile × OnItsWay (off back 2 0x6E).run.profile 70 (under-way back 2 0x6E)
goes_back = goes-its-way back 2 0x6E back_computed
