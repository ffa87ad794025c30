-- What is promised of a module of any type. Each is proved under its name, with small letters, in proofs/, of every type that owes `Apart`.
use Rattle.std.specs.Prelude.{◌≡◌, ◌↔◌, ℕ, ◌+◌, ◌≤◌, List, [], ◌∷◌, Bool, true, false, not, ◌&&◌, length, get_or, eqb}
use Rattle.base_layout.specs.First.{Line, first, Given, NoneApplies, Ordered}
use Rattle.line_receiver.specs.Receive.{total}
use Rattle.line_receiver.specs.Frames.{Frame}
use Rattle.module_rules.specs.declared.Station.{Station}
use Rattle.module_rules.specs.declared.Setting.{Setting}
use Rattle.module_rules.specs.declared.Fault.{Fault}
use Rattle.module_rules.specs.Touch.{speaks, power_up}
use Rattle.module_rules.specs.Commands.{applied}
use Rattle.module_rules.specs.Report.{report}
use Rattle.module_rules.specs.Kind.{Kind, executed, replied}
use Rattle.module_rules.specs.Rules.{Request, malformed, set, reset, wants, Meaning, unknown, takes, fault_cause, Rules, with_cause, meaning, request, execute, reply}

-- Whether a touched module replies is judged on its address before the frame; its reply is that of its record after the frame.
abbrev pub SpeaksBefore : {M S : Type 0} → Kind M S → Type 0
SpeaksBefore {M} K =
    ((f : Frame) (m : M) → speaks f.address (K.address m) ≡ false → replied K f m ≡ [])
    × ((f : Frame) (m : M) → speaks f.address (K.address m) ≡ true → replied K f m ≡ K.reply f (executed K f m))

module _ {M S C : Type 0} (T : Rules M S C) where
  -- The station stands apart from all else that a module has: what is put there is there, and no command of the type's own and no tick changes
  -- it.
  pub record Apart : Type 0 where
    pub put : (s : Station) (m : M) → T.station (T.with_station s m) ≡ s
    pub again : (s t : Station) (m : M) → T.with_station s (T.with_station t m) ≡ T.with_station s m
    pub perform : (c : C) (m : M) → T.station (T.perform c m) ≡ T.station m
    pub renewed : (m : M) → T.station (T.renewed m) ≡ power_up
    pub tick : (x : S) (m : M) → T.station (T.tick x m) ≡ T.station m

  -- Nothing that is the type's own looks at the station, but for the status byte, which tells whether the cause is 0.
  pub record Unseen : Type 0 where
    pub renewed : (s : Station) (m : M) → T.renewed (T.with_station s m) ≡ T.renewed m
    pub can : (c : C) (s : Station) (m : M) → T.can c (T.with_station s m) ≡ T.can c m
    pub perform : (c : C) (s : Station) (m : M) → T.perform c (T.with_station s m) ≡ T.with_station s (T.perform c m)
    pub tick : (x : S) (s : Station) (m : M) → T.tick x (T.with_station s m) ≡ T.with_station s (T.tick x m)
    pub numbers : (s : Station) (m : M) → T.numbers (T.with_station s m) ≡ T.numbers m
    pub outputs : (s : Station) (m : M) → T.outputs (T.with_station s m) ≡ T.outputs m
    pub status : (s : Station) (m : M) → eqb s.cause 0 ≡ eqb (T.station m).cause 0 → T.status (T.with_station s m) ≡ T.status m

  -- A frame is tested for damaged, cause 1, then for a fault, with that fault's cause, then not now, cause 3; any other is performed, cause 0.
  -- Where the cause after it is not 0, all else in the record is as it was (01 Who is touched).
  pub record Causes (f : Frame) (alone : Bool) (m : M) : Type 0 where
    pub damaged : f.damaged ≡ true → execute T f alone m ≡ with_cause T 1 m
    pub malformed : (x : Fault) → f.damaged ≡ false → request T f alone ≡ malformed x → execute T f alone m ≡ with_cause T (fault_cause x) m
    pub not_now : (c : C) → f.damaged ≡ false → request T f alone ≡ wants c → T.can c m ≡ false → execute T f alone m ≡ with_cause T 3 m
    pub executed : (c : C)
        → f.damaged ≡ false → request T f alone ≡ wants c → T.can c m ≡ true
        → execute T f alone m ≡ with_cause T 0 (T.perform c m)
    pub stored : (s : Setting)
        → f.damaged ≡ false → request T f alone ≡ set s
        → execute T f alone m ≡ with_cause T 0 (T.with_station (applied s (T.station m)) m)
    pub renewed : f.damaged ≡ false → request T f alone ≡ reset → execute T f alone m ≡ with_cause T 0 (T.renewed m)
    pub kept : ((T.station (execute T f alone m)).cause ≡ 0 → ⊥)
        → execute T f alone m ≡ with_cause T (T.station (execute T f alone m)).cause m

  abbrev pub Cause : Type 0
  Cause = (f : Frame) (alone : Bool) (m : M) → Causes f alone m

  -- what can be found of a meaning: the code is unknown; it is known, and the number of data bytes is another than it takes; it is known, and
  -- its values are not good; it is a command of the type's own that can't be carried out now
  abbrev pub is_unknown : Meaning (Request C) → Bool
  is_unknown unknown = true
  is_unknown (takes count good q) = false

  abbrev pub is_miscounted : List ℕ → Meaning (Request C) → Bool
  is_miscounted ds unknown = false
  is_miscounted ds (takes count good q) = not (eqb (length ds) count)

  abbrev pub is_out_of_range : Meaning (Request C) → Bool
  is_out_of_range unknown = false
  is_out_of_range (takes count good q) = not good

  abbrev pub is_not_now : M → Meaning (Request C) → Bool
  is_not_now m unknown = false
  is_not_now m (takes count good (malformed x)) = false
  is_not_now m (takes count good (set s)) = false
  is_not_now m (takes count good reset) = false
  is_not_now m (takes count good (wants c)) = not (T.can c m)

  -- 02 P1: the tests of a frame in their order, each with its cause
  abbrev pub cause_table : Frame → Bool → M → List Line
  cause_table f alone m =
      record { number = 1; applies = f.damaged }
      ∷ record { number = 4; applies = is_unknown (meaning T f alone) }
      ∷ record { number = 2; applies = is_miscounted f.content (meaning T f alone) }
      ∷ record { number = 5; applies = is_out_of_range (meaning T f alone) }
      ∷ record { number = 3; applies = is_not_now m (meaning T f alone) }
      ∷ []

  -- Each cause is had exactly when its test applies and no earlier one does, and 0 exactly when none applies (02 P1: tested 1, 4, 2, 5, 3).
  pub record Tested (f : Frame) (alone : Bool) (m : M) : Type 0 where
    pub order : Ordered (cause_table f alone m) (1 ∷ 4 ∷ 2 ∷ 5 ∷ 3 ∷ [])
    pub first : (T.station (execute T f alone m)).cause ≡ first (cause_table f alone m)
    pub each : (n : ℕ) → (n ≡ 0 → ⊥) → ((T.station (execute T f alone m)).cause ≡ n) ↔ Given n (cause_table f alone m)
    pub none : ((T.station (execute T f alone m)).cause ≡ 0) ↔ NoneApplies (cause_table f alone m)

  abbrev pub CauseTested : Type 0
  CauseTested = (f : Frame) (alone : Bool) (m : M) → Tested f alone m

  -- The cause after a frame is at most 5.
  abbrev pub CauseIs : Type 0
  CauseIs = (f : Frame) (alone : Bool) (m : M) → (T.station (execute T f alone m)).cause ≤ 5

  -- Only Set Address, code 1, and Hard Reset, code 15, undamaged, change who a module is on the line.
  pub record AddressKept : Type 0 where
    pub damaged : (f : Frame) (alone : Bool) (m : M)
        → f.damaged ≡ true
        → (T.station (execute T f alone m)).address ≡ (T.station m).address
    pub frame : (f : Frame) (alone : Bool) (m : M)
        → (f.code ≡ 1 → ⊥)
        → (f.code ≡ 15 → ⊥)
        → (T.station (execute T f alone m)).address ≡ (T.station m).address
    pub tick : (x : S) (m : M) → (T.station (T.tick x m)).address ≡ (T.station m).address

  -- Hard Reset, which has no data: the power-up record with the latched sample kept, and no reply.
  pub record AfterReset (f : Frame) (alone : Bool) (m : M) : Type 0 where
    pub whole : execute T f alone m ≡ with_cause T 0 (T.renewed m)
    pub station : T.station (execute T f alone m) ≡ power_up
    pub silent : reply T f (execute T f alone m) ≡ []

  abbrev pub Resets : Type 0
  Resets = (f : Frame) (alone : Bool) (m : M) → f.damaged ≡ false → f.code ≡ 15 → length f.content ≡ 0 → AfterReset f alone m

  -- A reply, which an executed Hard Reset alone does not draw, begins with the status byte.
  abbrev pub StatusFirst : Type 0
  StatusFirst =
      (f : Frame) (m : M)
      → (eqb f.code 15 && eqb (T.station m).cause 0) ≡ false
      → get_or (reply T f m) 0 0 ≡ T.status m

  -- A reply is status byte, chosen items and sum, of the record as it is after the frame: Read Status, if executed, chooses for this reply
  -- only, else the items are the defined ones; Hard Reset, if executed, draws none.
  pub record Replies (f : Frame) (m : M) : Type 0 where
    pub reset : f.code ≡ 15 → (T.station m).cause ≡ 0 → reply T f m ≡ []
    pub read : f.code ≡ 3
        → (T.station m).cause ≡ 0
        → reply T f m ≡ report (T.status m) (get_or f.content 0 0) T.sizes (T.numbers m)
    pub defined : (f.code ≡ 3 → ⊥)
        → (f.code ≡ 15 → ⊥)
        → reply T f m ≡ report (T.status m) (T.station m).items T.sizes (T.numbers m)
    pub refused : ((T.station m).cause ≡ 0 → ⊥)
        → reply T f m ≡ report (T.status m) (T.station m).items T.sizes (T.numbers m)

  abbrev pub Replied : Type 0
  Replied = (f : Frame) (m : M) → Replies f m

  -- Read Status is executed only with an item byte that there is; so where the defined items are such, every reply's are (02 P3).
  abbrev pub ReadShown : Type 0
  ReadShown =
      (f : Frame) (alone : Bool) (m : M) → f.code ≡ 3 → (T.station (execute T f alone m)).cause ≡ 0 → T.shows (get_or f.content 0 0) ≡ true

  -- A reply has at most two bytes more than all items together.
  abbrev pub Short : Type 0
  Short = (f : Frame) (m : M) → length (reply T f m) ≤ total T.sizes + 2
