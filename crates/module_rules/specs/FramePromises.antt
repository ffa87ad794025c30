-- What is promised of a module of any type by the bytes of a frame: who it is for, who replies, what the commands of every type store
-- (document 01, "Who is touched", "Commands of both types"). Each is proved under its name, with small letters, in proofs/.
use Rattle.std.specs.Prelude.{◌≡◌, ◌⊎◌, ◌↔◌, ℕ, ◌+◌, ◌*◌, ◌%◌, ◌<◌, ◌≤◌, List, [], ◌∷◌, ◌++◌, Bool, true, false, length}
use Rattle.base_layout.specs.Bytes.{le}
use Rattle.line_receiver.specs.Receive.{total}
use Rattle.line_receiver.specs.Frames.{Frame}
use Rattle.module_rules.specs.declared.Address.{Address}
use Rattle.module_rules.specs.declared.Station.{Station}
use Rattle.module_rules.specs.Touch.{power_up, individually, named, speaks}
use Rattle.module_rules.specs.Commands.{caused}
use Rattle.module_rules.specs.Report.{chosen, report}
use Rattle.module_rules.specs.Kind.{Kind, executed, replied}
use Rattle.module_rules.specs.Rules.{Rules, execute}

-- 01 Who is touched: a station as it is at power-up, field by field; a low of false is a high ADDR_OUT.
pub record AtPowerUp (s : Station) : Type 0 where
  pub individual : s.address.individual ≡ 0
  pub group : s.address.group ≡ 255
  pub leader : s.address.leader ≡ false
  pub low : s.address.low ≡ false
  pub cause : s.cause ≡ 0
  pub items : s.items ≡ 0
  pub baud : s.baud ≡ 0

abbrev pub PowersUp : Type 0
PowersUp = AtPowerUp power_up

-- 01 Who is touched: a frame for address a is for an enabled module exactly if a is its individual or its group address; a touched module
-- speaks exactly if a is its individual address or it leads its group.
pub record Concerns (a : ℕ) (w : Address) : Type 0 where
  pub alone : (individually a w ≡ true) ↔ (w.individual ≡ a)
  pub touched : (named a w ≡ true) ↔ ((w.individual ≡ a) ⊎ (w.group ≡ a))
  pub speaking : (speaks a w ≡ true) ↔ ((w.individual ≡ a) ⊎ (w.leader ≡ true))

abbrev pub Concerned : Type 0
Concerned = (a : ℕ) (w : Address) → Concerns a w

-- 01 Who is touched: of touched modules those that are touched individually reply, and so do leaders; the others of a group are silent.
pub record Replying {M S : Type 0} (K : Kind M S) : Type 0 where
  pub alone : (f : Frame) (m : M) → (K.address m).individual ≡ f.address → replied K f m ≡ K.reply f (executed K f m)
  pub leader : (f : Frame) (m : M) → (K.address m).leader ≡ true → replied K f m ≡ K.reply f (executed K f m)
  pub member : (f : Frame) (m : M) → ((K.address m).individual ≡ f.address → ⊥) → (K.address m).leader ≡ false → replied K f m ≡ []

-- 01 Commands of both types: a reply is the status byte, the chosen items and the 8-bit sum of all these bytes. The lowest bit of the item byte is
-- for the first item, which is there with its bytes, least significant first, exactly if that bit is set; the bits above it are for the others.
pub record Reported : Type 0 where
  pub whole : (status items : ℕ) (sizes numbers : List ℕ)
      → report status items sizes numbers
      ≡ (status ∷ chosen items sizes numbers) ++ ((status + total (chosen items sizes numbers)) % 256 ∷ [])
  pub present : (above k x : ℕ) (ks xs : List ℕ) → chosen (1 + 2 * above) (k ∷ ks) (x ∷ xs) ≡ le k x ++ chosen above ks xs
  pub absent : (above k x : ℕ) (ks xs : List ℕ) → chosen (2 * above) (k ∷ ks) (x ∷ xs) ≡ chosen above ks xs
  pub example : report 0x11 0x05 (4 ∷ 2 ∷ 1 ∷ []) (0x12345678 ∷ 7 ∷ 0xAB ∷ []) ≡ 0x11 ∷ 0x78 ∷ 0x56 ∷ 0x34 ∷ 0x12 ∷ 0xAB ∷ 0xD0 ∷ []

-- the frame for an address with a code and data bytes, undamaged
abbrev pub undamaged : ℕ → ℕ → List ℕ → Frame
undamaged to code ds = record { address = to; code = code; content = ds; damaged = false }

module _ {M S C : Type 0} (T : Rules M S C) where
  -- n is the module m with the station s, and all else as it was
  pub record Becomes (m n : M) (s : Station) : Type 0 where
    pub station : T.station n ≡ s
    pub rest : n ≡ T.with_station s m

  -- 01 Commands of both types: what each stores, for every data byte and whatever the module is, so never "not now"; all else is as it was.
  pub record Stores (to : ℕ) (alone : Bool) (m : M) : Type 0 where
    -- 1 Set Address: below 128 the group byte b makes a leader of group 128 + b, from 128 on a member of group b; ADDR_OUT goes low
    pub leader : (a b : ℕ) → b < 128
        → Becomes m (execute T (undamaged to 1 (a ∷ b ∷ [])) alone m) (record {
          address = record { individual = a; group = 128 + b; leader = true; low = true };
          cause = 0;
          items = (T.station m).items;
          baud = (T.station m).baud;
        })
    pub member : (a b : ℕ) → 128 ≤ b → b < 256
        → Becomes m (execute T (undamaged to 1 (a ∷ b ∷ [])) alone m) (record {
          address = record { individual = a; group = b; leader = false; low = true };
          cause = 0;
          items = (T.station m).items;
          baud = (T.station m).baud;
        })
    -- 2 Define Status, with an item byte that there is
    pub items : (b : ℕ)
        → T.shows b ≡ true
        → Becomes m (execute T (undamaged to 2 (b ∷ [])) alone m)
        (record { address = (T.station m).address; cause = 0; items = b; baud = (T.station m).baud })
    -- 10 Set Baud, to a group only: individually it is unknown, with any data
    pub baud : (b : ℕ)
        → Becomes m (execute T (undamaged to 10 (b ∷ [])) false m)
        (record { address = (T.station m).address; cause = 0; items = (T.station m).items; baud = b })
    pub not_alone : (ds : List ℕ) → Becomes m (execute T (undamaged to 10 ds) true m) (caused 4 (T.station m))
    -- 3 Read Status, with an item byte that there is; of another, both are a bad value (02 P3)
    pub read_status : (b : ℕ)
        → T.shows b ≡ true
        → Becomes m (execute T (undamaged to 3 (b ∷ [])) alone m)
        (record { address = (T.station m).address; cause = 0; items = (T.station m).items; baud = (T.station m).baud })
    pub not_shown : (b code : ℕ) → (code ≡ 2) ⊎ (code ≡ 3) → T.shows b ≡ false
        → Becomes m (execute T (undamaged to code (b ∷ [])) alone m) (caused 5 (T.station m))
    -- 14 No Op
    pub no_op : Becomes m (execute T (undamaged to 14 []) alone m)
        (record { address = (T.station m).address; cause = 0; items = (T.station m).items; baud = (T.station m).baud })

  abbrev pub Stored : Type 0
  Stored = (to : ℕ) (alone : Bool) (m : M) → Stores to alone m

  -- an undamaged frame of this code with any other number of data bytes gives the cause of a wrong count: sent so, or either way
  abbrev pub TakesSent : Bool → ℕ → ℕ → Type 0
  TakesSent alone code n =
      (to : ℕ) (ds : List ℕ) (m : M) → (length ds ≡ n → ⊥) → Becomes m (execute T (undamaged to code ds) alone m) (caused 2 (T.station m))

  abbrev pub Takes : ℕ → ℕ → Type 0
  Takes code n = (alone : Bool) → TakesSent alone code n

  -- 01 Commands of both types: how many data bytes each takes.
  pub record Counts : Type 0 where
    pub set_address : Takes 1 2
    pub define_status : Takes 2 1
    pub read_status : Takes 3 1
    pub set_baud : TakesSent false 10 1
    pub no_op : Takes 14 0
    pub hard_reset : Takes 15 0
