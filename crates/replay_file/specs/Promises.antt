-- What is promised of a replay. Each is proved under its name, with small letters, in proofs/.
use Rattle.std.specs.Prelude.{◌≡◌, ℕ, ◌+◌, ◌<◌, ◌≤◌, List, [], ◌∷◌, ◌++◌, Bool, true, false, length, drop, replicate}
use Rattle.base_layout.specs.Bytes.{Bytes}
use Rattle.net_rules.specs.Record.{record_size, chain_most}
use Rattle.net_rules.specs.Calls.{list_size}
use Rattle.replay_file.specs.declared.Place.{Place}
use Rattle.replay_file.specs.Records.{Stage, bad, body_length, kinds, measured, record_step, replayed}
use Rattle.replay_file.specs.Turns.{start, stage_in, is_over, head_size, turn_step, turned_by, types_by, samples_by, net_by, text_by}

-- 01 Replay file: a run of turns over the bytes that are left of a file, and all that it prints. Each turn is handed some of the bytes left, from the first on, as
-- many as the caller likes; that they are the last is said only of all of them. What it hands back and leaves in the slices goes into the next turn.
pub data Run : Place → List ℕ → List ℕ → List ℕ → List ℕ → List ℕ → Type 0 where
  stops : {at : Place} {types samples net : List ℕ} (input more : List ℕ) (last : Bool)
      → (last ≡ true → more ≡ [])
      → is_over (turned_by (turn_step (stage_in at types samples net) input last) at).course ≡ true
      → Run at types samples net (input ++ more) (text_by (turn_step (stage_in at types samples net) input last) at.offset)
  turns : {at : Place} {types samples net : List ℕ} (input more : List ℕ) (last : Bool) {text : List ℕ}
      → (last ≡ true → more ≡ [])
      → is_over (turned_by (turn_step (stage_in at types samples net) input last) at).course ≡ false
      → Run (turned_by (turn_step (stage_in at types samples net) input last) at).next (types_by (turn_step (stage_in at types samples net) input last) types)
      (samples_by (turn_step (stage_in at types samples net) input last) samples) (net_by (turn_step (stage_in at types samples net) input last) net)
      (drop (turned_by (turn_step (stage_in at types samples net) input last) at).took (input ++ more)) text
      → Run at types samples net (input ++ more) (text_by (turn_step (stage_in at types samples net) input last) at.offset ++ text)

-- the slices that a replay is lent, whatever they hold
pub record Lent (types samples net : List ℕ) : Type 0 where
  pub size : length types ≡ chain_most
  pub room : length samples ≡ list_size chain_most
  pub long : length net ≡ record_size
  pub bytes : Bytes net

-- 01 Replay file: in whatever pieces a file is handed over, and whatever the slices held before: a run over all of it prints what document 01 says.
abbrev pub Whole : Type 0
Whole =
    (types samples net file text : List ℕ)
    → Lent types samples net
    → Bytes file
    → Run start types samples net file text
    → text ≡ replayed file

-- 01 Replay file: there is such a run for every file: with all the bytes left at each turn.
abbrev pub Ends : Type 0
Ends = (types samples net file : List ℕ) → Lent types samples net → Bytes file → Run start types samples net file (replayed file)

-- 01 Replay file: a turn that is handed the whole record at the head does not look at what follows it, nor at whether anything does.
abbrev pub HeadOnly : Type 0
HeadOnly =
    (s : Stage) (input more : List ℕ) (last end : Bool)
    → 1 ≤ length input
    → head_size input ≤ length input
    → turn_step s (input ++ more) end ≡ turn_step s input last

-- 01 Replay file: its own examples, for type 2, for type 0 and for type 2 with last byte 0F, and the empty file.
abbrev pub Examples : Type 0
Examples =
    (replayed (0 ∷ 2 ∷ 1 ∷ 0 ∷ 0xAA ∷ 1 ∷ 0 ∷ 0 ∷ 1 ∷ 0 ∷ 0x0E ∷ 1 ∷ 0 ∷ 0x0E ∷ []) ≡ 48 ∷ 32 ∷ 48 ∷ 48 ∷ 32 ∷ 48 ∷ 48 ∷ 10 ∷ [])
    × (replayed (0 ∷ 0 ∷ 1 ∷ 0 ∷ 0xAA ∷ 1 ∷ 0 ∷ 0 ∷ 1 ∷ 0 ∷ 0x0E ∷ 1 ∷ 0 ∷ 0x0E ∷ []) ≡ 48 ∷ 32 ∷ 49 ∷ 49 ∷ 32 ∷ 49 ∷ 49 ∷ 10 ∷ [])
    × (replayed (0 ∷ 2 ∷ 1 ∷ 0 ∷ 0xAA ∷ 1 ∷ 0 ∷ 0 ∷ 1 ∷ 0 ∷ 0x0E ∷ 1 ∷ 0 ∷ 0x0F ∷ []) ≡ 48 ∷ 32 ∷ 48 ∷ 50 ∷ 32 ∷ 48 ∷ 50 ∷ 10 ∷ [])
    × (replayed [] ≡ [])

-- 01 Replay file: how many bytes follow the kind byte, and what those of the samples are, every number least significant byte first: as in a tick's list
-- (02 P11).
pub record Bodies : Type 0 where
  pub joins : body_length 0 ≡ 1
  pub line_byte : body_length 1 ≡ 2
  pub servo_sample : body_length 2 ≡ 8
  pub io_sample : body_length 3 ≡ 10
  pub tick : body_length 4 ≡ 0
  pub stepper_sample : body_length 5 ≡ 2
  pub servo : (place power ad r0 r1 r2 r3 limits : ℕ)
      → measured 0 (place ∷ power ∷ ad ∷ r0 ∷ r1 ∷ r2 ∷ r3 ∷ limits ∷ []) ≡ 0 ∷ power ∷ ad ∷ r0 ∷ r1 ∷ r2 ∷ r3 ∷ limits ∷ 0 ∷ 0 ∷ []
  pub inout : (place i0 i1 ad1 ad2 ad3 c0 c1 c2 c3 : ℕ)
      → measured 2 (place ∷ i0 ∷ i1 ∷ ad1 ∷ ad2 ∷ ad3 ∷ c0 ∷ c1 ∷ c2 ∷ c3 ∷ [])
      ≡ 2 ∷ i0 ∷ i1 ∷ ad1 ∷ ad2 ∷ ad3 ∷ c0 ∷ c1 ∷ c2 ∷ c3 ∷ []
  pub stepper : (place stop : ℕ) → measured 3 (place ∷ stop ∷ []) ≡ 3 ∷ stop ∷ replicate 8 0

-- a record of kind k that is taken: a file of a module of some type and this record prints nothing, so no "bad" either
pub record Taken (k : ℕ) : Type 0 where
  pub type : ℕ
  pub body : List ℕ
  pub silent : replayed (0 ∷ type ∷ k ∷ body) ≡ []

-- 01 Replay file, 02 P3: the kinds are those below `kinds`. Each of them has a record that is taken; any other is bad wherever it comes and whatever
-- follows it.
pub record KnownKinds : Type 0 where
  pub taken : (k : ℕ) → k < kinds → Taken k
  pub unknown : (s : Stage) (k : ℕ) (body : List ℕ) → kinds ≤ k → record_step s k body ≡ bad

-- records of line bytes, none of them marked
abbrev pub on_line : List ℕ → List ℕ
on_line [] = []
on_line (b ∷ bs) = 1 ∷ 0 ∷ b ∷ on_line bs

-- 01 Replay file: an I/O module that is asked for items 0 to 4 after a sample and a tick; and a servo behind one that was given address 1, asked for
-- its position and A/D. Printed are "0 00 34 0A 01 02 03 78 56 34 12 58", and "0 00 00" with "1 19 78 56 34 12 AB D8".
abbrev pub Sampled : Type 0
Sampled =
    (replayed (0 ∷ 2 ∷ 3 ∷ 0 ∷ 0x34 ∷ 0x0A ∷ 1 ∷ 2 ∷ 3 ∷ 0x78 ∷ 0x56 ∷ 0x34 ∷ 0x12 ∷ 4 ∷ on_line (0xAA ∷ 0 ∷ 0x13 ∷ 0x1F ∷ 0x32 ∷ []))
    ≡ (48 ∷ 32 ∷ 48 ∷ 48 ∷ 32 ∷ 51 ∷ 52 ∷ 32 ∷ 48 ∷ 65 ∷ 32 ∷ 48 ∷ 49 ∷ 32 ∷ 48 ∷ 50 ∷ 32 ∷ 48 ∷ 51 ∷ [])
    ++ (32 ∷ 55 ∷ 56 ∷ 32 ∷ 53 ∷ 54 ∷ 32 ∷ 51 ∷ 52 ∷ 32 ∷ 49 ∷ 50 ∷ 32 ∷ 53 ∷ 56 ∷ 10 ∷ []))
    × (replayed
    (0 ∷ 2 ∷ 0 ∷ 0 ∷ on_line (0xAA ∷ 0 ∷ 0x21 ∷ 1 ∷ 0xFF ∷ 0x21 ∷ [])
    ++ (2 ∷ 1 ∷ 1 ∷ 0xAB ∷ 0x78 ∷ 0x56 ∷ 0x34 ∷ 0x12 ∷ 0 ∷ 4 ∷ on_line (0xAA ∷ 0 ∷ 0x13 ∷ 3 ∷ 0x16 ∷ [])))
    ≡ (48 ∷ 32 ∷ 48 ∷ 48 ∷ 32 ∷ 48 ∷ 48 ∷ 10 ∷ [])
    ++ (49 ∷ 32 ∷ 49 ∷ 57 ∷ 32 ∷ 55 ∷ 56 ∷ 32 ∷ 53 ∷ 54 ∷ 32 ∷ 51 ∷ 52 ∷ 32 ∷ 49 ∷ 50 ∷ 32 ∷ 65 ∷ 66 ∷ 32 ∷ 68 ∷ 56 ∷ 10 ∷ []))

-- 02 P3: a step-motor module with minimum 5 that starts toward speed 6 with T 1, is asked for its position after two ticks, and again after a tick with
-- its stop input at 1. Printed are "0 00 00", "0 01 01", "0 01 0C 00 00 00 0D" and "0 00 0C 00 00 00 0C".
abbrev pub asked_place : List ℕ
asked_place = on_line (0xAA ∷ 0 ∷ 0x13 ∷ 1 ∷ 0x14 ∷ [])

abbrev pub told_twelve : ℕ → ℕ → List ℕ
told_twelve status sum =
    (48 ∷ 32 ∷ 48 ∷ status ∷ 32 ∷ 48 ∷ 67 ∷ 32 ∷ 48 ∷ 48 ∷ 32 ∷ 48 ∷ 48 ∷ 32 ∷ 48 ∷ 48 ∷ [])
    ++ (32 ∷ 48 ∷ sum ∷ 10 ∷ [])

abbrev pub Stepped : Type 0
Stepped =
    replayed
    (0 ∷ 3 ∷ on_line (0xAA ∷ 0 ∷ 0x56 ∷ 0 ∷ 5 ∷ 0 ∷ 0 ∷ 0 ∷ 0x5B ∷ [])
    ++ (on_line (0xAA ∷ 0 ∷ 0x34 ∷ 0x86 ∷ 6 ∷ 1 ∷ 0xC1 ∷ [])
    ++ (4 ∷ 4 ∷ asked_place ++ (5 ∷ 0 ∷ 1 ∷ 4 ∷ asked_place))))
    ≡ (48 ∷ 32 ∷ 48 ∷ 48 ∷ 32 ∷ 48 ∷ 48 ∷ 10 ∷ [])
    ++ ((48 ∷ 32 ∷ 48 ∷ 49 ∷ 32 ∷ 48 ∷ 49 ∷ 10 ∷ []) ++ (told_twelve 49 68 ++ told_twelve 48 67))

-- 02 P8: a servo that homes on limit 1: at count 5 it is sent Set Homing, at count 7 the input is 1, and it is asked for home. Printed are "0 99 99" and
-- "0 39 07 00 00 00 40".
abbrev pub Homed : Type 0
Homed =
    replayed
    (0 ∷ 0 ∷ 2 ∷ 0 ∷ 1 ∷ 0 ∷ 5 ∷ 0 ∷ 0 ∷ 0 ∷ 0 ∷ 4 ∷ on_line (0xAA ∷ 0 ∷ 0x19 ∷ 1 ∷ 0x1A ∷ [])
    ++ (2 ∷ 0 ∷ 1 ∷ 0 ∷ 7 ∷ 0 ∷ 0 ∷ 0 ∷ 1 ∷ 4 ∷ on_line (0xAA ∷ 0 ∷ 0x13 ∷ 0x10 ∷ 0x23 ∷ [])))
    ≡ (48 ∷ 32 ∷ 57 ∷ 57 ∷ 32 ∷ 57 ∷ 57 ∷ 10 ∷ [])
    ++ (48 ∷ 32 ∷ 51 ∷ 57 ∷ 32 ∷ 48 ∷ 55 ∷ 32 ∷ 48 ∷ 48 ∷ 32 ∷ 48 ∷ 48 ∷ 32 ∷ 48 ∷ 48 ∷ 32 ∷ 52 ∷ 48 ∷ 10 ∷ [])

-- 02 P11: an I/O module that is asked for its first A/D value: after two samples and a tick it shows the later one, and so it does after another tick; after
-- a tick with no sample it shows 0, and a sample shows no sooner than its tick. Printed are "0 00 09 09", "0 00 00 00" and "0 00 00 00".
abbrev pub asked : List ℕ
asked = on_line (0xAA ∷ 0 ∷ 0x13 ∷ 2 ∷ 0x15 ∷ [])

abbrev pub sampled_ad : ℕ → List ℕ
sampled_ad ad = 3 ∷ 0 ∷ 0 ∷ 0 ∷ ad ∷ 0 ∷ 0 ∷ 0 ∷ 0 ∷ 0 ∷ 0 ∷ []

abbrev pub told : ℕ → List ℕ
told digit = 48 ∷ 32 ∷ 48 ∷ 48 ∷ 32 ∷ 48 ∷ digit ∷ 32 ∷ 48 ∷ digit ∷ 10 ∷ []

abbrev pub Latest : Type 0
Latest =
    (replayed (0 ∷ 2 ∷ sampled_ad 7 ++ sampled_ad 9 ++ 4 ∷ 4 ∷ asked) ≡ told 57)
    × (replayed (0 ∷ 2 ∷ 4 ∷ asked) ≡ told 48)
    × (replayed (0 ∷ 2 ∷ 4 ∷ sampled_ad 9 ++ asked) ≡ told 48)

-- "bad ", an offset of one digit and a newline
abbrev pub bad_at : ℕ → List ℕ
bad_at digit = 98 ∷ 97 ∷ 100 ∷ 32 ∷ (48 + digit) ∷ 10 ∷ []

-- 01 Replay file: impossible, cut and refused records, each at its kind byte's offset.
pub record Bad : Type 0 where
  -- no module first, a module late, a type that there is not, a kind that there is not
  pub first : replayed (4 ∷ []) ≡ bad_at 0
  pub late : replayed (0 ∷ 2 ∷ 4 ∷ 0 ∷ 2 ∷ []) ≡ bad_at 3
  pub type : replayed (0 ∷ 1 ∷ []) ≡ bad_at 0
  pub kind : replayed (0 ∷ 2 ∷ 6 ∷ []) ≡ bad_at 2
  -- a line byte that is cut, and one with mark 2
  pub cut : replayed (0 ∷ 2 ∷ 1 ∷ 0 ∷ []) ≡ bad_at 2
  pub mark : replayed (0 ∷ 2 ∷ 1 ∷ 2 ∷ 0 ∷ []) ≡ bad_at 2
  -- a servo sample for an I/O module, beyond the chain, with power 3, and with an input beyond the two; with power 2 and both inputs it is taken
  pub other : replayed (0 ∷ 2 ∷ 2 ∷ 0 ∷ 1 ∷ 0 ∷ 0 ∷ 0 ∷ 0 ∷ 0 ∷ 0 ∷ []) ≡ bad_at 2
  pub beyond : replayed (0 ∷ 0 ∷ 2 ∷ 1 ∷ 1 ∷ 0 ∷ 0 ∷ 0 ∷ 0 ∷ 0 ∷ 0 ∷ []) ≡ bad_at 2
  pub power : replayed (0 ∷ 0 ∷ 2 ∷ 0 ∷ 3 ∷ 0 ∷ 0 ∷ 0 ∷ 0 ∷ 0 ∷ 0 ∷ []) ≡ bad_at 2
  pub limits : replayed (0 ∷ 0 ∷ 2 ∷ 0 ∷ 2 ∷ 0 ∷ 0 ∷ 0 ∷ 0 ∷ 0 ∷ 4 ∷ []) ≡ bad_at 2
  pub high : replayed (0 ∷ 0 ∷ 2 ∷ 0 ∷ 2 ∷ 0 ∷ 0 ∷ 0 ∷ 0 ∷ 0 ∷ 3 ∷ []) ≡ []
  -- a servo sample from before it had inputs, at the file's end and before a tick, whose kind is then taken for its inputs (02 P8)
  pub servo_cut : replayed (0 ∷ 0 ∷ 2 ∷ 0 ∷ 1 ∷ 0 ∷ 0 ∷ 0 ∷ 0 ∷ 0 ∷ []) ≡ bad_at 2
  pub older : replayed (0 ∷ 0 ∷ 2 ∷ 0 ∷ 1 ∷ 0 ∷ 0 ∷ 0 ∷ 0 ∷ 0 ∷ 4 ∷ 4 ∷ []) ≡ bad_at 2
  -- an I/O sample with inputs 4,096; with 4,095 it is taken
  pub inputs : replayed (0 ∷ 2 ∷ 3 ∷ 0 ∷ 0 ∷ 0x10 ∷ 0 ∷ 0 ∷ 0 ∷ 0 ∷ 0 ∷ 0 ∷ 0 ∷ []) ≡ bad_at 2
  pub most : replayed (0 ∷ 2 ∷ 3 ∷ 0 ∷ 0xFF ∷ 0x0F ∷ 0 ∷ 0 ∷ 0 ∷ 0 ∷ 0 ∷ 0 ∷ 0 ∷ []) ≡ []
  -- a step-motor sample for an I/O module, with a stop input of 2, and cut; with 1 it is taken (02 P3)
  pub not_stepper : replayed (0 ∷ 2 ∷ 5 ∷ 0 ∷ 1 ∷ []) ≡ bad_at 2
  pub stop_two : replayed (0 ∷ 3 ∷ 5 ∷ 0 ∷ 2 ∷ []) ≡ bad_at 2
  pub stop_cut : replayed (0 ∷ 3 ∷ 5 ∷ 0 ∷ []) ≡ bad_at 2
  pub stop_one : replayed (0 ∷ 3 ∷ 5 ∷ 0 ∷ 1 ∷ []) ≡ []
