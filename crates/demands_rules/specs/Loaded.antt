-- Which Load was started, of any module type t that has loads, code 4, and a Start, code 5 (document 01, Load Trajectory, Start): of frames and their
-- bytes, whom they touched and whether they were executed, and of nothing that a module keeps. A type hands in how many data bytes a Load has by its
-- control byte (needed) and which frames drop a waiting load or take its place (Drops). (Of a servo: Sent.antt.)
use Rattle.std.specs.Prelude.{◌≡◌, ◌⊎◌, ℕ, ◌<◌, List, true, false, length, get_or}
use Rattle.base_integers.specs.Bits.{is_set}
use Rattle.line_receiver.specs.Frames.{Frame}
use Rattle.types_rules.specs.Table.{ModuleType, Of}
use Rattle.demands_history_rules.specs.Calls.{Call}
use Rattle.demands_rules.specs.Place.{Stands, Executed, None, Since}
use Rattle.demands_rules.specs.Question.{IsStart}

-- data bytes begin with a control byte
abbrev pub control : Frame → ℕ
control f = get_or f.content 0 0

-- bit k of the control byte is set, or clear
abbrev pub Has : ℕ → Frame → Type 0
Has k f = is_set k (control f) ≡ true

abbrev pub Lacks : ℕ → Frame → Type 0
Lacks k f = is_set k (control f) ≡ false

-- a Load of as many data bytes as its control byte asks for
abbrev pub WholeLoad : (ℕ → ℕ) → Frame → Type 0
WholeLoad needed f = (f.code ≡ 4) × (length f.content ≡ needed (control f))

module _ (t : ModuleType) (needed : ℕ → ℕ) (net : List ℕ) (cs : List Call) (i : ℕ) where
  -- the whole Load f was executed here among the first n calls, and no frame such as P since
  pub record Loaded (P : Frame → Type 0) (f : Frame) (n : ℕ) : Type 0 where
    pub by : ℕ
    pub earlier : by < n
    pub executed : Executed t net cs i by f
    pub load : WholeLoad needed f
    pub last : None t net cs i P by n

  -- f is the last of them that carried the number of bit k, and no Hard Reset forgot it
  abbrev pub Given : ℕ → Frame → ℕ → Type 0
  Given k f n = Has k f × Loaded (λ g. ((g.code ≡ 4) × Has k g) ⊎ (g.code ≡ 15)) f n

module _ (t : ModuleType) (needed : ℕ → ℕ) (Drops : Frame → Type 0) (net : List ℕ) (cs : List Call) (i : ℕ) where
  -- call s started the Load f: by its own bit 7, or by a Start, and until then nothing dropped f or took its place
  pub data Started (f : Frame) (s : ℕ) : Type 0 where
    itself : Executed t net cs i s f → WholeLoad needed f → Has 7 f → Started f s
    by_start : (g : Frame) → Executed t net cs i s g → IsStart g → Lacks 7 f → Loaded t needed net cs i Drops f s → Started f s

  -- call s started a Load with these bits; after each call since, up to the first n, Is holds of the module before the start, the Load and the module
  pub record Began (s n : ℕ) (Bits : Frame → Type 0) (Is : Of t → Frame → Of t → Type 0) : Type 0 where
    pub load : Frame
    pub started : Started load s
    pub bits : Bits load
    pub before : Of t
    pub stood : Stands t net cs i s before
    pub earlier : s < n
    pub since : Since t net cs i s n (Is before load)
