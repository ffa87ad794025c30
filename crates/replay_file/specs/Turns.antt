-- A reader of the meaning may skip this file: a replay in turns, as the code makes it: at most one record a turn, from the bytes of the file that are there. The types gathered, the
-- list of samples and the network stand in three lent slices.
use Rattle.std.specs.Prelude.{◌≡◌, ℕ, ◌+◌, ◌<◌, ◌≤◌, List, [], Bool, true, false, cond, length, get_or, take, drop, eqb, ltb}
use Rattle.base_layout.specs.Bytes.{pasted, Bytes}
use Rattle.types_rules.specs.Types.{slots}
use Rattle.net_rules.specs.Record.{record_size, net_in, stored, valid, chain_most}
use Rattle.net_rules.specs.Calls.{set_up, all_known, list_size, all_in_range, fresh}
use Rattle.replay_file.specs.declared.Place.{Place}
use Rattle.replay_file.specs.declared.Turned.{Turned}
use Rattle.replay_file.specs.declared.Course.{Course}
use Rattle.replay_file.specs.declared.Course.TheVariants.{GoesOn, Over, Wants}
use Rattle.replay_print.specs.Text.{bad_line, text_size}
use Rattle.replay_file.specs.Records.{Stage, gathering, running, Effect, goes, bad, body_length, unmeasured, record_step}

-- 01 Replay file: where a replay begins.
abbrev pub start : Place
start = record { offset = 0; count = 0; running = false }

-- 01 Replay file: the stage that the slices hold.
abbrev pub stage_in : Place → List ℕ → List ℕ → List ℕ → Stage
stage_in at types samples net = cond at.running (running (net_in slots net) (take (list_size at.count) samples)) (gathering (take at.count types))

-- what holds of the list of samples for k modules
pub record Fair (k : ℕ) (l : List ℕ) : Type 0 where
  pub long : length l ≡ list_size k
  pub small : Bytes l
  pub ranged : all_in_range k l ≡ true

-- 01 Numbers given back, 16: what holds of the slices between turns: known types; samples with all fields in range, none measured as long as types are
-- gathered; and from the first module on a valid record of as many modules, newly set up as long as types are gathered.
pub record Held (at : Place) (types samples net : List ℕ) : Type 0 where
  pub size : length types ≡ chain_most
  pub most : at.count ≤ chain_most
  pub known : all_known (take at.count types) ≡ true
  pub room : length samples ≡ list_size chain_most
  pub fair : Fair at.count (take (list_size at.count) samples)
  pub blank : at.running ≡ false → take (list_size at.count) samples ≡ unmeasured (take at.count types)
  pub long : length net ≡ record_size
  pub bytes : Bytes net
  pub sound : 0 < at.count → valid slots net ≡ true
  pub chain : 0 < at.count → length (net_in slots net).modules ≡ at.count
  pub newly : at.running ≡ false → 0 < at.count → net_in slots net ≡ set_up (take at.count types)
  pub some : at.running ≡ true → 0 < at.count

-- 01 Replay file: what a turn comes to: the file is over, the record is not whole and more bytes are wanted, or a record of so many bytes was judged.
pub data Outcome : Type 0 where
  over : Outcome
  wants : Outcome
  judged : ℕ → Effect → Outcome

-- whether a turn ended the replay
abbrev pub is_over : Course → Bool
is_over GoesOn = false
is_over Over = true
is_over Wants = false

-- 01 Replay file: how many bytes the record at the head of some bytes has, its kind byte among them.
abbrev pub head_size : List ℕ → ℕ
head_size input = 1 + body_length (get_or input 0 0)

-- 01 Replay file: a turn on the bytes that are there, of which last says that they are all that is left; a record that is cut is bad.
unfoldable pub turn_step : Stage → List ℕ → Bool → Outcome
turn_step stage input last =
    cond (eqb (length input) 0) (cond last over wants)
    (cond (ltb (length input) (head_size input)) (cond last (judged 0 bad) wants)
    (judged (head_size input) (record_step stage (get_or input 0 0) (take (body_length (get_or input 0 0)) (drop 1 input)))))

-- 01 Replay file: where a replay is after a record of so many bytes.
abbrev pub place_after : ℕ → Stage → Place → Place
place_after size (gathering ts) at = record { offset = at.offset + size; count = length ts; running = false }
place_after size (running n list) at = record { offset = at.offset + size; count = at.count; running = true }

-- 01 Replay file: what a record hands back; a bad one ends the run.
unfoldable pub turned : ℕ → Effect → Place → Turned
turned size bad at = record { next = at; took = 0; wrote = length (bad_line at.offset); course = Over }
turned size (goes s text) at = record { next = place_after size s at; took = size; wrote = length text; course = GoesOn }

-- 01 Replay file: the slice of types after a record: the types gathered so far stand at its start.
unfoldable pub types_after : Effect → List ℕ → List ℕ
types_after bad types = types
types_after (goes (gathering ts) text) types = pasted 0 ts types
types_after (goes (running n list) text) types = types

-- 02 P11: the slice of samples after a record: the list stands at its start.
unfoldable pub samples_after : Effect → List ℕ → List ℕ
samples_after bad samples = samples
samples_after (goes (gathering ts) text) samples = pasted 0 (unmeasured ts) samples
samples_after (goes (running n list) text) samples = pasted 0 list samples

-- 01 Replay file: the network's record after a record of the file: newly set up after a module, and else with the network as it is then.
unfoldable pub net_after : Effect → List ℕ → List ℕ
net_after bad net = net
net_after (goes (gathering ts) text) net = fresh ts
net_after (goes (running n list) text) net = stored slots n net

-- 01 Replay file: what is printed for a record.
unfoldable pub text_after : Effect → ℕ → List ℕ
text_after bad offset = bad_line offset
text_after (goes s text) offset = text

-- 01 Replay file: what a turn hands back, and then what it leaves in the slices and prints; one that judges no record leaves all as it was.
unfoldable pub turned_by : Outcome → Place → Turned
turned_by over at = record { next = at; took = 0; wrote = 0; course = Over }
turned_by wants at = record { next = at; took = 0; wrote = 0; course = Wants }
turned_by (judged size e) at = turned size e at

unfoldable pub types_by : Outcome → List ℕ → List ℕ
types_by over types = types
types_by wants types = types
types_by (judged size e) types = types_after e types

unfoldable pub samples_by : Outcome → List ℕ → List ℕ
samples_by over samples = samples
samples_by wants samples = samples
samples_by (judged size e) samples = samples_after e samples

unfoldable pub net_by : Outcome → List ℕ → List ℕ
net_by over net = net
net_by wants net = net
net_by (judged size e) net = net_after e net

unfoldable pub text_by : Outcome → ℕ → List ℕ
text_by over offset = []
text_by wants offset = []
text_by (judged size e) offset = text_after e offset

-- 01 Replay file: what a caller needs to go on: a turn takes at most 11 bytes, and no more than there are; the text fits into 1,920.
pub record Within (r : Turned) (from there : ℕ) : Type 0 where
  pub offset : r.next.offset ≤ from + 11
  pub took : r.took ≤ there
  pub wrote : r.wrote ≤ text_size
