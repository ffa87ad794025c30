-- Demand 3: the order in which the host polls different modules does not matter. Each is proved under its name, with small letters, in proofs/.
use Rattle.std.specs.Prelude.{◌≡◌, ℕ, ◌<◌, List, [], ◌∷◌, Bool, true, false, length}
use Rattle.std.proofs.Math.Option.{some}
use Rattle.std.proofs.Math.ListN.{get_elem?}
use Rattle.line_receiver.specs.Receive.{idle}
use Rattle.line_receiver.specs.Frames.{Byte, Frame}
use Rattle.module_rules.specs.Kind.{Kind}
use Rattle.chain_rules.specs.Chain.{Net, replies_of, addresses, touched, Outcome}
use Rattle.types_rules.specs.Types.{Module, AnySample, kind, slots}
use Rattle.net_rules.specs.Record.{net_in}
use Rattle.net_rules.specs.Calls.{outputs_at}
use Rattle.base_layout.specs.First.{first}
use Rattle.api_rules.specs.Table.{tick_table}
use Rattle.api_rules.specs.Promises.{Refuses, ValidRecord}
use Rattle.demands_history_rules.specs.Events.{Event, sent, ticked, run, Reads, Harmless, Whole, Ordinary, singly, met_by, met_in_turn, alone, alone_replies}
use Rattle.demands_history_rules.specs.Calls.{Call, tick, AllHanded, left_by, done_by}

-- Each alone: after any whole frames and ticks a module's record and replies are what it makes by itself of what it met: the frames that touched it, and
-- its own sample inside each tick.
abbrev pub EachAlone : {M S : Type 0} → Kind M S → Type 0
EachAlone {M} {S} K =
    (n : Net M) (h : List (Event (List S))) (i : ℕ) (m : M)
    → n.receiver ≡ idle → Whole h → get_elem? n.modules i ≡ some m
    → (get_elem? (run K h n).net.modules i ≡ some (alone K m (met_in_turn K i h n)))
    × (replies_of i (run K h n).replies ≡ alone_replies K m (met_in_turn K i h n))

-- place i meets the same frames and the same samples, in the same order, in both histories, by the addresses at their start
abbrev pub MeetsTheSame : {M S : Type 0} → Kind M S → Net M → List (Event (List S)) → List (Event (List S)) → ℕ → Type 0
MeetsTheSame K n h₁ h₂ i = met_by (addresses K n.modules) i h₁ ≡ met_by (addresses K n.modules) i h₂

-- place i ends with the same record, and gave the same replies in the same order
pub record EndsTheSame {M : Type 0} (o₁ o₂ : Outcome M) (i : ℕ) : Type 0 where
  pub same_record : get_elem? o₁.net.modules i ≡ get_elem? o₂.net.modules i
  pub same_replies : replies_of i o₁.replies ≡ replies_of i o₂.replies

-- Order does not matter: a place that meets the same in two histories from one network ends the same in both, whatever other places meet.
abbrev pub OrderDoesNotMatter : {M S : Type 0} → Kind M S → Type 0
OrderDoesNotMatter {M} {S} K =
    (n : Net M) (h₁ h₂ : List (Event (List S))) (i : ℕ)
    → n.receiver ≡ idle → Ordinary h₁ → Ordinary h₂ → MeetsTheSame K n h₁ h₂ i
    → EndsTheSame (run K h₁ n) (run K h₂ n) i

-- So, if every place of the chain meets the same in both, the two networks are equal, and every place gave the same replies.
abbrev pub OrderOfAll : {M S : Type 0} → Kind M S → Type 0
OrderOfAll {M} {S} K =
    (n : Net M) (h₁ h₂ : List (Event (List S)))
    → n.receiver ≡ idle → Ordinary h₁ → Ordinary h₂
    → ((i : ℕ) → i < length n.modules → MeetsTheSame K n h₁ h₂ i)
    → ((run K h₁ n).net ≡ (run K h₂ n).net) × ((i : ℕ) → replies_of i (run K h₁ n).replies ≡ replies_of i (run K h₂ n).replies)

-- a type whose modules keep their addresses through harmless frames and ticks
pub record KeepsAddress {M S : Type 0} (K : Kind M S) : Type 0 where
  pub execute : (f : Frame) (individual : Bool) (m : M) → Harmless f → K.address (K.execute f individual m) ≡ K.address m
  pub tick : (x : S) (m : M) → K.address (K.tick x m) ≡ K.address m

-- It holds of every chain of modules that keep their addresses so, whatever else they do.
abbrev pub OfAnyKind : Type 1
OfAnyKind = (M S : Type 0) (K : Kind M S) → EachAlone K × (KeepsAddress K → OrderDoesNotMatter K × OrderOfAll K)

-- The same for this product's modules, of all types in one chain, with nothing left to assume.
abbrev pub Product : Type 0
Product = KeepsAddress kind × EachAlone kind × OrderDoesNotMatter kind × OrderOfAll kind

-- By calls: two lists of exported calls that do, a byte at a time, what two such histories say leave the same record, byte for byte, and every
-- place has given the same replies. A refused tick does nothing, so it is none (02 P11).
abbrev pub ByCalls : Type 0
ByCalls =
    (net : List ℕ) (cs₁ cs₂ : List Call) (h₁ h₂ : List (Event (List AnySample)))
    → ValidRecord net → AllHanded cs₁ → AllHanded cs₂ → (net_in slots net).receiver ≡ idle → Ordinary h₁ → Ordinary h₂
    → done_by cs₁ net ≡ singly h₁ → done_by cs₂ net ≡ singly h₂
    → ((i : ℕ) → i < length (net_in slots net).modules → MeetsTheSame kind (net_in slots net) h₁ h₂ i)
    → (left_by cs₁ net ≡ left_by cs₂ net)
    × ((i : ℕ) → replies_of i (run kind (done_by cs₁ net) (net_in slots net)).replies ≡ replies_of i (run kind (done_by cs₂ net) (net_in slots net)).replies)

-- 02 P11: what place i meets of a tick is the tick with its own sample. So ticks that differ at other places leave it the same; a refused tick is none, whichever
-- place it is refused for; and a frame that touches nobody may stand on either side of a tick.
pub record OwnTicks : Type 0 where
  pub elsewhere : (n : Net Module) (xs ys : List AnySample) (i : ℕ) → n.receiver ≡ idle → get_elem? xs i ≡ get_elem? ys i
      → EndsTheSame (run kind (ticked xs ∷ []) n) (run kind (ticked ys ∷ []) n) i
  pub refused : (net bad good : List ℕ) → Refuses (tick_table net bad) → left_by (tick bad ∷ tick good ∷ []) net ≡ left_by (tick good ∷ []) net
  pub nobody : (n : Net Module) (bs : List Byte) (f : Frame) (xs : List AnySample)
      → n.receiver ≡ idle → Reads bs f → Harmless f → ((i : ℕ) → touched true f.address (addresses kind n.modules) i ≡ false)
      → ((run kind (sent bs ∷ ticked xs ∷ []) n).net ≡ (run kind (ticked xs ∷ sent bs ∷ []) n).net)
      × ((i : ℕ) → replies_of i (run kind (sent bs ∷ ticked xs ∷ []) n).replies ≡ replies_of i (run kind (ticked xs ∷ sent bs ∷ []) n).replies)

-- a network in which a servo drives its motor with 100, an I/O module puts out 0x234, a step-motor module goes with speed 6, and all have replied:
-- status, asked items, sum
pub record Lives (o : Outcome Module) : Type 0 where
  pub servo_drives : outputs_at o.net 0 ≡ 100 ∷ 0 ∷ 1 ∷ 0 ∷ 0 ∷ 0 ∷ 0 ∷ 0 ∷ []
  pub inout_drives : outputs_at o.net 1 ≡ 0 ∷ 0 ∷ 0x34 ∷ 0x02 ∷ 0 ∷ 0 ∷ 0 ∷ 0 ∷ []
  pub stepper_drives : outputs_at o.net 2 ≡ 6 ∷ 0 ∷ 0 ∷ 0 ∷ 0 ∷ 0 ∷ 0 ∷ 0 ∷ []
  pub servo_replied : replies_of 0 o.replies ≡ (9 ∷ 9 ∷ []) ∷ (11 ∷ 11 ∷ []) ∷ (9 ∷ 9 ∷ []) ∷ (9 ∷ 5 ∷ 0 ∷ 0 ∷ 0 ∷ 14 ∷ []) ∷ []
  pub inout_replied : replies_of 1 o.replies ≡ (0 ∷ 0 ∷ []) ∷ (0 ∷ 0 ∷ []) ∷ (0 ∷ 0x34 ∷ 0x02 ∷ 77 ∷ 131 ∷ []) ∷ []
  pub stepper_replied : replies_of 2 o.replies ≡ (0 ∷ 0 ∷ []) ∷ (1 ∷ 1 ∷ []) ∷ (1 ∷ 6 ∷ 0 ∷ 0 ∷ 0 ∷ 7 ∷ []) ∷ []

-- Not by being dead: from one network of all three types two different histories, with a damaged frame among them, that meet all that is asked for
-- above; both live, and so both end in the same network.
pub record Alive (n : Net Module) (h₁ h₂ : List (Event (List AnySample))) : Type 0 where
  pub first : Lives (run kind h₁ n)
  pub second : Lives (run kind h₂ n)
  pub differ : h₁ ≡ h₂ → ⊥
  pub idles : n.receiver ≡ idle
  pub ordinary : Ordinary h₁ × Ordinary h₂
  pub meet_the_same : (i : ℕ) → MeetsTheSame kind n h₁ h₂ i
  pub end_the_same : (i : ℕ) → EndsTheSame (run kind h₁ n) (run kind h₂ n) i
  pub equal : (run kind h₁ n).net ≡ (run kind h₂ n).net

-- 02 P11: the same three cases on a servo and an I/O module: the tick's lists differ at the I/O module alone, in xs and ys, and in bad and good.
pub record ThreeCases (net : List ℕ) (n : Net Module) (xs ys : List AnySample) (bad good : List ℕ) (bs : List Byte) : Type 0 where
  pub holds : net_in slots net ≡ n
  pub servo_the_same : get_elem? (run kind (ticked xs ∷ []) n).net.modules 0 ≡ get_elem? (run kind (ticked ys ∷ []) n).net.modules 0
  pub inout_not : get_elem? (run kind (ticked xs ∷ []) n).net.modules 1 ≡ get_elem? (run kind (ticked ys ∷ []) n).net.modules 1 → ⊥
  pub fourteen : first (tick_table net bad) ≡ 14
  pub done : first (tick_table net good) ≡ 0
  pub as_if_none : left_by (tick bad ∷ tick good ∷ []) net ≡ left_by (tick good ∷ []) net
  pub either_side : run kind (sent bs ∷ ticked xs ∷ []) n ≡ run kind (ticked xs ∷ sent bs ∷ []) n
