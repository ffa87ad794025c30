-- Histories that are computed: calls that no valid record of a lone servo refuses, the network that they leave, and a test of each of them on the
-- network before it. Assumes nothing.
use mathlib.Core.Path.{◌≡◌, refl, sym, ap, ◌∙◌}
use mathlib.Core.List.{List, [], ◌∷◌}
use mathlib.Core.Bool.{Bool, true, false, not, ◌&&◌, true≢false}
use mathlib.Core.Option.{some}
use Prim.Native.Nat.{ℕ, zero, suc, ◌*◌, ◌<◌, ◌≤◌}
use native.Mathlib.Omega.{arith}
use borrow.Author.Tests.{leb-true}
use lib.ListN.{length, get_elem?, take, drop}
use lib.Dec.{eqb, leb}
use Rattle.base_layout.specs.Bytes.{Bytes}
use Rattle.base_layout.proofs.First.{none_first}
use Rattle.std.specs.Prelude.{Option, Some, None}
use Rattle.line_receiver.specs.Receive.{taken}
use Rattle.line_receiver.specs.Frames.{Byte, Frame, frame_in, values, AreBytes}
use Rattle.chain_rules.specs.Chain.{Net}
use Rattle.types_rules.specs.Table.{servo}
use Rattle.types_rules.specs.Types.{Module, kind, slots}
use Rattle.net_rules.specs.Record.{room_size, net_in}
use Rattle.net_rules.specs.Calls.{all_typed, all_in_range}
use Rattle.net_rules.proofs.Tests.{and-true}
use Rattle.api_rules.specs.Table.{tick_table}
use Rattle.api_rules.specs.Promises.{ValidRecord, Passes}
use Rattle.api_rules.proofs.Refused.{done}
use Rattle.demands_history_rules.specs.Events.{event}
use Rattle.demands_history_rules.specs.Calls.{Call, byte, tick, Handed, AllHanded, refusals, leaves, left_by, does}
use Rattle.demands_history_rules.proofs.Calls.{call_kept, passed-leaves}
use Rattle.demands_rules.specs.Place.{ticks_of, ticks_in}
use Rattle.net_rules.proofs.Types.{type_of, types}
use Rattle.demands_rules.proofs.Types.{call_types, of_type_lem}
use Rattle.demands_rules.proofs.OnTheLine.{small, byte_goes}

-- a servo alone on the line
abbrev pub Lone : List ℕ → Type 0
Lone net = types (net_in slots net).modules ≡ servo ∷ []

pub lone_after : (net : List ℕ) (c : Call) → Handed c → ValidRecord net → Lone net → Lone (leaves net c)
lone_after net c h v one = call_types net c h v ∙ one

pub lone_on : (cs : List Call) (net : List ℕ) → ValidRecord net → Lone net → AllHanded cs → Lone (left_by cs net)
lone_on [] net v one h = one
lone_on (c ∷ cs) net v one h = lone_on cs (leaves net c) (call_kept net c h.0 v) (lone_after net c h.0 v one) h.1

-- the call is done on every valid record of it
abbrev pub Open : Call → Type 0
Open c = (net : List ℕ) → ValidRecord net → Lone net → Passes (refusals net c)

abbrev pub AllOpen : List Call → Type 0
AllOpen [] = Unit {0}
AllOpen (c ∷ cs) = Open c × AllOpen cs

-- the list of samples for it, at this power and count 0
abbrev pub at_power : ℕ → List ℕ
at_power power = 0 ∷ power ∷ 0 ∷ 0 ∷ 0 ∷ 0 ∷ 0 ∷ 0 ∷ 0 ∷ 0 ∷ []

pub tick_goes : (power : ℕ) → leb power 2 ≡ true → Open (tick (at_power power))
unfolding all_typed all_in_range
tick_goes power h net v one =
    let (l, t) = alone (net_in slots net).modules one in
    none_first (tick_table net (at_power power)) (
      ap not v.0,
      (
        ap (λ (k : ℕ). not (eqb 10 (10 * k))) l,
        (ap not t, (ap not (ap (λ (k : ℕ). all_in_range k (at_power power)) l ∙ fair), tt)),
      ),
    )
  where
    alone : (ms : List Module) → types ms ≡ servo ∷ [] → (length ms ≡ 1) × (all_typed ms (at_power power) ≡ true)
    alone [] e = let z : ◌≡◌ {A = Bool} true false = cc in absurd (true≢false z)
    alone (m ∷ []) e =
        let z : type_of m ≡ servo = cc in
        (refl, ap (λ (m : Module). all_typed (m ∷ []) (at_power power)) (of_type_lem servo m z).1)
    alone (m ∷ k ∷ ms) e = let z : ◌≡◌ {A = Bool} true false = cc in absurd (true≢false z)

    fair : all_in_range 1 (at_power power) ≡ true
    fair = ap (λ (t : Bool). t && true && true) h

-- the network after calls that are all done
abbrev pub through : List Call → Net Module → Net Module
through [] n = n
through (c ∷ cs) n = through cs (event kind (does n c) n).net

pub net-after : (cs : List Call) (net : List ℕ) → ValidRecord net → Lone net → AllHanded cs → AllOpen cs
    → net_in slots (left_by cs net) ≡ through cs (net_in slots net)
net-after [] net v one h o = refl
net-after (c ∷ cs) net v one h o =
    net-after cs (leaves net c) (call_kept net c h.0 v) (lone_after net c h.0 v one) h.1 o.1
    ∙ ap (through cs) (passed-leaves net c h.0 v (o.0 net v one))

-- each of the first k calls passes a test on the network before it
abbrev pub all_pass : (Net Module → Call → Bool) → ℕ → List Call → Net Module → Bool
all_pass test zero cs n = true
all_pass test (suc k) [] n = true
all_pass test (suc k) (c ∷ cs) n = test n c && all_pass test k cs (event kind (does n c) n).net

pub passes_at : (test : Net Module → Call → Bool) (cs : List Call) (net : List ℕ) (k j : ℕ) (c : Call) → ValidRecord net → Lone net → AllHanded cs → AllOpen cs
    → j < k → all_pass test k cs (net_in slots net) ≡ true → get_elem? cs j ≡ some c → test (net_in slots (left_by (take j cs) net)) c ≡ true
passes_at test cs net zero j c v one h o l e g = absurd (omega arith)
passes_at test [] net (suc k) j c v one h o l e g = let z : ◌≡◌ {A = Bool} true false = cc in absurd (true≢false z)
passes_at test (d ∷ cs) net (suc k) zero c v one h o l e g =
    let z : d ≡ c = cc in
    ap (test (net_in slots net)) (sym z) ∙ (and-true (test (net_in slots net) d) _ e).0
passes_at test (d ∷ cs) net (suc k) (suc j) c v one h o l e g =
    passes_at test cs (leaves net d) k j c (call_kept net d h.0 v) (lone_after net d h.0 v one) h.1 o.1 (omega arith)
    (ap (all_pass test k cs) (passed-leaves net d h.0 v (o.0 net v one)) ∙ (and-true (test (net_in slots net) d) _ e).1)
    g

-- a byte ends no frame, or one such as the test takes
abbrev pub ends_such : (Frame → Bool) → Net Module → ℕ → ℕ → Bool
ends_such such n mark x = elim (taken n.receiver x (eqb mark 1)).answer [ None ↦ true | Some d ↦ such (frame_in n.receiver d) ]

pub ends-such : (such : Frame → Bool) (n : Net Module) (mark x : ℕ) (f : Frame) → ends_such such n mark x ≡ true
    → (taken n.receiver x (eqb mark 1)).answer ≡ Some f.damaged → f ≡ frame_in n.receiver f.damaged → such f ≡ true
ends-such such n mark x f e a q =
    ap such q ∙ sym (ap (λ (a : Option Bool). elim a [ None ↦ true | Some d ↦ such (frame_in n.receiver d) ]) a) ∙ e

-- bytes without marks, a tick at this power behind each
abbrev pub spread : ℕ → List ℕ → List Byte → List Call
spread power room [] = []
spread power room (b ∷ bs) = byte 0 b.value room ∷ tick (at_power power) ∷ spread power room bs

pub spread_open : (power : ℕ) → leb power 2 ≡ true → (room : List ℕ) → room_size ≤ length room → (bs : List Byte) → AllOpen (spread power room bs)
spread_open power p room l [] = tt
spread_open power p room l (b ∷ bs) =
    (λ net v one. byte_goes net room (record { value = b.value; mark = false }) v.0 l, (tick_goes power p, spread_open power p room l bs))

are_bytes : (xs : List ℕ) → AreBytes xs → Bytes xs
are_bytes [] h i = omega arith
are_bytes (x ∷ xs) h zero = h.0
are_bytes (x ∷ xs) h (suc i) = are_bytes xs h.1 i

-- the list of samples is bytes
pub power_bytes : (power : ℕ) → leb power 2 ≡ true → Bytes (at_power power)
power_bytes power p = are_bytes (at_power power) (omega arith, (let h = leb-true power 2 p in omega arith, small (drop 2 (at_power power)) refl))

pub spread_handed : (power : ℕ) → leb power 2 ≡ true → (room : List ℕ) (bs : List Byte) → AreBytes (values bs) → AllHanded (spread power room bs)
spread_handed power p room [] h = tt
spread_handed power p room (b ∷ bs) h = (h.0, (power_bytes power p, spread_handed power p room bs h.1))

-- none of its ticks is refused
pub all_tick : (power : ℕ) (p : leb power 2 ≡ true) (room : List ℕ) → room_size ≤ length room → (bs : List Byte) (net : List ℕ) → ValidRecord net → Lone net
    → AreBytes (values bs) → ticks_in net (spread power room bs) ≡ length bs
all_tick power p room l [] net v one h = refl
all_tick power p room l (b ∷ bs) net v one h =
    let c : Call = byte 0 b.value room in
    let t : Call = tick (at_power power) in
    let v₁ : ValidRecord (leaves net c) = call_kept net c h.0 v in
    let one₁ : Lone (leaves net c) = lone_after net c h.0 v one in
    let goes : 1 ≡ ticks_of (leaves net c) t = done (tick_table (leaves net c) (at_power power)) 0 1 refl (tick_goes power p (leaves net c) v₁ one₁) in
    let rest = all_tick power p room l bs (leaves (leaves net c) t) (call_kept (leaves net c) t (power_bytes power p) v₁)
    (lone_after (leaves net c) t (power_bytes power p) v₁ one₁) h.1 in
    omega (arith, goes, rest)
