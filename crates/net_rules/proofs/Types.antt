-- A module stays of its type, whatever frame or tick comes, and so it stays as many bytes: a network that is written over its own leaves nothing of
-- it. Assumes nothing.
use mathlib.Core.Path.{◌≡◌, refl, sym, ap, ap₂, ◌∙◌}
use mathlib.Core.List.{List, [], ◌∷◌, map}
use mathlib.Core.Bool.{Bool, true, false, cond, ◌&&◌, true≢false}
use Prim.Native.Nat.{ℕ, ◌≤◌}
use native.Mathlib.Omega.{arith}
use lib.ListN.{length, length-map}
use Rattle.base_layout.specs.Bytes.{Bytes}
use Rattle.line_receiver.specs.Frames.{Byte, Frame, frame_in}
use Rattle.module_rules.specs.Touch.{named}
use Rattle.module_rules.specs.Kind.{executed}
use Rattle.chain_rules.specs.Chain.{Net, handed, byte_step, taking, timed}
use Rattle.chain_rules.proofs.Bytes.{step_either}
use Rattle.types_rules.specs.Table.{ModuleType, Of, rules_of, slots_of}
use Rattle.types_rules.specs.Types.{Module, AnySample, kind, slots}
use Rattle.types_rules.proofs.Owed.{owes}
use Rattle.types_rules.proofs.Laws.{lawful}
use Rattle.net_rules.specs.Record.{chain_most, net_in, stored, valid}
use Rattle.net_rules.proofs.Valid.{valid_is}
use Rattle.net_rules.proofs.Slots.{SameSizes}
use Rattle.net_rules.proofs.Stored.{holds, stored_twice}

abbrev pub type_of : Module → ModuleType
type_of m = m.0

abbrev pub types : List Module → List ModuleType
types ms = map type_of ms

handed_types : (f : Frame) (enabled : Bool) (ms : List Module) → types (handed kind f enabled ms) ≡ types ms
handed_types f enabled [] = refl
handed_types f enabled (m ∷ ms) =
    ap₂ (λ (t : ModuleType) (ts : List ModuleType). t ∷ ts) (go (enabled && named f.address (kind.address m))) (handed_types f (kind.address m).low ms)
  where
    go : (t : Bool) → type_of (cond t (executed kind f m) m) ≡ type_of m
    go true = refl
    go false = refl

pub timed_types : (xs : List AnySample) (ms : List Module) → types (timed kind xs ms) ≡ types ms
timed_types xs [] = refl
timed_types [] (m ∷ ms) = refl
timed_types (x ∷ xs) (m ∷ ms) = ap (λ (ts : List ModuleType). type_of m ∷ ts) (timed_types xs ms)

pub byte_types : (n : Net Module) (b : Byte) → types (byte_step kind n b).net.modules ≡ types n.modules
byte_types n b =
    step_either kind (λ s. types s.net.modules ≡ types n.modules) n b
    (λ r e. refl)
    (λ r d e. handed_types (frame_in n.receiver d) true n.modules)

pub bytes_types : (bs : List Byte) (n : Net Module) → types (taking kind bs n).net.modules ≡ types n.modules
bytes_types [] n = refl
bytes_types (b ∷ bs) n = bytes_types bs (byte_step kind n b).net ∙ byte_types n b

-- ---- bytes

abbrev size_of : ModuleType → ℕ
size_of t = length ((slots_of t).enc (rules_of t).started)

sized : (t : ModuleType) (m : Of t) → length ((slots_of t).enc m) ≡ size_of t
sized t m = (owes t).sized m (rules_of t).started

same-sizes : (ms ns : List Module) → types ms ≡ types ns → SameSizes slots ms ns
same-sizes [] [] e = tt
same-sizes [] (n ∷ ns) e = let z : ◌≡◌ {A = Bool} true false = cc in absurd (true≢false z)
same-sizes (m ∷ ms) [] e = let z : ◌≡◌ {A = Bool} true false = cc in absurd (true≢false z)
same-sizes (m ∷ ms) (n ∷ ns) e =
    let t : type_of m ≡ type_of n = cc in
    let ts : types ms ≡ types ns = cc in
    (sized m.0 m.1 ∙ ap size_of t ∙ sym (sized n.0 n.1), same-sizes ms ns ts)

-- as many modules as there are types
as_many : (ms ns : List Module) → types ms ≡ types ns → length ns ≤ chain_most → length ms ≤ chain_most
as_many ms ns e h = let q : length ms ≡ length ns = sym (length-map ms type_of) ∙ ap length e ∙ length-map ns type_of in omega arith

-- a network written into a valid record over another leaves nothing of it, where both have the types of the record's own
pub stored_over : (n k : Net Module) (s : List ℕ) → Bytes s → valid slots s ≡ true
    → types n.modules ≡ types (net_in slots s).modules → types k.modules ≡ types (net_in slots s).modules
    → stored slots k (stored slots n s) ≡ stored slots k s
stored_over n k s b v e q =
    let most = (holds lawful s b v).most in
    stored_twice lawful n k s (valid_is slots s v).size (as_many n.modules (net_in slots s).modules e most)
    (as_many k.modules (net_in slots s).modules q most) (same-sizes n.modules k.modules (e ∙ sym q))
