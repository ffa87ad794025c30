-- One place through any calls: each call, the record after it, and what it may have ended. Assumes nothing.
use mathlib.Core.Path.{◌≡◌, refl, sym, ap, subst, ◌∙◌}
use mathlib.Core.List.{List, [], ◌∷◌}
use mathlib.Core.Bool.{Bool, true, false, true≢false}
use mathlib.Core.Option.{some}
use Prim.Native.Nat.{ℕ, zero, suc, ◌<◌, ◌≤◌}
use native.Mathlib.Omega.{arith}
use native.Mathlib.Nat.{le_refl}
use lib.Dec.{eqb}
use lib.ListN.{length, get_elem?, take}
use lib.Seq.{take-length}
use Rattle.line_receiver.specs.declared.Receiver.{Receiver}
use Rattle.std.specs.Prelude.{Some}
use Rattle.line_receiver.specs.Receive.{taken}
use Rattle.line_receiver.specs.Frames.{Frame, frame_in}
use Rattle.chain_rules.specs.Chain.{addresses, touched}
use Rattle.types_rules.specs.Table.{ModuleType, Of, rules_of}
use Rattle.types_rules.specs.Types.{kind, slots}
use Rattle.net_rules.specs.Record.{net_in}
use Rattle.api_rules.specs.Table.{byte_table}
use Rattle.api_rules.specs.Promises.{ValidRecord, Passes}
use Rattle.demands_history_rules.specs.Calls.{Call, byte, Handed, AllHanded, leaves, left_by}
use Rattle.demands_history_rules.proofs.Calls.{call_kept}
use Rattle.demands_rules.specs.Place.{AtOf, after, Touched, Stands, Executed, in_time, through_time}
use Rattle.demands_rules.proofs.Making.{same_place, Silent, Made, made, was_there}

-- call n, and the record after it
pub call_at : (cs : List Call) (net : List ℕ) (n : ℕ) → n < length cs → AllHanded cs
    → (c : Call) × (get_elem? cs n ≡ some c) × (left_by (take (suc n) cs) net ≡ leaves (left_by (take n cs) net) c) × Handed c
call_at [] net n l h = absurd (omega arith)
call_at (c ∷ cs) net zero l h = (c, refl, refl, h.0)
call_at (c ∷ cs) net (suc n) l h = call_at cs (leaves net c) n (omega arith) h.1

pub valid-after : (net : List ℕ) (cs : List Call) (i n : ℕ) → ValidRecord net → AllHanded cs → n ≤ length cs → ValidRecord (after net cs i n)
valid-after net cs i zero v h l = v
valid-after net cs i (suc n) v h l =
    let (c, g, z, hc) = call_at cs net n (omega arith) h in
    subst ValidRecord (sym z) (call_kept (after net cs i n) c hc (valid-after net cs i n v h (omega arith)))

-- a call that ends no frame for place i touches nothing there
pub untouched : (net : List ℕ) (cs : List Call) (i n : ℕ) (c : Call) → get_elem? cs n ≡ some c → Silent (after net cs i n) i c → (g : Frame) → Touched net cs i n g → ⊥
untouched net cs i n c e s g x =
    let z : c ≡ byte x.mark x.value x.room = let y : some c ≡ some (byte x.mark x.value x.room) = sym e ∙ x.call in cc in
    subst (Silent (after net cs i n) i) z s g.damaged x.done x.ended
    (subst (λ (f : Frame). touched true f.address (addresses kind (net_in slots (after net cs i n)).modules) i ≡ true) x.frame x.touches)

module _ (t : ModuleType) where
  -- what time makes of a module by call n
  pub time_at : (cs : List Call) (net : List ℕ) (i n : ℕ) (m : Of t) (c : Call) → get_elem? cs n ≡ some c
      → through_time t net i (take (suc n) cs) m ≡ in_time t (left_by (take n cs) net) i c (through_time t net i (take n cs) m)
  time_at [] net i n m c e = let z : ◌≡◌ {A = Bool} true false = cc in absurd (true≢false z)
  time_at (d ∷ cs) net i zero m c e = let z : d ≡ c = cc in ap (λ (c : Call). in_time t net i c m) z
  time_at (d ∷ cs) net i (suc n) m c e = time_at cs (leaves net d) i n (in_time t net i d m) c e

  -- where a module of type t is after n calls one was before them
  pub stood_before : (net : List ℕ) (cs : List Call) (i n : ℕ) (k : Of t) → ValidRecord net → AllHanded cs → n ≤ length cs → Stands t net cs i n k → (m : Of t) × AtOf t net i m
  stood_before net cs i zero k v h l e = (k, e)
  stood_before net cs i (suc n) k v h l e =
      let (c, g, z, hc) = call_at cs net n (omega arith) h in
      let (m, q) = was_there t (after net cs i n) c i k hc (valid-after net cs i n v h (omega arith)) (subst (λ (r : List ℕ). AtOf t r i k) z e) in
      stood_before net cs i n m v h (omega arith) q

  -- k is the module after n calls
  abbrev pub Only : List ℕ → List Call → ℕ → ℕ → Of t → Type 0
  Only net cs i n k = (m : Of t) → Stands t net cs i n m → m ≡ k

  -- a byte that ends an undamaged frame for place i, and leaves the module there with cause 0, has executed it
  module _ (net : List ℕ) (cs : List Call) (i n : ℕ) (mark value : ℕ) (room : List ℕ) where
    abbrev receiver : Receiver
    receiver = (net_in slots (after net cs i n)).receiver

    pub executed-by : get_elem? cs n ≡ some (byte mark value room) → Passes (byte_table (after net cs i n) mark room)
        → touched true receiver.address (addresses kind (net_in slots (after net cs i n)).modules) i ≡ true
        → (taken receiver value (eqb mark 1)).answer ≡ Some false
        → (k : Of t) → Only net cs i (suc n) k → ((rules_of t).station k).cause ≡ 0 → Executed t net cs i n (frame_in receiver false)
    executed-by call goes touches e k o z = record {
      met = record { mark = mark; value = value; room = room; call = call; done = goes; ended = e; frame = refl; touches = touches };
      undamaged = refl;
      cause = λ m st. ap (λ (k : Of t). ((rules_of t).station k).cause) (o m st) ∙ z;
    }

    -- so where none such as Q is executed, the frame that ends here is none, if it is executed
    pub calm : (Q : Frame → Type 0) (d : Bool) (k : Of t) → get_elem? cs n ≡ some (byte mark value room) → Passes (byte_table (after net cs i n) mark room)
        → touched true receiver.address (addresses kind (net_in slots (after net cs i n)).modules) i ≡ true
        → (taken receiver value (eqb mark 1)).answer ≡ Some d
        → Only net cs i (suc n) k → ((f : Frame) → Executed t net cs i n f → Q f → ⊥)
        → d ≡ false → ((rules_of t).station k).cause ≡ 0 → Q (frame_in receiver d) → ⊥
    calm Q true k call goes touches e o u z c q = true≢false z
    calm Q false k call goes touches e o u z c q = u (frame_in receiver false) (executed-by call goes touches e k o c) q

  -- what holds of the module here before any calls, and after each call if it held before it, holds after each of them
  module _ (net : List ℕ) (cs : List Call) (i : ℕ) (P : ℕ → Of t → Type 0) where
    abbrev pub Carries : Type 0
    Carries =
        (n : ℕ) (c : Call) (m k : Of t) → get_elem? cs n ≡ some c → ValidRecord (after net cs i n) → Stands t net cs i n m
        → Made t (after net cs i n) i m c k → Stands t net cs i (suc n) k → Only net cs i (suc n) k → P n m → P (suc n) k

    module _ (v : ValidRecord net) (h : AllHanded cs) (carry : Carries) (s : Of t) (at : AtOf t net i s) (first : P 0 s) where
      stands : (n : ℕ) → n ≤ length cs → (m : Of t) × Stands t net cs i n m × P n m
      stands zero l = (s, at, first)
      stands (suc n) l =
          let (m, st, p) = stands n (omega arith) in
          let (c, g, z, hc) = call_at cs net n (omega arith) h in
          let w = valid-after net cs i n v h (omega arith) in
          let (k, e, d) = made t (after net cs i n) c i m hc w st in
          let st' : Stands t net cs i (suc n) k = subst (λ (r : List ℕ). AtOf t r i k) (sym z) e in
          (k, st', carry n c m k g w st d st' (λ m e. same_place t (net_in slots (after net cs i (suc n))).modules i m k e st') p)

      pub carried : (n : ℕ) → n ≤ length cs → (k : Of t) → Stands t net cs i n k → P n k
      carried n l k e =
          let (m, st, p) = stands n l in
          subst (P n) (same_place t (net_in slots (after net cs i n)).modules i m k st e) p

      -- and after all of them
      pub carried_on : (k : Of t) → AtOf t (left_by cs net) i k → P (length cs) k
      carried_on k e = carried (length cs) (le_refl (length cs)) k (subst (λ (ds : List Call). AtOf t (left_by ds net) i k) (sym (take-length cs)) e)
