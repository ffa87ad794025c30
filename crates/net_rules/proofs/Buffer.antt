-- A round of the loop over a buffer: the bytes still to be taken, from the record and the receiver as they are, give the whole. Assumes nothing.
use mathlib.Core.Path.{◌≡◌, refl, sym, ap, ap₂, subst, subst⁻¹, ◌∙◌}
use mathlib.Core.List.{List, [], ◌∷◌, ◌++◌}
use mathlib.Core.Bool.{Bool, true}
use mathlib.Core.Option.{some}
use Prim.Native.Nat.{ℕ, zero, suc, ◌+◌, ◌*◌, ◌-◌, ◌<◌, ◌≤◌}
use native.Mathlib.Numerals.{add-one}
use native.Mathlib.Omega.{arith}
use lib.Dec.{eqb}
use lib.ListN.{length, get_or, get_elem?, take, drop, length-append, length-take, length-drop}
use lib.Seq.{drop-cons, drop-length}
use Rattle.base_layout.specs.Bytes.{pasted, Bytes}
use Rattle.base_layout.proofs.Pasted.{pasted_none, pasted_twice, length-pasted, put_part}
use Rattle.line_receiver.specs.declared.Receiver.{Receiver}
use Rattle.line_receiver.specs.declared.Received.{Received}
use Rattle.std.specs.Prelude.{Option, Some, None}
use Rattle.line_receiver.specs.Receive.{taken}
use Rattle.line_receiver.specs.Frames.{Byte, frame_in, ended_by, ends}
use Rattle.line_receiver.specs.Promises.{Sound}
use Rattle.line_receiver.proofs.Ending.{most_end}
use Rattle.module_rules.specs.Owes.{reply_size}
use Rattle.chain_rules.specs.Chain.{Net, Outcome, join, flat, byte_step, taking}
use Rattle.chain_rules.proofs.Taking.{flat_append}
use Rattle.chain_rules.proofs.FewReplies.{step-few, few-within}
use Rattle.types_rules.specs.Types.{Module, kind, slots}
use Rattle.types_rules.proofs.Laws.{lawful, said_short}
use Rattle.net_rules.specs.declared.Called.{Called}
use Rattle.net_rules.specs.Record.{count_at, slots_at, room_size, room_for, receiver_in, receiver_bytes, net_in, stored, valid}
use Rattle.net_rules.specs.Walk.{walked, speech, ended_of, speech_by, walked_by, answered_of}
use Rattle.net_rules.specs.Calls.{byte_of, bytes_of}
use Rattle.net_rules.specs.Promises.{OwnMarks}
use Rattle.net_rules.proofs.Stored.{holds}
use Rattle.net_rules.proofs.Valid.{valid_is}
use Rattle.net_rules.proofs.Exact.{waits, length-modules}
use Rattle.net_rules.proofs.Types.{types, byte_types, bytes_types}
use Rattle.net_rules.proofs.Taking.{net_with, nothing_more, frame-ended, said_is, onward}

-- where the loop stands, with these bytes to go and w bytes written: what is left gives the whole, and the room is enough for it
pub record Midway (whole : Outcome Module) (s₀ room₀ : List ℕ) (rest : List Byte) (r : Receiver) (s room : List ℕ) (w : ℕ) : Type 0 where
  pub valid : valid slots s ≡ true
  pub bytes : Bytes s
  pub sound : Sound r
  pub long : length room ≡ length room₀
  pub net : stored slots (taking kind rest (net_with r s)).net s ≡ stored slots whole.net s₀
  pub said : pasted w (flat (taking kind rest (net_with r s)).replies) room ≡ pasted 0 (flat whole.replies) room₀
  pub total : w + length (flat (taking kind rest (net_with r s)).replies) ≡ length (flat whole.replies)
  pub enough : w + room_size * ends rest r ≤ length room

-- bytes with their marks
pub own_marks : OwnMarks
own_marks [] ms e = record { long = refl; each = λ i h. absurd (omega arith) }
own_marks (x ∷ xs) [] e = absurd (omega arith)
own_marks (x ∷ xs) (m ∷ ms) e =
    let p = own_marks xs ms (omega arith) in
    record { long = ap suc p.long; each = at p.each }
  where
    at : ((i : ℕ) → i < length xs → get_elem? (bytes_of xs ms) i ≡ some (byte_of (get_or xs i 0) (eqb (get_or ms i 0) 1)))
        → (i : ℕ) → i < suc (length xs) → get_elem? (bytes_of (x ∷ xs) (m ∷ ms)) i ≡ some (byte_of (get_or (x ∷ xs) i 0) (eqb (get_or (m ∷ ms) i 0) 1))
    at later zero h = refl
    at later (suc i) h = later i (omega arith)

next_of : (xs ms : List ℕ) (i : ℕ) → i < length xs → length xs ≡ length ms
    → bytes_of (drop i xs) (drop i ms) ≡ byte_of (get_or xs i 0) (eqb (get_or ms i 0) 1) ∷ bytes_of (drop (i + 1) xs) (drop (i + 1) ms)
next_of xs ms i h e = rw (add-one i, drop-cons xs i 0 h, drop-cons ms i 0 (omega arith)) refl

pub onto : {whole : Outcome Module} {s₀ room₀ : List ℕ} (xs ms : List ℕ) (i : ℕ) {r : Receiver} {s room : List ℕ} {w : ℕ}
    → i < length xs → length xs ≡ length ms
    → Midway whole s₀ room₀ (bytes_of (drop i xs) (drop i ms)) r s room w
    → Midway whole s₀ room₀ (byte_of (get_or xs i 0) (eqb (get_or ms i 0) 1) ∷ bytes_of (drop (i + 1) xs) (drop (i + 1) ms)) r s room w
onto {whole} {s₀} {room₀} xs ms i {r} {s} {room} {w} h e m =
    subst (λ (rest : List Byte). Midway whole s₀ room₀ rest r s room w) (next_of xs ms i h e) m

-- all modules of a valid record together say no more than a byte call's room
pub most_said : (s : List ℕ) → valid slots s ≡ true → reply_size * length (net_in slots s).modules ≤ room_size
most_said s v = let m = (valid_is slots s v).most in omega (arith, length-modules slots s)

-- before the first byte
pub set_out : (xs ms s room : List ℕ) {r : Receiver} → r ≡ receiver_in s → length xs ≡ length ms → Bytes s → valid slots s ≡ true → room_for (length xs) ≤ length room
    → Midway (taking kind (bytes_of xs ms) (net_in slots s)) s room (bytes_of xs ms) r s room 0
unfolding net_in
set_out xs ms s room er e b v h =
    subst⁻¹ (λ (q : Receiver). Midway (taking kind (bytes_of xs ms) (net_in slots s)) s room (bytes_of xs ms) q s room 0) er
    (record {
      valid = v;
      bytes = b;
      sound = (holds lawful s b v).receiver;
      long = refl;
      net = refl;
      said = refl;
      total = omega arith;
      enough = omega (arith, most_end (bytes_of xs ms) (receiver_in s), (own_marks xs ms e).long);
    })

module _ {whole : Outcome Module} {s₀ room₀ : List ℕ} {rest : List Byte} {r : Receiver} {s room : List ℕ} {w : ℕ} {y : Byte}
    (m : Midway whole s₀ room₀ (y ∷ rest) r s room w) {got : Received} (eg : got ≡ taken r y.value y.mark) where
  abbrev x : List ℕ
  x = flat (byte_step kind (net_with r s) y).replies

  abbrev later : Outcome Module
  later = taking kind rest (byte_step kind (net_with r s) y).net

  left_is : ends (y ∷ rest) r ≡ ended_by got.answer + ends rest got.next
  unfolding ends
  left_is = ap (λ (t : Received). ended_by t.answer + ends rest t.next) (sym eg)

  x_few : length x ≤ room_size * ended_by got.answer
  x_few = rw eg (step-few kind reply_size room_size said_short (net_with r s) y (most_said s m.valid))

  -- what is said to the byte and to those after it
  all_said : flat (taking kind (y ∷ rest) (net_with r s)).replies ≡ x ++ flat later.replies
  all_said = flat_append (byte_step kind (net_with r s) y).replies later.replies

  all_few : w + length x + length (flat later.replies) ≤ length room
  all_few =
      omega (
        arith,
        few-within kind reply_size room_size said_short (y ∷ rest) (net_with r s) (most_said s m.valid),
        ap length all_said,
        length-append x (flat later.replies),
        m.enough,
      )

  -- the part of the room behind what is written has what a frame's replies need, if the byte ends one
  abbrev behind : ℕ
  behind = length room - w

  pub room_enough : {d : Bool} → got.answer ≡ Some d → room_size ≤ length (take behind (drop w room))
  room_enough e = let q = rw e at left_is in simp (length-take, length-drop) (omega (arith, m.enough, q))

  -- after the byte, where what is said to it stands behind what was written before
  onward_from : y.value < 256 → {s' room' : List ℕ} {w' : ℕ} → s' ≡ walked_by r got.answer s → room' ≡ pasted w x room → w' ≡ w + length x
      → Midway whole s₀ room₀ rest got.next s' room' w'
  onward_from small {s'} {room'} {w'} es er ew =
      let o = onward r s m.bytes m.valid y eg m.sound small es in
      let n : net_with got.next s' ≡ (byte_step kind (net_with r s) y).net = o.net in
      let same : types later.net.modules ≡ types (net_in slots s).modules = bytes_types rest (byte_step kind (net_with r s) y).net ∙ byte_types (net_with r s) y in
      let few = all_few in
      let k = length-pasted w x room (omega arith) in
      record {
        valid = o.valid;
        bytes = o.bytes;
        sound = o.sound;
        long = ap length er ∙ k ∙ m.long;
        net = ap (λ (n : Net Module). stored slots (taking kind rest n).net s') n ∙ o.over later.net same ∙ m.net;
        said =
            ap₂ (λ (n : Net Module) (l : List ℕ). pasted w' (flat (taking kind rest n).replies) l) n er
            ∙ ap (λ (k : ℕ). pasted k (flat later.replies) (pasted w x room)) ew
            ∙ pasted_twice w x (flat later.replies) room (omega arith)
            ∙ ap (λ (l : List ℕ). pasted w l room) (sym all_said)
            ∙ m.said;
        total = rw n (omega (arith, ap length all_said, length-append x (flat later.replies), m.total));
        enough = omega (arith, x_few, left_is, m.enough, ap length er);
      }

  -- what is said is what the walk says
  spoken : join (speech_by r got.answer s) ≡ x
  spoken = said_is r s m.bytes m.valid y eg

  silent : got.answer ≡ None → x ≡ []
  unfolding speech_by
  silent e = sym spoken ∙ ap (λ (a : Option Bool). join (speech_by r a s)) e

  -- a byte that ends no frame
  pub quiet : y.value < 256 → got.answer ≡ None → Midway whole s₀ room₀ rest got.next s room w
  quiet small e =
      let z = silent e in
      onward_from small (nothing_more r s room e).1.0 (sym (pasted_none w room) ∙ ap (λ (l : List ℕ). pasted w l room) (sym z)) (omega (arith, ap length z))

  -- one that ends a frame, with what handing it on gives
  module _ (small : y.value < 256) {d : Bool} (e : got.answer ≡ Some d) {s' part : List ℕ} {c : Called}
      (p : (c ≡ ended_of (frame_in r d) (get_or s count_at 0) s)
      × ((s' ≡ walked kind slots (frame_in r d) true (get_or s count_at 0) slots_at s)
      × (part ≡ pasted 0 (join (speech kind slots (frame_in r d) true (get_or s count_at 0) slots_at s)) (take behind (drop w room))))) where
    handed : (c ≡ answered_of r got.answer s)
        × ((s' ≡ walked_by r got.answer s) × (part ≡ pasted 0 (join (speech_by r got.answer s)) (take behind (drop w room))))
    handed = frame-ended r s (take behind (drop w room)) e p

    written_is : c.written ≡ length x
    unfolding answered_of
    written_is = ap (λ (c : Called). c.written) handed.0 ∙ ap length spoken

    -- the bytes written are within the room
    pub within : w + c.written ≤ length room
    within = let few = all_few in omega (arith, written_is)

    pub round : Midway whole s₀ room₀ rest got.next s' (take w room ++ (part ++ drop behind (drop w room))) (w + c.written)
    round =
        let few = all_few in
        onward_from small handed.1.0
        (ap (λ (l : List ℕ). take w room ++ (l ++ drop behind (drop w room))) (handed.1.1 ∙ ap (λ (l : List ℕ). pasted 0 l (take behind (drop w room))) spoken)
        ∙ put_part w behind x room (omega arith) (omega arith))
        (ap (λ (k : ℕ). w + k) written_is)

-- after the last
none_left : (xs ms : List ℕ) (i : ℕ) → i ≡ length xs → bytes_of (drop i xs) (drop i ms) ≡ []
none_left xs ms i e = rw (e, drop-length xs) refl

pub set-down : {whole : Outcome Module} {s₀ room₀ : List ℕ} (xs ms : List ℕ) (i : ℕ) {r : Receiver} {s room s' : List ℕ} {w : ℕ} → i ≡ length xs
    → Midway whole s₀ room₀ (bytes_of (drop i xs) (drop i ms)) r s room w
    → s' ≡ pasted 0 (receiver_bytes r) s
    → (w ≡ length (flat whole.replies)) × ((s' ≡ stored slots whole.net s₀) × (room ≡ pasted 0 (flat whole.replies) room₀))
set-down {whole} {s₀} {room₀} xs ms i {r} {s} {room} {s'} {w} z m e =
    let l : Midway whole s₀ room₀ [] r s room w = subst (λ (rest : List Byte). Midway whole s₀ room₀ rest r s room w) (none_left xs ms i z) m in (
      omega (arith, l.total),
      (e ∙ waits lawful s l.bytes l.valid r ∙ l.net, sym (pasted_none w room) ∙ l.said),
    )
