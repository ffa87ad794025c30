-- Bytes at a valid record whose receiver is carried along beside it: what each makes of the two. Assumes nothing.
use mathlib.Core.Path.{◌≡◌, refl, sym, ap, ap₂, subst⁻¹, ◌∙◌}
use mathlib.Core.List.{List, []}
use mathlib.Core.Bool.{Bool, true}
use Prim.Native.Nat.{ℕ, ◌<◌}
use lib.ListN.{length, get_or, replicate}
use Rattle.base_layout.specs.Bytes.{pasted, Bytes}
use Rattle.base_layout.proofs.Pasted.{pasted_none}
use Rattle.line_receiver.specs.declared.Receiver.{Receiver}
use Rattle.line_receiver.specs.declared.Received.{Received}
use Rattle.std.specs.Prelude.{Option, Some, None}
use Rattle.line_receiver.specs.Receive.{taken}
use Rattle.line_receiver.specs.Frames.{Byte, frame_in}
use Rattle.line_receiver.specs.Promises.{Sound}
use Rattle.line_receiver.proofs.Kept.{kept}
use Rattle.chain_rules.specs.Chain.{Net, Step, join, flat, said, byte_step}
use Rattle.chain_rules.proofs.Bytes.{step-on, step_end, step-receiver}
use Rattle.chain_rules.proofs.Replies.{flat-join}
use Rattle.types_rules.specs.Types.{Module, kind, slots, Good}
use Rattle.types_rules.proofs.Laws.{lawful}
use Rattle.types_rules.proofs.Kept.{preserves}
use Rattle.net_rules.specs.declared.Called.{Called}
use Rattle.net_rules.specs.Record.{count_at, slots_at, chain_most, receiver_in, receiver_bytes, net_in, stored, valid}
use Rattle.net_rules.specs.Promises.{SoundNet}
use Rattle.net_rules.specs.Walk.{walked, speech, ended_of, speech_by, walked_by, answered_of}
use Rattle.net_rules.specs.Calls.{noted, spoken_to, called_by}
use Rattle.net_rules.proofs.Valid.{valid_is}
use Rattle.net_rules.proofs.Stored.{holds, there, back, with_is, whole_is, long-enough}
use Rattle.net_rules.proofs.Exact.{waits, walked_is, speech_is}
use Rattle.net_rules.proofs.Kept.{kept_by_byte}
use Rattle.net_rules.proofs.Turns.{noted_none}
use Rattle.net_rules.proofs.Types.{types, byte_types, stored_over}

-- the network of a record with this receiver in place of its own
abbrev pub net_with : Receiver → List ℕ → Net Module
net_with r s = record { receiver = r; modules = (net_in slots s).modules }

-- ---- what places say to a byte

module _ (n : Net Module) (y : Byte) (q : Receiver) where
  spoken_on : taken n.receiver y.value y.mark ≡ record { next = q; answer = None } → spoken_to kind n y ≡ []
  unfolding spoken_to
  spoken_on e = rw (e, spoken_to)

  spoken_end : (d : Bool) → taken n.receiver y.value y.mark ≡ record { next = q; answer = Some d }
      → spoken_to kind n y ≡ said kind (frame_in n.receiver d) true n.modules
  unfolding spoken_to
  spoken_end d e = rw (e, spoken_to)

  flat_spoken : (a : Option Bool) → taken n.receiver y.value y.mark ≡ record { next = q; answer = a }
      → join (spoken_to kind n y) ≡ flat (byte_step kind n y).replies
  flat_spoken None e = ap join (spoken_on e) ∙ ap (λ (t : Step Module). flat t.replies) (sym (step-on kind n y q e))
  flat_spoken (Some d) e =
      ap join (spoken_end d e)
      ∙ sym (flat-join 0 (said kind (frame_in n.receiver d) true n.modules))
      ∙ ap (λ (t : Step Module). flat t.replies) (sym (step_end kind n y q d e))

-- ---- the answer to a byte

-- by its two cases, as the code has them
module _ (r : Receiver) (s room : List ℕ) where
  pub nothing_more : {a : Option Bool} → a ≡ None
      → (◌≡◌ {A = Called} (record { ended = None; written = 0; lengths = replicate chain_most 0 }) (answered_of r a s))
      × ((s ≡ walked_by r a s) × (room ≡ pasted 0 (join (speech_by r a s)) room))
  unfolding answered_of walked_by speech_by
  nothing_more e = rw e (
    ap (λ (l : List ℕ). record { ended = None; written = 0; lengths = l }) (sym (noted_none 0 (replicate chain_most 0))),
    (refl, sym (pasted_none 0 room)),
  )

  pub frame-ended : {a : Option Bool} {d : Bool} → a ≡ Some d → {c : Called} {s' room' : List ℕ}
      → (c ≡ ended_of (frame_in r d) (get_or s count_at 0) s)
      × ((s' ≡ walked kind slots (frame_in r d) true (get_or s count_at 0) slots_at s)
      × (room' ≡ pasted 0 (join (speech kind slots (frame_in r d) true (get_or s count_at 0) slots_at s)) room))
      → (c ≡ answered_of r a s) × ((s' ≡ walked_by r a s) × (room' ≡ pasted 0 (join (speech_by r a s)) room))
  unfolding answered_of walked_by speech_by ended_of
  frame-ended e p = rw e p

-- a valid record with its own receiver put into it
own_head : (s : List ℕ) → Bytes s → valid slots s ≡ true → s ≡ pasted 0 (receiver_bytes (receiver_in s)) s
own_head s b v =
    let w = valid_is slots s v in
    let l = long-enough lawful s b w in
    whole_is s l b w.receiver ∙ sym (with_is (receiver_in s) s l)

-- the record with other modules and its own receiver
abbrev with_modules : List Module → List ℕ → List ℕ
with_modules ms s = stored slots (record { receiver = receiver_in s; modules = ms }) s

module _ (r : Receiver) (s : List ℕ) (b : Bytes s) (v : valid slots s ≡ true) (y : Byte) where
  speech_by_lem : (a : Option Bool) (q : Receiver) → taken r y.value y.mark ≡ record { next = q; answer = a } → speech_by r a s ≡ spoken_to kind (net_with r s) y
  unfolding speech_by
  speech_by_lem None q e = sym (spoken_on (net_with r s) y q e)
  speech_by_lem (Some d) q e =
      ap (λ (l : List ℕ). speech kind slots (frame_in r d) true (get_or s count_at 0) slots_at l) (own_head s b v)
      ∙ speech_is kind lawful s b v (receiver_in s) (frame_in r d)
      ∙ sym (spoken_end (net_with r s) y q d e)

  walked_by_lem : (a : Option Bool) (q : Receiver) → taken r y.value y.mark ≡ record { next = q; answer = a }
      → walked_by r a s ≡ with_modules (byte_step kind (net_with r s) y).net.modules s
  unfolding walked_by net_in
  walked_by_lem None q e =
      sym (there lawful s b v) ∙ ap (λ (t : Step Module). with_modules t.net.modules s) (sym (step-on kind (net_with r s) y q e))
  walked_by_lem (Some d) q e =
      ap (λ (l : List ℕ). walked kind slots (frame_in r d) true (get_or s count_at 0) slots_at l) (own_head s b v)
      ∙ walked_is kind lawful s b v (receiver_in s) (frame_in r d)
      ∙ ap (λ (t : Step Module). with_modules t.net.modules s) (sym (step_end kind (net_with r s) y q d e))

  module _ {got : Received} (eg : got ≡ taken r y.value y.mark) where
    -- what is said to it, and what the code hands back
    pub said_is : join (speech_by r got.answer s) ≡ flat (byte_step kind (net_with r s) y).replies
    said_is = ap join (speech_by_lem got.answer got.next (sym eg)) ∙ flat_spoken (net_with r s) y got.next got.answer (sym eg)

    pub called_is : answered_of r got.answer s ≡ called_by (net_with r s) y
    unfolding answered_of called_by
    called_is =
        ap₂ (λ (a : Option Bool) (ws : List (List ℕ)). record { ended = a; written = length (join ws); lengths = noted ws 0 (replicate chain_most 0) })
        (ap (λ (g : Received). g.answer) eg) (speech_by_lem got.answer got.next (sym eg))
        ∙ ap (λ (x : List ℕ). record {
          ended = (taken r y.value y.mark).answer;
          written = length x;
          lengths = noted (spoken_to kind (net_with r s) y) 0 (replicate chain_most 0);
        }) (flat_spoken (net_with r s) y got.next got.answer (sym eg))

    -- the record and the receiver afterwards, which hold the network of the byte's step; and that a network of the same types, written into that
    -- record, is as if written into the one before
    pub record Onward (s' : List ℕ) : Type 0 where
      pub valid : valid slots s' ≡ true
      pub bytes : Bytes s'
      pub sound : Sound got.next
      pub net : net_with got.next s' ≡ (byte_step kind (net_with r s) y).net
      pub over : (m : Net Module) → types m.modules ≡ types (net_in slots s).modules → stored slots m s' ≡ stored slots m s

    pub onward : Sound r → y.value < 256 → {s' : List ℕ} → s' ≡ walked_by r got.answer s → Onward s'
    unfolding net_in
    onward sound small es =
        let w = valid_is slots s v in
        let h = holds lawful s b v in
        let here : SoundNet slots (net_with r s) = record { receiver = sound; some = h.some; most = h.most; each = h.each } in
        let t = kept_by_byte kind slots Good preserves (net_with r s) y here small in
        let ms : List Module = (byte_step kind (net_with r s) y).net.modules in
        let k : Net Module = record { receiver = receiver_in s; modules = ms } in
        let p = back lawful k s (record { receiver = h.receiver; some = t.some; most = t.most; each = t.each }) w.size b in
        let e = es ∙ walked_by_lem got.answer got.next (sym eg) in
        let next : got.next ≡ (byte_step kind (net_with r s) y).net.receiver = ap (λ (g : Received). g.next) eg ∙ sym (step-receiver kind (net_with r s) y) in
        record {
          valid = ap (valid slots) e ∙ p.1;
          bytes = subst⁻¹ Bytes e p.2;
          sound = subst⁻¹ (λ (g : Received). Sound g.next) eg (kept r y.value y.mark sound small);
          net = ap₂ (λ (q : Receiver) (ms : List Module). record { receiver = q; modules = ms }) next
              (ap (λ (l : List ℕ). (net_in slots l).modules) e ∙ ap (λ (n : Net Module). n.modules) p.0);
          over = λ m q. ap (stored slots m) e ∙ stored_over k m s b v (byte_types (net_with r s) y) q;
        }

-- ---- one byte, with the record's own receiver

pub byte_is : (s : List ℕ) → Bytes s → valid slots s ≡ true → (room : List ℕ) (y : Byte) → y.value < 256 → {r : Receiver} → r ≡ receiver_in s
    → {got : Received} → got ≡ taken r y.value y.mark → {c : Called} {s' s'' room' : List ℕ}
    → (c ≡ answered_of r got.answer s) × ((s' ≡ walked_by r got.answer s) × (room' ≡ pasted 0 (join (speech_by r got.answer s)) room))
    → s'' ≡ pasted 0 (receiver_bytes got.next) s'
    → (c ≡ called_by (net_in slots s) y)
    × ((s'' ≡ stored slots (byte_step kind (net_in slots s) y).net s) × (room' ≡ pasted 0 (flat (byte_step kind (net_in slots s) y).replies) room))
unfolding net_in
byte_is s b v room y small {r} er {got} eg {c} {s'} p es =
    let o = onward r s b v y eg (subst⁻¹ Sound er (holds lawful s b v).receiver) small p.1.0 in
    let n : net_with r s ≡ net_in slots s = ap (λ (q : Receiver). net_with q s) er in (
      p.0 ∙ called_is r s b v y eg ∙ ap (λ (n : Net Module). called_by n y) n,
      (
        es
            ∙ waits lawful s' o.bytes o.valid got.next
            ∙ ap (λ (n : Net Module). stored slots n s') o.net
            ∙ o.over (byte_step kind (net_with r s) y).net (byte_types (net_with r s) y)
            ∙ ap (λ (n : Net Module). stored slots (byte_step kind n y).net s) n,
        p.1.1
            ∙ ap (λ (l : List ℕ). pasted 0 l room) (said_is r s b v y eg)
            ∙ ap (λ (n : Net Module). pasted 0 (flat (byte_step kind n y).replies) room) n,
      ),
    )
