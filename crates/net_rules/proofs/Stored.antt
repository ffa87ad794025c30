-- A record as its head and its slots; a network written into a record, there and back. Assumes nothing.
use mathlib.Core.Path.{◌≡◌, sym, ap, ap₂, subst⁻¹, ◌∙◌}
use mathlib.Core.List.{List, [], ◌∷◌, ◌++◌}
use mathlib.Core.Bool.{true}
use Prim.Native.Nat.{ℕ, ◌+◌, ◌*◌, ◌<◌, ◌≤◌}
use native.Mathlib.Omega.{arith}
use lib.ListN.{length, get_or, drop, length-append, length-drop, take-append-drop}
use lib.Seq.{drop-cons, append_snoc, drop_at, get_or_at}
use Rattle.base_layout.specs.Bytes.{pasted, Bytes}
use Rattle.line_receiver.specs.declared.Receiver.{Receiver}
use Rattle.module_rules.specs.Slots.{Slots, slot_size, Lawful}
use Rattle.chain_rules.specs.Chain.{Net}
use Rattle.net_rules.specs.Record.{count_at, slots_at, record_size, receiver_in, receiver_bytes, ok_receiver, modules_in, ok_slots, net_in, put_modules, stored, valid, chain_most}
use Rattle.net_rules.specs.Promises.{SoundNet, Holds, There, Back}
use Rattle.base_layout.proofs.Pasted.{pasted-start}
use Rattle.base_layout.proofs.Laws.{bytes_drop, bytes_append, bytes_one}
use Rattle.net_rules.proofs.Slots.{put_slots, SameSizes, length-modules, put_is, length_put, put_twice, bytes_put, slots-back, slots_there, slots_fit}
use Rattle.net_rules.proofs.Head.{length-receiver, receiver_there, receiver-sound, receiver-back, receiver_ok, bytes_receiver}
use Rattle.net_rules.proofs.Valid.{Valid, valid_is, is_valid}

-- what stands before the slots: a receiver and a count
unfoldable pub front : Receiver → ℕ → List ℕ
front r c = receiver_bytes r ++ c ∷ []

pub length_front : (r : Receiver) (c : ℕ) → length (front r c) ≡ slots_at
unfolding front
length_front r c = length-append (receiver_bytes r) (c ∷ []) ∙ ap (λ (n : ℕ). n + 1) (length-receiver r)

-- a record's bytes from its count on
from_count : (s : List ℕ) → slots_at ≤ length s → drop count_at s ≡ get_or s count_at 0 ∷ drop slots_at s
from_count s h = drop-cons s count_at 0 (omega arith)

-- a record with another receiver
pub with_is : (r : Receiver) (s : List ℕ) → slots_at ≤ length s → pasted 0 (receiver_bytes r) s ≡ front r (get_or s count_at 0) ++ drop slots_at s
unfolding front
with_is r s h =
    pasted-start (receiver_bytes r) s ∙ ap (λ (n : ℕ). receiver_bytes r ++ drop n s) (length-receiver r)
    ∙ ap (λ (l : List ℕ). receiver_bytes r ++ l) (from_count s h)
    ∙ sym (append_snoc (receiver_bytes r) (get_or s count_at 0) (drop slots_at s))

-- a valid record with its own
pub whole_is : (s : List ℕ) → slots_at ≤ length s → Bytes s → ok_receiver s ≡ true → s ≡ front (receiver_in s) (get_or s count_at 0) ++ drop slots_at s
unfolding front
whole_is s h b v =
    sym (take-append-drop count_at s) ∙ ap₂ (λ (x y : List ℕ). x ++ y) (sym (receiver_there s (omega arith) b v)) (from_count s h)
    ∙ sym (append_snoc (receiver_bytes (receiver_in s)) (get_or s count_at 0) (drop slots_at s))

-- the parts of a record that is written out
front_count : (r : Receiver) (c : ℕ) (t : List ℕ) → get_or (front r c ++ t) count_at 0 ≡ c
unfolding front
front_count r c t =
    ap (λ (l : List ℕ). get_or l count_at 0) (append_snoc (receiver_bytes r) c t) ∙ get_or_at (receiver_bytes r) c t 0 count_at (length-receiver r)

front_slots : (r : Receiver) (c : ℕ) (t : List ℕ) → drop slots_at (front r c ++ t) ≡ t
front_slots r c t = drop_at (front r c) t slots_at (length_front r c)

front_receiver : (r : Receiver) (c : ℕ) (t : List ℕ) → front r c ++ t ≡ receiver_bytes r ++ c ∷ t
unfolding front
front_receiver r c t = append_snoc (receiver_bytes r) c t

bytes_front : (r : Receiver) (c : ℕ) → Bytes (receiver_bytes r) → c < 256 → Bytes (front r c)
unfolding front
bytes_front r c b h = bytes_append (receiver_bytes r) (c ∷ []) b (bytes_one c h)

module _ {M : Type 0} {L : Slots M} (law : Lawful L) where
  -- a network written into a record
  pub stored_is : (r : Receiver) (ms : List M) (s : List ℕ) → length s ≡ record_size → length ms ≤ chain_most
      → stored L (record { receiver = r; modules = ms }) s ≡ front r (length ms) ++ put_slots L ms (drop slots_at s)
  unfolding stored front
  stored_is r ms s e h =
      ap (λ (l : List ℕ). put_modules L ms slots_at l)
      (pasted-start (front r (length ms)) s ∙ ap (λ (n : ℕ). front r (length ms) ++ drop n s) (length_front r (length ms)))
      ∙ put_is law ms slots_at (front r (length ms)) (drop slots_at s) (length_front r (length ms)) (omega (arith, length-drop slots_at s))

  -- as many modules as there were
  pub stored_again : (r : Receiver) (ms : List M) (s : List ℕ) → Valid L s → length ms ≡ get_or s count_at 0
      → front r (get_or s count_at 0) ++ put_slots L ms (drop slots_at s) ≡ stored L (record { receiver = r; modules = ms }) s
  stored_again r ms s v e =
      let m = v.most in
      ap (λ (c : ℕ). front r c ++ put_slots L ms (drop slots_at s)) (sym e) ∙ sym (stored_is r ms s v.size (omega arith))

  module _ (s : List ℕ) (b : Bytes s) (v : Valid L s) where
    -- the slots of a valid record are long enough for its count
    pub slots-long : slot_size * get_or s count_at 0 ≤ length (drop slots_at s)
    slots-long = let z = v.size in let m = v.most in omega (arith, length-drop slots_at s)

    pub modules-there : put_slots L (modules_in L (get_or s count_at 0) (drop slots_at s)) (drop slots_at s) ≡ drop slots_at s
    modules-there = slots_there law (get_or s count_at 0) (drop slots_at s) slots-long (bytes_drop slots_at s b) v.slots

    pub long-enough : slots_at ≤ length s
    long-enough = let z = v.size in omega arith

  pub holds : Holds L
  unfolding net_in
  holds s b v =
      let w = valid_is L s v in
      let n = length-modules L (get_or s count_at 0) (drop slots_at s) in
      let p = w.some in
      let q = w.most in
      record {
        receiver = receiver-sound s b w.receiver;
        some = omega arith;
        most = omega arith;
        each = slots_fit law (get_or s count_at 0) (drop slots_at s) (slots-long s b w) (bytes_drop slots_at s b) w.slots;
      }

  pub there : There L
  unfolding net_in
  there s b v =
      let w = valid_is L s v in
      let t : List ℕ = drop slots_at s in
      let ms : List M = modules_in L (get_or s count_at 0) t in
      sym (stored_again (receiver_in s) ms s w (length-modules L (get_or s count_at 0) t))
      ∙ ap (λ (l : List ℕ). front (receiver_in s) (get_or s count_at 0) ++ l) (modules-there s b w)
      ∙ sym (whole_is s (long-enough s b w) b w.receiver)

  -- of a record that is written out
  module _ (r : Receiver) (ms : List M) (t : List ℕ) (h : SoundNet L (record { receiver = r; modules = ms })) (l : length t + slots_at ≡ record_size) (b : Bytes t) where
    abbrev out : List ℕ
    out = front r (length ms) ++ put_slots L ms t

    long : slot_size * length ms ≤ length t
    long = let m = h.most in omega arith

    out-length : length out ≡ record_size
    out-length = omega (arith, length-append (front r (length ms)) (put_slots L ms t), length_front r (length ms), length_put law ms t long)

    out-bytes : Bytes out
    out-bytes =
        let m = h.most in
        bytes_append (front r (length ms)) (put_slots L ms t) (bytes_front r (length ms) (bytes_receiver r h.receiver) (omega arith))
        (bytes_put law ms t h.each b)

    out-count : get_or out count_at 0 ≡ length ms
    out-count = front_count r (length ms) (put_slots L ms t)

    out-slots : drop slots_at out ≡ put_slots L ms t
    out-slots = front_slots r (length ms) (put_slots L ms t)

    out-net : net_in L out ≡ record { receiver = r; modules = ms }
    unfolding net_in
    out-net =
        ap₂ (λ (u : Receiver) (w : List M). record { receiver = u; modules = w })
        (ap receiver_in (front_receiver r (length ms) (put_slots L ms t)) ∙ receiver-back r (length ms ∷ put_slots L ms t) h.receiver)
        (ap₂ (λ (k : ℕ) (u : List ℕ). modules_in L k u) out-count out-slots ∙ (slots-back law ms t long h.each).0)

    out-valid : valid L out ≡ true
    out-valid =
        let p = h.some in
        let q = h.most in
        let c = out-count in
        is_valid L out (record {
          size = out-length;
          some = omega arith;
          most = omega arith;
          receiver = ap ok_receiver (front_receiver r (length ms) (put_slots L ms t)) ∙ receiver_ok r (length ms ∷ put_slots L ms t) h.receiver;
          slots = ap₂ (λ (k : ℕ) (u : List ℕ). ok_slots L k u) out-count out-slots ∙ (slots-back law ms t long h.each).1;
        })

  pub back : Back L
  back n s h e b =
      let t : List ℕ = drop slots_at s in
      let l : length t + slots_at ≡ record_size = omega (arith, length-drop slots_at s) in
      let c = bytes_drop slots_at s b in
      let q = stored_is n.receiver n.modules s e h.most in (
        ap (net_in L) q ∙ out-net n.receiver n.modules t h l c,
        ap (valid L) q ∙ out-valid n.receiver n.modules t h l c,
        subst⁻¹ Bytes q (out-bytes n.receiver n.modules t h l c),
        ap length q ∙ out-length n.receiver n.modules t h l c,
      )

  -- a network written over another of the same sizes leaves nothing of it
  pub stored_twice : (n k : Net M) (s : List ℕ) → length s ≡ record_size → length n.modules ≤ chain_most → length k.modules ≤ chain_most
      → SameSizes L n.modules k.modules → stored L k (stored L n s) ≡ stored L k s
  stored_twice n k s e h g z =
      let t : List ℕ = drop slots_at s in
      let long : slot_size * length n.modules ≤ length t = omega (arith, length-drop slots_at s) in
      let w : stored L n s ≡ front n.receiver (length n.modules) ++ put_slots L n.modules t = stored_is n.receiver n.modules s e h in
      let size : length (stored L n s) ≡ record_size =
      ap length w
      ∙ length-append (front n.receiver (length n.modules)) (put_slots L n.modules t)
      ∙ ap₂ ◌+◌ (length_front n.receiver (length n.modules)) (length_put law n.modules t long)
      ∙ whole-size in
      stored_is k.receiver k.modules (stored L n s) size g
      ∙ ap (λ (l : List ℕ). front k.receiver (length k.modules) ++ put_slots L k.modules l)
      (ap (drop slots_at) w ∙ front_slots n.receiver (length n.modules) (put_slots L n.modules t))
      ∙ ap (λ (l : List ℕ). front k.receiver (length k.modules) ++ l) (put_twice law n.modules k.modules t long z)
      ∙ sym (stored_is k.receiver k.modules s e g)
    where
      whole-size : slots_at + length (drop slots_at s) ≡ record_size
      whole-size = omega (arith, length-drop slots_at s)
