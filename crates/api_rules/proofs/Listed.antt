-- A record is valid exactly when it satisfies the written list. Assumes nothing.
use mathlib.Core.Path.{◌≡◌, refl, sym, ap, ap₂, ◌∙◌}
use mathlib.Core.List.{List}
use mathlib.Core.Bool.{Bool, true, false, cond, ◌&&◌}
use Prim.Native.Nat.{ℕ, zero, suc, ◌+◌, ◌*◌, ◌/◌, ◌<◌, ◌≤◌}
use native.Mathlib.Nat.{mul-suc}
use native.Mathlib.Omega.{arith}
use lib.ListN.{get_or, take, drop}
use lib.Seq.{drop-drop}
use lib.Dec.{eqb, leb}
use borrow.Author.Tests.{eqb-true, eq-eqb, leb-true, leb-false, le-leb}
use Rattle.base_layout.specs.Bytes.{read_at, Bytes}
use Rattle.base_layout.proofs.Laws.{bytes_take, bytes_drop}
use Rattle.module_rules.specs.Slots.{slot_size}
use Rattle.types_rules.specs.Types.{slots, type_of_slot}
use Rattle.types_rules.proofs.Owed as Owed
use Rattle.net_rules.specs.Record.{receiver_size, fill_at, command_at, marked_at, count_at, slots_at, blank, ok_receiver, ok_slots, valid}
use Rattle.net_rules.proofs.Tests.{and-true}
use Rattle.net_rules.proofs.Head.{told}
use Rattle.net_rules.proofs.Valid.{valid_is, is_valid}
use Rattle.api_rules.specs.Promises.{Satisfies, Listed}

-- bytes that are read as 0
blank_read : (k at : ℕ) (s : List ℕ) → blank (read_at k at s) ≡ true → (i : ℕ) → at ≤ i → i < at + k → get_or s i 0 ≡ 0
blank_read zero at s e i h l = absurd (omega arith)
blank_read (suc k) at s e i h l =
    let p = and-true (eqb (get_or s at 0) 0) (blank (read_at k (at + 1) s)) e in
    go (leb (at + 1) i) refl (eqb-true _ _ p.0) (λ n. blank_read k (at + 1) s p.1 i n (omega arith))
  where
    go : (t : Bool) → leb (at + 1) i ≡ t → get_or s at 0 ≡ 0 → (at + 1 ≤ i → get_or s i 0 ≡ 0) → get_or s i 0 ≡ 0
    go true q z rest = rest (leb-true (at + 1) i q)
    go false q z rest = let e : i ≡ at = omega (arith, leb-false (at + 1) i q) in ap (λ (j : ℕ). get_or s j 0) e ∙ z

read_blank : (k at : ℕ) (s : List ℕ) → ((i : ℕ) → at ≤ i → i < at + k → get_or s i 0 ≡ 0) → blank (read_at k at s) ≡ true
read_blank zero at s h = refl
read_blank (suc k) at s h =
    ap₂ ◌&&◌ (eq-eqb _ _ (h at (omega arith) (omega arith))) (read_blank k (at + 1) s (λ i a b. h i (omega arith) (omega arith)))

-- the receiver's lines
receiver_ok : (s : List ℕ) → Satisfies s → ok_receiver s ≡ true
unfolding ok_receiver
receiver_ok s h = go (eqb (get_or s fill_at 0) 0) refl
  where
    go : (t : Bool) → eqb (get_or s fill_at 0) 0 ≡ t
        → cond t (blank (read_at receiver_size 0 s)) (leb (get_or s fill_at 0) (3 + get_or s command_at 0 / 16) && leb (get_or s marked_at 0) 1) ≡ true
    go true e = read_blank receiver_size 0 s (λ i a b. h.idle (eqb-true _ _ e) i (omega arith))
    go false e = ap₂ ◌&&◌ (le-leb _ _ h.within) (le-leb _ _ h.mark)

idle-blank : (s : List ℕ) → ok_receiver s ≡ true → get_or s fill_at 0 ≡ 0 → (i : ℕ) → i < receiver_size → get_or s i 0 ≡ 0
unfolding ok_receiver
idle-blank s v z i h =
    let q : blank (read_at receiver_size 0 s) ≡ true =
    ap (λ (t : Bool). cond t (blank (read_at receiver_size 0 s)) (leb (get_or s fill_at 0) (3 + get_or s command_at 0 / 16) && leb (get_or s marked_at 0) 1)) (sym (eq-eqb (get_or s fill_at 0) 0 z)) ∙ v in
    blank_read receiver_size 0 s q i (omega arith) (omega arith)

-- the slots' lines
next_slot : (i : ℕ) (t : List ℕ) → drop (slot_size * i) (drop slot_size t) ≡ drop (slot_size * suc i) t
next_slot i t = let e : slot_size + slot_size * i ≡ slot_size * suc i = omega (arith, mul-suc slot_size i) in drop-drop (slot_size * i) slot_size t ∙ ap (λ (n : ℕ). drop n t) e

each_ok : (k : ℕ) (t : List ℕ) → ok_slots slots k t ≡ true → (i : ℕ) → i < k → slots.ok (take slot_size (drop (slot_size * i) t)) ≡ true
unfolding ok_slots
each_ok zero t v i h = absurd (omega arith)
each_ok (suc k) t v zero h = (and-true (slots.ok (take slot_size t)) (ok_slots slots k (drop slot_size t)) v).0
each_ok (suc k) t v (suc i) h =
    ap (λ (l : List ℕ). slots.ok (take slot_size l)) (sym (next_slot i t))
    ∙ each_ok k (drop slot_size t) (and-true (slots.ok (take slot_size t)) (ok_slots slots k (drop slot_size t)) v).1 i (omega arith)

ok_each : (k : ℕ) (t : List ℕ) → ((i : ℕ) → i < k → slots.ok (take slot_size (drop (slot_size * i) t)) ≡ true) → ok_slots slots k t ≡ true
unfolding ok_slots
ok_each zero t h = refl
ok_each (suc k) t h =
    ap₂ ◌&&◌ (h 0 (omega arith))
    (ok_each k (drop slot_size t) (λ i l. ap (λ (x : List ℕ). slots.ok (take slot_size x)) (next_slot i t) ∙ h (suc i) (omega arith)))

at_slot : (i : ℕ) (s : List ℕ) → drop (slot_size * i) (drop slots_at s) ≡ drop (slots_at + slot_size * i) s
at_slot i s = drop-drop (slot_size * i) slots_at s

pub listed : Listed
listed s b = (there, back)
  where
    bytes-at : (i : ℕ) → Bytes (take slot_size (drop (slots_at + slot_size * i) s))
    bytes-at i = bytes_take slot_size (drop (slots_at + slot_size * i) s) (bytes_drop (slots_at + slot_size * i) s b)

    there : valid slots s ≡ true → Satisfies s
    there v =
        let w = valid_is slots s v in
        let t = told s w.receiver in
        record {
          size = w.size;
          some = w.some;
          most = w.most;
          idle = idle-blank s w.receiver;
          within = t.within;
          mark = t.flag;
          each = λ i h.
              (Owed.listed (type_of_slot (take slot_size (drop (slots_at + slot_size * i) s))) (take slot_size (drop (slots_at + slot_size * i) s)) (bytes-at i)).0
              (ap (λ (l : List ℕ). slots.ok (take slot_size l)) (sym (at_slot i s)) ∙ each_ok (get_or s count_at 0) (drop slots_at s) w.slots i h);
        }

    back : Satisfies s → valid slots s ≡ true
    back h =
        is_valid slots s (record {
          size = h.size;
          some = h.some;
          most = h.most;
          receiver = receiver_ok s h;
          slots = ok_each (get_or s count_at 0) (drop slots_at s)
              (λ i l.
              ap (λ (x : List ℕ). slots.ok (take slot_size x)) (at_slot i s)
              ∙ (Owed.listed (type_of_slot (take slot_size (drop (slots_at + slot_size * i) s))) (take slot_size (drop (slots_at + slot_size * i) s)) (bytes-at i)).1 (h.each i l));
        })
