-- `net_traffic::bytes` meets its contract. Assumes nothing.
use mathlib.Core.Path.{◌≡◌, ap, ◌∙◌}
use mathlib.Core.List.{List, [], ◌∷◌, ◌++◌}
use Prim.Native.Nat.{ℕ, ◌+◌, ◌<◌}
use native.Mathlib.Omega.{arith}
use borrow.Author.Rules.{rules}
use lib.Dec.{eqb}
use lib.ListN.{length, get_or, drop, length-append}
use Rattle.std.proofs.Common.{Iter}
use Rattle.std.specs.declared.iter.Zip.{Zip}
use Rattle.std.specs.Slice.Iter.{iter_rest}
use Rattle.std.specs.Iterator.Adapters.{zip_first, zip_second}
use Rattle.std.proofs.lemmas.Slice.Zip.{zip_turn, zip_end}
use Rattle.line_receiver.specs.declared.Receiver.{Receiver}
use Rattle.line_receiver.specs.Frames.{Byte}
use Rattle.chain_rules.specs.Chain.{Outcome, taking}
use Rattle.types_rules.specs.Types.{Module, kind, slots}
use Rattle.net_rules.specs.Record.{net_in}
use Rattle.net_rules.specs.Calls.{byte_of, bytes_of}
use Rattle.net_rules.proofs.Valid.{valid_is}
use Rattle.net_rules.proofs.Buffer.{Midway, onto, set_out, quiet, room_enough, within, round, set-down}
use Rattle.net_traffic.proofs.bytes.Goals as goal
use Rattle.net_traffic.proofs.bytes.Goals.{After-take-got}

-- the byte at place i comes, and those from place j on are still to be taken
turned : {whole : Outcome Module} {s₀ room₀ : List ℕ} (xs ms : List ℕ) (i j v m : ℕ) {r : Receiver} {s room : List ℕ} {w : ℕ}
    → v ≡ get_or xs i 0 → m ≡ get_or ms i 0 → j ≡ i + 1 → i < length xs → length xs ≡ length ms
    → Midway whole s₀ room₀ (bytes_of (drop i xs) (drop i ms)) r s room w
    → Midway whole s₀ room₀ (byte_of v (eqb m 1) ∷ bytes_of (drop j xs) (drop j ms)) r s room w
turned xs ms i j v m ev em ej h e k = rw (ev, em, ej) (onto xs ms i h e k)

-- the loop goes over the bytes and their marks
over_bytes : {i : Iter ℕ} {z y : Zip (Iter ℕ) (Iter ℕ)} {xs : List ℕ} → y ≡ z → zip_first z ≡ i → iter_rest i ≡ xs → iter_rest (zip_first y) ≡ xs
over_bytes p q e = rw p (ap iter_rest q ∙ e)

over_marks : {z y : Zip (Iter ℕ) (Iter ℕ)} {ms : List ℕ} → y ≡ z → iter_rest (zip_second z) ≡ ms → iter_rest (zip_second y) ≡ ms
over_marks p e = rw p e

-- an iteration's byte, from the record as it is
module _ (c : After-take-got) where
  abbrev byte_now : Byte
  byte_now = byte_of c.in-Some.value.now (eqb c.in-Some.mark.now 1)

  abbrev later : ℕ
  later = length (c.loop-value.yielded ++ (c.in-Some.value, c.in-Some.mark) ∷ [])

  turn : (small : byte_now.value < 256) × Midway (taking kind (bytes_of c.args.values.now c.args.marks.now) (net_in slots c.args.net.now)) c.args.net.now c.args.room.now
      (byte_now ∷ bytes_of (drop later c.args.values.now) (drop later c.args.marks.now)) c.loop-value.r c.loop-value.net c.loop-value.room c.loop-value.written
  turn =
      let i : ℕ = length c.loop-value.yielded in
      let values = c.args.values.now in
      let marks = c.args.marks.now in
      let all = c.iter.ensures.rest in
      let zipped = c.zip-value-items.ensures in
      let pairs = c.into_iter-value-iterator.ensures.into_iter_gives in
      let z = zip_turn values marks c.loop-value.yielded c.into_iter-value-iterator.result c.loop-value.value-iterator c.next.new.self c.next.result (over_bytes pairs zipped.first all) (over_marks pairs zipped.second.0) c.loop-value.yielded_by (c.in-Some.value, c.in-Some.mark) c.in-Some.is c.next.ensures.steps in
      (omega (arith, z.2 0, c.type_inv.values i), turned values marks i later _ _ (z.2 0) (z.3 0) (length-append c.loop-value.yielded _) z.0 c.requires.1 c.loop-value.invariant)

pub receiver_in-r-requires : goal.receiver_in-r-requires
receiver_in-r-requires c = omega (arith, valid_is slots c.args.net.now c.requires.0)

pub loop-value-init : goal.loop-value-init
loop-value-init c =
    let a = c.args in
    set_out a.values.now a.marks.now a.net.now a.room.now c.receiver_in-r.ensures c.requires.1 (search rules) c.requires.0 c.requires.2

pub loop-value-preserved-in_default : goal.loop-value-preserved-in_default
loop-value-preserved-in_default c =
    let t = turn (goal.at.loop-value-preserved-in_default c).After-take-got in
    quiet t.1 c.take-got.ensures t.0 c.in_default.is

pub hand_on-called-requires : goal.hand_on-called-requires
hand_on-called-requires c =
    let t = turn (goal.at.hand_on-called-requires c).After-take-got in
    (t.1.valid, room_enough t.1 c.take-got.ensures c.in-Some-answer.is)

pub overflow_add-written : goal.overflow_add-written
overflow_add-written c =
    let t = turn (goal.at.overflow_add-written c).After-take-got in
    let e = c.hand_on-called.ensures in
    omega (arith, within t.1 c.take-got.ensures t.0 c.in-Some-answer.is (e.value, (e.net_after, e.room_after)), t.1.long)

pub loop-value-preserved : goal.loop-value-preserved
loop-value-preserved c =
    let t = turn (goal.at.loop-value-preserved c).After-take-got in
    let e = c.hand_on-called.ensures in
    round t.1 c.take-got.ensures t.0 c.in-Some-answer.is (e.value, (e.net_after, e.room_after))

pub put_receiver-requires : goal.put_receiver-requires
put_receiver-requires c = let l = c.loop-value in omega (arith, valid_is slots l.net l.invariant.valid)

pub returns-clause-net_after : goal.returns-clause-net_after
returns-clause-net_after c =
    let a = c.args in
    let l = c.loop-value in
    let all = c.iter.ensures.rest in
    let zipped = c.zip-value-items.ensures in
    let pairs = c.into_iter-value-iterator.ensures.into_iter_gives in
    let ended = zip_end a.values.now a.marks.now l.yielded c.into_iter-value-iterator.result l.value-iterator c.next.new.self c.next.result (over_bytes pairs zipped.first all) (over_marks pairs zipped.second.0) l.yielded_by c.in-None.is c.next.ensures.steps in
    (set-down a.values.now a.marks.now (length l.yielded) (omega (arith, ended, c.requires.1)) l.invariant c.put_receiver.ensures).1.0
