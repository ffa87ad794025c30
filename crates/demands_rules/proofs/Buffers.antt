-- Buffers are byte calls one by one, and the demands reach them. Assumes nothing.
use mathlib.Core.Path.{◌≡◌, refl, sym, ap, ap₂, subst, subst⁻¹, ◌∙◌}
use mathlib.Core.Logic.{◌⊎◌, inl, inr}
use mathlib.Core.List.{List, [], ◌∷◌, ◌++◌, map, append-nil, append_assoc}
use mathlib.Core.Bool.{Bool, true, false, cond}
use Prim.Native.Nat.{ℕ, zero, suc, ◌≤◌}
use native.Mathlib.Omega.{arith}
use lib.ListN.{length, take, replicate, length-replicate}
use lib.Dec.{eqb, leb}
use borrow.Author.Tests.{leb-true}
use Rattle.base_layout.specs.Bytes.{Bytes}
use Rattle.base_layout.specs.First.{Line, first}
use Rattle.line_receiver.specs.Frames.{Byte, values, AreBytes}
use Rattle.chain_rules.specs.Chain.{Net, Reply, Outcome, flat, replies_of, taking}
use Rattle.module_rules.specs.Rules.{with_cause}
use Rattle.servo_rules.specs.Carried.{needed}
use Rattle.types_rules.specs.Table.{servo, rules_of}
use Rattle.types_rules.specs.Types.{Module, AnySample, kind, slots}
use Rattle.net_rules.specs.Record.{room_size, net_in, stored}
use Rattle.net_rules.specs.Calls.{bytes_of, all_marks}
use Rattle.net_rules.proofs.Tests.{and-true}
use Rattle.api_rules.specs.Table.{buffer_table}
use Rattle.api_rules.specs.Calls.{unless, buffer_of, buffer_record, buffer_room}
use Rattle.api_rules.specs.Promises.{ValidRecord, Refuses, Passes}
use Rattle.api_rules.proofs.Refused.{refused, done, buffer_passes}
use Rattle.api_rules.proofs.Unchanged.{unchanged}
use Rattle.api_rules.proofs.Kept.{kept}
use Rattle.api_rules.proofs.Room.{buffer_written_lem}
use Rattle.demands_history_rules.specs.Events.{Event, sent, ticked, run, singly}
use Rattle.demands_history_rules.specs.Calls.{Call, byte, tick, AllHanded, refusals, leaves, left_by, writes, written_by, does, done_by}
use Rattle.demands_history_rules.proofs.Singly.{run-singly}
use Rattle.demands_history_rules.proofs.Calls.{passes?, call_kept}
use Rattle.demands_rules.specs.Place.{AtOf}
use Rattle.demands_rules.specs.Motion.{AtRest, LoadStarts}
use Rattle.demands_rules.specs.ServoQuestion.{NoneReady, NoLoad}
use Rattle.demands_rules.specs.Question.{fed}
use Rattle.demands_rules.specs.Buffers.{BoardCall, single, buffer, BoardHanded, board_refusals, board_leaves, board_writes, board_does, board_left, board_done, AsByteCalls, apart, all_apart, byte_calls, ByteByByte, Reaches, AnyBuffers, NeverOfAnyType, QuestionOfAnyType, CutAnywhere, OrderInBuffers, OfServo}
use Rattle.demands_rules.proofs.Calls.{any_calls}
use Rattle.demands_rules.proofs.SettingOut.{never}
use Rattle.demands_rules.proofs.EveryCall.{sets_out}
use Rattle.demands_rules.proofs.ServoQuestion.{loads}
use Rattle.demands_rules.proofs.Order.{by_calls}
use Rattle.demands_rules.proofs.OnTheLine.{fed-handed, fed-done, fed_two, question_on_the_line}

abbrev Events : Type 0
Events = List (Event (List AnySample))

-- a room that every byte call takes
abbrev spare : List ℕ
spare = replicate room_size 0

spare_long : room_size ≤ length spare
spare_long = omega (arith, length-replicate {A = ℕ} room_size 0)

-- ---- a buffer

are_bytes : (xs ms : List ℕ) → Bytes xs → AreBytes (values (bytes_of xs ms))
are_bytes [] ms b = tt
are_bytes (x ∷ xs) [] b = tt
are_bytes (x ∷ xs) (m ∷ ms) b = (b 0, are_bytes xs ms (λ i. b (suc i)))

calls_handed : (own xs ms : List ℕ) → Bytes xs → AllHanded (byte_calls own xs ms)
calls_handed own [] ms b = tt
calls_handed own (x ∷ xs) [] b = tt
calls_handed own (x ∷ xs) (m ∷ ms) b = (b 0, calls_handed own xs ms (λ i. b (suc i)))

-- the byte calls make of a record's network what the bytes, one after another, make of it
fed_makes : (own : List ℕ) (bs : List Byte) (net : List ℕ) → room_size ≤ length own → ValidRecord net → AreBytes (values bs)
    → run kind (done_by (fed own bs) net) (net_in slots net) ≡ taking kind bs (net_in slots net)
fed_makes own bs net r v h =
    let n : Net Module = net_in slots net in
    ap (λ (l : Events). run kind l n) (fed-done own bs net r v h ∙ sym (append-nil _))
    ∙ run-singly kind (sent bs ∷ []) n
    ∙ ap (λ (l : List Reply). record { net = (taking kind bs n).net; replies = l }) (append-nil (taking kind bs n).replies)

-- a good mark is 0 or 1, and the byte call is handed just that
good_mark : (m : ℕ) → m ≤ 1 → m ≡ cond (eqb m 1) 1 0
good_mark zero h = refl
good_mark (suc zero) h = refl
good_mark (suc (suc m)) h = absurd (omega arith)

calls_fed : (own xs ms : List ℕ) → all_marks ms ≡ true → byte_calls own xs ms ≡ fed own (bytes_of xs ms)
unfolding all_marks
calls_fed own [] ms g = refl
calls_fed own (x ∷ xs) [] g = refl
calls_fed own (x ∷ xs) (m ∷ ms) g =
    let p = and-true (leb m 1) (all_marks ms) g in
    ap₂ (λ (k : ℕ) (cs : List Call). byte k x own ∷ cs) (good_mark m (leb-true m 1 p.0)) (calls_fed own xs ms p.1)

pub as_byte_calls : AsByteCalls
unfolding buffer_record
as_byte_calls net bytes marks room own v b r p =
    let bs : List Byte = bytes_of bytes marks in
    let h = are_bytes bytes marks b in
    let a = any_calls net (fed own bs) v (fed-handed own bs h) in
    let e = fed_makes own bs net r v h in
    let c = calls_fed own bytes marks (buffer_passes net bytes marks room p).good in
    record {
      same_record =
          sym (done (buffer_table net bytes marks room) net (stored slots (buffer_of net bytes marks).net net) refl p)
          ∙ ap (λ (o : Outcome Module). stored slots o.net net) (sym e)
          ∙ sym a.bytes
          ∙ ap (λ (cs : List Call). left_by cs net) (sym c);
      same_replies =
          (buffer_written_lem net bytes marks room).put.begins p
          ∙ ap (λ (o : Outcome Module). flat o.replies) (sym e)
          ∙ sym a.replies
          ∙ ap (λ (cs : List Call). written_by cs net) (sym c);
      all_done = ap (λ (cs : List Call). done_by cs net) c ∙ fed-done own bs net r v h;
    }

-- ---- any calls of a board

left-append : (xs ys : List Call) (net : List ℕ) → left_by (xs ++ ys) net ≡ left_by ys (left_by xs net)
left-append [] ys net = refl
left-append (x ∷ xs) ys net = left-append xs ys (leaves net x)

written-append : (xs ys : List Call) (net : List ℕ) → written_by (xs ++ ys) net ≡ written_by xs net ++ written_by ys (left_by xs net)
written-append [] ys net = refl
written-append (x ∷ xs) ys net =
    ap (λ (l : List ℕ). writes net x ++ l) (written-append xs ys (leaves net x))
    ∙ sym (append_assoc (writes net x) (written_by xs (leaves net x)) (written_by ys (left_by xs (leaves net x))))

done-append : (xs ys : List Call) (net : List ℕ) → done_by (xs ++ ys) net ≡ done_by xs net ++ done_by ys (left_by xs net)
done-append [] ys net = refl
done-append (x ∷ xs) ys net =
    let one : Events = unless (refusals net x) [] (does (net_in slots net) x ∷ []) in
    ap (λ (l : Events). one ++ l) (done-append xs ys (leaves net x))
    ∙ sym (append_assoc one (done_by xs (leaves net x)) (done_by ys (left_by xs (leaves net x))))

handed-append : (xs ys : List Call) → AllHanded xs → AllHanded ys → AllHanded (xs ++ ys)
handed-append [] ys h g = g
handed-append (x ∷ xs) ys h g = (h.0, handed-append xs ys h.1 g)

singly-append : (xs ys : Events) → singly (xs ++ ys) ≡ singly xs ++ singly ys
singly-append [] ys = refl
singly-append (sent bs ∷ xs) ys =
    ap (λ (l : Events). map (λ (b : Byte). sent (b ∷ [])) bs ++ l) (singly-append xs ys)
    ∙ sym (append_assoc (map (λ (b : Byte). sent (b ∷ [])) bs) (singly xs) (singly ys))
singly-append (ticked x ∷ xs) ys = ap (λ (l : Events). ticked x ∷ l) (singly-append xs ys)

-- a byte and a tick are single already
single_does : (n : Net Module) (c : Call) → singly (does n c ∷ []) ≡ does n c ∷ []
single_does n (byte mark x room) = refl
single_does n (tick samples) = refl

-- one call of a board
record Single (net : List ℕ) (c : BoardCall) : Type 0 where
  handed : AllHanded (apart net c)
  kept : ValidRecord (board_leaves net c)
  left : board_leaves net c ≡ left_by (apart net c) net
  wrote : board_writes net c ≡ written_by (apart net c) net
  did : done_by (apart net c) net ≡ singly (unless (board_refusals net c) [] (board_does (net_in slots net) c ∷ []))

one_call : (net : List ℕ) (c : BoardCall) → ValidRecord net → BoardHanded c → Single net c
one_call net (single c) v h = record {
  handed = (h, tt);
  kept = call_kept net c h v;
  left = refl;
  wrote = sym (append-nil (writes net c));
  did = append-nil _ ∙ go (eqb (first (refusals net c)) 0);
}
  where
    go : (t : Bool) → cond t (does (net_in slots net) c ∷ []) [] ≡ singly (cond t (does (net_in slots net) c ∷ []) [])
    go true = sym (single_does (net_in slots net) c)
    go false = refl
one_call net (buffer bytes marks room) v h = at (passes? (buffer_table net bytes marks room))
  where
    ls : List Line
    ls = buffer_table net bytes marks room

    bs : List Byte
    bs = bytes_of bytes marks

    at : Passes (buffer_table net bytes marks room) ⊎ Refuses (buffer_table net bytes marks room) → Single net (buffer bytes marks room)
    at (inl p) =
        let o = as_byte_calls net bytes marks room spare v h spare_long p in
        let e = done ls [] (byte_calls spare bytes marks) refl p in
        record {
          handed = subst AllHanded e (calls_handed spare bytes marks h);
          kept = kept.buffer net bytes marks room h v;
          left = o.same_record ∙ ap (λ (cs : List Call). left_by cs net) e;
          wrote = o.same_replies ∙ ap (λ (cs : List Call). written_by cs net) e;
          did =
              ap (λ (cs : List Call). done_by cs net) (sym e)
              ∙ o.all_done
              ∙ sym (append-nil _)
              ∙ ap singly (done ls [] (sent bs ∷ []) refl p);
        }
    at (inr r) =
        let u = unchanged.buffer net bytes marks room r in
        let e = refused ls [] (byte_calls spare bytes marks) refl r in
        record {
          handed = subst AllHanded e tt;
          kept = kept.buffer net bytes marks room h v;
          left = u.net_kept ∙ ap (λ (cs : List Call). left_by cs net) e;
          wrote = ap (λ (k : ℕ). take k (buffer_room net bytes marks room)) u.written ∙ ap (λ (cs : List Call). written_by cs net) e;
          did = ap (λ (cs : List Call). done_by cs net) (sym e) ∙ ap singly (refused ls [] (sent bs ∷ []) refl r);
        }

pub reaches : Reaches
reaches net [] v h = record { handed = tt; same_record = refl; same_replies = refl; same_done = refl }
reaches net (c ∷ cs) v h =
    let s = one_call net c v h.0 in
    let ih = reaches (board_leaves net c) cs s.kept h.1 in
    let xs : List Call = apart net c in
    let ys : List Call = all_apart cs (board_leaves net c) in
    let now : Events = unless (board_refusals net c) [] (board_does (net_in slots net) c ∷ []) in
    record {
      handed = handed-append xs ys s.handed ih.handed;
      same_record = ih.same_record ∙ ap (left_by ys) s.left ∙ sym (left-append xs ys net);
      same_replies =
          ap₂ (λ (a b : List ℕ). a ++ b) s.wrote (ih.same_replies ∙ ap (written_by ys) s.left)
          ∙ sym (written-append xs ys net);
      same_done =
          done-append xs ys net
          ∙ ap₂ (λ (a b : Events). a ++ b) s.did (ap (done_by ys) (sym s.left) ∙ ih.same_done)
          ∙ sym (singly-append now (board_done cs (board_leaves net c)));
    }

-- ---- the demands

-- what a board's calls make of a record's network
board_makes : (net : List ℕ) (cs : List BoardCall) → ByteByByte net cs
    → run kind (done_by (all_apart cs net) net) (net_in slots net) ≡ run kind (board_done cs net) (net_in slots net)
board_makes net cs r = ap (λ (l : Events). run kind l (net_in slots net)) r.same_done ∙ run-singly kind (board_done cs net) (net_in slots net)

pub any_buffers : AnyBuffers
any_buffers net cs v h =
    let r = reaches net cs v h in
    let a = any_calls net (all_apart cs net) v r.handed in
    let e = board_makes net cs r in
    record {
      valid = subst⁻¹ ValidRecord r.same_record a.valid;
      network = ap (net_in slots) r.same_record ∙ a.network ∙ ap (λ (o : Outcome Module). o.net) e;
      bytes = r.same_record ∙ a.bytes ∙ ap (λ (o : Outcome Module). stored slots o.net net) e;
      replies = r.same_replies ∙ a.replies ∙ ap (λ (o : Outcome Module). flat o.replies) e;
    }

pub never_of_any_type : NeverOfAnyType
never_of_any_type t Rests Starts o net cs i m k v h e q rests moved =
    let r = reaches net cs v h in
    never t Rests Starts o net (all_apart cs net) i m k v r.handed e (subst (λ (s : List ℕ). AtOf t s i k) r.same_record q) rests moved

pub question_of_any_type : QuestionOfAnyType
question_of_any_type t needed NoneReady NoLoad o net cs i m load_bytes start_bytes load start v h b e z here unready reads_load c missed reads_start is_start touches =
    let bs : List Byte = load_bytes ++ start_bytes in
    let n : Net Module = net_in slots net in
    let same : run kind (board_done cs net) n ≡ run kind (done_by (fed spare bs) net) n =
    sym (run-singly kind (board_done cs net) n) ∙ ap (λ (l : Events). run kind l n) (e ∙ sym (fed_two spare load_bytes start_bytes net spare_long v b)) in
    let left : board_left cs net ≡ left_by (fed spare bs) net =
    (any_buffers net cs v h).bytes
    ∙ ap (λ (o : Outcome Module). stored slots o.net net) same
    ∙ sym (any_calls net (fed spare bs) v (fed-handed spare bs b)).bytes in
    subst⁻¹ (λ (s : List ℕ). AtOf t s i (with_cause (rules_of t) 3 m)) left
    (question_on_the_line t needed NoneReady NoLoad o net spare i m load_bytes start_bytes load start v spare_long b z here unready reads_load c missed reads_start is_start touches)

pub cut_anywhere : CutAnywhere
cut_anywhere net cs₁ cs₂ v h₁ h₂ e =
    let n : Net Module = net_in slots net in
    let same : run kind (board_done cs₁ net) n ≡ run kind (board_done cs₂ net) n =
    sym (run-singly kind (board_done cs₁ net) n) ∙ ap (λ (l : Events). run kind l n) e ∙ run-singly kind (board_done cs₂ net) n in
    let a = any_buffers net cs₁ v h₁ in
    let b = any_buffers net cs₂ v h₂ in (
      a.bytes ∙ ap (λ (o : Outcome Module). stored slots o.net net) same ∙ sym b.bytes,
      a.replies ∙ ap (λ (o : Outcome Module). flat o.replies) same ∙ sym b.replies,
    )

pub order_in_buffers : OrderInBuffers
order_in_buffers net cs₁ cs₂ h₁ h₂ v g₁ g₂ z o₁ o₂ e₁ e₂ same =
    let a = reaches net cs₁ v g₁ in
    let b = reaches net cs₂ v g₂ in
    let q = by_calls net (all_apart cs₁ net) (all_apart cs₂ net) h₁ h₂ v a.handed b.handed z o₁ o₂ (a.same_done ∙ e₁) (b.same_done ∙ e₂) same in (
      a.same_record ∙ q.0 ∙ sym b.same_record,
      λ i.
          ap (λ (o : Outcome Module). replies_of i o.replies) (sym (board_makes net cs₁ a))
          ∙ q.1 i
          ∙ ap (λ (o : Outcome Module). replies_of i o.replies) (board_makes net cs₂ b),
    )

pub of_servo : OfServo
of_servo = record {
  never = never_of_any_type servo AtRest LoadStarts sets_out;
  question = question_of_any_type servo needed NoneReady NoLoad loads;
}
