-- What a record leaves: the slices hold what they must, the stage is the record's, and the text is short. Assumes nothing.
use mathlib.Core.Path.{◌≡◌, refl, sym, ap, ap₂, subst, ◌∙◌}
use mathlib.Core.List.{List, [], ◌∷◌, ◌++◌, map}
use mathlib.Core.Bool.{Bool, true, false, cond, ◌&&◌}
use mathlib.Core.Option.{some, none}
use Prim.Native.Nat.{ℕ, ◌*◌, ◌^◌, ◌<◌, ◌≤◌}
use native.Mathlib.Omega.{arith}
use lib.ListN.{length, get_or, take, length-append, length-map}
use lib.Seq.{length-take-le}
use lib.Dec.{eqb, leb, ltb}
use borrow.Author.Tests.{ltb-true, ltb-false, eqb-true, eqb-false}
use Rattle.base_layout.specs.Bytes.{pasted, Bytes}
use Rattle.base_layout.proofs.Pasted.{length-pasted, read_pasted}
use Rattle.chain_rules.specs.Chain.{Net, byte_step}
use Rattle.chain_rules.proofs.Timing.{length-timed}
use Rattle.chain_rules.proofs.Along.{length-stepped}
use Rattle.inout_rules.specs.Answers as Inouts
use Rattle.servo_rules.specs.Answers as Servos
use Rattle.stepper_rules.specs.Answers as Steppers
use Rattle.types_rules.specs.Types.{Module, AnySample, kind, slots, known, powered, in_range, Good}
use Rattle.types_rules.proofs.Laws.{lawful}
use Rattle.types_rules.proofs.Kept.{preserves}
use Rattle.net_rules.specs.Record.{net_in, valid, chain_most}
use Rattle.net_rules.specs.Calls.{set_up, all_known, list_size, all_in_range, samples_for, fresh, tick_step, byte_of, of_type}
use Rattle.net_rules.specs.Promises.{SoundNet}
use Rattle.net_rules.proofs.Stored.{holds, there, back}
use Rattle.net_rules.proofs.Calls.{type_beyond}
use Rattle.net_rules.proofs.Kept.{kept_by_byte, kept_by_tick}
use Rattle.net_rules.proofs.Listed.{samples_good}
use Rattle.net_rules.proofs.Powered as Powered
use Rattle.net_rules.proofs.Tests.{and-true}
use Rattle.replay_file.specs.declared.Place.{Place}
use Rattle.replay_file.specs.Records.{gathering, running, Effect, goes, bad, body_length, module_record, line_byte, unmeasured, measured, sample_record, net_record, net_of, record_step}
use Rattle.replay_file.specs.Turns.{start, stage_in, Fair, Held, place_after, turned, types_after, samples_after, net_after, text_after}
use Rattle.replay_print.proofs.Text.{bad_length, offset_short}
use Rattle.replay_file.proofs.Spoken.{spoken_short}
use Rattle.replay_file.specs.Promises.{Lent}
use Rattle.replay_file.proofs.Gathered.{never, known_more}
use Rattle.replay_file.proofs.Measured.{unmeasured_fair, put_fair, ten_long, ten_bytes}
use Rattle.replay_print.specs.Text.{text_size}

-- a choice, by its test
pub by_cond : {A : Type 0} (P : A → Type 0) (b : Bool) (x y : A) → (b ≡ true → P x) → (b ≡ false → P y) → P (cond b x y)
by_cond {A} P b x y f g = go b refl
  where
    go : (u : Bool) → b ≡ u → P (cond u x y)
    go true e = f e
    go false e = g e

-- a place that has a module of some type is below the chain length
pub place_below : (s : List ℕ) (place t : ℕ) → of_type t (net_in slots s) place ≡ true → place < length (net_in slots s).modules
place_below s place t h = go (ltb place (length (net_in slots s).modules)) refl
  where
    go : (u : Bool) → ltb place (length (net_in slots s).modules) ≡ u → place < length (net_in slots s).modules
    go true e = ltb-true place (length (net_in slots s).modules) e
    go false e = let n = ltb-false place (length (net_in slots s).modules) e in never (type_beyond s place t (λ l. omega arith) ∙ h)

-- the stage after a record is the record's
abbrev pub Leads : Place → List ℕ → List ℕ → List ℕ → ℕ → Effect → Type 0
Leads at types samples net size bad = Unit {0}
Leads at types samples net size (goes s text) = stage_in (place_after size s at) (types_after (goes s text) types) (samples_after (goes s text) samples) (net_after (goes s text) net) ≡ s

pub record Fine (at : Place) (types samples net : List ℕ) (size : ℕ) (e : Effect) : Type 0 where
  pub held : Held (turned size e at).next (types_after e types) (samples_after e samples) (net_after e net)
  pub leads : Leads at types samples net size e
  pub short : at.offset < 2 ^ 64 → length (text_after e at.offset) ≤ text_size

module _ (at : Place) (types samples net : List ℕ) (h : Held at types samples net) (size : ℕ) where
  pub fine_bad : Fine at types samples net size bad
  unfolding turned types_after samples_after net_after text_after
  fine_bad = record { held = h; leads = tt; short = λ small. omega (arith, bad_length at.offset, offset_short at.offset small) }

  -- a list of samples, put at the slice's start
  list_put : (k : ℕ) (l : List ℕ) → k ≤ chain_most → Fair k l → (take (list_size k) (pasted 0 l samples) ≡ l) × (length (pasted 0 l samples) ≡ list_size chain_most)
  list_put k l m f =
      let r = h.room in
      let n = f.long in
      (ap (λ (j : ℕ). take j (pasted 0 l samples)) (sym n) ∙ read_pasted 0 l samples (omega arith), length-pasted 0 l samples (omega arith) ∙ r)

  -- a network that is sound, after a record that prints little, and the list of samples then
  fine_running : (n : Net Module) (l text : List ℕ) → 0 < at.count → SoundNet slots n → length n.modules ≡ at.count → Fair at.count l → length text ≤ text_size
      → Fine at types samples net size (goes (running n l) text)
  unfolding turned types_after samples_after net_after text_after
  fine_running n l text c s e f small =
      let k = back lawful n net s h.long h.bytes in
      let p = list_put at.count l h.most f in
      record {
        held = record {
          size = h.size;
          most = h.most;
          known = h.known;
          room = p.1;
          fair = subst (Fair at.count) (sym p.0) f;
          blank = λ z. never (sym z);
          long = k.3;
          bytes = k.2;
          sound = λ q. k.1;
          chain = λ q. ap (λ (n : Net Module). length n.modules) k.0 ∙ e;
          newly = λ z. never (sym z);
          some = λ z. c;
        };
        leads = ap₂ running k.0 p.0;
        short = λ z. small;
      }

  -- one more module
  fine_gathering : (ts : List ℕ) → 0 < length ts → length ts ≤ chain_most → all_known ts ≡ true → Fine at types samples net size (goes (gathering ts) [])
  unfolding turned types_after samples_after net_after text_after fresh
  fine_gathering ts p l a =
      let z = h.size in
      let n = length-map ts powered in
      let w = Powered.powered lawful (map powered ts) (omega arith) (omega arith) (Powered.powered-each ts) in
      let r : take (length ts) (pasted 0 ts types) ≡ ts = read_pasted 0 ts types (omega arith) in
      let f = unmeasured_fair ts a in
      let q = list_put (length ts) (unmeasured ts) l f in
      record {
        held = record {
          size = length-pasted 0 ts types (omega arith) ∙ h.size;
          most = l;
          known = ap all_known r ∙ a;
          room = q.1;
          fair = subst (Fair (length ts)) (sym q.0) f;
          blank = λ e. q.0 ∙ ap unmeasured (sym r);
          long = w.3;
          bytes = w.2;
          sound = λ q. w.1;
          chain = λ q. ap (λ (n : Net Module). length n.modules) w.0 ∙ n;
          newly = λ f q. w.0 ∙ ap set_up (sym r);
          some = λ f. never f;
        };
        leads = ap gathering r;
        short = λ small. omega arith;
      }

  fine_module : (t : ℕ) → Fine at types samples net size (module_record (stage_in at types samples net) t)
  fine_module t = go at.running refl
    where
      go : (r : Bool) → at.running ≡ r → Fine at types samples net size (module_record (cond r (running (net_in slots net) (take (list_size at.count) samples)) (gathering (take at.count types))) t)
      go true e = fine_bad
      go false e =
          let z = h.size in
          let c = h.most in
          let ts : List ℕ = take at.count types in
          let n : length ts ≡ at.count = length-take-le at.count types (omega arith) in
          let m = length-append ts (t ∷ []) in
          by_cond (Fine at types samples net size) (ltb (length ts) chain_most && known t) (goes (gathering (ts ++ t ∷ [])) []) bad
          (λ q. fine_gathering (ts ++ t ∷ []) (omega arith) (omega (arith, ltb-true (length ts) chain_most (and-true (ltb (length ts) chain_most) (known t) q).0))
          (known_more ts t h.known (and-true (ltb (length ts) chain_most) (known t) q).1))
          (λ q. fine_bad)

  -- a record for the network
  module _ (c : 0 < at.count) (body : List ℕ) (b : Bytes body) where
    now-sound : SoundNet slots (net_in slots net)
    now-sound = holds lawful net h.bytes (h.sound c)

    abbrev list : List ℕ
    list = take (list_size at.count) samples

    fine-byte : (mark value : ℕ) → value < 256 → Fine at types samples net size (line_byte (net_in slots net) list mark value)
    unfolding line_byte
    fine-byte mark value v =
        by_cond (Fine at types samples net size) (leb mark 1) _ bad
        (λ q. fine_running (byte_step kind (net_in slots net) (byte_of value (eqb mark 1))).net list _ c
        (kept_by_byte kind slots Good preserves (net_in slots net) (byte_of value (eqb mark 1)) now-sound v)
        (length-stepped kind (net_in slots net) (byte_of value (eqb mark 1)) ∙ h.chain c) h.fair
        (spoken_short (net_in slots net) (byte_of value (eqb mark 1)) now-sound.most))
        (λ q. fine_bad)

    fine-sample : (t : ℕ) → t < 256 → 1 ≤ length body → length body ≤ 10 → Fine at types samples net size (sample_record t (net_in slots net) list body)
    unfolding sample_record
    fine-sample t small l m =
        let u : Bool = of_type t (net_in slots net) (get_or body 0 0) in
        by_cond (Fine at types samples net size) (u && in_range (measured t body)) _ bad
        (λ q.
        let (there, near) = and-true u (in_range (measured t body)) q in
        fine_running (net_in slots net) (pasted (10 * get_or body 0 0) (measured t body) list) [] c now-sound (h.chain c)
        (put_fair at.count (get_or body 0 0) (measured t body) list (ten_long t body m l) (ten_bytes t body small b) near
        (omega (arith, place_below net (get_or body 0 0) t there, h.chain c)) h.fair)
        (omega arith))
        (λ q. fine_bad)

    fine-tick : Fine at types samples net size (goes (running (tick_step (samples_for (net_in slots net) list) (net_in slots net)) list) [])
    fine-tick =
        let n : Net Module = net_in slots net in
        let xs : List AnySample = samples_for n list in
        let r : all_in_range (length n.modules) list ≡ true = ap (λ (k : ℕ). all_in_range k list) (h.chain c) ∙ h.fair.ranged in
        fine_running (tick_step xs n) list [] c
        (kept_by_tick kind slots Good preserves n xs now-sound (samples_good (length n.modules) list h.fair.small r))
        (length-timed kind xs n.modules ∙ h.chain c) h.fair (omega arith)

    fine-other : (k : ℕ) → length body ≡ body_length k → Fine at types samples net size (net_record k (net_in slots net) list body)
    unfolding net_record body_length
    fine-other k l =
        by_cond (Fine at types samples net size) (eqb k 1) _ _ (λ q. fine-byte (get_or body 0 0) (get_or body 1 0) (b 1))
        (λ q. by_cond (Fine at types samples net size) (eqb k 2) _ _
        (λ q. let two = rw (eqb-true k 2 q) at l in fine-sample Servos.type_number (omega arith) (omega arith) (omega arith))
        (λ q. by_cond (Fine at types samples net size) (eqb k 3) _ _
        (λ q. let three = rw (eqb-true k 3 q) at l in fine-sample Inouts.type_number (omega arith) (omega arith) (omega arith))
        (λ q. by_cond (Fine at types samples net size) (eqb k 4) _ _ (λ q. fine-tick)
        (λ q. by_cond (Fine at types samples net size) (eqb k 5) _ bad
        (λ q. let five = rw (eqb-true k 5 q) at l in fine-sample Steppers.type_number (omega arith) (omega arith) (omega arith)) (λ q. fine_bad)))))

-- before the first byte nothing is gathered
pub begun : (types samples net : List ℕ) → Lent types samples net → Held start types samples net
begun types samples net l = record {
  size = l.size;
  most = omega arith;
  known = refl;
  room = l.room;
  fair = unmeasured_fair [] refl;
  blank = λ f. refl;
  long = l.long;
  bytes = l.bytes;
  sound = λ p. absurd (omega arith);
  chain = λ p. absurd (omega arith);
  newly = λ f p. absurd (omega arith);
  some = λ f. never f;
}

-- the network of the stage that the slices hold
gathered_some : (ts : List ℕ) → 0 < length ts → net_of (gathering ts) ≡ some (set_up ts, unmeasured ts)
gathered_some [] p = absurd (omega arith)
gathered_some (t ∷ ts) p = refl

pub stage_none : (at : Place) (types samples net : List ℕ) → Held at types samples net → at.count ≡ 0 → net_of (stage_in at types samples net) ≡ none
stage_none at types samples net h z = go at.running refl
  where
    go : (r : Bool) → at.running ≡ r → net_of (cond r (running (net_in slots net) (take (list_size at.count) samples)) (gathering (take at.count types))) ≡ none
    go true e = absurd (omega (arith, h.some e))
    go false e = rw z refl

pub stage_some : (at : Place) (types samples net : List ℕ) → Held at types samples net → 0 < at.count
    → net_of (stage_in at types samples net) ≡ some (net_in slots net, take (list_size at.count) samples)
stage_some at types samples net h c = go at.running refl
  where
    go : (r : Bool) → at.running ≡ r
        → net_of (cond r (running (net_in slots net) (take (list_size at.count) samples)) (gathering (take at.count types)))
        ≡ some (net_in slots net, take (list_size at.count) samples)
    go true e = refl
    go false e =
        let z = h.size in
        let m = h.most in
        let n = length-take-le at.count types (omega arith) in
        gathered_some (take at.count types) (omega arith)
        ∙ ap₂ (λ (n : Net Module) (l : List ℕ). some (n, l)) (sym (h.newly e c)) (sym (h.blank e))

-- a record on the network leaves the types as they were
sample_types : (t : ℕ) (n : Net Module) (list body types : List ℕ) → types_after (sample_record t n list body) types ≡ types
unfolding sample_record types_after
sample_types t n list body types =
    by_cond (λ e. types_after e types ≡ types) (of_type t n (get_or body 0 0) && in_range (measured t body)) _ bad (λ q. refl) (λ q. refl)

pub types_kept : (k : ℕ) (n : Net Module) (list body types : List ℕ) → types_after (net_record k n list body) types ≡ types
unfolding net_record line_byte types_after
types_kept k n list body types =
    let P : Effect → Type 0 = λ e. types_after e types ≡ types in
    by_cond P (eqb k 1) _ _ (λ q. by_cond P (leb (get_or body 0 0) 1) _ bad (λ q. refl) (λ q. refl))
    (λ q. by_cond P (eqb k 2) _ _ (λ q. sample_types _ n list body types)
    (λ q. by_cond P (eqb k 3) _ _ (λ q. sample_types _ n list body types)
    (λ q. by_cond P (eqb k 4) _ _ (λ q. refl)
    (λ q. by_cond P (eqb k 5) _ bad (λ q. sample_types _ n list body types) (λ q. refl)))))

-- a sample leaves the network as it was
pub sample-net : (t : ℕ) (net list body : List ℕ) → valid slots net ≡ true → Bytes net → net_after (sample_record t (net_in slots net) list body) net ≡ net
unfolding sample_record net_after
sample-net t net list body v b =
    by_cond (λ e. net_after e net ≡ net) (of_type t (net_in slots net) (get_or body 0 0) && in_range (measured t body)) _ bad (λ q. there lawful net b v) (λ q. refl)

-- any record
pub fine_record : (at : Place) (types samples net : List ℕ) → Held at types samples net → (size k : ℕ) (body : List ℕ) → Bytes body → length body ≡ body_length k
    → Fine at types samples net size (record_step (stage_in at types samples net) k body)
unfolding record_step
fine_record at types samples net h size k body b l =
    by_cond (Fine at types samples net size) (eqb k 0) _ _ (λ q. fine_module at types samples net h size (get_or body 0 0))
    (λ q. go (eqb at.count 0) refl)
  where
    go : (z : Bool) → eqb at.count 0 ≡ z → Fine at types samples net size (elim (net_of (stage_in at types samples net)) [ none ↦ bad | some p ↦ net_record k p.0 p.1 body ])
    go true e = rw (stage_none at types samples net h (eqb-true at.count 0 e)) (fine_bad at types samples net h size)
    go false e =
        let f = eqb-false at.count 0 e in
        let c : 0 < at.count = omega arith in
        rw (stage_some at types samples net h c) (fine-other at types samples net h size c body b k l)
