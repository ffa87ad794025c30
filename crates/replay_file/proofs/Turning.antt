-- A turn: its outcome by the bytes that are there, and what it leaves. Assumes nothing.
use mathlib.Core.Path.{◌≡◌, refl, sym}
use mathlib.Core.List.{List}
use mathlib.Core.Bool.{Bool, true, false, cond}
use Prim.Native.Nat.{ℕ, ◌+◌, ◌^◌, ◌<◌, ◌≤◌}
use native.Mathlib.Omega.{arith}
use lib.ListN.{length, get_or, take, drop, length-drop}
use lib.Seq.{length-take-le}
use lib.Dec.{eqb, ltb}
use borrow.Author.Tests.{eq-eqb, ne_eqb, lt-ltb, le-ltb, ltb-false}
use Rattle.base_layout.specs.Bytes.{pasted, Bytes}
use Rattle.base_layout.proofs.Laws.{bytes_take, bytes_drop}
use Rattle.base_layout.proofs.Pasted.{pasted_none}
use Rattle.replay_file.specs.declared.Place.{Place}
use Rattle.replay_file.specs.declared.Turned.{Turned}
use Rattle.replay_file.specs.Records.{Stage, gathering, running, Effect, goes, bad, body_length, record_step}
use Rattle.replay_file.specs.Turns.{stage_in, Held, Within, Outcome, over, wants, judged, head_size, turn_step, turned, types_after, samples_after, net_after, text_after, turned_by, types_by, samples_by, net_by, text_by}
use Rattle.replay_file.proofs.Fine.{by_cond, Leads, Fine, fine_bad, fine_record}

pub body_short : (k : ℕ) → body_length k ≤ 10
unfolding body_length
body_short k =
    let P : ℕ → Type 0 = λ n. n ≤ 10 in
    by_cond P (eqb k 0) 1 _ (λ q. omega arith)
    (λ q. by_cond P (eqb k 1) 2 _ (λ q. omega arith)
    (λ q. by_cond P (eqb k 2) 8 _ (λ q. omega arith)
    (λ q. by_cond P (eqb k 3) 10 _ (λ q. omega arith)
    (λ q. by_cond P (eqb k 5) 2 0 (λ q. omega arith) (λ q. omega arith)))))

-- no bytes, a record that is not whole, a whole record
pub turn_none : (s : Stage) (input : List ℕ) (last : Bool) → length input ≡ 0 → turn_step s input last ≡ cond last over wants
unfolding turn_step
turn_none s input last e = rw (eq-eqb (length input) 0 e)

pub turn_cut : (s : Stage) (input : List ℕ) (last : Bool) → (length input ≡ 0 → ⊥) → length input < head_size input
    → turn_step s input last ≡ cond last (judged 0 bad) wants
unfolding turn_step
turn_cut s input last e h = rw (ne_eqb (length input) 0 e, lt-ltb (length input) (head_size input) h)

pub turn_whole : (s : Stage) (input : List ℕ) (last : Bool) → head_size input ≤ length input
    → turn_step s input last ≡ judged (head_size input) (record_step s (get_or input 0 0) (take (body_length (get_or input 0 0)) (drop 1 input)))
unfolding turn_step
turn_whole s input last h = rw (ne_eqb (length input) 0 (λ e. omega arith), le-ltb (length input) (head_size input) h)

-- the stage after a record is the record's
abbrev pub LeadsBy : Place → List ℕ → List ℕ → List ℕ → Outcome → Type 0
LeadsBy at types samples net over = Unit {0}
LeadsBy at types samples net wants = Unit {0}
LeadsBy at types samples net (judged size e) = Leads at types samples net size e

-- what a caller needs of a turn's outcome
pub record Done (at : Place) (types samples net : List ℕ) (there : ℕ) (o : Outcome) : Type 0 where
  pub held : Held (turned_by o at).next (types_by o types) (samples_by o samples) (net_by o net)
  pub leads : LeadsBy at types samples net o
  pub within : at.offset + 11 < 2 ^ 64 → Within (turned_by o at) at.offset there

module _ (at : Place) (types samples net : List ℕ) (h : Held at types samples net) (there : ℕ) where
  done_over : Done at types samples net there over
  unfolding turned_by types_by samples_by net_by
  done_over = record { held = h; leads = tt; within = λ small. record { offset = omega arith; took = omega arith; wrote = omega arith } }

  done_wants : Done at types samples net there wants
  unfolding turned_by types_by samples_by net_by
  done_wants = record { held = h; leads = tt; within = λ small. record { offset = omega arith; took = omega arith; wrote = omega arith } }

  done-judged : (size : ℕ) → size ≤ 11 → size ≤ there → (e : Effect) → Fine at types samples net size e → Done at types samples net there (judged size e)
  unfolding turned_by types_by samples_by net_by turned text_after
  done-judged size p q bad f = record { held = f.held; leads = f.leads; within = λ small. record { offset = omega arith; took = omega arith; wrote = f.short (omega arith) } }
  done-judged size p q (goes (gathering ts) text) f = record { held = f.held; leads = f.leads; within = λ small. record { offset = omega arith; took = q; wrote = f.short (omega arith) } }
  done-judged size p q (goes (running n l) text) f = record { held = f.held; leads = f.leads; within = λ small. record { offset = omega arith; took = q; wrote = f.short (omega arith) } }

pub done : (at : Place) (types samples net : List ℕ) → Held at types samples net → (input : List ℕ) → Bytes input → (last : Bool)
    → Done at types samples net (length input) (turn_step (stage_in at types samples net) input last)
unfolding turn_step
done at types samples net h input b last =
    let P : Outcome → Type 0 = Done at types samples net (length input) in
    let k : ℕ = get_or input 0 0 in
    let w = body_short k in
    by_cond P (eqb (length input) 0) _ _ (λ q. by_cond P last over wants (λ q. done_over at types samples net h (length input)) (λ q. done_wants at types samples net h (length input)))
    (λ q. by_cond P (ltb (length input) (head_size input)) _ _
    (λ q. by_cond P last (judged 0 bad) wants
    (λ q. done-judged at types samples net h (length input) 0 (omega arith) (omega arith) bad (fine_bad at types samples net h 0))
    (λ q. done_wants at types samples net h (length input)))
    (λ q. done-judged at types samples net h (length input) (head_size input) (omega arith) (ltb-false (length input) (head_size input) q)
    (record_step (stage_in at types samples net) k (take (body_length k) (drop 1 input)))
    (fine_record at types samples net h (head_size input) k (take (body_length k) (drop 1 input)) (bytes_take (body_length k) (drop 1 input) (bytes_drop 1 input b))
    (length-take-le (body_length k) (drop 1 input) (omega (arith, length-drop 1 input, ltb-false (length input) (head_size input) q))))))

-- a turn that takes nothing
pub idle_types : (last : Bool) (types : List ℕ) → types ≡ types_by (cond last over wants) types
unfolding types_by
idle_types true types = refl
idle_types false types = refl

pub idle_samples : (last : Bool) (samples : List ℕ) → samples ≡ samples_by (cond last over wants) samples
unfolding samples_by
idle_samples true samples = refl
idle_samples false samples = refl

pub idle-net : (last : Bool) (net : List ℕ) → net ≡ net_by (cond last over wants) net
unfolding net_by
idle-net true net = refl
idle-net false net = refl

pub idle_text : (last : Bool) (offset : ℕ) (out : List ℕ) → out ≡ pasted 0 (text_by (cond last over wants) offset) out
unfolding text_by
idle_text true offset out = sym (pasted_none 0 out)
idle_text false offset out = sym (pasted_none 0 out)

pub cut_types : (last : Bool) (types : List ℕ) → types ≡ types_by (cond last (judged 0 bad) wants) types
unfolding types_by types_after
cut_types true types = refl
cut_types false types = refl

pub cut_samples : (last : Bool) (samples : List ℕ) → samples ≡ samples_by (cond last (judged 0 bad) wants) samples
unfolding samples_by samples_after
cut_samples true samples = refl
cut_samples false samples = refl

pub cut-net : (last : Bool) (net : List ℕ) → net ≡ net_by (cond last (judged 0 bad) wants) net
unfolding net_by net_after
cut-net true net = refl
cut-net false net = refl

-- what the code leaves, put together
pub finish : (at : Place) (types samples net out : List ℕ) → Held at types samples net → at.offset + 11 < 2 ^ 64 → (input : List ℕ) → Bytes input → (last : Bool)
    → (o : Outcome) → turn_step (stage_in at types samples net) input last ≡ o
    → {r : Turned} {types' samples' net' out' : List ℕ}
    → r ≡ turned_by o at
    → types' ≡ types_by o types
    → samples' ≡ samples_by o samples
    → net' ≡ net_by o net
    → out' ≡ pasted 0 (text_by o at.offset) out
    → (r ≡ turned_by (turn_step (stage_in at types samples net) input last) at)
    × ((types' ≡ types_by (turn_step (stage_in at types samples net) input last) types)
    × ((samples' ≡ samples_by (turn_step (stage_in at types samples net) input last) samples)
    × ((net' ≡ net_by (turn_step (stage_in at types samples net) input last) net)
    × ((out' ≡ pasted 0 (text_by (turn_step (stage_in at types samples net) input last) at.offset) out)
    × (Held r.next types' samples' net' × Within r at.offset (length input))))))
finish at types samples net out h small input b last o e {r} {types'} {samples'} {net'} {out'} er et es en eo =
    let d = rw e at (done at types samples net h input b last) in
    rw e (er, (et, (es, (en, (eo, (rw (er, et, es, en) d.held, rw er (d.within small)))))))
