-- Every run of turns over a file prints what the whole file means, and there is one. Assumes nothing.
use mathlib.Core.Path.{◌≡◌, refl, sym, ap, subst, ◌∙◌}
use mathlib.Core.List.{List, [], ◌∷◌, ◌++◌, append-nil}
use mathlib.Core.Bool.{Bool, true, false, cond}
use Prim.Native.Nat.{ℕ, zero, suc, ◌+◌, ◌<◌, ◌≤◌}
use native.Mathlib.Omega.{arith}
use lib.ListN.{length, get_or, take, drop, length-append, length-drop}
use lib.Seq.{take-append-le}
use lib.Dec.{eqb, ltb}
use borrow.Author.Tests.{eqb-true, eqb-false, lt-ltb, le-ltb, ltb-true, ltb-false}
use Rattle.base_layout.specs.Bytes.{Bytes}
use Rattle.base_layout.proofs.Laws.{bytes_drop}
use Rattle.replay_file.specs.declared.Place.{Place}
use Rattle.replay_print.specs.Text.{bad_line}
use Rattle.replay_file.specs.Records.{Stage, gathering, running, Effect, goes, bad, body_length, record_step, replay_from, replayed}
use Rattle.replay_file.specs.Turns.{start, stage_in, is_over, Held, Outcome, over, wants, judged, head_size, turn_step, turned, text_after, turned_by, types_by, samples_by, net_by, text_by}
use Rattle.replay_file.specs.Promises.{Run, stops, turns, Whole, Ends, HeadOnly}
use Rattle.replay_file.proofs.Gathered.{never}
use Rattle.replay_file.proofs.Fine.{by_cond, begun}
use Rattle.replay_file.proofs.Turning.{turn_whole, LeadsBy, Done, done}

nothing : (l : List ℕ) → length l ≡ 0 → l ≡ []
nothing [] h = refl
nothing (x ∷ l) h = absurd (omega arith)

-- any count of turns that is enough prints the same
replay_none : (t : ℕ) (s : Stage) (offset : ℕ) → replay_from t s offset [] ≡ []
replay_none zero s offset = refl
replay_none (suc t) s offset = refl

replay_more : (t u : ℕ) (s : Stage) (offset : ℕ) (left : List ℕ) → length left ≤ t → length left ≤ u → replay_from t s offset left ≡ replay_from u s offset left
replay_more zero u s offset [] h g = sym (replay_none u s offset)
replay_more zero u s offset (k ∷ rest) h g = absurd (omega arith)
replay_more (suc t) zero s offset [] h g = refl
replay_more (suc t) zero s offset (k ∷ rest) h g = absurd (omega arith)
replay_more (suc t) (suc u) s offset [] h g = refl
replay_more (suc t) (suc u) s offset (k ∷ rest) h g =
    ap (λ (x : List ℕ). cond (ltb (length rest) (body_length k)) (bad_line offset) x)
    (go (record_step s k (take (body_length k) rest))
    (λ r. replay_more t u r (offset + (1 + body_length k)) (drop (body_length k) rest) (omega (arith, length-drop (body_length k) rest)) (omega (arith, length-drop (body_length k) rest))))
  where
    go : (e : Effect)
        → ((r : Stage) → replay_from t r (offset + (1 + body_length k)) (drop (body_length k) rest) ≡ replay_from u r (offset + (1 + body_length k)) (drop (body_length k) rest))
        → ◌≡◌ {A = List ℕ}
        (elim e [ bad ↦ bad_line offset | goes next text ↦ text ++ replay_from t next (offset + (1 + body_length k)) (drop (body_length k) rest) ])
        (elim e [ bad ↦ bad_line offset | goes next text ↦ text ++ replay_from u next (offset + (1 + body_length k)) (drop (body_length k) rest) ])
    go bad on = refl
    go (goes r text) on = ap (λ (x : List ℕ). text ++ x) (on r)

-- what is printed from a turn on, by its outcome
abbrev behind : ℕ → ℕ → ℕ → List ℕ → Effect → List ℕ
behind t offset size left bad = bad_line offset
behind t offset size left (goes s said) = said ++ replay_from t s (offset + size) (drop size left)

abbrev onward : ℕ → Outcome → Stage → ℕ → List ℕ → List ℕ
onward t over s offset left = []
onward t wants s offset left = replay_from t s offset left
onward t (judged size e) s offset left = behind t offset size left e

-- a record that the end of the file cuts, and a whole one
replay_cut : (t : ℕ) (s : Stage) (offset : ℕ) (input : List ℕ) → (length input ≡ 0 → ⊥) → length input < head_size input → length input ≤ t
    → replay_from t s offset input ≡ bad_line offset
replay_cut t s offset [] n h l = absurd (n refl)
replay_cut zero s offset (k ∷ rest) n h l = absurd (omega arith)
replay_cut (suc t) s offset (k ∷ rest) n h l = rw (lt-ltb (length rest) (body_length k) (omega arith)) refl

replay_whole : (t : ℕ) (s : Stage) (offset : ℕ) (input more : List ℕ) → head_size input ≤ length input → length (input ++ more) ≤ t
    → replay_from t s offset (input ++ more)
    ≡ behind t offset (head_size input) (input ++ more) (record_step s (get_or input 0 0) (take (body_length (get_or input 0 0)) (drop 1 input)))
replay_whole t s offset [] more h l = absurd (omega arith)
replay_whole zero s offset (k ∷ rest) more h l = absurd (omega arith)
replay_whole (suc t) s offset (k ∷ rest) more h l =
    let n = length-append rest more in
    rw (le-ltb (length (rest ++ more)) (body_length k) (omega arith), take-append-le (body_length k) rest more (omega arith))
    (go (record_step s k (take (body_length k) rest)))
  where
    one : drop (1 + body_length k) (k ∷ (rest ++ more)) ≡ drop (body_length k) (rest ++ more)
    one = let e : 1 + body_length k ≡ suc (body_length k) = omega arith in ap (λ (j : ℕ). drop j (k ∷ (rest ++ more))) e

    go : (e : Effect)
        → ◌≡◌ {A = List ℕ}
        (elim e [ bad ↦ bad_line offset | goes next text ↦ text ++ replay_from t next (offset + (1 + body_length k)) (drop (body_length k) (rest ++ more)) ])
        (behind (suc t) offset (1 + body_length k) (k ∷ (rest ++ more)) e)
    go bad = refl
    go (goes r text) =
        let d = length-drop (body_length k) (rest ++ more) in
        ap (λ (x : List ℕ). text ++ x)
        (replay_more t (suc t) r (offset + (1 + body_length k)) (drop (body_length k) (rest ++ more)) (omega arith) (omega arith)
        ∙ ap (λ (x : List ℕ). replay_from (suc t) r (offset + (1 + body_length k)) x) (sym one))

-- a turn, and what is printed from it on
turn_is : (t : ℕ) (s : Stage) (offset : ℕ) (input more : List ℕ) (last : Bool) → (last ≡ true → more ≡ []) → length (input ++ more) ≤ t
    → replay_from t s offset (input ++ more) ≡ onward t (turn_step s input last) s offset (input ++ more)
unfolding turn_step
turn_is t s offset input more last honest l =
    let P : Outcome → Type 0 = λ o. replay_from t s offset (input ++ more) ≡ onward t o s offset (input ++ more) in
    let n = length-append input more in
    by_cond P (eqb (length input) 0) _ _
    (λ z. by_cond P last over wants
    (λ q. let m = ap length (honest q) in ap (replay_from t s offset) (nothing (input ++ more) (omega (arith, eqb-true (length input) 0 z))) ∙ replay_none t s offset)
    (λ q. refl))
    (λ z. by_cond P (ltb (length input) (head_size input)) _ _
    (λ c. by_cond P last (judged 0 bad) wants
    (λ q. ap (replay_from t s offset) (ap (λ (m : List ℕ). input ++ m) (honest q) ∙ append-nil input)
    ∙ replay_cut t s offset input (eqb-false (length input) 0 z) (ltb-true (length input) (head_size input) c) (omega arith))
    (λ q. refl))
    (λ c. replay_whole t s offset input more (ltb-false (length input) (head_size input) c) l))

-- a run's last turn, and one that is not
stop_is : (t : ℕ) (o : Outcome) (at : Place) (s : Stage) (left : List ℕ) → is_over (turned_by o at).course ≡ true → text_by o at.offset ≡ onward t o s at.offset left
unfolding turned_by turned text_by text_after
stop_is t over at s left h = refl
stop_is t wants at s left h = never h
stop_is t (judged size bad) at s left h = refl
stop_is t (judged size (goes r said)) at s left h = never h

go_is : (t : ℕ) (o : Outcome) (at : Place) (types samples net left text : List ℕ) → is_over (turned_by o at).course ≡ false → LeadsBy at types samples net o
    → text ≡ replay_from t (stage_in (turned_by o at).next (types_by o types) (samples_by o samples) (net_by o net)) (turned_by o at).next.offset (drop (turned_by o at).took left)
    → text_by o at.offset ++ text ≡ onward t o (stage_in at types samples net) at.offset left
unfolding turned_by turned text_by text_after types_by samples_by net_by
go_is t over at types samples net left text h d e = never (sym h)
go_is t wants at types samples net left text h d e = e
go_is t (judged size bad) at types samples net left text h d e = never (sym h)
go_is t (judged size (goes (gathering ts) said)) at types samples net left text h d e =
    ap (λ (x : List ℕ). said ++ x) (e ∙ ap (λ (r : Stage). replay_from t r (at.offset + size) (drop size left)) d)
go_is t (judged size (goes (running n l) said)) at types samples net left text h d e =
    ap (λ (x : List ℕ). said ++ x) (e ∙ ap (λ (r : Stage). replay_from t r (at.offset + size) (drop size left)) d)

bytes_first : (a b : List ℕ) → Bytes (a ++ b) → Bytes a
bytes_first [] b h i = omega arith
bytes_first (x ∷ a) b h zero = h 0
bytes_first (x ∷ a) b h (suc i) = bytes_first a b (λ j. h (suc j)) i

run_is : {at : Place} {types samples net left text : List ℕ} → Run at types samples net left text → (t : ℕ) → Held at types samples net → Bytes left → length left ≤ t
    → text ≡ replay_from t (stage_in at types samples net) at.offset left
run_is {at} {types} {samples} {net} (stops input more last honest h) t k b l =
    stop_is t (turn_step (stage_in at types samples net) input last) at (stage_in at types samples net) (input ++ more) h
    ∙ sym (turn_is t (stage_in at types samples net) at.offset input more last honest l)
run_is {at} {types} {samples} {net} (turns input more last {text} honest h r) t k b l =
    let o : Outcome = turn_step (stage_in at types samples net) input last in
    let d : Done at types samples net (length input) o = done at types samples net k input (bytes_first input more b) last in
    let n = length-drop (turned_by o at).took (input ++ more) in
    go_is t o at types samples net (input ++ more) text h d.leads
    (run_is r t d.held (bytes_drop (turned_by o at).took (input ++ more) b) (omega arith))
    ∙ sym (turn_is t (stage_in at types samples net) at.offset input more last honest l)

pub whole : Whole
unfolding replayed
whole types samples net file text l f r = run_is r (length file) (begun types samples net l) f (omega arith)

pub head_only : HeadOnly
head_only s [] more last end p h = absurd (omega arith)
head_only s (k ∷ rest) more last end p h =
    let n = length-append rest more in
    turn_whole s (k ∷ (rest ++ more)) end (omega arith)
    ∙ ap (λ (x : List ℕ). judged (1 + body_length k) (record_step s k x)) (take-append-le (body_length k) rest more (omega arith))
    ∙ sym (turn_whole s (k ∷ rest) last h)

-- with all the bytes left, a turn is over, or it takes a record
abbrev Progress : ℕ → Outcome → Type 0
Progress n over = Unit {0}
Progress n wants = ⊥
Progress n (judged size bad) = Unit {0}
Progress n (judged size (goes s said)) = (1 ≤ size) × (size ≤ n)

progress : (s : Stage) (left : List ℕ) → Progress (length left) (turn_step s left true)
unfolding turn_step
progress s left =
    let P : Outcome → Type 0 = Progress (length left) in
    by_cond P (eqb (length left) 0) over _ (λ z. tt)
    (λ z. by_cond P (ltb (length left) (head_size left)) (judged 0 bad) _ (λ c. tt)
    (λ c. taken (head_size left) (record_step s (get_or left 0 0) (take (body_length (get_or left 0 0)) (drop 1 left))) (omega arith) (ltb-false (length left) (head_size left) c)))
  where
    taken : (size : ℕ) (e : Effect) → 1 ≤ size → size ≤ length left → Progress (length left) (judged size e)
    taken size bad p q = tt
    taken size (goes r said) p q = (p, q)

record SomeRun (at : Place) (types samples net left : List ℕ) : Type 0 where
  pub text : List ℕ
  pub run : Run at types samples net left text

module _ (at : Place) (types samples net left : List ℕ) where
  abbrev first : Outcome
  first = turn_step (stage_in at types samples net) left true

  close_run : (o : Outcome) → first ≡ o → Progress (length left) o
      → (1 ≤ (turned_by first at).took
      → (turned_by first at).took ≤ length left
      → SomeRun (turned_by first at).next (types_by first types) (samples_by first samples) (net_by first net) (drop (turned_by first at).took (left ++ [])))
      → SomeRun at types samples net (left ++ [])
  unfolding turned_by turned
  close_run over e p next =
      record { text = text_by first at.offset; run = stops left [] true (λ q. refl) (ap (λ (o : Outcome). is_over (turned_by o at).course) e) }
  close_run wants e p next = absurd p
  close_run (judged size bad) e p next =
      record { text = text_by first at.offset; run = stops left [] true (λ q. refl) (ap (λ (o : Outcome). is_over (turned_by o at).course) e) }
  close_run (judged size (goes s said)) e p next =
      let n : (turned_by first at).took ≡ size = ap (λ (o : Outcome). (turned_by o at).took) e in
      let r = next (omega arith) (omega arith) in
      record { text = text_by first at.offset ++ r.text; run = turns left [] true (λ q. refl) (ap (λ (o : Outcome). is_over (turned_by o at).course) e) r.run }

some_run : (t : ℕ) (at : Place) (types samples net left : List ℕ) → Held at types samples net → Bytes left → length left < t → SomeRun at types samples net left
some_run zero at types samples net left k b l = absurd (omega arith)
some_run (suc t) at types samples net left k b l =
    let o : Outcome = turn_step (stage_in at types samples net) left true in
    let d : Done at types samples net (length left) o = done at types samples net k left b true in
    let e = append-nil left in
    subst (λ (x : List ℕ). SomeRun at types samples net x) e
    (close_run at types samples net left o refl (progress (stage_in at types samples net) left)
    (λ p q.
    some_run t (turned_by o at).next (types_by o types) (samples_by o samples) (net_by o net) (drop (turned_by o at).took (left ++ [])) d.held
    (bytes_drop (turned_by o at).took (left ++ []) (subst Bytes (sym e) b))
    (omega (arith, length-drop (turned_by o at).took (left ++ []), ap length e))))

pub ends : Ends
ends types samples net file l f =
    let r = some_run (suc (length file)) start types samples net file (begun types samples net l) f (omega arith) in
    subst (λ (x : List ℕ). Run start types samples net file x) (whole types samples net file r.text l f r.run) r.run
