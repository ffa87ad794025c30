-- The reader takes just the texts of the grammar, for the bytes that they are. Assumes nothing.
use mathlib.Core.Path.{◌≡◌, refl, sym, ap, subst, ◌∙◌}
use mathlib.Core.List.{List, [], ◌∷◌, ◌++◌, append_assoc}
use mathlib.Core.Bool.{Bool, true, false}
use Prim.Native.Nat.{ℕ, suc, ◌+◌, ◌*◌}
use native.Mathlib.Omega.{arith}
use borrow.Author.Tests.{eq-eqb, eqb-true}
use lib.ListN.{length}
use lib.Dec.{eqb}
use Rattle.base_layout.proofs.Every.{every_hold}
use Rattle.base_text.specs.Digits.{space, newline}
use Rattle.line_receiver.specs.Frames.{Byte}
use Rattle.text_rules.specs.Text.{bang, OneByte, plain, marked, OneLine, last, next, Text, empty, lines}
use Rattle.text_rules.specs.Fold.{Brought, more, gives, cannot, Reading, goes_on, folded}
use Rattle.text_rules.specs.Import.{Stage, Line, Space, Digit, Whole, Mark, step, read_from, read_text, may_end, is_text}
use Rattle.text_rules.specs.Promises.{Accepts}
use Rattle.text_rules.proofs.Steps.{Opens, line-opens, space-opens, digit-on, Left, Behind, lined_text, first-left, second_left, behind-left, mark_left}
use Rattle.text_rules.proofs.Folding.{fold_by}

-- from a stage on, all characters are taken, the text ends where it may, and has given these bytes
pub record Goes (s : Stage) (t : List ℕ) (bs : List Byte) : Type 0 where
  pub all : (read_from s t).count ≡ length t
  pub ends : (read_from s t).stage ≡ Line
  pub same : (read_from s t).bytes ≡ bs

pub at_end : Goes Line [] []
unfolding folded
at_end = record { all = refl; ends = refl; same = refl }

pub goes_more : (s n : Stage) (c : ℕ) {t : List ℕ} {bs : List Byte} → step s c ≡ more n → Goes n t bs → Goes s (c ∷ t) bs
goes_more s n c {t} e g =
    let f = fold_by step s c t e in
    record { all = ap (λ (r : Reading Stage). r.count) f ∙ ap suc g.all; ends = ap (λ (r : Reading Stage). r.stage) f ∙ g.ends; same = ap (λ (r : Reading Stage). r.bytes) f ∙ g.same }

pub goes_gives : (s n : Stage) (c v : ℕ) (m : Bool) {t : List ℕ} {bs : List Byte} → step s c ≡ gives (record { value = v; mark = m }) n → Goes n t bs
    → Goes s (c ∷ t) (record { value = v; mark = m } ∷ bs)
goes_gives s n c v m {t} e g =
    let f = fold_by step s c t e in
    let b : Byte = record { value = v; mark = m } in
    record { all = ap (λ (r : Reading Stage). r.count) f ∙ ap suc g.all; ends = ap (λ (r : Reading Stage). r.stage) f ∙ g.ends; same = ap (λ (r : Reading Stage). r.bytes) f ∙ ap (λ (l : List Byte). b ∷ l) g.same }

-- a text's byte, and then the stage that what follows it begins at
byte_goes : (s : Stage) → Opens s → (c : ℕ) (n : Stage) → ((v : ℕ) → step (Whole v) c ≡ gives (record { value = v; mark = false }) n) → step Mark c ≡ more n
    → {t u : List ℕ} {b : Byte} {bs : List Byte} → OneByte t b → Goes n u bs → Goes s (t ++ c ∷ u) (b ∷ bs)
unfolding step
byte_goes s o c n e k (plain {h} {l} {x} {y} p q) g =
    goes_more s (Digit x) h (o h x p)
    (goes_more (Digit x) (Whole (16 * x + y)) l (digit-on x l y q) (goes_gives (Whole (16 * x + y)) n c (16 * x + y) false (e (16 * x + y)) g))
byte_goes s o c n e k (marked {h} {l} {x} {y} p q) g =
    goes_more s (Digit x) h (o h x p)
    (goes_more (Digit x) (Whole (16 * x + y)) l (digit-on x l y q)
    (goes_gives (Whole (16 * x + y)) Mark bang (16 * x + y) true refl (goes_more Mark n c k g)))

-- the same characters, put together otherwise
goes_same : {s : Stage} {t u : List ℕ} {bs : List Byte} → t ≡ u → Goes s t bs → Goes s u bs
goes_same {s} {t} {u} {bs} e g = subst (λ (l : List ℕ). Goes s l bs) e g

-- a line, and then a text
line_goes : (s : Stage) → Opens s → {t u : List ℕ} {bs cs : List Byte} → OneLine t bs → Goes Line u cs → Goes s (t ++ u) (bs ++ cs)
unfolding step
line_goes s o {u = u} (last {t = v} b) g = goes_same (sym (append_assoc v (newline ∷ []) u)) (byte_goes s o newline Line (λ v. refl) refl b g)
line_goes s o {u = u} (next {t = v} {u = w} b l) g =
    goes_same (sym (append_assoc v (space ∷ w) u)) (byte_goes s o space Space (λ v. refl) refl b (line_goes Space space-opens l g))

pub text_goes : {t : List ℕ} {bs : List Byte} → Text t bs → Goes Line t bs
text_goes empty = at_end
text_goes (lines l t) = line_goes Line line-opens l (text_goes t)

-- And back.
step_left : (s : Stage) (c : ℕ) (t : List ℕ) (bs : List Byte) → Behind (step s c) t bs → Left s (c ∷ t) bs
unfolding step
step_left Line c t bs k = lined_text (first-left c t bs k)
step_left Space c t bs k = first-left c t bs k
step_left (Digit d) c t bs k = second_left d c t bs k
step_left (Whole v) c t bs k = behind-left v c t bs k
step_left Mark c t bs k = mark_left c t bs k

-- so what the reader takes to the end is left by the grammar, too
goes_left : (s : Stage) (t : List ℕ) → (read_from s t).count ≡ length t → (read_from s t).stage ≡ Line → Left s t (read_from s t).bytes
unfolding folded
goes_left s [] a e = rw e empty
goes_left s (c ∷ t) a e = step_left s c t (read_from s (c ∷ t)).bytes (go (λ n. goes_left n t) (step s c) a e)
  where
    go : ((n : Stage) → (read_from n t).count ≡ length t → (read_from n t).stage ≡ Line → Left n t (read_from n t).bytes)
        → (k : Brought Stage)
        → (goes_on s (λ (n : Stage). read_from n t) k).count ≡ suc (length t)
        → (goes_on s (λ (n : Stage). read_from n t) k).stage ≡ Line
        → Behind k t (goes_on s (λ (n : Stage). read_from n t) k).bytes
    go ih (more n) a e = ih n (omega arith) e
    go ih (gives b n) a e = (refl, ih n (omega arith) e)
    go ih cannot a e = absurd (omega arith)

may_end_lem : (s : Stage) → may_end s ≡ true → s ≡ Line
may_end_lem Line e = refl
may_end_lem Space e = let z : false ≡ true = e in cc
may_end_lem (Digit d) e = let z : false ≡ true = e in cc
may_end_lem (Whole b) e = let z : false ≡ true = e in cc
may_end_lem Mark e = let z : false ≡ true = e in cc

pub goes_text : {t : List ℕ} {bs : List Byte} → Goes Line t bs → Text t bs
goes_text {t} g = subst (Text t) g.same (goes_left Line t g.all g.ends)

pub accepts : Accepts
unfolding is_text
accepts t bs = (λ x. taken (text_goes x), λ h. goes_text (goes h.0 h.1))
  where
    taken : Goes Line t bs → (is_text t ≡ true) × ((read_text t).bytes ≡ bs)
    taken g = (rw (eq-eqb _ _ g.all, g.ends), g.same)

    goes : is_text t ≡ true → (read_text t).bytes ≡ bs → Goes Line t bs
    goes e f =
        let h = every_hold (eqb (read_text t).count (length t) ∷ may_end (read_text t).stage ∷ []) e in
        record { all = eqb-true _ _ h.0; ends = may_end_lem _ h.1.0; same = f }
