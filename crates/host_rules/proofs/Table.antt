-- Each number is given exactly when the table says so. Assumes nothing.
use mathlib.Core.Path.{◌≡◌, refl, ap}
use mathlib.Core.List.{List}
use mathlib.Core.Bool.{Bool, true, false, cond, not, ◌&&◌, ◌||◌}
use mathlib.Core.Logic.{inl, inr, ⊎_elim}
use Prim.Native.Nat.{ℕ, ◌+◌, ◌-◌, ◌%◌, ◌<◌, ◌≤◌}
use native.Mathlib.Omega.{arith}
use borrow.Author.Tests.{ltb-true, ltb-false, lt-ltb, le-ltb, eqb-true, eqb-false, eq-eqb, ne_eqb, not-true, not-false}
use lib.ListN.{length, get_or, take, replicate}
use lib.Dec.{eqb, ltb}
use Rattle.base_layout.specs.Bytes.{pasted}
use Rattle.line_receiver.specs.Receive.{total}
use Rattle.line_receiver.specs.Frames.{written}
use Rattle.host_rules.specs.declared.Reading.{Reading}
use Rattle.types_rules.specs.Types.{known, sizes_of, shows_of}
use Rattle.types_rules.specs.Promises.{ThereIs}
use Rattle.types_rules.proofs.Promised.{numbers}
use Rattle.host_rules.specs.Reading.{Answered, needed_for, summed, reading_of, refusal, status_of}
use Rattle.host_rules.specs.Writing.{Written, unfit, cramped, written_of, room_after}
use Rattle.host_rules.specs.Promises.{Exactly, Reader, Fits, Over, Writer}
use Rattle.host_rules.proofs.Tests.{or-true, fit}

-- one equivalence after another, and two or three side by side
via : {p q r : Type 0} → Exactly p q → Exactly q r → Exactly p r
via a b = (λ x. b.0 (a.0 x), λ z. a.1 (b.1 z))

two : {p q r s : Type 0} → Exactly p q → Exactly r s → Exactly (p × r) (q × s)
two a b = (λ x. (a.0 x.0, b.0 x.1), λ x. (a.1 x.0, b.1 x.1))

three : {p q r s u v : Type 0} → Exactly p q → Exactly r s → Exactly u v → Exactly (p × r × u) (q × s × v)
three a b c = (λ x. (a.0 x.0, b.0 x.1, c.0 x.2), λ x. (a.1 x.0, b.1 x.1, c.1 x.2))

clash : {a : Bool} → a ≡ true → a ≡ false → ⊥
clash t f = let z : ◌≡◌ {A = ℕ} 0 1 = cc in omega arith

-- the tests as facts
other : (kind : ℕ) → Exactly (not (known kind) ≡ true) (ThereIs kind → ⊥)
other kind = (
  λ e h. clash ((numbers kind).1 h) (not-true (known kind) e),
  λ h. none (known kind) refl h,
)
  where
    none : (t : Bool) → known kind ≡ t → (ThereIs kind → ⊥) → not (known kind) ≡ true
    none true e h = absurd (h ((numbers kind).0 e))
    none false e h = ap not e

there_is : (kind : ℕ) → Exactly (not (known kind) ≡ false) (ThereIs kind)
there_is kind = (λ e. (numbers kind).0 (not-false (known kind) e), λ h. ap not ((numbers kind).1 h))

unequal : (m n : ℕ) → Exactly (not (eqb m n) ≡ true) (m ≡ n → ⊥)
unequal m n = (λ e. eqb-false m n (not-true (eqb m n) e), λ h. rw (ne_eqb m n h))

equal : (m n : ℕ) → Exactly (not (eqb m n) ≡ false) (m ≡ n)
equal m n = (λ e. eqb-true m n (not-false (eqb m n) e), λ h. rw (eq-eqb m n h))

-- two tests, of which the second compares
unsuited : (t : Bool) (m n : ℕ) → Exactly (not (t && eqb m n) ≡ true) ((t ≡ true) × (m ≡ n) → ⊥)
unsuited true m n = (λ e h. (unequal m n).0 e h.1, λ h. (unequal m n).1 (λ e. h (refl, e)))
unsuited false m n = (λ e h. clash h.0 refl, λ h. refl)

suited : (t : Bool) (m n : ℕ) → Exactly (not (t && eqb m n) ≡ false) ((t ≡ true) × (m ≡ n))
suited true m n = (λ e. (refl, (equal m n).0 e), λ h. (equal m n).1 h.1)
suited false m n = (λ e. absurd (clash refl e), λ h. absurd (clash h.0 refl))

over : (a c : ℕ) (ds : List ℕ) → Exactly (unfit a c ds ≡ true) (Over a c ds)
over a c ds = (
  λ e. ⊎_elim
      (λ f. ⊎_elim (λ g. inl (ltb-true 255 a g)) (λ g. inr (inl (ltb-true 15 c g))) (or-true (ltb 255 a) (ltb 15 c) f))
      (λ f. inr (inr (ltb-true 15 (length ds) f))) (or-true (ltb 255 a || ltb 15 c) (ltb 15 (length ds)) e),
  λ h. not_within h (unfit a c ds) refl,
)
  where
    not_within : Over a c ds → (t : Bool) → unfit a c ds ≡ t → t ≡ true
    not_within h true e = refl
    not_within h false e =
        let f = fit a c ds e in
        let z : ⊥ = ⊎_elim (λ g. omega arith) (λ g. ⊎_elim (λ k. omega arith) (λ k. omega arith) g) h in
        absurd z

within : (a c : ℕ) (ds : List ℕ) → Exactly (unfit a c ds ≡ false) (Fits a c ds)
within a c ds = (fit a c ds, λ h. rw (le-ltb 255 a h.0, le-ltb 15 c h.1, le-ltb 15 (length ds) h.2))

less : (m n : ℕ) → Exactly (ltb m n ≡ true) (m < n)
less m n = (ltb-true m n, lt-ltb m n)

not_less : (m n : ℕ) → Exactly (ltb m n ≡ false) (n ≤ m)
not_less m n = (ltb-false m n, le-ltb m n)

-- the reader's answer by its three tests
abbrev answer : Bool → Bool → Bool → Reading → Answered
answer a b c r = cond a (refusal 12) (cond b (refusal 18) (cond c (refusal 19) (record { number = 0; reading = r })))

module _ (r : Reading) where
  first : (a b c : Bool) → Exactly ((answer a b c r).number ≡ 12) (a ≡ true)
  first true b c = (λ e. refl, λ e. refl)
  first false true c = (λ e. absurd (omega arith), λ e. absurd (clash e refl))
  first false false true = (λ e. absurd (omega arith), λ e. absurd (clash e refl))
  first false false false = (λ e. absurd (omega arith), λ e. absurd (clash e refl))

  second : (a b c : Bool) → Exactly ((answer a b c r).number ≡ 18) ((a ≡ false) × (b ≡ true))
  second true b c = (λ e. absurd (omega arith), λ e. absurd (clash refl e.0))
  second false true c = (λ e. (refl, refl), λ e. refl)
  second false false true = (λ e. absurd (omega arith), λ e. absurd (clash e.1 refl))
  second false false false = (λ e. absurd (omega arith), λ e. absurd (clash e.1 refl))

  third : (a b c : Bool) → Exactly ((answer a b c r).number ≡ 19) ((a ≡ false) × (b ≡ false) × (c ≡ true))
  third true b c = (λ e. absurd (omega arith), λ e. absurd (clash refl e.0))
  third false true c = (λ e. absurd (omega arith), λ e. absurd (clash refl e.1))
  third false false true = (λ e. (refl, refl, refl), λ e. refl)
  third false false false = (λ e. absurd (omega arith), λ e. absurd (clash e.2 refl))

  none : (a b c : Bool) → Exactly ((answer a b c r).number ≡ 0) ((a ≡ false) × (b ≡ false) × (c ≡ false))
  none true b c = (λ e. absurd (omega arith), λ e. absurd (clash refl e.0))
  none false true c = (λ e. absurd (omega arith), λ e. absurd (clash refl e.1))
  none false false true = (λ e. absurd (omega arith), λ e. absurd (clash refl e.2))
  none false false false = (λ e. (refl, refl, refl), λ e. refl)

  given : (a b c : Bool) → (answer a b c r).number ≡ 0 → (answer a b c r).reading ≡ r
  given true b c e = absurd (omega arith)
  given false true c e = absurd (omega arith)
  given false false true e = absurd (omega arith)
  given false false false e = refl

  empty : (a b c : Bool) → ((answer a b c r).number ≡ 0 → ⊥) → (answer a b c r).reading ≡ record { status = 0; numbers = replicate 8 0 }
  empty true b c h = refl
  empty false true c h = refl
  empty false false true h = refl
  empty false false false h = absurd (h refl)

pub reader : (kind items : ℕ) (reply : List ℕ) → Reader kind items reply
unfolding status_of summed
reader kind items reply =
    let r : Reading = reading_of items (sizes_of kind) reply in
    let m : ℕ = length reply in
    let n : ℕ = needed_for items (sizes_of kind) in
    let x : ℕ = get_or reply (length reply - 1) 0 in
    let s : ℕ = total (take (length reply - 1) reply) % 256 in
    let a : Bool = not (known kind) in
    let t : Bool = shows_of kind items in
    let b : Bool = not (t && eqb m n) in
    let c : Bool = not (eqb x s) in
    record {
      twelve = via (first r a b c) (other kind);
      eighteen = via (second r a b c) (two (there_is kind) (unsuited t m n));
      nineteen = via (third r a b c) (three (there_is kind) (suited t m n) (unequal x s));
      done = via (none r a b c) (three (there_is kind) (suited t m n) (equal x s));
      taken = given r a b c;
      blank = empty r a b c;
    }

-- the writer's answer and its room by its two tests
abbrev written_by_lem : Bool → Bool → ℕ → Written
written_by_lem a b n = cond a (record { number = 17; len = 0 }) (cond b (record { number = 15; len = 0 }) (record { number = 0; len = n }))

module _ (n : ℕ) (before after : List ℕ) where
  over_first : (a b : Bool) → Exactly ((written_by_lem a b n).number ≡ 17) (a ≡ true)
  over_first true b = (λ e. refl, λ e. refl)
  over_first false true = (λ e. absurd (omega arith), λ e. absurd (clash e refl))
  over_first false false = (λ e. absurd (omega arith), λ e. absurd (clash e refl))

  room_second : (a b : Bool) → Exactly ((written_by_lem a b n).number ≡ 15) ((a ≡ false) × (b ≡ true))
  room_second true b = (λ e. absurd (omega arith), λ e. absurd (clash refl e.0))
  room_second false true = (λ e. (refl, refl), λ e. refl)
  room_second false false = (λ e. absurd (omega arith), λ e. absurd (clash e.1 refl))

  both_good : (a b : Bool) → Exactly ((written_by_lem a b n).number ≡ 0) ((a ≡ false) × (b ≡ false))
  both_good true b = (λ e. absurd (omega arith), λ e. absurd (clash refl e.0))
  both_good false true = (λ e. absurd (omega arith), λ e. absurd (clash refl e.1))
  both_good false false = (λ e. (refl, refl), λ e. refl)

  put : (a b : Bool) → (written_by_lem a b n).number ≡ 0 → ((written_by_lem a b n).len ≡ n) × (cond a before (cond b before after) ≡ after)
  put true b e = absurd (omega arith)
  put false true e = absurd (omega arith)
  put false false e = (refl, refl)

  kept : (a b : Bool) → ((written_by_lem a b n).number ≡ 0 → ⊥) → ((written_by_lem a b n).len ≡ 0) × (cond a before (cond b before after) ≡ before)
  kept true b h = (refl, refl)
  kept false true h = (refl, refl)
  kept false false h = absurd (h refl)

pub writer : (address code : ℕ) (ds room : List ℕ) → Writer address code ds room
unfolding written_of room_after
writer address code ds room =
    let n : ℕ = length ds + 4 in
    let after : List ℕ = pasted 0 (written address code ds) room in
    let a : Bool = unfit address code ds in
    let b : Bool = cramped ds room in
    record {
      seventeen = via (over_first n room after a b) (over address code ds);
      fifteen = via (room_second n room after a b) (two (within address code ds) (less (length room) n));
      done = via (both_good n room after a b) (two (within address code ds) (not_less (length room) n));
      wrote = put n room after a b;
      untouched = kept n room after a b;
    }
