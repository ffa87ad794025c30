-- The data bytes of a load are read as the parts that they are put together from. Assumes nothing.
use mathlib.Core.Path.{◌≡◌, refl, sym, ap, ap₂, ◌∙◌}
use mathlib.Core.List.{List, [], ◌∷◌, ◌++◌, append_assoc}
use mathlib.Core.Bool.{Bool, true, false, cond}
use Prim.Native.Nat.{ℕ, zero, suc, ◌+◌, ◌*◌, ◌/◌, ◌%◌, ◌<◌}
use native.Mathlib.Nat.{div-one}
use native.Mathlib.Omega.{arith}
use borrow.Author.Tests.{eqb-true}
use lib.Count.{ones, ones_step, ones-le}
use lib.Dec.{eqb}
use lib.ListN.{length, get_or, take, drop, length-append, take-append-drop, length-drop}
use lib.Seq.{length-take-le, get_or_at}
use Rattle.base_integers.specs.Bits.{bit, is_set}
use Rattle.base_layout.specs.Bytes.{of_le, read_at}
use Rattle.base_layout.proofs.Laws.{read_back}
use Rattle.servo_rules.specs.Carried.{needed, carried_at, carried_in}
use Rattle.servo_rules.specs.BytePromises.{carrying, load_bytes, Fours, LoadParts, LoadCount}

-- a bit is 0 or 1, and set or not accordingly
pub set-bit : (k c n : ℕ) → cond (is_set k c) n 0 ≡ n * bit k c
set-bit k c n = at (bit k c) (omega arith)
  where
    at : (b : ℕ) → b < 2 → cond (eqb b 1) n 0 ≡ n * b
    at zero h = omega arith
    at (suc zero) h = omega arith
    at (suc (suc b)) h = absurd (omega arith)

pub unset_bit : (k c : ℕ) → is_set k c ≡ false → bit k c ≡ 0
unset_bit k c q = let none : 0 ≡ 1 * bit k c = ap (λ (t : Bool). cond t 1 0) (sym q) ∙ set-bit k c 1 in omega arith

-- how many bytes a bit announces
length-carrying : (k c n : ℕ) (xs : List ℕ) → length xs ≡ n → length (carrying k c xs) ≡ n * bit k c
length-carrying k c n xs e = at (is_set k c) ∙ set-bit k c n
  where
    at : (t : Bool) → length (cond t xs []) ≡ cond t n 0
    at true = e
    at false = refl

-- the count, bit by bit
needed_is : (c : ℕ) → needed c ≡ 1 + 4 * bit 0 c + 4 * bit 1 c + 4 * bit 2 c + bit 3 c
needed_is c =
    let half : c / 2 ≡ 2 * (2 * (c / 8)) + c % 8 / 2 = omega arith in
    let quarter : c / 4 ≡ 2 * (c / 8) + c % 8 / 2 / 2 = omega arith in
    let x : c % 8 % 2 ≡ bit 0 c = omega (arith, div-one c) in
    let y : c % 8 / 2 % 2 ≡ bit 1 c = odd (2 * (c / 8)) (c % 8 / 2) half in
    let z : c % 8 / 2 / 2 % 2 ≡ bit 2 c = odd (c / 8) (c % 8 / 2 / 2) quarter in
    sum (bit 3 c) (three (c % 8) (omega arith)) x y z
  where
    odd : {n : ℕ} (q r : ℕ) → n ≡ 2 * q + r → r % 2 ≡ n % 2
    odd q r e = omega arith

    three : (n : ℕ) → n < 8 → ones n ≡ n % 2 + n / 2 % 2 + n / 2 / 2 % 2
    three n h = omega (arith, ones_step n, ones_step (n / 2), ones_step (n / 2 / 2), ones-le 0 (n / 2 / 2 / 2) (omega arith))

    sum : {o x y z u v w : ℕ} (b : ℕ) → o ≡ x + y + z → x ≡ u → y ≡ v → z ≡ w → 1 + 4 * o + b ≡ 1 + 4 * u + 4 * v + 4 * w + b
    sum b e f g h = omega arith

-- what is carried between two lists is read back
read_carried : (k c at : ℕ) (before x after : List ℕ) → length x ≡ 4 → length before ≡ at
    → carried_at (is_set k c) at (before ++ carrying k c x ++ after) ≡ cond (is_set k c) (of_le x) 0
read_carried k c at before x after e b = by (is_set k c)
  where
    by : (t : Bool) → carried_at t at (before ++ cond t x [] ++ after) ≡ cond t (of_le x) 0
    by true = ap of_le (ap₂ (λ (n j : ℕ). read_at n j (before ++ x ++ after)) (sym e) (sym b) ∙ read_back x before after)
    by false = refl

module _ (c : ℕ) (p v a : List ℕ) (u : ℕ) (four : Fours p v a) where
  abbrev place : List ℕ
  place = carrying 0 c p

  abbrev velocity : List ℕ
  velocity = carrying 1 c v

  abbrev acceleration : List ℕ
  acceleration = carrying 2 c a

  abbrev pulse : List ℕ
  pulse = carrying 3 c (u ∷ [])

  -- where each part begins
  to_velocity : length (c ∷ place) ≡ 1 + 4 * bit 0 c
  to_velocity = omega (arith, length-carrying 0 c 4 p four.place)

  to_acceleration : length (c ∷ place ++ velocity) ≡ 1 + 4 * bit 0 c + 4 * bit 1 c
  to_acceleration = omega (arith, to_velocity, length-append (c ∷ place) velocity, length-carrying 1 c 4 v four.velocity)

  to_pulse : length (c ∷ place ++ velocity ++ acceleration) ≡ 1 + 4 * bit 0 c + 4 * bit 1 c + 4 * bit 2 c
  to_pulse = omega (arith, to_acceleration, length-append (c ∷ place ++ velocity) acceleration, length-carrying 2 c 4 a four.acceleration)

  pub length-load : length (load_bytes c p v a u) ≡ needed c
  length-load =
      omega (arith, to_pulse, length-append (c ∷ place ++ velocity ++ acceleration) (carrying 3 c (u ∷ [])), length-carrying 3 c 1 (u ∷ []) refl, needed_is c)

  -- the PWM value stands last
  read_pulse : cond (is_set 3 c) (get_or (c ∷ place ++ velocity ++ acceleration ++ pulse) (1 + 4 * bit 0 c + 4 * bit 1 c + 4 * bit 2 c) 0) 0 ≡ cond (is_set 3 c) u 0
  read_pulse = by (is_set 3 c)
    where
      by : (t : Bool)
          → cond t (get_or (c ∷ place ++ velocity ++ acceleration ++ cond t (u ∷ []) []) (1 + 4 * bit 0 c + 4 * bit 1 c + 4 * bit 2 c) 0) 0 ≡ cond t u 0
      by true = get_or_at (c ∷ place ++ velocity ++ acceleration) u [] 0 _ to_pulse
      by false = refl

  pub nested : load_bytes c p v a u ≡ c ∷ place ++ (velocity ++ (acceleration ++ pulse))
  nested = append_assoc (c ∷ place ++ velocity) acceleration pulse ∙ append_assoc (c ∷ place) velocity (acceleration ++ pulse)

  -- what is read from them all
  pub carried_parts : carried_in (load_bytes c p v a u)
      ≡ record {
        control = c;
        place = cond (is_set 0 c) (of_le p) 0;
        velocity = cond (is_set 1 c) (of_le v) 0;
        acceleration = cond (is_set 2 c) (of_le a) 0;
        pulse = cond (is_set 3 c) u 0;
      }
  unfolding carried_in
  carried_parts =
      let near : c ∷ place ++ velocity ++ acceleration ++ pulse ≡ c ∷ place ++ velocity ++ (acceleration ++ pulse) =
      append_assoc (c ∷ place ++ velocity) acceleration pulse in
      ap₂ (λ (x : ℕ × ℕ) (y : ℕ × ℕ). record { control = c; place = x.0; velocity = x.1; acceleration = y.0; pulse = y.1 })
      (ap₂ (λ (x y : ℕ). (x, y))
      (ap (carried_at (is_set 0 c) 1) nested ∙ read_carried 0 c 1 (c ∷ []) p (velocity ++ (acceleration ++ pulse)) four.place refl)
      (ap (carried_at (is_set 1 c) (1 + 4 * bit 0 c)) near ∙ read_carried 1 c _ (c ∷ place) v (acceleration ++ pulse) four.velocity to_velocity))
      (ap₂ (λ (x y : ℕ). (x, y))
      (read_carried 2 c _ (c ∷ place ++ velocity) a pulse four.acceleration to_acceleration)
      read_pulse)

-- where so many bytes are left, those that a bit announces stand first
record Chopped (k c n : ℕ) (r : List ℕ) : Type 0 where
  four : List ℕ
  rest : List ℕ
  count : length four ≡ 4
  whole : r ≡ carrying k c four ++ rest
  left : length rest ≡ n

chop : (k c n : ℕ) (r : List ℕ) → length r ≡ 4 * bit k c + n → Chopped k c n r
chop k c n r e = by (is_set k c) refl
  where
    by : (t : Bool) → is_set k c ≡ t → Chopped k c n r
    by true q =
        let one = eqb-true (bit k c) 1 q in
        record {
          four = take 4 r;
          rest = drop 4 r;
          count = length-take-le 4 r (omega arith);
          whole = rw q (sym (take-append-drop 4 r));
          left = omega (arith, length-drop 4 r);
        }
    by false q =
        let none = unset_bit k c q in
        record { four = 0 ∷ 0 ∷ 0 ∷ 0 ∷ []; rest = r; count = refl; whole = rw q refl; left = omega arith }

record Last (c : ℕ) (r : List ℕ) : Type 0 where
  value : ℕ
  whole : r ≡ carrying 3 c (value ∷ [])

last : (c : ℕ) (r : List ℕ) → length r ≡ bit 3 c → Last c r
last c r e = by r (is_set 3 c) refl e
  where
    by : (r : List ℕ) (t : Bool) → is_set 3 c ≡ t → length r ≡ bit 3 c → Last c r
    by [] true q h = absurd (omega (arith, eqb-true (bit 3 c) 1 q))
    by (x ∷ []) true q h = record { value = x; whole = rw q refl }
    by (x ∷ y ∷ r) true q h = absurd (omega (arith, eqb-true (bit 3 c) 1 q))
    by [] false q h = record { value = 0; whole = rw q refl }
    by (x ∷ r) false q h = absurd (omega (arith, unset_bit 3 c q))

-- three of the one kind and one of the other are a load's bytes
joined : (c x y z : ℕ) (r : List ℕ) (p : Chopped 0 c x r) (v : Chopped 1 c y p.rest) (a : Chopped 2 c z v.rest)
    → Last c a.rest → LoadParts (c ∷ r)
joined c x y z r p v a u =
    let four : Fours p.four v.four a.four = record { place = p.count; velocity = v.count; acceleration = a.count } in
    record {
      place = p.four;
      velocity = v.four;
      acceleration = a.four;
      pulse = u.value;
      fours = four;
      whole =
          ap (λ (r : List ℕ). c ∷ r)
          (p.whole
          ∙ ap (λ (r : List ℕ). carrying 0 c p.four ++ r)
          (v.whole ∙ ap (λ (r : List ℕ). carrying 1 c v.four ++ r) (a.whole ∙ ap (λ (r : List ℕ). carrying 2 c a.four ++ r) u.whole)))
          ∙ sym (nested c p.four v.four a.four u.value four);
    }

load_parts_lem : (ds : List ℕ) → length ds ≡ needed (get_or ds 0 0) → LoadParts ds
load_parts_lem [] e = absurd (omega (arith, needed_is 0))
load_parts_lem (c ∷ r) e =
    let p = chop 0 c (4 * bit 1 c + (4 * bit 2 c + bit 3 c)) r (omega (arith, needed_is c)) in
    let v = chop 1 c (4 * bit 2 c + bit 3 c) p.rest p.left in
    let a = chop 2 c (bit 3 c) v.rest v.left in
    joined c _ _ _ r p v a (last c a.rest a.left)

pub load_count : LoadCount
load_count = record { needs = length-load; parts = load_parts_lem }
