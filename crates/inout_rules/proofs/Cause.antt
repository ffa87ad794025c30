-- Which causes an I/O module can have, and how its status byte tells them. Assumes nothing.
use mathlib.Core.Path.{◌≡◌, refl, sym, ap, ap₂, subst, ◌∙◌}
use mathlib.Core.List.{List}
use mathlib.Core.Bool.{Bool, true, false, cond}
use Prim.Native.Nat.{ℕ, zero, suc, ◌%◌}
use native.Mathlib.Nat.{pow-succ', div-eq_of_lt}
use native.Mathlib.Omega.{arith}
use borrow.Author.Tests.{eqb-true, eqb-false}
use lib.Dec.{eqb}
use lib.Pow.{pow_pos}
use Rattle.base_integers.specs.Bits.{bit}
use Rattle.module_rules.specs.declared.Asked.{Asked}
use Rattle.module_rules.specs.declared.Asked.TheVariants as Both
use Rattle.module_rules.specs.Commands.{asked}
use Rattle.module_rules.specs.Rules as AnyType
use Rattle.module_rules.specs.Promises.{is_unknown, is_miscounted, is_out_of_range, is_not_now}
use Rattle.module_rules.proofs.Tested.{cause-tested}
use Rattle.module_rules.proofs.Replies as Every
use Rattle.inout_rules.specs.declared.Io.{Io}
use Rattle.inout_rules.specs.declared.Command.{Command}
use Rattle.inout_rules.specs.Asks.{own}
use Rattle.inout_rules.specs.Answers.{inout}
use Rattle.inout_rules.specs.Promises.{Causes, CauseIs, Status, CauseBit, StatusFirst}
use Rattle.inout_rules.proofs.Apart.{apart}
use Rattle.inout_rules.proofs.Asks.{own_means}

-- a meaning whose values are good, and that can be carried out now
abbrev Fine : Io → AnyType.Meaning (AnyType.Request Command) → Type 0
Fine m u = (is_out_of_range inout u ≡ false) × (is_not_now inout m u ≡ false)

own_fine : (m : Io) (code : ℕ) (ds : List ℕ) → Fine m (AnyType.owned (own code ds))
own_fine m code ds =
    own_means (λ (u : AnyType.Meaning Command). Fine m (AnyType.owned u)) code ds (record {
      unknown = (refl, refl);
      direction = (refl, refl);
      pwm = (refl, refl);
      synch_output = (refl, refl);
      output = (refl, refl);
      synch_store = (refl, refl);
      timer = (refl, refl);
      synch_input = (refl, refl);
    })

all_fine : (m : Io) (a : Asked) (code : ℕ) (ds : List ℕ) → Fine m (AnyType.joined inout.shows a (own code ds))
all_fine m Both.Other code ds = own_fine m code ds
all_fine m Both.Unknown code ds = (refl, refl)
all_fine m (Both.Wants n s) code ds = (refl, refl)
all_fine m (Both.Chooses b s) code ds = (refl, refl)
all_fine m (Both.Reset n) code ds = (refl, refl)

-- the tests that are left: damaged, unknown, miscounted
few : (d u c : Bool) → Causes (cond d 1 (cond u 4 (cond c 2 0)))
few true u c = record { most = omega arith; ever_now = λ e. omega arith }
few false true c = record { most = omega arith; ever_now = λ e. omega arith }
few false false true = record { most = omega arith; ever_now = λ e. omega arith }
few false false false = record { most = omega arith; ever_now = λ e. omega arith }

pub cause_is : CauseIs
cause_is f alone m =
    let u : AnyType.Meaning (AnyType.Request Command) = AnyType.meaning inout f alone in
    let fine = all_fine m (asked f.code alone f.content) f.code f.content in
    let rest : Bool → Bool → ℕ = λ v n. cond f.damaged 1 (cond (is_unknown inout u) 4 (cond (is_miscounted inout f.content u) 2 (cond v 5 (cond n 3 0)))) in
    subst Causes (sym ((cause-tested inout apart f alone m).first ∙ ap₂ rest fine.0 fine.1))
    (few f.damaged (is_unknown inout u) (is_miscounted inout f.content u))

-- 0 has no bits, and 2 has only bit 1
no_bits : (k : ℕ) → bit k 0 ≡ 0
no_bits k = ap (λ (z : ℕ). z % 2) (div-eq_of_lt (pow_pos k))

one_bit : (k : ℕ) → (k ≡ 1 → ⊥) → bit k 2 ≡ 0
one_bit zero n = refl
one_bit (suc zero) n = absurd (n refl)
one_bit (suc (suc k)) n = ap (λ (z : ℕ). z % 2) (div-eq_of_lt (omega (arith, pow-succ' 2 (suc k), pow-succ' 2 k, pow_pos k)))

pub cause_bit_lem : CauseBit
cause_bit_lem c = go (eqb c 0) refl
  where
    go : (t : Bool) → eqb c 0 ≡ t → Status c (cond t 0 2)
    go true e = let z = eqb-true c 0 e in record { set = λ n. absurd (n z); clear = λ z. refl; others = λ k n. no_bits k }
    go false e = record { set = λ n. refl; clear = λ z. absurd (eqb-false c 0 e z); others = one_bit }

pub status_first : StatusFirst
status_first f m e = rw (Every.status_first inout f m e) (cause_bit_lem m.station.cause)
