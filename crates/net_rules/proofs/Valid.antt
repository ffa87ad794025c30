-- What a valid record is, fact by fact. Assumes nothing.
use mathlib.Core.Path.{◌≡◌}
use mathlib.Core.List.{List}
use mathlib.Core.Bool.{Bool, true, false, cond, ◌&&◌}
use Prim.Native.Nat.{ℕ, ◌≤◌}
use lib.ListN.{length, get_or, drop}
use lib.Dec.{eqb, leb}
use borrow.Author.Tests.{leb-true, le-leb, eqb-true, eq-eqb}
use Rattle.module_rules.specs.Slots.{Slots}
use Rattle.net_rules.specs.Record.{count_at, slots_at, record_size, ok_receiver, ok_slots, valid, chain_most}
use Rattle.net_rules.proofs.Tests.{cond_true, and-true}

pub record Valid {M : Type 0} (L : Slots M) (s : List ℕ) : Type 0 where
  pub size : length s ≡ record_size
  pub some : 1 ≤ get_or s count_at 0
  pub most : get_or s count_at 0 ≤ chain_most
  pub receiver : ok_receiver s ≡ true
  pub slots : ok_slots L (get_or s count_at 0) (drop slots_at s) ≡ true

module _ {M : Type 0} (L : Slots M) (s : List ℕ) where
  pub valid_is : valid L s ≡ true → Valid L s
  unfolding valid
  valid_is v =
      let inner : Bool = ok_receiver s && ok_slots L (get_or s count_at 0) (drop slots_at s) in
      let counted : Bool = leb 1 (get_or s count_at 0) && leb (get_or s count_at 0) chain_most in
      let a = cond_true (eqb (length s) record_size) (cond counted inner false) v in
      let b = cond_true counted inner a.1 in
      let c = and-true (leb 1 (get_or s count_at 0)) (leb (get_or s count_at 0) chain_most) b.0 in
      let d = and-true (ok_receiver s) (ok_slots L (get_or s count_at 0) (drop slots_at s)) b.1 in
      record {
        size = eqb-true (length s) record_size a.0;
        some = leb-true 1 (get_or s count_at 0) c.0;
        most = leb-true (get_or s count_at 0) chain_most c.1;
        receiver = d.0;
        slots = d.1;
      }

  pub is_valid : Valid L s → valid L s ≡ true
  unfolding valid
  is_valid v =
      rw (
        eq-eqb (length s) record_size v.size,
        le-leb 1 (get_or s count_at 0) v.some,
        le-leb (get_or s count_at 0) chain_most v.most,
        v.receiver,
        v.slots,
      )
