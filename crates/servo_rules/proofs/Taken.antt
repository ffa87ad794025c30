-- Which frames are taken, and what is wrong with the others. Assumes nothing.
use mathlib.Core.Path.{refl}
use mathlib.Core.Bool.{◌&&◌, and-false}
use borrow.Author.Tests.{eq-eqb, ne_eqb}
use lib.ListN.{get_or}
use lib.Dec.{eqb}
use Rattle.module_rules.specs.Commands.{asked}
use Rattle.module_rules.specs.Rules.{request}
use Rattle.servo_rules.specs.Asks.{load_meant, gains_in, gains_fit, gain_meant, stop_meant, own}
use Rattle.servo_rules.specs.AskPromises.{LoadRead, GainRead, StopRead, Unknown}

pub load_read : LoadRead
unfolding load_meant
load_read ds = record {
  read = λ n v. rw (eq-eqb _ _ n, v);
  count = λ n. rw (ne_eqb _ _ n);
  value = λ n v. rw (eq-eqb _ _ n, v);
}

pub gain_read : GainRead
unfolding gain_meant
gain_read ds = record {
  read = λ n v s d. rw (eq-eqb _ _ n, v, eq-eqb _ _ s, eq-eqb _ _ d);
  count = λ n. rw (ne_eqb _ _ n);
  value = λ n v. rw (eq-eqb _ _ n, v);
  rate = λ n s. rw (eq-eqb _ _ n, ne_eqb _ _ s, and-false (gains_fit (gains_in ds)));
  band = λ n d. rw (eq-eqb _ _ n, ne_eqb _ _ d, and-false (gains_fit (gains_in ds) && eqb (get_or ds 12 0) 1));
}

pub stop_read : StopRead
unfolding stop_meant
stop_read ds = record {
  read = λ n v. rw (v, eq-eqb _ _ n);
  count = λ n. rw (ne_eqb _ _ n);
  value = λ n v. rw (eq-eqb _ _ n, v);
}

pub unknown : Unknown
unfolding request asked own
unknown f alone n0 n1 n2 n3 n4 n5 n6 n7 n9 n10 n11 n14 n15 =
    rw (ne_eqb _ _ n1, ne_eqb _ _ n2, ne_eqb _ _ n3, ne_eqb _ _ n10, ne_eqb _ _ n14, ne_eqb _ _ n15)
    (rw (ne_eqb _ _ n0, ne_eqb _ _ n4, ne_eqb _ _ n5, ne_eqb _ _ n6, ne_eqb _ _ n7, ne_eqb _ _ n9, ne_eqb _ _ n11) refl)
