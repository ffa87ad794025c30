-- The items, number by number. Assumes nothing.
use mathlib.Core.Path.{refl}
use Rattle.servo_rules.specs.Answers.{numbers_of}
use Rattle.servo_rules.specs.Promises.{ItemsAre}

pub items_are : ItemsAre
unfolding numbers_of
items_are m = record {
  place = refl;
  ad = refl;
  change = refl;
  zero = (refl, refl);
  home = refl;
  version = refl;
  error = refl;
  bytes = refl;
}
