-- The tables stand in their order. Assumes nothing.
use mathlib.Core.Path.{refl}
use native.Mathlib.Omega.{arith}
use Rattle.api_rules.specs.Promises.{Tables}

pub tables : Tables
tables = record {
  setup = λ net types. (refl, (omega arith, (omega arith, (omega arith, tt))));
  byte = λ net mark room. (refl, (omega arith, (omega arith, (omega arith, tt))));
  buffer = λ net bytes marks room. (refl, (omega arith, (omega arith, (omega arith, (omega arith, tt)))));
  tick = λ net samples. (refl, (omega arith, (omega arith, (omega arith, (omega arith, tt)))));
  place = λ net place. (refl, (omega arith, (omega arith, tt)));
  import = λ text room. (refl, (omega arith, (omega arith, tt)));
  export = λ rs room. (refl, (omega arith, (omega arith, tt)));
}
