-- What a reply is, how long it is at most, and what Hard Reset leaves. Assumes nothing.
use mathlib.Core.Path.{◌≡◌, refl, sym, ap, ◌∙◌}
use mathlib.Core.Bool.{Bool, and-false}
use Prim.Native.Nat.{ℕ}
use borrow.Author.Tests.{eq-eqb, ne_eqb, not-false}
use lib.ListN.{length}
use lib.Dec.{eqb}
use Rattle.line_receiver.specs.Frames.{Frame}
use Rattle.module_rules.specs.declared.Station.{Station}
use Rattle.module_rules.specs.Touch.{power_up}
use Rattle.module_rules.specs.Commands.{asked, caused}
use Rattle.module_rules.specs.Report.{report, reply_of}
use Rattle.module_rules.specs.Rules.{reset, Rules, joined, request, execute, reply}
use Rattle.module_rules.specs.Promises.{Apart, is_out_of_range, ReadShown, Resets, StatusFirst, Replied, Short}
use Rattle.module_rules.proofs.Short.{reply_short}
use Rattle.module_rules.proofs.Settled.{cause}
use Rattle.module_rules.proofs.Tested.{cause-tested}

module _ {M S C : Type 0} (T : Rules M S C) where
  pub status_first : StatusFirst T
  unfolding reply reply_of report
  status_first f m e = rw e refl

  pub replied : Replied T
  unfolding reply reply_of
  replied f m = record {
    reset = λ c e. rw (eq-eqb _ _ c, eq-eqb _ _ e);
    read = λ c e. rw (c, eq-eqb _ _ e);
    defined = λ n3 n15. rw (ne_eqb _ _ n3, ne_eqb _ _ n15);
    refused = λ n. rw (ne_eqb _ _ n, and-false (eqb f.code 15), and-false (eqb f.code 3));
  }

  pub short : Short T
  unfolding reply
  short f m = reply_short f (T.station m) (T.status m) T.sizes (T.numbers m)

  -- code 15 with no data asks for a reset
  pub asks_reset : (f : Frame) (alone : Bool) → f.code ≡ 15 → length f.content ≡ 0 → request T f alone ≡ reset
  unfolding request asked
  asks_reset f alone c n = rw (c, n)

  pub read_shown : Apart T → ReadShown T
  unfolding asked
  read_shown a f alone m c e =
      let none = (cause-tested T a f alone m).none.0 e in
      not-false _ (ap (λ (code : ℕ). is_out_of_range T (joined T.shows (asked code alone f.content) (T.own f.code f.content))) (sym c) ∙ none.1.1.1.0)

  pub resets : Apart T → Resets T
  resets a f alone m d c n =
      let e = (cause T a f alone m).renewed d (asks_reset f alone c n) in
      let s : T.station (execute T f alone m) ≡ power_up =
      ap (λ (m : M). T.station m) e ∙ a.put (caused 0 (T.station (T.renewed m))) (T.renewed m) ∙ ap (caused 0) (a.renewed m) in
      record { whole = e; station = s; silent = (replied f (execute T f alone m)).reset c (ap (λ (s : Station). s.cause) s) }
