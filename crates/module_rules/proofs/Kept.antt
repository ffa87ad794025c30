-- A module that a slot can hold stays one, whatever comes, for every type that owes what it owes. Assumes nothing.
use mathlib.Core.Path.{◌≡◌}
use mathlib.Core.List.{List}
use mathlib.Core.Bool.{Bool, true, false, cond}
use Prim.Native.Nat.{ℕ, ◌≤◌}
use native.Mathlib.Omega.{arith}
use lib.ListN.{length, get_or}
use Rattle.line_receiver.specs.Frames.{Frame}
use Rattle.module_rules.specs.declared.Station.{Station}
use Rattle.module_rules.specs.declared.Setting.{Setting}
use Rattle.module_rules.specs.declared.Fault.{Fault}
use Rattle.module_rules.specs.declared.Setting.TheVariants.{Assign, Define, Rate, Nothing}
use Rattle.module_rules.specs.Commands.{applied}
use Rattle.module_rules.specs.Slots.{Slots, Preserves}
use Rattle.module_rules.specs.Rules.{Request, malformed, set, wants, Meaning, unknown, takes, fault_cause, Rules, with_cause, request, settled, execute, reply, kind_of}
use Rattle.module_rules.specs.Owes.{Safe, Owes, reply_size}
use Rattle.module_rules.proofs.StationKept.{caused_fits, Sized, applied_fits}
use Rattle.module_rules.proofs.Settled.{pick, Of, fault_small, asks}
use Rattle.module_rules.proofs.Replies.{short}

module _ {M S C : Type 0} (T : Rules M S C) (L : Slots M) (Good : S → Type 0) (o : Owes T L Good) where
  -- a request that keeps every module such as a slot can hold
  abbrev Keeps : Request C → Type 0
  Keeps q = (m : M) → L.fits m → L.fits (settled T q m)

  caused-held : (c : ℕ) → c ≤ 5 → (m : M) → L.fits m → L.fits (with_cause T c m)
  caused-held c h m t = o.with_station _ m (caused_fits c h (T.station m) (o.held m t)) (o.shown m t) t

  -- a setting leaves the items, or puts an item byte that there is
  Chosen : Setting → Type 0
  Chosen z = (s : Station) → T.shows s.items ≡ true → T.shows (applied z s).items ≡ true

  set_keeps : (z : Setting) → Sized z → Chosen z → Keeps (set z)
  unfolding Chosen
  set_keeps z h g m t =
      caused-held 0 (omega arith) _ (o.with_station _ m (applied_fits z h (T.station m) (o.held m t)) (g (T.station m) (o.shown m t)) t)

  fault_keeps : (x : Fault) → Keeps (malformed x)
  fault_keeps x m t = caused-held (fault_cause x) (fault_small x) m t

  own_keeps : (ds : List ℕ) (u : Meaning C) → Safe T L Good u → Of (λ (c : C). Keeps (wants c)) ds u
  own_keeps ds unknown s = tt
  own_keeps ds (takes n good c) s = λ e g m t.
      pick (λ (n : M). L.fits n) (T.can c m) _ _ (λ e. caused-held 0 (omega arith) _ (s g m t e)) (caused-held 3 (omega arith) m t)

  frame_keeps : (d : Bool) (q : Request C) → Keeps q → (m : M) → L.fits m → L.fits (cond d (with_cause T 1 m) (settled T q m))
  frame_keeps true q k m t = caused-held 1 (omega arith) m t
  frame_keeps false q k m t = k m t

  pub preserves : Preserves (kind_of T) L Good
  unfolding execute Chosen
  preserves = record {
    execute = λ f alone m b t.
        frame_keeps f.damaged (request T f alone)
        (asks T Keeps f alone
        (record {
          malformed = fault_keeps;
          assign = λ e. set_keeps (Assign (get_or f.content 0 0) (get_or f.content 1 0)) (b 0) (λ s g. g);
          define = λ e g. set_keeps (Define (get_or f.content 0 0)) (b 0) (λ s k. g);
          rate = λ e. set_keeps (Rate (get_or f.content 0 0)) (b 0) (λ s g. g);
          nothing = λ e. set_keeps Nothing tt (λ s g. g);
          reset = λ e m t. caused-held 0 (omega arith) (T.renewed m) (o.renewed m t);
          own = own_keeps f.content (T.own f.code f.content) (o.own f.code f.content b);
        }))
        m t;
    tick = o.tick;
  }

  pub reply_most : (f : Frame) (m : M) → length (reply T f m) ≤ reply_size
  reply_most f m = omega (arith, short T f m, o.small)
