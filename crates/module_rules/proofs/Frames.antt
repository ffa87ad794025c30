-- Who a frame is for, who replies, and what the commands of every type store, by the frame's bytes. Assumes nothing.
use mathlib.Core.Path.{◌≡◌, refl, ap, ap₂, ◌∙◌}
use mathlib.Core.Logic.{◌⊎◌, inl, inr, ⊎_elim, ◌↔◌}
use mathlib.Core.List.{List, [], ◌∷◌}
use mathlib.Core.Bool.{Bool, true, false, ◌||◌, false≢true}
use Prim.Native.Nat.{ℕ, ◌+◌, ◌%◌}
use native.Mathlib.Omega.{arith}
use borrow.Author.Tests.{eqb-true, eq-eqb, ne_eqb, lt-ltb, le-ltb}
use lib.ListN.{length}
use lib.Dec.{eqb}
use Rattle.module_rules.specs.declared.Address.{Address}
use Rattle.module_rules.specs.declared.Station.{Station}
use Rattle.module_rules.specs.declared.Setting.{Setting}
use Rattle.module_rules.specs.declared.Setting.TheVariants.{Assign, Define, Rate, Nothing}
use Rattle.module_rules.specs.declared.Fault.{Fault}
use Rattle.module_rules.specs.declared.Fault.TheVariants.{Count, Value}
use Rattle.module_rules.specs.Commands.{asked, assigned, applied, caused}
use Rattle.module_rules.specs.Kind.{Kind}
use Rattle.module_rules.specs.Rules.{malformed, set, fault_cause, Rules, request, settled, execute}
use Rattle.module_rules.specs.Promises.{Apart}
use Rattle.module_rules.specs.FramePromises.{PowersUp, Concerned, Replying, undamaged, Becomes, Stored, Counts}
use Rattle.module_rules.proofs.Settled.{settles}
use Rattle.module_rules.proofs.Speaking.{speaks_before}
use Rattle.module_rules.proofs.ItemAsks.{define_asks, read_asks}

pub powers_up : PowersUp
powers_up = record { individual = refl; group = refl; leader = refl; low = refl; cause = refl; items = refl; baud = refl }

-- a test or another, told by what each says
either : {A B : Type 0} (s t : Bool) → (s ≡ true) ↔ A → (t ≡ true) ↔ B → ((s || t) ≡ true) ↔ (A ⊎ B)
either true t a b = (λ e. inl (a.0 refl), λ h. refl)
either false t a b = (λ e. inr (b.0 e), λ h. ⊎_elim (λ x. absurd (false≢true (a.1 x))) (λ y. b.1 y) h)

equal : (m n : ℕ) → (eqb m n ≡ true) ↔ (m ≡ n)
equal m n = (eqb-true m n, eq-eqb m n)

pub concerned : Concerned
concerned a w =
    let one = equal w.individual a in
    record {
      alone = one;
      touched = either (eqb w.individual a) (eqb w.group a) one (equal w.group a);
      speaking = either (eqb w.individual a) w.leader one (λ e. e, λ e. e);
    }

module _ {M S : Type 0} (K : Kind M S) where
  pub replying : Replying K
  replying = record {
    alone = λ f m e. (speaks_before K).1 f m ((concerned f.address (K.address m)).speaking.1 (inl e));
    leader = λ f m e. (speaks_before K).1 f m ((concerned f.address (K.address m)).speaking.1 (inr e));
    member = λ f m n e.
        (speaks_before K).0 f m (ap₂ (λ (s t : Bool). s || t) (ne_eqb (K.address m).individual f.address n) e);
  }

module _ {M S C : Type 0} (T : Rules M S C) (p : Apart T) where
  becomes : {m n : M} {s : Station} → n ≡ T.with_station s m → Becomes T m n s
  becomes {m} {n} {s} e = record { station = ap (λ (n : M). T.station n) e ∙ p.put s m; rest = e }

  -- a setting and the cause 0, put one after the other, are put as one
  set-once : (z : Setting) (m : M) → settled T (set z) m ≡ T.with_station (caused 0 (applied z (T.station m))) m
  set-once z m =
      let s : Station = applied z (T.station m) in
      ap (λ (x : Station). T.with_station (caused 0 x) (T.with_station s m)) (p.put s m) ∙ p.again (caused 0 s) s m

  -- Set Address, by what its bytes say
  addressed : (a b : ℕ) (m : M) (w : Address) → assigned a b ≡ w
      → settled T (set (Assign a b)) m ≡ T.with_station (record { address = w; cause = 0; items = (T.station m).items; baud = (T.station m).baud }) m
  addressed a b m w e =
      set-once (Assign a b) m
      ∙ ap (λ (w : Address). T.with_station (record { address = w; cause = 0; items = (T.station m).items; baud = (T.station m).baud }) m) e

  -- a frame that can't be read
  pub unread : (x : Fault) (to code : ℕ) (ds : List ℕ) (alone : Bool) (m : M) → request T (undamaged to code ds) alone ≡ malformed x
      → Becomes T m (execute T (undamaged to code ds) alone m) (caused (fault_cause x) (T.station m))
  unread x to code ds alone m q = becomes (settles T (undamaged to code ds) alone m refl q)

  not_shown : (to b code : ℕ) (alone : Bool) (m : M) → (code ≡ 2) ⊎ (code ≡ 3) → T.shows b ≡ false
      → Becomes T m (execute T (undamaged to code (b ∷ [])) alone m) (caused 5 (T.station m))
  not_shown to b code alone m (inl c) e = unread Value to code (b ∷ []) alone m (rw c (define_asks T to b alone false e))
  not_shown to b code alone m (inr c) e = unread Value to code (b ∷ []) alone m (rw c (read_asks T to b alone false e))

  pub stored : Stored T
  unfolding execute request asked
  stored to alone m = record {
    leader = λ a b h.
        let g : 128 + b % 128 ≡ 128 + b = omega arith in
        becomes (addressed a b m _ (ap₂ (λ (g : ℕ) (t : Bool). record { individual = a; group = g; leader = t; low = true }) g (lt-ltb b 128 h)));
    member = λ a b h l.
        let g : 128 + b % 128 ≡ b = omega arith in
        becomes (addressed a b m _ (ap₂ (λ (g : ℕ) (t : Bool). record { individual = a; group = g; leader = t; low = true }) g (le-ltb b 128 h)));
    items = λ b g. becomes (settles T (undamaged to 2 (b ∷ [])) alone m refl (define_asks T to b alone true g) ∙ set-once (Define b) m);
    baud = λ b. becomes (set-once (Rate b) m);
    not_alone = λ ds. becomes refl;
    read_status = λ b g. becomes (settles T (undamaged to 3 (b ∷ [])) alone m refl (read_asks T to b alone true g) ∙ set-once Nothing m);
    not_shown = λ b code c g. not_shown to b code alone m c g;
    no_op = becomes (set-once Nothing m);
  }

  pub counts : Counts T
  unfolding request asked
  counts = record {
    set_address = λ alone to ds m n. unread Count to 1 ds alone m (rw (ne_eqb (length ds) 2 n));
    define_status = λ alone to ds m n. unread Count to 2 ds alone m (rw (ne_eqb (length ds) 1 n));
    read_status = λ alone to ds m n. unread Count to 3 ds alone m (rw (ne_eqb (length ds) 1 n));
    set_baud = λ to ds m n. unread Count to 10 ds false m (rw (ne_eqb (length ds) 1 n));
    no_op = λ alone to ds m n. unread Count to 14 ds alone m (rw (ne_eqb (length ds) 0 n));
    hard_reset = λ alone to ds m n. unread Count to 15 ds alone m (rw (ne_eqb (length ds) 0 n));
  }
