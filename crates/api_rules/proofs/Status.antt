-- The status reader takes apart what a module of any type replies. Assumes nothing.
use mathlib.Core.Path.{◌≡◌, refl, sym, ap, subst⁻¹, ◌∙◌}
use mathlib.Core.List.{List, []}
use mathlib.Core.Bool.{Bool, true, false, cond, ◌&&◌}
use Prim.Native.Nat.{ℕ}
use borrow.Author.Tests.{eqb-true}
use lib.Dec.{eqb}
use Rattle.line_receiver.specs.Frames.{Frame}
use Rattle.module_rules.specs.declared.Station.{Station}
use Rattle.module_rules.specs.Touch.{individually, speaks}
use Rattle.module_rules.specs.Report.{report, items_for, reply_of, Fit}
use Rattle.module_rules.specs.Kind.{Kind, executed, replied}
use Rattle.module_rules.specs.Rules.{execute, reply, kind_of}
use Rattle.module_rules.proofs.Speaking.{speaks_before}
use Rattle.module_rules.proofs.Settled.{pick}
use Rattle.module_rules.proofs.Kept.{preserves}
use Rattle.types_rules.specs.Table.{ModuleType, Of, rules_of, slots_of}
use Rattle.types_rules.specs.Types.{sizes_of, shows_of, GoodOf}
use Rattle.types_rules.specs.Promises.{ThereIs}
use Rattle.types_rules.proofs.Owed.{owes}
use Rattle.types_rules.proofs.Laws.{type_back}
use Rattle.types_rules.proofs.Promised.{there_is, every_type}
use Rattle.net_rules.proofs.Tests.{and-true}
use Rattle.host_rules.specs.Reading.{status_of}
use Rattle.host_rules.proofs.Status.{taken}
use Rattle.api_rules.specs.Promises.{read_of, module_read, StatusRead}

-- a reply that is not nothing, read
module _ (kind : ℕ) (known : ThereIs kind) (f : Frame) (s : Station) (status : ℕ) (numbers : List ℕ) (fit : Fit (sizes_of kind) numbers)
    (shown : shows_of kind (items_for f s) ≡ true) where
  reply_is : (reply_of f s status (sizes_of kind) numbers ≡ [] → ⊥) → reply_of f s status (sizes_of kind) numbers ≡ report status (items_for f s) (sizes_of kind) numbers
  unfolding reply_of
  reply_is n = go (eqb f.code 15 && eqb s.cause 0) _ n
    where
      go : (t : Bool) (w : List ℕ) → (cond t [] w ≡ [] → ⊥) → cond t [] w ≡ w
      go true w n = absurd (n refl)
      go false w n = refl

  reply_read : (reply_of f s status (sizes_of kind) numbers ≡ [] → ⊥)
      → status_of kind (items_for f s) (reply_of f s status (sizes_of kind) numbers) ≡ read_of status (items_for f s) numbers
  reply_read n = ap (status_of kind (items_for f s)) (reply_is n) ∙ taken kind status (items_for f s) numbers known shown fit

-- a module that says something speaks
speaking : {M S : Type 0} (K : Kind M S) (f : Frame) (m : M) → (replied K f m ≡ [] → ⊥) → replied K f m ≡ K.reply f (executed K f m)
speaking K f m n = go (speaks f.address (K.address m)) refl
  where
    go : (t : Bool) → speaks f.address (K.address m) ≡ t → replied K f m ≡ K.reply f (executed K f m)
    go true e = (speaks_before K).1 f m e
    go false e = absurd (n ((speaks_before K).0 f m e))

-- the sizes that the reader takes are the type's own
sizes_are : (t : ModuleType) → sizes_of (rules_of t).number ≡ (rules_of t).sizes
sizes_are t = ap (λ (u : ModuleType). (rules_of u).sizes) (type_back t)

after : (t : ModuleType) (f : Frame) (m : Of t) → (slots_of t).fits m → (rules_of t).shows (items_for f ((rules_of t).station m)) ≡ true → (reply (rules_of t) f m ≡ [] → ⊥)
    → status_of (rules_of t).number (items_for f ((rules_of t).station m)) (reply (rules_of t) f m) ≡ module_read t f m
unfolding reply
after t f m h g n =
    let s : Station = (rules_of t).station m in
    let spelled : List ℕ → List ℕ = λ ks. reply_of f s ((rules_of t).status m) ks ((rules_of t).numbers m) in
    ap (λ (ks : List ℕ). status_of (rules_of t).number (items_for f s) (spelled ks)) (sym (sizes_are t))
    ∙ reply_read (rules_of t).number (there_is t) f s ((rules_of t).status m) ((rules_of t).numbers m)
    (subst⁻¹ (λ (ks : List ℕ). Fit ks ((rules_of t).numbers m)) (sizes_are t) ((owes t).numbers m h))
    (ap (λ (u : ModuleType). (rules_of u).shows (items_for f s)) (type_back t) ∙ g)
    (λ z. n (ap spelled (sym (sizes_are t)) ∙ z))

-- a reply's items are such as the type has: Read Status's, which it was executed with, or the defined ones
items_shown : (t : ModuleType) (f : Frame) (alone : Bool) (m : Of t) → (slots_of t).fits (execute (rules_of t) f alone m)
    → (rules_of t).shows (items_for f ((rules_of t).station (execute (rules_of t) f alone m))) ≡ true
items_shown t f alone m h =
    let s : Station = (rules_of t).station (execute (rules_of t) f alone m) in
    pick (λ (b : ℕ). (rules_of t).shows b ≡ true) (eqb f.code 3 && eqb s.cause 0) _ _
    (λ e.
    let (c, z) = and-true (eqb f.code 3) (eqb s.cause 0) e in
    (every_type t).read_shown f alone m (eqb-true _ _ c) (eqb-true _ _ z))
    ((owes t).shown (execute (rules_of t) f alone m) h)

pub status_read : StatusRead
status_read = record {
  after = after;
  before = λ t f m b h n.
      let K : Kind (Of t) _ = kind_of (rules_of t) in
      let q = speaking K f m n in
      let a = (preserves (rules_of t) (slots_of t) (GoodOf t) (owes t)).execute f (individually f.address (K.address m)) m b h in
      ap (status_of (rules_of t).number (items_for f ((rules_of t).station (executed K f m)))) q ∙ after t f (executed K f m) a (items_shown t f (individually f.address (K.address m)) m a) (λ z. n (q ∙ z));
}
