-- What a frame's cause is, that with any cause but 0 all else is as it was, and who a module stays on the line. Assumes nothing.
use mathlib.Core.Path.{◌≡◌, refl, sym, ap, ap₂, ◌∙◌}
use mathlib.Core.Logic.{◌⊎◌, inl, inr}
use mathlib.Core.List.{List}
use mathlib.Core.Bool.{Bool, true, false, cond}
use Prim.Native.Nat.{ℕ, ◌≤◌}
use native.Mathlib.Omega.{arith}
use borrow.Author.Tests.{eqb-true}
use lib.ListN.{length, get_or}
use lib.Dec.{eqb}
use Rattle.line_receiver.specs.Frames.{Frame}
use Rattle.module_rules.specs.declared.Station.{Station}
use Rattle.module_rules.specs.declared.Setting.{Setting}
use Rattle.module_rules.specs.declared.Setting.TheVariants.{Assign, Define, Rate, Nothing}
use Rattle.module_rules.specs.declared.Asked.{Asked}
use Rattle.module_rules.specs.declared.Fault.{Fault}
use Rattle.module_rules.specs.declared.Fault.TheVariants.{Unknown, Count, Value}
use Rattle.module_rules.specs.Commands.{asked, applied, caused}
use Rattle.module_rules.specs.Rules.{Request, malformed, set, reset, wants, Meaning, unknown, takes, fault_cause, judged, Rules, owned, joined, with_cause, request, settled, execute}
use Rattle.module_rules.specs.Promises.{Apart, Cause, CauseIs, AddressKept}

-- of one or the other, by a test
pub pick : {A : Type 0} (P : A → Type 0) (t : Bool) (q r : A) → (t ≡ true → P q) → P r → P (cond t q r)
pick P true q r g h = g refl
pick P false q r g h = h

-- P of what a meaning has, where the number of data bytes is right and the values are good
abbrev pub Of : {X : Type 0} → (X → Type 0) → List ℕ → Meaning X → Type 0
Of P ds unknown = Unit {0}
Of P ds (takes count good x) = length ds ≡ count → good ≡ true → P x

-- P of each request that a code and data bytes can be, if P holds of what the type's own codes mean
pub record Each {C : Type 0} (P : Request C → Type 0) (shows : ℕ → Bool) (code : ℕ) (ds : List ℕ) (u : Meaning C) : Type 0 where
  pub malformed : (x : Fault) → P (malformed x)
  pub assign : code ≡ 1 → P (set (Assign (get_or ds 0 0) (get_or ds 1 0)))
  pub define : code ≡ 2 → shows (get_or ds 0 0) ≡ true → P (set (Define (get_or ds 0 0)))
  pub rate : code ≡ 10 → P (set (Rate (get_or ds 0 0)))
  pub nothing : (code ≡ 3) ⊎ (code ≡ 14) → P (set Nothing)
  pub reset : code ≡ 15 → P reset
  pub own : Of (λ (c : C). P (wants c)) ds u

module _ {C : Type 0} (P : Request C → Type 0) (ds : List ℕ) where
  pub judges : ((x : Fault) → P (malformed x)) → (u : Meaning (Request C)) → Of P ds u → P (judged ds u)
  judges f unknown h = f Unknown
  judges f (takes n good q) h =
      pick P (eqb (length ds) n) _ (malformed Count) (λ t. pick P good q (malformed Value) (λ g. h (eqb-true _ _ t) g) (f Value)) (f Count)

  of_owned : (u : Meaning C) → Of (λ (c : C). P (wants c)) ds u → Of P ds (owned u)
  of_owned unknown h = tt
  of_owned (takes n good c) h = h

  module _ (shows : ℕ → Bool) (code : ℕ) (own : Meaning C) (e : Each P shows code ds own) where
    pub joined-asks : (alone : Bool) → P (judged ds (joined shows (asked code alone ds) own))
    unfolding asked
    joined-asks alone =
        let Q : Asked → Type 0 = λ a. Of P ds (joined shows a own) in
        judges e.malformed (joined shows (asked code alone ds) own)
        (pick Q (eqb code 1) _ _ (λ t n g. e.assign (eqb-true code 1 t))
        (pick Q (eqb code 2) _ _ (λ t n g. e.define (eqb-true code 2 t) g)
        (pick Q (eqb code 3) _ _ (λ t n g. e.nothing (inl (eqb-true code 3 t)))
        (pick Q (eqb code 10) _ _ (λ t. pick Q alone _ _ (λ u. tt) (λ n g. e.rate (eqb-true code 10 t)))
        (pick Q (eqb code 14) _ _ (λ t n g. e.nothing (inr (eqb-true code 14 t)))
        (pick Q (eqb code 15) _ _ (λ t n g. e.reset (eqb-true code 15 t))
        (of_owned own e.own)))))))

-- the cause of a fault is neither 0 nor above 5
pub fault_small : (x : Fault) → fault_cause x ≤ 5
fault_small Unknown = omega arith
fault_small Count = omega arith
fault_small Value = omega arith

module _ {M S C : Type 0} (T : Rules M S C) where
  -- what holds of every request that a frame can make holds of the one that it makes
  pub asks : (P : Request C → Type 0) (f : Frame) (alone : Bool)
      → Each P T.shows f.code f.content (T.own f.code f.content)
      → P (request T f alone)
  unfolding request
  asks P f alone e = joined-asks P f.content T.shows f.code (T.own f.code f.content) e alone

  -- a frame that is damaged or not, and what it asks
  abbrev pub after : Bool → Request C → M → M
  after d q m = cond d (with_cause T 1 m) (settled T q m)

  -- a frame that is not damaged is settled by what it asks
  pub settles : (f : Frame) (alone : Bool) (m : M) {q : Request C} → f.damaged ≡ false → request T f alone ≡ q → execute T f alone m ≡ settled T q m
  unfolding execute
  settles f alone m e g = ap₂ (λ (d : Bool) (q : Request C). after d q m) e g

  module _ (a : Apart T) where
    pub causes : (c : ℕ) (m : M) → (T.station (with_cause T c m)).cause ≡ c
    causes c m = ap (λ (s : Station). s.cause) (a.put (caused c (T.station m)) m)

    -- a module that differs in its cause alone
    abbrev Only : M → M → Type 0
    Only m n = ((T.station n).cause ≡ 0 → ⊥) → n ≡ with_cause T (T.station n).cause m

    only : (c : ℕ) (m : M) → Only m (with_cause T c m)
    only c m h = ap (λ (c : ℕ). with_cause T c m) (sym (causes c m))

    done-only : (m n : M) → Only m (with_cause T 0 n)
    done-only m n h = absurd (h (causes 0 n))

    none-else : (d : Bool) (q : Request C) (m : M) → Only m (after d q m)
    none-else true q m = only 1 m
    none-else false (malformed x) m = only (fault_cause x) m
    none-else false (set s) m = done-only m _
    none-else false reset m = done-only m _
    none-else false (wants c) m = pick (Only m) (T.can c m) _ _ (λ t. done-only m _) (only 3 m)

    small : (c : ℕ) (m : M) → c ≤ 5 → (T.station (with_cause T c m)).cause ≤ 5
    small c m h = omega (arith, causes c m)

    all_small : (d : Bool) (q : Request C) (m : M) → (T.station (after d q m)).cause ≤ 5
    all_small true q m = small 1 m (omega arith)
    all_small false (malformed x) m = small (fault_cause x) m (fault_small x)
    all_small false (set s) m = small 0 _ (omega arith)
    all_small false reset m = small 0 _ (omega arith)
    all_small false (wants c) m =
        pick (λ (n : M). (T.station n).cause ≤ 5) (T.can c m) _ _ (λ t. small 0 _ (omega arith)) (small 3 m (omega arith))

    pub cause : Cause T
    unfolding execute
    cause f alone m =
        let by : (d : Bool) (q : Request C) → f.damaged ≡ d → request T f alone ≡ q → execute T f alone m ≡ after d q m =
        λ d q e g. ap₂ (λ (d : Bool) (q : Request C). after d q m) e g in
        record {
          damaged = λ d. ap (λ (d : Bool). after d (request T f alone) m) d;
          malformed = λ x d q. by false (malformed x) d q;
          not_now = λ c d q t. by false (wants c) d q ∙ ap (λ (t : Bool). cond t (with_cause T 0 (T.perform c m)) (with_cause T 3 m)) t;
          executed = λ c d q t. by false (wants c) d q ∙ ap (λ (t : Bool). cond t (with_cause T 0 (T.perform c m)) (with_cause T 3 m)) t;
          stored = λ s d q. by false (set s) d q;
          renewed = λ d q. by false reset d q;
          kept = none-else f.damaged (request T f alone) m;
        }

    pub cause_is : CauseIs T
    unfolding execute
    cause_is f alone m = all_small f.damaged (request T f alone) m

    -- ---- who a module is

    -- a module with the same addresses
    abbrev As : M → M → Type 0
    As m n = (T.station n).address ≡ (T.station m).address

    -- a request that leaves the address of any module, if it is carried out
    abbrev Still : Request C → Type 0
    Still q = (m : M) → As m (settled T q m)

    caused-still : (c : ℕ) (m : M) → As m (with_cause T c m)
    caused-still c m = ap (λ (s : Station). s.address) (a.put (caused c (T.station m)) m)

    set-still : (s : Setting) → ((t : Station) → (applied s t).address ≡ t.address) → Still (set s)
    set-still s h m =
        caused-still 0 _ ∙ ap (λ (s : Station). s.address) (a.put (applied s (T.station m)) m) ∙ h (T.station m)

    own-still : (ds : List ℕ) (u : Meaning C) → Of (λ (c : C). Still (wants c)) ds u
    own-still ds unknown = tt
    own-still ds (takes n good c) = λ e g m.
        pick (As m) (T.can c m) _ _ (λ t. caused-still 0 _ ∙ ap (λ (s : Station). s.address) (a.perform c m)) (caused-still 3 m)

    frame-still : (d : Bool) (q : Request C) → Still q → (m : M) → As m (after d q m)
    frame-still true q g m = caused-still 1 m
    frame-still false q g m = g m

    pub address_kept : AddressKept T
    unfolding execute
    address_kept = record {
      damaged = λ f alone m d. rw d (caused-still 1 m);
      frame = λ f alone m n1 n15.
          frame-still f.damaged (request T f alone)
          (asks Still f alone
          (record {
            malformed = λ x m. caused-still (fault_cause x) m;
            assign = λ e. absurd (n1 e);
            define = λ e g. set-still (Define (get_or f.content 0 0)) (λ t. refl);
            rate = λ e. set-still (Rate (get_or f.content 0 0)) (λ t. refl);
            nothing = λ e. set-still Nothing (λ t. refl);
            reset = λ e. absurd (n15 e);
            own = own-still f.content (T.own f.code f.content);
          }))
          m;
      tick = λ x m. ap (λ (s : Station). s.address) (a.tick x m);
    }
