-- Who is touched, and what becomes of each place. Assumes nothing.
use mathlib.Core.Path.{◌≡◌, refl, sym, ap, ◌∙◌}
use mathlib.Core.List.{List, [], ◌∷◌}
use mathlib.Core.Bool.{Bool, true, false, cond, ◌&&◌}
use mathlib.Core.Option.{Option, some, none, map}
use Prim.Native.Nat.{ℕ, zero, suc}
use lib.ListN.{get_elem?}
use Rattle.line_receiver.specs.Frames.{Frame}
use Rattle.module_rules.specs.declared.Address.{Address}
use Rattle.module_rules.specs.Touch.{named}
use Rattle.module_rules.specs.Kind.{Kind, executed, replied}
use Rattle.chain_rules.specs.Chain.{addresses, touched, enabled_at, handed, said}
use Rattle.chain_rules.specs.Promises.{TouchedBefore, Enabled, HandedOn, OwnRecord, Untouched, Says}

pub enabled : Enabled
enabled a zero [] w e = let z : none ≡ some w = e in cc
enabled a zero (x ∷ ws) w e = let u : x ≡ w = cc in ap (λ (w : Address). named a w) u
enabled a (suc i) [] w e = let z : none ≡ some w = e in cc
enabled a (suc i) (x ∷ ws) w e = later true a i x ws w e
  where
    -- whether the first place is enabled or not, the second and later ones ask their predecessor only
    later : (t : Bool) (a i : ℕ) (x : Address) (ws : List Address) (w : Address) → get_elem? ws i ≡ some w
        → touched t a (x ∷ ws) (suc i) ≡ (enabled_at (x ∷ ws) (suc i) && named a w)
    later t a zero x [] w e = let z : none ≡ some w = e in cc
    later t a zero x (y ∷ ws) w e = let u : y ≡ w = cc in ap (λ (w : Address). x.low && named a w) u
    later t a (suc i) x [] w e = let z : none ≡ some w = e in cc
    later t a (suc i) x (y ∷ ws) w e = later x.low a i y ws w e

pub handed_on : HandedOn
handed_on a ws = record {
  first = λ w e. enabled a 0 ws w e;
  low = λ i p w q e l.
      let on : enabled_at ws (suc i) ≡ true = rw (q, enabled_at) l in
      enabled a (suc i) ws w e ∙ ap (λ (t : Bool). t && named a w) on;
  high = λ i p w q e l.
      let off : enabled_at ws (suc i) ≡ false = rw (q, enabled_at) l in
      enabled a (suc i) ws w e ∙ ap (λ (t : Bool). t && named a w) off;
}

module _ {M S : Type 0} (K : Kind M S) where
  -- the module at place i after a frame, and what it says, in a chain of which the first is enabled or not
  pub handed_at : (f : Frame) (t : Bool) (ms : List M) (i : ℕ)
      → get_elem? (handed K f t ms) i
      ≡ map (λ (m : M). cond (touched t f.address (addresses K ms) i) (executed K f m) m) (get_elem? ms i)
  handed_at f t [] i = refl
  handed_at f t (m ∷ ms) zero = refl
  handed_at f t (m ∷ ms) (suc i) = handed_at f (K.address m).low ms i

  pub touched_before : TouchedBefore K
  touched_before f ms i = handed_at f true ms i

  pub said_at : (f : Frame) (t : Bool) (ms : List M) (i : ℕ)
      → get_elem? (said K f t ms) i
      ≡ map (λ (m : M). cond (touched t f.address (addresses K ms) i) (replied K f m) []) (get_elem? ms i)
  said_at f t [] i = refl
  said_at f t (m ∷ ms) zero = refl
  said_at f t (m ∷ ms) (suc i) = said_at f (K.address m).low ms i

  pub says : Says K
  says f ms i = said_at f true ms i

  pub untouched : Untouched K
  untouched f ms i m e t = (
    touched_before f ms i ∙ rw (e, t) refl,
    says f ms i ∙ rw (e, t) refl,
  )

  pub address_at_lem : (ms : List M) (i : ℕ) → get_elem? (addresses K ms) i ≡ map K.address (get_elem? ms i)
  address_at_lem [] i = refl
  address_at_lem (m ∷ ms) zero = refl
  address_at_lem (m ∷ ms) (suc i) = address_at_lem ms i

  module _ (f : Frame) (ms : List M) (i : ℕ) (m : M) (e : get_elem? ms i ≡ some m) where
    -- a module is touched if its place is enabled and it has the frame's address
    pub touched-at : touched true f.address (addresses K ms) i ≡ (enabled_at (addresses K ms) i && named f.address (K.address m))
    touched-at = enabled f.address i (addresses K ms) (K.address m) (address_at_lem ms i ∙ ap (λ (o : Option M). map K.address o) e)

    pub record-after : get_elem? (handed K f true ms) i
        ≡ some (cond (enabled_at (addresses K ms) i && named f.address (K.address m)) (executed K f m) m)
    record-after = touched_before f ms i ∙ rw (e, touched-at) refl

    pub words-after : get_elem? (said K f true ms) i
        ≡ some (cond (enabled_at (addresses K ms) i && named f.address (K.address m)) (replied K f m) [])
    words-after = says f ms i ∙ rw (e, touched-at) refl

  pub own_record : OwnRecord K
  own_record f ms ns i j m e g h = (
    record-after f ms i m e ∙ rw h refl ∙ sym (record-after f ns j m g),
    words-after f ms i m e ∙ rw h refl ∙ sym (words-after f ns j m g),
  )
