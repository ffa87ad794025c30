-- The walk along slots that stand behind a part of a list: what the chain makes of their modules. Assumes nothing.
use mathlib.Core.Path.{◌≡◌, refl, sym, ap, ap₂, ◌∙◌}
use mathlib.Core.List.{List, [], ◌∷◌, ◌++◌, append_assoc}
use mathlib.Core.Bool.{Bool, true, false, cond, ◌&&◌}
use mathlib.Core.Option.{some}
use Prim.Native.Nat.{ℕ, zero, suc, ◌+◌, ◌*◌, ◌<◌, ◌≤◌}
use native.Mathlib.Nat.{mul-suc}
use native.Mathlib.Omega.{arith}
use lib.ListN.{length, take, drop, get_elem?, length-append, take-append-drop}
use lib.Seq.{drop_at}
use Rattle.base_layout.specs.Bytes.{pasted, Bytes}
use Rattle.line_receiver.specs.Frames.{Frame}
use Rattle.module_rules.specs.Touch.{named}
use Rattle.module_rules.specs.Kind.{Kind, executed, replied}
use Rattle.chain_rules.specs.Chain.{handed, said, timed}
use Rattle.module_rules.specs.Slots.{Slots, slot_size, Lawful}
use Rattle.net_rules.specs.Record.{modules_in, ok_slots}
use Rattle.net_rules.specs.Walk.{module_at, touched_at, turned, words_at, low_at, walked, speech, changed_at, ticked}
use Rattle.base_layout.proofs.Pasted.{pasted-first, length-within}
use Rattle.base_layout.proofs.Laws.{bytes_drop}
use Rattle.net_rules.proofs.Slots.{put_slots, first_long, rest_long, first_there, rest_ok}

module _ {M S : Type 0} (K : Kind M S) {L : Slots M} (law : Lawful L) where
  -- the module of the first slot
  first_in : List ℕ → M
  first_in t = L.dec (take slot_size t)

  first_module : (at : ℕ) (p t : List ℕ) → length p ≡ at → module_at K L at (p ++ t) ≡ first_in t
  unfolding module_at first_in
  first_module at p t e = ap (λ (l : List ℕ). L.dec (take slot_size l)) (drop_at p t at e)

  -- the part before the second slot, once a module was written into the first
  done : M → List ℕ → List ℕ → List ℕ
  done m p t = p ++ pasted 0 (L.enc m) (take slot_size t)

  module _ (k at : ℕ) (p t : List ℕ) (e : length p ≡ at) (h : slot_size * suc k ≤ length t) where
    enough : slot_size ≤ length t
    enough = omega (arith, mul-suc slot_size k)

    length-done : (m : M) → length (done m p t) ≡ at + slot_size
    unfolding done
    length-done m =
        omega (arith, length-append p (pasted 0 (L.enc m) (take slot_size t)), length-within slot_size (L.enc m) t (law.short m) enough)

    first-changed : (m : M) → pasted at (L.enc m) (p ++ t) ≡ done m p t ++ drop slot_size t
    unfolding done
    first-changed m = pasted-first slot_size p t (L.enc m) at e (law.short m) enough

    -- done with the first, the rest stands behind it
    done-then : (m : M) (ms : List M) → done m p t ++ put_slots L ms (drop slot_size t) ≡ p ++ put_slots L (m ∷ ms) t
    unfolding done put_slots
    done-then m ms = append_assoc p (pasted 0 (L.enc m) (take slot_size t)) (put_slots L ms (drop slot_size t))

    module _ (b : Bytes t) (v : ok_slots L (suc k) t ≡ true) where
      first-stays : p ++ t ≡ done (first_in t) p t ++ drop slot_size t
      unfolding done first_in
      first-stays =
          sym (
          ap (λ (l : List ℕ). p ++ l ++ drop slot_size t) (first_there law k t h b v)
          ∙ append_assoc p (take slot_size t) (drop slot_size t)
          ∙ ap (λ (l : List ℕ). p ++ l) (take-append-drop slot_size t)
          )

      first-turned : (f : Frame) (enabled : Bool)
          → turned K L f enabled at (p ++ t)
          ≡ done (cond (enabled && named f.address (K.address (first_in t))) (executed K f (first_in t)) (first_in t)) p t ++ drop slot_size t
      unfolding turned touched_at
      first-turned f enabled =
          ap (λ (m : M). cond (enabled && named f.address (K.address m)) (pasted at (L.enc (executed K f m)) (p ++ t)) (p ++ t)) (first_module at p t e)
          ∙ go (enabled && named f.address (K.address (first_in t)))
        where
          go : (u : Bool)
              → cond u (pasted at (L.enc (executed K f (first_in t))) (p ++ t)) (p ++ t)
              ≡ done (cond u (executed K f (first_in t)) (first_in t)) p t ++ drop slot_size t
          go true = first-changed (executed K f (first_in t))
          go false = first-stays

  -- the record after a frame, and what its modules say
  pub walked_on : (f : Frame) (k : ℕ) (enabled : Bool) (at : ℕ) (p t : List ℕ) → length p ≡ at → slot_size * k ≤ length t → Bytes t → ok_slots L k t ≡ true
      → walked K L f enabled k at (p ++ t) ≡ p ++ put_slots L (handed K f enabled (modules_in L k t)) t
  unfolding walked low_at modules_in put_slots first_in
  walked_on f zero enabled at p t e h b v = refl
  walked_on f (suc k) enabled at p t e h b v =
      let m : M = first_in t in
      let m' : M = cond (enabled && named f.address (K.address m)) (executed K f m) m in
      ap₂ (λ (m : M) (l : List ℕ). walked K L f (K.address m).low k (at + slot_size) l) (first_module at p t e) (first-turned k at p t e h b v f enabled)
      ∙ walked_on f k (K.address m).low (at + slot_size) (done m' p t) (drop slot_size t) (length-done k at p t e h m')
      (rest_long k t h) (bytes_drop slot_size t b) (rest_ok law k t v)
      ∙ done-then k at p t e h m' (handed K f (K.address m).low (modules_in L k (drop slot_size t)))

  pub speech-on : (f : Frame) (k : ℕ) (enabled : Bool) (at : ℕ) (p t : List ℕ) → length p ≡ at → slot_size * k ≤ length t → Bytes t → ok_slots L k t ≡ true
      → speech K L f enabled k at (p ++ t) ≡ said K f enabled (modules_in L k t)
  unfolding speech words_at touched_at low_at modules_in first_in
  speech-on f zero enabled at p t e h b v = refl
  speech-on f (suc k) enabled at p t e h b v =
      let m : M = first_in t in
      let m' : M = cond (enabled && named f.address (K.address m)) (executed K f m) m in
      ap₂ (λ (m : M) (l : List ℕ).
      cond (enabled && named f.address (K.address m)) (replied K f m) [] ∷ speech K L f (K.address m).low k (at + slot_size) l)
      (first_module at p t e) (first-turned k at p t e h b v f enabled)
      ∙ ap (λ (l : List (List ℕ)). cond (enabled && named f.address (K.address m)) (replied K f m) [] ∷ l)
      (speech-on f k (K.address m).low (at + slot_size) (done m' p t) (drop slot_size t) (length-done k at p t e h m')
      (rest_long k t h) (bytes_drop slot_size t b) (rest_ok law k t v))

  -- after a tick
  pub ticked-on : (xs : List S) (at : ℕ) (p t : List ℕ) → length p ≡ at → slot_size * length xs ≤ length t
      → ticked K L xs at (p ++ t) ≡ p ++ put_slots L (timed K xs (modules_in L (length xs) t)) t
  unfolding ticked changed_at modules_in put_slots first_in
  ticked-on [] at p t e h = refl
  ticked-on (x ∷ xs) at p t e h =
      let k : ℕ = length xs in
      let m : M = K.tick x (first_in t) in
      ap (λ (l : List ℕ). ticked K L xs (at + slot_size) l)
      (ap (λ (m : M). pasted at (L.enc (K.tick x m)) (p ++ t)) (first_module at p t e) ∙ first-changed k at p t e h m)
      ∙ ticked-on xs (at + slot_size) (done m p t) (drop slot_size t) (length-done k at p t e h m) (rest_long k t h)
      ∙ done-then k at p t e h m (timed K xs (modules_in L k (drop slot_size t)))

  -- one place
  pub module_on : (i k at : ℕ) (p t : List ℕ) → length p ≡ at → slot_size * k ≤ length t → i < k
      → get_elem? (modules_in L k t) i ≡ some (module_at K L (at + slot_size * i) (p ++ t))
  unfolding modules_in first_in
  module_on i zero at p t e h l = absurd (omega arith)
  module_on zero (suc k) at p t e h l =
      let z : at + slot_size * 0 ≡ at = omega arith in
      ap some (sym (ap (λ (n : ℕ). module_at K L n (p ++ t)) z ∙ first_module at p t e))
  module_on (suc i) (suc k) at p t e h l =
      let x : List ℕ = take slot_size t in
      let z : at + slot_size + slot_size * i ≡ at + slot_size * suc i = omega (arith, mul-suc slot_size i) in
      module_on i k (at + slot_size) (p ++ x) (drop slot_size t) (omega (arith, length-append p x, first_long k t h)) (rest_long k t h) (omega arith)
      ∙ ap₂ (λ (n : ℕ) (s : List ℕ). some (module_at K L n s)) z
      (append_assoc p x (drop slot_size t) ∙ ap (λ (l : List ℕ). p ++ l) (take-append-drop slot_size t))
