-- Bytes one after another. Assumes nothing.
use mathlib.Core.Path.{◌≡◌, refl, sym, ap, ◌∙◌}
use mathlib.Core.List.{List, [], ◌∷◌, ◌++◌, append_assoc, append-nil}
use Prim.Native.Nat.{ℕ}
use Rattle.line_receiver.specs.Frames.{Byte}
use Rattle.module_rules.specs.Kind.{Kind}
use Rattle.chain_rules.specs.Chain.{Net, Reply, Outcome, flat, byte_step, after, taking}
use Rattle.chain_rules.specs.Promises.{InParts}

pub flat_append : (xs ys : List Reply) → flat (xs ++ ys) ≡ flat xs ++ flat ys
flat_append [] ys = refl
flat_append (x ∷ xs) ys =
    ap (λ (l : List ℕ). x.bytes ++ l) (flat_append xs ys) ∙ sym (append_assoc x.bytes (flat xs) (flat ys))

-- replies in front of replies in front of an outcome
pub after-after : {M : Type 0} (x y : List Reply) (o : Outcome M) → after (x ++ y) o ≡ after x (after y o)
after-after x y o = ap (λ (l : List Reply). record { net = o.net; replies = l }) (append_assoc x y o.replies)

module _ {M S : Type 0} (K : Kind M S) where
  pub parts : (xs ys : List Byte) (n : Net M) → taking K (xs ++ ys) n ≡ after (taking K xs n).replies (taking K ys (taking K xs n).net)
  parts [] ys n = refl
  parts (x ∷ xs) ys n =
      let n' : Net M = (byte_step K n x).net in
      ap (after (byte_step K n x).replies) (parts xs ys n')
      ∙ sym (after-after (byte_step K n x).replies (taking K xs n').replies (taking K ys (taking K xs n').net))

  pub in_parts : InParts K
  in_parts = record {
    none = λ n. refl;
    one = λ b n. ap (λ (l : List Reply). record { net = (byte_step K n b).net; replies = l }) (append-nil (byte_step K n b).replies);
    net = λ xs ys n. ap (λ (o : Outcome M). o.net) (parts xs ys n);
    replies = λ xs ys n. ap (λ (o : Outcome M). o.replies) (parts xs ys n);
  }
