-- The replies to a frame: whose they are, their order, their bytes. Assumes nothing.
use mathlib.Core.Path.{◌≡◌, refl, ap, ap₂, ◌∙◌}
use mathlib.Core.List.{List, [], ◌∷◌, ◌++◌, map, append-nil}
use mathlib.Core.Bool.{Bool, true, false, cond}
use mathlib.Core.Option.{Option, some, none}
use Prim.Native.Nat.{ℕ, zero, suc, ◌+◌, ◌<◌}
use native.Mathlib.Omega.{arith}
use borrow.Author.Tests.{eq-eqb, ne_eqb}
use lib.ListN.{length, get_elem?, get_or, length-append}
use lib.Dec.{eqb}
use Rattle.line_receiver.specs.Frames.{Frame}
use Rattle.line_receiver.specs.Receive.{total}
use Rattle.module_rules.specs.Kind.{Kind, replied}
use Rattle.module_rules.proofs.Frames.{replying}
use Rattle.chain_rules.specs.Chain.{Reply, flat, join, replies_of, once, addresses, touched, said, sent_by, replies_from}
use Rattle.chain_rules.specs.Promises.{RepliesAre, EachHeard, Rising, InOrder, Lengths}
use Rattle.chain_rules.proofs.Touching.{says}

pub replies_append : (p : ℕ) (a b : List Reply) → replies_of p (a ++ b) ≡ replies_of p a ++ replies_of p b
replies_append p [] b = refl
replies_append p (r ∷ a) b = go (eqb p r.place) (replies_append p a b)
  where
    go : (t : Bool) → replies_of p (a ++ b) ≡ replies_of p a ++ replies_of p b
        → cond t (r.bytes ∷ replies_of p (a ++ b)) (replies_of p (a ++ b)) ≡ cond t (r.bytes ∷ replies_of p a) (replies_of p a) ++ replies_of p b
    go true e = ap (λ (l : List (List ℕ)). r.bytes ∷ l) e
    go false e = e

sent-same : (p j : ℕ) (w : List ℕ) → p ≡ j → replies_of p (sent_by j w) ≡ once w
sent-same p j [] e = refl
sent-same p j (b ∷ bs) e = rw (eq-eqb p j e)

sent_other : (p j : ℕ) (w : List ℕ) → (p ≡ j → ⊥) → replies_of p (sent_by j w) ≡ []
sent_other p j [] e = refl
sent_other p j (b ∷ bs) e = rw (ne_eqb p j e)

-- the replies of a place before the first, and of the place i after it
none_before : (p j : ℕ) (ws : List (List ℕ)) → p < j → replies_of p (replies_from j ws) ≡ []
none_before p j [] h = refl
none_before p j (w ∷ ws) h =
    replies_append p (sent_by j w) (replies_from (suc j) ws)
    ∙ ap₂ (λ (a b : List (List ℕ)). a ++ b) (sent_other p j w (λ q. omega arith)) (none_before p (suc j) ws (omega arith))

pub replies_from_lem : (p j i : ℕ) (ws : List (List ℕ)) → p ≡ i + j → replies_of p (replies_from j ws) ≡ once (get_or ws i [])
replies_from_lem p j i [] e = refl
replies_from_lem p j zero (w ∷ ws) e =
    replies_append p (sent_by j w) (replies_from (suc j) ws)
    ∙ ap₂ (λ (a b : List (List ℕ)). a ++ b) (sent-same p j w (omega arith)) (none_before p (suc j) ws (omega arith))
    ∙ append-nil _
replies_from_lem p j (suc i) (w ∷ ws) e =
    replies_append p (sent_by j w) (replies_from (suc j) ws)
    ∙ ap₂ (λ (a b : List (List ℕ)). a ++ b) (sent_other p j w (λ q. omega arith)) (replies_from_lem p (suc j) i ws (omega arith))

-- what is said at a place, or nothing beyond the last
words_in : Option (List ℕ) → List ℕ
words_in none = []
words_in (some w) = w

words_at_lem : (ws : List (List ℕ)) (i : ℕ) → get_or ws i [] ≡ words_in (get_elem? ws i)
unfolding words_in
words_at_lem [] i = refl
words_at_lem (w ∷ ws) zero = refl
words_at_lem (w ∷ ws) (suc i) = words_at_lem ws i

weaker : (i : ℕ) (rs : List Reply) → Rising (suc i) rs → Rising i rs
weaker i [] h = tt
weaker i (r ∷ rs) h = (omega (arith, h.0), h.1)

pub rising : (i : ℕ) (ws : List (List ℕ)) → Rising i (replies_from i ws)
rising i [] = tt
rising i ([] ∷ ws) = weaker i (replies_from (suc i) ws) (rising (suc i) ws)
rising i ((b ∷ bs) ∷ ws) = (omega arith, rising (suc i) ws)

pub flat-join : (i : ℕ) (ws : List (List ℕ)) → flat (replies_from i ws) ≡ join ws
flat-join i [] = refl
flat-join i ([] ∷ ws) = flat-join (suc i) ws
flat-join i ((b ∷ bs) ∷ ws) = ap (λ (l : List ℕ). (b ∷ bs) ++ l) (flat-join (suc i) ws)

length-flat : (rs : List Reply) → length (flat rs) ≡ total (map (λ (r : Reply). length r.bytes) rs)
length-flat [] = refl
length-flat (r ∷ rs) = length-append r.bytes (flat rs) ∙ ap (λ (n : ℕ). length r.bytes + n) (length-flat rs)

pub lengths : Lengths
lengths = (flat-join, length-flat)

module _ {M S : Type 0} (K : Kind M S) where
  -- the replies of place i, whether it holds a module or not
  pub replies_at : (f : Frame) (ms : List M) (i : ℕ)
      → replies_of i (replies_from 0 (said K f true ms)) ≡ once (get_or (said K f true ms) i [])
  replies_at f ms i = replies_from_lem i 0 i (said K f true ms) (omega arith)

  pub replies_are : RepliesAre K
  unfolding words_in
  replies_are = (
    λ f ms i m e.
        let w : get_elem? (said K f true ms) i ≡ some (cond (touched true f.address (addresses K ms) i) (replied K f m) []) = says K f ms i ∙ rw e refl in
        replies_at f ms i ∙ ap once (words_at_lem (said K f true ms) i ∙ ap words_in w),
    λ f ms i e.
        let w : get_elem? (said K f true ms) i ≡ none = says K f ms i ∙ rw e refl in
        replies_at f ms i ∙ ap once (words_at_lem (said K f true ms) i ∙ ap words_in w),
  )

  pub each_heard : EachHeard K
  each_heard f ms i m e t =
      let r = replying K in
      let q : replies_of i (replies_from 0 (said K f true ms)) ≡ once (replied K f m) =
      replies_are.0 f ms i m e ∙ ap (λ (t : Bool). once (cond t (replied K f m) [])) t in
      record {
        alone = λ h. q ∙ ap once (r.alone f m h);
        leader = λ h. q ∙ ap once (r.leader f m h);
        member = λ n h. q ∙ ap once (r.member f m n h);
      }

  pub in_order : InOrder K
  in_order f ms = rising 0 (said K f true ms)
