-- The lines of the replies, as the code prints them. Assumes nothing.
use mathlib.Core.Path.{◌≡◌, refl, sym, ap, ◌∙◌}
use mathlib.Core.List.{List, [], ◌∷◌, ◌++◌, append_assoc, append-nil}
use Prim.Native.Nat.{ℕ, zero, suc, ◌+◌, ◌*◌, ◌-◌, ◌<◌, ◌≤◌}
use native.Mathlib.Nat.{mul-suc, add-zero, zero-add}
use native.Mathlib.Numerals.{add-one}
use native.Mathlib.Omega.{arith}
use lib.ListN.{length, get_or, take, drop, length-append, length-take}
use lib.Seq.{take-append_seam, drop-append_seam, drop-drop}
use Rattle.base_layout.specs.Bytes.{pasted}
use Rattle.base_layout.proofs.Pasted.{pasted_none, pasted_twice, length-pasted}
use Rattle.chain_rules.specs.Chain.{Reply, join, sent_by, replies_from}
use Rattle.replay_print.specs.Text.{line, lines, reply_text, printed, text_size, line_size}
use Rattle.replay_print.proofs.Text.{line-length, place_short}
use Rattle.net_rules.specs.Record.{chain_most}
use Rattle.module_rules.specs.Owes.{reply_size}

pub reply_none : (place : ℕ) (bs out : List ℕ) (at : ℕ) → length bs ≡ 0 → (0 ≡ length (reply_text place bs)) × (out ≡ pasted at (reply_text place bs) out)
reply_none place [] out at h = (refl, sym (pasted_none at out))
reply_none place (b ∷ bs) out at h = absurd (omega arith)

pub reply_some : (place : ℕ) (bs : List ℕ) → (length bs ≡ 0 → ⊥) → reply_text place bs ≡ line place bs
reply_some place [] h = absurd (h refl)
reply_some place (b ∷ bs) h = refl

pub reply_short : (place : ℕ) (bs : List ℕ) → place < chain_most → length bs ≤ reply_size → length (reply_text place bs) ≤ line_size
reply_short place [] h l = omega arith
reply_short place (b ∷ bs) h l = omega (arith, line-length place (b ∷ bs), place_short place h)

module _ (lengths room : List ℕ) (small : (i : ℕ) → get_or lengths i 0 ≤ reply_size) where
  word_short : (place at : ℕ) → place < chain_most → length (reply_text place (take (get_or lengths place 0) (drop at room))) ≤ line_size
  word_short place at h =
      reply_short place (take (get_or lengths place 0) (drop at room)) h (omega (arith, length-take (get_or lengths place 0) (drop at room), small place))

  printed_short : (k place at : ℕ) → place + k ≤ chain_most → length (printed k place at lengths room) ≤ line_size * k
  unfolding printed
  printed_short zero place at h = omega arith
  printed_short (suc k) place at h =
      let n = get_or lengths place 0 in
      omega (
        arith,
        length-append (reply_text place (take n (drop at room))) (printed k (place + 1) (at + n) lengths room),
        word_short place at (omega arith),
        printed_short k (place + 1) (at + n) (omega arith),
        mul-suc line_size k,
      )

  -- a turn of the loop, with k places to go before it
  pub record Turn (k place at w n : ℕ) (out after : List ℕ) : Type 0 where
    pub fits : n ≤ line_size
    pub long : length after ≡ length out
    pub said : pasted (w + n) (printed (k - 1) (place + 1) (at + get_or lengths place 0) lengths room) after ≡ pasted w (printed k place at lengths room) out
    pub total : w + n + length (printed (k - 1) (place + 1) (at + get_or lengths place 0) lengths room) ≡ w + length (printed k place at lengths room)

  pub print_turn : (k place at w m : ℕ) (out : List ℕ) {n : ℕ} {after : List ℕ} → 0 < k → place + k ≤ chain_most → w + line_size * k ≤ length out
      → m ≡ get_or lengths place 0
      → n ≡ length (reply_text place (take m (drop at room)))
      → after ≡ pasted w (reply_text place (take m (drop at room))) out
      → Turn k place at w n out after
  unfolding printed
  print_turn zero place at w m out p h l e en ea = absurd (omega arith)
  print_turn (suc k) place at w m out p h l e en ea =
      let one : suc k - 1 ≡ k = omega arith in
      let x : List ℕ = reply_text place (take (get_or lengths place 0) (drop at room)) in
      let y : List ℕ = printed k (place + 1) (at + get_or lengths place 0) lengths room in
      let lx = word_short place at (omega arith) in
      let ly = printed_short k (place + 1) (at + get_or lengths place 0) (omega arith) in
      let m = mul-suc line_size k in
      let en : _ ≡ length x = en ∙ rw e refl in
      let ea : _ ≡ pasted w x out = ea ∙ rw e refl in
      record {
        fits = omega arith;
        long = ap length ea ∙ length-pasted w x out (omega arith);
        said = rw (one, en, ea) (pasted_twice w x y out (omega arith));
        total = rw (one, en) (omega (arith, length-append x y));
      }

  pub printed_none : (place at : ℕ) → printed 0 place at lengths room ≡ []
  unfolding printed
  printed_none place at = refl

-- a place's line is the line of its reply, and the rest follows
lines-sent : (i : ℕ) (w : List ℕ) (rs : List Reply) → lines (sent_by i w ++ rs) ≡ reply_text i w ++ lines rs
lines-sent i [] rs = refl
lines-sent i (b ∷ bs) rs = refl

-- what is printed of the words that stand in a room one after another
pub printed_words : (lengths room : List ℕ) (k : ℕ) (ws : List (List ℕ)) (place at : ℕ) (rest : List ℕ) → length ws ≤ k
    → ((i : ℕ) → get_or lengths (place + i) 0 ≡ length (get_or ws i []))
    → drop at room ≡ join ws ++ rest
    → printed k place at lengths room ≡ lines (replies_from place ws)
unfolding printed
printed_words lengths room zero [] place at rest h n e = refl
printed_words lengths room zero (w ∷ ws) place at rest h n e = absurd (omega arith)
printed_words lengths room (suc k) [] place at rest h n e =
    let z : get_or lengths place 0 ≡ 0 = ap (λ (j : ℕ). get_or lengths j 0) (sym (add-zero place)) ∙ n 0 in
    let on : (i : ℕ) → get_or lengths (place + 1 + i) 0 ≡ 0 = λ i. ap (λ (j : ℕ). get_or lengths j 0) (omega arith) ∙ n (suc i) in
    rw z (printed_words lengths room k [] (place + 1) (at + 0) (drop (at + 0) room) (omega arith) on refl)
printed_words lengths room (suc k) (w ∷ ws) place at rest h n e =
    let z : get_or lengths place 0 ≡ length w = ap (λ (j : ℕ). get_or lengths j 0) (sym (add-zero place)) ∙ n 0 in
    let on : (i : ℕ) → get_or lengths (place + 1 + i) 0 ≡ length (get_or ws i []) = λ i.
    ap (λ (j : ℕ). get_or lengths j 0) (omega arith) ∙ n (suc i) in
    let split : drop at room ≡ w ++ (join ws ++ rest) = e ∙ append_assoc w (join ws) rest in
    let word : take (length w) (drop at room) ≡ w = ap (take (length w)) split ∙ take-append_seam w (join ws ++ rest) in
    let left : drop (at + length w) room ≡ join ws ++ rest =
    sym (drop-drop (length w) at room) ∙ ap (drop (length w)) split ∙ drop-append_seam w (join ws ++ rest) in
    let ih = printed_words lengths room k ws (place + 1) (at + length w) rest (omega arith) on left in
    rw (z, word, ih, add-one place) (sym (lines-sent place w (replies_from (suc place) ws)))

-- so replies of all places, each no longer than a reply can be, fit into the room for text
pub lines_short : (lengths : List ℕ) (ws : List (List ℕ)) → length ws ≤ chain_most → ((i : ℕ) → get_or lengths i 0 ≡ length (get_or ws i []))
    → ((i : ℕ) → get_or lengths i 0 ≤ reply_size)
    → length (lines (replies_from 0 ws)) ≤ text_size
lines_short lengths ws h n s =
    let on : (i : ℕ) → get_or lengths (0 + i) 0 ≡ length (get_or ws i []) = λ i. ap (λ (j : ℕ). get_or lengths j 0) (zero-add i) ∙ n i in
    rw (← printed_words lengths (join ws) chain_most ws 0 0 [] h on (sym (append-nil (join ws)))) (printed_short lengths (join ws) s chain_most 0 0 (omega arith))
