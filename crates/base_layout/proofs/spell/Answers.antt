-- `base_layout::spell` meets its contract. The invariant: the bytes put and what is left of the number are all its bytes. Assumes nothing.
use Rattle.std.proofs.Common.{◌≡◌, ◌++◌, ◌-◌, ◌<◌, ◌/◌, ◌%◌, ◌+◌, ◌∷◌, [], ℕ, suc, List, length, take, ◌∙◌, arith}
use Rattle.std.proofs.lemmas.List.{take_more_set}
use mathlib.Core.List.{append_assoc, append-nil}
use lib.ListN.{set, length-set}
use lib.Seq.{take_all}
use Rattle.base_layout.specs.Bytes.{le}
use Rattle.base_layout.proofs.spell.Goals as goal

turn : (i n x : ℕ) (s : List ℕ) → i < length s → n ≡ length s → take (i + 1) (set s i (x % 256)) ++ le (n - (i + 1)) (x / 256) ≡ take i s ++ le (n - i) x
turn i n x s h e =
    let k : n - i ≡ suc (n - (i + 1)) = omega arith in
    rw (k, take_more_set s i (x % 256) h) (append_assoc (take i s) (x % 256 ∷ []) (le (n - (i + 1)) (x / 256)))

pub loop-byte-preserved : goal.loop-byte-preserved
loop-byte-preserved c =
    let l = c.loop-byte in
    (simp length-set (omega arith), turn l.byte-index (length c.args.s.now) l.rest l.s (omega arith) (omega arith) ∙ l.invariant.1)

pub returns : goal.returns
returns c =
    let l = c.loop-byte in
    let z : length c.args.s.now - l.byte-index ≡ 0 = omega arith in
    let i = rw (z, take_all l.byte-index l.s (omega arith)) at l.invariant.1 in
    simp append-nil at i
