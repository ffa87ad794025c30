-- What the writer wrote is read by the receiver. Assumes nothing.
use mathlib.Core.Path.{◌≡◌, ap, ◌∙◌}
use mathlib.Core.List.{List, [], ◌∷◌}
use Prim.Native.Nat.{ℕ, ◌+◌, ◌*◌}
use native.Mathlib.Omega.{arith}
use lib.ListN.{length, take, length-append}
use Rattle.base_layout.specs.Bytes.{pasted}
use Rattle.base_layout.proofs.Pasted.{take-pasted}
use Rattle.line_receiver.specs.Receive.{sum8}
use Rattle.line_receiver.specs.Frames.{written}
use Rattle.line_receiver.proofs.Read.{read}
use Rattle.host_rules.specs.Promises.{Writer, Sent}
use Rattle.host_rules.proofs.ByTable.{table}

-- a frame has four bytes more than its data, and stands at the room's start
frame_long : (a c : ℕ) (ds : List ℕ) → length (written a c ds) ≡ length ds + 4
frame_long a c ds =
    let command : ℕ = c + 16 * length ds in
    omega (arith, length-append ds (sum8 a command ds ∷ []))

frame-first : (a c n : ℕ) (ds room : List ℕ) → n ≡ length ds + 4 → take n (pasted 0 (written a c ds) room) ≡ written a c ds
frame-first a c n ds room e =
    let k : n ≡ 0 + length (written a c ds) = omega (arith, frame_long a c ds) in
    ap (λ (i : ℕ). take i (pasted 0 (written a c ds) room)) k ∙ take-pasted 0 (written a c ds) room (omega arith)

pub sent : Sent
sent address code ds room z =
    let w : Writer address code ds room = table.1 address code ds room in
    let f = (w.done.0 z).0 in
    let p = w.wrote z in
    rw (p.1, frame-first address code _ ds room p.0) (read address code ds (omega arith) (omega arith) f.2)
