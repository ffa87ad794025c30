-- `host_frame::put_frame` meets its contract. Assumes nothing.
use Rattle.std.proofs.Common.{◌≡◌, ℕ, ◌+◌, ◌*◌, List, [], ◌∷◌, ◌++◌, length, set, ap, ◌∙◌, arith}
use Rattle.base_layout.specs.Bytes.{pasted}
use Rattle.line_receiver.specs.Receive.{sum8}
use Rattle.host_rules.proofs.Framed.{framed}
use Rattle.host_frame.proofs.put_frame.Goals as goal

pub returns : goal.returns
returns c =
    let a = c.args in
    let ds = a.ds.now in
    let room = a.room.now in
    let command : ℕ = a.code + 16 * length ds in
    let called = c.sum_on-sum in
    let s : called.result ≡ sum8 a.address command ds = omega (arith, called.ensures) in
    ap (λ (x : List ℕ). set x (length ds + 3) called.result) c.put_all.ensures
    ∙ framed a.address command called.result ds room (omega arith)
    ∙ ap (λ (x : ℕ). pasted 0 (0xAA ∷ a.address ∷ command ∷ ds ++ x ∷ []) room) s
