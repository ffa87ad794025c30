-- `net_frame::take_turn` meets its contract. Assumes nothing.
use mathlib.Core.Path.{ap, ◌∙◌}
use mathlib.Core.List.{List, ◌++◌}
use Prim.Native.Nat.{ℕ, ◌+◌, ◌-◌}
use native.Mathlib.Omega.{arith}
use lib.ListN.{take, drop}
use Rattle.std.proofs.lemmas.List.{take-append-drop}
use Rattle.module_rules.specs.Touch.{frame_of}
use Rattle.module_rules.specs.Slots.{slot_size}
use Rattle.net_rules.specs.declared.Turn.{Turn}
use Rattle.net_rules.specs.Walk.{turn_of}
use Rattle.net_rules.proofs.OneTurn.{touched_turn, passed_turn}
use Rattle.net_rules.proofs.Rounds.{word_short}
use Rattle.net_frame.proofs.take_turn.Goals as goal

pub returns-then-enabled-is_named : goal.returns-then-enabled-is_named
unfolding turn_of
returns-then-enabled-is_named c =
    let a = c.args in
    let f = frame_of a.f in
    let r = touched_turn f a.enabled a.at a.from a.net.now a.room.now c.requires.0 c.address_in-address.ensures c.is_named.ensures c.if-enabled-is_named.true (c.touch-said.ensures.value, (c.touch-said.ensures.s_after, c.touch-said.ensures.room_after)) in
    record { value = r.0; net_after = r.1.0; short = omega (arith, ap (λ (t : Turn). t.said) r.0, word_short f a.enabled a.at a.net.now); room_after = r.1.1 }

-- the slot is given back as it was lent
pub returns : goal.returns
returns c =
    let a = c.args in
    let s = a.net.now in
    let n : ℕ = a.at + slot_size - a.at in
    let whole = ap (λ (t : List ℕ). take a.at s ++ t) (take-append-drop n (drop a.at s)) ∙ take-append-drop a.at s in
    let r = passed_turn (frame_of a.f) a.enabled a.at a.from s a.room.now c.requires.0 c.address_in-address.ensures c.is_named.ensures c.if-enabled-is_named.false in
    record { value = r.0; net_after = whole ∙ r.1.0; short = omega arith; room_after = r.1.1 }
