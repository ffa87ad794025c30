-- A chain of modules of any type behind one receiver (document 01, "What the boards do", "Who is touched").
use Rattle.std.specs.Prelude.{ℕ, zero, suc, List, [], ◌∷◌, ◌++◌, Bool, true, false, cond, ◌&&◌, eqb, Some, None}
use Rattle.std.proofs.Math.Option.{some, none}
use Rattle.std.proofs.Math.ListN.{get_elem?}
use Rattle.line_receiver.specs.declared.Receiver.{Receiver}
use Rattle.line_receiver.specs.declared.Received.{Received}
use Rattle.line_receiver.specs.Receive.{taken, number_of}
use Rattle.line_receiver.specs.Frames.{Byte, Frame, frame_in}
use Rattle.module_rules.specs.declared.Address.{Address}
use Rattle.module_rules.specs.Touch.{named}
use Rattle.module_rules.specs.Kind.{Kind, executed, replied}

pub record Net (M : Type 0) : Type 0 where
  pub receiver : Receiver
  pub modules : List M

-- a reply, and the place that sends it
pub record Reply : Type 0 where
  pub place : ℕ
  pub bytes : List ℕ

-- the bytes of all replies, one after another
abbrev pub flat : List Reply → List ℕ
flat [] = []
flat (r ∷ rs) = r.bytes ++ flat rs

abbrev pub join : List (List ℕ) → List ℕ
join [] = []
join (w ∷ ws) = w ++ join ws

-- the replies of one place
abbrev pub replies_of : ℕ → List Reply → List (List ℕ)
replies_of i [] = []
replies_of i (r ∷ rs) = cond (eqb i r.place) (r.bytes ∷ replies_of i rs) (replies_of i rs)

-- what a module says, as its replies: one, or none where it says nothing
abbrev pub once : List ℕ → List (List ℕ)
once [] = []
once (b ∷ bs) = (b ∷ bs) ∷ []

pub record Step (M : Type 0) : Type 0 where
  pub number : ℕ
  pub net : Net M
  pub replies : List Reply

abbrev pub addresses : {M S : Type 0} → Kind M S → List M → List Address
addresses K [] = []
addresses K (m ∷ ms) = K.address m ∷ addresses K ms

-- whether a frame for address a touches place i of a chain, of which the first is enabled or not:
-- each other one is enabled when its predecessor's ADDR_OUT is low
abbrev pub touched : Bool → ℕ → List Address → ℕ → Bool
touched enabled a [] i = false
touched enabled a (w ∷ ws) zero = enabled && named a w
touched enabled a (w ∷ ws) (suc i) = touched w.low a ws i

-- place 0 is enabled, another place when its predecessor's ADDR_OUT is low
abbrev pub enabled_at : List Address → ℕ → Bool
enabled_at ws zero = true
enabled_at ws (suc i) = elim (get_elem? ws i) [ none ↦ false | some p ↦ p.low ]

-- the frame handed along the chain: enabling, touching and speaking are judged on the modules as they were before it
abbrev pub handed : {M S : Type 0} → Kind M S → Frame → Bool → List M → List M
handed K f enabled [] = []
handed K f enabled (m ∷ ms) =
    cond (enabled && named f.address (K.address m)) (executed K f m) m ∷ handed K f (K.address m).low ms

-- what each place says to the frame, [] for nothing
abbrev pub said : {M S : Type 0} → Kind M S → Frame → Bool → List M → List (List ℕ)
said K f enabled [] = []
said K f enabled (m ∷ ms) =
    cond (enabled && named f.address (K.address m)) (replied K f m) [] ∷ said K f (K.address m).low ms

-- the replies among what places from i on say, in chain order
abbrev pub sent_by : ℕ → List ℕ → List Reply
sent_by i [] = []
sent_by i (b ∷ bs) = record { place = i; bytes = b ∷ bs } ∷ []

abbrev pub replies_from : ℕ → List (List ℕ) → List Reply
replies_from i [] = []
replies_from i (w ∷ ws) = sent_by i w ++ replies_from (suc i) ws

-- a byte of the line: the number given back, the network after it, the replies in chain order
abbrev pub frame_step : {M S : Type 0} → Kind M S → Frame → Receiver → List M → Step M
frame_step K f r ms = record {
  number = number_of (Some f.damaged);
  net = record { receiver = r; modules = handed K f true ms };
  replies = replies_from 0 (said K f true ms);
}

unfoldable pub byte_step : {M S : Type 0} → Kind M S → Net M → Byte → Step M
byte_step K n b =
    let t : Received = taken n.receiver b.value b.mark in
    elim t.answer [
      | None ↦ record { number = number_of None; net = record { receiver = t.next; modules = n.modules }; replies = [] }
      | Some d ↦ frame_step K (frame_in n.receiver d) t.next n.modules
    ]

-- the network then, and all replies with their places, the earliest first
pub record Outcome (M : Type 0) : Type 0 where
  pub net : Net M
  pub replies : List Reply

-- an outcome, with replies that came before it
abbrev pub after : {M : Type 0} → List Reply → Outcome M → Outcome M
after earlier o = record { net = o.net; replies = earlier ++ o.replies }

-- 02 P2: bytes one after another, by the step that the byte call is proved against
abbrev pub taking : {M S : Type 0} → Kind M S → List Byte → Net M → Outcome M
taking K [] n = record { net = n; replies = [] }
taking K (b ∷ bs) n = after (byte_step K n b).replies (taking K bs (byte_step K n b).net)

-- 02 P11: a tick with a list of samples, a module's own at its place in the chain; without one a module is left as it is
abbrev pub timed : {M S : Type 0} → Kind M S → List S → List M → List M
timed K xs [] = []
timed K [] (m ∷ ms) = m ∷ ms
timed K (x ∷ xs) (m ∷ ms) = K.tick x m ∷ timed K xs ms

-- the chain with g applied to the module at place i
abbrev pub changed : {M : Type 0} → (M → M) → ℕ → List M → List M
changed g i [] = []
changed g zero (m ∷ ms) = g m ∷ ms
changed g (suc i) (m ∷ ms) = m ∷ changed g i ms
