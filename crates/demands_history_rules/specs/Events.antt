-- A chain of any modules through a history: frames as bytes with their marks, and ticks with their samples, run byte by byte.
use Rattle.std.specs.Prelude.{◌≡◌, ℕ, ◌/◌, ◌<◌, List, [], ◌∷◌, ◌++◌, map, true, cond, ◌⊎◌, length}
use Rattle.std.proofs.Math.Option.{Option, some, none}
use Rattle.std.proofs.Math.ListN.{get_elem?}
use Rattle.line_receiver.specs.Receive.{idle}
use Rattle.line_receiver.specs.Frames.{Byte, Frame, waiting, ended, reads, header}
use Rattle.module_rules.specs.declared.Address.{Address}
use Rattle.module_rules.specs.Kind.{Kind, executed, replied, Along}
use Rattle.chain_rules.specs.Chain.{Net, once, addresses, touched, Outcome, after, taking, timed}

-- what happens: the bytes of a frame come, or a tick with what it carries. A network's tick carries a list of samples, a module's its own (02 P11).
pub data Event (T : Type 0) : Type 0 where
  sent : List Byte → Event T
  ticked : T → Event T

-- an event: a tick changes every module, each by its own sample
abbrev pub event : {M S : Type 0} → Kind M S → Event (List S) → Net M → Outcome M
event K (sent bs) n = taking K bs n
event K (ticked xs) n = record { net = record { receiver = n.receiver; modules = timed K xs n.modules }; replies = [] }

-- a history: its events one after another
abbrev pub run : {M S : Type 0} → Kind M S → List (Event (List S)) → Net M → Outcome M
run K [] n = record { net = n; replies = [] }
run K (e ∷ h) n = after (event K e n).replies (run K h (event K e n).net)

-- the network with h of each module
abbrev pub each : {M N : Type 0} → (M → N) → Net M → Net N
each h n = record { receiver = n.receiver; modules = map h n.modules }

-- Where one kind of module is another's along h, their networks go so through any history, with the same replies.
abbrev pub RunsAlong : {M S : Type 0} → Kind M S → Kind M S → (M → M) → Type 0
RunsAlong {M} {S} K L h =
    Along K L h
    → (es : List (Event (List S))) (n : Net M)
    → run L es (each h n) ≡ record { net = each h (run K es n).net; replies = (run K es n).replies }

-- these bytes, from an idle receiver, are the frame f: it ends with the last of them and not sooner, and leaves the receiver idle
abbrev pub Reads : List Byte → Frame → Type 0
Reads bs f = reads bs idle ≡ ended f idle []

-- Every frame is whole, whatever marks its bytes have after the header and whatever its last byte is.
abbrev pub FramesAreWhole : Type 0
FramesAreWhole =
    (address command : Byte) (ds : List Byte) (last : Byte)
    → command.value < 256 → length ds ≡ command.value / 16
    → (f : Frame) × Reads (header ∷ address ∷ command ∷ ds ++ last ∷ []) f

-- the frame can't change an address: it is damaged, or neither Set Address nor Hard Reset
abbrev pub Harmless : Frame → Type 0
Harmless f = (f.damaged ≡ true) ⊎ ((f.code ≡ 1 → ⊥) × (f.code ≡ 15 → ⊥))

-- every frame of a history is whole, and of this sort
abbrev pub Frames : {T : Type 0} → (Frame → Type 0) → List (Event T) → Type 0
Frames P [] = Unit {0}
Frames P (sent bs ∷ h) = ((f : Frame) × Reads bs f × P f) × Frames P h
Frames P (ticked x ∷ h) = Frames P h

-- any frames, so long as they are whole
abbrev pub Whole : {T : Type 0} → List (Event T) → Type 0
Whole = Frames (λ f. Unit {0})

-- whole frames with no undamaged Set Address and no undamaged Hard Reset
abbrev pub Ordinary : {T : Type 0} → List (Event T) → Type 0
Ordinary = Frames Harmless

-- a history as the calls hand it over, a byte at a time
abbrev pub singly : {T : Type 0} → List (Event T) → List (Event T)
singly [] = []
singly (sent bs ∷ h) = map (λ (b : Byte). sent (b ∷ [])) bs ++ singly h
singly (ticked x ∷ h) = ticked x ∷ singly h

-- something about the frame that bytes come to, or this if they come to none
abbrev pub of_frame : {A : Type 0} → A → (Frame → A) → List Byte → A
of_frame z g bs = elim (reads bs idle) [ waiting r ↦ z | ended f r rest ↦ g f ]

-- the tick that a module meets with its own sample, if there is one for it
abbrev pub own_tick : {S : Type 0} → Option S → List (Event S)
own_tick none = []
own_tick (some x) = ticked x ∷ []

-- what place i of a chain with these addresses meets of an event: the frame, if it touches it; of a tick its own sample, and no other's
abbrev pub met : {S : Type 0} → List Address → ℕ → Event (List S) → List (Event S)
met ws i (sent bs) = of_frame [] (λ f. cond (touched true f.address ws i) (sent bs ∷ []) []) bs
met ws i (ticked xs) = own_tick (get_elem? xs i)

-- what place i meets of a history, in its order, all judged by the same addresses
abbrev pub met_by : {S : Type 0} → List Address → ℕ → List (Event (List S)) → List (Event S)
met_by ws i [] = []
met_by ws i (e ∷ h) = met ws i e ++ met_by ws i h

-- the same, each judged by the addresses as they are when it comes
abbrev pub met_in_turn : {M S : Type 0} → Kind M S → ℕ → List (Event (List S)) → Net M → List (Event S)
met_in_turn K i [] n = []
met_in_turn K i (e ∷ h) n = met (addresses K n.modules) i e ++ met_in_turn K i h (event K e n).net

-- what a module by itself makes of an event that it meets, and what it replies to it
abbrev pub own : {M S : Type 0} → Kind M S → M → Event S → M
own K m (sent bs) = of_frame m (λ f. executed K f m) bs
own K m (ticked x) = K.tick x m

abbrev pub own_reply : {M S : Type 0} → Kind M S → M → Event S → List (List ℕ)
own_reply K m (sent bs) = of_frame [] (λ f. once (replied K f m)) bs
own_reply K m (ticked x) = []

-- a module by itself after events that it meets, and its replies to them
abbrev pub alone : {M S : Type 0} → Kind M S → M → List (Event S) → M
alone K m [] = m
alone K m (e ∷ es) = alone K (own K m e) es

abbrev pub alone_replies : {M S : Type 0} → Kind M S → M → List (Event S) → List (List ℕ)
alone_replies K m [] = []
alone_replies K m (e ∷ es) = own_reply K m e ++ alone_replies K (own K m e) es
