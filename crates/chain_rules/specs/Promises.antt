-- What is promised of any chain, whatever its module type. Each is proved under its name, with small letters, in proofs/.
use Rattle.std.specs.Prelude.{◌≡◌, ℕ, suc, ◌*◌, ◌≤◌, List, [], ◌∷◌, ◌++◌, map, Bool, true, false, cond, ◌&&◌, length, Some}
use Rattle.std.proofs.Math.Option
use Rattle.std.proofs.Math.Option.{Option, some, none}
use Rattle.std.proofs.Math.ListN.{get_elem?}
use Rattle.line_receiver.specs.declared.Receiver.{Receiver}
use Rattle.line_receiver.specs.Receive.{total, waits, taken}
use Rattle.line_receiver.specs.Frames.{Byte, Frame, frame_in, ends}
use Rattle.line_receiver.specs.Promises.{Numbered}
use Rattle.module_rules.specs.declared.Address.{Address}
use Rattle.module_rules.specs.Touch.{named}
use Rattle.module_rules.specs.Kind.{Kind, executed, replied}
use Rattle.chain_rules.specs.Chain.{Net, Reply, flat, join, replies_of, once, addresses, touched, enabled_at, handed, said, replies_from, frame_step, byte_step, taking, timed}

-- After a frame the module at place i is the one that was there, executed exactly if the addresses before the frame say that it is touched.
abbrev pub TouchedBefore : {M S : Type 0} → Kind M S → Type 0
TouchedBefore {M} K =
    (f : Frame) (ms : List M) (i : ℕ)
    → get_elem? (handed K f true ms) i
    ≡ Option.map (λ (m : M). cond (touched true f.address (addresses K ms) i) (executed K f m) m) (get_elem? ms i)

-- A module is touched exactly if its place is enabled and it has the frame's address; place 0 is always enabled, another exactly if the
-- ADDR_OUT of its direct predecessor is low, whatever stands before that one.
abbrev pub Enabled : Type 0
Enabled =
    (a i : ℕ) (ws : List Address) (w : Address)
    → get_elem? ws i ≡ some w
    → touched true a ws i ≡ (enabled_at ws i && named a w)

-- So place 0 is touched if it has the frame's address, and so is a place behind a low ADDR_OUT; a place behind a high one never is.
pub record Handing (a : ℕ) (ws : List Address) : Type 0 where
  pub first : (w : Address) → get_elem? ws 0 ≡ some w → touched true a ws 0 ≡ named a w
  pub low : (i : ℕ) (p w : Address)
      → get_elem? ws i ≡ some p
      → get_elem? ws (suc i) ≡ some w
      → p.low ≡ true
      → touched true a ws (suc i) ≡ named a w
  pub high : (i : ℕ) (p w : Address)
      → get_elem? ws i ≡ some p
      → get_elem? ws (suc i) ≡ some w
      → p.low ≡ false
      → touched true a ws (suc i) ≡ false

abbrev pub HandedOn : Type 0
HandedOn = (a : ℕ) (ws : List Address) → Handing a ws

-- A module's record after a frame, and what it says, hang on the frame, its own record before it and whether its place is enabled: in two
-- chains of any lengths, with any neighbours, they are the same.
abbrev pub OwnRecord : {M S : Type 0} → Kind M S → Type 0
OwnRecord {M} K =
    (f : Frame) (ms ns : List M) (i j : ℕ) (m : M)
    → get_elem? ms i ≡ some m
    → get_elem? ns j ≡ some m
    → enabled_at (addresses K ms) i ≡ enabled_at (addresses K ns) j
    → (get_elem? (handed K f true ms) i ≡ get_elem? (handed K f true ns) j)
    × (get_elem? (said K f true ms) i ≡ get_elem? (said K f true ns) j)

-- A module that is not touched is unchanged, and says nothing.
abbrev pub Untouched : {M S : Type 0} → Kind M S → Type 0
Untouched {M} K =
    (f : Frame) (ms : List M) (i : ℕ) (m : M)
    → get_elem? ms i ≡ some m
    → touched true f.address (addresses K ms) i ≡ false
    → (get_elem? (handed K f true ms) i ≡ some m) × (get_elem? (said K f true ms) i ≡ some [])

-- Place i says its module's reply if it is touched, and nothing if not.
abbrev pub Says : {M S : Type 0} → Kind M S → Type 0
Says {M} K =
    (f : Frame) (ms : List M) (i : ℕ)
    → get_elem? (said K f true ms) i
    ≡ Option.map (λ (m : M). cond (touched true f.address (addresses K ms) i) (replied K f m) []) (get_elem? ms i)

-- Among the replies to a frame, those of place i are the one that it says, or none if it says nothing; beyond the chain there are none.
abbrev pub RepliesAre : {M S : Type 0} → Kind M S → Type 0
RepliesAre {M} K =
    ((f : Frame) (ms : List M) (i : ℕ) (m : M)
    → get_elem? ms i ≡ some m
    → replies_of i (replies_from 0 (said K f true ms))
    ≡ once (cond (touched true f.address (addresses K ms) i) (replied K f m) []))
    × ((f : Frame) (ms : List M) (i : ℕ) → get_elem? ms i ≡ none → replies_of i (replies_from 0 (said K f true ms)) ≡ [])

-- Of a touched module that the frame names individually, or that leads its group, the reply is among those to the frame; of a touched one that
-- is neither there is none (01 Who is touched).
pub record Heard {M S : Type 0} (K : Kind M S) (f : Frame) (m : M) (replies : List (List ℕ)) : Type 0 where
  pub alone : (K.address m).individual ≡ f.address → replies ≡ once (K.reply f (executed K f m))
  pub leader : (K.address m).leader ≡ true → replies ≡ once (K.reply f (executed K f m))
  pub member : ((K.address m).individual ≡ f.address → ⊥) → (K.address m).leader ≡ false → replies ≡ []

abbrev pub EachHeard : {M S : Type 0} → Kind M S → Type 0
EachHeard {M} K =
    (f : Frame) (ms : List M) (i : ℕ) (m : M)
    → get_elem? ms i ≡ some m
    → touched true f.address (addresses K ms) i ≡ true
    → Heard K f m (replies_of i (replies_from 0 (said K f true ms)))

-- replies in chain order, from place i on: each at a place after those of the replies before it
abbrev pub Rising : ℕ → List Reply → Type 0
Rising i [] = Unit {0}
Rising i (r ∷ rs) = (i ≤ r.place) × Rising (suc r.place) rs

-- The replies to a frame come in chain order, no place twice.
abbrev pub InOrder : {M S : Type 0} → Kind M S → Type 0
InOrder {M} K = (f : Frame) (ms : List M) → Rising 0 (replies_from 0 (said K f true ms))

-- The bytes of the replies, one after another, are what the places say, one after another; they are as many as the replies' lengths together.
abbrev pub Lengths : Type 0
Lengths =
    ((i : ℕ) (ws : List (List ℕ)) → flat (replies_from i ws) ≡ join ws)
    × ((rs : List Reply) → length (flat rs) ≡ total (map (λ (r : Reply). length r.bytes) rs))

-- A byte that ends no frame changes the receiver only, gives 0 and draws no reply; one that ends a frame hands that frame along the chain.
abbrev pub ByteTaken : {M S : Type 0} → Kind M S → Type 0
ByteTaken {M} K =
    ((n : Net M) (b : Byte) (r : Receiver)
    → taken n.receiver b.value b.mark ≡ waits r
    → byte_step K n b ≡ record { number = 0; net = record { receiver = r; modules = n.modules }; replies = [] })
    × ((n : Net M) (b : Byte) (r : Receiver) (d : Bool)
    → taken n.receiver b.value b.mark ≡ record { next = r; answer = Some d }
    → byte_step K n b ≡ frame_step K (frame_in n.receiver d) r n.modules)

-- The number of a byte tells what it ended: 0 nothing, 1 an undamaged frame, 2 a damaged one (01 Numbers given back).
abbrev pub NumberTold : {M S : Type 0} → Kind M S → Type 0
NumberTold {M} K = (n : Net M) (b : Byte) → Numbered (taken n.receiver b.value b.mark).answer (byte_step K n b).number

-- 02 P2: Bytes one after another: none change nothing, one does what its step does, and where they are cut does not matter: in two parts they make of
-- a network what they make in one, and the replies to the first part come before those to the second.
pub record InParts {M S : Type 0} (K : Kind M S) : Type 0 where
  pub none : (n : Net M) → taking K [] n ≡ record { net = n; replies = [] }
  pub one : (b : Byte) (n : Net M) → taking K (b ∷ []) n ≡ record { net = (byte_step K n b).net; replies = (byte_step K n b).replies }
  pub net : (xs ys : List Byte) (n : Net M) → (taking K (xs ++ ys) n).net ≡ (taking K ys (taking K xs n).net).net
  pub replies : (xs ys : List Byte) (n : Net M) → (taking K (xs ++ ys) n).replies ≡ (taking K xs n).replies ++ (taking K ys (taking K xs n).net).replies

-- 02 P2: Where no module's reply is longer than k, all replies to some bytes are no longer than that for each module and each frame that ends.
abbrev pub FewReplies : {M S : Type 0} → Kind M S → Type 0
FewReplies {M} K =
    (k : ℕ) → ((f : Frame) (m : M) → length (replied K f m) ≤ k)
    → (bs : List Byte) (n : Net M) → length (flat (taking K bs n).replies) ≤ k * length n.modules * ends bs n.receiver

-- the module at a place after a tick, by the sample at that place of the list
abbrev pub handed_in : {M S : Type 0} → Kind M S → Option S → M → M
handed_in K none m = m
handed_in K (some x) m = K.tick x m

-- After a tick the module at place i is the one that was there, ticked with the sample at place i of the list, whatever the other places are handed;
-- the chain is as long as it was (02 P11).
abbrev pub OwnSample : {M S : Type 0} → Kind M S → Type 0
OwnSample {M} {S} K =
    (xs : List S) (ms : List M)
    → ((i : ℕ) → get_elem? (timed K xs ms) i ≡ Option.map (handed_in K (get_elem? xs i)) (get_elem? ms i))
    × (length (timed K xs ms) ≡ length ms)
