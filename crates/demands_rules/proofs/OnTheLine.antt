-- The mill's question on the line, byte by byte, through the exported call, of any type with loads. Assumes nothing.
use mathlib.Core.Path.{◌≡◌, refl, sym, ap, ap₂, ◌∙◌}
use mathlib.Core.Logic.{inr}
use mathlib.Core.List.{List, [], ◌∷◌, ◌++◌, map, map-append, append-nil}
use mathlib.Core.Bool.{Bool, true, false, cond, ◌&&◌, true≢false}
use mathlib.Core.Option
use mathlib.Core.Option.{Option, some}
use Prim.Native.Nat.{ℕ, ◌≤◌}
use native.Mathlib.Omega.{arith}
use borrow.Author.Tests.{le-ltb, ltb-true}
use lib.ListN.{length, get_elem?}
use lib.Dec.{eqb, ltb}
use Rattle.line_receiver.specs.Receive.{idle}
use Rattle.line_receiver.specs.Frames.{Byte, Frame, values, AreBytes}
use Rattle.module_rules.specs.declared.Address.{Address}
use Rattle.module_rules.specs.Touch.{individually}
use Rattle.module_rules.specs.Kind.{executed}
use Rattle.module_rules.specs.Rules.{execute}
use Rattle.chain_rules.specs.Chain.{Net, addresses, touched, Outcome, taking}
use Rattle.chain_rules.proofs.Touching.{touched_before}
use Rattle.types_rules.specs.Table.{ModuleType, Of, rules_of}
use Rattle.types_rules.specs.Types.{Module, AnySample, kind, slots}
use Rattle.net_rules.specs.Record.{room_size, net_in, valid}
use Rattle.net_rules.specs.Calls.{byte_of}
use Rattle.api_rules.specs.Promises.{ValidRecord, Passes}
use Rattle.demands_history_rules.specs.Events.{Event, sent, run, Reads, singly}
use Rattle.demands_history_rules.specs.Calls.{Call, byte, AllHanded, refusals, leaves, left_by, done_by}
use Rattle.demands_history_rules.proofs.Events.{whole-event, event-idle}
use Rattle.demands_history_rules.proofs.Singly.{run-singly}
use Rattle.demands_history_rules.proofs.Calls.{call_kept}
use Rattle.demands_rules.specs.Question.{fed, QuestionOnTheLine, Loading}
use Rattle.demands_rules.proofs.Calls.{done-passed, any_calls}
use Rattle.demands_rules.proofs.Order.{keeps_address, kept_handed}
use Rattle.demands_rules.proofs.Question.{question}

-- ---- bytes handed over by calls

-- bytes, by a test
abbrev pub are_small : List ℕ → Bool
are_small [] = true
are_small (x ∷ xs) = ltb x 256 && are_small xs

pub small : (xs : List ℕ) → are_small xs ≡ true → AreBytes xs
small [] e = tt
small (x ∷ xs) e = at (ltb x 256) refl e (small xs)
  where
    at : (t : Bool) → ltb x 256 ≡ t → t && are_small xs ≡ true → (are_small xs ≡ true → AreBytes xs) → AreBytes (x ∷ xs)
    at true q e ih = (ltb-true _ _ q, ih e)
    at false q e ih = absurd (true≢false (sym e))

pub byte_goes : (net room : List ℕ) (b : Byte) → valid slots net ≡ true → room_size ≤ length room → Passes (refusals net (byte (cond b.mark 1 0) b.value room))
byte_goes net room b v r = at b.mark
  where
    at : (t : Bool) → Passes (refusals net (byte (cond t 1 0) b.value room))
    at true = rw (v, le-ltb (length room) room_size r) refl
    at false = rw (v, le-ltb (length room) room_size r) refl

pub fed-handed : (room : List ℕ) (bs : List Byte) → AreBytes (values bs) → AllHanded (fed room bs)
fed-handed room [] h = tt
fed-handed room (b ∷ bs) h = (h.0, fed-handed room bs h.1)

-- the byte that a call hands over is the byte
handed_over : (v : ℕ) (t : Bool) → byte_of v (eqb (cond t 1 0) 1) ≡ record { value = v; mark = t }
handed_over v true = refl
handed_over v false = refl

-- they are done, one by one
pub fed-done : (room : List ℕ) (bs : List Byte) (net : List ℕ) → room_size ≤ length room → ValidRecord net → AreBytes (values bs)
    → done_by (fed room bs) net ≡ map (λ (b : Byte). sent (b ∷ [])) bs
fed-done room [] net r v h = refl
fed-done room (b ∷ bs) net r v h =
    let c : Call = byte (cond b.mark 1 0) b.value room in
    done-passed c (fed room bs) net (byte_goes net room b v.0 r)
    ∙ ap₂ (λ (b : Byte) (l : List (Event (List AnySample))). sent (b ∷ []) ∷ l) (handed_over b.value b.mark)
    (fed-done room bs (leaves net c) r (call_kept net c h.0 v) h.1)

-- two frames, one after the other
pub fed_two : (room : List ℕ) (bs ds : List Byte) (net : List ℕ) → room_size ≤ length room → ValidRecord net → AreBytes (values (bs ++ ds))
    → done_by (fed room (bs ++ ds)) net ≡ singly (sent bs ∷ sent ds ∷ [])
fed_two room bs ds net r v h =
    let each : Byte → Event (List AnySample) = λ b. sent (b ∷ []) in
    fed-done room (bs ++ ds) net r v h
    ∙ map-append each bs ds
    ∙ ap (λ (l : List (Event (List AnySample))). map each bs ++ l) (sym (append-nil (map each ds)))

pub fed_both : (room : List ℕ) (bs ds : List Byte) (net : List ℕ) → room_size ≤ length room → ValidRecord net → AreBytes (values (bs ++ ds))
    → net_in slots (left_by (fed room (bs ++ ds)) net) ≡ (run kind (sent bs ∷ sent ds ∷ []) (net_in slots net)).net
fed_both room bs ds net r v h =
    (any_calls net (fed room (bs ++ ds)) v (fed-handed room (bs ++ ds) h)).network
    ∙ ap (λ (l : List (Event (List AnySample))). (run kind l (net_in slots net)).net) (fed_two room bs ds net r v h)
    ∙ ap (λ (o : Outcome Module). o.net) (run-singly kind (sent bs ∷ sent ds ∷ []) (net_in slots net))

-- ---- two frames at one place

-- a Load changes nobody's address
load-addresses : (n : Net Module) (bs : List Byte) (f : Frame) → n.receiver ≡ idle → Reads bs f → f.code ≡ 4
    → addresses kind (taking kind bs n).net.modules ≡ addresses kind n.modules
load-addresses n bs f z q c =
    ap (λ (o : Outcome Module). addresses kind o.net.modules) (whole-event kind n z bs f q)
    ∙ kept_handed kind keeps_address f true n.modules (inr (λ e. omega arith, λ e. omega arith))

module _ (t : ModuleType) where
  -- a module that a frame may have reached is still of its type
  reached_is : (u : Bool) (x y : Of t) → ◌≡◌ {A = Module} (cond u (t, x) (t, y)) (t, cond u x y)
  reached_is true x y = refl
  reached_is false x y = refl

  -- what the bytes of a frame make of the module at a place
  place_after_lem : (n : Net Module) (i : ℕ) (m : Of t) (bs : List Byte) (f : Frame) → n.receiver ≡ idle → Reads bs f → get_elem? n.modules i ≡ some (t, m)
      → get_elem? (taking kind bs n).net.modules i
      ≡ some (t, cond (touched true f.address (addresses kind n.modules) i) (execute (rules_of t) f (individually f.address ((rules_of t).station m).address) m) m)
  place_after_lem n i m bs f z q e =
      let u : Bool = touched true f.address (addresses kind n.modules) i in
      ap (λ (o : Outcome Module). get_elem? o.net.modules i) (whole-event kind n z bs f q)
      ∙ touched_before kind f n.modules i
      ∙ ap (λ (o : Option Module). Option.map (λ (m : Module). cond u (executed kind f m) m) o) e
      ∙ ap some (reached_is u (execute (rules_of t) f (individually f.address ((rules_of t).station m).address) m) m)

  pub question_on_the_line : (needed : ℕ → ℕ) (NoneReady NoLoad : Of t → Type 0) → Loading t needed NoneReady NoLoad → QuestionOnTheLine t needed NoneReady
  question_on_the_line needed NoneReady NoLoad o net room i m load_bytes start_bytes load start v r h z here unready reads_load c missed reads_start is_start touches =
      let n : Net Module = net_in slots net in
      let n' : Net Module = (taking kind load_bytes n).net in
      let reached : Bool = touched true load.address (addresses kind n.modules) i in
      let alone : Bool = individually load.address ((rules_of t).station m).address in
      let k : Of t = cond reached (execute (rules_of t) load alone m) m in
      let apart : Bool = individually start.address ((rules_of t).station k).address in
      let z' : n'.receiver ≡ idle = event-idle kind n z (sent load_bytes) (load, reads_load) in
      let touches' : touched true start.address (addresses kind n'.modules) i ≡ true =
      ap (λ (ws : List Address). touched true start.address ws i) (load-addresses n load_bytes load z reads_load c) ∙ touches in
      ap (λ (n : Net Module). get_elem? n.modules i) (fed_both room load_bytes start_bytes net r v h)
      ∙ place_after_lem n' i k start_bytes start z' reads_start (place_after_lem n i m load_bytes load z reads_load here)
      ∙ ap (λ (u : Bool). some (t, cond u (execute (rules_of t) start apart k) k)) touches'
      ∙ ap (λ (m : Of t). some (t, m)) (question t needed NoneReady NoLoad o m load start reached alone apart missed unready is_start)
