-- Samples and ticks apart, as document 01 has them, and that a tick with its list of samples is the same (document 02, P11), whatever the module type.
-- Each promise is proved under its name, with small letters, in proofs/.
use Rattle.std.specs.Prelude.{◌≡◌, ℕ, suc, List, [], ◌∷◌, ◌++◌, map, length}
use Rattle.line_receiver.specs.Frames.{Byte}
use Rattle.module_rules.specs.Kind.{Kind}
use Rattle.chain_rules.specs.Chain.{Net, changed, Outcome, after, taking}
use Rattle.types_rules.specs.Types.{Module, AnySample, kind, slots}
use Rattle.net_rules.specs.Record.{net_in}
use Rattle.net_rules.specs.Calls.{samples_for}
use Rattle.base_layout.specs.Bytes.{Bytes}
use Rattle.api_rules.specs.Table.{tick_table}
use Rattle.api_rules.specs.Calls.{tick_record}
use Rattle.api_rules.specs.Promises.{Passes}
use Rattle.demands_history_rules.specs.Events as New
use Rattle.demands_history_rules.specs.Events.{Event, event, run, each}

-- 01 Servo, I/O module, Sample: a module beside the sample that waits for its next tick
pub record Beside (M S : Type 0) : Type 0 where
  pub itself : M
  pub waiting : S

-- 01 Sample: a sample waits in place of the one before it
abbrev pub sampled_by : {M S : Type 0} → S → Beside M S → Beside M S
sampled_by x w = record { itself = w.itself; waiting = x }

-- 01 Tick: a tick hands the waiting sample in, and it goes on waiting
abbrev pub ticked_beside : {M S : Type 0} → Kind M S → Beside M S → Beside M S
ticked_beside K w = record { itself = K.tick w.waiting w.itself; waiting = w.waiting }

-- such a module as its chain knows it: frames leave the waiting sample, Hard Reset too, and a tick carries nothing
abbrev pub older_kind : {M S : Type 0} → Kind M S → Kind (Beside M S) (Unit {0})
older_kind K = record {
  address = λ w. K.address w.itself;
  execute = λ f alone w. record { itself = K.execute f alone w.itself; waiting = w.waiting };
  reply = λ f w. K.reply f w.itself;
  tick = λ nothing w. ticked_beside K w;
}

-- what happens to a network of them: the bytes of a frame come, a sample for a place, a tick
pub data Older (S : Type 0) : Type 0 where
  sent : List Byte → Older S
  sampled : ℕ → S → Older S
  ticked : Older S

module _ {M S : Type 0} (K : Kind M S) where
  abbrev pub older_event : Older S → Net (Beside M S) → Outcome (Beside M S)
  older_event (sent bs) n = taking (older_kind K) bs n
  older_event (sampled place x) n = record { net = record { receiver = n.receiver; modules = changed (sampled_by x) place n.modules }; replies = [] }
  older_event ticked n = record { net = record { receiver = n.receiver; modules = map (ticked_beside K) n.modules }; replies = [] }

  abbrev pub older_run : List (Older S) → Net (Beside M S) → Outcome (Beside M S)
  older_run [] n = record { net = n; replies = [] }
  older_run (e ∷ h) n = after (older_event e n).replies (older_run h (older_event e n).net)

-- the network without its waiting samples, and these
abbrev pub plain : {M S : Type 0} → Net (Beside M S) → Net M
plain n = each (λ w. w.itself) n

abbrev pub waiting_in : {M S : Type 0} → Net (Beside M S) → List S
waiting_in n = map (λ w. w.waiting) n.modules

-- a history with samples and ticks together: the samples are gathered, from those that wait already, and each tick takes them as its list
abbrev pub gathered : {S : Type 0} → List S → List (Older S) → List (Event (List S))
gathered ws [] = []
gathered ws (sent bs ∷ h) = New.sent bs ∷ gathered ws h
gathered ws (sampled place x ∷ h) = gathered (changed (λ w. x) place ws) h
gathered ws (ticked ∷ h) = New.ticked ws ∷ gathered ws h

-- Together as apart: through any history, in any order of frames, samples and ticks, the modules and the replies are the same.
abbrev pub Together : {M S : Type 0} → Kind M S → Type 0
Together {M} {S} K =
    (h : List (Older S)) (n : Net (Beside M S))
    → run K (gathered (waiting_in n) h) (plain n) ≡ record { net = plain (older_run K h n).net; replies = (older_run K h n).replies }

-- samples for the places from i on
abbrev pub sampled_from : {S : Type 0} → ℕ → List S → List (Older S)
sampled_from i [] = []
sampled_from i (x ∷ xs) = sampled i x ∷ sampled_from (suc i) xs

-- A tick with a sample for every place is these samples followed by a tick, whatever waited before; they then wait.
abbrev pub SamplesThenTick : {M S : Type 0} → Kind M S → Type 0
SamplesThenTick {M} {S} K =
    (n : Net (Beside M S)) (xs : List S) → length xs ≡ length n.modules
    → ((event K (New.ticked xs) (plain n)).net ≡ plain (older_run K (sampled_from 0 xs ++ ticked ∷ []) n).net)
    × (waiting_in (older_run K (sampled_from 0 xs ++ ticked ∷ []) n).net ≡ xs)

-- Of two samples for one place before a tick the later counts.
abbrev pub TheLater : (S : Type 0) → Type 0
TheLater S =
    (ws : List S) (place : ℕ) (x y : S) (h : List (Older S))
    → gathered ws (sampled place x ∷ sampled place y ∷ h) ≡ gathered ws (sampled place y ∷ h)

-- So it is for every kind of module; and for every list that the tick's call does not refuse, on any valid record, whatever waited before.
pub record AsBefore : Type 1 where
  pub together : (M S : Type 0) (K : Kind M S) → Together K
  pub samples_then_tick : (M S : Type 0) (K : Kind M S) → SamplesThenTick K
  pub the_later : (S : Type 0) → TheLater S
  pub by_call : (net samples : List ℕ) (n : Net (Beside Module AnySample))
      → Bytes net
      → Bytes samples
      → Passes (tick_table net samples)
      → plain n ≡ net_in slots net
      → net_in slots (tick_record net samples) ≡ plain (older_run kind (sampled_from 0 (samples_for (net_in slots net) samples) ++ ticked ∷ []) n).net
