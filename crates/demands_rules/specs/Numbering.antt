-- Document 02, P1, has three causes where document 01 has one, 2. Nothing but the number differs. Proved under its name, with small letters,
-- in proofs/.
use Rattle.std.specs.Prelude.{◌≡◌, ℕ, List, [], ◌∷◌, map}
use Rattle.chain_rules.specs.Chain.{Net}
use Rattle.module_rules.specs.Numbering.{older_number}
use Rattle.types_rules.specs.Types.{Module, AnySample, kind, outputs}
use Rattle.types_rules.specs.Numbering.{as_older, older_kind}
use Rattle.net_rules.specs.Calls.{set_up}
use Rattle.demands_history_rules.specs.Events.{Event, run, each}

pub record OnlyTheNumber : Type 0 where
  -- document 01's numbers for causes 0 to 5
  pub numbers : map older_number (0 ∷ 1 ∷ 2 ∷ 3 ∷ 4 ∷ 5 ∷ []) ≡ 0 ∷ 1 ∷ 2 ∷ 3 ∷ 2 ∷ 2 ∷ []
  -- any bytes and ticks with any samples, in any order: with document 01's numbering the same network, but for the numbers of its causes, and the same
  -- replies of the same places in the same order
  pub history : (h : List (Event (List AnySample))) (n : Net Module)
      → run older_kind h (each as_older n) ≡ record { net = each as_older (run kind h n).net; replies = (run kind h n).replies }
  -- so from power-up
  pub powered : (types : List ℕ) (h : List (Event (List AnySample))) → (run older_kind h (set_up types)).replies ≡ (run kind h (set_up types)).replies
  -- what is driven
  pub outputs : (m : Module) → outputs (as_older m) ≡ outputs m
