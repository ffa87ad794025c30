-- A history a byte at a time makes of a network what it makes of it frame by frame. Assumes nothing.
use mathlib.Core.Path.{◌≡◌, refl, sym, ap, ◌∙◌}
use mathlib.Core.List.{List, [], ◌∷◌, ◌++◌, map, append-nil}
use Rattle.line_receiver.specs.Frames.{Byte}
use Rattle.module_rules.specs.Kind.{Kind}
use Rattle.chain_rules.specs.Chain.{Net, Reply, byte_step, after, taking}
use Rattle.chain_rules.proofs.Taking.{after-after}
use Rattle.demands_history_rules.specs.Events.{Event, sent, ticked, event, run, singly}

module _ {M S : Type 0} (K : Kind M S) where
  -- bytes one by one, before more of a history
  bytes_singly : (bs : List Byte) (h : List (Event (List S))) (n : Net M)
      → run K (map (λ (b : Byte). sent (b ∷ [])) bs ++ h) n ≡ after (taking K bs n).replies (run K h (taking K bs n).net)
  bytes_singly [] h n = refl
  bytes_singly (b ∷ bs) h n =
      ap (λ (l : List Reply). after l (run K (map (λ (b : Byte). sent (b ∷ [])) bs ++ h) (byte_step K n b).net)) (append-nil (byte_step K n b).replies)
      ∙ ap (after (byte_step K n b).replies) (bytes_singly bs h (byte_step K n b).net)
      ∙ sym (after-after (byte_step K n b).replies (taking K bs (byte_step K n b).net).replies (run K h (taking K bs (byte_step K n b).net).net))

  pub run-singly : (h : List (Event (List S))) (n : Net M) → run K (singly h) n ≡ run K h n
  run-singly [] n = refl
  run-singly (sent bs ∷ h) n = bytes_singly bs (singly h) n ∙ ap (after (taking K bs n).replies) (run-singly h (taking K bs n).net)
  run-singly (ticked xs ∷ h) n = ap (after []) (run-singly h (event K (ticked xs) n).net)
