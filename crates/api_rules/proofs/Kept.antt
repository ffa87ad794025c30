-- Calls keep a valid record, which then holds the network of the definitions. Assumes nothing.
use mathlib.Core.Path.{◌≡◌, refl, sym, ap, subst, ◌∙◌}
use mathlib.Core.List.{List, map}
use mathlib.Core.Bool.{true}
use Prim.Native.Nat.{ℕ, ◌<◌}
use native.Mathlib.Omega.{arith}
use lib.ListN.{length, length-map}
use lib.Dec.{eqb}
use Rattle.base_layout.specs.Bytes.{Bytes}
use Rattle.chain_rules.specs.Chain.{Net}
use Rattle.types_rules.specs.Types.{Module, kind, slots, powered, Good}
use Rattle.types_rules.proofs.Laws.{lawful}
use Rattle.types_rules.proofs.Kept.{preserves}
use Rattle.net_rules.specs.Record.{net_in, stored}
use Rattle.net_rules.specs.Calls.{set_up, fresh, byte_of, all_in_range, samples_for, tick_step}
use Rattle.net_rules.specs.Promises.{SoundNet}
use Rattle.net_rules.proofs.Valid.{valid_is}
use Rattle.net_rules.proofs.Stored as Stored
use Rattle.net_rules.proofs.Kept as Net
use Rattle.net_rules.proofs.Powered as Powered
use Rattle.net_rules.proofs.Listed.{samples_good}
use Rattle.api_rules.specs.Table.{setup_table, byte_table, buffer_table, tick_table}
use Rattle.api_rules.specs.Calls.{step_of, setup_record, byte_record, buffer_of, buffer_record, tick_record}
use Rattle.api_rules.specs.Promises.{Passes, ValidRecord, Kept, Holds, ThereAndBack}
use Rattle.api_rules.proofs.Refused.{done, either_way, setup_passes, setup_some, byte_passes, buffer_passes, tick_passes}

-- a record after a call, and the network that it should hold
After : List ℕ → Net Module → Type 0
After s n = ValidRecord s × (net_in slots s ≡ n)

-- a sound network, stored
stored-after : (n : Net Module) (s : List ℕ) → SoundNet slots n → ValidRecord s → After (stored slots n s) n
unfolding After
stored-after n s h v =
    let p = Stored.back lawful n s h (valid_is slots s v.0).size v.1 in
    ((p.1, p.2), p.0)

held : (s : List ℕ) → ValidRecord s → SoundNet slots (net_in slots s)
held s v = Stored.holds lawful s v.1 v.0

-- what is stored by each call
byte-after : (net : List ℕ) (mark byte : ℕ) → byte < 256 → ValidRecord net → After (stored slots (step_of net mark byte).net net) (step_of net mark byte).net
byte-after net mark byte h v =
    stored-after (step_of net mark byte).net net (Net.kept_by_byte kind slots Good preserves (net_in slots net) (byte_of byte (eqb mark 1)) (held net v) h) v

buffer_after : (net bytes marks : List ℕ) → Bytes bytes → ValidRecord net
    → After (stored slots (buffer_of net bytes marks).net net) (buffer_of net bytes marks).net
buffer_after net bytes marks b v =
    stored-after (buffer_of net bytes marks).net net (Net.kept_by_bytes kind slots Good preserves bytes marks (net_in slots net) b (held net v)) v

tick_after : (net samples : List ℕ) → Bytes samples → all_in_range (length (net_in slots net).modules) samples ≡ true → ValidRecord net
    → After (stored slots (tick_step (samples_for (net_in slots net) samples) (net_in slots net)) net) (tick_step (samples_for (net_in slots net) samples) (net_in slots net))
tick_after net samples b r v =
    stored-after (tick_step (samples_for (net_in slots net) samples) (net_in slots net)) net
    (Net.kept_by_tick kind slots Good preserves (net_in slots net) (samples_for (net_in slots net) samples) (held net v) (samples_good _ samples b r)) v

setup_after : (net types : List ℕ) → Passes (setup_table net types) → After (fresh types) (set_up types)
unfolding After fresh
setup_after net types e =
    let p = setup_passes net types e in
    let l = length-map types powered in
    let q = Powered.powered lawful (map powered types) (omega (arith, setup_some net types e)) (omega (arith, p.1)) (Powered.powered-each types) in
    ((q.1, q.2), q.0)

pub kept : Kept
unfolding After setup_record byte_record buffer_record tick_record
kept = record {
  setup = λ net types p. subst ValidRecord (done (setup_table net types) _ (fresh types) refl p) (setup_after net types p).0;
  byte = λ net mark byte room h v.
      either_way ValidRecord (byte_table net mark room) net (stored slots (step_of net mark byte).net net) v (λ p. (byte-after net mark byte h v).0);
  buffer = λ net bytes marks room b v.
      either_way ValidRecord (buffer_table net bytes marks room) net (stored slots (buffer_of net bytes marks).net net) v
      (λ p. (buffer_after net bytes marks b v).0);
  tick = λ net samples b v.
      either_way ValidRecord (tick_table net samples) net (stored slots (tick_step (samples_for (net_in slots net) samples) (net_in slots net)) net) v
      (λ p. (tick_after net samples b (tick_passes net samples p).ranged v).0);
}

pub holds : Holds
unfolding After setup_record byte_record buffer_record tick_record
holds = record {
  setup = λ net types p. ap (net_in slots) (sym (done (setup_table net types) _ (fresh types) refl p)) ∙ (setup_after net types p).1;
  byte = λ net mark byte room h b p.
      ap (net_in slots) (sym (done (byte_table net mark room) net (stored slots (step_of net mark byte).net net) refl p))
      ∙ (byte-after net mark byte h ((byte_passes net mark room p).0, b)).1;
  buffer = λ net bytes marks room b h p.
      ap (net_in slots) (sym (done (buffer_table net bytes marks room) net (stored slots (buffer_of net bytes marks).net net) refl p))
      ∙ (buffer_after net bytes marks b ((buffer_passes net bytes marks room p).valid, h)).1;
  tick = λ net samples b h p.
      let t = tick_passes net samples p in
      ap (net_in slots) (sym (done (tick_table net samples) net (stored slots (tick_step (samples_for (net_in slots net) samples) (net_in slots net)) net) refl p))
      ∙ (tick_after net samples b t.ranged (t.valid, h)).1;
}

pub there_and_back : ThereAndBack
there_and_back = (Stored.there lawful, Stored.back lawful)
