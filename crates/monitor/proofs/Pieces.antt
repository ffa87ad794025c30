-- What a piece of a text and a piece of a file leave: what goes into the next piece is fit for it, and what is written has room. Assumes nothing.
use mathlib.Core.Path.{◌≡◌, ap, subst⁻¹}
use mathlib.Core.List.{List}
use Prim.Native.Nat.{ℕ, ◌+◌, ◌*◌, ◌<◌, ◌≤◌}
use native.Mathlib.Omega.{arith}
use lib.ListN.{length}
use Rattle.text_rules.specs.declared.Read.{Read}
use Rattle.text_rules.specs.Import.{Stage, Fit, stage_of, step, read_from, CameTo}
use Rattle.text_rules.proofs.Folding.{fold-within, fold_few}
use Rattle.text_rules.proofs.Reading.{read_fit}
use Rattle.monitor_file.specs.declared.Part.{Part}
use Rattle.monitor_file.specs.declared.Looked.{Looked}
use Rattle.monitor_file.specs.Looking.{Fit as PartFit, gone, brought, look_from, look_of}
use Rattle.monitor_file.proofs.Looking.{look_fit, look_gone, look_room}

pub record Imported (t : List ℕ) (r : Read) : Type 0 where
  pub fit : Fit (stage_of r.reader)
  pub count : r.count ≤ length t
  pub bytes : r.bytes ≤ length t

pub imported : (s : Stage) (t : List ℕ) (r : Read) → Fit s → CameTo r (read_from s t) → Imported t r
imported s t r f c = record {
  fit = subst⁻¹ Fit c.stage (read_fit s t f);
  count = omega (arith, c.count, fold-within step s t);
  bytes = omega (arith, c.bytes, fold_few step s t, fold-within step s t);
}

pub record Exported (p : Part) (t : List ℕ) (r : Looked) : Type 0 where
  pub fit : PartFit r.part
  pub column : r.column < 16
  pub begun : gone r.part ≤ gone p + r.count
  pub count : r.count ≤ length t
  pub wrote : r.wrote ≤ 5 * length t

pub exported : (p : Part) (c : ℕ) (t : List ℕ) (r : Looked) → PartFit p → r ≡ look_of c (look_from p t) → Exported p t r
exported p c t r f e =
    let s = ap (λ (l : Looked). l.part) e in
    let n = ap (λ (l : Looked). l.count) e in
    record {
      fit = subst⁻¹ PartFit s (look_fit p t f);
      column = omega (arith, ap (λ (l : Looked). l.column) e);
      begun = omega (arith, ap gone s, n, look_gone p t f);
      count = omega (arith, n, fold-within brought p t);
      wrote = omega (arith, ap (λ (l : Looked). l.wrote) e, look_room p c t);
    }
