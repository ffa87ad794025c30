-- `net_record::is_all_known` meets its contract. Assumes nothing.
use Rattle.std.proofs.Common.{refl, ◌∙◌, rules, tests}
use Rattle.std.specs.List.{list_all}
use Rattle.std.proofs.lemmas.Iterator.{YieldsList-from_slice}
use Rattle.std.proofs.lemmas.Iterator.Search.{all_from_yields_List}
use Rattle.std.proofs.lemmas.List.Recursion.{same_from_clauses}
use mathlib.Core.Bool.{◌&&◌}
use Rattle.types_rules.specs.Types.{known}
use Rattle.net_rules.specs.Calls.{all_known}
use Rattle.net_record.proofs.is_all_known.Goals as goal

pub returns : goal.returns
returns c =
    let types = c.args.types.now in
    all_from_yields_List known _ _ c.all.result c.all.ensures.ran (YieldsList-from_slice types cc) (λ x b q k. search (rules, tests))
    ∙ same_from_clauses (list_all known) all_known (λ t rest. known t && rest) refl (λ _ _. refl) (λ _ _. refl) types
