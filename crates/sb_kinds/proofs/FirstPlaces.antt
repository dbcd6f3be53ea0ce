-- The first column that isn't there.
use Rattle.std.proofs.Common.{◌≡◌, ◌++◌, Some, None, is_none, option_map, refl, ap, ◌∙◌}
use Rattle.std.specs.Option.{option_or}
use Rattle.std.proofs.lemmas.List.Folds.{find-append}
use Rattle.sb_pred.specs.Columns.{column_kind}
use Rattle.sb_relation.specs.Fits.{Places, first_unnamed}
use Rattle.sb_kinds.specs.Unnamed.{unnamed_in}

-- of two lists of places
pub unnamed_in_two : (p q : Places) → unnamed_in (p ++ q) ≡ option_or (unnamed_in p) (unnamed_in q)
unnamed_in_two p q =
    ap (λ o. option_map (λ place. place.1) o) (find-append (λ place. is_none (column_kind place.0 place.1)) p q)
    ∙ elim (first_unnamed p) as (λ o. option_map (λ place. place.1) (option_or o (first_unnamed q)) ≡ option_or (option_map (λ place. place.1) o) (unnamed_in q)) [ None ↦ refl | Some x ↦ refl ]
