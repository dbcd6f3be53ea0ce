-- Laws of rules.
use Rattle.std.proofs.Common.{◌≡◌, true, false, [], ◌∷◌, Option, Some, None, refl, sym, ap}
use Rattle.std.specs.List.{list_all, flat_map}
use Rattle.std.specs.Prelude.{map, filter}
use Rattle.sb_rule.specs.declared.rule.Side.TheVariants.{Main, Mirror}
use Rattle.sb_rule.specs.declared.rule.Rule.{Rule}
use Rattle.sb_rule.specs.declared.rule.Rule.TheVariants.{TreeIndex, HashIndex, JoinIndex, Stats, Check, Refers, Trigger, Foreign}
use Rattle.sb_relation.specs.Build.{main_of}
use Rattle.sb_relation.specs.Db.{Name, Rows, rows_at, schema_at, values_in}
use Rattle.sb_relation.specs.Images.{index_entries, stats_sums, column_ints}
use Rattle.sb_relation.specs.Laws.{MirrorsMirror, NoRowsNoImage, HoldsRowByRow}
use Rattle.sb_relation.specs.Rules.{has_values}

-- ---- mirrors
abbrev or_else : Name × Rule → Option (Name × Rule) → Name × Rule
or_else d None = d
or_else d (Some x) = x

main_along : (x y : Name × Rule) → Some x ≡ Some y → main_of y.0 y.1 ≡ main_of x.0 x.1
main_along x y e = ap (λ (o : Option (Name × Rule)). main_of (or_else x o).0 (or_else x o).1) (sym e)

pub mirrors-mirror : MirrorsMirror
mirrors-mirror name other (JoinIndex Main columns o others) mirror e = main_along (o, JoinIndex Mirror others name columns) (other, mirror) e
mirrors-mirror name other (Refers Main columns o others mode deferred) mirror e = main_along (o, Refers Mirror others name columns mode deferred) (other, mirror) e
mirrors-mirror name other (JoinIndex Mirror columns o others) mirror e = cc
mirrors-mirror name other (Refers Mirror columns o others mode deferred) mirror e = cc
mirrors-mirror name other (TreeIndex columns unique) mirror e = cc
mirrors-mirror name other (HashIndex columns) mirror e = cc
mirrors-mirror name other (Stats column low width) mirror e = cc
mirrors-mirror name other (Check pred deferred) mirror e = cc
mirrors-mirror name other (Trigger on pred act deferred) mirror e = cc
mirrors-mirror name other (Foreign code desc) mirror e = cc

-- ---- images
pub no-rows : NoRowsNoImage
no-rows box db name (TreeIndex columns unique) ours e = record { entries = ap (λ (rows : Rows). index_entries (schema_at db name) columns rows) e; sums = refl }
no-rows box db name (HashIndex columns) ours e = record { entries = ap (λ (rows : Rows). index_entries (schema_at db name) columns rows) e; sums = refl }
no-rows box db name (JoinIndex Main columns other others) ours e = record {
  entries =
      ap (λ (rows : Rows).
      flat_map (λ row. map (λ match. (row.0, match.0)) (filter (λ match. has_values (schema_at db other) others (values_in (schema_at db name) row.1 columns) match.1) (rows_at db other))) rows) e;
  sums = refl;
}
no-rows box db name (JoinIndex Mirror columns other others) ours e = record { entries = refl; sums = refl }
no-rows box db name (Stats column low width) ours e = record { entries = refl; sums = ap (λ (rows : Rows). stats_sums low width (column_ints (schema_at db name) column rows)) e }
no-rows box db name (Check pred deferred) ours e = record { entries = refl; sums = refl }
no-rows box db name (Refers side columns other others mode deferred) ours e = record { entries = refl; sums = refl }
no-rows box db name (Trigger on pred act deferred) ours e = record { entries = refl; sums = refl }
no-rows box db name (Foreign code desc) ours e = absurd (cc)

-- ---- whole relations
all_true : (rows : Rows) → true ≡ list_all (λ row. true) rows
all_true [] = refl
all_true (row ∷ rows) = all_true rows

pub row-by-row : HoldsRowByRow
row-by-row box db name (TreeIndex columns false) by = all_true (rows_at db name)
row-by-row box db name (TreeIndex columns true) by = absurd (cc)
row-by-row box db name (HashIndex columns) by = all_true (rows_at db name)
row-by-row box db name (JoinIndex side columns other others) by = all_true (rows_at db name)
row-by-row box db name (Stats column low width) by = all_true (rows_at db name)
row-by-row box db name (Check pred false) by = refl
row-by-row box db name (Check pred true) by = absurd (cc)
row-by-row box db name (Refers Main columns other others mode false) by = refl
row-by-row box db name (Refers Main columns other others mode true) by = absurd (cc)
row-by-row box db name (Refers Mirror columns other others mode deferred) by = absurd (cc)
row-by-row box db name (Trigger on pred act deferred) by = all_true (rows_at db name)
row-by-row box db name (Foreign code desc) by = refl
