-- What a build spends by the definitions.
use Rattle.std.proofs.Common.{◌≡◌, ℕ, ◌+◌, ◌*◌, ◌≤◌, max, Bool, true, cond, [], ◌∷◌, ◌++◌, sym, ap, ◌∙◌, arith}
use Rattle.sb_rule.specs.declared.change.Change.TheVariants.{Insert}
use Rattle.sb_rule.specs.declared.rule.Rule.{Rule}
use Rattle.sb_rule.specs.declared.rule.Rule.TheVariants.{TreeIndex, HashIndex, JoinIndex, Stats, Check, Refers, Trigger, Foreign}
use Rattle.sb_relation.specs.Buckets.{first_buckets, next_buckets, standing_buckets}
use Rattle.sb_relation.specs.Db.{Name, Rows, Db, rows_at, schema_at, with_rows}
use Rattle.sb_fold.specs.Building.{build_rows, built_bound, built_point, reach_build}
use Rattle.sb_fold.specs.Costs.{descriptor_cost, descriptors_of, prepare_cost, rule_cost}
use Rattle.sb_fold.specs.Extensions.{Extensions, is_durable_at}
use Rattle.sb_fold.specs.Outcome.{Going}
use Rattle.sb_building.specs.Costs.{at_first, build_cost, build_left, rest_cost, rows_cost}
use Rattle.sb_building.proofs.ContentLemmas.{standing_buckets-more}
use Rattle.sb_building.proofs.PointLemmas.{standing_buckets-none}

module _ (ext : Extensions) (name : Name) (rule : Rule) where
  -- a point that is built spends what it costs
  spent_point : (g : Going) (pages cost : ℕ) → is_durable_at ext g.db name ≡ true → (built_point ext name pages cost g).trail.spent ≡ g.trail.spent + cost
  spent_point g pages cost durable = ap (λ (b : Bool). g.trail.spent + cond b cost 0) durable

  -- the rows that are left spend what they cost
  spent_rows : (rows : Rows) (buckets : ℕ) (built : Rows) (g : Going) → is_durable_at ext g.db name ≡ true → buckets ≡ standing_buckets rule built
      → (build_rows ext name rule buckets built rows g).trail.spent ≡ g.trail.spent + rest_cost ext g.db name rule built rows
  spent_rows [] buckets built g durable same = omega arith
  spent_rows (row ∷ rows) buckets built g durable same =
      let more = built ++ row ∷ [] in
      let grown = next_buckets rule (Insert row.0 row.1) more buckets in
      let pages = max (built_bound ext g.db name rule buckets built) (built_bound ext g.db name rule grown more) in
      let cost = rule_cost ext (with_rows g.db name built) name rule buckets (Insert row.0 row.1) in
      let point = built_point ext name pages cost g in
      let grown_is = ap (λ (k : ℕ). next_buckets rule (Insert row.0 row.1) more k) same ∙ sym (standing_buckets-more rule built row) in
      omega (
        arith,
        spent_rows rows grown more point durable grown_is,
        spent_point g pages cost durable,
        ap (λ (k : ℕ). rule_cost ext (with_rows g.db name built) name rule k (Insert row.0 row.1)) same,
      )

  -- the preparation, the descriptors and all rows
  abbrev all_of : Db → ℕ
  all_of db = prepare_cost ext (schema_at db name) rule + descriptors_of rule * descriptor_cost ext db + rows_cost ext db name rule (rows_at db name)

  spent_all : (g : Going) → is_durable_at ext g.db name ≡ true → (reach_build ext name rule g).trail.spent ≡ g.trail.spent + all_of g.db
  spent_all g durable =
      let pages = built_bound ext g.db name rule (first_buckets rule) [] in
      let cost = prepare_cost ext (schema_at g.db name) rule + descriptors_of rule * descriptor_cost ext g.db in
      omega (
        arith,
        spent_rows (rows_at g.db name) (first_buckets rule) [] (built_point ext name pages cost g) durable (sym (standing_buckets-none rule)),
        spent_point g pages cost durable,
      )

  build_cost-all : (db : Db) → is_durable_at ext db name ≡ true → build_cost ext db name rule ≡ all_of db
  build_cost-all db durable = omega (arith, spent_all (at_first db) durable)

  -- a build spends as much whatever was spent before
  pub spent_build : (g : Going) → is_durable_at ext g.db name ≡ true → (reach_build ext name rule g).trail.spent ≡ g.trail.spent + build_cost ext g.db name rule
  spent_build g durable = omega (arith, spent_all g durable, build_cost-all g.db durable)

  -- it pays for its preparation and for what is left then
  pub build_enough : (db : Db) → is_durable_at ext db name ≡ true → prepare_cost ext (schema_at db name) rule + build_left ext db name rule ≤ build_cost ext db name rule
  build_enough db durable = omega (arith, build_cost-all db durable, some_descriptor rule (descriptor_cost ext db))
    where
      some_descriptor : (rule : Rule) (cost : ℕ) → cost ≤ descriptors_of rule * cost
      some_descriptor (TreeIndex columns unique) cost = omega arith
      some_descriptor (HashIndex columns) cost = omega arith
      some_descriptor (JoinIndex side columns other others) cost = omega arith
      some_descriptor (Stats column low width) cost = omega arith
      some_descriptor (Check pred deferred) cost = omega arith
      some_descriptor (Refers side columns other others mode deferred) cost = omega arith
      some_descriptor (Trigger on pred act deferred) cost = omega arith
      some_descriptor (Foreign code desc) cost = omega arith
