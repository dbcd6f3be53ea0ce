-- The points of a build, and the pages that are held aside at each.
use Rattle.std.proofs.Common.{◌≡◌, ℕ, ◌+◌, ◌*◌, ◌≤◌, inl, inr, max, true, [], ◌∷◌, ◌++◌, append-nil, append_assoc, refl, sym, ap, subst, ◌∙◌, arith}
use Rattle.std.specs.List.{Any}
use Rattle.std.proofs.lemmas.List.Sums.{sum_by-append}
use Rattle.sb_rule.specs.declared.change.Change.TheVariants.{Insert}
use Rattle.sb_rule.specs.declared.rule.Rule.{Rule}
use Rattle.sb_rule.specs.declared.rule.Rule.TheVariants.{TreeIndex, HashIndex, JoinIndex, Stats, Check, Refers, Trigger, Foreign}
use Rattle.sb_relation.specs.Buckets.{first_buckets, next_buckets, standing_buckets}
use Rattle.sb_relation.specs.Db.{Name, Key, Row, Rows, Db, rows_at, schema_at, with_rows}
use Rattle.sb_fold.specs.Building.{build_rows, built_bound, built_point, reach_build, with_gone}
use Rattle.sb_fold.specs.Costs.{descriptor_cost, descriptors_of, prepare_cost, rule_cost}
use Rattle.sb_fold.specs.Extensions.{Extensions, is_durable_at}
use Rattle.sb_fold.specs.Need.{need}
use Rattle.sb_fold.specs.Outcome.{Going, Gone, Reached}
use Rattle.sb_tables.specs.Weights.{resting}
use Rattle.sb_tables.proofs.LackingLemmas.{any_along, any_last}
use Rattle.sb_building.specs.Lacking.{IsWithinBuild, bound_over, bound_with}
use Rattle.sb_building.proofs.ContentLemmas.{standing_buckets-more}
use Rattle.sb_building.proofs.WorkLemmas.{goes_rows}

-- ---- buckets over no rows
pub standing_buckets-none : (rule : Rule) → standing_buckets rule [] ≡ first_buckets rule
standing_buckets-none (TreeIndex columns unique) = refl
standing_buckets-none (HashIndex columns) = refl
standing_buckets-none (JoinIndex side columns other others) = refl
standing_buckets-none (Stats column low width) = refl
standing_buckets-none (Check pred deferred) = refl
standing_buckets-none (Refers side columns other others mode deferred) = refl
standing_buckets-none (Trigger on pred act deferred) = refl
standing_buckets-none (Foreign code desc) = refl

-- ---- points of a build
module _ (ext : Extensions) (name : Name) (rule : Rule) (P : Reached → Type 0) where
  -- so it is with so many pages held aside beside what is gone
  abbrev IsSoWith : Going → ℕ → Type 0
  IsSoWith g pages = (spent : ℕ) → P (resting g.db (with_gone true (pages ∷ []) g.gone) spent)

  -- so it is at a point that is built, which is the last one
  at_built : (g : Going) (pages most cost : ℕ) → is_durable_at ext g.db name ≡ true → pages ≡ most → IsSoWith g most → Any P (built_point ext name pages cost g).trail.points
  at_built g pages most cost durable same so =
      any_last P g.trail.points _
      (subst P (sym (λ i. resting g.db (with_gone (durable i) (same i ∷ []) g.gone) (built_point ext name pages cost g).trail.spent)) (so (built_point ext name pages cost g).trail.spent))

  -- at that of a row
  at_row : (g : Going) → is_durable_at ext g.db name ≡ true → (front : Rows) (buckets : ℕ) (built : Rows) (row : Key × Row) (rest : Rows) → buckets ≡ standing_buckets rule built
      → IsSoWith g (bound_with ext g.db name rule (built ++ front) row) → Any P (build_rows ext name rule buckets built (front ++ row ∷ rest) g).trail.points
  at_row g durable [] buckets built row rest same so =
      let more = built ++ row ∷ [] in
      let grown = next_buckets rule (Insert row.0 row.1) more buckets in
      let pages = max (built_bound ext g.db name rule buckets built) (built_bound ext g.db name rule grown more) in
      let cost = rule_cost ext (with_rows g.db name built) name rule buckets (Insert row.0 row.1) in
      let grown_is = ap (λ (k : ℕ). next_buckets rule (Insert row.0 row.1) more k) same ∙ sym (standing_buckets-more rule built row) in
      any_along P (built_point ext name pages cost g).trail (build_rows ext name rule grown more rest (built_point ext name pages cost g)).trail (goes_rows ext name rule rest grown more (built_point ext name pages cost g))
      (at_built g pages (bound_with ext g.db name rule built row) cost durable (λ i. max (built_bound ext g.db name rule (same i) built) (built_bound ext g.db name rule (grown_is i) more))
      (subst (λ (front : Rows). IsSoWith g (bound_with ext g.db name rule front row)) (append-nil built) so))
  at_row g durable (x ∷ front) buckets built row rest same so =
      let more = built ++ x ∷ [] in
      let grown = next_buckets rule (Insert x.0 x.1) more buckets in
      let pages = max (built_bound ext g.db name rule buckets built) (built_bound ext g.db name rule grown more) in
      let cost = rule_cost ext (with_rows g.db name built) name rule buckets (Insert x.0 x.1) in
      at_row (built_point ext name pages cost g) durable front grown more row rest (ap (λ (k : ℕ). next_buckets rule (Insert x.0 x.1) more k) same ∙ sym (standing_buckets-more rule built x))
      (subst (λ (front : Rows). IsSoWith g (bound_with ext g.db name rule front row)) (sym (append_assoc built (x ∷ []) front)) so)

  -- at one of them
  pub at_build : (g : Going) (pages : ℕ) → is_durable_at ext g.db name ≡ true → IsWithinBuild ext g.db name rule pages → ((most : ℕ) → pages ≤ most → IsSoWith g most) → Any P (reach_build ext name rule g).trail.points
  at_build g pages durable taken so = of_place taken
    where
      first : ℕ
      first = built_bound ext g.db name rule (first_buckets rule) []

      cost : ℕ
      cost = prepare_cost ext (schema_at g.db name) rule + descriptors_of rule * descriptor_cost ext g.db

      prepared : Going
      prepared = built_point ext name first cost g

      of_place : IsWithinBuild ext g.db name rule pages → Any P (reach_build ext name rule g).trail.points
      of_place (inl within) =
          any_along P prepared.trail (reach_build ext name rule g).trail (goes_rows ext name rule (rows_at g.db name) (first_buckets rule) [] prepared)
          (at_built g first (bound_over ext g.db name rule []) cost durable (ap (λ (k : ℕ). built_bound ext g.db name rule k []) (sym (standing_buckets-none rule))) (so (bound_over ext g.db name rule []) within))
      of_place (inr with_row) =
          subst (λ (rows : Rows). Any P (build_rows ext name rule (first_buckets rule) [] rows prepared).trail.points) (sym with_row.next.split)
          (at_row prepared durable with_row.built (first_buckets rule) [] with_row.row with_row.next.rest (sym (standing_buckets-none rule)) (so (bound_with ext g.db name rule with_row.built with_row.row) with_row.within))

-- ---- what is needed there
-- the pages that are held aside come to those of the database and of what is gone
pub need-aside : (ext : Extensions) (db : Db) (pages spent before : ℕ) (gone : Gone) → need ext true (resting db (with_gone true (pages ∷ []) gone) spent) ≡ need ext true (resting db gone before) + pages
need-aside ext db pages spent before gone = omega (arith, sum_by-append (λ (n : ℕ). n) gone.durable (pages ∷ []))
