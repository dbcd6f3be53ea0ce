-- Contents over the rows that are built.
use Rattle.std.proofs.Common.{◌≡◌, ℕ, suc, ◌+◌, Bool, true, false, List, [], ◌∷◌, ◌++◌, length, get_or, Option, Some, None, bytes_eq, arith, length-append, refl, sym, ap, subst, ◌∙◌}
use Rattle.sb_value.specs.declared.schema.Column.{Column}
use Rattle.sb_value.specs.Equal.{bytes_same}
use Rattle.sb_rule.specs.declared.change.Change.TheVariants.{Insert}
use Rattle.sb_rule.specs.declared.rule.Rule.{Rule}
use Rattle.sb_rule.specs.declared.rule.Rule.TheVariants.{TreeIndex, HashIndex, JoinIndex, Stats, Check, Refers, Trigger, Foreign}
use Rattle.sb_relation.specs.Buckets.{buckets_with, counted_buckets, next_buckets, standing_buckets}
use Rattle.sb_relation.specs.Db.{Name, Key, Row, Rows, Relation, Db, relation_at, with_relation, with_row, with_rows}
use Rattle.sb_relation.specs.Fits.{other_relations}
use Rattle.sb_relation.specs.Lawful.{AreRows}
use Rattle.sb_ctx.specs.declared.instance.Instance.{Instance}
use Rattle.sb_ctx.specs.Attachment.{Attachment}
use Rattle.sb_ctx.specs.AttachAnswers.{content_over, content_over_rows, content_with, first_content}
use Rattle.sb_deferred.proofs.RelationLemmas.{rows_of, schema_of, relation_same, relation_other}
use Rattle.sb_standing.specs.Standing.{is_join}
use Rattle.sb_standing.proofs.AlikeLemmas.{AreAlike, IsAlike, alike-itself, content_over-alike}
use Rattle.sb_building.specs.Building.{IsNext, content_built}
use Rattle.sb_building.proofs.HeldLemmas.{IsOver}
use Rattle.sb_building.proofs.RowsLemmas.{AreBuilt-next, with_row-built}

-- ---- buckets
counted-more : (n : ℕ) (built : Rows) (row : Key × Row) (b : ℕ) → counted_buckets n (built ++ row ∷ []) b ≡ buckets_with (n + length built + 1) (counted_buckets n built b)
counted-more n [] row b = ap (λ (k : ℕ). buckets_with k b) (none n)
  where
    none : (n : ℕ) → n + 1 ≡ n + 0 + 1
    none n = omega arith
counted-more n (x ∷ built) row b = counted-more (n + 1) built row (buckets_with (n + 1) b) ∙ ap (λ (k : ℕ). buckets_with k (counted_buckets (n + 1) built (buckets_with (n + 1) b))) (moved n (length built))
  where
    moved : (n m : ℕ) → n + 1 + m + 1 ≡ n + suc m + 1
    moved n m = omega arith

pub standing_buckets-more : (rule : Rule) (built : Rows) (row : Key × Row) → standing_buckets rule (built ++ row ∷ []) ≡ next_buckets rule (Insert row.0 row.1) (built ++ row ∷ []) (standing_buckets rule built)
standing_buckets-more (HashIndex columns) built row = counted-more 0 built row 4 ∙ ap (λ (k : ℕ). buckets_with k (counted_buckets 0 built 4)) (all (length built) (length (built ++ row ∷ [])) (length-append built (row ∷ [])))
  where
    all : (n m : ℕ) → m ≡ n + 1 → 0 + n + 1 ≡ m
    all n m is = omega (arith, is)
standing_buckets-more (TreeIndex columns unique) built row = refl
standing_buckets-more (JoinIndex side columns other others) built row = refl
standing_buckets-more (Stats column low width) built row = refl
standing_buckets-more (Check pred deferred) built row = refl
standing_buckets-more (Refers side columns other others mode deferred) built row = refl
standing_buckets-more (Trigger on pred act deferred) built row = refl
standing_buckets-more (Foreign code desc) built row = refl

-- ---- the relation with other rows
with_rows-there : (db : Db) (name : Name) (r : Relation) (rows : Rows) → relation_at db name ≡ Some r → with_rows db name rows ≡ with_relation db name (record r { rows = rows })
with_rows-there db name r rows there = ap (λ (o : Option Relation). elim o as (λ _. Db) [ None ↦ db | Some q ↦ with_relation db name (record q { rows = rows }) ]) there

pub at-rows : (db : Db) (name : Name) (r : Relation) (rows : Rows) → relation_at db name ≡ Some r → relation_at (with_rows db name rows) name ≡ Some (record r { rows = rows })
at-rows db name r rows there = ap (λ (d : Db). relation_at d name) (with_rows-there db name r rows there) ∙ relation_same db name (record r { rows = rows })

pub IsOver-next : (db : Db) (name : Name) (r : Relation) (schema : List Column) (built : Rows) (row : Key × Row) → relation_at db name ≡ Some r → AreRows schema r.rows → IsNext r.rows built row → IsOver db name built row
IsOver-next db name r schema built row there are next = record {
  rows = ap rows_of (at-rows db name r (with_row built row.0 row.1) there) ∙ with_row-built schema r.rows built row are next;
  schema = ap schema_of (at-rows db name r (with_row built row.0 row.1) there) ∙ sym (ap schema_of there);
  new = (AreBuilt-next schema r.rows built row are next).new;
}

IsAlike-rows : (db : Db) (name : Name) (r : Relation) → relation_at db name ≡ Some r → (n : Name) → IsAlike db (with_rows db name r.rows) n
IsAlike-rows db name r there n = record { alike = by (bytes_eq n name) refl }
  where
    by : (b : Bool) → bytes_eq n name ≡ b → AreAlike (relation_at db n) (relation_at (with_rows db name r.rows) n)
    by true is =
        let same : n ≡ name = (bytes_same n name).0 is in
        subst (λ (m : Name). AreAlike (relation_at db m) (relation_at (with_rows db name r.rows) m)) (sym same)
        (subst (λ (o : Option Relation). AreAlike o (relation_at (with_rows db name r.rows) name)) (sym there)
        (subst (λ (o : Option Relation). AreAlike (Some r) o) (sym (at-rows db name r r.rows there)) (refl, refl)))
    by false is =
        subst (λ (o : Option Relation). AreAlike (relation_at db n) o) (sym (ap (λ (d : Db). relation_at d n) (with_rows-there db name r r.rows there) ∙ relation_other db name (record r { rows = r.rows }) n is))
        (alike-itself (relation_at db n))

-- ---- contents
-- that over no rows
pub content-first : (box : Attachment) (inst : Instance) (rule : Rule) (db : Db) → is_join rule ≡ false → first_content box inst rule db ≡ content_built box inst rule db []
unfolding content_built
content-first box inst (TreeIndex columns unique) db joinless = refl
content-first box inst (HashIndex columns) db joinless = refl
content-first box inst (JoinIndex side columns other others) db joinless = absurd (cc)
content-first box inst (Stats column low width) db joinless = refl
content-first box inst (Check pred deferred) db joinless = refl
content-first box inst (Refers side columns other others mode deferred) db joinless = refl
content-first box inst (Trigger on pred act deferred) db joinless = refl
content-first box inst (Foreign code desc) db joinless = refl

-- that with the next row
pub content-next : (box : Attachment) (inst : Instance) (rule : Rule) (db : Db) (schema : List Column) (rows built : Rows) (row : Key × Row) → AreRows schema rows → IsNext rows built row
    → content_with box inst rule db built (standing_buckets rule built) row.0 row.1 ≡ content_built box inst rule db (built ++ row ∷ [])
unfolding content_built
content-next box inst rule db schema rows built row are next =
    ap (λ (l : Rows). content_over_rows box inst rule db l (next_buckets rule (Insert row.0 row.1) l (standing_buckets rule built))) (with_row-built schema rows built row are next)
    ∙ ap (λ (n : ℕ). content_over_rows box inst rule db (built ++ row ∷ []) n) (sym (standing_buckets-more rule built row))

-- that over all rows is the whole one
pub content-all : (box : Attachment) (inst : Instance) (rule : Rule) (db : Db) (r : Relation) → relation_at db inst.relation ≡ Some r
    → content_built box inst rule db r.rows ≡ content_over box inst rule db (standing_buckets rule r.rows)
unfolding content_built
content-all box inst rule db r there =
    content_over-alike box inst rule db (with_rows db inst.relation r.rows) (standing_buckets rule r.rows) (IsAlike-rows db inst.relation r there inst.relation)
    (λ n d in'. IsAlike-rows db inst.relation r there (get_or (other_relations rule) n d))
