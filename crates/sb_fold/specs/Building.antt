-- Relations and attachments that come and go.
use Rattle.std.specs.Prelude.{◌≡◌, ℕ, ◌+◌, ◌*◌, max, Bool, true, false, not, cond, List, [], ◌∷◌, ◌++◌, Option, Some, None, map, filter, length}
use Rattle.std.specs.List.{list_any, find}
use Rattle.std.specs.Str.{bytes_eq}
use Rattle.std.specs.FinMap.Entries.{where_key}
use Rattle.sb_value.specs.declared.schema.Column.{Column}
use Rattle.sb_value.specs.Order.{bytes_cmp}
use Rattle.sb_rule.specs.declared.change.Change.{Change}
use Rattle.sb_rule.specs.declared.change.Change.TheVariants as change
use Rattle.sb_rule.specs.declared.rule.Rule.{Rule}
use Rattle.sb_relation.specs.Buckets.{first_buckets, next_buckets}
use Rattle.sb_relation.specs.Build.{mirror_name, mirror_of, with_rule}
use Rattle.sb_relation.specs.Db.{Name, Rows, Attached, Db, relation_at, with_relation, rows_at, schema_at, with_rows}
use Rattle.sb_relation.specs.Lawful.{is_long_for}
use Rattle.sb_relation.specs.Rules.{holds}
use Rattle.sb_fold.specs.declared.refusal.Refusal.TheVariants.{TooLong, Veto}
use Rattle.sb_fold.specs.Bounds.{method_bound, attached_bound, rule_bound}
use Rattle.sb_fold.specs.Costs.{rule_cost, prepare_cost, create_cost, descriptor_cost, descriptors_of, if_durable}
use Rattle.sb_fold.specs.Extensions.{Extensions, box_of, is_durable_at}
use Rattle.sb_fold.specs.Fold.{attachments_at}
use Rattle.sb_fold.specs.Outcome.{Gone, Trail, Going, Work, refuse_if, change_to, with_db, with_point, ◌>>=◌}

-- ---- points
-- pages more of the named relation's instances
abbrev pub with_gone : Bool → List ℕ → Gone → Gone
with_gone true bounds gone = record gone { durable = gone.durable ++ bounds }
with_gone false bounds gone = record gone { others = gone.others ++ bounds }

-- this database, with these pages held aside, for so many more edited
abbrev pub at_point : Db → Gone → ℕ → Trail → Trail
at_point db aside cost trail = with_point (record { before = db; after = db; change = None; aside = aside; spent = trail.spent + cost }) trail

abbrev pub reach : Db → ℕ → Going → Going
reach db cost going = record going { trail = at_point db going.gone cost going.trail }

-- ---- a new relation
abbrev pub create : Extensions → Name → ℕ → List Column → List Name → Work (Unit {0})
create ext name method schema key =
    change_to (λ going.
    let db : Db = with_relation going.db name (record { method = method; schema = schema; key = key; rows = []; attachments = [] }) in
    with_db db (reach db (create_cost ext going.db method) going))

-- ---- a new attachment
-- the pages that it takes over some of the rows
abbrev pub built_bound : Extensions → Db → Name → Rule → ℕ → Rows → ℕ
built_bound ext db name rule buckets rows = rule_bound ext (with_rows db name rows) name rule buckets

-- so many pages are held aside for it
abbrev pub built_point : Extensions → Name → ℕ → ℕ → Going → Going
built_point ext name pages cost going =
    let aside : Gone = with_gone (is_durable_at ext going.db name) (pages ∷ []) going.gone in
    record going { trail = at_point going.db aside (if_durable ext going.db name cost) going.trail }

-- The rows that stand are built one by one, each as an insert behind those that were built. A row takes the greater of the pages before it and with it.
abbrev pub build_rows : Extensions → Name → Rule → ℕ → Rows → Rows → Going → Going
build_rows ext name rule buckets built [] going = going
build_rows ext name rule buckets built (row ∷ rows) going =
    let insert : Change = change.Insert row.0 row.1 in
    let more : Rows = built ++ row ∷ [] in
    let grown : ℕ = next_buckets rule insert more buckets in
    let pages : ℕ = max (built_bound ext going.db name rule buckets built) (built_bound ext going.db name rule grown more) in
    build_rows ext name rule grown more rows
    (built_point ext name pages (rule_cost ext (with_rows going.db name built) name rule buckets insert) going)

-- the points of a build; one that is refused may have come as far as the last row
abbrev pub reach_build : Extensions → Name → Rule → Going → Going
reach_build ext name rule going =
    let buckets : ℕ = first_buckets rule in
    let pages : ℕ = built_bound ext going.db name rule buckets [] in
    let prepared : Going = built_point ext name pages
    (prepare_cost ext (schema_at going.db name) rule + descriptors_of rule * descriptor_cost ext going.db) going in
    build_rows ext name rule buckets [] (rows_at going.db name) prepared

-- some row that stands has too long a code in the columns
abbrev pub has_long_row : Db → Name → Rule → Bool
has_long_row db name rule = list_any (λ row. is_long_for (schema_at db name) row.1 rule) (rows_at db name)

-- a rule is attached, with its mirror, where no row is too long for it and it holds; a deferred rule is tested too
abbrev pub build : Extensions → Name → Name → Rule → Work (Unit {0})
build ext relation name rule =
    change_to (reach_build ext relation rule)
    >>= λ _. (λ going. refuse_if (has_long_row going.db relation rule) (TooLong relation) going)
    >>= λ _. (λ going. refuse_if (not (holds (box_of ext rule) going.db relation rule)) (Veto relation name) going)
    >>= λ _. change_to (λ going. with_db (with_rule going.db relation name rule) going)

-- ---- what goes
abbrev pub rule_at : Db → Name → Name → Option Attached
rule_at db relation name = find (λ a. bytes_eq a.name name) (attachments_at db relation)

-- where there is to be a mirror, it stands on the other relation under this label
abbrev pub HasMirror : Db → Name → Option (Name × Rule) → Type 0
HasMirror db label None = Unit {0}
HasMirror db label (Some (other, rule)) = (a : Attached) × (rule_at db other label ≡ Some a) × (a.rule ≡ rule)

abbrev pub without_attached : Db → Name → Name → Db
without_attached db relation name = elim (relation_at db relation) [
  | None ↦ db
  | Some r ↦ with_relation db relation (record r { attachments = filter (λ a. not (bytes_eq a.name name)) r.attachments })
]

abbrev pub without_mirror : Name → Name → Option (Name × Rule) → Db → Db
without_mirror relation name None db = db
without_mirror relation name (Some (other, rule)) db = without_attached db other (mirror_name relation name)

abbrev pub without_mirror_of : Name → Attached → Db → Db
without_mirror_of relation a db = without_mirror relation a.name (mirror_of relation a.rule) db

-- the database without an attachment and its mirror
abbrev pub without_rule : Db → Name → Attached → Db
without_rule db relation a = without_mirror_of relation a (without_attached db relation a.name)

abbrev pub without_mirrors : Name → List Attached → Db → Db
without_mirrors relation [] db = db
without_mirrors relation (a ∷ others) db = without_mirrors relation others (without_mirror_of relation a db)

-- a relation goes with the mirrors of its attachments
abbrev pub without_relation : Db → Name → Db
without_relation db name = where_key bytes_cmp (λ other. not (bytes_eq other name)) (without_mirrors name (attachments_at db name) db)

-- at the database before; what goes is held aside until the commit
abbrev pub leave : Extensions → Name → List ℕ → ℕ → Db → Going → Going
leave ext name bounds descriptors db going =
    let durable : Bool = is_durable_at ext going.db name in
    let reached : Going = reach going.db (cond durable (descriptors * descriptor_cost ext going.db) 0) going in
    record reached { db = db; gone = with_gone durable bounds going.gone }

abbrev pub detach_one : Extensions → Name → Option Attached → Going → Going
detach_one ext relation None going = going
detach_one ext relation (Some a) going =
    leave ext relation (attached_bound ext going.db relation a ∷ []) (descriptors_of a.rule) (without_rule going.db relation a) going

abbrev pub detach : Extensions → Name → Name → Work (Unit {0})
detach ext relation name = change_to (λ going. detach_one ext relation (rule_at going.db relation name) going)

-- the pages of a relation and of its attachments
abbrev pub bounds_at : Extensions → Db → Name → List ℕ
bounds_at ext db name = elim (relation_at db name) [ None ↦ [] | Some r ↦ method_bound ext r ∷ map (attached_bound ext db name) r.attachments ]

-- the relations that have a mirror of these
abbrev pub mirrored_in : Name → List Attached → List Name
mirrored_in name [] = []
mirrored_in name (a ∷ others) = elim (mirror_of name a.rule) [ None ↦ mirrored_in name others | Some mirror ↦ mirror.0 ∷ mirrored_in name others ]

abbrev pub drop_relation : Extensions → Name → Work (Unit {0})
drop_relation ext name = change_to (λ going.
    let mirrors : List Name = mirrored_in name (attachments_at going.db name) in
    leave ext name (bounds_at ext going.db name) (1 + length mirrors) (without_relation going.db name) going)
