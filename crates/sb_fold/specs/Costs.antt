-- How many pages of the store an operation edits at most.
use Rattle.std.specs.Prelude.{ℕ, zero, suc, ◌+◌, ◌-◌, ◌*◌, ◌/◌, ◌%◌, ◌^◌, ◌==◌, nat_lt, true, false, cond, List, [], ◌∷◌, length, filter, Option, Some, None, sum_by, bit_xor}
use Rattle.std.specs.List.{count_by, fold}
use Rattle.sb_value.specs.declared.schema.Column.{Column}
use Rattle.sb_value.specs.Code.{ordered_code}
use Rattle.sb_rule.specs.declared.change.Change.{Change}
use Rattle.sb_rule.specs.declared.change.Change.TheVariants.{Insert, Delete, Update}
use Rattle.sb_rule.specs.declared.rule.Side.TheVariants.{Main, Mirror}
use Rattle.sb_rule.specs.declared.rule.Rule.{Rule}
use Rattle.sb_rule.specs.declared.rule.Rule.TheVariants.{TreeIndex, HashIndex, JoinIndex, Stats, Foreign, Refers}
use Rattle.sb_rule.specs.Bound.{row_before, row_after}
use Rattle.sb_relation.specs.Changes.{changed_rows}
use Rattle.sb_relation.specs.Db.{Name, Row, Rows, Relation, Db, rows_at, schema_at, values_in}
use Rattle.sb_relation.specs.Images.{join_entries}
use Rattle.sb_relation.specs.Rules.{has_values, values_at}
use Rattle.sb_fold.specs.Extensions.{Extensions, MethodRoom, AttachRoom, is_durable_method, is_durable_at, method_room, attach_room}

-- ---- trees
-- binary digits of a number below 2 to the so-manieth
abbrev pub digits_within : ℕ → ℕ → ℕ
digits_within zero n = 0
digits_within (suc most) n = elim (nat_lt 0 n) [ true ↦ digits_within most (n / 2) + 1 | false ↦ 0 ]

abbrev pub digits : ℕ → ℕ
digits n = digits_within n n

-- an insertion into a tree of so many entries, or a removal
abbrev pub tree_cost : ℕ → ℕ
tree_cost n = 5 * digits (n + 1) + 4

-- an update is a removal and an insertion
abbrev pub operations : Change → ℕ
operations (Insert key new) = 1
operations (Delete key old) = 1
operations (Update from old to new) = 2

-- ---- hash indexes
-- FNV-1a of 64 bits
abbrev pub hash_of : List ℕ → ℕ
hash_of bytes = fold (λ h b. (bit_xor h b * 1099511628211) % 2 ^ 64) 14695981039346656037 bytes

-- 4 times the greatest power of two that leaves no bucket out
abbrev pub whole_round : ℕ → ℕ
whole_round buckets = 2 * 2 ^ digits (buckets / 4)

-- the bucket of a hash, among so many: buckets that were split in this round have their number by two rounds
abbrev pub bucket_number : ℕ → ℕ → ℕ
bucket_number buckets hash =
    let round : ℕ = whole_round buckets in
    cond (nat_lt (hash % round) (buckets - round)) (hash % (2 * round)) (hash % round)

-- the bucket that is split when one more comes
abbrev pub next_split : ℕ → ℕ
next_split buckets = buckets - whole_round buckets

-- the rows in the bucket that a change splits
abbrev pub split_rows : List Column → List Name → ℕ → Rows → Change → ℕ
split_rows schema columns buckets rows (Insert key new) =
    let after : Rows = changed_rows rows (Insert key new) in
    cond (nat_lt (8 * buckets) (length after))
    (count_by (λ row. bucket_number buckets (hash_of (ordered_code (values_in schema row.1 columns))) == next_split buckets) after) 0
split_rows schema columns buckets rows _ = 0

-- ---- one change
abbrev pub foreign_method_cost : Option MethodRoom → Rows → Change → ℕ
foreign_method_cost None rows c = 0
foreign_method_cost (Some room) rows c = room.cost rows c

-- of heap, of tree and of a foreign method
abbrev pub method_cost : Extensions → Relation → Change → ℕ
method_cost ext r c =
    cond (r.method == 1) 10
    (cond (r.method == 2) (operations c * tree_cost (length r.rows)) (foreign_method_cost (method_room ext r.method) r.rows c))

-- how many rows of the other relation join a row of the named one
abbrev pub partners : Db → Name → List Name → Name → List Name → Option Row → ℕ
partners db name columns other others None = 0
partners db name columns other others (Some row) =
    count_by (λ match. has_values (schema_at db other) others (values_at db name columns row) match.1) (rows_at db other)

-- one tree operation a pair that goes or comes, where the index has so many entries and this relation is changed
abbrev pub join_cost : Db → ℕ → Name → List Name → Name → List Name → Change → ℕ
join_cost db entries name columns other others c =
    let come : ℕ = partners db name columns other others (row_after c) in
    (partners db name columns other others (row_before c) + come) * tree_cost (entries + come)

abbrev pub foreign_cost : Option AttachRoom → List ℕ → Db → Name → ℕ → Change → ℕ
foreign_cost None desc db name buckets c = 0
foreign_cost (Some room) desc db name buckets c = room.cost desc (schema_at db name) (rows_at db name) buckets c

-- of an attachment on the changed relation, over the database before the change
abbrev pub rule_cost : Extensions → Db → Name → Rule → ℕ → Change → ℕ
rule_cost ext db name (TreeIndex columns unique) buckets c = operations c * tree_cost (length (rows_at db name))
rule_cost ext db name (HashIndex columns) buckets c = 20 + 4 * split_rows (schema_at db name) columns buckets (rows_at db name) c
rule_cost ext db name (JoinIndex Main columns other others) buckets c =
    join_cost db (length (join_entries db name columns other others)) name columns other others c
rule_cost ext db name (JoinIndex Mirror columns other others) buckets c =
    join_cost db (length (join_entries db other others name columns)) name columns other others c
rule_cost ext db name (Stats column low width) buckets c = 1
rule_cost ext db name (Foreign code desc) buckets c = foreign_cost (attach_room ext code) desc db name buckets c
rule_cost ext db name _ buckets c = 0

-- of a change of a relation and of all its attachments; what doesn't outlive the run costs nothing
abbrev pub change_cost : Extensions → Db → Name → Relation → Change → ℕ
change_cost ext db name r c =
    cond (is_durable_method ext r.method) (method_cost ext r c + sum_by (λ a. rule_cost ext db name a.rule a.buckets c) r.attachments) 0

-- ---- whole instances
-- a descriptor written or removed, among those of the relations that outlive the run
abbrev pub descriptor_cost : Extensions → Db → ℕ
descriptor_cost ext db = 2 * tree_cost (length (filter (λ e. is_durable_method ext e.1.method) db))

-- the pages of a new instance of a foreign extension, by what it says itself
abbrev pub foreign_prepare : Option AttachRoom → List ℕ → List Column → ℕ
foreign_prepare None desc schema = 0
foreign_prepare (Some room) desc schema = room.prepare desc schema

abbrev pub foreign_method_prepare : Option MethodRoom → ℕ
foreign_method_prepare None = 0
foreign_method_prepare (Some room) = room.prepare

-- two for a new instance, and the pages that it prepares
abbrev pub prepare_cost : Extensions → List Column → Rule → ℕ
prepare_cost ext schema (TreeIndex columns unique) = 3
prepare_cost ext schema (HashIndex columns) = 22
prepare_cost ext schema (JoinIndex Main columns other others) = 3
prepare_cost ext schema (Stats column low width) = 3
prepare_cost ext schema (Foreign code desc) = 2 + foreign_prepare (attach_room ext code) desc schema
prepare_cost ext schema _ = 0

-- the descriptors that an attachment stands in: its relation's, and that of its mirror
abbrev pub descriptors_of : Rule → ℕ
descriptors_of (JoinIndex side columns other others) = 2
descriptors_of (Refers side columns other others mode deferred) = 2
descriptors_of _ = 1

-- so many pages where the relation outlives the run
abbrev pub if_durable : Extensions → Db → Name → ℕ → ℕ
if_durable ext db name cost = cond (is_durable_at ext db name) cost 0

abbrev pub create_cost : Extensions → Db → ℕ → ℕ
create_cost ext db method =
    cond (is_durable_method ext method)
    (2 + cond (nat_lt method 1000) 1 (foreign_method_prepare (method_room ext method)) + descriptor_cost ext db) 0

-- an instance that has pages is freed for 33
abbrev pub free_cost : List ℕ → ℕ
free_cost [] = 0
free_cost (zero ∷ bounds) = free_cost bounds
free_cost (suc n ∷ bounds) = 33 + free_cost bounds
