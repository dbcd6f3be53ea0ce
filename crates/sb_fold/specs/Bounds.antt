-- The most pages that an instance takes.
use Rattle.std.specs.Prelude.{ℕ, ◌+◌, ◌*◌, cond, nat_lt, List, length, Option, Some, None}
use Rattle.sb_rule.specs.declared.rule.Side.TheVariants.{Main}
use Rattle.sb_rule.specs.declared.rule.Rule.{Rule}
use Rattle.sb_rule.specs.declared.rule.Rule.TheVariants.{TreeIndex, HashIndex, JoinIndex, Stats, Foreign}
use Rattle.sb_relation.specs.Db.{Name, Relation, Db, Attached, rows_at, schema_at}
use Rattle.sb_relation.specs.Images.{join_entries}
use Rattle.sb_fold.specs.Extensions.{Extensions, MethodRoom, AttachRoom, method_room, attach_room}

-- of an instance with so many rows or entries
abbrev pub plain_bound : ℕ → ℕ
plain_bound n = 2 * n + 3

abbrev pub foreign_method_bound : Option MethodRoom → ℕ → ℕ
foreign_method_bound None n = plain_bound n
foreign_method_bound (Some room) n = room.bound n

-- of a relation's rows; a code below 1,000 is none of a foreign box
abbrev pub method_bound : Extensions → Relation → ℕ
method_bound ext r = foreign_method_bound (cond (nat_lt r.method 1000) None (method_room ext r.method)) (length r.rows)

abbrev pub foreign_bound : Option AttachRoom → List ℕ → Db → Name → ℕ → ℕ
foreign_bound None desc db name buckets = 0
foreign_bound (Some room) desc db name buckets = room.bound desc (schema_at db name) (rows_at db name) buckets

-- of an attachment on the named relation; a mirror, a check, a refers and a trigger have no pages
abbrev pub rule_bound : Extensions → Db → Name → Rule → ℕ → ℕ
rule_bound ext db name (TreeIndex columns unique) buckets = plain_bound (length (rows_at db name))
rule_bound ext db name (HashIndex columns) buckets = plain_bound (length (rows_at db name)) + 2 * buckets
rule_bound ext db name (JoinIndex Main columns other others) buckets = plain_bound (length (join_entries db name columns other others))
rule_bound ext db name (Stats column low width) buckets = plain_bound 0
rule_bound ext db name (Foreign code desc) buckets = foreign_bound (attach_room ext code) desc db name buckets
rule_bound ext db name _ buckets = 0

abbrev pub attached_bound : Extensions → Db → Name → Attached → ℕ
attached_bound ext db name a = rule_bound ext db name a.rule a.buckets
