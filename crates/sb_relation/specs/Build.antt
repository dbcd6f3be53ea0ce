-- Attaching a rule over the rows that stand.
use Rattle.std.specs.Prelude.{nat_le, cond, List, [], ◌∷◌, ◌++◌, Option, Some, None}
use Rattle.sb_rule.specs.declared.rule.Side.TheVariants.{Main, Mirror}
use Rattle.sb_rule.specs.declared.rule.Rule.{Rule}
use Rattle.sb_rule.specs.declared.rule.Rule.TheVariants.{JoinIndex, Refers}
use Rattle.sb_rule.specs.Spelling.{rule_code}
use Rattle.sb_relation.specs.Buckets.{standing_buckets}
use Rattle.sb_relation.specs.Db.{Name, Attached, Db, relation_at, with_relation}

-- the name of the mirror of an instance: its relation, a dot and its own name
abbrev pub mirror_name : Name → Name → Name
mirror_name relation name = relation ++ 46 ∷ name

-- the relation and the rule of the mirror of a main instance on the named relation
abbrev pub mirror_of : Name → Rule → Option (Name × Rule)
mirror_of name (JoinIndex Main columns other others) = Some (other, JoinIndex Mirror others name columns)
mirror_of name (Refers Main columns other others mode deferred) = Some (other, Refers Mirror others name columns mode deferred)
mirror_of name _ = None

-- the relation and the rule of the main instance of a mirror on the named relation
abbrev pub main_of : Name → Rule → Option (Name × Rule)
main_of name (JoinIndex Mirror columns other others) = Some (other, JoinIndex Main others name columns)
main_of name (Refers Mirror columns other others mode deferred) = Some (other, Refers Main others name columns mode deferred)
main_of name _ = None

-- an instance behind those of its code and of lesser ones
abbrev pub with_instance : Attached → List Attached → List Attached
with_instance new [] = new ∷ []
with_instance new (a ∷ others) = cond (nat_le (rule_code a.rule) (rule_code new.rule)) (a ∷ with_instance new others) (new ∷ a ∷ others)

abbrev pub with_attached : Db → Name → Name → Rule → Db
with_attached db relation name rule = elim (relation_at db relation) [
  | None ↦ db
  | Some r ↦ with_relation db relation (record r { attachments = with_instance (record { name = name; rule = rule; buckets = standing_buckets rule r.rows }) r.attachments })
]

abbrev pub with_mirror : Db → Name → Name → Option (Name × Rule) → Db
with_mirror db relation name None = db
with_mirror db relation name (Some (other, rule)) = with_attached db other (mirror_name relation name) rule

-- the database with a rule attached, and its mirror
abbrev pub with_rule : Db → Name → Name → Rule → Db
with_rule db relation name rule = with_mirror (with_attached db relation name rule) relation name (mirror_of relation rule)
