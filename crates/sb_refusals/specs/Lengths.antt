-- How many bytes an attachment takes in a relation's descriptor.
use Rattle.std.specs.Prelude.{ℕ, ◌+◌, nat_lt, Bool, false, length, Option, Some, None}
use Rattle.sb_pred.specs.Spelling.{name_spelling}
use Rattle.sb_rule.specs.declared.rule.Rule.{Rule}
use Rattle.sb_rule.specs.Spelling.{rule_spelling}
use Rattle.sb_relation.specs.Build.{mirror_name, mirror_of}
use Rattle.sb_relation.specs.Db.{Name, Relation}
use Rattle.sb_relation.specs.Limits.{descriptor_len}

abbrev pub attached_len : Name → Rule → ℕ
attached_len name rule = 10 + length (name_spelling name) + length (rule_spelling rule)

-- the mirror of a main instance, in the descriptor of the other relation
abbrev pub mirror_len : Name → Name → Rule → ℕ
mirror_len relation name rule = elim (mirror_of relation rule) [ None ↦ 0 | Some mirror ↦ attached_len (mirror_name relation name) mirror.1 ]

-- the descriptor of a relation that is there has more than 1,900 bytes with so many more
abbrev pub is_over : Option Relation → ℕ → Bool
is_over r more = elim r [ None ↦ false | Some r ↦ nat_lt 1900 (descriptor_len r + more) ]

-- so many attachments
abbrev pub count_of : Option Relation → ℕ
count_of r = elim r [ None ↦ 0 | Some r ↦ length r.attachments ]
