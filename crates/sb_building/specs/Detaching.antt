-- Rules that go.
use Rattle.std.specs.Prelude.{◌≡◌, ℕ, ◌*◌, ◌++◌, List, Option, Some, None, bytes_eq, option_and_then, option_map}
use Rattle.std.specs.List.{find}
use Rattle.sb_rule.specs.declared.rule.Rule.{Rule}
use Rattle.sb_relation.specs.Build.{main_of, mirror_name, mirror_of}
use Rattle.sb_relation.specs.Db.{Name, Attached, Db}
use Rattle.sb_fold.specs.Building.{rule_at, without_attached}
use Rattle.sb_fold.specs.Costs.{descriptor_cost}
use Rattle.sb_fold.specs.Extensions.{Extensions}
use Rattle.sb_tables.specs.Removal.{taken_bounds}
use Rattle.sb_catalog.specs.declared.descriptor.Attached.{Attached as Described}

-- An attachment can be taken off: it is there, and is no mirror.
pub record MayDetach (db : Db) (relation name : Name) : Type 0 where
  pub one : Attached
  pub there : rule_at db relation name ≡ Some one
  pub main : main_of relation one.rule ≡ None

-- the relation and the name of an attachment's mirror
abbrev pub mirror_named : Name → Name → Rule → Option (Name × Name)
mirror_named relation name rule = option_map (λ m. (m.0, mirror_name relation name)) (mirror_of relation rule)

-- those of the first attachment of a name
abbrev pub mirror_among : List Described → Name → Name → Option (Name × Name)
mirror_among ds relation name = option_and_then (λ d. mirror_named relation d.name d.rule) (find (λ d. bytes_eq d.name name) ds)

-- the database without the attachments of a name, and without those of the mirror's name
abbrev pub without_both : Db → Name → Name → Option (Name × Name) → Db
without_both db relation name None = without_attached db relation name
without_both db relation name (Some (other, label)) = without_attached (without_attached db relation name) other label

-- the most pages of each instance of both
abbrev pub both_bounds : Extensions → Db → Name → Name → Option (Name × Name) → List ℕ
both_bounds ext db relation name None = taken_bounds ext db relation name
both_bounds ext db relation name (Some (other, label)) =
    taken_bounds ext db relation name ++ taken_bounds ext (without_attached db relation name) other label

-- what their descriptors cost
abbrev pub both_cost : Extensions → Db → Option (Name × Name) → ℕ
both_cost ext db None = descriptor_cost ext db
both_cost ext db (Some mirror) = 2 * descriptor_cost ext db
