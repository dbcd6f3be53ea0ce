-- Relations and attachments that go.
use Rattle.std.specs.Prelude.{◌≡◌, ℕ, ◌+◌, false, List, [], ◌∷◌, ◌++◌, All, Option, Some, None, map, not, bytes_eq, filter}
use Rattle.std.specs.FinMap.Entries.{where_key}
use Rattle.sb_value.specs.Order.{bytes_cmp}
use Rattle.sb_rule.specs.declared.rule.Rule.{Rule}
use Rattle.sb_relation.specs.Build.{mirror_name, mirror_of}
use Rattle.sb_relation.specs.Db
use Rattle.sb_relation.specs.Db.{Name, Relation, Db, relation_at}
use Rattle.sb_relation.specs.Fits.{other_relations}
use Rattle.sb_fold.specs.Bounds.{attached_bound}
use Rattle.sb_fold.specs.Building.{without_mirror, without_mirror_of}
use Rattle.sb_fold.specs.Extensions.{Extensions}
use Rattle.sb_fold.specs.Fold.{attachments_at}
use Rattle.sb_fold.specs.Outcome.{Queue}
use Rattle.sb_plain.specs.Refusing.{ties_to}
use Rattle.sb_catalog.specs.declared.descriptor.Attached.{Attached}

-- A relation can be dropped: it is there, no main instance and no trigger of another relation names it, and no action waits.
pub record MayDrop (db : Db) (q : Queue) (name : Name) : Type 0 where
  pub relation : Relation
  pub there : relation_at db name ≡ Some relation
  pub untied : (other : Name) → (other ≡ name → ⊥) → All (λ a. ties_to name a.rule ≡ false) (attachments_at db other)
  pub still : q.actions ≡ []

-- no attachment of another relation names this one
abbrev pub IsUnnamedIn : Db → Name → Type 0
IsUnnamedIn db name =
    (other : Name) → bytes_eq other name ≡ false → All (λ a. All (λ n. bytes_eq n name ≡ false) (other_relations a.rule)) (attachments_at db other)

-- the relations of other names
abbrev pub without_name : Db → Name → Db
without_name db name = where_key bytes_cmp (λ other. not (bytes_eq other name)) db

-- the database without the mirrors of attachments, as a descriptor of the relation has these
abbrev pub without_mirrors_of : Name → List Attached → Db → Db
without_mirrors_of relation [] db = db
without_mirrors_of relation (d ∷ ds) db = without_mirrors_of relation ds (without_mirror relation d.name (mirror_of relation d.rule) db)

-- ---- the most pages of each instance that is taken off
-- of the attachments of a name
abbrev pub taken_bounds : Extensions → Db → Name → Name → List ℕ
taken_bounds ext db relation label = map (attached_bound ext db relation) (filter (λ a. bytes_eq a.name label) (attachments_at db relation))

-- of the mirror of an attachment, where it has one
abbrev pub mirror_bounds : Extensions → Name → Name → Option (Name × Rule) → Db → List ℕ
mirror_bounds ext relation name None db = []
mirror_bounds ext relation name (Some (other, rule)) db = taken_bounds ext db other (mirror_name relation name)

-- of those of attachments, one behind the other
abbrev pub mirrors_bounds : Extensions → Name → List Db.Attached → Db → List ℕ
mirrors_bounds ext relation [] db = []
mirrors_bounds ext relation (a ∷ others) db =
    mirror_bounds ext relation a.name (mirror_of relation a.rule) db ++ mirrors_bounds ext relation others (without_mirror_of relation a db)

-- the same, as a descriptor of the relation has these
abbrev pub mirrors_bounds_of : Extensions → Name → List Attached → Db → List ℕ
mirrors_bounds_of ext relation [] db = []
mirrors_bounds_of ext relation (d ∷ ds) db =
    mirror_bounds ext relation d.name (mirror_of relation d.rule) db
    ++ mirrors_bounds_of ext relation ds (without_mirror relation d.name (mirror_of relation d.rule) db)

-- ---- what it costs to take mirrors off, where a descriptor costs so much
abbrev pub mirror_cost : ℕ → Option (Name × Rule) → ℕ
mirror_cost entry None = 0
mirror_cost entry (Some mirror) = entry

abbrev pub mirrors_cost : ℕ → Name → List Attached → ℕ
mirrors_cost entry relation [] = 0
mirrors_cost entry relation (d ∷ ds) = mirror_cost entry (mirror_of relation d.rule) + mirrors_cost entry relation ds
