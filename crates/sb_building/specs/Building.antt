-- Contents that are built row by row.
use Rattle.std.specs.Prelude.{◌≡◌, Bool, true, false, [], ◌∷◌, ◌++◌, Some}
use Rattle.std.specs.List.{list_any}
use Rattle.sb_rule.specs.declared.change.Change.TheVariants.{Insert}
use Rattle.sb_rule.specs.declared.rule.Rule.{Rule}
use Rattle.sb_relation.specs.Buckets.{standing_buckets}
use Rattle.sb_relation.specs.Content.{Content}
use Rattle.sb_relation.specs.Db.{Key, Row, Rows, Db}
use Rattle.sb_relation.specs.Lawful.{is_long_for}
use Rattle.sb_forms.specs.Pages.{Pages}
use Rattle.sb_ctx.specs.declared.instance.Instance.{Instance}
use Rattle.sb_ctx.specs.declared.moves.Move.{Move}
use Rattle.sb_ctx.specs.declared.moves.Move.TheVariants.{Done, Veto}
use Rattle.sb_ctx.specs.Attachment.{Attachment}
use Rattle.sb_ctx.specs.AttachAnswers.{Holds, admits_built, content_over_rows}
use Rattle.sb_drive.specs.Slots.{owned}
use Rattle.sb_standing.specs.Tables.{db_of}
use Rattle.sb_building.specs.Held.{holds_of}
use Rattle.sb_building.specs.Instances.{Site}

-- the content over rows that are built, each counted as an insert
unfoldable pub content_built : Attachment → Instance → Rule → Db → Rows → Content
content_built box inst rule db built = content_over_rows box inst rule db built (standing_buckets rule built)

-- the site's pages hold it
abbrev pub HoldsBuilt : Site → Attachment → Instance → Rule → Rows → Type 0
HoldsBuilt x box inst rule built = Holds box inst (owned x.slots inst.owner) (content_built box inst rule (db_of x.kept) built)

-- the rows of the relation are these, this one and others
pub record IsNext (rows built : Rows) (row : Key × Row) : Type 0 where
  pub rest : Rows
  pub split : rows ≡ built ++ row ∷ rest

-- the end of a build says whether its row is admitted
abbrev pub IsBuilding : Move → Type 0
IsBuilding Done = Unit {0}
IsBuilding Veto = Unit {0}
IsBuilding move = ⊥

abbrev pub is_done : Move → Bool
is_done Done = true
is_done move = false

-- whether the row is admitted; the pages hold the content with it where it is
pub record IsBuilt (box : Attachment) (inst : Instance) (rule : Rule) (db : Db) (built : Rows) (row : Key × Row) (admitted : Bool) (after : Pages) : Type 0 where
  pub says : admitted ≡ admits_built box inst rule db built (Insert row.0 row.1)
  pub keeps : admitted ≡ true → Holds box inst after (content_built box inst rule db (built ++ row ∷ []))

-- whether the rule holds of all rows; the pages hold the content over them where it does
pub record IsBuiltOver (box : Attachment) (inst : Instance) (rule : Rule) (db : Db) (rows : Rows) (held : Bool) (after : Pages) : Type 0 where
  pub says : held ≡ holds_of (Some box.rules) db inst.relation rule rows
  pub keeps : held ≡ true → Holds box inst after (content_built box inst rule db rows)

-- no row of the relation has too long a code for the rule
abbrev pub HasNoLong : Site → Rule → Type 0
HasNoLong x rule = list_any (λ row. is_long_for x.one.descriptor.schema row.1 rule) x.one.relation.rows ≡ false
