-- What a box of an attachment means, and the conditions of its calls.
use Rattle.std.specs.Prelude.{◌≡◌, ◌≢◌, ℕ, ◌==◌, Bool, true, false, not, ◌||◌, List, [], ◌∷◌, Option, Some, None, IfSome}
use Rattle.sb_value.specs.declared.value.Value.{Value}
use Rattle.sb_value.specs.declared.value.Value.TheVariants.{Int}
use Rattle.sb_value.specs.Fits.{Fits}
use Rattle.sb_rule.specs.declared.change.Change.{Change}
use Rattle.sb_rule.specs.declared.change.Change.TheVariants as change
use Rattle.sb_rule.specs.declared.rule.Rule.{Rule}
use Rattle.sb_rule.specs.declared.rule.Rule.TheVariants.{JoinIndex}
use Rattle.sb_rule.specs.Bound.{row_before, row_after}
use Rattle.sb_rule.specs.Spelling.{SpellsRule}
use Rattle.sb_forms.specs.Content.{Content}
use Rattle.sb_forms.specs.Db.{Name, Key, Row, Rows, Relation, Db, relation_at, row_at}
use Rattle.sb_forms.specs.Fits.{MayStand}
use Rattle.sb_forms.specs.Foreign.{AttachRules}
use Rattle.sb_forms.specs.Keys.{is_record_key}
use Rattle.sb_forms.specs.Lawful.{IsRow, AreRows, is_long_for}
use Rattle.sb_forms.specs.Pages.{Pages}
use Rattle.sb_ctx.specs.declared.instance.Instance.{Instance}
use Rattle.sb_ctx.specs.declared.calls.AttachCall.{AttachCall}
use Rattle.sb_ctx.specs.View.{HeldPages}
use Rattle.sb_ctx.specs.Method.{boundless}

-- What it is known by apart from pages; the content of an instance's pages, where they are formed; the record keys that a query finds in a content; and which of the pages that a call was given it may call broken. Over formed pages: how many pages a content takes at most, how many a call edits at most between two contents, and which ones a call may ask for.
pub record Attachment : Type 0 where
  pub rules : AttachRules
  pub content : Instance → Pages → Option Content
  pub hits : Content → List Value → List Key
  pub may_break : Instance → HeldPages → ℕ → Bool
  pub bound : Content → ℕ
  pub cost : AttachCall → Content → Content → ℕ
  pub path : Instance → Pages → AttachCall → ℕ → Bool

-- an attachment without searches that calls no page broken and sets itself no bounds; a record with other members may be made of it
abbrev pub plain_attachment : AttachRules → (Instance → Pages → Option Content) → Attachment
plain_attachment rules content = record {
  rules = rules;
  content = content;
  hits = λ content query. [];
  may_break = λ inst held n. false;
  bound = λ content. boundless;
  cost = λ c before after. boundless;
  path = λ inst P c n. true;
}

-- four numbers
abbrev pub IsQuery : List Value → Type 0
IsQuery (Int a ∷ Int b ∷ Int c ∷ Int d ∷ []) = Unit {0}
IsQuery values = ⊥

-- whether instances of a code have pages of their own: all but those of check, refers and trigger
abbrev pub keeps_pages : ℕ → Bool
keeps_pages code = not (code == 5 || code == 6 || code == 7)

-- an instance has an owner where its box keeps pages, and none where it doesn't
abbrev pub IsOwned : Bool → Instance → Type 0
IsOwned true inst = inst.owner ≢ 0
IsOwned false inst = inst.owner ≡ 0

-- each relation's rows are rows of it
abbrev pub AreLawful : Db → Type 0
AreLawful db = (name : Name) (r : Relation) → relation_at db name ≡ Some r → AreRows r.schema r.rows

-- a join is of two relations
abbrev pub JoinsAnother : Name → Rule → Type 0
JoinsAnother name (JoinIndex side columns other others) = name ≢ other
JoinsAnother name rule = Unit {0}

-- The instance keeps the rule on a relation of the database.
pub record StandsOn (a : Attachment) (inst : Instance) (rule : Rule) (db : Db) : Type 0 where
  pub spelled : SpellsRule a.rules.code inst.desc rule
  pub relation : Relation
  pub there : relation_at db inst.relation ≡ Some relation
  pub schema : relation.schema ≡ inst.schema
  pub lawful : AreLawful db
  pub joins : JoinsAnother inst.relation rule
  pub may : MayStand (Some a.rules) db inst.schema rule

-- there is a database with a relation on which the instance keeps its rule
pub record IsInstance (a : Attachment) (inst : Instance) : Type 0 where
  pub code : inst.code ≡ a.rules.code
  pub key : inst.key ≡ []
  pub owned : IsOwned (keeps_pages a.rules.code) inst
  pub rule : Rule
  pub db : Db
  pub stands : StandsOn a inst rule db

-- a row that this attachment doesn't refuse as too long
pub record MayHold (a : Attachment) (inst : Instance) (row : Row) : Type 0 where
  pub is_row : IsRow inst.schema row
  pub code : (rule : Rule) → SpellsRule a.rules.code inst.desc rule → is_long_for inst.schema row rule ≡ false

-- the record keys of a change
abbrev pub AreKeys : Change → Type 0
AreKeys (change.Insert key new) = is_record_key key ≡ true
AreKeys (change.Delete key old) = is_record_key key ≡ true
AreKeys (change.Update from old to new) = (is_record_key from ≡ true) × (is_record_key to ≡ true)

-- a change of a relation with these columns, whose new row isn't too long
pub record MayMeet (a : Attachment) (inst : Instance) (c : Change) : Type 0 where
  pub keys : AreKeys c
  pub old : IfSome (row_before c) (Fits inst.schema)
  pub new : IfSome (row_after c) (MayHold a inst)

-- the change is one of these rows
abbrev pub IsChangeOf : Rows → Change → Type 0
IsChangeOf rows (change.Insert key new) = row_at rows key ≡ None
IsChangeOf rows (change.Delete key old) = row_at rows key ≡ Some old
IsChangeOf rows (change.Update from old to new) = (row_at rows from ≡ Some old) × ((to ≡ from → ⊥) → row_at rows to ≡ None)
