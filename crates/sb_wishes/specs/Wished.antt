-- What is wished of a row of a relation, as an instance and the rules of its attachments.
use Rattle.std.specs.Prelude.{◌≡◌, ℕ, ◌≤◌, ◌==◌, Bool, true, ◌&&◌, ◌||◌, List, [], ◌∷◌, map, All, Option, Some, None, IfSome, ℤ}
use Rattle.std.specs.Int.{to_be_bytes, w64}
use Rattle.std.specs.List.{list_any}
use Rattle.std.specs.Option.{option_and_then}
use Rattle.sb_value.specs.declared.schema.Column.{Column}
use Rattle.sb_value.specs.declared.schema.Kind.TheVariants as kind
use Rattle.sb_value.specs.declared.value.Value.{Value}
use Rattle.sb_value.specs.declared.value.Value.TheVariants.{Int, Text}
use Rattle.sb_value.specs.Fits.{Fits}
use Rattle.sb_pred.specs.Columns.{column_kind}
use Rattle.sb_relation.specs.Db.{Name, Key, Row, Rows, Relation, row_at, tree}
use Rattle.sb_relation.specs.Keys.{Counted, greatest, keying_of, is_record_key}
use Rattle.sb_relation.specs.Lawful.{is_long_code, is_long_for, is_long_row}
use Rattle.sb_fold.specs.declared.refusal.Refusal.TheVariants.{Range}
use Rattle.sb_fold.specs.Outcome.{Work, made, refuse}
use Rattle.sb_fold.specs.Wishes.{Wish, Put, Remove, Replace, Raise}
use Rattle.sb_ctx.specs.declared.instance.Instance.{Instance}
use Rattle.sb_catalog.specs.declared.descriptor.Attached.{Attached}

-- ---- the relation
-- the instance is of the relation's storage method, columns and key, and these are its rules one by one
pub record IsTableOf (inst : Instance) (rules : List Attached) (r : Relation) : Type 0 where
  pub method : r.method ≡ inst.code
  pub schema : r.schema ≡ inst.schema
  pub key : r.key ≡ inst.key
  pub attached : map (λ a. a.rule) rules ≡ map (λ a. a.rule) r.attachments

-- a row that the relation refuses as too long
abbrev pub is_long_in : Instance → List Attached → Row → Bool
is_long_in inst rules row =
    is_long_row inst.schema row || (inst.code == tree && is_long_code inst.schema inst.key row) || list_any (λ a. is_long_for inst.schema row a.rule) rules

-- a number in 8 bytes, up to this one
pub record IsCount (most : ℕ) (key : Key) : Type 0 where
  pub number : ℕ
  pub within : number ≤ most
  pub is : key ≡ to_be_bytes w64 number

-- where the storage method counts its keys, each key is a number up to that of the last one
abbrev pub HasCounts : Relation → Type 0
HasCounts r = keying_of r.method ≡ Counted → All (λ row. IsCount (greatest r.rows) row.0) r.rows

-- ---- wishes
-- a row that is wished fits the columns, and a number more is wished of a number's column
abbrev pub MayBeWished : List Column → Wish → Type 0
MayBeWished schema (Put row) = Fits schema row
MayBeWished schema (Remove key) = Unit {0}
MayBeWished schema (Replace key row) = Fits schema row
MayBeWished schema (Raise key column by) = column_kind schema column ≡ Some kind.Int

-- the key of the row that a wish is of
abbrev pub key_in : Wish → Option Key
key_in (Put row) = None
key_in (Remove key) = Some key
key_in (Replace key row) = Some key
key_in (Raise key column by) = Some key

-- a key that it names is a record key
abbrev pub NamesKey : Wish → Type 0
NamesKey wish = IfSome (key_in wish) (λ key. is_record_key key ≡ true)

-- the row of that key
abbrev pub row_wished : Rows → Wish → Option Row
row_wished rows wish = option_and_then (row_at rows) (key_in wish)

-- a row with a number more in a column, or the sum is outside 64 bits
abbrev pub raised_to : Name → Option Row → Work Row
raised_to name (Some row) = made row
raised_to name None = refuse (Range name)

-- a value as a list
abbrev pub values_at : Option Value → List Value
values_at None = []
values_at (Some v) = v ∷ []

-- the number that a value is
abbrev pub number_of : Option Value → Option ℤ
number_of (Some (Int n)) = Some n
number_of (Some (Text s)) = None
number_of None = None
