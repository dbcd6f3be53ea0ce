-- What the box of checks means, and what it answers.
use Rattle.std.specs.Prelude.{◌≡◌, ◌==◌, Bool, true, false, List, [], ◌∷◌, length, All, Option, Some, None, ◌⊎◌}
use Rattle.std.specs.List.{list_any, IsDistinct}
use Rattle.std.specs.Str.{bytes_eq}
use Rattle.sb_value.specs.declared.value.Value.{Value}
use Rattle.sb_value.specs.declared.schema.Column.{Column}
use Rattle.sb_codec.specs.Tuples.{tuple_spelling}
use Rattle.sb_pred.specs.Tree.{Tree}
use Rattle.sb_rule.specs.declared.rule.Rule.{Rule}
use Rattle.sb_rule.specs.declared.rule.Rule.TheVariants.{Check}
use Rattle.sb_rule.specs.Spelling.{SpellsRule}
use Rattle.sb_relation.specs.Db.{Name, Key, Row, values_in}
use Rattle.sb_relation.specs.Fits.{first_unnamed, places_in}
use Rattle.sb_ctx.specs.Attachment.{Attachment}
use Rattle.sb_ctx.specs.View.{View, found_of}
use Rattle.sb_ctx.specs.declared.instance.Instance.{Instance}
use Rattle.sb_ctx.specs.declared.moves.Move.{Move}
use Rattle.sb_ctx.specs.declared.moves.Move.TheVariants.{Done, Acts, Find, Veto, NoMemory}
use Rattle.sb_rules.specs.Pageless.{pageless}

abbrev pub check : Attachment
check = pageless 5

-- the instance's bytes spell this check and no other rule
abbrev pub Keeps : Instance → Tree → Bool → Type 0
Keeps inst pred deferred = (rule : Rule) → SpellsRule 5 inst.desc rule → rule ≡ Check pred deferred

-- ---- answers
abbrev pub verdict_of : Bool → Move
verdict_of true = Done
verdict_of false = Veto

-- the row is left for the commit
abbrev pub queued : Row → Move
queued row = Acts [] [] (tuple_spelling row ∷ [])

-- the name is one of these
abbrev pub is_in : List Name → Name → Bool
is_in names name = list_any (λ known. bytes_eq known name) names

-- the names of these columns, each once
pub record AreNames (schema : List Column) (names : List Name) : Type 0 where
  pub once : IsDistinct bytes_eq names
  pub all : All (λ c. is_in names c.name ≡ true) schema
  pub named : first_unnamed (places_in schema names) ≡ None

-- of a row that fails: none has these values, one has, or that has to be asked
abbrev pub asked : Option (List Key) → Name → List Name → List Value → Move
asked (Some keys) relation columns values = verdict_of (length keys == 0)
asked None relation columns values = Find relation columns values

-- the answer of a find of the rows that have the row's value under each name
pub record IsAnswered (c : View) (inst : Instance) (row : Row) (move : Move) : Type 0 where
  pub columns : List Name
  pub names : AreNames inst.schema columns
  pub is : let values = values_in inst.schema row columns in move ≡ asked (found_of c inst.relation columns values) inst.relation columns values

-- that answer, or want of memory
abbrev pub IsAsked : View → Instance → Row → Move → Type 0
IsAsked c inst row move = IsAnswered c inst row move ⊎ (move ≡ NoMemory)
