-- The grammar of commands, by cases on the command.
use Rattle.std.specs.Prelude.{◌≡◌, ℕ, zero, suc, ◌≤◌, codes, Bool, true, false, List, [], ◌∷◌, Option, Some, None, ℤ, pos, negsuc}
use Rattle.sb_value.specs.declared.schema.Column.{Column}
use Rattle.sb_value.specs.declared.schema.Kind.{Kind}
use Rattle.sb_value.specs.declared.schema.Kind.TheVariants as kind
use Rattle.sb_value.specs.declared.value.Value.{Value}
use Rattle.sb_value.specs.declared.value.Value.TheVariants as value
use Rattle.sb_pred.specs.declared.predicate.Op.{Op}
use Rattle.sb_pred.specs.declared.predicate.Op.TheVariants.{Eq, Ne, Lt, Le, Gt, Ge}
use Rattle.sb_pred.specs.declared.predicate.Term.{Term}
use Rattle.sb_pred.specs.declared.predicate.Term.TheVariants.{Const, New, Old}
use Rattle.sb_pred.specs.Tree.{Tree, Always, Compare, Both, Either, Fails}
use Rattle.sb_rule.specs.declared.rule.Side.TheVariants.{Main}
use Rattle.sb_rule.specs.declared.rule.Mode.{Mode}
use Rattle.sb_rule.specs.declared.rule.Mode.TheVariants.{Restrict, Cascade}
use Rattle.sb_rule.specs.declared.rule.Event.{Event}
use Rattle.sb_rule.specs.declared.rule.Event.TheVariants as event
use Rattle.sb_rule.specs.declared.action.Action.{Action}
use Rattle.sb_rule.specs.declared.action.Action.TheVariants as action
use Rattle.sb_rule.specs.declared.rule.Rule.{Rule}
use Rattle.sb_rule.specs.declared.rule.Rule.TheVariants.{TreeIndex, HashIndex, JoinIndex, Stats, Check, Refers, Trigger, Foreign}
use Rattle.sb_language.specs.Lang.{◌⨾◌, ◌∣◌, nothing, none, just, items_up_to, grouped}
use Rattle.sb_language.specs.Words.{is_keyword}
use Rattle.sb_plain.specs.declared.command.Command.{Command}
use Rattle.sb_plain.specs.declared.command.Command.TheVariants as command
use Rattle.sb_tokens.specs.declared.token.Sign.{Sign}
use Rattle.sb_tokens.specs.declared.token.Sign.TheVariants.{Open, Close, Comma, Dot, Equal, Unequal, Less, LessOrEqual, Greater, GreaterOrEqual}
use Rattle.sb_tokens.specs.declared.token.Token.{Token}
use Rattle.sb_tokens.specs.declared.token.Token.TheVariants as token

-- which rows of tokens are in a piece of the language
abbrev pub Piece : Type 1
Piece = List Token → Type 0

-- ---- words, signs, names and values
abbrev pub word : List ℕ → Piece
word text = just (token.Word text)

abbrev pub mark : Sign → Piece
mark sign = just (token.Sign sign)

-- a word that is no keyword
abbrev pub name : List ℕ → Piece
name text tokens = (is_keyword text ≡ false) × word text tokens

abbrev pub key : List ℕ → Piece
key bytes = just (token.Key bytes)

abbrev pub constant : Value → Piece
constant (value.Int n) = just (token.Int n)
constant (value.Text s) = just (token.Text s)

-- a number between two others, both included
abbrev pub number_between : ℕ → ℕ → ℕ → Piece
number_between low high n tokens = (low ≤ n) × (n ≤ high) × just (token.Int (pos n)) tokens

-- a number above 0
abbrev pub positive : ℤ → Piece
positive (pos zero) = nothing
positive (pos (suc n)) = just (token.Int (pos (suc n)))
positive (negsuc n) = nothing

-- a word where it is so, and no token where it isn't
abbrev pub word_if : List ℕ → Bool → Piece
word_if text true = word text
word_if text false = none

abbrev pub optional : {A : Type 0} → (A → Piece) → Option A → Piece
optional P None = none
optional P (Some a) = P a

-- ( ITEM {, ITEM} ), at most 16
abbrev pub listed : {A : Type 0} → (A → Piece) → List A → Piece
listed P items = mark Open ⨾ items_up_to 15 (token.Sign Comma) P items ⨾ mark Close

abbrev pub names : List (List ℕ) → Piece
names = listed name

abbrev pub constants : List Value → Piece
constants = listed constant

-- NAME on NAME: of an attachment and its relation
abbrev pub place : List ℕ → List ℕ → Piece
place relation label = name label ⨾ word (codes "on") ⨾ name relation

-- ---- terms
-- a value and nothing else
abbrev pub constant_term : Term → Piece
constant_term (Const v) = constant v
constant_term (New column) = nothing
constant_term (Old column) = nothing

-- in a check: a value, or a column of the row by its name
abbrev pub bare_term : Term → Piece
bare_term (Const v) = constant v
bare_term (New column) = name column
bare_term (Old column) = nothing

-- in a trigger: a value, or a column of the row as it is or as it was
abbrev pub full_term : Term → Piece
full_term (Const v) = constant v
full_term (New column) = word (codes "new") ⨾ mark Dot ⨾ name column
full_term (Old column) = word (codes "old") ⨾ mark Dot ⨾ name column

-- ---- predicates
-- = <> < <= > >=
abbrev pub sign_of : Op → Sign
sign_of Eq = Equal
sign_of Ne = Unequal
sign_of Lt = Less
sign_of Le = LessOrEqual
sign_of Gt = Greater
sign_of Ge = GreaterOrEqual

-- always, or TERM OP TERM
abbrev pub plain_unit : (Term → Piece) → Tree → Piece
plain_unit term Always = word (codes "always")
plain_unit term (Compare op a b) = term a ⨾ mark (sign_of op) ⨾ term b
plain_unit term _ = nothing

-- UNIT {and UNIT}
abbrev pub conjunction : (Tree → Piece) → Tree → Piece
conjunction unit = grouped Both (token.Word (codes "and")) unit

-- CONJUNCTION {or CONJUNCTION}
abbrev pub disjunction : (Tree → Piece) → Tree → Piece
disjunction unit = grouped Either (token.Word (codes "or")) (conjunction unit)

-- not UNIT
abbrev pub negation : (Tree → Piece) → Tree → Piece
negation unit (Fails p) = word (codes "not") ⨾ unit p
negation unit _ = nothing

-- what a predicate is made of, where so many more of not and ( may be open at once
unfoldable pub unit_within : (Term → Piece) → ℕ → Tree → Piece
unit_within term zero p = plain_unit term p
unit_within term (suc n) p =
    negation (unit_within term n) p ∣ (mark Open ⨾ disjunction (unit_within term n) p ⨾ mark Close) ∣ plain_unit term p

-- a predicate, in which at most 16 of not and ( are open at once
abbrev pub predicate : (Term → Piece) → Tree → Piece
predicate term = disjunction (unit_within term 16)

-- ---- actions
-- NAME = TERM
abbrev pub pair : (Term → Piece) → List ℕ × Term → Piece
pair term p = name p.0 ⨾ mark Equal ⨾ term p.1

-- where PAIR {and PAIR}, at most 4, or nothing
abbrev pub matching : (Term → Piece) → List (List ℕ × Term) → Piece
matching term [] = none
matching term (p ∷ pairs) = word (codes "where") ⨾ items_up_to 3 (token.Word (codes "and")) (pair term) (p ∷ pairs)

-- delete NAME [where ..] | set NAME NAME = TERM [where ..] | add NAME NAME by TERM [where ..]
abbrev pub matching_action : (Term → Piece) → Action → Piece
matching_action term (action.Insert relation terms) = nothing
matching_action term (action.Delete relation pairs) = word (codes "delete") ⨾ name relation ⨾ matching term pairs
matching_action term (action.Set relation column new pairs) =
    word (codes "set") ⨾ name relation ⨾ name column ⨾ mark Equal ⨾ term new ⨾ matching term pairs
matching_action term (action.Add relation column new pairs) =
    word (codes "add") ⨾ name relation ⨾ name column ⨾ word (codes "by") ⨾ term new ⨾ matching term pairs

-- what a trigger does: one of these, or insert NAME values ( TERM {, TERM} )
abbrev pub triggered : Action → Piece
triggered (action.Insert relation terms) = word (codes "insert") ⨾ name relation ⨾ word (codes "values") ⨾ listed full_term terms
triggered act = matching_action full_term act

-- ---- attachments
abbrev pub mode : Mode → Piece
mode Restrict = word (codes "restrict")
mode Cascade = word (codes "cascade")

abbrev pub event_word : Event → Piece
event_word event.Insert = word (codes "insert")
event_word event.Delete = word (codes "delete")
event_word event.Update = word (codes "update")

-- a code of another author's extension
abbrev pub foreign_code : ℕ → Piece
foreign_code = number_between 1000 65535

-- a mirror is attached with its main side, and never by a line
abbrev pub attachment : List ℕ → List ℕ → Rule → Piece
attachment relation label (TreeIndex columns unique) =
    word (codes "treeindex") ⨾ place relation label ⨾ names columns ⨾ word_if (codes "unique") unique
attachment relation label (HashIndex columns) = word (codes "hashindex") ⨾ place relation label ⨾ names columns
attachment relation label (JoinIndex Main columns other others) =
    word (codes "joinindex") ⨾ place relation label ⨾ names columns ⨾ word (codes "with") ⨾ name other ⨾ names others
attachment relation label (Stats column low width) =
    word (codes "stats") ⨾ place relation label ⨾ mark Open ⨾ name column ⨾ mark Close
    ⨾ word (codes "low") ⨾ just (token.Int low) ⨾ word (codes "width") ⨾ positive width
attachment relation label (Check pred deferred) =
    word (codes "check") ⨾ place relation label ⨾ predicate bare_term pred ⨾ word_if (codes "deferred") deferred
attachment relation label (Refers Main columns other others how deferred) =
    word (codes "refers") ⨾ place relation label ⨾ names columns ⨾ word (codes "to") ⨾ name other ⨾ names others
    ⨾ mode how ⨾ word_if (codes "deferred") deferred
attachment relation label (Trigger on pred act deferred) =
    word (codes "trigger") ⨾ place relation label ⨾ word (codes "after") ⨾ event_word on
    ⨾ word (codes "when") ⨾ predicate full_term pred ⨾ word (codes "do") ⨾ triggered act ⨾ word_if (codes "deferred") deferred
attachment relation label (Foreign code desc) = word (codes "code") ⨾ foreign_code code ⨾ place relation label ⨾ word (codes "desc") ⨾ key desc
attachment relation label _ = nothing

-- ---- relations
-- heap, tree, temp, or that of another author
abbrev pub method : ℕ → Piece
method code =
    (λ tokens. (code ≡ 1) × word (codes "heap") tokens) ∣ (λ tokens. (code ≡ 2) × word (codes "tree") tokens)
    ∣ (λ tokens. (code ≡ 3) × word (codes "temp") tokens) ∣ (word (codes "method") ⨾ foreign_code code)

-- a text has at most 255 bytes, or as many as are said
abbrev pub text_limit : ℕ → Piece
text_limit limit = (λ tokens. (limit ≡ 255) × none tokens) ∣ (mark Open ⨾ number_between 1 255 limit ⨾ mark Close)

abbrev pub kind_with : Kind → ℕ → Piece
kind_with kind.Int limit = λ tokens. (limit ≡ 0) × word (codes "int") tokens
kind_with kind.Text limit = word (codes "text") ⨾ text_limit limit

abbrev pub column : Column → Piece
column c = name c.name ⨾ kind_with c.kind c.limit

abbrev pub key_columns : List (List ℕ) → Piece
key_columns [] = none
key_columns (label ∷ labels) = word (codes "key") ⨾ names (label ∷ labels)

-- ---- commands
abbrev pub sort : Bool → Piece
sort true = word (codes "method")
sort false = word (codes "attachment")

abbrev pub any_code : ℕ → Piece
any_code = number_between 1 65535

abbrev pub after_key : List ℕ → Piece
after_key bytes = word (codes "after") ⨾ key bytes

abbrev pub row_limit : ℕ → Piece
row_limit n = word (codes "limit") ⨾ number_between 0 1000000 n

abbrev pub Spells : Command → Piece
Spells (command.Create relation code schema columns) =
    word (codes "create") ⨾ name relation ⨾ word (codes "using") ⨾ method code ⨾ listed column schema ⨾ key_columns columns
Spells (command.Drop relation) = word (codes "drop") ⨾ name relation
Spells (command.Attach relation label rule) = word (codes "attach") ⨾ attachment relation label rule
Spells (command.Detach relation label) = word (codes "detach") ⨾ place relation label
Spells (command.Register is_method code) = word (codes "register") ⨾ sort is_method ⨾ any_code code
Spells (command.Retire is_method code) = word (codes "retire") ⨾ sort is_method ⨾ any_code code
Spells command.Begin = word (codes "begin")
Spells command.Commit = word (codes "commit")
Spells command.Abort = word (codes "abort")
Spells (command.Savepoint label) = word (codes "savepoint") ⨾ name label
Spells (command.Rollback label) = word (codes "rollback") ⨾ name label
Spells (command.Insert relation values) = word (codes "insert") ⨾ name relation ⨾ word (codes "values") ⨾ constants values
Spells (command.Delete relation at) = word (codes "delete") ⨾ name relation ⨾ key at
Spells (command.Update relation at values) = word (codes "update") ⨾ name relation ⨾ key at ⨾ word (codes "values") ⨾ constants values
Spells (command.Act act) = matching_action constant_term act
Spells (command.Get relation at) = word (codes "get") ⨾ name relation ⨾ key at
Spells (command.Scan relation after limit) = word (codes "scan") ⨾ name relation ⨾ optional after_key after ⨾ optional row_limit limit
Spells (command.Lookup relation label values) = word (codes "lookup") ⨾ place relation label ⨾ constants values
Spells (command.Range relation label low high) =
    word (codes "range") ⨾ place relation label ⨾ word (codes "from") ⨾ constants low ⨾ word (codes "to") ⨾ constants high
Spells (command.Entries relation label) = word (codes "entries") ⨾ place relation label
Spells (command.Show relation) = word (codes "show") ⨾ name relation
Spells command.Tables = word (codes "tables")
Spells command.Checkpoint = word (codes "checkpoint")

-- a command that the grammar gives
pub record IsSpelled (c : Command) : Type 0 where
  pub tokens : List Token
  pub spelled : Spells c tokens
