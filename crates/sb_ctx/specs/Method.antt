-- What a box of a storage method means, and the conditions of its calls.
use Rattle.std.specs.Prelude.{◌≡◌, ◌≢◌, ℕ, ◌^◌, Bool, true, false, [], Option, Some}
use Rattle.sb_rule.specs.declared.change.Change.{Change}
use Rattle.sb_rule.specs.declared.change.Change.TheVariants as change
use Rattle.sb_forms.specs.Db.{Key, Row, Rows, values_in}
use Rattle.sb_forms.specs.Fits.{MayKeep}
use Rattle.sb_forms.specs.Foreign.{MethodRules}
use Rattle.sb_forms.specs.Keys.{keying_of, Coded}
use Rattle.sb_forms.specs.Lawful.{IsRow, is_long_code}
use Rattle.sb_value.specs.Code.{ordered_code}
use Rattle.sb_forms.specs.Pages.{Pages}
use Rattle.sb_ctx.specs.declared.instance.Instance.{Instance}
use Rattle.sb_ctx.specs.declared.calls.MethodCall.{MethodCall}
use Rattle.sb_ctx.specs.declared.calls.MethodCall.TheVariants as call
use Rattle.sb_ctx.specs.View.{HeldPages}

-- What it is known by apart from pages; the rows that an instance's pages hold, where they are formed; and which of the pages that a call was given it may call broken. Over formed pages: how many pages so many rows take at most, how many a call edits at most, and which ones a call may ask for.
pub record Method : Type 0 where
  pub rules : MethodRules
  pub read : Instance → Pages → Option Rows
  pub may_break : Instance → HeldPages → ℕ → Bool
  pub bound : ℕ → ℕ
  pub cost : MethodCall → Rows → ℕ
  pub path : Instance → Pages → MethodCall → ℕ → Bool

-- more pages than an instance has with all fresh ones, and more than a call edits
abbrev pub boundless : ℕ
boundless = 2 ^ 18

-- a method that calls no page broken and sets itself no bounds; a record with other members may be made of it
abbrev pub plain_method : MethodRules → (Instance → Pages → Option Rows) → Method
plain_method rules read = record {
  rules = rules;
  read = read;
  may_break = λ inst held n. false;
  bound = λ rows. boundless;
  cost = λ c rows. boundless;
  path = λ inst P c n. true;
}

-- the instance is of a relation that the box may keep, in pages of its own
pub record IsInstance (m : Method) (inst : Instance) : Type 0 where
  pub code : inst.code ≡ m.rules.code
  pub durable : inst.durable ≡ m.rules.durable
  pub desc : inst.desc ≡ []
  pub owned : inst.owner ≢ 0
  pub may : MayKeep (Some m.rules) m.rules.code inst.schema inst.key

-- the ordered code of the key columns
abbrev pub code_of : Instance → Row → Key
code_of inst row = ordered_code (values_in inst.schema row inst.key)

-- a row that the relation doesn't refuse as too long
pub record MayHold (m : Method) (inst : Instance) (row : Row) : Type 0 where
  pub is_row : IsRow inst.schema row
  pub code : keying_of m.rules.code ≡ Coded → is_long_code inst.schema inst.key row ≡ false

-- the call that makes a change
abbrev pub call_of : Change → MethodCall
call_of (change.Insert key new) = call.Insert new
call_of (change.Delete key old) = call.Delete key
call_of (change.Update from old to new) = call.Update from new
