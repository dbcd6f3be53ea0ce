-- What extensions with codes of their own are known by, apart from their pages.
use Rattle.std.specs.Prelude.{ℕ, ◌==◌, Bool, true, cond, List, [], ◌∷◌, Option, Some, None, ℤ}
use Rattle.sb_value.specs.declared.schema.Column.{Column}
use Rattle.sb_rule.specs.declared.change.Change.{Change}
use Rattle.sb_relation.specs.declared.image.Image.{Image}
use Rattle.sb_relation.specs.Db.{Name, Key, Rows, Db}

-- a storage method: its code, whether its relations outlive a run, and whether it keeps relations of these columns and this key
pub record MethodRules : Type 0 where
  pub code : ℕ
  pub durable : Bool
  pub fits : List Column → List Name → Bool

-- in a group of rows a value stands so often
pub record Count : Type 0 where
  pub group : Key
  pub value : ℤ
  pub rows : ℕ

-- An attachment: its code, whether it may stand on these columns with this desc, which changes of a relation it admits over the changed database, and over a relation's columns and rows its content and the counts beside it.
pub record AttachRules : Type 0 where
  pub code : ℕ
  pub fits : List Column → List ℕ → Bool
  pub admits : List ℕ → Db → Name → Change → Bool
  pub image : List ℕ → List Column → Rows → Image
  pub counts : List ℕ → List Column → Rows → List Count

-- an attachment that stands anywhere, admits every change and keeps nothing; a record with other members may be made of it
abbrev pub plain_rules : ℕ → AttachRules
plain_rules code = record {
  code = code;
  fits = λ schema desc. true;
  admits = λ desc db name c. true;
  image = λ desc schema rows. record { entries = []; sums = [] };
  counts = λ desc schema rows. [];
}

-- the extensions that are there
pub record Boxes : Type 0 where
  pub methods : List MethodRules
  pub attachments : List AttachRules

abbrev pub method_rules : ℕ → List MethodRules → Option MethodRules
method_rules code [] = None
method_rules code (m ∷ ms) = cond (m.code == code) (Some m) (method_rules code ms)

abbrev pub attach_rules : ℕ → List AttachRules → Option AttachRules
attach_rules code [] = None
attach_rules code (a ∷ others) = cond (a.code == code) (Some a) (attach_rules code others)
