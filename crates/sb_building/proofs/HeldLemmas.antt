-- Whether a rule holds, row by row.
use Rattle.std.proofs.Common.{◌≡◌, Bool, true, false, not, ◌&&◌, ◌||◌, cond, List, [], ◌∷◌, ◌++◌, Option, Some, None, bytes_eq, is_eq, refl, sym, ap, ◌∙◌}
use Rattle.std.specs.List.{list_any, list_all}
use Rattle.std.specs.Cmp.Lexicographic.{nat_list_eq_equiv}
use Rattle.std.proofs.lemmas.List.Folds.{list_any-append}
use Rattle.std.proofs.lemmas.Map.Text.{is_eq-slice_cmp}
use Rattle.sb_value.specs.declared.schema.Column.{Column}
use Rattle.sb_value.specs.Equal.{tuple_eq_equiv, bytes_same}
use Rattle.sb_value.specs.Order.{bytes_cmp}
use Rattle.sb_rule.specs.declared.change.Change.TheVariants.{Insert}
use Rattle.sb_rule.specs.declared.rule.Side.TheVariants.{Main, Mirror}
use Rattle.sb_rule.specs.declared.rule.Rule.{Rule}
use Rattle.sb_rule.specs.declared.rule.Rule.TheVariants.{TreeIndex, HashIndex, JoinIndex, Stats, Check, Refers, Trigger, Foreign}
use Rattle.sb_relation.specs.Build.{main_of}
use Rattle.sb_relation.specs.Db.{Name, Key, Row, Rows, Db, row_at, rows_at, schema_at, values_in, with_row, with_rows}
use Rattle.sb_relation.specs.Foreign.{AttachRules}
use Rattle.sb_relation.specs.Rules.{admits, holds, has_values, is_unique}
use Rattle.sb_ctx.specs.declared.instance.Instance.{Instance}
use Rattle.sb_ctx.specs.Attachment.{Attachment}
use Rattle.sb_ctx.specs.AttachAnswers.{admits_built, at_once}
use Rattle.sb_building.specs.Held.{holds_of}

-- ---- the whole relation
all_true : (rows : Rows) → true ≡ list_all (λ row. true) rows
all_true [] = refl
all_true (row ∷ rows) = all_true rows

-- a rule that is no mirror holds where it does of all rows
pub holds-all : (box : Option AttachRules) (db : Db) (name : Name) (rule : Rule) → main_of name rule ≡ None → holds box db name rule ≡ holds_of box db name rule (rows_at db name)
holds-all box db name (TreeIndex columns unique) main = refl
holds-all box db name (HashIndex columns) main = all_true (rows_at db name)
holds-all box db name (JoinIndex Main columns other others) main = all_true (rows_at db name)
holds-all box db name (JoinIndex Mirror columns other others) main = absurd (cc)
holds-all box db name (Stats column low width) main = all_true (rows_at db name)
holds-all box db name (Check pred deferred) main = refl
holds-all box db name (Refers Main columns other others mode deferred) main = refl
holds-all box db name (Refers Mirror columns other others mode deferred) main = absurd (cc)
holds-all box db name (Trigger on pred act deferred) main = all_true (rows_at db name)
holds-all box db name (Foreign code desc) main = refl

-- ---- one row more
list_all-more : (p : Key × Row → Bool) (built : Rows) (row : Key × Row) → list_all p (built ++ row ∷ []) ≡ (list_all p built && p row)
list_all-more p [] row = one (p row)
  where
    one : (b : Bool) → (b && true) ≡ b
    one true = refl
    one false = refl
list_all-more p (x ∷ built) row = ap (λ (b : Bool). p x && b) (list_all-more p built row) ∙ moved (p x) (list_all p built) (p row)
  where
    moved : (a b c : Bool) → (a && (b && c)) ≡ ((a && b) && c)
    moved true b c = refl
    moved false b c = refl

list_all-front : (p : Key × Row → Bool) (built rest : Rows) → list_all p (built ++ rest) ≡ true → list_all p built ≡ true
list_all-front p [] rest all = refl
list_all-front p (x ∷ built) rest all = by (p x) (list_all p (built ++ rest)) all (list_all-front p built rest)
  where
    by : (a b : Bool) → (a && b) ≡ true → (b ≡ true → list_all p built ≡ true) → (a && list_all p built) ≡ true
    by true b all front = front all
    by false b all front = absurd (cc)

-- some row agrees with it
abbrev agrees : List Column → List Name → Key × Row → Rows → Bool
agrees schema columns row rows = list_any (λ other. has_values schema columns (values_in schema row.1 columns) other.1) rows

same_values : (schema : List Column) (columns : List Name) (a b : Key × Row) → has_values schema columns (values_in schema a.1 columns) b.1 ≡ has_values schema columns (values_in schema b.1 columns) a.1
same_values schema columns a b = tuple_eq_equiv.symm (values_in schema b.1 columns) (values_in schema a.1 columns)

or_false : (b : Bool) → (b || false) ≡ b
or_false true = refl
or_false false = refl

none_more : (b c v d : Bool) → (not (b || c) && (v && not d)) ≡ ((not b && v) && not (c || d))
none_more true c v d = refl
none_more false true true d = refl
none_more false true false d = refl
none_more false false true d = refl
none_more false false false d = refl

is_unique-more : (schema : List Column) (columns : List Name) (built : Rows) (row : Key × Row) → is_unique schema columns (built ++ row ∷ []) ≡ (is_unique schema columns built && not (agrees schema columns row built))
is_unique-more schema columns [] row = refl
is_unique-more schema columns (x ∷ built) row =
    (λ i. not (any i) && is_unique-more schema columns built row i)
    ∙ none_more (agrees schema columns x built) (has_values schema columns (values_in schema row.1 columns) x.1) (is_unique schema columns built) (agrees schema columns row built)
  where
    any : agrees schema columns x (built ++ row ∷ []) ≡ (agrees schema columns x built || has_values schema columns (values_in schema row.1 columns) x.1)
    any = list_any-append (λ (other : Key × Row). has_values schema columns (values_in schema x.1 columns) other.1) built (row ∷ [])
        ∙ ap (λ (b : Bool). agrees schema columns x built || b) (or_false (has_values schema columns (values_in schema x.1 columns) row.1) ∙ same_values schema columns x row)

is_unique-front : (schema : List Column) (columns : List Name) (built rest : Rows) → is_unique schema columns (built ++ rest) ≡ true → is_unique schema columns built ≡ true
is_unique-front schema columns [] rest all = refl
is_unique-front schema columns (x ∷ built) rest all =
    by (agrees schema columns x built) (agrees schema columns x rest) (is_unique schema columns (built ++ rest))
    (ap (λ (b : Bool). not b && is_unique schema columns (built ++ rest)) (sym (list_any-append (λ (other : Key × Row). has_values schema columns (values_in schema x.1 columns) other.1) built rest)) ∙ all)
    (is_unique-front schema columns built rest)
  where
    by : (a r u : Bool) → (not (a || r) && u) ≡ true → (u ≡ true → is_unique schema columns built ≡ true) → (not a && is_unique schema columns built) ≡ true
    by true r u all front = absurd (cc)
    by false true u all front = absurd (cc)
    by false false u all front = front all

-- no other row behind them has a row's key
has_other : (q : Key × Row → Bool) (built : Rows) (row : Key × Row) → row_at built row.0 ≡ None → list_any (λ r. not (bytes_eq r.0 row.0) && q r) (built ++ row ∷ []) ≡ list_any q built
has_other q [] row none = ap (λ (b : Bool). (not b && q row) || false) ((bytes_same row.0 row.0).1 refl)
has_other q (x ∷ built) row none = by (is_eq (bytes_cmp row.0 x.0)) refl none (has_other q built row)
  where
    by : (b : Bool) → is_eq (bytes_cmp row.0 x.0) ≡ b → cond b (Some x.1) (row_at built row.0) ≡ None
        → (row_at built row.0 ≡ None → list_any (λ r. not (bytes_eq r.0 row.0) && q r) (built ++ row ∷ []) ≡ list_any q built)
        → ((not (bytes_eq x.0 row.0) && q x) || list_any (λ r. not (bytes_eq r.0 row.0) && q r) (built ++ row ∷ [])) ≡ (q x || list_any q built)
    by true is none rest = absurd (cc)
    by false is none rest =
        let apart : bytes_eq x.0 row.0 ≡ false = nat_list_eq_equiv.symm x.0 row.0 ∙ sym (is_eq-slice_cmp row.0 x.0) ∙ is in
        λ i. (not (apart i) && q x) || rest none i

-- the rows and the columns of the relation that is built
pub record IsOver (db : Db) (name : Name) (built : Rows) (row : Key × Row) : Type 0 where
  pub rows : rows_at (with_rows db name (with_row built row.0 row.1)) name ≡ built ++ row ∷ []
  pub schema : schema_at (with_rows db name (with_row built row.0 row.1)) name ≡ schema_at db name
  pub new : row_at built row.0 ≡ None

unique_more : (db : Db) (name : Name) (columns : List Name) (built : Rows) (row : Key × Row) → IsOver db name built row
    → agrees (schema_at db name) columns row built
    ≡ list_any (λ r. not (bytes_eq r.0 row.0) && has_values (schema_at (with_rows db name (with_row built row.0 row.1)) name) columns (values_in (schema_at (with_rows db name (with_row built row.0 row.1)) name) row.1 columns) r.1)
    (rows_at (with_rows db name (with_row built row.0 row.1)) name)
unique_more db name columns built row over =
    sym ((λ i. list_any (λ r. not (bytes_eq r.0 row.0) && has_values (over.schema i) columns (values_in (over.schema i) row.1 columns) r.1) (over.rows i))
    ∙ has_other (λ r. has_values (schema_at db name) columns (values_in (schema_at db name) row.1 columns) r.1) built row over.new)

-- it holds with the next row where it held, and that is admitted
pub holds_of-more : (a : Attachment) (inst : Instance) (rule : Rule) (db : Db) (built : Rows) (row : Key × Row) → IsOver db inst.relation built row
    → holds_of (Some a.rules) db inst.relation rule (built ++ row ∷ []) ≡ (holds_of (Some a.rules) db inst.relation rule built && admits_built a inst rule db built (Insert row.0 row.1))
holds_of-more a inst (TreeIndex columns false) db built row over = refl
holds_of-more a inst (TreeIndex columns true) db built row over =
    is_unique-more (schema_at db inst.relation) columns built row
    ∙ ap (λ (b : Bool). is_unique (schema_at db inst.relation) columns built && not b) (unique_more db inst.relation columns built row over)
holds_of-more a inst (HashIndex columns) db built row over = list_all-more (λ r. admits (Some a.rules) db inst.relation (at_once (HashIndex columns)) (Insert r.0 r.1)) built row
holds_of-more a inst (JoinIndex side columns other others) db built row over = list_all-more (λ r. admits (Some a.rules) db inst.relation (at_once (JoinIndex side columns other others)) (Insert r.0 r.1)) built row
holds_of-more a inst (Stats column low width) db built row over = list_all-more (λ r. admits (Some a.rules) db inst.relation (at_once (Stats column low width)) (Insert r.0 r.1)) built row
holds_of-more a inst (Check pred deferred) db built row over = list_all-more (λ r. admits (Some a.rules) db inst.relation (at_once (Check pred deferred)) (Insert r.0 r.1)) built row
holds_of-more a inst (Refers side columns other others mode deferred) db built row over =
    list_all-more (λ r. admits (Some a.rules) db inst.relation (at_once (Refers side columns other others mode deferred)) (Insert r.0 r.1)) built row
holds_of-more a inst (Trigger on pred act deferred) db built row over = list_all-more (λ r. admits (Some a.rules) db inst.relation (at_once (Trigger on pred act deferred)) (Insert r.0 r.1)) built row
holds_of-more a inst (Foreign code desc) db built row over = list_all-more (λ r. admits (Some a.rules) db inst.relation (at_once (Foreign code desc)) (Insert r.0 r.1)) built row

-- it held of the first ones
pub holds_of-front : (box : Option AttachRules) (db : Db) (name : Name) (rule : Rule) (built rest : Rows) → holds_of box db name rule (built ++ rest) ≡ true → holds_of box db name rule built ≡ true
holds_of-front box db name (TreeIndex columns false) built rest all = refl
holds_of-front box db name (TreeIndex columns true) built rest all = is_unique-front (schema_at db name) columns built rest all
holds_of-front box db name (HashIndex columns) built rest all = list_all-front (λ r. admits box db name (at_once (HashIndex columns)) (Insert r.0 r.1)) built rest all
holds_of-front box db name (JoinIndex side columns other others) built rest all = list_all-front (λ r. admits box db name (at_once (JoinIndex side columns other others)) (Insert r.0 r.1)) built rest all
holds_of-front box db name (Stats column low width) built rest all = list_all-front (λ r. admits box db name (at_once (Stats column low width)) (Insert r.0 r.1)) built rest all
holds_of-front box db name (Check pred deferred) built rest all = list_all-front (λ r. admits box db name (at_once (Check pred deferred)) (Insert r.0 r.1)) built rest all
holds_of-front box db name (Refers side columns other others mode deferred) built rest all =
    list_all-front (λ r. admits box db name (at_once (Refers side columns other others mode deferred)) (Insert r.0 r.1)) built rest all
holds_of-front box db name (Trigger on pred act deferred) built rest all = list_all-front (λ r. admits box db name (at_once (Trigger on pred act deferred)) (Insert r.0 r.1)) built rest all
holds_of-front box db name (Foreign code desc) built rest all = list_all-front (λ r. admits box db name (at_once (Foreign code desc)) (Insert r.0 r.1)) built rest all

-- so where a row isn't admitted, it holds of no rows of which these are the first
pub holds_of-vetoed : (a : Attachment) (inst : Instance) (rule : Rule) (db : Db) (built rest : Rows) (row : Key × Row) → IsOver db inst.relation built row
    → admits_built a inst rule db built (Insert row.0 row.1) ≡ false → holds_of (Some a.rules) db inst.relation rule ((built ++ row ∷ []) ++ rest) ≡ false
holds_of-vetoed a inst rule db built rest row over vetoed = by (holds_of (Some a.rules) db inst.relation rule ((built ++ row ∷ []) ++ rest)) refl
  where
    never : (b : Bool) → (b && false) ≡ true → ⊥
    never true e = absurd (cc)
    never false e = absurd (cc)

    by : (b : Bool) → holds_of (Some a.rules) db inst.relation rule ((built ++ row ∷ []) ++ rest) ≡ b → b ≡ false
    by true is =
        absurd (never (holds_of (Some a.rules) db inst.relation rule built)
        (ap (λ (b : Bool). holds_of (Some a.rules) db inst.relation rule built && b) (sym vetoed) ∙ sym (holds_of-more a inst rule db built row over)
        ∙ holds_of-front (Some a.rules) db inst.relation rule (built ++ row ∷ []) rest is))
    by false is = refl

-- of no rows it does
pub holds_of-none : (box : Option AttachRules) (db : Db) (name : Name) (rule : Rule) → holds_of box db name rule [] ≡ true
holds_of-none box db name (TreeIndex columns false) = refl
holds_of-none box db name (TreeIndex columns true) = refl
holds_of-none box db name (HashIndex columns) = refl
holds_of-none box db name (JoinIndex side columns other others) = refl
holds_of-none box db name (Stats column low width) = refl
holds_of-none box db name (Check pred deferred) = refl
holds_of-none box db name (Refers side columns other others mode deferred) = refl
holds_of-none box db name (Trigger on pred act deferred) = refl
holds_of-none box db name (Foreign code desc) = refl
