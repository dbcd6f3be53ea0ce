-- Work that brings a text too long for its column comes to nothing.
use Rattle.std.proofs.Common.{◌≡◌, ◌<◌, ℕ, zero, suc, ◌+◌, ◌==◌, Bool, true, false, not, cond, ◌&&◌, ◌||◌, List, [], ◌∷◌, length, get_or, Option, Some, None, option_map, refl, sym, ap, subst, arith, ◌∙◌}
use Rattle.std.specs.Prelude.{All, IfSome, nat_le, nat_lt, option_and_then}
use Rattle.std.specs.List.{list_any, slice_get}
use Rattle.std.specs.Str.{bytes_eq}
use Rattle.std.proofs.lemmas.Bool.{true≢false, and_parts, and_left, and_right, lt-leb, leb-true}
use Rattle.std.proofs.lemmas.List.Elements.{All-nil, All-cons, All-head, All-tail}
use Rattle.std.proofs.lemmas.List.Quantifiers.{position-Some}
use Rattle.sb_value.specs.declared.schema.Column.{Column}
use Rattle.sb_value.specs.declared.schema.Kind.TheVariants as kind
use Rattle.sb_value.specs.declared.value.Value.{Value}
use Rattle.sb_value.specs.declared.value.Value.TheVariants.{Int, Text}
use Rattle.sb_value.specs.Fits.{is_of_kind, first_misfit, is_within, is_short_enough}
use Rattle.sb_value.specs.Spelling.{IsStorable}
use Rattle.sb_value.proofs.FitsLemmas.{misfit_parts}
use Rattle.sb_codec.specs.Tuples.{tuple_spelling}
use Rattle.sb_pred.specs.declared.predicate.Term.TheVariants.{Const}
use Rattle.sb_pred.specs.declared.predicate.Term.{Term}
use Rattle.sb_pred.specs.Columns.{place_of, column_kind}
use Rattle.sb_rule.specs.declared.action.Action.{Action}
use Rattle.sb_rule.specs.declared.action.Action.TheVariants as action
use Rattle.sb_relation.specs.Db.{Name, Key, Row, Rows, Relation, relation_at, rows_at, row_at, schema_at, tree}
use Rattle.sb_relation.specs.Lawful.{is_long_code, is_long_for, is_too_long}
use Rattle.sb_fold.specs.declared.refusal.Refusal.TheVariants.{TooLong}
use Rattle.sb_fold.specs.Extensions.{Extensions}
use Rattle.sb_fold.specs.Fold as fold
use Rattle.sb_fold.specs.Outcome.{Going, Outcome, Gives, Stopped, NoStep, Work, made, continue, refuse_if, change_to, ◌>>=◌}
use Rattle.sb_fold.specs.Wishes.{Wish, Put, Replace, Adds, Turns, found, is_long_edit, is_match, change_of, with_value}
use Rattle.sb_cascade.proofs.FittingRows.{schema-there}
use Rattle.sb_plain.specs.Lawful.{IsRowOf, IsLawfulRelation, IsLawful}
use Rattle.sb_plain.proofs.SoundLemmas.{all_at}
use Rattle.sb_said.specs.Written.{IsWrittenValue, IsLimited}

-- ---- texts and their columns
value_short : (c : Column) (v : Value) → IsLimited c → is_within c v ≡ true → IsWrittenValue v → IsStorable v
value_short c (Int n) limited within written = written
value_short c (Text s) limited within written = (written, omega (arith, leb-true (length s) c.limit within, limited))

-- where each text is within its limit, all values can be stored
pub row_short : (schema : List Column) (row : Row) → All IsLimited schema → first_misfit schema row ≡ None → is_short_enough schema row ≡ true → All IsWrittenValue row → All IsStorable row
row_short [] [] limited fits short written = All-nil IsStorable
row_short [] (v ∷ row) limited fits short written = absurd (cc)
row_short (c ∷ cs) [] limited fits short written = absurd (cc)
row_short (c ∷ cs) (v ∷ row) limited fits short written =
    let parts = and_parts (is_within c v) (is_short_enough cs row) short in
    All-cons IsStorable v row (value_short c v (All-head IsLimited c cs limited) parts.0 (All-head IsWrittenValue v row written))
    (row_short cs row (All-tail IsLimited c cs limited) (misfit_parts (is_of_kind c.kind v) (first_misfit cs row) fits).1 parts.1 (All-tail IsWrittenValue v row written))

-- a column that a text of more than 255 bytes is put into makes the row too long
long_at : (schema : List Column) (column : Name) (t : List ℕ) (row : Row) (i : ℕ) (d : Column) → All IsLimited schema → i < length schema → bytes_eq (get_or schema i d).name column ≡ true → first_misfit schema row ≡ None
    → 255 < length t → is_short_enough schema (with_value schema column (Text t) row) ≡ false
long_at [] column t row i d limited below is fits long = absurd (omega (arith, below))
long_at (c ∷ cs) column t [] i d limited below is fits long = absurd (cc)
long_at (c ∷ cs) column t (w ∷ row) i d limited below is fits long =
    of_test (bytes_eq c.name column) refl
    (λ j less same. long_at cs column t row j d (All-tail IsLimited c cs limited) less same (misfit_parts (is_of_kind c.kind w) (first_misfit cs row) fits).1 long)
  where
    behind : (j : ℕ) → j < length (c ∷ cs) → bytes_eq (get_or (c ∷ cs) j d).name column ≡ true → bytes_eq c.name column ≡ false
        → ((k : ℕ) → k < length cs → bytes_eq (get_or cs k d).name column ≡ true → is_short_enough cs (with_value cs column (Text t) row) ≡ false) → is_short_enough cs (with_value cs column (Text t) row) ≡ false
    behind zero less same other rest = absurd (true≢false (sym same ∙ other))
    behind (suc j) less same other rest = rest j (omega (arith, less)) same

    of_test : (b : Bool) → bytes_eq c.name column ≡ b
        → ((k : ℕ) → k < length cs → bytes_eq (get_or cs k d).name column ≡ true → is_short_enough cs (with_value cs column (Text t) row) ≡ false)
        → is_short_enough (c ∷ cs) (cond b (Text t ∷ row) (w ∷ with_value cs column (Text t) row)) ≡ false
    of_test true e rest = and_left (nat_le (length t) c.limit) (is_short_enough cs row) (lt-leb (length t) c.limit (omega (arith, All-head IsLimited c cs limited, long)))
    of_test false e rest = and_right (is_within c w) (is_short_enough cs (with_value cs column (Text t) row)) (behind i below is e rest)

some_column : Column
some_column = record { name = []; kind = kind.Int; limit = 0 }

pub value_long : (schema : List Column) (column : Name) (t : List ℕ) (row : Row) → All IsLimited schema → column_kind schema column ≡ Some kind.Text → first_misfit schema row ≡ None → 255 < length t
    → is_short_enough schema (with_value schema column (Text t) row) ≡ false
value_long schema column t row limited kinds fits long = of_place (place_of schema column) refl kinds
  where
    of_place : (place : Option ℕ) → place_of schema column ≡ place → option_map (λ c. c.kind) (option_and_then (λ i. slice_get schema i) place) ≡ Some kind.Text
        → is_short_enough schema (with_value schema column (Text t) row) ≡ false
    of_place None at is = absurd (cc)
    of_place (Some i) at is =
        let there = position-Some (λ (c : Column). bytes_eq c.name column) schema i some_column at in
        long_at schema column t row i some_column limited there.0 there.1 fits long

-- a relation refuses such a row
too_long : (r : Relation) (row : Row) → is_short_enough r.schema row ≡ false → is_too_long r row ≡ true
too_long r row e =
    ap (λ (b : Bool). ((not b || nat_lt 1000 (length (tuple_spelling row))) || (r.method == tree && is_long_code r.schema r.key row)) || list_any (λ a. is_long_for r.schema row a.rule) r.attachments) e

-- ---- work that comes to nothing
abbrev pub Halts : {A : Type 0} → Outcome A → Type 0
Halts (Gives x g) = ⊥
Halts (Stopped r trail) = Unit {0}
Halts (NoStep trail) = Unit {0}

pub next_halts : {A B : Type 0} (o : Outcome A) (next : A → Work B) → Halts o → Halts (continue next o)
next_halts (Gives x g) next halts = absurd halts
next_halts (Stopped r trail) next halts = halts
next_halts (NoStep trail) next halts = halts

module _ (ext : Extensions) (levels : ℕ) (name : Name) (row : Row) (g : Going) where
  pub put_halts : is_short_enough (schema_at g.db name) row ≡ false → Halts (fold.change_within ext levels name (Put row) g)
  put_halts long = of_level levels
    where
      of_relation : (below : ℕ) (o : Option Relation) → relation_at g.db name ≡ o → Halts (fold.one_change ext (fold.change_within ext below) name (Put row) o g)
      of_relation below None there = tt
      of_relation below (Some r) there =
          of_long (is_too_long r row) (too_long r row (subst (λ (s : List Column). is_short_enough s row ≡ false) (schema-there g.db name r there) long))
        where
          of_long : (b : Bool) → b ≡ true
              → Halts (continue (λ c. (change_to (fold.reach_change ext name r c) >>= λ _. fold.answer_change ext (fold.change_within ext below) name c)) (continue (λ _. change_of name r (Adds row)) (refuse_if b (TooLong name) g)))
          of_long true e = tt
          of_long false e = absurd (cc)

      of_level : (n : ℕ) → Halts (fold.change_within ext n name (Put row) g)
      of_level zero = tt
      of_level (suc below) = of_relation below (relation_at g.db name) refl

  pub replace_halts : (key : Key) → is_short_enough (schema_at g.db name) row ≡ false → Halts (fold.change_within ext levels name (Replace key row) g)
  replace_halts key long = of_level levels
    where
      of_row : (below : ℕ) (r : Relation) → relation_at g.db name ≡ Some r → (old : Option Row)
          → Halts (continue (λ c. (change_to (fold.reach_change ext name r c) >>= λ _. fold.answer_change ext (fold.change_within ext below) name c))
          (((found name old >>= λ w. made (Turns key w row)) >>= λ edit. (refuse_if (is_long_edit r edit) (TooLong name) >>= λ _. change_of name r edit)) g))
      of_row below r there None = tt
      of_row below r there (Some w) =
          of_long (is_too_long r row) (too_long r row (subst (λ (s : List Column). is_short_enough s row ≡ false) (schema-there g.db name r there) long))
        where
          of_long : (b : Bool) → b ≡ true
              → Halts (continue (λ c. (change_to (fold.reach_change ext name r c) >>= λ _. fold.answer_change ext (fold.change_within ext below) name c)) (continue (λ _. change_of name r (Turns key w row)) (refuse_if b (TooLong name) g)))
          of_long true e = tt
          of_long false e = absurd (cc)

      of_relation : (below : ℕ) (o : Option Relation) → relation_at g.db name ≡ o → Halts (fold.one_change ext (fold.change_within ext below) name (Replace key row) o g)
      of_relation below None there = tt
      of_relation below (Some r) there = of_row below r there (row_at r.rows key)

      of_level : (n : ℕ) → Halts (fold.change_within ext n name (Replace key row) g)
      of_level zero = tt
      of_level (suc below) = of_relation below (relation_at g.db name) refl

-- ---- a column of the rows that match is set to such a text
-- it comes to nothing, or, where no row matches, changes nothing
abbrev pub Stays : {A : Type 0} → Going → Outcome A → Type 0
Stays g (Gives x h) = h ≡ g
Stays g (Stopped r trail) = Unit {0}
Stays g (NoStep trail) = Unit {0}

halted_stays : {A : Type 0} (g : Going) (o : Outcome A) → Halts o → Stays g o
halted_stays g (Gives x h) halts = absurd halts
halted_stays g (Stopped r trail) halts = tt
halted_stays g (NoStep trail) halts = tt

then_stays : {A B : Type 0} (g : Going) (o : Outcome A) (f : A → B) → Stays g o → Stays g (continue (λ x. made (f x)) o)
then_stays g (Gives x h) f stays = stays
then_stays g (Stopped r trail) f stays = tt
then_stays g (NoStep trail) f stays = tt

module _ (ext : Extensions) (levels : ℕ) (relation column : Name) (t : List ℕ) (pairs : List (Name × Term)) (g : Going) (lawful : IsLawful ext g.db) (limited : All IsLimited (schema_at g.db relation))
    (kinds : column_kind (schema_at g.db relation) column ≡ Some kind.Text) (long : 255 < length t) where
  abbrev sets : Action
  sets = action.Set relation column (Const (Text t)) pairs

  abbrev changes : fold.Changes
  changes = fold.change_within ext levels

  abbrev schema : List Column
  schema = schema_at g.db relation

  abbrev NoChange : Option Wish → Type 0
  NoChange wish = IfSome wish (λ w. Halts (changes relation w g))

  wish_halts : (key : Key) → NoChange (fold.wish_for schema sets key (row_at (rows_at g.db relation) key))
  wish_halts key = of_relation (relation_at g.db relation) refl
    where
      of_match : (row : Row) → first_misfit schema row ≡ None → (b : Bool) → NoChange (cond b (Some (Replace key (with_value schema column (Text t) row))) None)
      of_match row fits true = replace_halts ext levels relation (with_value schema column (Text t) row) g key (value_long schema column t row limited kinds fits long)
      of_match row fits false = tt

      of_row : (r : Relation) → relation_at g.db relation ≡ Some r → (o : Option Row) → row_at r.rows key ≡ o → NoChange (fold.wish_for schema sets key o)
      of_row r there None is = tt
      of_row r there (Some row) is =
          of_match row
          (subst (λ (s : List Column). first_misfit s row ≡ None) (sym (schema-there g.db relation r there))
          ((all_at (IsRowOf r) r.rows key row ((all_at (IsLawfulRelation ext g.db) g.db relation r lawful.relations there).rows) is).stored.fits)) (is_match schema pairs row)

      of_relation : (o : Option Relation) → relation_at g.db relation ≡ o → NoChange (fold.wish_for schema sets key (row_at (elim o as (λ _. Rows) [ None ↦ [] | Some r ↦ r.rows ]) key))
      of_relation None there = tt
      of_relation (Some r) there = of_row r there (row_at r.rows key) refl

  each_stays : (keys : List Key) → Stays g (fold.change_each changes sets keys g)
  each_stays [] = refl
  each_stays (key ∷ keys) = of_wish (fold.wish_for schema sets key (row_at (rows_at g.db relation) key)) (wish_halts key) (each_stays keys)
    where
      of_wish : (wish : Option Wish) → NoChange wish → Stays g (fold.change_each changes sets keys g)
          → Stays g (continue (λ one. (fold.change_each changes sets keys >>= λ others. made (one + others))) (fold.change_if changes relation wish g))
      of_wish None halts rest = then_stays g (fold.change_each changes sets keys g) (λ others. 0 + others) rest
      of_wish (Some wish) halts rest =
          halted_stays g _
          (next_halts (fold.change_if changes relation (Some wish) g) (λ one. (fold.change_each changes sets keys >>= λ others. made (one + others)))
          (next_halts (changes relation wish g) (λ _. made 1) halts))

  pub set_stays : Stays g (fold.act changes sets g)
  set_stays = each_stays (fold.matching g.db sets)
