-- What tells of a rule, when the database and the queue go on.
use Rattle.std.proofs.Common.{◌≡◌, Bool, true, false, not, ◌&&◌, ◌||◌, List, [], ◌∷◌, Option, Some, None, refl, ap, ◌∙◌, inl, inr, get_or}
use Rattle.std.specs.Prelude.{All}
use Rattle.std.specs.List.{list_any, list_all}
use Rattle.std.proofs.lemmas.Bool.{and_parts, and_from, or_cases, or_left, or_right, not-false}
use Rattle.std.proofs.lemmas.List.Sums.{AllPass-from_list_all, list_all-from_AllPass}
use Rattle.sb_value.specs.declared.value.Value.{Value}
use Rattle.sb_value.specs.declared.schema.Column.{Column}
use Rattle.sb_value.specs.Equal.{bytes_same}
use Rattle.sb_codec.specs.Tuples.{tuple_spelling}
use Rattle.sb_pred.specs.Truth.{truth}
use Rattle.sb_rule.specs.declared.rule.Side.TheVariants.{Main}
use Rattle.sb_rule.specs.declared.rule.Rule.{Rule}
use Rattle.sb_rule.specs.declared.rule.Rule.TheVariants.{Check, Refers}
use Rattle.sb_relation.specs.Build.{mirror_name, mirror_of}
use Rattle.sb_relation.specs.Db.{Name, Key, Row, Attached, Db, rows_at, schema_at, values_in}
use Rattle.sb_relation.specs.Foreign.{AttachRules}
use Rattle.sb_relation.specs.Rules.{has_values, has_row_with, values_at, holds, spells, is_orphaned}
use Rattle.sb_fold.specs.Extensions.{Extensions, box_of}
use Rattle.sb_fold.specs.Finish.{is_tested_late, fails_late}
use Rattle.sb_fold.specs.Outcome.{Queue}
use Rattle.sb_deferred.specs.Complete.{is_waiting, IsWaiting, is_either_waiting, tells_of, TellsOf}
use Rattle.sb_deferred.specs.CompleteLaws.{NoneFails, NoneFailsOf}
use Rattle.sb_deferred.proofs.RowLemmas.{none_passes}
use Rattle.sb_deferred.proofs.WaitingLemmas.{KeepsWaiting, either_still}

-- ---- tests on lists
pub all_weaker : {A : Type 0} (test other : A → Bool) → ((x : A) → test x ≡ true → other x ≡ true) → (xs : List A) → list_all test xs ≡ true → list_all other xs ≡ true
all_weaker test other weaker [] all = refl
all_weaker test other weaker (x ∷ xs) all =
    let parts = and_parts (test x) (list_all test xs) all in and_from (other x) (list_all other xs) (weaker x parts.0) (all_weaker test other weaker xs parts.1)

unless : (a b : Bool) → a ≡ true → (a && not b) ≡ false → b ≡ true
unless true b is none = not-false b none
unless false b is none = absurd (cc)

-- ---- from one database and queue to others
-- the rows of a relation pass a test that they passed, where the new ones do
pub record GoesOn (db after : Db) (relation : Name) (IsNew : Row → Type 0) : Type 0 where
  pub schema : schema_at after relation ≡ schema_at db relation
  pub rows : (test : Row → Bool) → list_all (λ e. test e.1) (rows_at db relation) ≡ true → ((new : Row) → IsNew new → test new ≡ true)
      → list_all (λ e. test e.1) (rows_at after relation) ≡ true

-- the entry of a new row waits
abbrev pub NewWaits : Db → Queue → Name → Name → Rule → Row → Type 0
NewWaits after later relation name (Check pred true) new = IsWaiting later relation name (tuple_spelling new)
NewWaits after later relation name (Refers Main columns other others mode true) new = IsWaiting later relation name (tuple_spelling (values_at after relation columns new))
NewWaits after later relation name _ new = Unit {0}

-- a row that had a parent has one still, or the entry waits
abbrev pub ParentsStay : Db → Db → Queue → Name → Name → Rule → Type 0
ParentsStay db after later relation name (Refers Main columns other others mode true) =
    (values : List Value) → has_row_with db other others values ≡ true → (has_row_with after other others values || is_either_waiting later relation name other (tuple_spelling values)) ≡ true
ParentsStay db after later relation name _ = Unit {0}

pub tells_on : (db after : Db) (q later : Queue) (relation name : Name) (rule : Rule) (IsNew : Row → Type 0) → GoesOn db after relation IsNew → KeepsWaiting q later
    → ((new : Row) → IsNew new → NewWaits after later relation name rule new) → ParentsStay db after later relation name rule → tells_of db q relation name rule ≡ true → tells_of after later relation name rule ≡ true
tells_on db after q later relation name (Check pred true) IsNew goes keeps waits stay tells =
    goes.rows (λ row. truth (schema_at after relation) None (Some row) pred || is_waiting later relation name (tuple_spelling row))
    (all_weaker (λ (e : Key × Row). truth (schema_at db relation) None (Some e.1) pred || is_waiting q relation name (tuple_spelling e.1))
    (λ (e : Key × Row). truth (schema_at after relation) None (Some e.1) pred || is_waiting later relation name (tuple_spelling e.1)) one (rows_at db relation) tells)
    (λ new is. or_right (truth (schema_at after relation) None (Some new) pred) _ (waits new is))
  where
    one : (e : Key × Row) → (truth (schema_at db relation) None (Some e.1) pred || is_waiting q relation name (tuple_spelling e.1)) ≡ true
        → (truth (schema_at after relation) None (Some e.1) pred || is_waiting later relation name (tuple_spelling e.1)) ≡ true
    one e told = elim (or_cases (truth (schema_at db relation) None (Some e.1) pred) (is_waiting q relation name (tuple_spelling e.1)) told) [
      | inl true' ↦ or_left (truth (schema_at after relation) None (Some e.1) pred) _ (ap (λ (schema : List Column). truth schema None (Some e.1) pred) goes.schema ∙ true')
      | inr waiting ↦ or_right (truth (schema_at after relation) None (Some e.1) pred) _ (keeps relation name (tuple_spelling e.1) waiting)
    ]
tells_on db after q later relation name (Refers Main columns other others mode true) IsNew goes keeps waits stay tells =
    goes.rows (λ row. told_after (values_at after relation columns row))
    (all_weaker (λ (e : Key × Row). told_before (values_at db relation columns e.1)) (λ (e : Key × Row). told_after (values_at after relation columns e.1)) one (rows_at db relation) tells)
    (λ new is. or_right (has_row_with after other others (values_at after relation columns new)) _ (or_left (is_waiting later relation name (tuple_spelling (values_at after relation columns new))) _ (waits new is)))
  where
    told_before : List Value → Bool
    told_before values = has_row_with db other others values || is_either_waiting q relation name other (tuple_spelling values)

    told_after : List Value → Bool
    told_after values = has_row_with after other others values || is_either_waiting later relation name other (tuple_spelling values)

    of_values : (values : List Value) → told_before values ≡ true → told_after values ≡ true
    of_values values told = elim (or_cases (has_row_with db other others values) (is_either_waiting q relation name other (tuple_spelling values)) told) [
      | inl parent ↦ stay values parent
      | inr waiting ↦ or_right (has_row_with after other others values) _ (either_still q later keeps relation name other (tuple_spelling values) waiting)
    ]

    one : (e : Key × Row) → told_before (values_at db relation columns e.1) ≡ true → told_after (values_at after relation columns e.1) ≡ true
    one e told = ap (λ (schema : List Column). told_after (values_in schema e.1 columns)) goes.schema ∙ of_values (values_at db relation columns e.1) told
tells_on db after q later relation name _ IsNew goes keeps waits stay tells = refl

-- ---- the same rows
pub record SameAt (db after : Db) (relation : Name) : Type 0 where
  pub rows : rows_at after relation ≡ rows_at db relation
  pub schema : schema_at after relation ≡ schema_at db relation

abbrev pub NoneNew : Row → Type 0
NoneNew row = ⊥

pub same_goes_on : (db after : Db) (relation : Name) → SameAt db after relation → GoesOn db after relation NoneNew
same_goes_on db after relation same = record { schema = same.schema; rows = λ test all new. ap (list_all (λ (e : Key × Row). test e.1)) same.rows ∙ all }

pub same_parents : (db after : Db) (other : Name) (others : List Name) (values : List Value) → SameAt db after other → has_row_with after other others values ≡ has_row_with db other others values
same_parents db after other others values same = λ i. list_any (λ (e : Key × Row). has_values (same.schema i) others values e.1) (same.rows i)

pub parents_same : (db after : Db) (later : Queue) (relation name : Name) (rule : Rule) → ((n : Name) → SameAt db after n) → ParentsStay db after later relation name rule
parents_same db after later relation name (Refers Main columns other others mode true) same =
    λ values parent. or_left (has_row_with after other others values) _ (same_parents db after other others values (same other) ∙ parent)
parents_same db after later relation name _ same = tt

pub tells_same : (db after : Db) (q later : Queue) (relation name : Name) (rule : Rule) → ((n : Name) → SameAt db after n) → KeepsWaiting q later → tells_of db q relation name rule ≡ true
    → tells_of after later relation name rule ≡ true
tells_same db after q later relation name rule same keeps tells =
    tells_on db after q later relation name rule NoneNew (same_goes_on db after relation (same relation)) keeps (λ new is. absurd is) (parents_same db after later relation name rule same) tells

-- ---- rules that hold
-- of a rule that holds nothing has to wait
pub tells_holding : (box : Option AttachRules) (db : Db) (q : Queue) (relation name : Name) (rule : Rule) → holds box db relation rule ≡ true → tells_of db q relation name rule ≡ true
tells_holding box db q relation name (Check pred true) held =
    all_weaker (λ (e : Key × Row). truth (schema_at db relation) None (Some e.1) pred) (λ (e : Key × Row). truth (schema_at db relation) None (Some e.1) pred || is_waiting q relation name (tuple_spelling e.1))
    (λ e is. or_left (truth (schema_at db relation) None (Some e.1) pred) _ is) (rows_at db relation) held
tells_holding box db q relation name (Refers Main columns other others mode true) held =
    all_weaker (λ (e : Key × Row). has_row_with db other others (values_at db relation columns e.1))
    (λ (e : Key × Row). has_row_with db other others (values_at db relation columns e.1) || is_either_waiting q relation name other (tuple_spelling (values_at db relation columns e.1)))
    (λ e is. or_left (has_row_with db other others (values_at db relation columns e.1)) _ is) (rows_at db relation) held
tells_holding box db q relation name _ held = refl

-- of a rule that isn't found to fail
pub tells_passing : (ext : Extensions) (db : Db) (q : Queue) (relation : Name) (a : Attached) → fails_late ext db relation a ≡ false → TellsOf db q relation a
tells_passing ext db q relation a passes = by a.rule passes
  where
    by : (rule : Rule) → (is_tested_late rule && not (holds (box_of ext rule) db relation rule)) ≡ false → tells_of db q relation a.name rule ≡ true
    by (Check pred true) is = tells_holding (box_of ext (Check pred true)) db q relation a.name (Check pred true) (not-false (holds (box_of ext (Check pred true)) db relation (Check pred true)) is)
    by (Refers Main columns other others mode true) is =
        let rule : Rule = Refers Main columns other others mode true in tells_holding (box_of ext rule) db q relation a.name rule (not-false (holds (box_of ext rule) db relation rule) is)
    by _ is = refl

-- ---- where no entry fails
-- a row that has a parent, or whose entry doesn't fail
not_orphaned : (db : Db) (relation : Name) (columns : List Name) (other : Name) (others : List Name) → All (λ e. is_orphaned db relation columns other others (tuple_spelling (values_at db relation columns e.1)) ≡ false
    → has_row_with db other others (values_at db relation columns e.1) ≡ true) (rows_at db relation)
not_orphaned db relation columns other others = λ k d below none.
    let values : List Value = values_at db relation columns (get_or (rows_at db relation) k d).1 in
    unless (spells (tuple_spelling values) values) (has_row_with db other others values) ((bytes_same (tuple_spelling values) (tuple_spelling values)).1 refl)
    (none_passes (λ (e : Key × Row). spells (tuple_spelling values) (values_at db relation columns e.1) && not (has_row_with db other others (values_at db relation columns e.1))) (rows_at db relation) none k d below)

pub holds_told : (box : Option AttachRules) (db : Db) (q : Queue) (relation name : Name) (rule : Rule) → tells_of db q relation name rule ≡ true → is_tested_late rule ≡ true → NoneFails db q relation name rule
    → NoneFailsOf db q (mirror_name relation name) (mirror_of relation rule) → holds box db relation rule ≡ true
holds_told box db q relation name (Check pred true) tells late none mirrored =
    list_all-from_AllPass (λ (e : Key × Row). truth (schema_at db relation) None (Some e.1) pred) (rows_at db relation) (λ k d below.
    let row : Row = (get_or (rows_at db relation) k d).1 in
    let told = AllPass-from_list_all (λ (e : Key × Row). truth (schema_at db relation) None (Some e.1) pred || is_waiting q relation name (tuple_spelling e.1)) (rows_at db relation) tells k d below in
    elim (or_cases (truth (schema_at db relation) None (Some row) pred) (is_waiting q relation name (tuple_spelling row)) told) [
      | inl true' ↦ true'
      | inr waiting ↦ unless (spells (tuple_spelling row) row) (truth (schema_at db relation) None (Some row) pred) ((bytes_same (tuple_spelling row) (tuple_spelling row)).1 refl)
          (none_passes (λ (e : Key × Row). spells (tuple_spelling row) e.1 && not (truth (schema_at db relation) None (Some e.1) pred)) (rows_at db relation) (none (tuple_spelling row) waiting) k d below)
    ])
holds_told box db q relation name (Refers Main columns other others mode true) tells late none mirrored =
    list_all-from_AllPass (λ (e : Key × Row). has_row_with db other others (values_at db relation columns e.1)) (rows_at db relation) (λ k d below.
    let values : List Value = values_at db relation columns (get_or (rows_at db relation) k d).1 in
    let told = AllPass-from_list_all (λ (e : Key × Row). has_row_with db other others (values_at db relation columns e.1)
    || is_either_waiting q relation name other (tuple_spelling (values_at db relation columns e.1))) (rows_at db relation) tells k d below in
    elim (or_cases (has_row_with db other others values) (is_either_waiting q relation name other (tuple_spelling values)) told) [
      | inl parent ↦ parent
      | inr waiting ↦ elim (or_cases (is_waiting q relation name (tuple_spelling values)) (is_waiting q other (mirror_name relation name) (tuple_spelling values)) waiting) [
        | inl own ↦ not_orphaned db relation columns other others k d below (none (tuple_spelling values) own)
        | inr there ↦ not_orphaned db relation columns other others k d below (mirrored (tuple_spelling values) there)
      ]
    ])
holds_told box db q relation name _ tells late none mirrored = absurd (cc)
