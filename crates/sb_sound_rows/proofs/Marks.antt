-- Which rules hold, but for references of rows that are to go.
use Rattle.std.proofs.Common.{◌≡◌, ℕ, Bool, true, false, not, ◌&&◌, ◌||◌, T, List, Option, Some, None, refl, sym, ap, subst, ◌∙◌, get_or}
use Rattle.std.specs.Prelude.{All}
use Rattle.std.specs.List.{list_any, list_all}
use Rattle.std.specs.Str.{bytes_eq}
use Rattle.std.specs.FinMap.Entries.{is_sorted}
use Rattle.std.proofs.lemmas.Bool.{or_left}
use Rattle.std.proofs.lemmas.List.Elements.{All-nil, All-weaker}
use Rattle.std.proofs.lemmas.Option.{same_Some}
use Rattle.sb_value.specs.declared.schema.Column.{Column}
use Rattle.sb_value.specs.Fits.{Fits}
use Rattle.sb_value.specs.Order.{bytes_cmp}
use Rattle.sb_pred.specs.Truth.{truth}
use Rattle.sb_rule.specs.declared.action.Action.{Action}
use Rattle.sb_rule.specs.declared.action.Action.TheVariants as action
use Rattle.sb_rule.specs.declared.change.Change.{Change}
use Rattle.sb_rule.specs.declared.rule.Mode.{Mode}
use Rattle.sb_rule.specs.declared.rule.Side.TheVariants.{Main, Mirror}
use Rattle.sb_rule.specs.declared.rule.Rule.{Rule}
use Rattle.sb_rule.specs.declared.rule.Rule.TheVariants.{TreeIndex, HashIndex, JoinIndex, Stats, Check, Refers, Trigger, Foreign}
use Rattle.sb_relation.specs.Build.{main_of, mirror_name, mirror_of}
use Rattle.sb_relation.specs.Db.{Name, Key, Row, Attached, Relation, Db, relation_at, rows_at, schema_at, row_at}
use Rattle.sb_relation.specs.Fits.{kinds_at, are_one_kind}
use Rattle.sb_relation.specs.Rules.{has_row_with, is_unique, refers_to, values_at}
use Rattle.sb_relation.proofs.RuleLaws.{mirrors-mirror}
use Rattle.sb_relation.specs.Laws.{is_foreign}
use Rattle.sb_fold.specs.Building.{without_rule, HasMirror}
use Rattle.sb_fold.specs.Extensions.{Extensions}
use Rattle.sb_fold.specs.Fold.{attachments_at}
use Rattle.sb_fold.specs.Wishes.{Wish, is_match}
use Rattle.sb_plain.specs.Lawful.{MayBeAttached, IsMirrorOf, IsRowOf, IsLawfulRelation, IsLawful, IsSoundNow, is_deferred}
use Rattle.sb_plain.specs.Printing.{is_mirror}
use Rattle.sb_plain.proofs.SoundLemmas.{all_at, attached, HoldsAt}
use Rattle.sb_deferred.proofs.RelationLemmas.{rows_of, schema_of, attachments_of, rule_found}
use Rattle.sb_lawful.proofs.Places.{all_places, alike_schema}
use Rattle.sb_lawful.proofs.Sparing.{gone_rule, spared_rule, alike_spared}
use Rattle.sb_sound_rows.proofs.Rows.{goes, each_at, all_at_keys}
use Rattle.sb_sound_rows.proofs.Wished.{takes}

-- ---- marks
-- which rows are to go
abbrev pub Marks : Type 0
Marks = Name → Key → Row → Bool

abbrev pub unmarked : Marks
unmarked name key row = false

-- the row that a change takes away, too; and that which is wished away
abbrev pub with_gone : Marks → Name → Change → Marks
with_gone marks name c n key row = marks n key row || (bytes_eq n name && goes c key)

abbrev pub with_wish : Marks → Name → Wish → Marks
with_wish marks name wish n key row = marks n key row || (bytes_eq n name && takes wish key)

abbrev pub with_if : Marks → Name → Option Wish → Marks
with_if marks name None = marks
with_if marks name (Some wish) = with_wish marks name wish

-- the action deletes such rows; the first columns are those of the row's relation
abbrev pub covers : List Column → Action → Name → Row → Bool
covers schema (action.Delete relation pairs) n row = bytes_eq n relation && is_match schema pairs row
covers schema _ n row = false

-- the rows that an action deletes, too; those that one of these does; those of these keys
abbrev pub with_action : Db → Marks → Action → Marks
with_action db marks a n key row = marks n key row || covers (schema_at db n) a n row

abbrev pub with_actions : Db → Marks → List Action → Marks
with_actions db marks actions n key row = marks n key row || list_any (λ a. covers (schema_at db n) a n row) actions

abbrev pub with_keys : Db → Marks → Action → List Key → Marks
with_keys db marks a keys n key row = marks n key row || (covers (schema_at db n) a n row && list_any (bytes_eq key) keys)

-- ---- what holds
-- A reference holds of each row that isn't marked. Each other rule that isn't deferred holds; of a mirror nothing is asked, since it holds with its main instance.
abbrev pub HoldsBut : Marks → Db → Name → Rule → Type 0
HoldsBut marks db name (Refers Main columns other others mode false) =
    (key : Key) (row : Row) → row_at (rows_at db name) key ≡ Some row → (has_row_with db other others (values_at db name columns row) || marks name key row) ≡ true
HoldsBut marks db name (TreeIndex columns true) = is_unique (schema_at db name) columns (rows_at db name) ≡ true
HoldsBut marks db name (Check pred false) = list_all (λ row. truth (schema_at db name) None (Some row.1) pred) (rows_at db name) ≡ true
HoldsBut marks db name _ = Unit {0}

pub record IsSoundBut (marks : Marks) (db : Db) : Type 0 where
  pub each : (name : Name) → All (λ a. HoldsBut marks db name a.rule) (attachments_at db name)

-- ---- other marks
or_later : (a b c : Bool) → (b ≡ true → c ≡ true) → (a || b) ≡ true → (a || c) ≡ true
or_later true b c later e = refl
or_later false b c later e = later e

holds_weaker : (marks more : Marks) (db : Db) (name : Name) (rule : Rule) → ((key : Key) (row : Row) → row_at (rows_at db name) key ≡ Some row → marks name key row ≡ true → more name key row ≡ true)
    → HoldsBut marks db name rule → HoldsBut more db name rule
holds_weaker marks more db name (Refers Main columns other others mode false) still holds = λ key row there.
    or_later (has_row_with db other others (values_at db name columns row)) (marks name key row) (more name key row) (still key row there) (holds key row there)
holds_weaker marks more db name (TreeIndex columns true) still holds = holds
holds_weaker marks more db name (Check pred false) still holds = holds
holds_weaker marks more db name _ still holds = tt

-- more rows may be marked, of those that stand
pub with_more : (marks more : Marks) (db : Db) → ((name : Name) (key : Key) (row : Row) → row_at (rows_at db name) key ≡ Some row → marks name key row ≡ true → more name key row ≡ true)
    → IsSoundBut marks db → IsSoundBut more db
with_more marks more db still sound = record {
  each = λ name.
      All-weaker (λ (a : Attached). HoldsBut marks db name a.rule) (λ (a : Attached). HoldsBut more db name a.rule) (λ a holds. holds_weaker marks more db name a.rule (still name) holds)
      (attachments_at db name) (sound.each name);
}

-- ---- what a lawful database has at a name
pub rows_rise : (ext : Extensions) (db : Db) → IsLawful ext db → (name : Name) → T (is_sorted bytes_cmp (rows_at db name))
rows_rise ext db lawful name = by (relation_at db name) refl
  where
    by : (o : Option Relation) → relation_at db name ≡ o → T (is_sorted bytes_cmp (rows_of o))
    by None there = tt
    by (Some r) there = (all_at (IsLawfulRelation ext db) db name r lawful.relations there).rising

pub row_fits : (ext : Extensions) (db : Db) → IsLawful ext db → (name : Name) (key : Key) (row : Row) → row_at (rows_at db name) key ≡ Some row → Fits (schema_at db name) row
row_fits ext db lawful name key row stands = by (relation_at db name) refl stands
  where
    by : (o : Option Relation) → relation_at db name ≡ o → row_at (rows_of o) key ≡ Some row → Fits (schema_of o) row
    by None there is = absurd (cc)
    by (Some r) there is = (all_at (IsRowOf r) r.rows key row (all_at (IsLawfulRelation ext db) db name r lawful.relations there).rows is).stored.fits

-- its attachments could be attached, and have their mirrors
pub record IsPaired (ext : Extensions) (db : Db) (name : Name) (a : Attached) : Type 0 where
  pub may : MayBeAttached ext db name a
  pub mirror : HasMirror db (mirror_name name a.name) (mirror_of name a.rule)

pub all_paired : (ext : Extensions) (db : Db) → IsLawful ext db → (name : Name) → All (IsPaired ext db name) (attachments_at db name)
all_paired ext db lawful name = by (relation_at db name) refl
  where
    by : (o : Option Relation) → relation_at db name ≡ o → All (IsPaired ext db name) (attachments_of o)
    by None there = All-nil _
    by (Some r) there = let is : IsLawfulRelation ext db name r = all_at (IsLawfulRelation ext db) db name r lawful.relations there in λ k d below. record { may = is.attached k d below; mirror = is.mirrored k d below }

-- the columns of a reference and those of its parent have the same kinds
pub same_kinds : (ext : Extensions) (db : Db) (name label : Name) (buckets : ℕ) (columns : List Name) (other : Name) (others : List Name) (mode : Mode) (deferred : Bool)
    → MayBeAttached ext db name (attached label (Refers Main columns other others mode deferred) buckets) → are_one_kind (kinds_at (schema_at db name) columns) (kinds_at (schema_at db other) others) ≡ true
same_kinds ext db name label buckets columns other others mode deferred may =
    let a : Attached = attached label (Refers Main columns other others mode deferred) buckets in
    let without : Db = without_rule db name a in
    let same : (k : Name) → schema_at db k ≡ schema_at without k = λ k. alike_schema db without k (alike_spared (gone_rule name a) db without (spared_rule db name a) k) in
    (λ i. are_one_kind (kinds_at (same name i) columns) (kinds_at (same other i) others)) ∙ (may refl).fits

-- ---- where nothing is marked
abbrev IsMeant : Rule → Type 0
IsMeant rule = (not (is_foreign rule) && not (is_deferred rule)) ≡ true

rule_but : (ext : Extensions) (db : Db) (name : Name) (rule : Rule) → (IsMeant rule → HoldsAt ext db name rule) → HoldsBut unmarked db name rule
rule_but ext db name (Refers Main columns other others mode false) holds = λ key row there.
    or_left (has_row_with db other others (values_at db name columns row)) false
    (each_at (λ x. has_row_with db other others (values_at db name columns x)) (rows_at db name) key row (holds refl) there)
rule_but ext db name (TreeIndex columns true) holds = holds refl
rule_but ext db name (Check pred false) holds = holds refl
rule_but ext db name _ holds = tt

abbrev Held : Extensions → Db → Name → Relation → Type 0
Held ext db name r = All (λ a. IsMeant a.rule → HoldsAt ext db name a.rule) r.attachments

pub sound_but : (ext : Extensions) (db : Db) → IsSoundNow ext db → IsSoundBut unmarked db
sound_but ext db now = record { each = λ name. by name (relation_at db name) refl }
  where
    by : (name : Name) (o : Option Relation) → relation_at db name ≡ o → All (λ a. HoldsBut unmarked db name a.rule) (attachments_of o)
    by name None there = All-nil _
    by name (Some r) there =
        All-weaker (λ (a : Attached). IsMeant a.rule → HoldsAt ext db name a.rule) (λ (a : Attached). HoldsBut unmarked db name a.rule) (λ a holds. rule_but ext db name a.rule holds) r.attachments
        (all_at (Held ext db) db name r now there)

or_none : (a : Bool) → (a || false) ≡ true → a ≡ true
or_none true e = refl
or_none false e = e

module _ (ext : Extensions) (db : Db) (lawful : IsLawful ext db) (sound : IsSoundBut unmarked db) where
  refers_back : (child : Name) (columns : List Name) (parent : Name) (others : List Name) (mode : Mode) → HoldsBut unmarked db child (Refers Main columns parent others mode false)
      → refers_to db child columns parent others ≡ true
  refers_back child columns parent others mode holds =
      all_at_keys (λ row. has_row_with db parent others (values_at db child columns row)) (rows_at db child) (rows_rise ext db lawful child)
      (λ key row there. or_none (has_row_with db parent others (values_at db child columns row)) (holds key row there))

  rule_back : (name label : Name) (buckets : ℕ) (rule : Rule) → HoldsBut unmarked db name rule → (is_mirror rule ≡ true → IsMirrorOf db name (attached label rule buckets)) → IsMeant rule → HoldsAt ext db name rule
  rule_back name label buckets (TreeIndex columns false) holds mirror meant = refl
  rule_back name label buckets (TreeIndex columns true) holds mirror meant = holds
  rule_back name label buckets (HashIndex columns) holds mirror meant = refl
  rule_back name label buckets (JoinIndex side columns other others) holds mirror meant = refl
  rule_back name label buckets (Stats column low width) holds mirror meant = refl
  rule_back name label buckets (Check pred false) holds mirror meant = holds
  rule_back name label buckets (Check pred true) holds mirror meant = absurd (cc)
  rule_back name label buckets (Refers Main columns other others mode false) holds mirror meant = refers_back name columns other others mode holds
  rule_back name label buckets (Refers Main columns other others mode true) holds mirror meant = absurd (cc)
  rule_back name label buckets (Refers Mirror columns other others mode false) holds mirror meant =
      let is : IsMirrorOf db name (attached label (Refers Mirror columns other others mode false) buckets) = mirror refl in
      let tie : main_of name (Refers Mirror columns other others mode false) ≡ Some (is.other, is.main.rule) = mirrors-mirror is.other name is.main.rule (Refers Mirror columns other others mode false) is.mirror in
      let same : ◌≡◌ {A = Name × Rule} (other, Refers Main others name columns mode false) (is.other, is.main.rule) = same_Some _ _ tie in
      refers_back other others name columns mode
      (subst (λ (m : Name × Rule). HoldsBut unmarked db m.0 m.1) (sym same) (rule_found (λ (a : Attached). HoldsBut unmarked db is.other a.rule) db is.other is.main.name is.main (sound.each is.other) is.stands).0)
  rule_back name label buckets (Refers Mirror columns other others mode true) holds mirror meant = absurd (cc)
  rule_back name label buckets (Trigger on pred act deferred) holds mirror meant = refl
  rule_back name label buckets (Foreign code desc) holds mirror meant = absurd (cc)

  pub sound_back : IsSoundNow ext db
  sound_back =
      all_places (Held ext db) db lawful.rising
      (λ name r there.
      let is : IsLawfulRelation ext db name r = all_at (IsLawfulRelation ext db) db name r lawful.relations there in
      let holds : All (λ (a : Attached). HoldsBut unmarked db name a.rule) r.attachments = subst (All (λ (a : Attached). HoldsBut unmarked db name a.rule)) (ap attachments_of there) (sound.each name) in
      λ k d below.
      let a : Attached = get_or r.attachments k d in
      rule_back name a.name a.buckets a.rule (holds k d below) (is.mirrors k d below))
