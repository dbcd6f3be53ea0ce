-- Which rules hold where the same rows stand, and that mirrors hold with their main instances.
use Rattle.std.proofs.Common.{◌≡◌, ℕ, Bool, true, false, not, ◌&&◌, ◌||◌, List, [], Option, Some, None, refl, sym, ap, subst, ◌∙◌, get_or}
use Rattle.std.specs.Prelude.{All}
use Rattle.std.specs.List.{list_any, list_all}
use Rattle.std.proofs.lemmas.List.Elements.{All-nil}
use Rattle.std.proofs.lemmas.Option.{same_Some}
use Rattle.sb_value.specs.declared.value.Value.{Value}
use Rattle.sb_pred.specs.Truth.{truth}
use Rattle.sb_rule.specs.declared.rule.Mode.{Mode}
use Rattle.sb_rule.specs.declared.rule.Side.TheVariants.{Main, Mirror}
use Rattle.sb_rule.specs.declared.rule.Rule.{Rule}
use Rattle.sb_rule.specs.declared.rule.Rule.TheVariants.{TreeIndex, HashIndex, JoinIndex, Stats, Check, Refers, Trigger, Foreign}
use Rattle.sb_relation.specs.Build.{main_of}
use Rattle.sb_relation.specs.Db.{Name, Key, Row, Attached, Relation, Db, relation_at, rows_at, schema_at, values_in}
use Rattle.sb_relation.specs.Rules.{has_values, has_row_with, is_unique}
use Rattle.sb_relation.proofs.RuleLaws.{mirrors-mirror}
use Rattle.sb_relation.specs.Laws.{is_foreign}
use Rattle.sb_fold.specs.Extensions.{Extensions}
use Rattle.sb_fold.specs.Fold.{attachments_at}
use Rattle.sb_plain.specs.Lawful.{IsMirrorOf, IsLawfulRelation, IsLawful, AllHold, is_deferred}
use Rattle.sb_plain.specs.Printing.{is_mirror}
use Rattle.sb_plain.proofs.SoundLemmas.{all_at, attached, HoldsAt}
use Rattle.sb_deferred.proofs.RelationLemmas.{attachments_of, rule_found}
use Rattle.sb_lawful.proofs.Places.{all_places}

-- ---- some rules with codes of ours
-- those that are meant are of no other code; with a mirror its main instance is meant
pub record IsOfOurs (meant : Rule → Bool) : Type 0 where
  pub ours : (code : ℕ) (desc : List ℕ) → meant (Foreign code desc) ≡ false
  pub mirrors : (columns others : List Name) (other name : Name) (mode : Mode) (deferred : Bool) → meant (Refers Mirror columns other others mode deferred) ≡ true
      → meant (Refers Main others name columns mode deferred) ≡ true

pub all_ours : IsOfOurs (λ rule. not (is_foreign rule))
all_ours = record { ours = λ code desc. refl; mirrors = λ columns others other name mode deferred e. e }

pub ours_now : IsOfOurs (λ rule. not (is_foreign rule) && not (is_deferred rule))
ours_now = record { ours = λ code desc. refl; mirrors = λ columns others other name mode deferred e. e }

-- ---- rules that hold, but for mirrors
abbrev pub HoldsMain : Extensions → (Rule → Bool) → Db → Name → Rule → Type 0
HoldsMain ext meant db name rule = meant rule ≡ true → is_mirror rule ≡ false → HoldsAt ext db name rule

pub record HoldMains (ext : Extensions) (meant : Rule → Bool) (db : Db) : Type 0 where
  pub each : (name : Name) → All (λ a. HoldsMain ext meant db name a.rule) (attachments_at db name)

abbrev Held : Extensions → (Rule → Bool) → Db → Name → Relation → Type 0
Held ext meant db name r = All (λ a. meant a.rule ≡ true → HoldsAt ext db name a.rule) r.attachments

pub mains_of : (ext : Extensions) (meant : Rule → Bool) (db : Db) → AllHold ext meant db → HoldMains ext meant db
mains_of ext meant db all = record { each = λ name. by name (relation_at db name) refl }
  where
    by : (name : Name) (o : Option Relation) → relation_at db name ≡ o → All (λ a. HoldsMain ext meant db name a.rule) (attachments_of o)
    by name None there = All-nil _
    by name (Some r) there = λ k d below is main. all_at (Held ext meant db) db name r all there k d below is

pub mains_empty : (ext : Extensions) (meant : Rule → Bool) → HoldMains ext meant []
mains_empty ext meant = record { each = λ name. All-nil _ }

module _ (ext : Extensions) (meant : Rule → Bool) (of : IsOfOurs meant) (db : Db) (lawful : IsLawful ext db) (holds : HoldMains ext meant db) where
  rule_holds : (name label : Name) (buckets : ℕ) (rule : Rule) → HoldsMain ext meant db name rule → (is_mirror rule ≡ true → IsMirrorOf db name (attached label rule buckets)) → meant rule ≡ true → HoldsAt ext db name rule
  rule_holds name label buckets (Refers Mirror columns other others mode deferred) main mirror is =
      let it : IsMirrorOf db name (attached label (Refers Mirror columns other others mode deferred) buckets) = mirror refl in
      let tie : main_of name (Refers Mirror columns other others mode deferred) ≡ Some (it.other, it.main.rule) = mirrors-mirror it.other name it.main.rule (Refers Mirror columns other others mode deferred) it.mirror in
      let same : ◌≡◌ {A = Name × Rule} (other, Refers Main others name columns mode deferred) (it.other, it.main.rule) = same_Some _ _ tie in
      subst (λ (m : Name × Rule). HoldsMain ext meant db m.0 m.1) (sym same) (rule_found (λ (a : Attached). HoldsMain ext meant db it.other a.rule) db it.other it.main.name it.main (holds.each it.other) it.stands).0
      (of.mirrors columns others other name mode deferred is) refl
  rule_holds name label buckets (JoinIndex Mirror columns other others) main mirror is = refl
  rule_holds name label buckets _ main mirror is = main is refl

  pub all_of : AllHold ext meant db
  all_of =
      all_places (Held ext meant db) db lawful.rising
      (λ name r there.
      let is : IsLawfulRelation ext db name r = all_at (IsLawfulRelation ext db) db name r lawful.relations there in
      let here : All (λ (a : Attached). HoldsMain ext meant db name a.rule) r.attachments = subst (All (λ (a : Attached). HoldsMain ext meant db name a.rule)) (ap attachments_of there) (holds.each name) in
      λ k d below.
      let a : Attached = get_or r.attachments k d in
      rule_holds name a.name a.buckets a.rule (here k d below) (is.mirrors k d below))

-- ---- where the same rows stand
pub record IsSameAt (db after : Db) (name : Name) : Type 0 where
  pub rows : rows_at after name ≡ rows_at db name
  pub schema : schema_at after name ≡ schema_at db name

-- the same values stand in some row
abbrev pub SameParents : Db → Db → Name → Type 0
SameParents db after other = (others : List Name) (values : List Value) → has_row_with after other others values ≡ has_row_with db other others values

pub same_parents : (db after : Db) (other : Name) → IsSameAt db after other → SameParents db after other
same_parents db after other same others values = λ i. list_any (λ (e : Key × Row). has_values (same.schema i) others values e.1) (same.rows i)

abbrev pub ParentsStay : Db → Db → Rule → Type 0
ParentsStay db after (Refers Main columns other others mode deferred) = SameParents db after other
ParentsStay db after _ = Unit {0}

pub parents_stay : (db after : Db) (rule : Rule) → ((other : Name) → SameParents db after other) → ParentsStay db after rule
parents_stay db after (Refers Main columns other others mode deferred) same = same other
parents_stay db after _ same = tt

pub main_stays : (ext : Extensions) (meant : Rule → Bool) → IsOfOurs meant → (db after : Db) (name : Name) (rule : Rule) → IsSameAt db after name → ParentsStay db after rule → HoldsMain ext meant db name rule
    → HoldsMain ext meant after name rule
main_stays ext meant of db after name (TreeIndex columns unique) same parents holds = λ is main. (λ i. not unique || is_unique (same.schema i) columns (same.rows i)) ∙ holds is main
main_stays ext meant of db after name (HashIndex columns) same parents holds = λ is main. refl
main_stays ext meant of db after name (JoinIndex side columns other others) same parents holds = λ is main. refl
main_stays ext meant of db after name (Stats column low width) same parents holds = λ is main. refl
main_stays ext meant of db after name (Check pred deferred) same parents holds = λ is main.
    (λ i. list_all (λ (e : Key × Row). truth (same.schema i) None (Some e.1) pred) (same.rows i)) ∙ holds is main
main_stays ext meant of db after name (Refers Main columns other others mode deferred) same parents holds = λ is main.
    (λ i. list_all (λ (e : Key × Row). has_row_with after other others (values_in (same.schema i) e.1 columns)) (same.rows i))
    ∙ (λ i. list_all (λ (e : Key × Row). parents others (values_in (schema_at db name) e.1 columns) i) (rows_at db name)) ∙ holds is main
main_stays ext meant of db after name (Refers Mirror columns other others mode deferred) same parents holds = λ is main. absurd (cc)
main_stays ext meant of db after name (Trigger on pred act deferred) same parents holds = λ is main. refl
main_stays ext meant of db after name (Foreign code desc) same parents holds = λ is main. let none : meant (Foreign code desc) ≡ false = of.ours code desc in absurd (cc)
