-- Which databases are lawful depends on the extensions alone that they name.
use Rattle.std.proofs.Common.{◌≡◌, ℕ, ◌==◌, Bool, true, not, ◌||◌, List, [], Option, Some, None, eq-eqb, get_or, refl, sym, ap, ◌∙◌}
use Rattle.std.specs.Prelude.{All, cond, nat_lt}
use Rattle.std.specs.Str.{bytes_eq}
use Rattle.std.specs.List.{list_any}
use Rattle.std.proofs.lemmas.List.Folds.{list_any_at}
use Rattle.sb_value.specs.declared.schema.Column.{Column}
use Rattle.sb_rule.specs.declared.action.Action.{Action}
use Rattle.sb_rule.specs.declared.rule.Rule.{Rule}
use Rattle.sb_rule.specs.declared.rule.Rule.TheVariants.{JoinIndex, Refers, Trigger}
use Rattle.sb_rule.specs.Spelling.{rule_code}
use Rattle.sb_relation.specs.Db.{Name, Attached, Relation, Db, relation_at, schema_at}
use Rattle.sb_relation.specs.Fits.{relation_of, rule_fits, method_fits}
use Rattle.sb_relation.specs.Foreign.{MethodRules, AttachRules, attach_rules}
use Rattle.sb_fold.specs.Building.{without_rule, without_relation}
use Rattle.sb_fold.specs.Extensions.{Extensions, box_of, method_of, says_durable, is_durable_method, is_durable_at}
use Rattle.sb_plain.specs.declared.command.Command.TheVariants as command
use Rattle.sb_plain.specs.Lawful.{MayBe, MayBeAttached, IsLawfulRelation, IsLawful}
use Rattle.sb_plain.specs.Refusing.{differ_in_life, is_mixed_rule}
use Rattle.sb_plain.specs.State.{Transaction}
use Rattle.sb_plain.proofs.SoundLemmas.{all_at}
use Rattle.sb_lawful.specs.Laws.{databases}
use Rattle.sb_lawful.proofs.Places.{alike_life}
use Rattle.sb_lawful.proofs.Sparing.{alike_spared, gone_rule, spared_rule}
use Rattle.sb_lawful_rows.specs.States.{MayBeOpen}
use Rattle.sb_lawful_rows.specs.Work.{IsLawfulWith}
use Rattle.sb_lawful_steps.specs.Laws.{names_method, names_rule, AreAlikeOn, AlikeAreLawful, DownIsLawful}
use Rattle.sb_lawful_steps.proofs.States.{EachOpen, Each, to_each}

-- each code that the database names has the same extension
record IsAlikeOn (ext other : Extensions) (db : Db) : Type 0 where
  methods : (code : ℕ) → names_method code db ≡ true → method_of ext code ≡ method_of other code
  attachments : (code : ℕ) → names_rule code db ≡ true → attach_rules code ext.boxes.attachments ≡ attach_rules code other.boxes.attachments

each_alike : (ext other : Extensions) (dbs : List Db) → AreAlikeOn dbs ext other → All (IsAlikeOn ext other) dbs
each_alike ext other dbs alike = λ k db below. record {
  methods = λ code named. alike.methods code (list_any_at (names_method code) dbs k db below named);
  attachments = λ code named. alike.attachments code (list_any_at (names_rule code) dbs k db below named);
}

-- ---- what a database names
each_method : (db : Db) → All (λ e. names_method e.1.method db ≡ true) db
each_method db = λ k e below.
    let r : Relation = (get_or db k e).1 in
    list_any_at (λ (x : Name × Relation). x.1.method == r.method) db k e below (eq-eqb r.method r.method refl)

each_rule : (db : Db) → All (λ e. All (λ a. names_rule (rule_code a.rule) db ≡ true) e.1.attachments) db
each_rule db = λ k e below j a within.
    let r : Relation = (get_or db k e).1 in
    let code : ℕ = rule_code (get_or r.attachments j a).rule in
    list_any_at (λ (x : Name × Relation). list_any (λ (y : Attached). rule_code y.rule == code) x.1.attachments) db k e below
    (list_any_at (λ (y : Attached). rule_code y.rule == code) r.attachments j a within (eq-eqb code code refl))

module _ (ext other : Extensions) where
  -- ---- what outlives a run
  same_life : (method : ℕ) → method_of ext method ≡ method_of other method → is_durable_method ext method ≡ is_durable_method other method
  same_life method same = ap (λ (o : Option MethodRules). cond (nat_lt method 1000) (not (method == 3)) (says_durable o)) same

  same_at : (db : Db) (name : Name) → IsAlikeOn ext other db → is_durable_at ext db name ≡ is_durable_at other db name
  same_at db name alike = of_relation (relation_at db name) refl
    where
      of_relation : (o : Option Relation) → relation_at db name ≡ o → (elim o as (λ _. Bool) [ None ↦ true | Some r ↦ is_durable_method ext r.method ]) ≡ (elim o as (λ _. Bool) [ None ↦ true | Some r ↦ is_durable_method other r.method ])
      of_relation None e = refl
      of_relation (Some r) e = same_life r.method (alike.methods r.method (all_at (λ (n : Name) (q : Relation). names_method q.method db ≡ true) db name r (each_method db) e))

  -- without an attachment and its mirror the database has the same relations
  same_without : (db : Db) (name : Name) (a : Attached) (k : Name) → IsAlikeOn ext other db → is_durable_at ext (without_rule db name a) k ≡ is_durable_at other (without_rule db name a) k
  same_without db name a k alike =
      let still = alike_spared (gone_rule name a) db (without_rule db name a) (spared_rule db name a) k in
      sym (alike_life ext db (without_rule db name a) k still) ∙ same_at db k alike ∙ alike_life other db (without_rule db name a) k still

  module _ (db : Db) (same : (k : Name) → is_durable_at ext db k ≡ is_durable_at other db k) where
    same_differ : (a b : Name) → differ_in_life ext db a b ≡ differ_in_life other db a b
    same_differ a b = λ i. cond (same a i) (not (same b i)) (same b i)

    same_mixed : (name : Name) (rule : Rule) → is_mixed_rule ext db name rule ≡ is_mixed_rule other db name rule
    same_mixed name (JoinIndex side columns to others) = ap (λ (b : Bool). bytes_eq name to || b) (same_differ name to)
    same_mixed name (Refers side columns to others mode deferred) = same_differ name to
    same_mixed name (Trigger on pred act deferred) = same_differ name (relation_of act)
    same_mixed name _ = refl

  -- ---- what the language could have made
  may_create : (db : Db) (name : Name) (method : ℕ) (schema : List Column) (key : List Name) → method_of ext method ≡ method_of other method → MayBe ext db (command.Create name method schema key)
      → MayBe other db (command.Create name method schema key)
  may_create db name method schema key same may = record {
    there = may.there;
    new = may.new;
    named = may.named;
    fits = sym (ap (λ (o : Option MethodRules). method_fits o method schema key) same) ∙ may.fits;
    alike = may.alike;
    within = may.within;
  }

  may_attach : (db : Db) (name label : Name) (rule : Rule) → box_of ext rule ≡ box_of other rule → is_mixed_rule ext db name rule ≡ is_mixed_rule other db name rule
      → MayBe ext db (command.Attach name label rule) → MayBe other db (command.Attach name label rule)
  may_attach db name label rule same mixed may = record {
    there = may.there;
    new = may.new;
    named = may.named;
    fits = sym (ap (λ (o : Option AttachRules). rule_fits o db (schema_at db name) rule) same) ∙ may.fits;
    alike = sym mixed ∙ may.alike;
    within = may.within;
  }

  still_attached : (db : Db) (name : Name) (a : Attached) → IsAlikeOn ext other db → names_rule (rule_code a.rule) db ≡ true → MayBeAttached ext db name a → MayBeAttached other db name a
  still_attached db name a alike named may main =
      may_attach (without_rule db name a) name a.name a.rule (alike.attachments (rule_code a.rule) named)
      (same_mixed (without_rule db name a) (λ k. same_without db name a k alike) name a.rule) (may main)

  lawful_relation : (db : Db) (name : Name) (r : Relation) → IsAlikeOn ext other db → names_method r.method db ≡ true → All (λ a. names_rule (rule_code a.rule) db ≡ true) r.attachments
      → IsLawfulRelation ext db name r → IsLawfulRelation other db name r
  lawful_relation db name r alike method rules is = record {
    created = may_create (without_relation db name) name r.method r.schema r.key (alike.methods r.method method) is.created;
    attached = λ k a below. still_attached db name (get_or r.attachments k a) alike (rules k a below) (is.attached k a below);
    mirrored = is.mirrored;
    mirrors = is.mirrors;
    in_order = is.in_order;
    apart = is.apart;
    rising = is.rising;
    rows = is.rows;
  }

  -- ---- databases and states
  lawful_db : (db : Db) → IsAlikeOn ext other db → IsLawful ext db → IsLawful other db
  lawful_db db alike is = record {
    rising = is.rising;
    relations = λ k e below. lawful_relation db _ _ alike (each_method db k e below) (each_rule db k e below) (is.relations k e below);
  }

  with_it : (db : Db) (actions : List Action) → IsAlikeOn ext other db → IsLawfulWith ext db actions → IsLawfulWith other db actions
  with_it db actions alike is = record { lawful = lawful_db db alike is.lawful; triggers = is.triggers; waiting = is.waiting }

  lawful_open : (transaction : Option Transaction) → EachOpen (IsAlikeOn ext other) transaction → MayBeOpen ext transaction → MayBeOpen other transaction
  lawful_open None alike open_one = tt
  lawful_open (Some t) alike open_one = record {
    stands = with_it t.db t.queue.actions alike.now open_one.stands;
    points = λ k p below. with_it _ _ (alike.points k p below) (open_one.points k p below);
  }

pub alike-are-lawful : AlikeAreLawful
alike-are-lawful ext other s same along =
    let each : Each (IsAlikeOn ext other) s = to_each (IsAlikeOn ext other) s (each_alike ext other (databases s) same) in
    record {
      lawful = record {
        commits = λ k db below. with_it ext other _ [] (each.commits k db below) (along.lawful.commits k db below);
        open_one = lawful_open ext other s.transaction each.open_one along.lawful.open_one;
      };
      names = along.names;
    }

pub down-is-lawful : DownIsLawful
down-is-lawful ext s along = record { lawful = record { commits = along.lawful.commits; open_one = along.lawful.open_one }; names = along.names }
