-- A check on a relation of one number, and a trigger on another, for the tests.
use Rattle.std.proofs.Common.{◌≡◌, codes, Bool, Option, true, false, cond, List, [], ◌∷◌, Some, None, refl, ap, sym, subst, arith}
use Rattle.std.specs.Ordering.{is_eq}
use Rattle.std.proofs.lemmas.Cmp.{tied_itself, nat_list_cmp_total}
use Rattle.std.proofs.lemmas.List.Elements.{All-nil}
use Rattle.sb_value.specs.declared.schema.Column.{Column}
use Rattle.sb_rule.specs.declared.rule.Rule.TheVariants.{Check}
use Rattle.sb_rule.specs.Spelling.{rule_spelling, IsStorableRule}
use Rattle.sb_relation.specs.Db.{Name, Relation, Db, relation_at}
use Rattle.sb_relation.specs.Fits.{MayStand}
use Rattle.sb_relation.specs.Lawful.{AreRows}
use Rattle.sb_ctx.specs.declared.instance.Instance.{Instance}
use Rattle.sb_value.specs.Order.{bytes_cmp}
use Rattle.sb_ctx.specs.Attachment.{IsInstance, AreLawful}
use Rattle.sb_relation.specs.Foreign.{plain_rules}
use Rattle.sb_rules.specs.Checks.{check}
use Rattle.sb_rules.specs.Triggers.{trigger}
use Rattle.sb_rules.specs.Examples.{numbers, not_negative, staff, depts, hires}

-- ---- the instance
abbrev alone : List Column → Relation
alone schema = record { method = 1; schema = schema; key = []; rows = []; attachments = [] }

first_there : (name : Name) (r : Relation) → relation_at ((name, r) ∷ []) name ≡ Some r
first_there name r = ap (λ o. cond (is_eq o) (Some r) None) (tied_itself nat_list_cmp_total name)

no_rows : (schema : List Column) → AreRows schema []
no_rows schema = record { rising = tt; keys = All-nil _; each = All-nil _; few = omega arith }

may_stand : (db : Db) (deferred : Bool) (schema : List Column) → schema ≡ numbers → MayStand (Some (plain_rules 5)) db schema (Check not_negative deferred)
may_stand db deferred schema is =
    subst (λ s. MayStand (Some (plain_rules 5)) db s (Check not_negative deferred)) (sym is) (record { there = refl; named = refl; fits = refl })

-- the first relation, or one of the others
rows_of : (t : Bool) (first r : Relation) (others : Option Relation) → AreRows first.schema first.rows → (others ≡ Some r → AreRows r.schema r.rows)
    → cond t (Some first) others ≡ Some r → AreRows r.schema r.rows
rows_of true first r others here there e = subst (λ (q : Relation). AreRows q.schema q.rows) (one first r e) here
  where
    one : (x y : Relation) → Some x ≡ Some y → x ≡ y
    one x y e = cc
rows_of false first r others here there e = there e

no_others : (r : Relation) → None ≡ Some r → AreRows r.schema r.rows
no_others r e = cc

lawful : (name : Name) (schema : List Column) → AreLawful ((name, alone schema) ∷ [])
lawful name schema other r there = rows_of (is_eq (bytes_cmp other name)) (alone schema) r None (no_rows schema) (no_others r) there

pub IsInstance-numbers : (inst : Instance) (deferred : Bool) → inst.code ≡ 5 → inst.key ≡ [] → inst.owner ≡ 0 → inst.schema ≡ numbers → inst.desc ≡ rule_spelling (Check not_negative deferred)
    → IsStorableRule (Check not_negative deferred) → IsInstance check inst
IsInstance-numbers inst deferred code key owner is desc storable = record {
  code = code;
  key = key;
  owned = owner;
  rule = Check not_negative deferred;
  db = (inst.relation, alone inst.schema) ∷ [];
  stands = record {
    spelled = record { coded = refl; spelled = desc; storable = storable; limited = omega arith };
    relation = alone inst.schema;
    there = first_there inst.relation (alone inst.schema);
    schema = refl;
    lawful = lawful inst.relation inst.schema;
    joins = tt;
    may = may_stand ((inst.relation, alone inst.schema) ∷ []) deferred inst.schema is;
  };
}

-- ---- a trigger on the relation `e`, which adds to the rows of `d`
two : Db
two = (codes "d", alone depts) ∷ (codes "e", alone staff) ∷ []

lawful_two : AreLawful two
unfolding two
lawful_two name r there =
    rows_of (is_eq (bytes_cmp name (codes "d"))) (alone depts) r (cond (is_eq (bytes_cmp name (codes "e"))) (Some (alone staff)) None) (no_rows depts)
    (rows_of (is_eq (bytes_cmp name (codes "e"))) (alone staff) r None (no_rows staff) (no_others r)) there

staff_there : (name : Name) → name ≡ codes "e" → relation_at two name ≡ Some (alone staff)
unfolding two
staff_there name is = ap (relation_at two) is

hires_stand : (deferred : Bool) (schema : List Column) → schema ≡ staff → MayStand (Some (plain_rules 7)) two schema (hires deferred)
unfolding two
hires_stand deferred schema is = subst (λ s. MayStand (Some (plain_rules 7)) two s (hires deferred)) (sym is) (record { there = refl; named = refl; fits = refl })

pub IsInstance-staff : (inst : Instance) (deferred : Bool) → inst.relation ≡ codes "e" → inst.code ≡ 7 → inst.key ≡ [] → inst.owner ≡ 0 → inst.schema ≡ staff → inst.desc ≡ rule_spelling (hires deferred)
    → IsStorableRule (hires deferred) → IsInstance trigger inst
IsInstance-staff inst deferred named code key owner is desc storable = record {
  code = code;
  key = key;
  owned = owner;
  rule = hires deferred;
  db = two;
  stands = record {
    spelled = record { coded = refl; spelled = desc; storable = storable; limited = omega arith };
    relation = alone staff;
    there = staff_there inst.relation named;
    schema = sym is;
    lawful = lawful_two;
    joins = tt;
    may = hires_stand deferred inst.schema is;
  };
}
