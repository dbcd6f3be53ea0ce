-- The instances of the tests may be called, with rows of one byte.
use Rattle.std.proofs.Common.{◌≡◌, ℕ, ◌≤◌, Bool, true, false, cond, List, [], ◌∷◌, Some, None, refl, ap, subst, arith}
use Rattle.std.specs.Ordering.{eq_by_cmp}
use Rattle.std.proofs.lemmas.Cmp.{nat_list_cmp_total, eq_by_cmp_equiv}
use Rattle.std.proofs.lemmas.List.Elements.{All-nil}
use Rattle.std.proofs.lemmas.Option.{same_Some}
use Rattle.sb_value.specs.declared.schema.Column.{Column}
use Rattle.sb_value.specs.Order.{bytes_cmp}
use Rattle.sb_rule.specs.declared.change.Change.TheVariants as change
use Rattle.sb_rule.specs.declared.rule.Rule.TheVariants.{Foreign}
use Rattle.sb_relation.specs.Db.{Key, Row, Relation}
use Rattle.sb_relation.specs.Keys.{is_record_key}
use Rattle.sb_relation.specs.Lawful.{IsRow, AreRows}
use Rattle.sb_ctx.specs.declared.instance.Instance.{Instance}
use Rattle.sb_ctx.specs.Attachment.{Attachment, IsOwned, keeps_pages}
use Rattle.sb_foreign.specs.Strips.{strip}
use Rattle.sb_foreign.specs.Examples.{IsExample, Keeps, Watches, MayBeHeld, MayBeMet}

-- ---- instances
pub Keeps-strip : (inst : Instance) → IsExample 1000 [] inst → Keeps strip inst
Keeps-strip inst is = record {
  foreign = omega arith;
  is = record { code = is.code; durable = is.durable; desc = is.desc; owned = is.owned; may = record { named = rw is.key refl; fits = is.numbers } };
  numbers = is.numbers;
}

-- a relation without rows
abbrev empty : List Column → Relation
empty schema = record { method = 1000; schema = schema; key = []; rows = []; attachments = [] }

no_rows : (schema : List Column) → AreRows schema []
no_rows schema = record { rising = tt; keys = All-nil (λ row. is_record_key row.0 ≡ true); each = All-nil (λ row. IsRow schema row.1); few = omega arith }

pub Watches-example : (a : Attachment) (inst : Instance) (desc : List ℕ) → 1000 ≤ a.rules.code → IsOwned (keeps_pages a.rules.code) inst → a.rules.fits inst.schema inst.desc ≡ true → IsExample a.rules.code desc inst → Watches a inst
Watches-example a inst desc foreign owned fits is = record {
  foreign = foreign;
  numbers = is.numbers;
  is = record {
    code = is.code;
    key = is.key;
    owned = owned;
    rule = Foreign a.rules.code inst.desc;
    db = (inst.relation, empty inst.schema) ∷ [];
    stands = record {
      spelled = record { coded = refl; spelled = refl; storable = tt; limited = foreign };
      relation = empty inst.schema;
      there = ap (λ (b : Bool). cond b (Some (empty inst.schema)) None) ((eq_by_cmp_equiv nat_list_cmp_total).refl inst.relation);
      schema = refl;
      lawful = λ name r there. lawful r (eq_by_cmp bytes_cmp name inst.relation) there;
      joins = tt;
      may = record { there = refl; named = refl; fits = fits };
    };
  };
}
  where
    lawful : (r : Relation) (b : Bool) → cond b (Some (empty inst.schema)) None ≡ Some r → AreRows r.schema r.rows
    lawful r true there = subst (λ (q : Relation). AreRows q.schema q.rows) (same_Some (empty inst.schema) r there) (no_rows inst.schema)
    lawful r false there = cc

-- ---- changes
pub MayBeMet-inserted : (key : Key) (row : Row) → is_record_key key ≡ true → MayBeHeld row → MayBeMet (change.Insert key row)
MayBeMet-inserted key row is_key held = record { watched = λ a inst watches. record { keys = is_key; old = tt; new = held.watched a inst watches } }

pub MayBeMet-updated : (from to : Key) (row next : Row) → is_record_key from ≡ true → is_record_key to ≡ true → MayBeHeld row → MayBeHeld next → MayBeMet (change.Update from row to next)
MayBeMet-updated from to row next is_from is_to held next_held = record {
  watched = λ a inst watches. record { keys = (is_from, is_to); old = (held.watched a inst watches).is_row.fits; new = next_held.watched a inst watches };
}
