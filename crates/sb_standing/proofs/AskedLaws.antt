-- The laws of a change that is asked of attachments, in the words of their statements.
use Rattle.std.proofs.Common.{◌≡◌, ℕ, Bool, List, Some, sym, ap, subst, ◌∙◌}
use Rattle.std.specs.List.{slice_get}
use Rattle.std.proofs.lemmas.Option.{same_Some}
use Rattle.sb_value.specs.declared.schema.Column.{Column}
use Rattle.sb_rule.specs.declared.change.Change.{Change}
use Rattle.sb_relation.specs.Changes.{changed, changed_rows}
use Rattle.sb_relation.specs.Db
use Rattle.sb_relation.specs.Db.{Name, Rows, Relation, relation_at, rows_at}
use Rattle.sb_relation.specs.Lawful.{AreRows}
use Rattle.sb_rows.specs.View.{FoundIn}
use Rattle.sb_rows.specs.Attachment.{IsChangeOf}
use Rattle.sb_rows.specs.Boxes.{Meanings}
use Rattle.sb_rows.specs.Slots.{Slots}
use Rattle.sb_standing.specs.Asked.{Suits, Asks, changed_kept}
use Rattle.sb_standing.specs.AskedLaws.{PutAsksNone, NextCanAsk, AskedAsksMore, CanAsk}
use Rattle.sb_standing.specs.Standing.{IsKept}
use Rattle.sb_standing.specs.Tables.{Kept, KeepsTable, db_of, kept_at}
use Rattle.sb_standing.proofs.AskedLemmas.{Asks-first, Asks-at, Asks-next}
use Rattle.sb_standing.proofs.ChangedLemmas.{rows_at-there}
use Rattle.sb_standing.proofs.KeptChangedLemmas.{with_changed, kept_at-with_changed}
use Rattle.sb_standing.proofs.KeptLemmas.{kept_at-all, kept_at-name, relation_at-there}
use Rattle.sb_standing.proofs.LawfulLemmas.{AreRows-table, MayMeet-suits}

pub Asks-put : PutAsksNone
Asks-put m durable root s t gone kept name k c keeps at put = Asks-first m durable root s t gone kept name k c keeps at put.suits put.others put.rows

pub Asks-more : AskedAsksMore
Asks-more m durable root s t gone before name c i k d a asks at placed has asked =
    Asks-next m durable root s t gone before name c i k d a asks at placed has asked.kept asked.others asked.holds

-- the change suits the relation, and the rows after it are lawful
Suits-asked : (m : Meanings) (durable : ℕ → Bool) (root : ℕ) (s : Slots) (gone : List ℕ) (before : List Kept) (name : Name) (c : Change) (i : ℕ) (k : Kept) → Asks m durable root s gone before name c i → kept_at before name ≡ Some k →
    Suits k.relation c
Suits-asked m durable root s gone before name c i k asks at =
    subst (λ (r : Relation). Suits r c) (same_Some asks.relation k.relation (sym asks.there ∙ relation_at-there before name k at)) asks.suits

AreRows-asked : (m : Meanings) (durable : ℕ → Bool) (root : ℕ) (s : Slots) (gone : List ℕ) (before : List Kept) (name : Name) (c : Change) (i : ℕ) (k : Kept) → Asks m durable root s gone before name c i → kept_at before name ≡ Some k →
    AreRows k.descriptor.schema (changed_rows k.relation.rows c)
AreRows-asked m durable root s gone before name c i k asks at =
    let table = kept_at-all (KeepsTable m durable s) (changed_kept name c before) name (with_changed c k) asks.tables.each (kept_at-with_changed name c before k at) in
    subst (λ (columns : List Column). AreRows columns (changed_rows k.relation.rows c)) (sym table.is.schema) (AreRows-table m durable s (with_changed c k) table)

pub CanAsk-next : NextCanAsk
CanAsk-next m durable root s gone before name c i k d asks at here =
    let next = Asks-at m durable root s gone before name c i k d asks at here in
    (next.0, next.1, can next.0 next.1 next.2)
  where
    db : Db.Db
    db = db_of before

    on : k.name ≡ name
    on = kept_at-name before name k at

    there : relation_at db k.name ≡ Some k.relation
    there = ap (relation_at db) on ∙ relation_at-there before name k at

    rows : rows_at db k.name ≡ k.relation.rows
    rows = rows_at-there db k.name k.relation there

    suits : Suits k.relation c
    suits = Suits-asked m durable root s gone before name c i k asks at

    can : (a : Db.Attached) → slice_get k.relation.attachments i ≡ Some a → IsKept m durable s db k d a → CanAsk m durable s db name c k d a
    can a has kept = record {
      kept = kept;
      meets = MayMeet-suits m durable s db k i d a c suits kept there has;
      of = λ view found. record {
        of = subst (λ (l : Rows). IsChangeOf l c) (sym rows) suits.of;
        lawful = subst (λ (l : Rows). AreRows k.descriptor.schema (changed_rows l c)) (sym rows) (AreRows-asked m durable root s gone before name c i k asks at);
        found = subst (λ (n : Name). FoundIn view (changed db n c)) (sym on) found;
        content = kept.holds;
      };
    }
