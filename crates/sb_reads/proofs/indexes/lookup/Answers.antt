use Rattle.std.proofs.Common.{◌≡◌, ◌∙◌, List, true, Option, Bor, option_copied, sym, ap}
use Rattle.std.specs.Prelude.{bytes_eq}
use Rattle.std.specs.List.{filter, find}
use Rattle.std.specs.Option.{option_and_then}
use Rattle.std.proofs.lemmas.Result.{IfOk-weaker, IfErr-weaker}
use Rattle.sb_relation.specs.Db.{Name}
use Rattle.sb_relation.specs.Rules.{has_values}
use Rattle.sb_catalog.specs.declared.descriptor.Attached.{Attached}
use Rattle.sb_registry.specs.Runs.{IsSound}
use Rattle.sb_plain.specs.declared.reply.Reply.TheVariants.{Rows as Rowed}
use Rattle.sb_plain.specs.Reading.{index_columns, looked_up}
use Rattle.sb_plain.specs.Refusing.{is_lookup}
use Rattle.sb_standing.specs.Tables.{db_of}
use Rattle.sb_reads.specs.Stores.{OnOpen, attachment_in, columns_of}
use Rattle.sb_reads.proofs.ReadsLemmas.{rows-there, schema-there}
use Rattle.sb_reads.proofs.StoresLemmas.{columns-alike, columns-index, lookup-columns}
use Rattle.sb_reads.proofs.indexes.lookup.Goals as goal

pub returns-in_default-clause-undamaged : goal.returns-in_default-clause-undamaged
returns-in_default-clause-undamaged g c = λ want s kept r has keeps looks.
    let o = c.args.opened.now in
    let name = c.args.name.now in
    let columns = sym (columns-alike o.descriptor.attachments r.attachments name keeps.alike)
    ∙ ap (λ (ds : List Attached). option_and_then (λ d. columns_of d.rule) (find (λ d. bytes_eq d.name name) ds)) (sym c.as_slice.ensures) ∙ sym c.columns_named.ensures ∙ ap (λ (x : Option (Bor (List Name))). option_copied x) c.in_default.is in
    lookup-columns r.schema (attachment_in r name) c.args.values.now looks columns

pub returns-clause-reply : goal.returns-clause-reply
returns-clause-reply g c =
    IfOk-weaker c.rows_with.result _ (λ x. OnOpen g.S.PageSpace.has (g.B.Boxes.meanings c.args.boxes.now) c.args.place.root c.args.space.now c.args.opened.now (λ db r. is_lookup r.schema (attachment_in r c.args.name.now) c.args.values.now ≡ true
    → x ≡ Rowed (looked_up db c.args.opened.now.name (index_columns (attachment_in r c.args.name.now)) c.args.values.now)))
    (λ x is want s kept r has keeps looks.
    let o = c.args.opened.now in
    let name = c.args.name.now in
    let columns = sym (columns-alike o.descriptor.attachments r.attachments name keeps.alike)
    ∙ ap (λ (ds : List Attached). option_and_then (λ d. columns_of d.rule) (find (λ d. bytes_eq d.name name) ds)) (sym c.as_slice.ensures) ∙ sym c.columns_named.ensures ∙ ap (λ (x : Option (Bor (List Name))). option_copied x) c.in-Some.is in
    let db = db_of kept in
    let own = sym (columns-index (attachment_in r name) c.in-Some.columns.now columns) in
    is want s r.rows has keeps.rows ∙ (λ i. Rowed (filter (λ row. has_values ((keeps.schema ∙ sym (schema-there db o.name r keeps.there)) i) (own i) c.args.values.now row.1) (sym (rows-there db o.name r keeps.there) i))))
    c.rows_with.ensures.reply

pub returns-clause-undamaged : goal.returns-clause-undamaged
returns-clause-undamaged g c =
    IfErr-weaker c.rows_with.result _ (λ e. OnOpen g.S.PageSpace.has (g.B.Boxes.meanings c.args.boxes.now) c.args.place.root c.args.space.now c.args.opened.now (λ db r.
    is_lookup r.schema (attachment_in r c.args.name.now) c.args.values.now ≡ true → IsSound e))
    (λ e is want s kept r has keeps looks. is want s r.rows has keeps.rows) c.rows_with.ensures.undamaged
