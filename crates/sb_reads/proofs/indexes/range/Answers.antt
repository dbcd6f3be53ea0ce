use Rattle.std.proofs.Common.{◌∙◌, true≢false, Option, Some, Ok, Err, Bor, option_copied, sym, ap}
use Rattle.std.specs.List.{filter, filter_map}
use Rattle.sb_drive.proofs.SpacesLemmas.{IfErr-passed}
use Rattle.sb_rows.proofs.CallsLemmas.{Looks-later, Looks-made, Looks-passed}
use Rattle.sb_ctx.specs.declared.instance.Instance.{Instance}
use Rattle.sb_registry.specs.Live.{IsLiveRule}
use Rattle.sb_plain.specs.Refusing.{is_range}
use Rattle.sb_standing.specs.Tables.{db_of}
use Rattle.sb_reads.specs.Entries.{is_within}
use Rattle.sb_reads.specs.Reads.{row_of}
use Rattle.sb_reads.specs.Stores.{attachment_in}
use Rattle.sb_relation.specs.Db
use Rattle.sb_reads.proofs.StoresLemmas.{All-beside, IsRule-named, ranged, unnamed}
use Rattle.sb_reads.proofs.indexes.range.Goals as goal

pub returns-in_default-clause-undamaged : goal.returns-in_default-clause-undamaged
returns-in_default-clause-undamaged g c = λ want s kept r has keeps ranges.
    let none = unnamed _ c.args.place.root s kept r c.args.opened.now c.args.name.now keeps c.requires.open (sym c.instance_named.ensures ∙ ap (λ (x : Option (Bor Instance)). option_copied x) c.in_default.is) in
    true≢false (sym ranges ∙ ap (λ (x : Option Db.Attached). is_range r.schema x c.args.low.now) none)

pub entries_within-requires-clause-live : goal.entries_within-requires-clause-live
entries_within-requires-clause-live g c =
    let o = c.args.opened.now in
    All-beside (IsLiveRule (g.B.Boxes.meanings c.args.boxes.now)) o.descriptor.attachments o.rules.items c.args.name.now c.in-Some.index.now c.requires.open.live_rules (sym c.instance_named.ensures ∙ ap (λ (x : Option (Bor Instance)). option_copied x) c.in-Some.is)

pub returns-in_err-entries-clause-undamaged : goal.returns-in_err-entries-clause-undamaged
returns-in_err-entries-clause-undamaged g c =
    IfErr-passed c.from_residual-in_err-entries.result c.in_err-entries.field-0.0 _ c.from_residual-in_err-entries.ensures.1 (λ want s kept r has keeps ranges.
    let rule = IsRule-named _ c.args.place.root s kept r c.args.opened.now c.args.name.now c.in-Some.index.now keeps c.requires.open (sym c.instance_named.ensures ∙ ap (λ (x : Option (Bor Instance)). option_copied x) c.in-Some.is) in
    c.in_err-entries.ensures.undamaged want s kept rule.content has rule.has)

pub returns-in_err-rows-clause-undamaged : goal.returns-in_err-rows-clause-undamaged
returns-in_err-rows-clause-undamaged g c =
    IfErr-passed c.from_residual-in_err-rows.result c.in_err-rows.field-0.0 _ c.from_residual-in_err-rows.ensures.1
    (λ want s kept r has keeps ranges. c.in_err-rows.ensures.undamaged want s r.rows (c.in_ok-entries.ensures.looks.same want s has) keeps.rows)

pub returns-in_err-rows-clause-looks : goal.returns-in_err-rows-clause-looks
returns-in_err-rows-clause-looks g c =
    let fault = c.in_err-rows.field-0.0 in
    Looks-passed g.S.PageSpace.has g.S.PageSpace.leads g.S.PageSpace.fails c.args.space.now c.rows_of.new.space c.from_residual-in_err-rows.result fault c.from_residual-in_err-rows.ensures.1
    (Looks-later g.S.PageSpace.has g.S.PageSpace.leads g.S.PageSpace.fails c.args.space.now c.entries_within.new.space c.rows_of.new.space (Err fault) g.met.S.PageSpace.goes_on g.met.S.PageSpace.fails_on c.in_ok-entries.ensures.looks.leads c.in_ok-entries.ensures.looks.same c.in_err-rows.ensures.looks)

pub returns-clause-reply : goal.returns-clause-reply
returns-clause-reply g c = λ want s kept r has keeps ranges.
    let rule = IsRule-named _ c.args.place.root s kept r c.args.opened.now c.args.name.now c.in-Some.index.now keeps c.requires.open (sym c.instance_named.ensures ∙ ap (λ (x : Option (Bor Instance)). option_copied x) c.in-Some.is) in
    let o = c.args.opened.now in
    let found = c.in_ok-entries.ensures.entries want s kept rule.content has rule.has
    ∙ (λ i. filter (is_within (c.in_ok-low.ensures.code i) (Some (c.in_ok-high.ensures.code i))) rule.content.entries) in
    let read = c.in_ok-rows.ensures.rows want s r.rows (c.in_ok-entries.ensures.looks.same want s has) keeps.rows ∙ ap (filter_map (row_of r.rows)) (c.deref.ensures.value ∙ found) in
    let all = ranged (Some rule.box.rules) (db_of kept) o.name r (attachment_in r c.args.name.now) rule.a c.args.low.now c.args.high.now rule.content.entries c.in_ok-rows.rows.items keeps.there rule.found ranges rule.entries read in
    cc

pub returns-clause-looks : goal.returns-clause-looks
returns-clause-looks g c =
    Looks-made g.S.PageSpace.has g.S.PageSpace.leads g.S.PageSpace.fails c.args.space.now c.rows_of.new.space c.in_ok-rows.rows _
    (Looks-later g.S.PageSpace.has g.S.PageSpace.leads g.S.PageSpace.fails c.args.space.now c.entries_within.new.space c.rows_of.new.space (Ok c.in_ok-rows.rows) g.met.S.PageSpace.goes_on g.met.S.PageSpace.fails_on c.in_ok-entries.ensures.looks.leads c.in_ok-entries.ensures.looks.same c.in_ok-rows.ensures.looks)
