use Rattle.std.proofs.Common.{◌≡◌, Some}
use Rattle.std.proofs.lemmas.Result.{IfOk-weaker, IfErr-weaker}
use Rattle.sb_fold.specs.Extensions.{Extensions}
use Rattle.sb_registry.specs.Boxes.{boxes_of}
use Rattle.sb_registry.specs.Runs.{IsSound}
use Rattle.sb_standing.specs.Tables.{db_of}
use Rattle.sb_plain.specs.Reading.{read}
use Rattle.sb_reads.specs.Reads.{MayRead}
use Rattle.sb_reads.specs.Stores.{OnOpen}
use Rattle.sb_reads.proofs.ReadsLemmas.{may-entries, may-lookup, may-range, read-get, read-lookup, read-range}
use Rattle.sb_reads.proofs.reading.read_relation.Goals as goal

pub returns-in-Get-clause-reply : goal.returns-in-Get-clause-reply
returns-in-Get-clause-reply g c =
    IfOk-weaker c.get.result _ (λ x. OnOpen g.S.PageSpace.has (g.B.Boxes.meanings c.args.boxes.now) c.args.place.root c.args.space.now c.args.opened.now (λ db r. (ext : Extensions) → ext.boxes ≡ boxes_of (g.B.Boxes.meanings c.args.boxes.now) → MayRead db c.args.command.now → Some x ≡ read ext db c.args.command.now))
    (λ x is want s kept r has keeps ext boxes may. read-get ext (db_of kept) c.args.command.now c.args.opened.now.name r c.in-Get.at x _ c.requires.reads c.in-Get.is keeps.there (is want s r.rows has keeps.rows))
    c.get.ensures.reply

pub returns-in-Get-clause-undamaged : goal.returns-in-Get-clause-undamaged
returns-in-Get-clause-undamaged g c =
    IfErr-weaker c.get.result _ (λ e. OnOpen g.S.PageSpace.has (g.B.Boxes.meanings c.args.boxes.now) c.args.place.root c.args.space.now c.args.opened.now (λ db r. MayRead db c.args.command.now → IsSound e)) (λ e is want s kept r has keeps may. is want s r.rows has keeps.rows) c.get.ensures.undamaged

pub returns-in-Scan-clause-undamaged : goal.returns-in-Scan-clause-undamaged
returns-in-Scan-clause-undamaged g c =
    IfErr-weaker c.scan.result _ (λ e. OnOpen g.S.PageSpace.has (g.B.Boxes.meanings c.args.boxes.now) c.args.place.root c.args.space.now c.args.opened.now (λ db r. MayRead db c.args.command.now → IsSound e)) (λ e is want s kept r has keeps may. is want s r.rows has keeps.rows) c.scan.ensures.undamaged

pub returns-in-Lookup-clause-reply : goal.returns-in-Lookup-clause-reply
returns-in-Lookup-clause-reply g c =
    IfOk-weaker c.lookup.result _ (λ x. OnOpen g.S.PageSpace.has (g.B.Boxes.meanings c.args.boxes.now) c.args.place.root c.args.space.now c.args.opened.now (λ db r. (ext : Extensions) → ext.boxes ≡ boxes_of (g.B.Boxes.meanings c.args.boxes.now) → MayRead db c.args.command.now → Some x ≡ read ext db c.args.command.now))
    (λ x is want s kept r has keeps ext boxes may. read-lookup ext (db_of kept) c.args.command.now c.args.opened.now.name r c.in-Lookup.name c.in-Lookup.values x _ c.requires.reads c.in-Lookup.is keeps.there
    (is want s kept r has keeps (may-lookup (db_of kept) c.args.command.now c.args.opened.now.name r c.in-Lookup.name c.in-Lookup.values _ c.requires.reads c.in-Lookup.is keeps.there may)))
    c.lookup.ensures.reply

pub returns-in-Lookup-clause-undamaged : goal.returns-in-Lookup-clause-undamaged
returns-in-Lookup-clause-undamaged g c =
    IfErr-weaker c.lookup.result _ (λ e. OnOpen g.S.PageSpace.has (g.B.Boxes.meanings c.args.boxes.now) c.args.place.root c.args.space.now c.args.opened.now (λ db r. MayRead db c.args.command.now → IsSound e))
    (λ e is want s kept r has keeps may. is want s kept r has keeps (may-lookup (db_of kept) c.args.command.now c.args.opened.now.name r c.in-Lookup.name c.in-Lookup.values _ c.requires.reads c.in-Lookup.is keeps.there may)) c.lookup.ensures.undamaged

pub returns-in-Range-clause-reply : goal.returns-in-Range-clause-reply
returns-in-Range-clause-reply g c =
    IfOk-weaker c.range.result _ (λ x. OnOpen g.S.PageSpace.has (g.B.Boxes.meanings c.args.boxes.now) c.args.place.root c.args.space.now c.args.opened.now (λ db r. (ext : Extensions) → ext.boxes ≡ boxes_of (g.B.Boxes.meanings c.args.boxes.now) → MayRead db c.args.command.now → Some x ≡ read ext db c.args.command.now))
    (λ x is want s kept r has keeps ext boxes may. read-range ext (db_of kept) c.args.command.now c.args.opened.now.name r c.in-Range.name c.in-Range.low c.in-Range.high x _ c.requires.reads c.in-Range.is keeps.there
    (is want s kept r has keeps (may-range (db_of kept) c.args.command.now c.args.opened.now.name r c.in-Range.name c.in-Range.low c.in-Range.high _ c.requires.reads c.in-Range.is keeps.there may)))
    c.range.ensures.reply

pub returns-in-Range-clause-undamaged : goal.returns-in-Range-clause-undamaged
returns-in-Range-clause-undamaged g c =
    IfErr-weaker c.range.result _ (λ e. OnOpen g.S.PageSpace.has (g.B.Boxes.meanings c.args.boxes.now) c.args.place.root c.args.space.now c.args.opened.now (λ db r. MayRead db c.args.command.now → IsSound e))
    (λ e is want s kept r has keeps may. is want s kept r has keeps (may-range (db_of kept) c.args.command.now c.args.opened.now.name r c.in-Range.name c.in-Range.low c.in-Range.high _ c.requires.reads c.in-Range.is keeps.there may)) c.range.ensures.undamaged

pub returns-in-Entries-clause-undamaged : goal.returns-in-Entries-clause-undamaged
returns-in-Entries-clause-undamaged g c =
    IfErr-weaker c.entries.result _ (λ e. OnOpen g.S.PageSpace.has (g.B.Boxes.meanings c.args.boxes.now) c.args.place.root c.args.space.now c.args.opened.now (λ db r. MayRead db c.args.command.now → IsSound e))
    (λ e is want s kept r has keeps may. is want s kept r has keeps (may-entries (db_of kept) c.args.command.now c.args.opened.now.name r c.in-Entries.name _ c.requires.reads c.in-Entries.is keeps.there may)) c.entries.ensures.undamaged
