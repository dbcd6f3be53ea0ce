use Rattle.std.proofs.Common.{◌≡◌, Some, option_copied, option_map, sym, ap, ◌∙◌}
use Rattle.std.proofs.lemmas.Result.{IfErr-weaker}
use Rattle.sb_value.specs.Equal.{bytes_same}
use Rattle.sb_drive.proofs.SpacesLemmas.{IfErr-passed}
use Rattle.sb_standing.specs.Tables.{db_of}
use Rattle.sb_opened.proofs.Entries.{columns-kept}
use Rattle.sb_opened.proofs.Standing.{Knows-none, Knows-second, columns-own}
use Rattle.sb_opened.proofs.rules.check_rule.Goals as goal

pub returns-in_default-clause-undamaged : goal.returns-in_default-clause-undamaged
returns-in_default-clause-undamaged g c =
    IfErr-weaker c.check_beside.result _ _ (λ e sound want s kept has tables a stands.
    sound a (db_of kept) (Knows-none (db_of kept) c.args.attached.now.rule _ (sym c.other_relation.ensures.named ∙ ap (λ o. option_copied o) c.in_default.is)) stands) c.check_beside.ensures.undamaged

pub returns-then-eq-clause-undamaged : goal.returns-then-eq-clause-undamaged
returns-then-eq-clause-undamaged g c =
    IfErr-weaker c.check_beside-then-eq.result _ _ (λ e sound want s kept has tables a stands.
    let m = g.B.Boxes.meanings c.args.boxes.now in
    let name = c.args.name.now in
    let same : c.in-Some.other.now ≡ name = (bytes_same c.in-Some.other.now name).0 (sym c.eq.ensures ∙ c.if-eq.true) in
    let tied = sym c.other_relation.ensures.named ∙ (ap (λ o. option_copied o) c.in-Some.is ∙ ap Some same) in
    sound a (db_of kept) (Knows-second (db_of kept) c.args.attached.now.rule _ name tied (columns-own m name c.args.descriptor.now c.args.attached.now a (db_of kept) stands)) stands) c.check_beside-then-eq.ensures.undamaged

pub returns-in_err-descriptor_at-clause-undamaged : goal.returns-in_err-descriptor_at-clause-undamaged
returns-in_err-descriptor_at-clause-undamaged g c =
    IfErr-passed c.from_residual.result c.in_err-descriptor_at.field-0.0 _ c.from_residual.ensures.1
    (λ want s kept has tables a stands. c.in_err-descriptor_at.ensures.undamaged (g.B.Boxes.meanings c.args.boxes.now) want s kept has tables)

pub returns-clause-undamaged : goal.returns-clause-undamaged
returns-clause-undamaged g c =
    IfErr-weaker c.check_beside-2.result _ _ (λ e sound want s kept has tables a stands.
    let m = g.B.Boxes.meanings c.args.boxes.now in
    let other = c.in-Some.other.now in
    let tied = sym c.other_relation.ensures.named ∙ ap (λ o. option_copied o) c.in-Some.is in
    let read = c.in_ok-descriptor_at.ensures.found m want s kept has tables in
    let columns = c.as_ref.ensures.value ∙ (c.columns_in-columns.ensures ∙ ap (option_map (λ d. d.schema)) read) in
    sound a (db_of kept) (Knows-second (db_of kept) c.args.attached.now.rule _ other tied (columns-kept m s kept other tables.each ∙ sym columns)) stands) c.check_beside-2.ensures.undamaged
