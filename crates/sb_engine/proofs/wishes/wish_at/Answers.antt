use Rattle.std.proofs.Common.{◌≡◌, List, Option, Some, Bor, IfSome, sym, ap, ◌∙◌, subst}
use Rattle.std.specs.Option.{option_copied}
use Rattle.std.proofs.lemmas.Option.{same_Some}
use Rattle.sb_value.specs.declared.schema.Column.{Column}
use Rattle.sb_value.specs.Fits.{Fits}
use Rattle.sb_drive.proofs.SpacesLemmas.{IfErr-passed}
use Rattle.sb_ctx.specs.declared.instance.Instance.{Instance}
use Rattle.sb_relation.specs.Db.{Name, Row}
use Rattle.sb_relation.specs.Fits.{relation_of}
use Rattle.sb_relation.specs.Lawful.{IsRow}
use Rattle.sb_fold.specs.Fold.{wish_for}
use Rattle.sb_standing.specs.Tables.{db_of}
use Rattle.sb_asking.specs.OpenRelation.{OpenRelation}
use Rattle.sb_asking.specs.Opened.{IsOpen}
use Rattle.sb_engine.specs.Working.{open_at}
use Rattle.sb_engine.proofs.OpenedLemmas.{has_open, open_at-all, wish_there-there}
use Rattle.sb_engine.proofs.OpeningLemmas.{may_wish, wishes_fit}
use Rattle.sb_engine.proofs.wishes.wish_at.Goals as goal

pub get_row-requires-clause-live : goal.get_row-requires-clause-live
get_row-requires-clause-live g c =
    let a = c.args.action.now in
    let at : open_at c.args.opened.now (relation_of a) ≡ Some c.in-Some.one.now =
    ap (λ (n : Name). open_at c.args.opened.now n) (sym c.relation_of.ensures) ∙ sym c.open_at.ensures ∙ ap (λ (o : Option (Bor OpenRelation)). option_copied o) c.in-Some.is in
    (open_at-all (IsOpen (g.B.Boxes.meanings c.args.boxes.now)) c.args.opened.now (relation_of a) c.in-Some.one.now c.requires.are_open at).live

pub returns-in_err-get_row-clause-undamaged : goal.returns-in_err-get_row-clause-undamaged
returns-in_err-get_row-clause-undamaged g c =
    let a = c.args.action.now in
    let at : open_at c.args.opened.now (relation_of a) ≡ Some c.in-Some.one.now =
    ap (λ (n : Name). open_at c.args.opened.now n) (sym c.relation_of.ensures) ∙ sym c.open_at.ensures ∙ ap (λ (o : Option (Bor OpenRelation)). option_copied o) c.in-Some.is in
    IfErr-passed c.from_residual.result c.in_err-get_row.field-0.0 _ c.from_residual.ensures.1 (λ want s kept keeping.
    let h = has_open (g.B.Boxes.meanings c.args.boxes.now) c.args.place.root s kept c.args.opened.now (relation_of a) c.in-Some.one.now keeping.tables keeping.opened at in
    c.in_err-get_row.ensures.undamaged want s h.k.relation.rows keeping.has h.rows)

pub returns-in-None-clause-wish : goal.returns-in-None-clause-wish
returns-in-None-clause-wish g c = λ want s kept keeping.
    let a = c.args.action.now in
    let at : open_at c.args.opened.now (relation_of a) ≡ Some c.in-Some.one.now =
    ap (λ (n : Name). open_at c.args.opened.now n) (sym c.relation_of.ensures) ∙ sym c.open_at.ensures ∙ ap (λ (o : Option (Bor OpenRelation)). option_copied o) c.in-Some.is in
    let h = has_open (g.B.Boxes.meanings c.args.boxes.now) c.args.place.root s kept c.args.opened.now (relation_of a) c.in-Some.one.now keeping.tables keeping.opened at in
    let row = c.in_ok-get_row.ensures.row want s h.k.relation.rows keeping.has h.rows in
    ap (λ (o : Option Row). wish_for c.in-Some.one.now.table.schema a c.args.key.now o) (sym c.in-None.is ∙ row)
    ∙ wish_there-there (db_of kept) a c.args.key.now h.k.relation c.in-Some.one.now.table.schema h.there h.schema

pub returns-in_ok-wish_for-in-Some-2-clause-wish : goal.returns-in_ok-wish_for-in-Some-2-clause-wish
returns-in_ok-wish_for-in-Some-2-clause-wish g c = λ want s kept keeping.
    let a = c.args.action.now in
    let at : open_at c.args.opened.now (relation_of a) ≡ Some c.in-Some.one.now =
    ap (λ (n : Name). open_at c.args.opened.now n) (sym c.relation_of.ensures) ∙ sym c.open_at.ensures ∙ ap (λ (o : Option (Bor OpenRelation)). option_copied o) c.in-Some.is in
    let h = has_open (g.B.Boxes.meanings c.args.boxes.now) c.args.place.root s kept c.args.opened.now (relation_of a) c.in-Some.one.now keeping.tables keeping.opened at in
    let row = c.in_ok-get_row.ensures.row want s h.k.relation.rows keeping.has h.rows in
    c.in_ok-wish_for-in-Some-2.ensures
    ∙ ap (λ (o : Option Row). wish_for c.in-Some.one.now.table.schema a c.args.key.now o) (sym c.in-Some-2.is ∙ row)
    ∙ wish_there-there (db_of kept) a c.args.key.now h.k.relation c.in-Some.one.now.table.schema h.there h.schema

pub returns-in_ok-wish_for-in-Some-2-clause-may : goal.returns-in_ok-wish_for-in-Some-2-clause-may
returns-in_ok-wish_for-in-Some-2-clause-may g c =
    let a = c.args.action.now in
    let may = c.requires.may in
    let at : open_at c.args.opened.now (relation_of a) ≡ Some c.in-Some.one.now =
    ap (λ (n : Name). open_at c.args.opened.now n) (sym c.relation_of.ensures) ∙ sym c.open_at.ensures ∙ ap (λ (o : Option (Bor OpenRelation)). option_copied o) c.in-Some.is in
    let one : c.in-Some.one.now ≡ may.one = same_Some c.in-Some.one.now may.one (sym at ∙ may.at) in
    let is = open_at-all (IsOpen (g.B.Boxes.meanings c.args.boxes.now)) c.args.opened.now (relation_of a) c.in-Some.one.now c.requires.are_open at in
    let same : c.in-Some.one.now.table.schema ≡ may.one.descriptor.schema = ap (λ (i : Instance). i.schema) is.table ∙ ap (λ (o : OpenRelation). o.descriptor.schema) one in
    let lawful = subst (λ (o : Option Row). IfSome o (IsRow c.in-Some.one.now.table.schema)) c.in-Some-2.is c.in_ok-get_row.ensures.is_row in
    let fits : Fits may.one.descriptor.schema c.in-Some-2.row = subst (λ (columns : List Column). Fits columns c.in-Some-2.row) same lawful.fits in
    may_wish c.args.opened.now (relation_of a) may.one c.in_ok-wish_for-in-Some-2.field-0 (wish_for may.one.descriptor.schema a c.args.key.now (Some c.in-Some-2.row)) may.at
    (c.in_ok-wish_for-in-Some-2.ensures ∙ ap (λ (columns : List Column). wish_for columns a c.args.key.now (Some c.in-Some-2.row)) same)
    (wishes_fit c.args.opened.now a c.args.key.now c.in-Some-2.row may fits)
