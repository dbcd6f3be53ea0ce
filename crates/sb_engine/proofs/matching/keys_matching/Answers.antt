use Rattle.std.proofs.Common.{◌≡◌, List, Option, Some, Bor, map, filter, sym, ap, ◌∙◌}
use Rattle.std.specs.Option.{option_copied}
use Rattle.sb_drive.proofs.SpacesLemmas.{IfErr-passed}
use Rattle.sb_pred.specs.declared.predicate.Term.{Term}
use Rattle.sb_relation.specs.Db.{Name}
use Rattle.sb_relation.specs.Fits.{relation_of}
use Rattle.sb_fold.specs.Wishes.{is_match}
use Rattle.sb_standing.specs.Tables.{db_of}
use Rattle.sb_asking.specs.OpenRelation.{OpenRelation}
use Rattle.sb_asking.specs.Opened.{IsOpen}
use Rattle.sb_engine.specs.Working.{open_at}
use Rattle.sb_engine.proofs.OpenedLemmas.{has_open, matching-there, open_at-all}
use Rattle.sb_engine.proofs.matching.keys_matching.Goals as goal

pub keys_where-requires-clause-live : goal.keys_where-requires-clause-live
keys_where-requires-clause-live g c =
    let a = c.args.action.now in
    let at : open_at c.args.opened.now (relation_of a) ≡ Some c.in-Some.one.now =
    ap (λ (n : Name). open_at c.args.opened.now n) (sym c.relation_of.ensures) ∙ sym c.open_at.ensures ∙ ap (λ (o : Option (Bor OpenRelation)). option_copied o) c.in-Some.is in
    (open_at-all (IsOpen (g.B.Boxes.meanings c.args.boxes.now)) c.args.opened.now (relation_of a) c.in-Some.one.now c.requires.are_open at).live

pub returns-in_err-keys-clause-undamaged : goal.returns-in_err-keys-clause-undamaged
returns-in_err-keys-clause-undamaged g c =
    let a = c.args.action.now in
    let at : open_at c.args.opened.now (relation_of a) ≡ Some c.in-Some.one.now =
    ap (λ (n : Name). open_at c.args.opened.now n) (sym c.relation_of.ensures) ∙ sym c.open_at.ensures ∙ ap (λ (o : Option (Bor OpenRelation)). option_copied o) c.in-Some.is in
    IfErr-passed c.from_residual.result c.in_err-keys.field-0.0 _ c.from_residual.ensures.1 (λ want s kept keeping.
    let h = has_open (g.B.Boxes.meanings c.args.boxes.now) c.args.place.root s kept c.args.opened.now (relation_of a) c.in-Some.one.now keeping.tables keeping.opened at in
    c.in_err-keys.ensures.undamaged want s h.k.relation.rows keeping.has h.rows)

pub returns-clause-keys : goal.returns-clause-keys
returns-clause-keys g c = λ want s kept keeping.
    let a = c.args.action.now in
    let at : open_at c.args.opened.now (relation_of a) ≡ Some c.in-Some.one.now =
    ap (λ (n : Name). open_at c.args.opened.now n) (sym c.relation_of.ensures) ∙ sym c.open_at.ensures ∙ ap (λ (o : Option (Bor OpenRelation)). option_copied o) c.in-Some.is in
    let h = has_open (g.B.Boxes.meanings c.args.boxes.now) c.args.place.root s kept c.args.opened.now (relation_of a) c.in-Some.one.now keeping.tables keeping.opened at in
    c.into_vec.ensures ∙ c.in_ok-keys.ensures.keys want s h.k.relation.rows keeping.has h.rows
    ∙ ap (λ (pairs : List (Name × Term)). map (λ row. row.0) (filter (λ row. is_match c.in-Some.one.now.table.schema pairs row.1) h.k.relation.rows)) c.pairs_of.ensures
    ∙ matching-there (db_of kept) a h.k.relation c.in-Some.one.now.table.schema h.there h.schema
