use Rattle.std.proofs.Common.{Option, Ok, Err, IfSome, option_map, sym, ap, ◌∙◌, subst}
use Rattle.std.specs.Option.{option_copied}
use Rattle.sb_drive.proofs.SpacesLemmas.{IfErr-passed}
use Rattle.sb_standing.proofs.CallsLemmas.{Looks-later, Looks-made, Looks-passed}
use Rattle.sb_standing.specs.Tables.{Kept, db_of, first_above}
use Rattle.sb_standing.proofs.StandLemmas.{StandRules-keeps}
use Rattle.sb_asking.specs.OpenRelation.{OpenRelation}
use Rattle.sb_asking.specs.Opened.{IsDurable, IsOpen, header_of, kept_header}
use Rattle.sb_engine.specs.Failing.{first_late}
use Rattle.sb_engine.specs.Working.{extensions_of}
use Rattle.sb_engine.proofs.WalkLemmas.{next_open, none_next, opened_next}
use Rattle.sb_engine.proofs.failing.next_failing.Goals as goal

pub returns-in_err-one-clause-undamaged : goal.returns-in_err-one-clause-undamaged
returns-in_err-one-clause-undamaged g c =
    IfErr-passed c.from_residual.result c.in_err-one.field-0.0 _ c.from_residual.ensures.1
    (λ want s gone kept has keeps. c.in_err-one.ensures.undamaged want s kept has keeps.tables (StandRules-keeps (g.B.Boxes.meanings c.args.boxes.now) IsDurable c.args.place.root s gone kept keeps))

pub returns-in_default-clause-found : goal.returns-in_default-clause-found
returns-in_default-clause-found g c = λ want s gone kept has keeps complete.
    let m = g.B.Boxes.meanings c.args.boxes.now in
    let none = none_next (first_above (option_copied c.args.after) kept) kept_header
    (sym (ap (λ (o : Option OpenRelation). option_map header_of o) c.in_default.is) ∙ c.in_ok-one.ensures.found want s kept has keeps.tables) in
    sym (ap (λ (o : Option Kept). option_map (λ (k : Kept). (k.name, first_late (extensions_of m) (db_of kept) k)) o) none)

-- ---- its rules are tested
pub returns-in_err-failing-clause-undamaged : goal.returns-in_err-failing-clause-undamaged
returns-in_err-failing-clause-undamaged g c =
    let m = g.B.Boxes.meanings c.args.boxes.now in
    let is_open = subst (λ (o : Option OpenRelation). IfSome o (IsOpen m)) c.in-Some.is c.in_ok-one.ensures.opened in
    IfErr-passed c.from_residual-in_err-failing.result c.in_err-failing.field-0.0 _ c.from_residual-in_err-failing.ensures.1
    (λ want s gone kept has keeps.
    let found = sym (ap (λ (o : Option OpenRelation). option_map header_of o) c.in-Some.is) ∙ c.in_ok-one.ensures.found want s kept has keeps.tables in
    let next = opened_next m kept (option_copied c.args.after) c.in-Some.one keeps.tables.rising is_open found in
    c.in_err-failing.ensures.undamaged want s gone kept (c.in_ok-one.ensures.looks.same want s has) keeps next.3)

pub returns-in_err-failing-clause-looks : goal.returns-in_err-failing-clause-looks
returns-in_err-failing-clause-looks g c =
    let first = c.in_ok-one.ensures.looks in
    Looks-passed g.S.PageSpace.has g.S.PageSpace.leads g.S.PageSpace.fails c.args.space.now c.first_late.new.space c.from_residual-in_err-failing.result c.in_err-failing.field-0.0 c.from_residual-in_err-failing.ensures.1
    (Looks-later g.S.PageSpace.has g.S.PageSpace.leads g.S.PageSpace.fails c.args.space.now c.next_relation.new.space c.first_late.new.space (Err c.in_err-failing.field-0.0) g.met.S.PageSpace.goes_on g.met.S.PageSpace.fails_on first.leads first.same c.in_err-failing.ensures.looks)

pub returns-clause-found : goal.returns-clause-found
returns-clause-found g c = λ want s gone kept has keeps complete.
    let m = g.B.Boxes.meanings c.args.boxes.now in
    let is_open = subst (λ (o : Option OpenRelation). IfSome o (IsOpen m)) c.in-Some.is c.in_ok-one.ensures.opened in
    let found = sym (ap (λ (o : Option OpenRelation). option_map header_of o) c.in-Some.is) ∙ c.in_ok-one.ensures.found want s kept has keeps.tables in
    let next = opened_next m kept (option_copied c.args.after) c.in-Some.one keeps.tables.rising is_open found in
    next_open (extensions_of m) kept (option_copied c.args.after) next.0 c.in-Some.one.name c.in_ok-failing.failing next.1 next.2
    (c.in_ok-failing.ensures.found want s gone kept (c.in_ok-one.ensures.looks.same want s has) keeps next.3 complete ∙ ap (λ (k : Kept). first_late (extensions_of m) (db_of kept) k) next.4)

pub returns-clause-looks : goal.returns-clause-looks
returns-clause-looks g c =
    let first = c.in_ok-one.ensures.looks in
    Looks-made g.S.PageSpace.has g.S.PageSpace.leads g.S.PageSpace.fails c.args.space.now c.first_late.new.space c.in_ok-failing.failing _
    (Looks-later g.S.PageSpace.has g.S.PageSpace.leads g.S.PageSpace.fails c.args.space.now c.next_relation.new.space c.first_late.new.space (Ok c.in_ok-failing.failing) g.met.S.PageSpace.goes_on g.met.S.PageSpace.fails_on first.leads first.same c.in_ok-failing.ensures.looks)
