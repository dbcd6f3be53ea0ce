use Rattle.std.proofs.Common.{◌∙◌, List, length, ◌-◌, Option, Ok, Err, option_map, sym, ap}
use Rattle.std.specs.List.{slice_get}
use Rattle.sb_drive.proofs.SpacesLemmas.{IfErr-passed}
use Rattle.sb_rows.proofs.CallsLemmas.{Looks-later, Looks-made, Looks-no_memory, Looks-passed}
use Rattle.sb_relation.specs.Db.{Name}
use Rattle.sb_standing.specs.Tables.{first_above}
use Rattle.sb_standing.proofs.StandLemmas.{StandRules-keeps}
use Rattle.sb_asking.specs.Opened.{IsDurable, header_of, kept_header}
use Rattle.sb_reads.proofs.NamesLemmas.{AreNamed-all, AreNamed-next}
use Rattle.sb_reads.proofs.names.all_names.Goals as goal

pub returns-in_err-next-clause-undamaged : goal.returns-in_err-next-clause-undamaged
returns-in_err-next-clause-undamaged g c =
    IfErr-passed c.from_residual.result c.in_err-next.field-0.0 _ c.from_residual.ensures.1 (λ want s gone kept has keeps.
    c.in_err-next.ensures.undamaged want s kept (c.names.invariant.has want s has) keeps.tables (StandRules-keeps _ IsDurable c.args.place.root s gone kept keeps))

pub returns-in_err-next-clause-looks : goal.returns-in_err-next-clause-looks
returns-in_err-next-clause-looks g c =
    let fault = c.in_err-next.field-0.0 in
    Looks-passed g.S.PageSpace.has g.S.PageSpace.leads g.S.PageSpace.fails c.args.space.now c.next_relation.new.space c.from_residual.result fault c.from_residual.ensures.1
    (Looks-later g.S.PageSpace.has g.S.PageSpace.leads g.S.PageSpace.fails c.args.space.now c.names.space c.next_relation.new.space (Err fault) g.met.S.PageSpace.goes_on g.met.S.PageSpace.fails_on c.names.invariant.leads c.names.invariant.has c.in_err-next.ensures.looks)

pub returns-in_default-clause-names : goal.returns-in_default-clause-names
returns-in_default-clause-names g c = λ want s gone kept has keeps.
    let m = g.B.Boxes.meanings c.args.boxes.now in
    let before = c.names.invariant in
    let last = c.last.ensures.value ∙ ap (λ (ns : List Name). slice_get ns (length ns - 1)) c.deref.ensures.value in
    let next = c.in_ok-next.ensures.found want s kept (before.has want s has) keeps.tables ∙ ap (λ (o : Option Name). option_map kept_header (first_above o kept)) last in
    c.from_vec.ensures ∙ AreNamed-all kept c.names.names.items (ap (option_map header_of) (sym c.in_default.is) ∙ next) (before.named want s gone kept has keeps)

pub returns-in_default-clause-looks : goal.returns-in_default-clause-looks
returns-in_default-clause-looks g c =
    Looks-made g.S.PageSpace.has g.S.PageSpace.leads g.S.PageSpace.fails c.args.space.now c.next_relation.new.space c.in_ok-next.field-0 _
    (Looks-later g.S.PageSpace.has g.S.PageSpace.leads g.S.PageSpace.fails c.args.space.now c.names.space c.next_relation.new.space (Ok c.in_ok-next.field-0) g.met.S.PageSpace.goes_on g.met.S.PageSpace.fails_on c.names.invariant.leads c.names.invariant.has c.in_ok-next.ensures.looks)

pub returns-in_err-add_name-clause-looks : goal.returns-in_err-add_name-clause-looks
returns-in_err-add_name-clause-looks g c =
    let looks = c.in_ok-next.ensures.looks in
    Looks-no_memory g.S.PageSpace.has g.S.PageSpace.leads g.S.PageSpace.fails c.args.space.now c.next_relation.new.space c.from_residual-in_err-add_name.result c.from_residual-in_err-add_name.ensures.1
    (g.met.S.PageSpace.goes_on 0 0 c.args.space.now c.names.space c.next_relation.new.space c.names.invariant.leads looks.leads) (λ want s has. looks.same want s (c.names.invariant.has want s has))

pub names-preserved : goal.names-preserved
names-preserved g c =
    let looks = c.in_ok-next.ensures.looks in
    record {
      ready = c.in_ok-next.ensures.ready;
      leads = g.met.S.PageSpace.goes_on 0 0 c.args.space.now c.names.space c.next_relation.new.space c.names.invariant.leads looks.leads;
      has = λ want s has. looks.same want s (c.names.invariant.has want s has);
      named = λ want s gone kept has keeps.
          let m = g.B.Boxes.meanings c.args.boxes.now in
          let before = c.names.invariant in
          let last = c.last.ensures.value ∙ ap (λ (ns : List Name). slice_get ns (length ns - 1)) c.deref.ensures.value in
          let next = c.in_ok-next.ensures.found want s kept (before.has want s has) keeps.tables ∙ ap (λ (o : Option Name). option_map kept_header (first_above o kept)) last in
          AreNamed-next kept c.names.names.items c.add_name.new.names.items c.in-Some.next.name c.in-Some.next.descriptor keeps.tables.rising (ap (option_map header_of) (sym c.in-Some.is) ∙ next) c.in_ok-add_name.ensures
          (before.named want s gone kept has keeps);
    }
