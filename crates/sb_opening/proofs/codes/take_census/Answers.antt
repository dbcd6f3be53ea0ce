use Rattle.std.proofs.Common.{◌∙◌, Option, Ok, Err, option_map, sym, ap}
use Rattle.sb_drive.proofs.SpacesLemmas.{IfErr-passed}
use Rattle.sb_standing.proofs.CallsLemmas.{Looks-later, Looks-made, Looks-no_memory, Looks-passed}
use Rattle.sb_relation.specs.Db.{Name}
use Rattle.sb_standing.specs.Instances.{owners_of}
use Rattle.sb_standing.specs.Tables.{first_above}
use Rattle.sb_session.specs.Opened.{kept_header}
use Rattle.sb_opening.specs.Naming.{named_by}
use Rattle.sb_opening.proofs.NamedLemmas.{IsRead-all, IsRead-next, IsRead-none}
use Rattle.sb_opening.proofs.codes.take_census.Goals as goal

pub returns-in_err-name-clause-undamaged : goal.returns-in_err-name-clause-undamaged
returns-in_err-name-clause-undamaged g c =
    IfErr-passed c.from_residual.result c.in_err-name.field-0.0 _ c.from_residual.ensures.1
    (λ m want s kept has tables. c.in_err-name.ensures.undamaged m want s kept (c.relations.invariant.has want s has) tables)

pub returns-in_err-name-clause-looks : goal.returns-in_err-name-clause-looks
returns-in_err-name-clause-looks g c =
    let fault = c.in_err-name.field-0.0 in
    Looks-passed g.S.PageSpace.has g.S.PageSpace.leads g.S.PageSpace.fails c.args.space.now c.next_descriptor.new.space c.from_residual.result fault c.from_residual.ensures.1
    (Looks-later g.S.PageSpace.has g.S.PageSpace.leads g.S.PageSpace.fails c.args.space.now c.relations.space c.next_descriptor.new.space (Err fault) g.met.S.PageSpace.goes_on g.met.S.PageSpace.fails_on c.relations.invariant.leads c.relations.invariant.has c.in_err-name.ensures.looks)

pub returns-in_default-clause-codes : goal.returns-in_default-clause-codes
returns-in_default-clause-codes g c = λ m want s kept has tables.
    let before = c.relations.invariant in
    IsRead-all named_by kept c.relations.last c.relations.named.items
    (sym c.in_default.is ∙ (c.in_ok-name.ensures.found m want s kept (before.has want s has) tables ∙ ap (λ (o : Option Name). option_map kept_header (first_above o kept)) c.as_ref.ensures.value))
    (before.coded m want s kept has tables)

pub returns-in_default-clause-owners : goal.returns-in_default-clause-owners
returns-in_default-clause-owners g c = λ m want s kept has tables.
    let before = c.relations.invariant in
    IsRead-all owners_of kept c.relations.last c.relations.owners.items
    (sym c.in_default.is ∙ (c.in_ok-name.ensures.found m want s kept (before.has want s has) tables ∙ ap (λ (o : Option Name). option_map kept_header (first_above o kept)) c.as_ref.ensures.value))
    (before.owned m want s kept has tables)

pub returns-in_default-clause-looks : goal.returns-in_default-clause-looks
returns-in_default-clause-looks g c =
    Looks-made g.S.PageSpace.has g.S.PageSpace.leads g.S.PageSpace.fails c.args.space.now c.next_descriptor.new.space c.in_ok-name.field-0 _
    (Looks-later g.S.PageSpace.has g.S.PageSpace.leads g.S.PageSpace.fails c.args.space.now c.relations.space c.next_descriptor.new.space (Ok c.in_ok-name.field-0) g.met.S.PageSpace.goes_on g.met.S.PageSpace.fails_on c.relations.invariant.leads c.relations.invariant.has c.in_ok-name.ensures.looks)

pub returns-in_err-added-clause-looks : goal.returns-in_err-added-clause-looks
returns-in_err-added-clause-looks g c =
    let looks = c.in_ok-name.ensures.looks in
    Looks-no_memory g.S.PageSpace.has g.S.PageSpace.leads g.S.PageSpace.fails c.args.space.now c.next_descriptor.new.space c.from_residual-in_err-added.result c.from_residual-in_err-added.ensures.1
    (g.met.S.PageSpace.goes_on 0 0 c.args.space.now c.relations.space c.next_descriptor.new.space c.relations.invariant.leads looks.leads) (λ want s has. looks.same want s (c.relations.invariant.has want s has))

pub relations-preserved : goal.relations-preserved
relations-preserved g c =
    let looks = c.in_ok-name.ensures.looks in
    record {
      ready = c.in_ok-name.ensures.ready;
      leads = g.met.S.PageSpace.goes_on 0 0 c.args.space.now c.relations.space c.next_descriptor.new.space c.relations.invariant.leads looks.leads;
      has = λ want s has. looks.same want s (c.relations.invariant.has want s has);
      coded = λ m want s kept has tables.
          let before = c.relations.invariant in
          IsRead-next named_by kept c.relations.last c.relations.named.items c.add_both-added.new.codes.items c.in-Some.name c.in-Some.descriptor tables.rising
          (sym c.in-Some.is ∙ (c.in_ok-name.ensures.found m want s kept (before.has want s has) tables ∙ ap (λ (o : Option Name). option_map kept_header (first_above o kept)) c.as_ref.ensures.value))
          c.in_ok-added.ensures.codes (before.coded m want s kept has tables);
      owned = λ m want s kept has tables.
          let before = c.relations.invariant in
          IsRead-next owners_of kept c.relations.last c.relations.owners.items c.add_both-added.new.owners.items c.in-Some.name c.in-Some.descriptor tables.rising
          (sym c.in-Some.is ∙ (c.in_ok-name.ensures.found m want s kept (before.has want s has) tables ∙ ap (λ (o : Option Name). option_map kept_header (first_above o kept)) c.as_ref.ensures.value))
          c.in_ok-added.ensures.owners (before.owned m want s kept has tables);
    }

pub relations-init : goal.relations-init
relations-init g c = record {
  ready = c.requires.ready;
  leads = g.met.S.PageSpace.stays c.args.space.now;
  has = λ want s has. has;
  coded = λ m want s kept has tables. IsRead-none named_by kept c.new-named.result.items c.new-named.ensures.items;
  owned = λ m want s kept has tables. IsRead-none owners_of kept c.new-owners.result.items c.new-owners.ensures.items;
}
