use Rattle.std.proofs.Common.{◌≡◌, ℕ, ◌+◌, arith, List, length, ◌++◌, map, Option, option_map, refl, sym, ap, subst, ◌∙◌}
use Rattle.sb_relation.specs.Db.{Db}
use Rattle.sb_standing.specs.Removes.{entries_without}
use Rattle.sb_drive.proofs.SpacesLemmas.{ArePages-few, IfErr-passed, LeadsWithin-more, LeadsWithin-none, LeadsWithin-on}
use Rattle.sb_engine.specs.Maps.{Becomes}
use Rattle.sb_standing.specs.Instances.{owners_of}
use Rattle.sb_standing.specs.Tables.{entry_of}
use Rattle.std.proofs.lemmas.List.Sums.{sum_by-append}
use Rattle.sb_fold.specs.Building.{bounds_at}
use Rattle.sb_fold.specs.Costs.{descriptor_cost, tree_cost}
use Rattle.sb_engine.specs.OpenRelation.{OpenRelation}
use Rattle.sb_engine.specs.Working.{extensions_of}
use Rattle.sb_engine.proofs.Faults.{catalogue-at}
use Rattle.sb_engine.proofs.RefusedLemmas.{refused_cause}
use Rattle.sb_tables.specs.Keeping.{KeepsDb}
use Rattle.sb_tables.specs.Removal.{without_name}
use Rattle.sb_tables.proofs.DetachedLemmas.{dropped, has_kept, keeps-later, keeps-more, none_dropped, not_kept, open_refused}
use Rattle.sb_tables.proofs.FullLemmas.{catalogue-full, read-full}
use Rattle.sb_tables.proofs.KeepingLemmas.{sound_undamaged}
use Rattle.sb_tables.proofs.LicenceLemmas.{catalogue-short}
use Rattle.sb_tables.proofs.SpendingLemmas.{entry_enough}
use Rattle.sb_tables.proofs.removal.drop_alone.Goals as goal

pub returns-in_err-one-clause-refused : goal.returns-in_err-one-clause-refused
returns-in_err-one-clause-refused g c =
    IfErr-passed c.from_residual.result c.in_err-one.field-0.0 _ c.from_residual.ensures.1
    (λ aside db keeps.
    open_refused g.S.PageSpace.has g.S.PageSpace.fails _ (g.B.Boxes.meanings c.args.boxes.now) c.args.place.root c.args.gone.now.items aside db c.args.space.now c.open_relation.new.space c.in_err-one.field-0.0
    c.in_err-one.ensures.looks.refused c.in_err-one.ensures.undamaged keeps)

pub returns-in_default-clause-dropped : goal.returns-in_default-clause-dropped
returns-in_default-clause-dropped g c = λ aside db keeps unnamed.
    let m = g.B.Boxes.meanings c.args.boxes.now in
    let found = c.in_ok-one.ensures.found keeps.want keeps.slots keeps.kept keeps.has keeps.keeps.tables in
    let none = not_kept keeps.kept c.args.name.now (ap (λ (o : Option OpenRelation). option_map (λ (x : OpenRelation). x.descriptor) o) (sym c.in_default.is) ∙ found) in
    keeps-more g.S.PageSpace.has m c.args.place.root c.args.gone.now.items aside _ (without_name db c.args.name.now) c.open_relation.new.space
    (λ f measure. omega (arith, sum_by-append f aside (bounds_at (extensions_of m) db c.args.name.now)))
    (subst (λ (x : Db). KeepsDb g.S.PageSpace.has m c.args.place.root c.args.gone.now.items aside x c.open_relation.new.space)
    (sym (none_dropped g.S.PageSpace.has m c.args.place.root c.args.gone.now.items aside db c.args.space.now c.open_relation.new.space c.open_relation.new.space keeps c.args.name.now none))
    (keeps-later g.S.PageSpace.has m c.args.place.root c.args.gone.now.items aside db c.args.space.now c.open_relation.new.space c.open_relation.new.space keeps c.in_ok-one.ensures.looks.same))

pub returns-in_err-remove-clause-refused : goal.returns-in_err-remove-clause-refused
returns-in_err-remove-clause-refused g c =
    let e = c.in_err-remove.field-0.0 in
    IfErr-passed c.from_residual-in_err-remove.result e _ c.from_residual-in_err-remove.ensures.1
    (λ aside db keeps.
    refused_cause g.S.PageSpace.fails _ c.open_relation.new.space c.remove.new.space e c.in_err-remove.ensures.works.refused
    (sound_undamaged e (c.in_err-remove.ensures.whole keeps.want keeps.slots (c.in_ok-one.ensures.looks.same keeps.want keeps.slots keeps.has) (map entry_of keeps.kept)
    (catalogue-at c.args.place keeps.slots keeps.kept c.requires.owner keeps.keeps.tables.catalogue))))

pub returns-in_err-one-clause-licensed : goal.returns-in_err-one-clause-licensed
returns-in_err-one-clause-licensed g c =
    IfErr-passed c.from_residual.result c.in_err-one.field-0.0 _ c.from_residual.ensures.1
    (λ aside most db holds. read-full g.S.PageSpace.has g.S.PageSpace.leads g.S.PageSpace.table most c.in_err-one.field-0.0 c.open_relation.new.space c.in_err-one.ensures.looks.fault)

pub returns-in_err-remove-clause-licensed : goal.returns-in_err-remove-clause-licensed
returns-in_err-remove-clause-licensed g c =
    let m = g.B.Boxes.meanings c.args.boxes.now in
    let place = c.args.place in
    let mid = c.open_relation.new.space in
    let e = c.in_err-remove.field-0.0 in
    let works = c.in_err-remove.ensures.works in
    IfErr-passed c.from_residual-in_err-remove.result e _ c.from_residual-in_err-remove.ensures.1
    (λ aside most db holds.
    let keeps = holds.keeps in
    let has = c.in_ok-one.ensures.looks.same keeps.want keeps.slots keeps.has in
    catalogue-full g.S.PageSpace.has g.S.PageSpace.leads g.S.PageSpace.table m place.root c.args.gone.now.items aside most db c.args.space.now mid c.remove.new.space holds
    g.met.S.PageSpace.tabled has works.leads e
    (catalogue-short g.S.PageSpace.leads g.S.PageSpace.durable g.S.PageSpace.total place mid keeps.slots (map entry_of keeps.kept) c.requires.owner keeps.keeps.tables.catalogue e
    (works.full keeps.want keeps.slots has)))

pub returns-in_err-remove-clause-leads : goal.returns-in_err-remove-clause-leads
returns-in_err-remove-clause-leads g c =
    let later = c.in_err-remove.ensures.works.leads in
    (0 + later.0, g.met.S.PageSpace.goes_on 0 later.0 c.args.space.now c.open_relation.new.space c.remove.new.space c.in_ok-one.ensures.looks.leads later.1)

pub returns-clause-dropped : goal.returns-clause-dropped
returns-clause-dropped g c = λ aside db keeps unnamed.
    let m = g.B.Boxes.meanings c.args.boxes.now in
    let gone = c.args.gone.now.items in
    let top = c.args.place.root in
    let d = c.in-Some.one.descriptor in
    let name = c.args.name.now in
    let mid = c.open_relation.new.space in
    let new = c.remove.new.space in
    let more : c.extend_from_slice.new.self.items ≡ gone ++ owners_of d =
    c.in_ok-extend_from_slice.ensures.items ∙ ap (λ (l : List ℕ). gone ++ l) (c.deref.ensures.value ∙ c.in_ok-owners.ensures) in
    let found = ap (λ (o : Option OpenRelation). option_map (λ (x : OpenRelation). x.descriptor) o) (sym c.in-Some.is)
    ∙ c.in_ok-one.ensures.found keeps.want keeps.slots keeps.kept keeps.has keeps.keeps.tables in
    let becomes : Becomes g.S.PageSpace.has c.args.place mid new (entries_without name) =
    subst (λ (key : List ℕ). Becomes g.S.PageSpace.has c.args.place mid new (entries_without key)) c.as_bytes.ensures c.in_ok-remove.ensures.removes.becomes in
    subst (λ (l : List ℕ). KeepsDb g.S.PageSpace.has m top l (aside ++ bounds_at (extensions_of m) db name) (without_name db name) new) (sym more)
    (dropped g.S.PageSpace.has m top gone aside db c.args.space.now mid new keeps c.args.place name d c.requires.owner refl (has_kept keeps.kept name d found) unnamed
    (c.in_ok-one.ensures.looks.same keeps.want keeps.slots keeps.has) becomes
    (λ o. ArePages-few keeps.slots o (g.met.S.PageSpace.whole keeps.want keeps.slots c.args.space.now keeps.has) (g.met.S.PageSpace.few keeps.want keeps.slots c.args.space.now keeps.has)))

pub returns-clause-leads : goal.returns-clause-leads
returns-clause-leads g c =
    let later = c.in_ok-remove.ensures.works.leads in
    (0 + later.0, g.met.S.PageSpace.goes_on 0 later.0 c.args.space.now c.open_relation.new.space c.remove.new.space c.in_ok-one.ensures.looks.leads later.1)

pub returns-in_err-one-clause-costs : goal.returns-in_err-one-clause-costs
returns-in_err-one-clause-costs g c = λ aside db keeps. LeadsWithin-none g.S.PageSpace.leads _ c.args.space.now c.open_relation.new.space c.in_err-one.ensures.looks.leads

pub returns-in_default-clause-costs : goal.returns-in_default-clause-costs
returns-in_default-clause-costs g c = λ aside db keeps. LeadsWithin-none g.S.PageSpace.leads _ c.args.space.now c.open_relation.new.space c.in_ok-one.ensures.looks.leads

pub returns-in_err-owners-clause-costs : goal.returns-in_err-owners-clause-costs
returns-in_err-owners-clause-costs g c = λ aside db keeps. LeadsWithin-none g.S.PageSpace.leads _ c.args.space.now c.open_relation.new.space c.in_ok-one.ensures.looks.leads

pub returns-in_err-extend_from_slice-clause-costs : goal.returns-in_err-extend_from_slice-clause-costs
returns-in_err-extend_from_slice-clause-costs g c = λ aside db keeps. LeadsWithin-none g.S.PageSpace.leads _ c.args.space.now c.open_relation.new.space c.in_ok-one.ensures.looks.leads

pub returns-in_err-remove-clause-costs : goal.returns-in_err-remove-clause-costs
returns-in_err-remove-clause-costs g c = λ aside db keeps.
    let m = g.B.Boxes.meanings c.args.boxes.now in
    let leads = g.S.PageSpace.leads in
    let mid = c.open_relation.new.space in
    let new = c.remove.new.space in
    let entries = map entry_of keeps.kept in
    LeadsWithin-on leads (descriptor_cost (extensions_of m) db) c.args.space.now mid new g.met.S.PageSpace.goes_on c.in_ok-one.ensures.looks.leads
    (LeadsWithin-more leads (tree_cost (length entries)) (descriptor_cost (extensions_of m) db) mid new
    (entry_enough g.S.PageSpace.has m c.args.place.root c.args.gone.now.items aside db c.args.space.now keeps)
    (c.in_err-remove.ensures.works.costs keeps.want keeps.slots (c.in_ok-one.ensures.looks.same keeps.want keeps.slots keeps.has) entries
    (catalogue-at c.args.place keeps.slots keeps.kept c.requires.owner keeps.keeps.tables.catalogue)))

pub returns-clause-costs : goal.returns-clause-costs
returns-clause-costs g c = λ aside db keeps.
    let m = g.B.Boxes.meanings c.args.boxes.now in
    let leads = g.S.PageSpace.leads in
    let mid = c.open_relation.new.space in
    let new = c.remove.new.space in
    let entries = map entry_of keeps.kept in
    LeadsWithin-on leads (descriptor_cost (extensions_of m) db) c.args.space.now mid new g.met.S.PageSpace.goes_on c.in_ok-one.ensures.looks.leads
    (LeadsWithin-more leads (tree_cost (length entries)) (descriptor_cost (extensions_of m) db) mid new
    (entry_enough g.S.PageSpace.has m c.args.place.root c.args.gone.now.items aside db c.args.space.now keeps)
    (c.in_ok-remove.ensures.works.costs keeps.want keeps.slots (c.in_ok-one.ensures.looks.same keeps.want keeps.slots keeps.has) entries
    (catalogue-at c.args.place keeps.slots keeps.kept c.requires.owner keeps.keeps.tables.catalogue)))
