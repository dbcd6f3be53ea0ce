use Rattle.std.proofs.Common.{◌≡◌, ℕ, ◌+◌, List, ◌++◌, length, map, Option, Some, option_map, IfSome, sym, ap, subst, ◌∙◌, arith}
use Rattle.std.specs.FinMap.Entries.{put}
use Rattle.sb_node.specs.Entries.{key_cmp}
use Rattle.sb_forms.specs.Maps.{map_in}
use Rattle.sb_relation.specs.Db.{Db}
use Rattle.std.proofs.lemmas.List.Sums.{sum_by-append}
use Rattle.sb_fold.specs.Building.{without_attached}
use Rattle.sb_fold.specs.Costs.{descriptor_cost, tree_cost}
use Rattle.sb_drive.proofs.SpacesLemmas.{ArePages-few, IfErr-passed, LeadsWithin-more, LeadsWithin-none, LeadsWithin-on, Leaves-so}
use Rattle.sb_catalog.specs.declared.descriptor.Descriptor.{Descriptor}
use Rattle.sb_catalog.specs.Descriptors.{IsShortDescriptor, descriptor_spelling}
use Rattle.sb_catalog.proofs.Storable.{IsShortDescriptor_from_storable}
use Rattle.sb_engine.specs.Changes.{IsSmall}
use Rattle.sb_standing.specs.Tables.{entry_of}
use Rattle.sb_standing.specs.Standing.{owners_named}
use Rattle.sb_engine.specs.OpenRelation.{OpenRelation}
use Rattle.sb_engine.specs.Opened.{IsOpen}
use Rattle.sb_engine.specs.Working.{extensions_of}
use Rattle.sb_tables.specs.Keeping.{KeepsWithin}
use Rattle.sb_tables.specs.Removal.{taken_bounds}
use Rattle.sb_tables.proofs.DetachedLemmas.{detached, has_kept, none_detached, not_kept, open_refused, within-later, within-more}
use Rattle.sb_tables.proofs.FullLemmas.{catalogue-full, read-full}
use Rattle.sb_tables.proofs.KeepingLemmas.{if_err, on_ok, small-kept, small-without, storable-without}
use Rattle.sb_tables.proofs.SpendingLemmas.{entry_enough}
use Rattle.sb_tables.proofs.mirrors.detach_kept.Goals as goal

pub returns-in_err-one-clause-refused : goal.returns-in_err-one-clause-refused
returns-in_err-one-clause-refused g c =
    IfErr-passed c.from_residual.result c.in_err-one.field-0.0 _ c.from_residual.ensures.1
    (λ aside db keeps.
    open_refused g.S.PageSpace.has g.S.PageSpace.fails _ (g.B.Boxes.meanings c.args.boxes.now) c.args.place.root c.args.gone.now.items aside db c.args.space.now c.open_relation.new.space c.in_err-one.field-0.0
    c.in_err-one.ensures.looks.refused c.in_err-one.ensures.undamaged keeps)

pub returns-in_default-clause-detached : goal.returns-in_default-clause-detached
returns-in_default-clause-detached g c = λ aside most db holds.
    let keeps = holds.keeps in
    let m = g.B.Boxes.meanings c.args.boxes.now in
    let found = c.in_ok-one.ensures.found keeps.want keeps.slots keeps.kept keeps.has keeps.keeps.tables in
    let none = not_kept keeps.kept c.args.relation.now (ap (λ (o : Option OpenRelation). option_map (λ (x : OpenRelation). x.descriptor) o) (sym c.in_default.is) ∙ found) in
    within-more g.S.PageSpace.has m c.args.place.root c.args.gone.now.items aside _ most (without_attached db c.args.relation.now c.args.label.now) c.open_relation.new.space (λ f measure. omega (arith, sum_by-append f aside (taken_bounds (extensions_of m) db c.args.relation.now c.args.label.now)))
    (subst (λ (x : Db). KeepsWithin g.S.PageSpace.has m c.args.place.root c.args.gone.now.items aside most x c.open_relation.new.space)
    (sym (none_detached g.S.PageSpace.has m c.args.place.root c.args.gone.now.items aside db c.args.space.now c.open_relation.new.space c.open_relation.new.space keeps c.args.relation.now c.args.label.now none))
    (within-later g.S.PageSpace.has m c.args.place.root c.args.gone.now.items aside most db c.args.space.now c.open_relation.new.space holds
    (c.in_ok-one.ensures.looks.same keeps.want keeps.slots keeps.has)))

pub enter-entered-requires-clause-short : goal.enter-entered-requires-clause-short
enter-entered-requires-clause-short g c =
    let m = g.B.Boxes.meanings c.args.boxes.now in
    let opened = subst (λ (o : Option OpenRelation). IfSome o (λ x. IsOpen m x × (x.name ≡ c.args.relation.now))) c.in-Some.is c.in_ok-one.ensures.opened in
    subst IsShortDescriptor (sym c.left_of-descriptor.ensures)
    (IsShortDescriptor_from_storable _ (storable-without c.args.label.now c.in-Some.one.descriptor opened.0.storable))

pub returns-in-Ok-clause-detached : goal.returns-in-Ok-clause-detached
returns-in-Ok-clause-detached g c =
    let m = g.B.Boxes.meanings c.args.boxes.now in
    let top = c.args.place.root in
    let gone = c.args.gone.now.items in
    let d = c.in-Some.one.descriptor in
    let relation = c.args.relation.now in
    let label = c.args.label.now in
    let mid = c.open_relation.new.space in
    let new = c.enter-entered.new.space in
    let more : c.note_named-noted.new.gone.items ≡ gone ++ owners_named label d = c.in-Ok.ensures.noted in
    on_ok c.enter-entered.result (λ entered aside most db holds.
    let keeps = holds.keeps in
    let found = ap (λ (o : Option OpenRelation). option_map (λ (x : OpenRelation). x.descriptor) o) (sym c.in-Some.is)
    ∙ c.in_ok-one.ensures.found keeps.want keeps.slots keeps.kept keeps.has keeps.keeps.tables in
    let it = has_kept keeps.kept relation d found in
    let left = entered keeps.want keeps.slots (map entry_of keeps.kept) (c.in_ok-one.ensures.looks.same keeps.want keeps.slots keeps.has) keeps.keeps.tables.catalogue in
    subst (λ (l : List ℕ). KeepsWithin g.S.PageSpace.has m top l (aside ++ taken_bounds (extensions_of m) db relation label) most (without_attached db relation label) new) (sym more)
    (detached g.S.PageSpace.has m top gone aside db c.args.space.now mid new keeps relation label d most holds.within it
    (Leaves-so g.S.PageSpace.has 2 keeps.want keeps.slots new
    (λ after. map_in top after ≡ Some (put key_cmp relation (descriptor_spelling c.left_of-descriptor.result) (map entry_of keeps.kept))) _
    (λ after is. is ∙ ap (λ (x : Descriptor). Some (put key_cmp relation (descriptor_spelling x) (map entry_of keeps.kept))) c.left_of-descriptor.ensures) left)
    (λ o. ArePages-few keeps.slots o (g.met.S.PageSpace.whole keeps.want keeps.slots c.args.space.now keeps.has) (g.met.S.PageSpace.few keeps.want keeps.slots c.args.space.now keeps.has))))
    c.enter-entered.ensures.entered

pub returns-in-Ok-clause-refused : goal.returns-in-Ok-clause-refused
returns-in-Ok-clause-refused g c =
    let m = g.B.Boxes.meanings c.args.boxes.now in
    let d = c.in-Some.one.descriptor in
    let relation = c.args.relation.now in
    if_err _ _ c.enter-entered.result (λ e refused aside db keeps.
    let found = ap (λ (o : Option OpenRelation). option_map (λ (x : OpenRelation). x.descriptor) o) (sym c.in-Some.is)
    ∙ c.in_ok-one.ensures.found keeps.want keeps.slots keeps.kept keeps.has keeps.keeps.tables in
    let it = has_kept keeps.kept relation d found in
    let small = subst (λ (x : Descriptor). IsSmall relation (descriptor_spelling x)) it.same
    (small-kept m c.args.place.root keeps.slots keeps.kept relation it.one keeps.keeps.tables it.at) in
    refused keeps.want keeps.slots (map entry_of keeps.kept) (c.in_ok-one.ensures.looks.same keeps.want keeps.slots keeps.has) keeps.keeps.tables.catalogue
    (subst (λ (x : Descriptor). IsSmall relation (descriptor_spelling x)) (sym c.left_of-descriptor.ensures) (small-without relation c.args.label.now d small)))
    c.enter-entered.ensures.refused

pub returns-in_err-one-clause-licensed : goal.returns-in_err-one-clause-licensed
returns-in_err-one-clause-licensed g c =
    IfErr-passed c.from_residual.result c.in_err-one.field-0.0 _ c.from_residual.ensures.1
    (λ aside most db holds. read-full g.S.PageSpace.has g.S.PageSpace.leads g.S.PageSpace.table most c.in_err-one.field-0.0 c.open_relation.new.space c.in_err-one.ensures.looks.fault)

pub returns-in-Ok-clause-licensed : goal.returns-in-Ok-clause-licensed
returns-in-Ok-clause-licensed g c =
    let m = g.B.Boxes.meanings c.args.boxes.now in
    let mid = c.open_relation.new.space in
    if_err _ _ c.enter-entered.result (λ e full aside most db holds.
    let keeps = holds.keeps in
    let has = c.in_ok-one.ensures.looks.same keeps.want keeps.slots keeps.has in
    catalogue-full g.S.PageSpace.has g.S.PageSpace.leads g.S.PageSpace.table m c.args.place.root c.args.gone.now.items aside most db c.args.space.now mid c.enter-entered.new.space holds
    g.met.S.PageSpace.tabled has c.enter-entered.ensures.leads e (full keeps.want keeps.slots (map entry_of keeps.kept) has keeps.keeps.tables.catalogue))
    c.enter-entered.ensures.full

pub returns-in_err-one-clause-costs : goal.returns-in_err-one-clause-costs
returns-in_err-one-clause-costs g c = λ aside db keeps. LeadsWithin-none g.S.PageSpace.leads _ c.args.space.now c.open_relation.new.space c.in_err-one.ensures.looks.leads

pub returns-in_default-clause-costs : goal.returns-in_default-clause-costs
returns-in_default-clause-costs g c = λ aside db keeps. LeadsWithin-none g.S.PageSpace.leads _ c.args.space.now c.open_relation.new.space c.in_ok-one.ensures.looks.leads

pub returns-in-Err-clause-costs : goal.returns-in-Err-clause-costs
returns-in-Err-clause-costs g c = λ aside db keeps. LeadsWithin-none g.S.PageSpace.leads _ c.args.space.now c.open_relation.new.space c.in_ok-one.ensures.looks.leads

pub returns-in-Ok-clause-costs : goal.returns-in-Ok-clause-costs
returns-in-Ok-clause-costs g c = λ aside db keeps.
    let m = g.B.Boxes.meanings c.args.boxes.now in
    let leads = g.S.PageSpace.leads in
    let mid = c.open_relation.new.space in
    let new = c.enter-entered.new.space in
    let entries = map entry_of keeps.kept in
    LeadsWithin-on leads (descriptor_cost (extensions_of m) db) c.args.space.now mid new g.met.S.PageSpace.goes_on c.in_ok-one.ensures.looks.leads
    (LeadsWithin-more leads (tree_cost (length entries)) (descriptor_cost (extensions_of m) db) mid new
    (entry_enough g.S.PageSpace.has m c.args.place.root c.args.gone.now.items aside db c.args.space.now keeps)
    (c.enter-entered.ensures.costs keeps.want keeps.slots entries (c.in_ok-one.ensures.looks.same keeps.want keeps.slots keeps.has) keeps.keeps.tables.catalogue))

pub returns-in-Ok-clause-leads : goal.returns-in-Ok-clause-leads
returns-in-Ok-clause-leads g c =
    let later = c.enter-entered.ensures.leads in
    (0 + later.0, g.met.S.PageSpace.goes_on 0 later.0 c.args.space.now c.open_relation.new.space c.enter-entered.new.space c.in_ok-one.ensures.looks.leads later.1)
