use Rattle.std.proofs.Common.{ℕ, ◌+◌, ◌*◌, arith, List, ◌++◌, length, Option, option_map, sym, ap, subst, ◌∙◌}
use Rattle.sb_relation.specs.Db.{Db}
use Rattle.std.proofs.lemmas.List.Sums.{sum_by-append}
use Rattle.sb_drive.specs.Spaces.{LeadsWithin}
use Rattle.sb_drive.proofs.SpacesLemmas.{IfErr-passed, LeadsWithin-none, LeadsWithin-on}
use Rattle.sb_catalog.specs.declared.descriptor.Attached.{Attached}
use Rattle.sb_fold.specs.Building.{mirrored_in, without_mirrors}
use Rattle.sb_fold.specs.Costs.{descriptor_cost}
use Rattle.sb_fold.specs.Fold.{attachments_at}
use Rattle.sb_engine.specs.OpenRelation.{OpenRelation}
use Rattle.sb_engine.specs.Working.{extensions_of}
use Rattle.sb_tables.specs.Keeping.{KeepsWithin}
use Rattle.sb_tables.specs.Removal.{mirrors_bounds, mirrors_bounds_of, mirrors_cost, without_mirrors_of}
use Rattle.sb_tables.proofs.DetachedLemmas.{has_kept, keeps-later, mirrors-held, mirrors-kept, none_mirrored, not_kept, open_refused, within-later, within-more}
use Rattle.sb_tables.proofs.FullLemmas.{read-full}
use Rattle.sb_tables.proofs.KeepingLemmas.{if_err, on_ok}
use Rattle.sb_tables.proofs.SpendingLemmas.{mirrors-charged}
use Rattle.sb_tables.proofs.mirrors.detach_mirrors.Goals as goal

pub returns-in_err-one-clause-refused : goal.returns-in_err-one-clause-refused
returns-in_err-one-clause-refused g c =
    IfErr-passed c.from_residual.result c.in_err-one.field-0.0 _ c.from_residual.ensures.1
    (λ aside db keeps.
    open_refused g.S.PageSpace.has g.S.PageSpace.fails _ (g.B.Boxes.meanings c.args.boxes.now) c.args.place.root c.args.gone.now.items aside db c.args.space.now c.open_relation.new.space c.in_err-one.field-0.0
    c.in_err-one.ensures.looks.refused c.in_err-one.ensures.undamaged keeps)

pub returns-in_err-one-clause-licensed : goal.returns-in_err-one-clause-licensed
returns-in_err-one-clause-licensed g c =
    IfErr-passed c.from_residual.result c.in_err-one.field-0.0 _ c.from_residual.ensures.1
    (λ aside most db holds. read-full g.S.PageSpace.has g.S.PageSpace.leads g.S.PageSpace.table most c.in_err-one.field-0.0 c.open_relation.new.space c.in_err-one.ensures.looks.fault)

pub returns-in_default-clause-detached : goal.returns-in_default-clause-detached
returns-in_default-clause-detached g c = λ aside most db holds.
    let keeps = holds.keeps in
    let m = g.B.Boxes.meanings c.args.boxes.now in
    let found = c.in_ok-one.ensures.found keeps.want keeps.slots keeps.kept keeps.has keeps.keeps.tables in
    let none = not_kept keeps.kept c.args.name.now (ap (λ (o : Option OpenRelation). option_map (λ (x : OpenRelation). x.descriptor) o) (sym c.in_default.is) ∙ found) in
    within-more g.S.PageSpace.has m c.args.place.root c.args.gone.now.items aside _ most (without_mirrors c.args.name.now (attachments_at db c.args.name.now) db) c.open_relation.new.space (λ f measure. omega (arith, sum_by-append f aside (mirrors_bounds (extensions_of m) c.args.name.now (attachments_at db c.args.name.now) db)))
    (subst (λ (x : Db). KeepsWithin g.S.PageSpace.has m c.args.place.root c.args.gone.now.items aside most x c.open_relation.new.space)
    (sym (none_mirrored g.S.PageSpace.has m c.args.place.root c.args.gone.now.items aside db c.args.space.now c.open_relation.new.space c.open_relation.new.space keeps c.args.name.now none))
    (within-later g.S.PageSpace.has m c.args.place.root c.args.gone.now.items aside most db c.args.space.now c.open_relation.new.space holds
    (c.in_ok-one.ensures.looks.same keeps.want keeps.slots keeps.has)))

pub returns-clause-detached : goal.returns-clause-detached
returns-clause-detached g c =
    let m = g.B.Boxes.meanings c.args.boxes.now in
    let gone = c.args.gone.now.items in
    let top = c.args.place.root in
    let mid = c.open_relation.new.space in
    let name = c.args.name.now in
    on_ok c.detach_mirrors_of.result (λ detached aside most db holds.
    let keeps = holds.keeps in
    let found = ap (λ (o : Option OpenRelation). option_map (λ (x : OpenRelation). x.descriptor) o) (sym c.in-Some.is)
    ∙ c.in_ok-one.ensures.found keeps.want keeps.slots keeps.kept keeps.has keeps.keeps.tables in
    let it = has_kept keeps.kept name c.in-Some.one.descriptor found in
    let is = ap (λ (ds : List Attached). without_mirrors_of name ds db) c.as_slice.ensures
    ∙ mirrors-kept g.S.PageSpace.has m top gone aside db c.args.space.now mid mid keeps name c.in-Some.one.descriptor it in
    let held = ap (λ (ds : List Attached). mirrors_bounds_of (extensions_of m) name ds db) c.as_slice.ensures
    ∙ mirrors-held g.S.PageSpace.has m top gone aside db c.args.space.now mid mid keeps name c.in-Some.one.descriptor it in
    subst (λ (l : List ℕ). KeepsWithin g.S.PageSpace.has m top c.detach_mirrors_of.new.gone.items (aside ++ l) most (without_mirrors name (attachments_at db name) db) c.detach_mirrors_of.new.space) held
    (subst (λ (x : Db). KeepsWithin g.S.PageSpace.has m top c.detach_mirrors_of.new.gone.items (aside ++ mirrors_bounds_of (extensions_of m) name c.as_slice.result.now db) most x c.detach_mirrors_of.new.space) is
    (detached aside most db (within-later g.S.PageSpace.has m top gone aside most db c.args.space.now mid holds (c.in_ok-one.ensures.looks.same keeps.want keeps.slots keeps.has)))))
    c.detach_mirrors_of.ensures.detached

pub returns-clause-refused : goal.returns-clause-refused
returns-clause-refused g c =
    let m = g.B.Boxes.meanings c.args.boxes.now in
    let mid = c.open_relation.new.space in
    if_err _ _ c.detach_mirrors_of.result
    (λ e refused aside db keeps.
    refused aside db (keeps-later g.S.PageSpace.has m c.args.place.root c.args.gone.now.items aside db c.args.space.now mid mid keeps c.in_ok-one.ensures.looks.same))
    c.detach_mirrors_of.ensures.refused

pub returns-clause-licensed : goal.returns-clause-licensed
returns-clause-licensed g c =
    let m = g.B.Boxes.meanings c.args.boxes.now in
    if_err _ _ c.detach_mirrors_of.result
    (λ e licensed aside most db holds.
    licensed aside most db (within-later g.S.PageSpace.has m c.args.place.root c.args.gone.now.items aside most db c.args.space.now c.open_relation.new.space holds
    (c.in_ok-one.ensures.looks.same holds.keeps.want holds.keeps.slots holds.keeps.has)))
    c.detach_mirrors_of.ensures.licensed

pub returns-clause-leads : goal.returns-clause-leads
returns-clause-leads g c =
    let later = c.detach_mirrors_of.ensures.leads in
    (0 + later.0, g.met.S.PageSpace.goes_on 0 later.0 c.args.space.now c.open_relation.new.space c.detach_mirrors_of.new.space c.in_ok-one.ensures.looks.leads later.1)

pub returns-in_err-one-clause-costs : goal.returns-in_err-one-clause-costs
returns-in_err-one-clause-costs g c = λ aside db keeps. LeadsWithin-none g.S.PageSpace.leads _ c.args.space.now c.open_relation.new.space c.in_err-one.ensures.looks.leads

pub returns-in_default-clause-costs : goal.returns-in_default-clause-costs
returns-in_default-clause-costs g c = λ aside db keeps. LeadsWithin-none g.S.PageSpace.leads _ c.args.space.now c.open_relation.new.space c.in_ok-one.ensures.looks.leads

pub returns-clause-costs : goal.returns-clause-costs
returns-clause-costs g c = λ aside db keeps.
    let m = g.B.Boxes.meanings c.args.boxes.now in
    let gone = c.args.gone.now.items in
    let top = c.args.place.root in
    let old = c.args.space.now in
    let mid = c.open_relation.new.space in
    let new = c.detach_mirrors_of.new.space in
    let name = c.args.name.now in
    let entry : ℕ = descriptor_cost (extensions_of m) db in
    let found = ap (λ (o : Option OpenRelation). option_map (λ (x : OpenRelation). x.descriptor) o) (sym c.in-Some.is)
    ∙ c.in_ok-one.ensures.found keeps.want keeps.slots keeps.kept keeps.has keeps.keeps.tables in
    let it = has_kept keeps.kept name c.in-Some.one.descriptor found in
    let is = ap (λ (ds : List Attached). mirrors_cost entry name ds) c.as_slice.ensures
    ∙ mirrors-charged g.S.PageSpace.has m top gone aside db old keeps name c.in-Some.one.descriptor it in
    LeadsWithin-on g.S.PageSpace.leads (length (mirrored_in name (attachments_at db name)) * entry) old mid new g.met.S.PageSpace.goes_on c.in_ok-one.ensures.looks.leads
    (subst (λ (n : ℕ). LeadsWithin g.S.PageSpace.leads n mid new) is
    (c.detach_mirrors_of.ensures.costs aside db (keeps-later g.S.PageSpace.has m top gone aside db old mid mid keeps c.in_ok-one.ensures.looks.same)))

pub returns-in_default-clause-entries : goal.returns-in_default-clause-entries
returns-in_default-clause-entries g c = λ aside db keeps.
    let m = g.B.Boxes.meanings c.args.boxes.now in
    let found = c.in_ok-one.ensures.found keeps.want keeps.slots keeps.kept keeps.has keeps.keeps.tables in
    let none = not_kept keeps.kept c.args.name.now (ap (λ (o : Option OpenRelation). option_map (λ (x : OpenRelation). x.descriptor) o) (sym c.in_default.is) ∙ found) in
    ap (descriptor_cost (extensions_of m))
    (none_mirrored g.S.PageSpace.has m c.args.place.root c.args.gone.now.items aside db c.args.space.now c.open_relation.new.space c.open_relation.new.space keeps c.args.name.now none)

pub returns-clause-entries : goal.returns-clause-entries
returns-clause-entries g c =
    let m = g.B.Boxes.meanings c.args.boxes.now in
    let gone = c.args.gone.now.items in
    let top = c.args.place.root in
    let mid = c.open_relation.new.space in
    let name = c.args.name.now in
    on_ok c.detach_mirrors_of.result (λ entries aside db keeps.
    let found = ap (λ (o : Option OpenRelation). option_map (λ (x : OpenRelation). x.descriptor) o) (sym c.in-Some.is)
    ∙ c.in_ok-one.ensures.found keeps.want keeps.slots keeps.kept keeps.has keeps.keeps.tables in
    let it = has_kept keeps.kept name c.in-Some.one.descriptor found in
    let is = ap (λ (ds : List Attached). without_mirrors_of name ds db) c.as_slice.ensures
    ∙ mirrors-kept g.S.PageSpace.has m top gone aside db c.args.space.now mid mid keeps name c.in-Some.one.descriptor it in
    ap (descriptor_cost (extensions_of m)) (sym is)
    ∙ entries aside db (keeps-later g.S.PageSpace.has m top gone aside db c.args.space.now mid mid keeps c.in_ok-one.ensures.looks.same))
    c.detach_mirrors_of.ensures.entries
