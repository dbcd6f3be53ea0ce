use Rattle.std.proofs.Common.{◌≡◌, ℕ, ◌*◌, List, ◌++◌, append_assoc, Option, Some, arith, sym, ap, subst, ◌∙◌}
use Rattle.sb_relation.specs.Db.{Name}
use Rattle.sb_fold.specs.Building.{without_attached}
use Rattle.sb_fold.specs.Costs.{descriptor_cost}
use Rattle.sb_drive.specs.Spaces.{LeadsWithin}
use Rattle.sb_drive.proofs.SpacesLemmas.{LeadsWithin-more}
use Rattle.sb_tables.proofs.SpendingLemmas.{entry_detached, within_then}
use Rattle.sb_fold.specs.Extensions.{Extensions}
use Rattle.sb_tables.specs.Goings.{goes_then}
use Rattle.sb_tables.specs.Working.{extensions_in, extensions_of}
use Rattle.sb_tables.specs.Removal.{taken_bounds}
use Rattle.sb_tables.specs.Keeping.{KeepsIn}
use Rattle.sb_tables.proofs.KeepingLemmas.{if_err, on_ok}
use Rattle.sb_building.specs.Detaching.{both_bounds, both_cost, without_both}
use Rattle.sb_building.proofs.DetachLemmas.{itself}
use Rattle.sb_building.proofs.detaching.detach_both.Goals as goal

pub returns-in_default-clause-detached : goal.returns-in_default-clause-detached
returns-in_default-clause-detached g c =
    on_ok c.detach_named.result
    (λ detached aside db keeps.
    let ext = extensions_in g.B.Boxes.meanings c.args.running.now in
    let relation = c.args.relation.now in
    let name = c.args.name.now in
    subst (λ (o : Option (Name × Name)). KeepsIn g.S.PageSpace.has g.B.Boxes.meanings (aside ++ both_bounds ext db relation name o) (without_both db relation name o) c.detach_named.new.running)
    (sym c.in_default.is) (detached aside _ db (itself g.S.PageSpace.has g.B.Boxes.meanings aside db c.args.running.now keeps)).keeps)
    c.detach_named.ensures.detached

pub returns-in-Ok-clause-refused : goal.returns-in-Ok-clause-refused
returns-in-Ok-clause-refused g c =
    if_err _ _ c.detach_named-made.result (λ r cause aside db keeps.
    cause _ (without_attached db c.args.relation.now c.args.name.now)
    (c.in-Ok.ensures.detached aside _ db (itself g.S.PageSpace.has g.B.Boxes.meanings aside db c.args.running.now keeps)).keeps)
    c.detach_named-made.ensures.refused

pub returns-in_default-clause-licensed : goal.returns-in_default-clause-licensed
returns-in_default-clause-licensed g c = c.detach_named.ensures.licensed

pub returns-in-Ok-clause-licensed : goal.returns-in-Ok-clause-licensed
returns-in-Ok-clause-licensed g c =
    if_err _ _ c.detach_named-made.result
    (λ r licensed aside most db holds. licensed _ most (without_attached db c.args.relation.now c.args.name.now) (c.in-Ok.ensures.detached aside most db holds))
    c.detach_named-made.ensures.licensed

pub returns-in-Ok-clause-goes : goal.returns-in-Ok-clause-goes
returns-in-Ok-clause-goes g c =
    goes_then g.S.PageSpace.leads g.met.S.PageSpace.goes_on c.args.running.now c.detach_named-2.new.running c.detach_named-made.new.running c.detach_named-2.ensures.goes c.detach_named-made.ensures.goes

pub returns-in-Ok-clause-detached : goal.returns-in-Ok-clause-detached
returns-in-Ok-clause-detached g c =
    let has = g.S.PageSpace.has in
    let meanings = g.B.Boxes.meanings in
    let relation = c.args.relation.now in
    let name = c.args.name.now in
    let mid = c.detach_named-2.new.running in
    let new = c.detach_named-made.new.running in
    let mirror : Name × Name = c.in-Some.mirror in
    on_ok c.detach_named-made.result
    (λ detached aside db keeps.
    let ext = extensions_in meanings c.args.running.now in
    let left = without_attached db relation name in
    let taken = taken_bounds ext db relation name in
    let held = aside ++ taken in
    let same : extensions_in meanings mid ≡ ext = ap (λ b. extensions_of (meanings b)) c.detach_named-2.ensures.goes.boxes in
    let sums : held ++ taken_bounds (extensions_in meanings mid) left mirror.0 mirror.1 ≡ aside ++ both_bounds ext db relation name (Some mirror) =
    append_assoc aside taken (taken_bounds (extensions_in meanings mid) left mirror.0 mirror.1) ∙ ap (λ (e : Extensions). aside ++ (taken ++ taken_bounds e left mirror.0 mirror.1)) same in
    subst (λ (o : Option (Name × Name)). KeepsIn has meanings (aside ++ both_bounds ext db relation name o) (without_both db relation name o) new) (sym c.in-Some.is)
    (subst (λ (l : List ℕ). KeepsIn has meanings l (without_attached left mirror.0 mirror.1) new) sums
    (detached held _ left (c.in-Ok.ensures.detached aside _ db (itself has meanings aside db c.args.running.now keeps))).keeps))
    c.detach_named-made.ensures.detached

pub returns-in_default-clause-costs : goal.returns-in_default-clause-costs
returns-in_default-clause-costs g c = λ aside db keeps.
    let ext = extensions_in g.B.Boxes.meanings c.args.running.now in
    subst (λ (o : Option (Name × Name)). LeadsWithin g.S.PageSpace.leads (both_cost ext db o) c.args.running.now.space.now c.detach_named.new.running.space.now) (sym c.in_default.is)
    (c.detach_named.ensures.costs aside db keeps)

pub returns-in-Ok-clause-costs : goal.returns-in-Ok-clause-costs
returns-in-Ok-clause-costs g c = λ aside db keeps.
    let has = g.S.PageSpace.has in
    let leads = g.S.PageSpace.leads in
    let meanings = g.B.Boxes.meanings in
    let relation = c.args.relation.now in
    let name = c.args.name.now in
    let old = c.args.running.now in
    let mid = c.detach_named-2.new.running in
    let new = c.detach_named-made.new.running in
    let ext = extensions_in meanings old in
    let left = without_attached db relation name in
    let same : extensions_in meanings mid ≡ ext = ap (λ b. extensions_of (meanings b)) c.detach_named-2.ensures.goes.boxes in
    let later = (c.in-Ok.ensures.detached aside _ db (itself has meanings aside db old keeps)).keeps in
    let entry : descriptor_cost (extensions_in meanings mid) left ≡ descriptor_cost ext db =
    ap (λ (e : Extensions). descriptor_cost e left) same ∙ entry_detached has (meanings old.boxes.now) old.place.root old.work.now.gone.items aside db old.space.now keeps relation name in
    subst (λ (o : Option (Name × Name)). LeadsWithin leads (both_cost ext db o) old.space.now new.space.now) (sym c.in-Some.is)
    (within_then leads g.met.S.PageSpace.goes_on (descriptor_cost ext db) (descriptor_cost ext db) (2 * descriptor_cost ext db) old.space.now mid.space.now new.space.now (omega arith)
    (c.in-Ok.ensures.costs aside db keeps)
    (subst (λ (n : ℕ). LeadsWithin leads n mid.space.now new.space.now) entry (c.detach_named-made.ensures.costs _ left later)))

pub returns-in-Err-clause-costs : goal.returns-in-Err-clause-costs
returns-in-Err-clause-costs g c = λ aside db keeps.
    let ext = extensions_in g.B.Boxes.meanings c.args.running.now in
    subst (λ (o : Option (Name × Name)). LeadsWithin g.S.PageSpace.leads (both_cost ext db o) c.args.running.now.space.now c.detach_named-2.new.running.space.now) (sym c.in-Some.is)
    (LeadsWithin-more g.S.PageSpace.leads (descriptor_cost ext db) (2 * descriptor_cost ext db) c.args.running.now.space.now c.detach_named-2.new.running.space.now (omega arith)
    (c.detach_named-2.ensures.costs aside db keeps))
