use Rattle.std.proofs.Common.{ℕ, List, ◌++◌, append-nil, Option, option_copied, sym, ap, subst, ◌∙◌}
use Rattle.sb_rule.specs.declared.rule.Rule.{Rule}
use Rattle.sb_relation.specs.Build.{mirror_of}
use Rattle.sb_relation.specs.Db.{Name}
use Rattle.sb_fold.specs.Building.{without_attached, without_mirror}
use Rattle.sb_fold.specs.Costs.{descriptor_cost}
use Rattle.sb_drive.specs.Spaces.{LeadsWithin}
use Rattle.sb_drive.proofs.SpacesLemmas.{LeadsWithin-none}
use Rattle.sb_engine.specs.Working.{extensions_of}
use Rattle.sb_tables.specs.Keeping.{KeepsWithin}
use Rattle.sb_tables.specs.Removal.{mirror_bounds, mirror_cost, taken_bounds}
use Rattle.sb_tables.proofs.DetachedLemmas.{mirrored-none, mirrored-some}
use Rattle.sb_tables.proofs.KeepingLemmas.{on_ok}
use Rattle.sb_tables.proofs.mirrors.detach_mirror.Goals as goal

pub returns-in-None-clause-detached : goal.returns-in-None-clause-detached
returns-in-None-clause-detached g c = λ aside most db holds.
    let m = g.B.Boxes.meanings c.args.boxes.now in
    let relation = c.args.name.now in
    let label = c.args.attached.now.name in
    let none = mirrored-none (mirror_of relation c.args.attached.now.rule) (ap option_copied (sym c.in-None.is) ∙ c.mirrored.ensures relation) in
    subst (λ (o : Option (Name × Rule)). KeepsWithin g.S.PageSpace.has m c.args.place.root c.args.gone.now.items (aside ++ mirror_bounds (extensions_of m) relation label o db) most (without_mirror relation label o db) c.args.space.now) (sym none)
    (subst (λ (l : List ℕ). KeepsWithin g.S.PageSpace.has m c.args.place.root c.args.gone.now.items l most db c.args.space.now) (sym (append-nil aside)) holds)

pub returns-in_ok-label-in-Some-clause-detached : goal.returns-in_ok-label-in-Some-clause-detached
returns-in_ok-label-in-Some-clause-detached g c =
    let m = g.B.Boxes.meanings c.args.boxes.now in
    let relation = c.args.name.now in
    let label = c.args.attached.now.name in
    let it = mirrored-some (mirror_of relation c.args.attached.now.rule) c.in-Some.other.now (ap option_copied (sym c.in-Some.is) ∙ c.mirrored.ensures relation) in
    on_ok c.detach_kept.result (λ detached aside most db holds.
    subst (λ (o : Option (Name × Rule)). KeepsWithin g.S.PageSpace.has m c.args.place.root c.detach_kept.new.gone.items (aside ++ mirror_bounds (extensions_of m) relation label o db) most (without_mirror relation label o db) c.detach_kept.new.space) (sym it.1)
    (subst (λ (n : Name). KeepsWithin g.S.PageSpace.has m c.args.place.root c.detach_kept.new.gone.items (aside ++ taken_bounds (extensions_of m) db c.in-Some.other.now n) most (without_attached db c.in-Some.other.now n) c.detach_kept.new.space) c.in_ok-label-in-Some.ensures
    (detached aside most db holds)))
    c.detach_kept.ensures.detached

pub returns-in-None-clause-costs : goal.returns-in-None-clause-costs
returns-in-None-clause-costs g c = λ aside db keeps. LeadsWithin-none g.S.PageSpace.leads _ c.args.space.now c.args.space.now (g.met.S.PageSpace.stays c.args.space.now)

pub returns-in_err-label-in-Some-clause-costs : goal.returns-in_err-label-in-Some-clause-costs
returns-in_err-label-in-Some-clause-costs g c = λ aside db keeps. LeadsWithin-none g.S.PageSpace.leads _ c.args.space.now c.args.space.now (g.met.S.PageSpace.stays c.args.space.now)

pub returns-in_ok-label-in-Some-clause-costs : goal.returns-in_ok-label-in-Some-clause-costs
returns-in_ok-label-in-Some-clause-costs g c = λ aside db keeps.
    let relation = c.args.name.now in
    let it = mirrored-some (mirror_of relation c.args.attached.now.rule) c.in-Some.other.now (ap option_copied (sym c.in-Some.is) ∙ c.mirrored.ensures relation) in
    subst (λ (o : Option (Name × Rule)). LeadsWithin g.S.PageSpace.leads (mirror_cost (descriptor_cost (extensions_of (g.B.Boxes.meanings c.args.boxes.now)) db) o) c.args.space.now c.detach_kept.new.space) (sym it.1)
    (c.detach_kept.ensures.costs aside db keeps)
