use Rattle.std.proofs.Common.{ℕ, ◌*◌, ◌+◌, ◌++◌, length, arith, subst}
use Rattle.sb_drive.proofs.SpacesLemmas.{IfErr-passed, LeadsWithin-more}
use Rattle.sb_fold.specs.Building.{bounds_at, mirrored_in, without_mirrors, without_relation}
use Rattle.sb_fold.specs.Costs.{descriptor_cost}
use Rattle.sb_fold.specs.Fold.{attachments_at}
use Rattle.sb_engine.specs.Working.{extensions_of}
use Rattle.sb_tables.specs.Removal.{mirrors_bounds}
use Rattle.sb_tables.proofs.DetachedLemmas.{keeps-more}
use Rattle.sb_tables.proofs.KeepingLemmas.{if_err, more_then, on_ok}
use Rattle.sb_tables.proofs.RemovalLemmas.{unnamed}
use Rattle.sb_drive.specs.Spaces.{LeadsWithin}
use Rattle.sb_tables.proofs.SpendingLemmas.{within_then}
use Rattle.sb_tables.proofs.TakenLemmas.{held-dropped}
use Rattle.sb_tables.proofs.WithinLemmas.{within-itself}
use Rattle.sb_tables.proofs.removal.drop_kept.Goals as goal

pub returns-in_err-detach_mirrors-clause-refused : goal.returns-in_err-detach_mirrors-clause-refused
returns-in_err-detach_mirrors-clause-refused g c =
    IfErr-passed c.from_residual.result c.in_err-detach_mirrors.field-0.0 _ c.from_residual.ensures.1 (λ aside db keeps. c.in_err-detach_mirrors.ensures.refused aside db keeps)

pub returns-clause-dropped : goal.returns-clause-dropped
returns-clause-dropped g c =
    let m = g.B.Boxes.meanings c.args.boxes.now in
    let name = c.args.name.now in
    on_ok c.drop_alone.result
    (λ dropped aside db q keeps may mirrored paired apart.
    let left = without_mirrors name (attachments_at db name) db in
    let held = aside ++ mirrors_bounds (extensions_of m) name (attachments_at db name) db in
    keeps-more g.S.PageSpace.has m c.args.place.root c.drop_alone.new.gone.items (held ++ bounds_at (extensions_of m) left name) _ (without_relation db name) c.drop_alone.new.space
    (held-dropped m c.args.place.root keeps.slots c.args.gone.now.items keeps.kept keeps.keeps aside db keeps.is name mirrored apart)
    (dropped held left (c.in_ok-detach_mirrors.ensures.detached aside _ db (within-itself g.S.PageSpace.has m c.args.place.root c.args.gone.now.items aside db c.args.space.now keeps)).keeps (unnamed db q name may mirrored paired)))
    c.drop_alone.ensures.dropped

pub returns-clause-refused : goal.returns-clause-refused
returns-clause-refused g c =
    let name = c.args.name.now in
    if_err _ _ c.drop_alone.result (λ e refused aside db keeps.
    refused _ (without_mirrors name (attachments_at db name) db)
    (c.in_ok-detach_mirrors.ensures.detached aside _ db
    (within-itself g.S.PageSpace.has (g.B.Boxes.meanings c.args.boxes.now) c.args.place.root c.args.gone.now.items aside db c.args.space.now keeps)).keeps)
    c.drop_alone.ensures.refused

pub returns-in_err-detach_mirrors-clause-licensed : goal.returns-in_err-detach_mirrors-clause-licensed
returns-in_err-detach_mirrors-clause-licensed g c =
    IfErr-passed c.from_residual.result c.in_err-detach_mirrors.field-0.0 _ c.from_residual.ensures.1 (λ aside most db holds. c.in_err-detach_mirrors.ensures.licensed aside most db holds)

pub returns-clause-licensed : goal.returns-clause-licensed
returns-clause-licensed g c =
    let name = c.args.name.now in
    if_err _ _ c.drop_alone.result
    (λ e licensed aside most db holds. licensed _ most (without_mirrors name (attachments_at db name) db) (c.in_ok-detach_mirrors.ensures.detached aside most db holds))
    c.drop_alone.ensures.licensed

pub returns-clause-more : goal.returns-clause-more
returns-clause-more g c = more_then c.args.gone.now.items c.detach_mirrors.new.gone.items c.drop_alone.new.gone.items c.in_ok-detach_mirrors.ensures.more c.drop_alone.ensures.more

pub returns-clause-leads : goal.returns-clause-leads
returns-clause-leads g c =
    let first = c.in_ok-detach_mirrors.ensures.leads in
    let later = c.drop_alone.ensures.leads in
    (first.0 + later.0, g.met.S.PageSpace.goes_on first.0 later.0 c.args.space.now c.detach_mirrors.new.space c.drop_alone.new.space first.1 later.1)

pub returns-in_err-detach_mirrors-clause-costs : goal.returns-in_err-detach_mirrors-clause-costs
returns-in_err-detach_mirrors-clause-costs g c = λ aside db keeps.
    let name = c.args.name.now in
    let entry : ℕ = descriptor_cost (extensions_of (g.B.Boxes.meanings c.args.boxes.now)) db in
    let mirrors : ℕ = length (mirrored_in name (attachments_at db name)) in
    LeadsWithin-more g.S.PageSpace.leads (mirrors * entry) ((1 + mirrors) * entry) c.args.space.now c.detach_mirrors.new.space (omega arith)
    (c.in_err-detach_mirrors.ensures.costs aside db keeps)

pub returns-clause-costs : goal.returns-clause-costs
returns-clause-costs g c = λ aside db keeps.
    let m = g.B.Boxes.meanings c.args.boxes.now in
    let name = c.args.name.now in
    let ext = extensions_of m in
    let entry : ℕ = descriptor_cost ext db in
    let mirrors : ℕ = length (mirrored_in name (attachments_at db name)) in
    let mid = c.detach_mirrors.new.space in
    let new = c.drop_alone.new.space in
    let left = without_mirrors name (attachments_at db name) db in
    let later = (c.in_ok-detach_mirrors.ensures.detached aside _ db (within-itself g.S.PageSpace.has m c.args.place.root c.args.gone.now.items aside db c.args.space.now keeps)).keeps in
    within_then g.S.PageSpace.leads g.met.S.PageSpace.goes_on (mirrors * entry) entry ((1 + mirrors) * entry) c.args.space.now mid new (omega arith) (c.in_ok-detach_mirrors.ensures.costs aside db keeps)
    (subst (λ (n : ℕ). LeadsWithin g.S.PageSpace.leads n mid new) (c.in_ok-detach_mirrors.ensures.entries aside db keeps) (c.drop_alone.ensures.costs _ left later))
