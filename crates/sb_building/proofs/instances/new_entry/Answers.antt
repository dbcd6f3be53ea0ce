use Rattle.std.proofs.Common.{ℕ, cond, subst}
use Rattle.sb_ctx.specs.Attachment.{keeps_pages}
use Rattle.sb_drive.specs.Spaces.{LeadsWithin}
use Rattle.sb_drive.specs.declared.space.SpaceFault.TheVariants.{NoMemory}
use Rattle.sb_drive.proofs.SpacesLemmas.{IfErr-passed}
use Rattle.sb_building.proofs.InstanceLemmas.{IsEntered-made}
use Rattle.sb_building.proofs.instances.new_entry.Goals as goal

pub returns-in-Err-clause-refused : goal.returns-in-Err-clause-refused
returns-in-Err-clause-refused g c = c.in-Err.ensures.refused

pub returns-in_err-attached-clause-refused : goal.returns-in_err-attached-clause-refused
returns-in_err-attached-clause-refused g c = IfErr-passed c.from_residual.result NoMemory _ c.from_residual.ensures.1 tt

pub returns-clause-entered : goal.returns-clause-entered
returns-clause-entered g c =
    IsEntered-made g.S.PageSpace.has c.args.label.now c.args.rule c.code_of-code.result c.in-Ok.made.0 c.in-Ok.made.1 c.in_ok-attached.attached c.args.space.now c.new_place.new.space c.code_of-code.ensures
    c.in_ok-attached.ensures.entry c.in_ok-attached.ensures.owner c.in_ok-attached.ensures.root c.in-Ok.ensures.owns c.in-Ok.ensures.placed

pub returns-in-Err-clause-full : goal.returns-in-Err-clause-full
returns-in-Err-clause-full g c = c.in-Err.ensures.full

pub returns-in_err-attached-clause-full : goal.returns-in_err-attached-clause-full
returns-in_err-attached-clause-full g c = IfErr-passed c.from_residual.result NoMemory _ c.from_residual.ensures.1 (λ want s has. tt)

pub returns-in-Err-clause-leads : goal.returns-in-Err-clause-leads
returns-in-Err-clause-leads g c =
    subst (λ (k : ℕ). LeadsWithin g.S.PageSpace.leads (cond (keeps_pages k) 2 0) c.args.space.now c.new_place.new.space) c.code_of-code.ensures c.in-Err.ensures.leads

pub returns-in_err-attached-clause-leads : goal.returns-in_err-attached-clause-leads
returns-in_err-attached-clause-leads g c =
    subst (λ (k : ℕ). LeadsWithin g.S.PageSpace.leads (cond (keeps_pages k) 2 0) c.args.space.now c.new_place.new.space) c.code_of-code.ensures c.in-Ok.ensures.leads

pub returns-clause-leads : goal.returns-clause-leads
returns-clause-leads g c =
    subst (λ (k : ℕ). LeadsWithin g.S.PageSpace.leads (cond (keeps_pages k) 2 0) c.args.space.now c.new_place.new.space) c.code_of-code.ensures c.in-Ok.ensures.leads
