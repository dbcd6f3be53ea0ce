use Rattle.std.proofs.Common.{◌∙◌, Bool, cond, subst, sym}
use Rattle.sb_drive.specs.Spaces.{LeadsWithin}
use Rattle.sb_drive.proofs.SpacesLemmas.{LeadsWithin-none}
use Rattle.std.proofs.lemmas.Result.{IfOk-weaker}
use Rattle.sb_ctx.specs.Attachment.{keeps_pages}
use Rattle.sb_building.proofs.CallLemmas.{IfErr-both, unbroken_cause}
use Rattle.sb_building.proofs.InstanceLemmas.{IsPlaced-come, IsPlaced-nowhere, OwnsPages-come, OwnsPages-nowhere}
use Rattle.sb_building.proofs.instances.new_place.Goals as goal

pub returns-then-not-keeps_pages-clause-owns : goal.returns-then-not-keeps_pages-clause-owns
returns-then-not-keeps_pages-clause-owns g c = OwnsPages-nowhere (keeps_pages c.args.code) (sym c.keeps_pages.ensures ∙ c.if-not-keeps_pages.true)

pub returns-then-not-keeps_pages-clause-placed : goal.returns-then-not-keeps_pages-clause-placed
returns-then-not-keeps_pages-clause-placed g c = λ want s has.
    IsPlaced-nowhere g.S.PageSpace.has want s c.args.space.now has (keeps_pages c.args.code) (sym c.keeps_pages.ensures ∙ c.if-not-keeps_pages.true)

pub returns-then-not-keeps_pages-clause-leads : goal.returns-then-not-keeps_pages-clause-leads
returns-then-not-keeps_pages-clause-leads g c = LeadsWithin-none g.S.PageSpace.leads _ c.args.space.now c.args.space.now (g.met.S.PageSpace.stays c.args.space.now)

pub returns-clause-owns : goal.returns-clause-owns
returns-clause-owns g c =
    IfOk-weaker c.new_instance.result _ _ (λ made high. OwnsPages-come (keeps_pages c.args.code) made.0 (sym c.keeps_pages.ensures ∙ c.if-not-keeps_pages.false) high) c.new_instance.ensures.high

pub returns-clause-placed : goal.returns-clause-placed
returns-clause-placed g c =
    IfOk-weaker c.new_instance.result _ _ (λ made come want s has.
    IsPlaced-come g.S.PageSpace.has want s made.0 made.1 c.new_instance.new.self (come want s has) (keeps_pages c.args.code) (sym c.keeps_pages.ensures ∙ c.if-not-keeps_pages.false)) c.new_instance.ensures.made

pub returns-clause-refused : goal.returns-clause-refused
returns-clause-refused g c =
    IfErr-both c.new_instance.result _ _ _ (λ e unbroken fails. unbroken_cause g.S.PageSpace.fails c.args.space.now c.new_instance.new.self e unbroken fails) c.new_instance.ensures.undamaged c.new_instance.ensures.fails

pub returns-clause-leads : goal.returns-clause-leads
returns-clause-leads g c =
    subst (λ (b : Bool). LeadsWithin g.S.PageSpace.leads (cond b 2 0) c.args.space.now c.new_instance.new.self) (sym (sym c.keeps_pages.ensures ∙ c.if-not-keeps_pages.false)) c.new_instance.ensures.leads

pub returns-clause-full : goal.returns-clause-full
returns-clause-full g c = c.new_instance.ensures.full
