use Rattle.std.proofs.Common.{[], IfErr, subst}
use Rattle.sb_ctx.specs.declared.calls.MethodCall.TheVariants.{Prepare}
use Rattle.sb_ctx.specs.declared.instance.Instance.{Instance}
use Rattle.sb_drive.specs.Slots.{Slots}
use Rattle.sb_drive.specs.Spaces.{LeadsWithin, Wanted}
use Rattle.sb_drive.proofs.SpacesLemmas.{LeadsWithin-none}
use Rattle.sb_registry.specs.Live.{IsLive}
use Rattle.sb_standing.specs.Lacking.{LacksFor, WhereShort}
use Rattle.sb_standing.specs.Live.{IsNewIn}
use Rattle.sb_tables.proofs.creation.prepare_table.Goals as goal

pub returns-then-keeps-clause-full : goal.returns-then-keeps-clause-full
returns-then-keeps-clause-full g c =
    subst (λ (i : Instance). IfErr c.prepare_rows.result (λ e. (want : Wanted) (s : Slots) → g.S.PageSpace.has want s c.args.space.now → IsNewIn s i
    → (live : IsLive (g.B.Boxes.meanings c.args.boxes.now) i) → WhereShort e (LacksFor live.box i Prepare [] s)))
    c.in_ok-table.ensures c.prepare_rows.ensures.full

pub returns-then-keeps-clause-costs : goal.returns-then-keeps-clause-costs
returns-then-keeps-clause-costs g c =
    subst (λ (i : Instance). (want : Wanted) (s : Slots) → g.S.PageSpace.has want s c.args.space.now → IsNewIn s i → (live : IsLive (g.B.Boxes.meanings c.args.boxes.now) i)
    → LeadsWithin g.S.PageSpace.leads (live.box.cost Prepare []) c.args.space.now c.prepare_rows.new.space)
    c.in_ok-table.ensures c.prepare_rows.ensures.costs

pub returns-in_err-table-clause-costs : goal.returns-in_err-table-clause-costs
returns-in_err-table-clause-costs g c = λ want s has new live. LeadsWithin-none g.S.PageSpace.leads _ c.args.space.now c.args.space.now (g.met.S.PageSpace.stays c.args.space.now)
