use Rattle.sb_kinds.proofs.Kinded.{join_fits, reference_fits, trigger_fits}
use Rattle.sb_kinds.proofs.kinds.rule_fits.Goals as goal

pub returns-in-JoinIndex : goal.returns-in-JoinIndex
returns-in-JoinIndex c box db beside says =
    join_fits box db c.args.schema.now c.args.other.now c.args.rule.now c.in-JoinIndex.side c.in-JoinIndex.columns c.in-JoinIndex.other c.in-JoinIndex.others c.columns_fit.result
    c.in-JoinIndex.is beside (cc)

pub returns-in-Refers : goal.returns-in-Refers
returns-in-Refers c box db beside says =
    reference_fits box db c.args.schema.now c.args.other.now c.args.rule.now c.in-Refers.side c.in-Refers.columns c.in-Refers.other c.in-Refers.others c.in-Refers.mode c.in-Refers.deferred
    c.columns_fit-in-Refers.result c.in-Refers.is beside (cc)

pub returns-in-Trigger : goal.returns-in-Trigger
returns-in-Trigger c box db beside says =
    trigger_fits box db c.args.schema.now c.args.other.now c.args.rule.now c.in-Trigger.event c.in-Trigger.pred c.in-Trigger.action c.in-Trigger.deferred c.reaction_fits.result
    c.in-Trigger.is beside c.reaction_fits.ensures
