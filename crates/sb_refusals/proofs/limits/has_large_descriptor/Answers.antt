use Rattle.std.proofs.Common.{◌∙◌, ap, subst, cond, ◌+◌, ◌||◌, Bool}
use Rattle.sb_rule.specs.declared.rule.Rule.{Rule}
use Rattle.sb_relation.specs.Db.{relation_at}
use Rattle.sb_refusals.specs.Lengths.{attached_len, mirror_len, is_over}
use Rattle.sb_kinds.specs.Others.{tied_by}
use Rattle.sb_refusals.specs.Seen.{IsSeen, relation_named}
use Rattle.sb_refusals.proofs.Growing.{join_over, reference_over, one_over}
use Rattle.sb_refusals.proofs.limits.has_large_descriptor.Goals as goal

pub returns-in-JoinIndex : goal.returns-in-JoinIndex
returns-in-JoinIndex c db own other =
    let R = relation_at db c.args.relation.now in
    let n = attached_len c.args.name.now c.args.rule.now in
    let m = mirror_len c.args.relation.now c.args.name.now c.args.rule.now in
    c.is_tied_over.ensures R (relation_at db c.in-JoinIndex.other) n m own
    (subst (λ (r : Rule). IsSeen (relation_named db (tied_by r)) c.args.named.now.other) c.in-JoinIndex.is other) c.attached_len-own.ensures c.mirror_len-mirror.ensures
    ∙ ap (λ (t : Bool). cond t (is_over R (n + m)) (is_over R n || is_over (relation_at db c.in-JoinIndex.other) m)) c.eq.ensures
    ∙ join_over db c.args.relation.now c.args.name.now c.args.rule.now c.in-JoinIndex.side c.in-JoinIndex.columns c.in-JoinIndex.other c.in-JoinIndex.others c.in-JoinIndex.is

pub returns-in-Refers : goal.returns-in-Refers
returns-in-Refers c db own other =
    let R = relation_at db c.args.relation.now in
    let n = attached_len c.args.name.now c.args.rule.now in
    let m = mirror_len c.args.relation.now c.args.name.now c.args.rule.now in
    c.is_tied_over-in-Refers.ensures R (relation_at db c.in-Refers.other) n m own
    (subst (λ (r : Rule). IsSeen (relation_named db (tied_by r)) c.args.named.now.other) c.in-Refers.is other) c.attached_len-own.ensures c.mirror_len-mirror.ensures
    ∙ ap (λ (t : Bool). cond t (is_over R (n + m)) (is_over R n || is_over (relation_at db c.in-Refers.other) m)) c.eq-in-Refers.ensures
    ∙ reference_over db c.args.relation.now c.args.name.now c.args.rule.now c.in-Refers.side c.in-Refers.columns c.in-Refers.other c.in-Refers.others c.in-Refers.mode c.in-Refers.deferred c.in-Refers.is

pub returns-in_default : goal.returns-in_default
returns-in_default c db own other =
    c.is_over.ensures (relation_at db c.args.relation.now) (attached_len c.args.name.now c.args.rule.now) own c.attached_len-own.ensures
    ∙ one_over db c.args.relation.now c.args.name.now c.args.rule.now
    (λ side columns other others e. c.in_default.not-JoinIndex side columns other others e)
    (λ side columns other others mode deferred e. c.in_default.not-Refers side columns other others mode deferred e)
