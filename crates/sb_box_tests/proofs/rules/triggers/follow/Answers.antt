use Rattle.sb_box_tests.proofs.rules.triggers.follow.Goals as goal

pub changed-reply-requires-clause-change : goal.changed-reply-requires-clause-change
changed-reply-requires-clause-change g c = c.change-change.ensures c.instance-inst.result c.instance-inst.ensures.columns
