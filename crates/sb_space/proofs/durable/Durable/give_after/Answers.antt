use Rattle.sb_space.proofs.durable.Durable.give_after.Goals as goal

pub returns-clause-given : goal.returns-clause-given
returns-clause-given g c = λ want s has. (c.in_ok-next.next, c.in_ok-next.ensures.next want s has, c.in_ok-give_after.ensures.ok)
