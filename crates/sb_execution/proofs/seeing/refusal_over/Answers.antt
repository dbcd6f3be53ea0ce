use Rattle.std.proofs.Common.{refl, sym, subst}
use Rattle.sb_execution.proofs.SeeingLemmas.{seen_cause, seen_fault, seen_free, seen_refused, seen_room, seen_stands, seen_tested}
use Rattle.sb_execution.proofs.seeing.refusal_over.Goals as goal

pub returns : goal.returns
returns g c =
    let Has = g.S.PageSpace.has in
    let Spent = g.S.PageSpace.spent in
    let Leads = g.S.PageSpace.leads in
    let Fails = g.S.PageSpace.fails in
    let x = c.args.space.now in
    let command = c.args.command.now in
    let result = c.refuse.result in
    let looks = c.refuse.ensures.leads in
    let end = sym (c.space-1.given.1 (sym looks.same_space)) in
    record {
      refused = seen_refused Has Spent Leads Fails g.B.Boxes.meanings _ _ looks x _ refl end command result c.refuse.ensures.refused;
      stands = seen_stands Has Spent Leads Fails g.B.Boxes.meanings _ _ looks x _ refl end command g.met.S.PageSpace.spends result c.refuse.ensures.refused;
      free = seen_free Has Spent Leads Fails g.B.Boxes.meanings _ _ looks x _ refl end command result c.refuse.ensures.fails;
      room = seen_room Has Spent Leads Fails g.B.Boxes.meanings _ _ looks x _ refl end command result c.refuse.ensures.fails;
      cause = seen_cause Has Spent Leads Fails g.B.Boxes.meanings _ _ looks x _ refl end command result c.refuse.ensures.fails c.refuse.ensures.undamaged;
      tested = seen_tested Has Spent Leads Fails g.B.Boxes.meanings _ _ looks x _ refl end command result c.refuse.ensures.tested;
      fault = seen_fault Has Spent Leads Fails g.B.Boxes.meanings _ _ looks x _ refl end command result c.refuse.ensures.fails;
      leads = subst (λ z. Leads 0 x z) end looks.leads;
      ready = subst (λ z. g.S.PageSpace.is_ready z) end c.refuse.ensures.ready.ready;
    }

pub refuse-requires : goal.refuse-requires
refuse-requires g c = record { ready = record { ready = c.requires.ready.ready; owner = c.requires.ready.owner } }
