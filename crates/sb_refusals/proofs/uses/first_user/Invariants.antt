use Rattle.sb_plain.specs.State.{State, view}
use Rattle.sb_refusals.proofs.Walks.{HasWalked}
use Rattle.sb_refusals.proofs.uses.first_user.Given as goal

abbrev pub invariant-loop-turn : goal.invariant-loop-turn
invariant-loop-turn g l =
    g.C.Catalogue.leads l.fn.catalogue l.catalogue
    × g.C.Catalogue.is_ready l.catalogue
    × ((s : State) → g.C.Catalogue.sees s l.fn.catalogue → g.C.Catalogue.sees s l.catalogue × HasWalked l.command (view s) l.after l._turn)
