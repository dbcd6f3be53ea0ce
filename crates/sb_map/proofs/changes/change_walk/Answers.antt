use Rattle.std.proofs.Common.{List, Option, option_map, Bor, ℕ, ap, sym, subst}
use Rattle.sb_forms.proofs.Maps.{map_tree}
use Rattle.sb_map.specs.Changes.{Makes}
use Rattle.sb_map.proofs.Changing.{Makes-removed}
use Rattle.sb_map.proofs.Finding.{reads_still}
use Rattle.sb_map.proofs.changes.change_walk.Goals as goal

pub returns-in-None-clause-makes : goal.returns-in-None-clause-makes
returns-in-None-clause-makes c = λ P es part is.
    let root = c.args.root in
    let old = c.args.ctx.now in
    let still = reads_still root old P es c.requires.clean part (map_tree root P es is) in
    subst (λ (value : Option (List ℕ)). Makes c.args.key.now value root P es c.remove.new.ctx c.remove.result)
    (sym (ap (option_map (λ (value : Bor (List ℕ)). value.now)) c.in-None.is))
    (Makes-removed old c.remove.new.ctx root c.args.key.now P es c.remove.result c.requires.clean part is (c.remove.ensures.removes P es still))
