use Rattle.std.proofs.Common.{◌==◌, [], ◌∷◌, ◌++◌, sym, ◌∙◌, ap}
use Rattle.std.specs.List.{position}
use Rattle.sb_registry.proofs.CodesLemmas.{goes, stays}
use Rattle.sb_registry.proofs.coded.move_over.Goals as goal

pub returns-in_default-clause-ok : goal.returns-in_default-clause-ok
returns-in_default-clause-ok g c =
    stays (λ b. g.B.Coded.code_of b == c.args.code) _ _ (ap (position (λ b. g.B.Coded.code_of b == c.args.code)) (sym c.deref.ensures.value) ∙ sym c.place_of.ensures ∙ c.in_default.is)

pub returns-clause-ok : goal.returns-clause-ok
returns-clause-ok g c =
    goes (λ b. g.B.Coded.code_of b == c.args.code) c.args.from.now.items c.args.to.now.items _ _ c.in-Some.i c.remove.result
    (ap (position (λ b. g.B.Coded.code_of b == c.args.code)) (sym c.deref.ensures.value) ∙ sym c.place_of.ensures ∙ c.in-Some.is)
    c.remove.ensures.value c.remove.ensures.items
    (c.in-Ok.ensures.items ∙ ap (λ l. l ++ c.remove.result ∷ []) c.reserve.ensures.items)
