use Rattle.std.proofs.Common.{◌≡◌, ◌∙◌}
use Rattle.std.proofs.lemmas.Result.{IfOk-weaker}
use Rattle.sb_plain.specs.State.{State, view}
use Rattle.sb_plain.specs.Refusing.{first_use}
use Rattle.sb_refusals.specs.Uses.{user_in}
use Rattle.sb_refusals.proofs.Users.{drop_used, retire_used}
use Rattle.sb_refusals.proofs.uses.first_use.Goals as goal

pub returns-in-Drop-clause-found : goal.returns-in-Drop-clause-found
returns-in-Drop-clause-found g c =
    IfOk-weaker c.first_user.result
    (λ x. (s : State) → g.C.Catalogue.sees s c.args.catalogue.now → (x ≡ user_in c.args.command.now (view s)) × g.C.Catalogue.sees s c.first_user.new.catalogue)
    (λ x. (s : State) → g.C.Catalogue.sees s c.args.catalogue.now → (x ≡ first_use (view s) c.args.command.now) × g.C.Catalogue.sees s c.first_user.new.catalogue)
    (λ x h s sees. ((h s sees).0 ∙ drop_used c.args.command.now c.in-Drop.relation (view s) c.in-Drop.is, (h s sees).1)) c.first_user.ensures.found

pub returns-in-Retire-clause-found : goal.returns-in-Retire-clause-found
returns-in-Retire-clause-found g c =
    IfOk-weaker c.first_user-in-Retire.result
    (λ x. (s : State) → g.C.Catalogue.sees s c.args.catalogue.now → (x ≡ user_in c.args.command.now (view s)) × g.C.Catalogue.sees s c.first_user-in-Retire.new.catalogue)
    (λ x. (s : State) → g.C.Catalogue.sees s c.args.catalogue.now → (x ≡ first_use (view s) c.args.command.now) × g.C.Catalogue.sees s c.first_user-in-Retire.new.catalogue)
    (λ x h s sees. ((h s sees).0 ∙ retire_used c.args.command.now c.in-Retire.method c.in-Retire.code (view s) c.in-Retire.is, (h s sees).1)) c.first_user-in-Retire.ensures.found
