use Rattle.std.proofs.Common.{◌∙◌, Option, is_some, sym, ap}
use Rattle.sb_rule.specs.declared.action.Action.{Action}
use Rattle.sb_engine.proofs.OpeningLemmas.{copied_some}
use Rattle.sb_execution.proofs.SeenLemmas.{waits_left}
use Rattle.sb_execution.proofs.seen.SeenCatalogue.has_waiting.Goals as goal

pub returns : goal.returns
returns g c = λ s sees.
    c.is_some.ensures ∙ (sym (copied_some c.action.result) ∙ (ap (λ (o : Option Action). is_some o) c.action.ensures.action
    ∙ waits_left s c.args.self.now.work.now sees.going sees.seen.queue sees.stands.waits))
