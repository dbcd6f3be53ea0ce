use Rattle.std.proofs.Common.{◌∙◌, ap, option_map, Option}
use Rattle.sb_catalog.specs.declared.descriptor.Attached.{Attached}
use Rattle.sb_refusals.specs.Seen.{attachments_of}
use Rattle.sb_refusals.proofs.Alike.{rule_alike}
use Rattle.sb_refusals.proofs.seen.Seen.rule.Goals as goal

pub returns : goal.returns
returns c r seen =
    c.rule_in.ensures ∙ ap (λ (o : Option Attached). option_map (λ a. a.rule) o) c.find_attached.ensures
    ∙ rule_alike c.args.name.now c.attachments.result.now (attachments_of r) (c.attachments.ensures r seen)
