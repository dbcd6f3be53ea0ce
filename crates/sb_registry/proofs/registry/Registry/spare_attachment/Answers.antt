use Rattle.std.proofs.Common.{◌==◌, Some, option_map, sym, ◌∙◌, ap}
use Rattle.std.specs.List.{position}
use Rattle.sb_registry.proofs.CodesLemmas.{found, none_found}
use Rattle.sb_registry.proofs.registry.Registry.spare_attachment.Goals as goal

pub returns-in_err-i : goal.returns-in_err-i
returns-in_err-i g c =
    ap (option_map (λ m. (goal.Attachment-dyn g m.now).attachment m.now.1)) c.from_residual.ensures
    ∙ sym (none_found (λ b. (goal.Attachment-dyn g (b.vtable, b.value)).attachment b.value) (λ m. m.rules.code == c.args.code) c.args.self.now.exts.spare_attachments.items
    (ap (position (λ b. ((goal.Attachment-dyn g (b.vtable, b.value)).attachment b.value).rules.code == c.args.code)) (sym c.deref.ensures.value) ∙ sym c.place_of.ensures ∙ c.in_err-i.was))

pub returns : goal.returns
returns g c =
    ap Some c.lend_attachment.ensures
    ∙ sym (found (λ b. (goal.Attachment-dyn g (b.vtable, b.value)).attachment b.value) (λ m. m.rules.code == c.args.code) c.args.self.now.exts.spare_attachments.items c.in_ok-i.i c.index.result.now
    (ap (position (λ b. ((goal.Attachment-dyn g (b.vtable, b.value)).attachment b.value).rules.code == c.args.code)) (sym c.deref.ensures.value) ∙ sym c.place_of.ensures ∙ c.in_ok-i.was) c.index.ensures)
