use Rattle.std.proofs.Common.{◌++◌, None, map, sym, ◌∙◌}
use Rattle.sb_registry.proofs.BoxesLemmas.{of_lists, repeated_by, repeated_first}
use Rattle.sb_registry.proofs.registry.repeated_code.Goals as goal

pub returns-in-Some : goal.returns-in-Some
returns-in-Some g c =
    let exts = c.args.exts.now in
    repeated_first (λ b. (goal.StorageMethod-dyn g (b.vtable, b.value)).method b.value) (λ m. m.rules.code) exts.methods.items exts.spare_methods.items
    (map (λ a. a.rules.code) (map (λ b. (goal.Attachment-dyn g (b.vtable, b.value)).attachment b.value) exts.attachments.items
    ++ map (λ b. (goal.Attachment-dyn g (b.vtable, b.value)).attachment b.value) exts.spare_attachments.items))
    c.in-Some.code
    (sym c.in-Some.is ∙ of_lists _ _ _ _ _ _ c.first_repeated.ensures c.deref.ensures.value c.deref-2.ensures.value)

pub returns-in-None : goal.returns-in-None
returns-in-None g c =
    let exts = c.args.exts.now in
    repeated_by (λ b. (goal.StorageMethod-dyn g (b.vtable, b.value)).method b.value) (λ m. m.rules.code) (λ b. (goal.Attachment-dyn g (b.vtable, b.value)).attachment b.value) (λ a. a.rules.code)
    exts.methods.items exts.spare_methods.items exts.attachments.items exts.spare_attachments.items None c.first_repeated-in-None.result
    (sym c.in-None.is ∙ of_lists _ _ _ _ _ _ c.first_repeated.ensures c.deref.ensures.value c.deref-2.ensures.value)
    (of_lists _ _ _ _ _ _ c.first_repeated-in-None.ensures c.deref-in-None.ensures.value c.deref-in-None-2.ensures.value)
