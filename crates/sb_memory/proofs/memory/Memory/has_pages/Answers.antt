use Rattle.std.proofs.Common.{◌==◌, ap, ◌∙◌}
use Rattle.std.specs.List.{list_any}
use Rattle.sb_memory.proofs.SlotsLemmas.{slots-seen, owner-there}
use Rattle.sb_memory.specs.Contents.{slots}
use Rattle.sb_memory.proofs.memory.Memory.has_pages.Goals as goal

pub returns : goal.returns
returns c =
    owner-there c.self.inside.pages.items (slots c.args.self.now.now) c.args.owner c.has_owner.result c.requires
    (slots-seen c.self.inside.pages.items c.self.inside.undo.items c.args.self.now c.self.view_is c.self.invariant.most)
    (c.has_owner.ensures ∙ ap (list_any (λ slot. slot.0 == c.args.owner)) c.deref.ensures.value)
