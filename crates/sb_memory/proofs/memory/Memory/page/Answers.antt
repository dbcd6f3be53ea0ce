use Rattle.std.proofs.Common.{get_or, sym, ap, ◌∙◌}
use Rattle.sb_drive.specs.Slots.{nobodys, bytes_for}
use Rattle.sb_drive.proofs.OwnedLemmas.{bytes_for-nobodys}
use Rattle.sb_memory.proofs.SlotsLemmas.{slot-seen, slots-past}
use Rattle.sb_memory.proofs.memory.Memory.page.Goals as goal

pub returns-in-Some : goal.returns-in-Some
returns-in-Some c =
    c.bytes_for.ensures ∙ ap (bytes_for c.args.owner) (slot-seen c.self.inside.pages.items c.self.inside.undo.items c.args.self.now c.args.n c.in-Some.slot.now c.self.view_is c.self.invariant.most
    (c.in-Some.ensures.lookup.3.1 nobodys ∙ ap (λ pages. get_or pages c.args.n nobodys) c.deref.ensures.value))

pub returns-in-None : goal.returns-in-None
returns-in-None c =
    sym (bytes_for-nobodys c.args.owner)
    ∙ ap (bytes_for c.args.owner) (slot-seen c.self.inside.pages.items c.self.inside.undo.items c.args.self.now c.args.n nobodys c.self.view_is c.self.invariant.most
    (sym (ap (λ pages. get_or pages c.args.n nobodys) (sym c.deref.ensures.value) ∙ slots-past c.deref.result.now c.args.n c.in-None.ensures.lookup.3)))
