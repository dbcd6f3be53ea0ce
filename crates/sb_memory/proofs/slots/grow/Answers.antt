use Rattle.std.proofs.Common.{[], ◌∷◌, ◌++◌, ap, ◌∙◌, rules, length-append}
use Rattle.sb_drive.specs.Slots.{Slot}
use Rattle.sb_memory.specs.Contents.{slots}
use Rattle.sb_memory.proofs.SlotsLemmas.{slots-push}
use Rattle.sb_memory.proofs.slots.grow.Goals as goal

pub loop-pages-preserved : goal.loop-pages-preserved
loop-pages-preserved c =
    let pages = c.loop-pages.pages.items in
    let size = length-append pages (c.nobodys.result ∷ []) in
    record {
      same = ap slots (c.in_ok-push.ensures.items ∙ ap (λ (x : Slot). pages ++ x ∷ []) c.nobodys.ensures) ∙ slots-push pages ∙ c.loop-pages.invariant.same;
      least = search rules;
      most = search rules;
    }
