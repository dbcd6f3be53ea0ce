use Rattle.std.proofs.Common.{◌≡◌, List, sym, ◌∙◌, ap, subst}
use Rattle.sb_recover.specs.declared.change.Change.{Change as Lent}
use Rattle.sb_recover.specs.Changes.{changes_of, limits_of, newest_first, taken, AllFit}
use Rattle.sb_recover.specs.Found.{FoundIn}
use Rattle.sb_recover.specs.Frames.{texts}
use Rattle.sb_recover.proofs.RestoredLemmas.{AllFit-taken, RestoredOn-changed}
use Rattle.sb_recover.proofs.restored.restore.Goals as goal

pub write_changes-requires-clause-fit : goal.write_changes-requires-clause-fit
write_changes-requires-clause-fit g c =
    let found : FoundIn c.args.g.now.pages (texts c.args.chunks.now) c.in_ok-changes.field-0 = c.in_ok-changes.ensures in
    let stand : changes_of c.deref-2.result.now ≡ taken (limits_of c.in_ok-changes.field-0.counts) (newest_first c.in_ok-changes.field-0.changes.items) =
    ap changes_of c.deref-2.ensures.value ∙ c.in_ok-changes-2.ensures ∙ ap (λ (l : List Lent). taken (limits_of c.in_ok-changes.field-0.counts) (newest_first l)) c.deref.ensures.value in
    subst AllFit (sym stand) (AllFit-taken (limits_of c.in_ok-changes.field-0.counts) c.in_ok-changes.field-0.changes.items found.sound.fit)

pub returns-clause-restored : goal.returns-clause-restored
returns-clause-restored g c =
    let found : FoundIn c.args.g.now.pages (texts c.args.chunks.now) c.in_ok-changes.field-0 = c.in_ok-changes.ensures in
    let stand : changes_of c.deref-2.result.now ≡ taken (limits_of c.in_ok-changes.field-0.counts) (newest_first c.in_ok-changes.field-0.changes.items) =
    ap changes_of c.deref-2.ensures.value ∙ c.in_ok-changes-2.ensures ∙ ap (λ (l : List Lent). taken (limits_of c.in_ok-changes.field-0.counts) (newest_first l)) c.deref.ensures.value in
    RestoredOn-changed c.args.g.now (texts c.args.chunks.now) c.in_ok-changes.field-0 found (changes_of c.deref-2.result.now) stand (texts c.write_changes.new.frames.items) (g.D.Disk.told c.args.disk.now) c.in_ok-write_changes.ensures.changed
