use Rattle.std.proofs.Common.{◌∙◌, true≢false, sym, ap}
use Rattle.std.specs.List.{find}
use Rattle.sb_drive.specs.Slots.{owned}
use Rattle.sb_relation.specs.Db.{Key}
use Rattle.sb_ctx.specs.AttachAnswers.{is_entry_above}
use Rattle.sb_reads.proofs.EntriesLemmas.{behind-found}
use Rattle.sb_reads.proofs.StoresLemmas.{Holds-live, IsEntryOrEnd-final, entry-answered}
use Rattle.sb_reads.proofs.entries.next_entry.Goals as goal

pub returns-in-Err-clause-undamaged : goal.returns-in-Err-clause-undamaged
returns-in-Err-clause-undamaged g c = λ want s kept content has is.
    c.in-Err.ensures.undamaged c.requires.live want s kept content has is.tables is.stand (Holds-live _ _ s kept c.args.inst.now content c.requires.live is)

pub returns-then-not-is_risen-clause-undamaged : goal.returns-then-not-is_risen-clause-undamaged
returns-then-not-is_risen-clause-undamaged g c = λ want s kept content has is.
    let inst = c.args.inst.now in
    let live = c.requires.live in
    let left = c.in-Ok.ensures.asked live want s kept has is.tables in
    let move = c.in-Ok.made in
    let found = entry-answered live.box inst c.in_ok-copy.copy c.args.after left.own.view (owned s inst.owner) (owned left.slots inst.owner) move content (IsEntryOrEnd-final c.in_ok-copy.copy c.args.after move c.in-Ok.ensures.ends) left.own.answers
    (Holds-live _ _ s kept inst content live is) in
    true≢false (sym (behind-found c.in_ok-copy.copy c.args.after content.entries move found) ∙ sym c.is_risen-is_risen.ensures ∙ c.if-not-is_risen.true)

pub returns-clause-entry : goal.returns-clause-entry
returns-clause-entry g c = λ want s kept content has is.
    let inst = c.args.inst.now in
    let live = c.requires.live in
    let left = c.in-Ok.ensures.asked live want s kept has is.tables in
    let move = c.in-Ok.made in
    let found = entry-answered live.box inst c.in_ok-copy.copy c.args.after left.own.view (owned s inst.owner) (owned left.slots inst.owner) move content (IsEntryOrEnd-final c.in_ok-copy.copy c.args.after move c.in-Ok.ensures.ends) left.own.answers
    (Holds-live _ _ s kept inst content live is) in
    c.entry_in-entry.ensures ∙ sym found ∙ ap (λ (low : Key). find (is_entry_above low c.args.after) content.entries) c.in_ok-copy.ensures
