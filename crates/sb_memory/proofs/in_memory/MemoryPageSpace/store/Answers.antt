use Rattle.std.proofs.Common.{◌≡◌, ap, sym, subst, ◌∙◌, arith}
use Rattle.sb_ctx.specs.View.{HoldsPart, edits_of, stored}
use Rattle.sb_drive.specs.Slots.{Slots, owned}
use Rattle.sb_memory.specs.Contents.{slots}
use Rattle.sb_memory.proofs.in_memory.MemoryPageSpace.store.Goals as goal

pub returns-clause-pages : goal.returns-clause-pages
returns-clause-pages c = λ want s has part.
    let owner = c.args.owner in
    let new = slots c.store.new.memory.now in
    record {
      slots = new;
      has = c.are_pages.ensures.has;
      others = λ o other. c.in_ok-store.ensures.others.others o other ∙ ap (λ (f : Slots). owned f o) (sym has.are);
      own = subst (λ (f : Slots). owned new owner ≡ stored c.args.ctx.now (owned f owner)) (sym has.are) (c.in_ok-store.ensures.pages (subst (λ (f : Slots). HoldsPart c.args.ctx.now (owned f owner)) has.are part));
    }

pub returns-clause-leads : goal.returns-clause-leads
returns-clause-leads c = record {
  changes = edits_of c.args.ctx.now;
  within = omega arith;
  leads = record { grows = c.in_ok-store.ensures.others.grows; none = c.in_ok-store.ensures.none };
}
