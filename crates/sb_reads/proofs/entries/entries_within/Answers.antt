use Rattle.std.proofs.Common.{◌∙◌, Ok, sym}
use Rattle.sb_drive.proofs.SpacesLemmas.{IfErr-passed}
use Rattle.sb_drive.specs.Slots.{owned}
use Rattle.sb_rows.proofs.CallsLemmas.{Looks-later, Looks-made, Looks-no_memory}
use Rattle.sb_reads.proofs.EntriesLemmas.{IsRead-beyond, IsRead-end, IsRead-next, IsRead-none}
use Rattle.sb_reads.proofs.entries.entries_within.Goals as goal

pub entries-init : goal.entries-init
entries-init g c = record {
  ready = c.requires.ready;
  leads = g.met.S.PageSpace.stays c.args.space.now;
  has = λ want s has. has;
  read = λ want s kept content has is. IsRead-none _ _ _ _ c.new-found.ensures.items;
}

pub returns-in_err-entry-clause-undamaged : goal.returns-in_err-entry-clause-undamaged
returns-in_err-entry-clause-undamaged g c =
    IfErr-passed c.from_residual.result c.in_err-entry.field-0.0 _ c.from_residual.ensures.1 (λ want s kept content has is. c.in_err-entry.ensures.undamaged want s kept content (c.entries.invariant.has want s has) is)

pub returns-in_default-clause-entries : goal.returns-in_default-clause-entries
returns-in_default-clause-entries g c = λ want s kept content has is.
    let before = c.entries.invariant in
    let next = c.in_ok-entry.ensures.entry want s kept content (before.has want s has) is in
    IsRead-end _ _ content.entries c.entries.last c.entries.found.items (sym next ∙ c.in_default.is) (before.read want s kept content has is)

pub returns-then-is_beyond-clause-entries : goal.returns-then-is_beyond-clause-entries
returns-then-is_beyond-clause-entries g c = λ want s kept content has is.
    let before = c.entries.invariant in
    let next = c.in_ok-entry.ensures.entry want s kept content (before.has want s has) is in
    let rising = (is.law.formed c.args.inst.now (owned s c.args.inst.now.owner) content is.holds).rising in
    IsRead-beyond _ _ content.entries c.entries.last c.entries.found.items c.in-Some.entry rising (sym next ∙ c.in-Some.is) (sym c.is_beyond.ensures ∙ c.if-is_beyond.true) (before.read want s kept content has is)

pub returns-then-is_beyond-clause-looks : goal.returns-then-is_beyond-clause-looks
returns-then-is_beyond-clause-looks g c =
    Looks-made g.S.PageSpace.has g.S.PageSpace.leads g.S.PageSpace.fails c.args.space.now c.next_entry.new.space c.in_ok-entry.field-0 _
    (Looks-later g.S.PageSpace.has g.S.PageSpace.leads g.S.PageSpace.fails c.args.space.now c.entries.space c.next_entry.new.space (Ok c.in_ok-entry.field-0) g.met.S.PageSpace.goes_on g.met.S.PageSpace.fails_on c.entries.invariant.leads c.entries.invariant.has c.in_ok-entry.ensures.looks)

pub returns-in_err-copy_entry-clause-looks : goal.returns-in_err-copy_entry-clause-looks
returns-in_err-copy_entry-clause-looks g c =
    let looks = c.in_ok-entry.ensures.looks in
    Looks-no_memory g.S.PageSpace.has g.S.PageSpace.leads g.S.PageSpace.fails c.args.space.now c.next_entry.new.space c.from_residual-in_err-copy_entry.result c.from_residual-in_err-copy_entry.ensures.1
    (g.met.S.PageSpace.goes_on 0 0 c.args.space.now c.entries.space c.next_entry.new.space c.entries.invariant.leads looks.leads) (λ want s has. looks.same want s (c.entries.invariant.has want s has))

pub returns-in_err-add_entry-clause-looks : goal.returns-in_err-add_entry-clause-looks
returns-in_err-add_entry-clause-looks g c =
    let looks = c.in_ok-entry.ensures.looks in
    Looks-no_memory g.S.PageSpace.has g.S.PageSpace.leads g.S.PageSpace.fails c.args.space.now c.next_entry.new.space c.from_residual-in_err-add_entry.result c.from_residual-in_err-add_entry.ensures.1
    (g.met.S.PageSpace.goes_on 0 0 c.args.space.now c.entries.space c.next_entry.new.space c.entries.invariant.leads looks.leads) (λ want s has. looks.same want s (c.entries.invariant.has want s has))

pub entries-preserved : goal.entries-preserved
entries-preserved g c =
    let before = c.entries.invariant in
    let looks = c.in_ok-entry.ensures.looks in
    record {
      ready = c.in_ok-entry.ensures.ready;
      leads = g.met.S.PageSpace.goes_on 0 0 c.args.space.now c.entries.space c.next_entry.new.space before.leads looks.leads;
      has = λ want s has. looks.same want s (before.has want s has);
      read = λ want s kept content has is.
          let next = c.in_ok-entry.ensures.entry want s kept content (before.has want s has) is in
          let rising = (is.law.formed c.args.inst.now (owned s c.args.inst.now.owner) content is.holds).rising in
          let read = IsRead-next _ _ content.entries c.entries.last c.entries.found.items c.add_entry.new.found.items c.in-Some.entry rising (sym next ∙ c.in-Some.is) (sym c.is_beyond.ensures ∙ c.if-is_beyond.false)
          c.in_ok-add_entry.ensures (before.read want s kept content has is) in
          rw c.in_ok-copy_entry.ensures read;
    }
