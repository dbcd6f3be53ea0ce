use Rattle.std.proofs.Common.{◌≡◌, ap, refl, sym, ◌∙◌}
use Rattle.std.specs.Str.{bytes_eq}
use Rattle.sb_value.specs.Equal.{bytes_same}
use Rattle.sb_btree.specs.Leaves.{entry_in}
use Rattle.sb_treemethod.proofs.Entries.{entry_of_row, misplaced_entry, row_read}
use Rattle.sb_treemethod.proofs.walks.found_row.Goals as goal

pub returns-in-Ok : goal.returns-in-Ok
returns-in-Ok c =
    let inst = c.args.inst.now in
    let e = entry_in c.args.entry in
    let same : c.in-Ok.key ≡ c.args.entry.key = (bytes_same c.in-Ok.key c.args.entry.key).0 (sym c.eq.ensures ∙ c.if-eq.true) in
    (same, sym (row_read c.args.row e.1 c.requires.row c.requires.spelled), entry_of_row inst.schema inst.key c.args.row e c.requires.row (sym same ∙ c.in-Ok.ensures) c.requires.spelled c.requires.short)

pub returns-in-Ok-2 : goal.returns-in-Ok-2
returns-in-Ok-2 c =
    let inst = c.args.inst.now in
    (refl, misplaced_entry inst.schema inst.key c.args.row (entry_in c.args.entry) c.requires.row c.requires.spelled (ap (λ key. bytes_eq key c.args.entry.key) (sym c.in-Ok.ensures) ∙ sym c.eq.ensures ∙ c.if-eq.false))
