use Rattle.std.proofs.Common.{rules, ◌≡◌, ◌<◌, sym, ◌∙◌, ap}
use Rattle.std.specs.Prelude.{slice_set}
use Rattle.sb_recover.specs.FirstPages.{table_len}
use Rattle.sb_recover.proofs.FirstPageLemmas.{first_page-table, first_page-leaf, first_page-free, set-free_page}
use Rattle.sb_recover.proofs.first_pages.fill_first.Goals as goal

pub returns-then-p-table : goal.returns-then-p-table
returns-then-p-table c =
    let lt : c.args.p < table_len c.args.pages = search rules in
    c.fill_table.ensures ∙ sym (first_page-table c.args.pages c.args.p lt)

pub returns-then-p-table-2 : goal.returns-then-p-table-2
returns-then-p-table-2 c =
    let is : c.args.p ≡ table_len c.args.pages = search rules in
    ap (λ l. slice_set l 0 2) c.fill_free.ensures ∙ set-free_page ∙ sym (first_page-leaf c.args.pages c.args.p is)

pub returns-else-p-table-2 : goal.returns-else-p-table-2
returns-else-p-table-2 c =
    let table = c.div_ceil-table.ensures in
    let above = c.if-p-table.false in
    let other = c.if-p-table-2.false in
    let gt : table_len c.args.pages < c.args.p = search rules in
    c.fill_free.ensures ∙ sym (first_page-free c.args.pages c.args.p gt)
