use Rattle.std.proofs.Common.{sym, ◌∙◌, arith}
use Rattle.sb_node.proofs.Runs.{not_long, not_roomy, formed}
use Rattle.sb_node.proofs.head.has_form_of.Goals as goal

pub returns-then-page-ne-PAGE_LEN : goal.returns-then-page-ne-PAGE_LEN
returns-then-page-ne-PAGE_LEN c = sym (not_long c.args.page.now c.if-page-ne-PAGE_LEN.true)

pub returns-then-used-gt-CAPACITY : goal.returns-then-used-gt-CAPACITY
returns-then-used-gt-CAPACITY c = sym (not_roomy c.args.page.now (omega (arith, c.get_u16-used.ensures)))

pub returns : goal.returns
returns c = c.fills.ensures ∙ rw (c.get_u16-used.ensures, c.get_u16.ensures) (formed c.args.page.now c.if-page-ne-PAGE_LEN.false (omega (arith, c.get_u16-used.ensures)))
