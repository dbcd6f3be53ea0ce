use Rattle.sb_printer.proofs.Lines.{text_is_line, text_is_item}
use Rattle.sb_printer.proofs.laws.text_is_a_line.Goals as goal

pub returns-clause-spelled : goal.returns-clause-spelled
returns-clause-spelled c = text_is_line

pub returns-clause-said : goal.returns-clause-said
returns-clause-said c = text_is_item
