use Rattle.std.proofs.Common.{◌≡◌, IfOk, sym, subst}
use Rattle.sb_plain.specs.declared.command.Command.{Command}
use Rattle.sb_plain.specs.Printing.{command_text}
use Rattle.sb_showing.specs.Lines.{IsStorableCommand}
use Rattle.sb_showing.proofs.LinesLemmas.{IsStorableCommand-attachment}
use Rattle.sb_showing.proofs.lines.attachment_line.Goals as goal

pub line_of-line-requires : goal.line_of-line-requires
line_of-line-requires c = record { storable = subst IsStorableCommand (sym c.in_ok-command.ensures) (IsStorableCommand-attachment c.args.relation.now c.args.attached.now c.utf8.relation c.requires.storable) }

pub returns : goal.returns
returns c = subst (λ (x : Command). IfOk c.line_of-line.result (λ line. line ≡ command_text x)) c.in_ok-command.ensures c.line_of-line.ensures
