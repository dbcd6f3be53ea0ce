use Rattle.std.proofs.Common.{◌≡◌, ℕ, List, ◌++◌, IsUtf8, sym, ap, subst, ◌∙◌}
use Rattle.sb_plain.specs.Printing.{command_text}
use Rattle.sb_showing.proofs.PrintingLemmas.{command-utf8}
use Rattle.sb_showing.proofs.lines.line_of.Goals as goal

pub unwrap-line-requires : goal.unwrap-line-requires
unwrap-line-requires c =
    let printed : c.as_slice.result.now ≡ command_text c.args.command.now = c.as_slice.ensures ∙ c.in_ok-print_command.ensures.ok ∙ ap (λ (t : List ℕ). t ++ command_text c.args.command.now) c.new-text.ensures in
    c.in_ok-from_utf8.ensures.found.1 (subst IsUtf8 (sym printed) (command-utf8 c.args.command.now c.requires.storable))

pub returns : goal.returns
returns c =
    let printed : c.as_slice.result.now ≡ command_text c.args.command.now = c.as_slice.ensures ∙ c.in_ok-print_command.ensures.ok ∙ ap (λ (t : List ℕ). t ++ command_text c.args.command.now) c.new-text.ensures in
    let same : c.unwrap-line.result ≡ c.as_slice.result.now = rw c.unwrap-line.ensures at c.in_ok-from_utf8.ensures.same in
    same ∙ printed
