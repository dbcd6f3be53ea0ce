use Rattle.std.proofs.Common.{refl, ◌∙◌}
use Rattle.sb_journal.proofs.FieldLemmas.{with_number-to_be_bytes}
use Rattle.sb_journal.proofs.sealing.spelling.Goals as goal

pub returns : goal.returns
returns c = c.put_u32.ensures ∙ with_number-to_be_bytes _ c.args.len refl
