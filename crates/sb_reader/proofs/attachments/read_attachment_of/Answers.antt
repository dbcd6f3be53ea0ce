use Rattle.sb_tokens.specs.Rows.{tokens_of}
use Rattle.sb_reader.proofs.RulesRead.{same_of}
use Rattle.sb_reader.proofs.attachments.read_attachment_of.Goals as goal

pub returns : goal.returns
returns c = rw (same_of c.args.kind (tokens_of c.args.tokens.now)) c.read_attached.ensures
