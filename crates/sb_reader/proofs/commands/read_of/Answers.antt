use Rattle.sb_tokens.specs.Rows.{tokens_of}
use Rattle.sb_reader.proofs.VerbsRead.{same_of}
use Rattle.sb_reader.proofs.commands.read_of.Goals as goal

pub returns : goal.returns
returns c = rw (same_of c.args.verb (tokens_of c.args.tokens.now)) c.read_keyed.ensures
