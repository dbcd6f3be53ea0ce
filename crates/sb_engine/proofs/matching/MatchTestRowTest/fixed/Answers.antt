use Rattle.std.specs.Option.{option_copied}
use Rattle.sb_engine.proofs.MatchingLemmas.{const_at-fixed}
use Rattle.sb_engine.proofs.matching.MatchTestRowTest.fixed.Goals as goal

pub returns : goal.returns
returns c = const_at-fixed c.args.self.now.schema.now c.args.self.now.pairs.now c.args.name.now (option_copied c.const_at.result) c.const_at.ensures
