use Rattle.std.proofs.Common.{arith}
use Rattle.sb_log.specs.Rec.{record_of}
use Rattle.sb_txn.proofs.LogLemmas.{IsShort-record}
use Rattle.sb_txn.proofs.logging.len_of.Goals as goal

pub returns-clause-some : goal.returns-clause-some
returns-clause-some c = let short = IsShort-record (record_of c.args.r.now) c.requires in let some = short.some in omega (arith, c.rec_len.ensures)

pub returns-clause-most : goal.returns-clause-most
returns-clause-most c = let short = IsShort-record (record_of c.args.r.now) c.requires in let most = short.most in omega (arith, c.rec_len.ensures)
