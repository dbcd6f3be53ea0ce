use Rattle.std.proofs.Common.{rules}
use Rattle.sb_method_tests.proofs.rows.letters.Goals as goal

pub returns : goal.returns
returns g c = record { is = c.instance.ensures.heap; columns = search rules }
