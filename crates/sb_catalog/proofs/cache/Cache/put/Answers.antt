use Rattle.std.proofs.Common.{bytes_eq}
use Rattle.std.specs.Cmp.Lexicographic.{nat_list_eq_equiv}
use Rattle.lru.proofs.CallerLemmas.{lookup-put_entries}
use Rattle.sb_catalog.proofs.cache.Cache.put.Goals as goal

pub returns-in-Ok-clause-found : goal.returns-in-Ok-clause-found
returns-in-Ok-clause-found c =
    rw c.in-Ok.ensures.entries (lookup-put_entries bytes_eq c.self.inside.pairs c.args.name c.args.descriptor nat_list_eq_equiv)
