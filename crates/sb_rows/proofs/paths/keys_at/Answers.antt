use Rattle.std.proofs.Common.{◌∙◌, map, sym, ap}
use Rattle.sb_relation.specs.Db.{Rows}
use Rattle.sb_rows.proofs.paths.keys_at.Goals as goal

pub returns-clause-keys : goal.returns-clause-keys
returns-clause-keys g c = λ want s rows has h. c.in_ok-keys.ensures ∙ ap (λ (l : Rows). map (λ row. row.0) l) (sym (c.in_ok-row.ensures.row want s rows has h))
