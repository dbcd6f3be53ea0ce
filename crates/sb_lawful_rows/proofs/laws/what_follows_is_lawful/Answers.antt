use Rattle.sb_lawful_rows.proofs.Changing.{changes-end, actions-end}
use Rattle.sb_lawful_rows.proofs.laws.what_follows_is_lawful.Goals as goal

pub returns-clause-changes : goal.returns-clause-changes
returns-clause-changes c = changes-end

pub returns-clause-actions : goal.returns-clause-actions
returns-clause-actions c = actions-end
