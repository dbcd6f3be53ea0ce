use Rattle.sb_plain.proofs.LawfulLemmas.{others-lawful, refused-lawful, commits-lawful}
use Rattle.sb_plain.proofs.RowStepLemmas.{rows-lawful}
use Rattle.sb_plain.proofs.laws.lawful_states_lead_on.Goals as goal

pub returns-clause-others : goal.returns-clause-others
returns-clause-others c = others-lawful

pub returns-clause-refused : goal.returns-clause-refused
returns-clause-refused c = refused-lawful

pub returns-clause-commits : goal.returns-clause-commits
returns-clause-commits c = commits-lawful

pub returns-clause-rows : goal.returns-clause-rows
returns-clause-rows c = rows-lawful
