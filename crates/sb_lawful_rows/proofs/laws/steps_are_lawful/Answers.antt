use Rattle.sb_lawful_rows.proofs.Stepping.{rows-step, commits-step, others-step, refused-leave}
use Rattle.sb_lawful_rows.proofs.laws.steps_are_lawful.Goals as goal

pub returns-clause-rows : goal.returns-clause-rows
returns-clause-rows c = rows-step

pub returns-clause-commits : goal.returns-clause-commits
returns-clause-commits c = commits-step

pub returns-clause-others : goal.returns-clause-others
returns-clause-others c = others-step

pub returns-clause-refused : goal.returns-clause-refused
returns-clause-refused c = refused-leave
