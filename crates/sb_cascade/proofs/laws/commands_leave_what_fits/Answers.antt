use Rattle.sb_cascade.proofs.Attaching.{attached-may-stand, detached-may-stand, created-may-stand}
use Rattle.sb_cascade.proofs.Commanding.{attaching-stays, detaching-stays, creating-stays}
use Rattle.sb_cascade.proofs.laws.commands_leave_what_fits.Goals as goal

pub returns-clause-attaching : goal.returns-clause-attaching
returns-clause-attaching c = attaching-stays

pub returns-clause-detaching : goal.returns-clause-detaching
returns-clause-detaching c = detaching-stays

pub returns-clause-creating : goal.returns-clause-creating
returns-clause-creating c = creating-stays

pub returns-clause-attached : goal.returns-clause-attached
returns-clause-attached c = attached-may-stand

pub returns-clause-detached : goal.returns-clause-detached
returns-clause-detached c = detached-may-stand

pub returns-clause-created : goal.returns-clause-created
returns-clause-created c = created-may-stand
