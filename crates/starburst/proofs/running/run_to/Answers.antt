use Rattle.starburst.proofs.running.run_to.Goals as goal

pub returns-in-Ok-clause-run : goal.returns-in-Ok-clause-run
returns-in-Ok-clause-run g c = c.run_boxes.ensures.run _ c.in-Ok.ensures.meant

pub returns-clause-run : goal.returns-clause-run
returns-clause-run g c = c.run_boxes-in-Err.ensures.run _ c.in-Err.ensures.err
