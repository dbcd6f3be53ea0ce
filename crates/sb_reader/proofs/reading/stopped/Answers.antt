use Rattle.std.proofs.Common.{length}
use Rattle.sb_tokens.specs.Rows.{tokens_of}
use Rattle.sb_reader.specs.Commands.{command_at}
use Rattle.sb_reader.proofs.Whole.{short_enough, fault_first, fault_only, fault_place, no_fault, misread}
use Rattle.sb_reader.proofs.reading.stopped.Goals as goal

pub misfit_of_last-requires : goal.misfit_of_last-requires
misfit_of_last-requires c = short_enough c.args.tokens.now c.in-Misfit.rest.now (fault_first (tokens_of c.args.tokens.now) (tokens_of c.in-Misfit.rest.now) (misread c.args.fault c.in-Misfit.rest (command_at (tokens_of c.args.tokens.now)) c.in-Misfit.is c.requires))

pub returns-in-Misfit-clause-only : goal.returns-in-Misfit-clause-only
returns-in-Misfit-clause-only c = λ d s.
    fault_only c.args.tokens.now (length c.in-Misfit.rest.now) c.misfit_of_last.result d c.misfit_of_last.ensures (no_fault (tokens_of c.args.tokens.now) (tokens_of c.in-Misfit.rest.now) d (misread c.args.fault c.in-Misfit.rest (command_at (tokens_of c.args.tokens.now)) c.in-Misfit.is c.requires)) s

pub returns-in-Misfit-clause-fault : goal.returns-in-Misfit-clause-fault
returns-in-Misfit-clause-fault c =
    fault_place c.args.tokens.now c.in-Misfit.rest.now c.misfit_of_last.result c.misfit_of_last.ensures (fault_first (tokens_of c.args.tokens.now) (tokens_of c.in-Misfit.rest.now) (misread c.args.fault c.in-Misfit.rest (command_at (tokens_of c.args.tokens.now)) c.in-Misfit.is c.requires))
