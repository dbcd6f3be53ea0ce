use Rattle.std.proofs.Common.{◌≡◌, length, rules}
use Rattle.sb_tokens.specs.Rows.{tokens_of}
use Rattle.sb_reader.proofs.Whole.{short_enough, fault_only, fault_place, left_first, left_only, all_read, whole_found, only_read}
use Rattle.sb_reader.proofs.reading.ended.Goals as goal

-- ---- all is read
pub returns-then-is_empty-clause-found : goal.returns-then-is_empty-clause-found
returns-then-is_empty-clause-found c =
    let z : length c.args.rest.now ≡ 0 = search rules in
    whole_found (tokens_of c.args.tokens.now) c.args.command (all_read (tokens_of c.args.tokens.now) c.args.rest.now c.args.command c.requires z)

pub returns-then-is_empty-clause-only : goal.returns-then-is_empty-clause-only
returns-then-is_empty-clause-only c = λ d s.
    let z : length c.args.rest.now ≡ 0 = search rules in
    only_read (tokens_of c.args.tokens.now) d c.args.command (all_read (tokens_of c.args.tokens.now) c.args.rest.now c.args.command c.requires z) s

-- ---- something is left
pub misfit_of_last-requires : goal.misfit_of_last-requires
misfit_of_last-requires c = short_enough c.args.tokens.now c.args.rest.now (left_first (tokens_of c.args.tokens.now) c.args.rest.now c.args.command c.requires (search rules))

pub returns-clause-only : goal.returns-clause-only
returns-clause-only c = λ d s.
    fault_only c.args.tokens.now (length c.args.rest.now) c.misfit_of_last.result d c.misfit_of_last.ensures
    (left_only (tokens_of c.args.tokens.now) c.args.rest.now d c.args.command c.requires (search rules)) s

pub returns-clause-fault : goal.returns-clause-fault
returns-clause-fault c =
    fault_place c.args.tokens.now c.args.rest.now c.misfit_of_last.result c.misfit_of_last.ensures
    (left_first (tokens_of c.args.tokens.now) c.args.rest.now c.args.command c.requires (search rules))
