use Rattle.std.proofs.Common.{◌∙◌, None, Ok, Err, ap}
use Rattle.std.specs.List.{filter}
use Rattle.sb_drive.proofs.SpacesLemmas.{IfErr-passed}
use Rattle.sb_rows.proofs.CallsLemmas.{Looks-later, Looks-made, Looks-passed}
use Rattle.sb_relation.specs.Db.{Key}
use Rattle.sb_reads.specs.Entries.{is_within}
use Rattle.sb_reads.proofs.EntriesLemmas.{within-all}
use Rattle.sb_reads.proofs.entries.image_of.Goals as goal

pub returns-in_err-sums-clause-undamaged : goal.returns-in_err-sums-clause-undamaged
returns-in_err-sums-clause-undamaged g c =
    IfErr-passed c.from_residual-in_err-sums.result c.in_err-sums.field-0.0 _ c.from_residual-in_err-sums.ensures.1
    (λ want s kept content has is. c.in_err-sums.ensures.undamaged want s kept content (c.in_ok-entries.ensures.looks.same want s has) is)

pub returns-clause-entries : goal.returns-clause-entries
returns-clause-entries g c = λ want s kept content has is.
    let all = c.in_ok-entries.ensures.entries want s kept content has is ∙ ap (λ (low : Key). filter (is_within low None) content.entries) c.least_code-low.ensures ∙ within-all content.entries in
    cc

pub returns-clause-sums : goal.returns-clause-sums
returns-clause-sums g c = λ want s kept content has is. c.in_ok-sums.ensures.sums want s kept content (c.in_ok-entries.ensures.looks.same want s has) is

pub returns-in_err-sums-clause-looks : goal.returns-in_err-sums-clause-looks
returns-in_err-sums-clause-looks g c =
    let fault = c.in_err-sums.field-0.0 in
    Looks-passed g.S.PageSpace.has g.S.PageSpace.leads g.S.PageSpace.fails c.args.space.now c.sums_of.new.space c.from_residual-in_err-sums.result fault c.from_residual-in_err-sums.ensures.1
    (Looks-later g.S.PageSpace.has g.S.PageSpace.leads g.S.PageSpace.fails c.args.space.now c.entries_within.new.space c.sums_of.new.space (Err fault) g.met.S.PageSpace.goes_on g.met.S.PageSpace.fails_on c.in_ok-entries.ensures.looks.leads c.in_ok-entries.ensures.looks.same c.in_err-sums.ensures.looks)

pub returns-clause-looks : goal.returns-clause-looks
returns-clause-looks g c =
    Looks-made g.S.PageSpace.has g.S.PageSpace.leads g.S.PageSpace.fails c.args.space.now c.sums_of.new.space c.in_ok-sums.sums _
    (Looks-later g.S.PageSpace.has g.S.PageSpace.leads g.S.PageSpace.fails c.args.space.now c.entries_within.new.space c.sums_of.new.space (Ok c.in_ok-sums.sums) g.met.S.PageSpace.goes_on g.met.S.PageSpace.fails_on c.in_ok-entries.ensures.looks.leads c.in_ok-entries.ensures.looks.same c.in_ok-sums.ensures.looks)
