use Rattle.std.proofs.Common.{◌≡◌, false, length}
use Rattle.std.proofs.lemmas.Bool.{le-ltb}
use Rattle.sb_tokens.specs.Rows.{IsRow}
use Rattle.sb_grammar.specs.Columns.{is_long}
use Rattle.sb_reader.proofs.Faults.{read_whole, read_fault}
use Rattle.sb_reader.proofs.line.parse_line.Goals as goal

pub returns-in-Ok : goal.returns-in-Ok
returns-in-Ok c =
    let short : is_long c.args.line.now ≡ false = le-ltb 4096 (length c.args.line.now) c.if-line-gt-LINE_LIMIT.false in
    let row : IsRow c.args.line.now c.deref.result.now c.in_ok-row.row.ending = rw c.deref.ensures.value c.in_ok-row.ensures in
    record { read = read_whole c.args.line.now c.deref.result.now c.in_ok-row.row.ending c.in-Ok.command c.unless_stuck.result short row c.in-Ok.ensures.found c.unless_stuck.ensures }

pub returns : goal.returns
returns c =
    let short : is_long c.args.line.now ≡ false = le-ltb 4096 (length c.args.line.now) c.if-line-gt-LINE_LIMIT.false in
    let row : IsRow c.args.line.now c.deref.result.now c.in_ok-row.row.ending = rw c.deref.ensures.value c.in_ok-row.ensures in
    record { read = read_fault c.args.line.now c.deref.result.now c.in_ok-row.row.ending c.in-Err.fault c.line_fault.result short row c.in-Err.ensures.fault c.line_fault.ensures }
